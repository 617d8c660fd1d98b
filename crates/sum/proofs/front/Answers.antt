use Prim.Native.Nat.{ℕ}
use mathlib.Core.Path.{◌≡◌}
use mathlib.Core.List.{List}
use native.Mathlib.Omega.{arith}
use Rattle.sum.specs.Bytes.{Bytes}
use Rattle.sum.specs.Sum.{sum_from}
use Rattle.sum.specs.Folds.{lanes_none, lanes_first, lanes_more}
use Rattle.sum.proofs.front.Goals as goal

pub returns-then-e-lt8 : goal.returns-then-e-lt8
unfolding sum_from
returns-then-e-lt8 c =
    let e : ℕ = c.args.e in
    let z : e ≡ 0 = omega arith in
    rw z (lanes_none 8)

pub returns-then-e-lt16 : goal.returns-then-e-lt16
returns-then-e-lt16 c =
    let e : ℕ = c.args.e in
    let s : List ℕ = c.args.s.now in
    let b : Bytes s = record { byte = λ i. omega (arith, c.shared_slice_known-1.given i) } in
    let z : e ≡ 8 = omega arith in
    rw z (lanes_first 8 8 _ s b (omega arith) c.word.ensures)

pub returns-then-e-lt24 : goal.returns-then-e-lt24
returns-then-e-lt24 c =
    let e : ℕ = c.args.e in
    let s : List ℕ = c.args.s.now in
    let b : Bytes s = record { byte = λ i. omega (arith, c.shared_slice_known-1.given i) } in
    let z : e ≡ 16 = omega arith in
    rw z
    (lanes_more 8 8 8 16 _ _ s b (omega arith) (omega arith) c.word-then-e-lt24-2.ensures
    (lanes_first 8 8 _ s b (omega arith) c.word-then-e-lt24.ensures))

pub returns : goal.returns
returns c =
    let e : ℕ = c.args.e in
    let s : List ℕ = c.args.s.now in
    let b : Bytes s = record { byte = λ i. omega (arith, c.shared_slice_known-1.given i) } in
    let z : e ≡ 24 = omega arith in
    rw z
    (lanes_more 8 8 16 24 _ _ s b (omega arith) (omega arith) c.word-4.ensures
    (lanes_more 8 8 8 16 _ _ s b (omega arith) (omega arith) c.word-3.ensures
    (lanes_first 8 8 _ s b (omega arith) c.word-2.ensures)))
