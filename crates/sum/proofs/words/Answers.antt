use Prim.Native.Nat.{ℕ, ◌+◌, ◌-◌}
use mathlib.Core.List.{List}
use lib.Bits.{bit_xor}
use native.Mathlib.Omega.{arith}
use borrow.Author.Rules.{rules}
use Rattle.sum.specs.Bytes.{Bytes}
use Rattle.sum.specs.Folds.{lanes_both}
use Rattle.sum.proofs.words.Goals as goal

pub loop-i-preserved : goal.loop-i-preserved
loop-i-preserved c =
    let l = c.loop-i in
    let i : ℕ = l.i in
    let s : List ℕ = c.args.s.now in
    let b : Bytes s = record { byte = λ j. omega (arith, c.shared_slice_known-1.given j) } in
    let x : ℕ = c.word.result in
    let y : ℕ = c.word-in-loop-i-2.result in (
      search rules,
      search rules,
      lanes_both
          8
          8
          (i + 16)
          (i + 24)
          (i + 32)
          (bit_xor l.w x)
          (bit_xor l.v y)
          _
          _
          s
          b
          (omega arith)
          (omega arith)
          (omega arith)
          c.word-in-loop-i.ensures
          c.word-in-loop-i-3.ensures
          (lanes_both
          8
          8
          i
          (i + 8)
          (i + 16)
          l.w
          l.v
          x
          y
          s
          b
          (omega arith)
          (omega arith)
          (omega arith)
          c.word.ensures
          c.word-in-loop-i-2.ensures
          l.invariant.2),
    )
