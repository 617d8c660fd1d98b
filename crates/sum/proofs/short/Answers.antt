use Prim.Native.Nat.{ℕ}
use mathlib.Core.Path.{◌∙◌}
use mathlib.Core.List.{List}
use native.Mathlib.Omega.{arith}
use Rattle.sum.specs.Bytes.{Bytes}
use Rattle.sum.specs.Folds.{lanes_first, lanes_rest}
use Rattle.sum.proofs.short.Goals as goal

pub returns : goal.returns
returns c =
    let s : List ℕ = c.args.s.now in
    let b : Bytes s = record { byte = λ i. omega (arith, c.shared_slice_known-1.given i) } in
    c.fold.ensures
    ∙ lanes_rest 8 8 _ _ s b (omega arith) c.rest.ensures (lanes_first 8 8 _ s b (omega arith) c.word.ensures)
