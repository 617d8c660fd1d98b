use Prim.Native.Nat.{ℕ, ◌-◌}
use mathlib.Core.Path.{◌∙◌}
use mathlib.Core.List.{List}
use lib.ListN.{length}
use native.Mathlib.Omega.{arith}
use Rattle.sum.specs.Bytes.{Bytes}
use Rattle.sum.specs.Folds.{low_rest, lanes_first, lanes_rest}
use Rattle.sum.proofs.small.Goals as goal

pub returns : goal.returns
returns c =
    let s : List ℕ = c.args.s.now in
    let b : Bytes s = record { byte = λ i. omega (arith, c.shared_slice_known-1.given i) } in
    c.fold.ensures
    ∙ lanes_rest 8 4 _ _ s b (omega arith)
    (low_rest 4 (length s - 4) (8 - length s) 4 _ s b (omega arith) (omega arith) c.half-2.ensures)
    (lanes_first 8 4 _ s b (omega arith) c.half.ensures)
