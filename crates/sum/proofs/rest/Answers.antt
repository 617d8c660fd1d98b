use Prim.Native.Nat.{ℕ, ◌-◌}
use mathlib.Core.List.{List}
use lib.ListN.{length}
use native.Mathlib.Omega.{arith}
use Rattle.sum.specs.Bytes.{Bytes}
use Rattle.sum.specs.Folds.{low_rest}
use Rattle.sum.proofs.rest.Goals as goal

pub returns : goal.returns
returns c =
    let e : ℕ = c.args.e in
    let s : List ℕ = c.args.s.now in
    let b : Bytes s = record { byte = λ i. omega (arith, c.shared_slice_known-1.given i) } in
    low_rest 8 (length s - 8) (8 - (length s - e)) e _ s b (omega arith) (omega arith) c.word.ensures
