use Prim.Native.Nat.{ℕ, ◌-◌, ◌*◌, ◌/◌}
use mathlib.Core.Path.{◌∙◌}
use mathlib.Core.List.{List}
use lib.ListN.{length}
use native.Mathlib.Omega.{arith}
use Rattle.sum.specs.Bytes.{Bytes}
use Rattle.sum.specs.Folds.{lanes_rest}
use Rattle.sum.proofs.long.Goals as goal

pub returns : goal.returns
returns c =
    let s : List ℕ = c.args.s.now in
    let b : Bytes s = record { byte = λ i. omega (arith, c.shared_slice_known-1.given i) } in
    let e : ℕ = (length s - 1) / 8 * 8 in
    c.fold.ensures ∙ lanes_rest 8 e _ _ s b (omega arith) c.rest.ensures c.words.ensures
