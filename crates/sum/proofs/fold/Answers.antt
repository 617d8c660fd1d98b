use Prim.Native.Nat.{ℕ, ◌/◌}
use mathlib.Core.Path.{sym, ◌∙◌}
use lib.Bits.{bit_xor, xor_zero_r}
use Rattle.sum.specs.Lanes.{lanes}
use Rattle.sum.specs.Folds.{lanes_fold}
use Rattle.sum.proofs.fold.Goals as goal

pub returns : goal.returns
unfolding lanes
returns c =
    let x : ℕ = c.args.x in
    let a : ℕ = bit_xor x (x / 4294967296) in
    let b : ℕ = bit_xor a (a / 65536) in
    sym (lanes_fold 4 x ∙ lanes_fold 2 a ∙ lanes_fold 1 b ∙ xor_zero_r _)
