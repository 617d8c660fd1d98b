-- What is known of a signed number where it was tested to be negative or not: of what a read answered.
use Rattle.std.specs.Prelude.{◌≡◌, false, ℤ, pos, negsuc, nat_abs, T}
use Rattle.std.proofs.Common.{lt_of_le_of_lt, lit<, Fits, SFits}
use Rattle.std.specs.Int.Signed.{non_neg, lt_z, nat_abs-le}
use Rattle.std.specs.Int.{w64}
use Rattle.refusal.specs.Test.{clash}

pub answer_fits : (z : ℤ) → SFits w64 z → Fits w64 (nat_abs z)
answer_fits z f = record { fits = lt_of_le_of_lt (nat_abs-le z f.sfits) (lit< tt) }

pub not_below : (z : ℤ) → lt_z z (pos 0) ≡ false → T (non_neg z)
not_below (pos n) h = tt
not_below (negsuc n) h = clash (cc)
