-- The contract of `runs` leaves no choice.
use Rattle.std.specs.Prelude.{ℕ, ◌≡◌, refl, Option, Some, None, Result, Ok, Err, ℤ}
use Rattle.std.proofs.Common.{ap}
use Rattle.refusal.specs.Refusals.{number_one}
use Rattle.refusal.specs.Answer.{Answer, refused, full_one, said_of}
use Rattle.refusal.specs.declared.Refusal.{Refusal}
use Rattle.clock_day.specs.Day.{Day, day_said}

day_one : (x y : Option ℤ) → day_said x ≡ day_said y → x ≡ y
day_one (Some z) (Some w) e = cc
day_one (Some z) None e = cc
day_one None (Some w) e = cc
day_one None None e = refl

refused_one : {j k : ℕ} → ◌≡◌ {A = Answer Day} (refused j) (refused k) → j ≡ k
refused_one e = cc

pub run_one : (x y : Result (Option ℤ) Refusal) → said_of day_said x ≡ said_of day_said y → x ≡ y
run_one (Err r) (Err s) e = ap Err (number_one r s (refused_one e))
run_one (Err r) (Ok y) e = cc
run_one (Ok x) (Err s) e = cc
run_one (Ok x) (Ok y) e = ap Ok (day_one x y (full_one e))
