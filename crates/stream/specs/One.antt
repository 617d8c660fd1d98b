-- A contract in the words of the rule leaves no choice.
use Rattle.std.specs.Prelude.{ℕ, ◌≡◌, refl, Option, Some, None}
use Rattle.refusal.specs.Test.{clash}
use Rattle.stream.specs.declared.Step.{Step}
use Rattle.stream.specs.Stream.{Settled}
use Rattle.stream.specs.Said.{said_step}

abbrev of_three : ℕ → ℕ → ℕ → Option Step
of_three k m d = Some (record { number = k; size = m; settled = d })

three_one : {k m d k' m' d' : ℕ} → Settled k m d ≡ Settled k' m' d' → of_three k m d ≡ of_three k' m' d'
three_one e = cc

pub step_one : (x y : Option Step) → said_step x ≡ said_step y → x ≡ y
step_one None None e = refl
step_one None (Some y) e = clash (cc)
step_one (Some x) None e = clash (cc)
step_one (Some x) (Some y) e = three_one e
