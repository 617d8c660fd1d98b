-- A contract in document 01's words leaves no choice.
use Rattle.std.specs.Prelude.{ℕ, ◌≡◌, refl, Option, Some, None}
use Rattle.refusal.specs.Test.{clash}
use Rattle.stream.specs.Stream.{stands}
use Rattle.line.specs.declared.Item.{Item}
use Rattle.line.specs.Said.{said_at}

abbrev of_two : ℕ → ℕ → Option Item
of_two k m = Some (record { number = k; size = m })

two_one : {k m k' m' : ℕ} → stands k m ≡ stands k' m' → of_two k m ≡ of_two k' m'
two_one e = cc

pub at_one : (x y : Option Item) → said_at x ≡ said_at y → x ≡ y
at_one None None e = refl
at_one None (Some y) e = clash (cc)
at_one (Some x) None e = clash (cc)
at_one (Some x) (Some y) e = two_one e
