-- A rule over four places, where the places not named hold 0: the tests of the named ones are left.
use Rattle.std.specs.Prelude.{◌≡◌, refl, Bool, true, false, ◌&&◌}
use Rattle.std.proofs.Common.{◌∙◌}
use Rattle.std.proofs.Math.Bool.{and-true}

-- the first place alone
pub alone : (t : Bool) → t && true && true && true ≡ t
alone t = and-true (t && true && true) ∙ and-true (t && true) ∙ and-true t

-- the first and the last, the first and the next
pub with_last : (t u : Bool) → t && true && true && u ≡ t && u
with_last true u = refl
with_last false u = refl

pub with_next : (t u : Bool) → t && u && true && true ≡ t && u
with_next t u = and-true (t && u && true) ∙ and-true (t && u)
