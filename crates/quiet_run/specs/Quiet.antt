-- Document 02, W-203: "A client also wants the profile applied to a finished outgoing byte run: yes exactly if, read as a request line and
-- closed, it gives only items 0 and each is inside the profile."
use Rattle.std.specs.Prelude.{ℕ, ◌+◌, Bool, true, ◌&&◌, List, [], ◌∷◌, length, eqb}
use Rattle.refusal.specs.Test.{pick}
use Rattle.frame.specs.Frame.{byte}
use Rattle.profile.specs.Profile.{is_inside}
use Rattle.stream.specs.Stream.{Item, reading, items}
use Rattle.extent.specs.declared.Line.TheVariants.{Request}
use Rattle.line.specs.Rule.{settle}

-- "only items 0 and each is inside the profile": the number is 0, and the command, which is the third byte, is inside
abbrev pub is_quiet : Item → Bool
is_quiet (reading k l) = eqb k 0 && is_inside (byte 2 l)

unfoldable pub all_quiet : List Item → Bool
all_quiet [] = true
all_quiet (i ∷ is) = is_quiet i && all_quiet is

-- "read as a request line and closed"
abbrev pub quiet_run : List ℕ → Bool
quiet_run s = all_quiet (items (settle Request) s)

-- the first item that is not so, where there is one: the place where it begins, its number, and how many bytes it has
pub data First : Type 0 where
  none : First
  loud : ℕ → ℕ → ℕ → First

unfoldable pub first_loud : ℕ → List Item → First
first_loud at [] = none
first_loud at (reading k l ∷ is) = pick (is_quiet (reading k l)) (first_loud (at + length l) is) (loud at k (length l))
