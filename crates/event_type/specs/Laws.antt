-- A type keeps its number; and the numbers and values of document 01 tell the answers apart, so that each contract leaves no choice.
use Rattle.std.specs.Prelude.{ℕ, ◌≡◌, refl, Bool, true, false, leb, eqb}
use Rattle.std.proofs.Common.{sym, ap, ◌∙◌}
use Rattle.refusal.specs.Test.{pick}
use Rattle.event_type.specs.Types.{Kind, by_name, by_number, said_type, last_named, kind_of, kind_number}
use Rattle.event_type.specs.declared.EventType.{EventType}
use Rattle.event_type.specs.declared.EventType.TheVariants.{ButtonPress, ButtonHold, AbsoluteInput, LevelChange, GroupLevelChange}
use Rattle.event_type.specs.declared.EventType.TheVariants.{SceneChange, IsOccupied, IsUnoccupied, ColourChanged, ProfileChanged, Other}

-- a type keeps its number
pub number_kept : (n : ℕ) → kind_number (kind_of n) ≡ n
number_kept n = go (leb n last_named)
  where
    go : (t : Bool) → kind_number (pick t (by_name n) (by_number n)) ≡ n
    go true = refl
    go false = refl

-- the case of a type in document 01's terms
abbrev type_by : Kind → EventType
type_by (by_number n) = Other n
type_by (by_name n) =
    pick (eqb n 0) ButtonPress
    (pick (eqb n 1) ButtonHold
    (pick (eqb n 2) AbsoluteInput
    (pick (eqb n 3) LevelChange
    (pick (eqb n 4) GroupLevelChange
    (pick (eqb n 5) SceneChange
    (pick (eqb n 6) IsOccupied
    (pick (eqb n 7) IsUnoccupied
    (pick (eqb n 8) ColourChanged
    ProfileChanged))))))))

type_back : (x : EventType) → type_by (said_type x) ≡ x
type_back ButtonPress = refl
type_back ButtonHold = refl
type_back AbsoluteInput = refl
type_back LevelChange = refl
type_back GroupLevelChange = refl
type_back SceneChange = refl
type_back IsOccupied = refl
type_back IsUnoccupied = refl
type_back ColourChanged = refl
type_back ProfileChanged = refl
type_back (Other n) = refl

pub type_one : (x y : EventType) → said_type x ≡ said_type y → x ≡ y
type_one x y e = sym (type_back x) ∙ ap type_by e ∙ type_back y
