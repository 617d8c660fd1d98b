-- Document 01: "Event types 0, 1, 2, 6, 7 carry an instance number as first data byte, so they need n of at least 1. Types 0 to 9 have
-- the source's names. Types above 9 are accepted and keep their number, since the maker may append more."
use Rattle.std.specs.Prelude.{ℕ, Bool, Option, Some, None, ◌&&◌, ◌||◌, leb, eqb}
use Rattle.refusal.specs.Test.{pick}
use Rattle.event_type.specs.declared.EventType.{EventType}
use Rattle.event_type.specs.declared.EventType.TheVariants.{ButtonPress, ButtonHold, AbsoluteInput, LevelChange, GroupLevelChange}
use Rattle.event_type.specs.declared.EventType.TheVariants.{SceneChange, IsOccupied, IsUnoccupied, ColourChanged, ProfileChanged, Other}

-- a type in document 01's terms: its number, and whether it is given by the source's name or by the number alone
pub data Kind : Type 0 where
  by_name : ℕ → Kind
  by_number : ℕ → Kind

-- document 01's number and values for each case of a type, the numbers by source 002's table
abbrev pub said_type : EventType → Kind
said_type ButtonPress = by_name 0
said_type ButtonHold = by_name 1
said_type AbsoluteInput = by_name 2
said_type LevelChange = by_name 3
said_type GroupLevelChange = by_name 4
said_type SceneChange = by_name 5
said_type IsOccupied = by_name 6
said_type IsUnoccupied = by_name 7
said_type ColourChanged = by_name 8
said_type ProfileChanged = by_name 9
said_type (Other n) = by_number n

-- "Types 0 to 9 have the source's names. Types above 9 .. keep their number"
abbrev pub last_named : ℕ
last_named = 9

abbrev pub kind_of : ℕ → Kind
kind_of n = pick (leb n last_named) (by_name n) (by_number n)

-- the number of a type
abbrev pub kind_number : Kind → ℕ
kind_number (by_name n) = n
kind_number (by_number n) = n

abbrev pub type_number : EventType → ℕ
type_number t = kind_number (said_type t)

-- a type carries an instance number as first data byte
abbrev pub carries : ℕ → Bool
carries t = leb t 2 || eqb t 6 || eqb t 7

-- "an instance event with n = 0"
abbrev pub lacks : ℕ → ℕ → Bool
lacks t n = carries t && eqb n 0

-- the instance of an event of type t, whose first data byte b would be: the number that is carried, or none
abbrev pub instance_of : ℕ → ℕ → Option ℕ
instance_of t b = pick (carries t) (Some b) None
