-- Document 01, "Four orders in reply data": "Scenes, gear and types are each handed back as one number of 16, 64 or 32 bits, whose
-- bit k stands for scene, gear or type k." Refusal 11: "reply data has not the size named above (2, 8, 4, ..)".
use Rattle.std.specs.Prelude.{ℕ, List, not, eqb, length}
use Rattle.refusal.specs.Answer.{Answer, full, demand}
use Rattle.maps.specs.Bit.{bit, how_many, lowest}
use Rattle.order.specs.Order.{Order, high_first, low_first, number_in}

-- the number of a run of n bytes in an order; another size is 11
abbrev pub map_of : Order → ℕ → List ℕ → Answer ℕ
map_of o n s = demand (eqb (length s) n) 11 (full (number_in o n s))

-- "Event mask: high byte first. Bit k stands for event type k."
abbrev pub mask_of : List ℕ → Answer ℕ
mask_of s = map_of high_first 2 s

-- "Scenes of a group (to 1A): 2 bytes, scenes 8–15 first, then 0–7."
abbrev pub scenes_of : List ℕ → Answer ℕ
scenes_of s = map_of high_first 2 s

-- "Gear present (to 1D): 8 bytes, byte 0 holds gear 0–7, lowest gear in the lowest bit."
abbrev pub gear_of : List ℕ → Answer ℕ
gear_of s = map_of low_first 8 s

-- "Gear types (to AC): 4 bytes, low byte first."
abbrev pub types_of : List ℕ → Answer ℕ
types_of s = map_of low_first 4 s

-- of a map of w bits, "Asked for: how many types it names", "how many gear are present"
abbrev pub count_of : ℕ → ℕ → ℕ
count_of w x = how_many (bit x) w

-- "and the lowest", "the lowest address"; "lowest of an empty mask or map" is 12
abbrev pub lowest_of : ℕ → ℕ → Answer ℕ
lowest_of w x = demand (not (eqb x 0)) 12 (full (lowest (bit x) w))
