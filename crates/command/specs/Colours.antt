-- Source 002, "DALI Colour Request Frame": the colour types, each with its channels and how many bytes each channel has.
--   XY 0x10: [X Hi byte] [X Lo byte] [Y Hi byte] [Y Lo byte]
--   TC 0x20: [TC Hi byte] [TC Lo byte]
--   RGBWAF 0x80: [Red] [Green] [Blue] [White] [Amber] [Free colour]
use Rattle.std.specs.Prelude.{ℕ, ◌+◌, Bool, List, [], ◌∷◌, ltb, eqb}
use Rattle.refusal.specs.Test.{pick}

abbrev pub xy_type : ℕ
xy_type = 0x10

abbrev pub tc_type : ℕ
tc_type = 0x20

abbrev pub rgbwaf_type : ℕ
rgbwaf_type = 0x80

-- the bytes of each channel, in the order in which they are sent; a type that is not listed has no channel
unfoldable pub widths_of : ℕ → List ℕ
widths_of k =
    pick (eqb k xy_type) (2 ∷ 2 ∷ [])
    (pick (eqb k tc_type) (2 ∷ [])
    (pick (eqb k rgbwaf_type) (1 ∷ 1 ∷ 1 ∷ 1 ∷ 1 ∷ 1 ∷ [])
    []))

abbrev pub total : List ℕ → ℕ
total [] = 0
total (w ∷ ws) = w + total ws

-- how many bytes of colour data a type has, and whether it is listed
unfoldable pub data_bytes : ℕ → ℕ
data_bytes k = total (widths_of k)

abbrev pub is_type : ℕ → Bool
is_type k = ltb 0 (data_bytes k)
