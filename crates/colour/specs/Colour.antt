-- Document 02, W-202, and source 002, "Colour Data": "Depending on the Colour Type specify the values in bytes for each channel of the colour
-- type." One definition over the channels' widths, so over every colour type; crate command has the types and the widths.
use Rattle.std.specs.Prelude.{ℕ, ◌-◌, ◌^◌, Bool, true, false, ◌&&◌, List, [], ◌∷◌, ◌++◌, length, take, drop, replicate, ltb, eqb}
use Rattle.refusal.specs.Answer.{Answer, full, demand}
use Rattle.order.specs.Order.{high_first, number_in}
use Rattle.order.specs.Big.{big_bytes}
use Rattle.command.specs.Colours.{xy_type, tc_type, rgbwaf_type, widths_of, data_bytes, is_type}
use Rattle.colour.specs.declared.Colour.{Colour}
use Rattle.colour.specs.declared.Colour.TheVariants.{Xy, Tc, Rgbwaf}
use Rattle.colour.specs.declared.Data.{Data}

-- a colour: the number of its type, and the values of its channels in the order in which they are sent
pub data Hue : Type 0 where
  hue : ℕ → List ℕ → Hue

-- the number of a colour's type
abbrev pub type_of : Hue → ℕ
type_of (hue k vs) = k

-- the bytes of some values, each in as many as its channel has, high byte first
abbrev pub laid : List ℕ → List ℕ → List ℕ
laid [] vs = []
laid (w ∷ ws) [] = []
laid (w ∷ ws) (v ∷ vs) = big_bytes w v ++ laid ws vs

-- the values that some bytes hold
abbrev pub values_in : List ℕ → List ℕ → List ℕ
values_in [] s = []
values_in (w ∷ ws) s = number_in high_first w (take w s) ∷ values_in ws (drop w s)

-- each channel has a value, not too large for its bytes
abbrev pub fitting : List ℕ → List ℕ → Bool
fitting [] [] = true
fitting [] (v ∷ vs) = false
fitting (w ∷ ws) [] = false
fitting (w ∷ ws) (v ∷ vs) = ltb v (256 ^ w) && fitting ws vs

-- the colours: the type is listed, and each of its channels has a value
abbrev pub is_colour : Hue → Bool
is_colour (hue k vs) = is_type k && fitting (widths_of k) vs

-- a colour's data
abbrev pub data_in : Hue → List ℕ
data_in (hue k vs) = laid (widths_of k) vs

-- the colour of some data
abbrev pub hue_in : ℕ → List ℕ → Hue
hue_in k s = hue k (values_in (widths_of k) s)

-- 4: "an unlisted colour type"; 5: the data has not the bytes of its type's channels
unfoldable pub read_colour : ℕ → List ℕ → Answer Hue
read_colour k s = demand (is_type k) 4 (demand (eqb (length s) (data_bytes k)) 5 (full (hue_in k s)))

-- the number and the values of each case
abbrev pub said_colour : Colour → Hue
said_colour (Xy x y) = hue xy_type (x ∷ y ∷ [])
said_colour (Tc t) = hue tc_type (t ∷ [])
said_colour (Rgbwaf red green blue white amber free) = hue rgbwaf_type (red ∷ green ∷ blue ∷ white ∷ amber ∷ free ∷ [])

-- a colour laid out in six bytes, zeros behind its data
abbrev pub room : ℕ
room = 6

abbrev pub data_of : Hue → Data
data_of (hue k vs) =
    let d = laid (widths_of k) vs in
    record { kind = k; count = length d; bytes = d ++ replicate (room - length d) 0 }
