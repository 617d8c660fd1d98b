-- Read and laid out, there and back: once over the widths of channels, and so over the colour types.
use Rattle.std.specs.Prelude.{ℕ, ◌-◌, ◌^◌, ◌≤◌, ◌<◌, ◌≡◌, refl, true, List, [], ◌∷◌, ◌++◌, length, take, drop, replicate, ltb}
use Rattle.std.proofs.Common.{ap, ap₂, ◌∙◌, length-append, length-take, length-drop, take-append-drop, ltb-true, lt-ltb, arith}
use Rattle.std.proofs.Math.Seq.{take-append_seam, drop-append_seam}
use Rattle.refusal.specs.Test.{clash, both_left, both_right}
use Rattle.sum.specs.Bytes.{Bytes, bytes_none, bytes_append, bytes_take, bytes_drop}
use Rattle.order.specs.Order.{high_first, number_in}
use Rattle.order.specs.Big.{big_bytes}
use Rattle.order.specs.Numbers.{length_big, big_are_bytes, number_of_bytes, bytes_of_number, number_below}
use Rattle.command.specs.Colours.{widths_of, total, data_bytes}
use Rattle.colour.specs.declared.Colour.{Colour}
use Rattle.colour.specs.declared.Colour.TheVariants.{Xy, Tc, Rgbwaf}
use Rattle.colour.specs.declared.Data.{Data}
use Rattle.colour.specs.Colour.{Hue, hue, type_of, laid, values_in, fitting, is_colour, data_in, hue_in, said_colour, room, data_of}

-- the bytes of some values are bytes, as many as the channels have
pub laid_bytes : (ws vs : List ℕ) → Bytes (laid ws vs)
laid_bytes [] vs = bytes_none
laid_bytes (w ∷ ws) [] = bytes_none
laid_bytes (w ∷ ws) (v ∷ vs) = bytes_append (big_bytes w v) (big_are_bytes w v) (laid_bytes ws vs)

pub laid_length : (ws vs : List ℕ) → fitting ws vs ≡ true → length (laid ws vs) ≡ total ws
laid_length [] vs e = refl
laid_length (w ∷ ws) [] e = clash (cc)
laid_length (w ∷ ws) (v ∷ vs) e =
    simp length-append (omega (arith, length_big w v, laid_length ws vs (both_right (ltb v (256 ^ w)) (fitting ws vs) e)))

-- values that were laid out are read back
pub values_laid : (ws vs : List ℕ) → fitting ws vs ≡ true → values_in ws (laid ws vs) ≡ vs
values_laid [] [] e = refl
values_laid [] (v ∷ vs) e = clash (cc)
values_laid (w ∷ ws) [] e = clash (cc)
values_laid (w ∷ ws) (v ∷ vs) e =
    let l = length_big w v in
    let h : v < 256 ^ w = ltb-true v (256 ^ w) (both_left (ltb v (256 ^ w)) (fitting ws vs) e) in
    let front : take w (big_bytes w v ++ laid ws vs) ≡ big_bytes w v = rw l at (take-append_seam (big_bytes w v) (laid ws vs)) in
    let rest : drop w (big_bytes w v ++ laid ws vs) ≡ laid ws vs = rw l at (drop-append_seam (big_bytes w v) (laid ws vs)) in
    rw (front, rest) (ap₂ (λ (x : ℕ) (xs : List ℕ). x ∷ xs) (number_of_bytes w v h) (values_laid ws vs (both_right (ltb v (256 ^ w)) (fitting ws vs) e)))

-- values that were read are laid out as the bytes that they were read from, and are not too large for them
pub laid_values : (ws s : List ℕ) → Bytes s → length s ≡ total ws → laid ws (values_in ws s) ≡ s
laid_values [] [] b l = refl
laid_values [] (x ∷ s) b l = absurd (omega arith)
laid_values (w ∷ ws) s b l =
    let front : length (take w s) ≡ w = simp length-take (omega arith) in
    let rest : length (drop w s) ≡ total ws = simp length-drop (omega arith) in
    ap₂ (λ (x y : List ℕ). x ++ y) (bytes_of_number w (take w s) front (bytes_take w s b)) (laid_values ws (drop w s) (bytes_drop w s b) rest)
    ∙ take-append-drop w s

pub values_fit : (ws s : List ℕ) → Bytes s → length s ≡ total ws → fitting ws (values_in ws s) ≡ true
values_fit [] s b l = refl
values_fit (w ∷ ws) s b l =
    let front : length (take w s) ≡ w = simp length-take (omega arith) in
    let rest : length (drop w s) ≡ total ws = simp length-drop (omega arith) in
    let v = number_in high_first w (take w s) in
    rw (lt-ltb v (256 ^ w) (number_below w (take w s) front (bytes_take w s b))) (values_fit ws (drop w s) (bytes_drop w s b) rest)

-- a colour's data has the bytes of its type
pub data_length : (k : ℕ) (vs : List ℕ) → fitting (widths_of k) vs ≡ true → length (data_in (hue k vs)) ≡ data_bytes k
unfolding data_bytes
data_length k vs f = laid_length (widths_of k) vs f

-- A COLOUR LAID OUT AND READ is the colour
pub hue_back : (k : ℕ) (vs : List ℕ) → fitting (widths_of k) vs ≡ true → hue_in k (data_in (hue k vs)) ≡ hue k vs
hue_back k vs f = ap (hue k) (values_laid (widths_of k) vs f)

-- AND DATA READ AND LAID OUT is the data
pub data_back : (k : ℕ) (s : List ℕ) → Bytes s → length s ≡ data_bytes k → data_in (hue_in k s) ≡ s
unfolding data_bytes
data_back k s b l = laid_values (widths_of k) s b l

pub hue_fits : (k : ℕ) (s : List ℕ) → Bytes s → length s ≡ data_bytes k → fitting (widths_of k) (values_in (widths_of k) s) ≡ true
unfolding data_bytes
hue_fits k s b l = values_fit (widths_of k) s b l

-- what the code lays out: the type, and the data in front of the zeros
pub out_kind : (r : Data) (h : Hue) → r ≡ data_of h → r.kind ≡ type_of h
out_kind r (hue k vs) e = rw e

pub out_within : (r : Data) (h : Hue) → r ≡ data_of h → r.count ≤ length r.bytes
out_within r (hue k vs) e = rw e (simp length-append (omega arith))

pub out_data : (r : Data) (h : Hue) → r ≡ data_of h → take r.count r.bytes ≡ data_in h
out_data r (hue k vs) e = rw e (take-append_seam (data_in (hue k vs)) (replicate (room - length (data_in (hue k vs))) 0))

-- what the cases of the code's enum say are colours, since their numbers have one or two bytes by their types
abbrev pub Sized : Colour → Type 0
Sized (Xy x y) = (x < 65536) × (y < 65536)
Sized (Tc t) = t < 65536
Sized (Rgbwaf red green blue white amber free) = Bytes (red ∷ green ∷ blue ∷ white ∷ amber ∷ free ∷ [])

pub said_colour_lem : (c : Colour) → Sized c → is_colour (said_colour c) ≡ true
unfolding data_bytes widths_of
said_colour_lem (Xy x y) h = rw (lt-ltb x 65536 h.0, lt-ltb y 65536 h.1)
said_colour_lem (Tc t) h = rw (lt-ltb t 65536 h)
said_colour_lem (Rgbwaf red green blue white amber free) h =
    let w = h.byte in
    rw (lt-ltb red 256 (w 0), lt-ltb green 256 (w 1), lt-ltb blue 256 (w 2), lt-ltb white 256 (w 3), lt-ltb amber 256 (w 4), lt-ltb free 256 (w 5))
