-- A colour request read as the code reads it: its colour data first, which gives 4 and 5, then sum and address.
use Rattle.std.specs.Prelude.{ℕ, ◌+◌, ◌≤◌, ◌≡◌, refl, Bool, true, false, List, length, eqb}
use Rattle.std.proofs.Common.{sym, ◌∙◌, length-take, length-drop, eqb-true, eq-eqb, ne_eqb, arith}
use Rattle.std.proofs.lemmas.Bool.{eqb-false}
use Rattle.refusal.specs.Test.{clash}
use Rattle.refusal.specs.Answer.{Answer, refused, full, demand, full_one}
use Rattle.sum.specs.Sum.{sum_of}
use Rattle.frame.specs.Frame.{byte}
use Rattle.target.specs.Target.{is_lighting, Aim, lights_of}
use Rattle.command.specs.declared.Shape.TheVariants.{Colour}
use Rattle.command.specs.Command.{is_retired}
use Rattle.command.specs.Colours.{data_bytes, is_type}
use Rattle.command.specs.Length.{length_of, colour_bytes}
use Rattle.colour.specs.Colour.{Hue, hue_in, read_colour}
use Rattle.request.specs.Said.{heard, coloured}
use Rattle.request.specs.Reading.{stated, colour_data, colour_heard, judged, read_coloured}

-- the bytes of colour data in a datagram
pub part_length : (d : List ℕ) → 7 ≤ length d → length (colour_data d) + 7 ≡ length d
part_length d h = simp (length-take, length-drop) (omega arith)

same_test : (d : List ℕ) (k : ℕ) → 7 ≤ length d → eqb (length d) (colour_bytes k) ≡ eqb (length (colour_data d)) (data_bytes k)
same_test d k h = go (eqb (length d) (colour_bytes k)) refl
  where
    l : length (colour_data d) + 7 ≡ length d
    l = part_length d h

    go : (x : Bool) → eqb (length d) (colour_bytes k) ≡ x → x ≡ eqb (length (colour_data d)) (data_bytes k)
    go true e = sym (eq-eqb (length (colour_data d)) (data_bytes k) (omega (arith, l, eqb-true (length d) (colour_bytes k) e)))
    go false e = sym (ne_eqb (length (colour_data d)) (data_bytes k) (λ q. eqb-false (length d) (colour_bytes k) e (omega (arith, l, q))))

-- what is said of a datagram's colour data, and then of the datagram
abbrev pub onto : {A B : Type 0} → Answer A → Answer B → Answer B
onto (refused k) y = refused k
onto (full x) y = y

stated_colour : {A : Type 0} (d : List ℕ) (y : Answer A) → 7 ≤ length d
    → stated (length_of Colour) d y ≡ onto (read_colour (byte 5 d) (colour_data d)) y
unfolding read_colour
stated_colour d y h = rw (same_test d (byte 5 d) h) (go (is_type (byte 5 d)) (eqb (length (colour_data d)) (data_bytes (byte 5 d))))
  where
    go : (a b : Bool) → demand a 4 (demand b 5 y) ≡ onto (demand a 4 (demand b 5 (full (hue_in (byte 5 d) (colour_data d))))) y
    go true true = refl
    go true false = refl
    go false b = refl

-- refused there, or judged behind it
pub colour_refused : (d : List ℕ) (k : ℕ) → 7 ≤ length d → refused k ≡ read_colour (byte 5 d) (colour_data d) → refused k ≡ read_coloured d
unfolding read_coloured
colour_refused d k h e = sym (stated_colour d (judged d) h ∙ rw (← e))

pub colour_judged : (d : List ℕ) (x : Hue) → 7 ≤ length d → full x ≡ read_colour (byte 5 d) (colour_data d) → judged d ≡ read_coloured d
unfolding read_coloured
colour_judged d x h e = sym (stated_colour d (judged d) h ∙ rw (← e))

-- the colour that was read is the one that is said
pub colour_same : (k : ℕ) (s : List ℕ) (x : Hue) → full x ≡ read_colour k s → x ≡ hue_in k s
unfolding read_colour
colour_same k s x e = go (is_type k) (eqb (length s) (data_bytes k)) e
  where
    go : (a b : Bool) → full x ≡ demand a 4 (demand b 5 (full (hue_in k s))) → x ≡ hue_in k s
    go true true e = full_one e
    go true false e = clash (cc)
    go false b e = clash (cc)

-- a colour request that meets every demand
pub colour_accepts : (d : List ℕ) (x : Hue) → is_type (byte 5 d) ≡ true → length d ≡ colour_bytes (byte 5 d) → sum_of d ≡ 0
    → is_lighting (byte 3 d) ≡ true → hue_in (byte 5 d) (colour_data d) ≡ x
    → full (colour_heard (byte 1 d) (byte 2 d) (byte 3 d) (byte 4 d) x) ≡ read_coloured d
unfolding read_coloured
colour_accepts d x t l z g e = rw (t, eq-eqb (length d) (colour_bytes (byte 5 d)) l, eq-eqb (sum_of d) 0 z, g, e)

pub judged_outside : (d : List ℕ) → sum_of d ≡ 0 → is_lighting (byte 3 d) ≡ false → refused 7 ≡ judged d
judged_outside d z g = rw (eq-eqb (sum_of d) 0 z, g)

pub judged_accepts : (d : List ℕ) (r : Bool) (t : Aim) (x : Hue) → r ≡ is_retired (byte 2 d) → sum_of d ≡ 0 → is_lighting (byte 3 d) ≡ true → t ≡ lights_of (record { 0 = byte 3 d })
    → x ≡ hue_in (byte 5 d) (colour_data d) → full (heard (byte 1 d) (byte 2 d) r (coloured (byte 3 d) t (byte 4 d) x)) ≡ judged d
judged_accepts d r t x m z g e f = rw (m, eq-eqb (sum_of d) 0 z, g, e, f)
