-- A run held to a form byte by byte.
use Rattle.std.specs.Prelude.{ℕ, suc, ◌+◌, ◌*◌, ◌≤◌, ◌≡◌, refl, Bool, true, false, ◌&&◌, ◌||◌, length, get_or, ltb}
use Rattle.std.proofs.Common.{ap, drop-drop, get_or-drop, arith}
use mathlib.Core.List.{List, [], ◌∷◌}
use Rattle.std.proofs.Math.ListN.{drop}
use Rattle.std.specs.List.{list_all, zip}
use Rattle.refusal.specs.Test.{both_right}
use Rattle.refusal.specs.Answer.{refused, full}
use Rattle.words.specs.Words.{text}
use Rattle.clock_text.specs.declared.Time.{Time}
use Rattle.clock_text.specs.Clock.{stands, has_form, is_text, symbol_of, number_in, byte_in, time_in, clock_in, in_range, read_clock}

-- it has the form's length
pub form_length : (f s : List ℕ) → has_form f s ≡ true → length s ≡ length f
unfolding has_form
form_length [] [] e = refl
form_length [] (c ∷ s) e = let z : ◌≡◌ {A = ℕ} 0 1 = cc in absurd (omega arith)
form_length (x ∷ f) [] e = let z : ◌≡◌ {A = ℕ} 0 1 = cc in absurd (omega arith)
form_length (x ∷ f) (c ∷ s) e = ap suc (form_length f s (both_right (stands x c) (has_form f s) e))

pub other_length : (f s : List ℕ) → (length s ≡ length f → ⊥) → false ≡ has_form f s
other_length f s h = go (has_form f s) refl
  where
    go : (x : Bool) → has_form f s ≡ x → false ≡ x
    go true e = absurd (h (form_length f s e))
    go false e = refl

-- and where it has, it is of the form exactly if each of its bytes may stand where the form has one
pub form_all : (f s : List ℕ) → length f ≡ length s → list_all (λ p. stands p.0 p.1) (zip f s) ≡ has_form f s
unfolding has_form
form_all [] [] e = refl
form_all [] (c ∷ s) e = absurd (omega arith)
form_all (x ∷ f) [] e = absurd (omega arith)
form_all (x ∷ f) (c ∷ s) e = ap (λ (t : Bool). stands x c && t) (form_all f s (omega arith))

-- FIELDS, by their places in the text
pub number_at : (s : List ℕ) (i : ℕ) → symbol_of (get_or s i 0) * 10 + symbol_of (get_or s (i + 1) 0) ≡ number_in (drop i s)
unfolding number_in
number_at s i =
    let e : i + 0 ≡ i = omega arith in
    rw (get_or-drop i s 0 0, get_or-drop i s 1 0, e)

pub byte_at : (s : List ℕ) (i : ℕ) → symbol_of (get_or s i 0) * 16 + symbol_of (get_or s (i + 1) 0) ≡ byte_in (drop i s)
unfolding byte_in
byte_at s i =
    let e : i + 0 ≡ i = omega arith in
    rw (get_or-drop i s 0 0, get_or-drop i s 1 0, e)

pub time_at : (s : List ℕ) (i : ℕ) {x y z : ℕ} → x ≡ number_in (drop i s) → y ≡ number_in (drop (i + 3) s) → z ≡ number_in (drop (i + 6) s)
    → ◌≡◌ {A = Time} (record { hour = x; minute = y; second = z }) (time_in (drop i s))
unfolding time_in
time_at s i p q r = rw (p, q, r, drop-drop 3 i s, drop-drop 6 i s)

-- TEXTS. One of two tests holds where either does
pub either_one : {P : Type 0} (x y : Bool) → (x ≡ true → P) → (y ≡ true → P) → x || y ≡ true → P
either_one true y f g e = f refl
either_one false y f g e = g e

-- they have 20 bytes, or 29 or 30 where the clock is astronomical
pub data Size : Bool → ℕ → Type 0 where
  plain : Size false 20
  later : Size true 29
  earlier : Size true 30

pub text_size : (a : Bool) (s : List ℕ) → is_text a s ≡ true → Size a (length s)
unfolding is_text
text_size false s e = rw (form_length (text "00:00:00 FF 00/00/00") s e) plain
text_size true s e =
    either_one (has_form (text "00:00:00 FF 00/00/00 00:00:00") s) (has_form (text "00:00:00 FF 00/00/00 -00:00:00") s)
    (λ l. rw (form_length (text "00:00:00 FF 00/00/00 00:00:00") s l) later)
    (λ l. rw (form_length (text "00:00:00 FF 00/00/00 -00:00:00") s l) earlier)
    e

pub size_least : {a : Bool} {n : ℕ} → Size a n → 20 ≤ n
size_least plain = omega arith
size_least later = omega arith
size_least earlier = omega arith

pub size_most : {a : Bool} {n : ℕ} → Size a n → n ≤ 30
size_most plain = omega arith
size_most later = omega arith
size_most earlier = omega arith

-- so the length tells which kind of clock it is
pub size_kind : {a : Bool} {n : ℕ} → Size a n → ltb 20 n ≡ a
size_kind plain = refl
size_kind later = refl
size_kind earlier = refl

-- what is answered of them
module _ (a : Bool) (s : List ℕ) where
  pub not_text : is_text a s ≡ false → refused 21 ≡ read_clock a s
  unfolding read_clock
  not_text e = rw e

  pub not_in_range : is_text a s ≡ true → in_range (clock_in s) ≡ false → refused 22 ≡ read_clock a s
  unfolding read_clock
  not_in_range e f = rw (e, f)

  pub accepted : is_text a s ≡ true → in_range (clock_in s) ≡ true → full (clock_in s) ≡ read_clock a s
  unfolding read_clock
  accepted e f = rw (e, f)
