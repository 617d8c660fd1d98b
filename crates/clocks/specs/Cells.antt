-- A run byte by byte: what stands in each place of one that has a form, and the run as the list of its bytes.
use Rattle.std.specs.Prelude.{ℕ, zero, suc, ◌+◌, ◌<◌, ◌≤◌, ◌≡◌, true, List, [], ◌∷◌, ◌++◌, length, get_or, drop}
use Rattle.std.proofs.Common.{ap, ◌∙◌, append-nil, drop_of_length-le, length-append, drop-cons, arith}
use Rattle.std.proofs.Math.ListN.{get_or-append}
use Rattle.refusal.specs.Test.{both_left, both_right, clash}
use Rattle.clock_text.specs.Clock.{stands, has_form}

-- each place of a run that has a form
pub form_at : (f s : List ℕ) → has_form f s ≡ true → (i : ℕ) → i < length f → stands (get_or f i 0) (get_or s i 0) ≡ true
unfolding has_form
form_at [] s e i h = absurd (omega arith)
form_at (x ∷ f) [] e i h = clash (cc)
form_at (x ∷ f) (c ∷ s) e zero h = both_left (stands x c) (has_form f s) e
form_at (x ∷ f) (c ∷ s) e (suc i) h = form_at f s (both_right (stands x c) (has_form f s) e) i (omega arith)

-- the first places of one whose form goes on
pub front_at : (f g s : List ℕ) → has_form (f ++ g) s ≡ true → (i : ℕ) → i < length f → stands (get_or f i 0) (get_or s i 0) ≡ true
front_at f g s e i h = rw (get_or-append f g 0 i h) at (form_at (f ++ g) s e i (omega (arith, length-append f g)))

-- a form and another behind it
pub form_append : (f g s t : List ℕ) → has_form f s ≡ true → has_form g t ≡ true → has_form (f ++ g) (s ++ t) ≡ true
unfolding has_form
form_append [] g [] t e h = h
form_append [] g (c ∷ s) t e h = clash (cc)
form_append (x ∷ f) g [] t e h = clash (cc)
form_append (x ∷ f) g (c ∷ s) t e h =
    let a = both_left (stands x c) (has_form f s) e in
    rw a (form_append f g s t (both_right (stands x c) (has_form f s) e) h)

-- the bytes of a run, n of them from place i on
unfoldable pub cells : ℕ → ℕ → List ℕ → List ℕ
cells i zero s = []
cells i (suc n) s = get_or s i 0 ∷ cells (suc i) n s

pub cells_split : (i n : ℕ) (s : List ℕ) → i + n ≤ length s → drop i s ≡ cells i n s ++ drop (i + n) s
unfolding cells
cells_split i zero s h = let e : i + 0 ≡ i = omega arith in rw e
cells_split i (suc n) s h =
    let e : i + suc n ≡ suc i + n = omega arith in
    rw e (drop-cons s i 0 (omega arith) ∙ ap (λ (l : List ℕ). get_or s i 0 ∷ l) (cells_split (suc i) n s (omega arith)))

pub cells_all : (i n : ℕ) (s : List ℕ) → length s ≡ i + n → drop i s ≡ cells i n s
cells_all i n s e = cells_split i n s (omega arith) ∙ rw (drop_of_length-le s {i = i + n} (omega arith)) (append-nil (cells i n s))
