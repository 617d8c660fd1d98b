-- "at most 64 entries, one for each address and instance, mask never 0": so it is after any requests.
use Rattle.std.specs.Prelude.{ℕ, zero, suc, ◌-◌, ◌*◌, ◌≤◌, ◌<◌, ◌≡◌, Bool, ◌&&◌, length, drop}
use Rattle.std.proofs.Math.Path.{refl}
use Rattle.std.proofs.Common.{sym, ap₂, ◌∙◌, eq-eqb, ne_eqb, eqb-true, arith}
use Rattle.std.proofs.Math.Bool.{true, false}
use mathlib.Core.List.{List, [], ◌∷◌}
use Rattle.std.specs.Int.Bits.{bit_or, or_add_and, and_le_l}
use Rattle.std.proofs.lemmas.Nat.{or_lt, and_le_r}
use Rattle.std.proofs.Math.Dec.{eqb}
use Rattle.std.proofs.lemmas.Bool.{eqb-false}
use Rattle.std.proofs.Math.Decide.{ℕ_discrete}
use Rattle.refusal.specs.Test.{pick, both_left, both_right}
use Rattle.refusal.specs.Answer.{Answer, refused, full}
use Rattle.sum.specs.Bytes.{Bytes, bytes_take, bytes_drop}
use Rattle.filter_asked.specs.declared.Filter.{Filter}
use Rattle.filter_asked.specs.declared.Change.{Change}
use Rattle.filter_asked.specs.declared.Change.TheVariants.{Add as add, Clear as clear}
use Rattle.filter_asked.specs.Asked.{asked}
use Rattle.filter_asked.specs.Requests.{filter_of, mask_fits}
use Rattle.filter_plan.specs.Filters.{is_of, added, cleared, changed}
use Rattle.filter_plan.specs.Plan.{request_at, Run, run, filters_in, judged, step_of, onward, after, well, bad}
use Rattle.filter_plan.specs.Places.{joined, lessened}
use Rattle.filter_plan.specs.Runs.{after_few, step_changed}

-- no entry is of this address and instance
abbrev pub Absent : ℕ → ℕ → List Filter → Type 0
Absent a i [] = Unit {0}
Absent a i (g ∷ l) = (is_of a i g ≡ false) × Absent a i l

-- "one for each address and instance"
abbrev pub Distinct : List Filter → Type 0
Distinct [] = Unit {0}
Distinct (g ∷ l) = Absent g.address g.instance l × Distinct l

-- "mask never 0"
abbrev pub Masked : List Filter → Type 0
Masked [] = Unit {0}
Masked (g ∷ l) = (eqb g.mask 0 ≡ false) × Masked l

-- a mask of 16 bits
abbrev pub Fit : List Filter → Type 0
Fit [] = Unit {0}
Fit (g ∷ l) = (g.mask < 65536) × Fit l

pub record Kept (l : List Filter) : Type 0 where
  pub few : length l ≤ 64
  pub one : Distinct l
  pub set : Masked l

-- whether one filter is the entry of another's address and instance does not depend on which is asked
eqb_turned : (m n : ℕ) → eqb m n ≡ eqb n m
eqb_turned m n = elim (ℕ_discrete m n) [ yes q ↦ (eq-eqb m n q ∙ sym (eq-eqb n m (sym q))) | no q ↦ (ne_eqb m n q ∙ sym (ne_eqb n m (λ e. q (sym e)))) ]

pub of_turned : (f g : Filter) → is_of f.address f.instance g ≡ is_of g.address g.instance f
of_turned f g = ap₂ (λ (x y : Bool). x && y) (eqb_turned g.address f.address) (eqb_turned g.instance f.instance)

pub of_true : (a i : ℕ) (g : Filter) → is_of a i g ≡ true → (g.address ≡ a) × (g.instance ≡ i)
of_true a i g e = (eqb-true g.address a (both_left (eqb g.address a) (eqb g.instance i) e), eqb-true g.instance i (both_right (eqb g.address a) (eqb g.instance i) e))

module _ (f : Filter) where
  abbrev mine : Filter → Bool
  mine g = is_of f.address f.instance g

  absent_added : (a i : ℕ) → is_of a i f ≡ false → (l : List Filter) → Absent a i l → Absent a i (added f l)
  unfolding added
  absent_added a i e [] h = go (eqb f.mask 0)
    where
      go : (t : Bool) → Absent a i (pick t [] (f ∷ []))
      go true = tt
      go false = (e, tt)
  absent_added a i e (g ∷ l) h = go (mine g) (absent_added a i e l h.1)
    where
      go : (t : Bool) → Absent a i (added f l) → Absent a i (pick t (joined f g ∷ l) (g ∷ added f l))
      go true r = (h.0, h.1)
      go false r = (h.0, r)

  distinct_added : (l : List Filter) → Distinct l → Distinct (added f l)
  unfolding added
  distinct_added [] h = go (eqb f.mask 0)
    where
      go : (t : Bool) → Distinct (pick t [] (f ∷ []))
      go true = tt
      go false = (tt, tt)
  distinct_added (g ∷ l) h = go (mine g) refl (distinct_added l h.1)
    where
      go : (t : Bool) → mine g ≡ t → Distinct (added f l) → Distinct (pick t (joined f g ∷ l) (g ∷ added f l))
      go true e r = (h.0, h.1)
      go false e r = (absent_added g.address g.instance (sym (of_turned f g) ∙ e) l h.0, r)

  join_set : (m n : ℕ) → eqb m 0 ≡ false → eqb (bit_or m n) 0 ≡ false
  join_set m n e = ne_eqb (bit_or m n) 0 (λ z. eqb-false m 0 e (omega (arith, or_add_and m n, and_le_r m n)))

  masked_added : (l : List Filter) → Masked l → Masked (added f l)
  unfolding added
  masked_added [] h = go (eqb f.mask 0) refl
    where
      go : (t : Bool) → eqb f.mask 0 ≡ t → Masked (pick t [] (f ∷ []))
      go true e = tt
      go false e = (e, tt)
  masked_added (g ∷ l) h = go (mine g) (masked_added l h.1)
    where
      go : (t : Bool) → Masked (added f l) → Masked (pick t (joined f g ∷ l) (g ∷ added f l))
      go true r = (join_set g.mask f.mask h.0, h.1)
      go false r = (h.0, r)

  absent_cleared : (a i : ℕ) (l : List Filter) → Absent a i l → Absent a i (cleared f l)
  unfolding cleared
  absent_cleared a i [] h = tt
  absent_cleared a i (g ∷ l) h = go (mine g) (eqb (lessened f g).mask 0) (absent_cleared a i l h.1)
    where
      go : (t u : Bool) → Absent a i (cleared f l) → Absent a i (pick t (pick u l (lessened f g ∷ l)) (g ∷ cleared f l))
      go true true r = h.1
      go true false r = (h.0, h.1)
      go false u r = (h.0, r)

  distinct_cleared : (l : List Filter) → Distinct l → Distinct (cleared f l)
  unfolding cleared
  distinct_cleared [] h = tt
  distinct_cleared (g ∷ l) h = go (mine g) (eqb (lessened f g).mask 0) (distinct_cleared l h.1)
    where
      go : (t u : Bool) → Distinct (cleared f l) → Distinct (pick t (pick u l (lessened f g ∷ l)) (g ∷ cleared f l))
      go true true r = h.1
      go true false r = (h.0, h.1)
      go false u r = (absent_cleared g.address g.instance l h.0, r)

  masked_cleared : (l : List Filter) → Masked l → Masked (cleared f l)
  unfolding cleared
  masked_cleared [] h = tt
  masked_cleared (g ∷ l) h = go (mine g) (eqb (lessened f g).mask 0) refl (masked_cleared l h.1)
    where
      go : (t u : Bool) → eqb (lessened f g).mask 0 ≡ u → Masked (cleared f l) → Masked (pick t (pick u l (lessened f g ∷ l)) (g ∷ cleared f l))
      go true true e r = h.1
      go true false e r = (e, h.1)
      go false u e r = (h.0, r)

  fit_added : f.mask < 65536 → (l : List Filter) → Fit l → Fit (added f l)
  unfolding added
  fit_added m [] h = go (eqb f.mask 0)
    where
      go : (t : Bool) → Fit (pick t [] (f ∷ []))
      go true = tt
      go false = (m, tt)
  fit_added m (g ∷ l) h = go (mine g) (fit_added m l h.1)
    where
      go : (t : Bool) → Fit (added f l) → Fit (pick t (joined f g ∷ l) (g ∷ added f l))
      go true r = (or_lt 16 g.mask f.mask h.0 m, h.1)
      go false r = (h.0, r)

  fit_cleared : (l : List Filter) → Fit l → Fit (cleared f l)
  unfolding cleared
  fit_cleared [] h = tt
  fit_cleared (g ∷ l) h = go (mine g) (eqb (lessened f g).mask 0) (fit_cleared l h.1)
    where
      go : (t u : Bool) → Fit (cleared f l) → Fit (pick t (pick u l (lessened f g ∷ l)) (g ∷ cleared f l))
      go true true r = h.1
      go true false r = (omega (arith, h.0, and_le_l g.mask (65535 - f.mask)), h.1)
      go false u r = (h.0, r)

-- one change, and so any requests
pub distinct_changed : (x : Change) (l : List Filter) → Distinct l → Distinct (changed x l)
distinct_changed (add f) l h = distinct_added f l h
distinct_changed (clear f) l h = distinct_cleared f l h

masked_changed : (x : Change) (l : List Filter) → Masked l → Masked (changed x l)
masked_changed (add f) l h = masked_added f l h
masked_changed (clear f) l h = masked_cleared f l h

onward_kept : (r : Run) (k : ℕ) (d : List ℕ) → Distinct (filters_in r) × Masked (filters_in r) → Distinct (filters_in (onward r k d)) × Masked (filters_in (onward r k d))
onward_kept (run l (bad j n)) k d h = h
onward_kept (run l well) k d h = go (step_of (asked d) l) refl
  where
    go : (v : Answer (List Filter)) → step_of (asked d) l ≡ v → Distinct (filters_in (judged k l v)) × Masked (filters_in (judged k l v))
    go (refused n) e = h
    go (full m) e =
        let y = step_changed (asked d) l m e in
        rw (← y.2) (distinct_changed y.0 l h.0, masked_changed y.0 l h.1)

both_kept : (p : List ℕ) (k : ℕ) → Distinct (filters_in (after p k)) × Masked (filters_in (after p k))
unfolding after
both_kept p zero = (tt, tt)
both_kept p (suc k) = onward_kept (after p k) k (request_at p k) (both_kept p k)

-- after the first k requests of any plan; where one is bad, the filters stay as they stood before it
pub kept : (p : List ℕ) (k : ℕ) → Kept (filters_in (after p k))
kept p k = record { few = after_few p k; one = (both_kept p k).0; set = (both_kept p k).1 }

-- and each mask has 16 bits, where the plan is one of bytes
fit_changed : (x : Change) (l : List Filter) → (filter_of x).mask < 65536 → Fit l → Fit (changed x l)
fit_changed (add f) l m h = fit_added f m l h
fit_changed (clear f) l m h = fit_cleared f l h

onward_fit : (r : Run) (k : ℕ) (d : List ℕ) → Bytes d → Fit (filters_in r) → Fit (filters_in (onward r k d))
onward_fit (run l (bad j n)) k d b h = h
onward_fit (run l well) k d b h = go (step_of (asked d) l) refl
  where
    go : (v : Answer (List Filter)) → step_of (asked d) l ≡ v → Fit (filters_in (judged k l v))
    go (refused n) e = h
    go (full m) e =
        let y = step_changed (asked d) l m e in
        rw (← y.2) (fit_changed y.0 l (mask_fits d b y.0 y.1) h)

pub masks_fit : (p : List ℕ) → Bytes p → (k : ℕ) → Fit (filters_in (after p k))
unfolding after
masks_fit p b zero = tt
masks_fit p b (suc k) = onward_fit (after p k) k (request_at p k) (bytes_take 8 (drop (8 * k) p) (bytes_drop (8 * k) p b)) (masks_fit p b k)
