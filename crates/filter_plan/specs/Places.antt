-- The place of an entry, found by a look at one after the other, and what is added, cleared and hidden there.
use Prim.Native.Nat.{ℕ, suc, ◌≤◌, ◌<◌}
use Rattle.std.specs.Prelude.{◌≡◌, Bool, eqb, get_or, Option, unwrap_or}
use Rattle.std.specs.Option.{MatchOption}
use Rattle.std.specs.List.{AllWithin, HoldsAt}
use Rattle.std.proofs.lemmas.Iterator.{index_from_first}
use Rattle.std.proofs.Math.Path.{refl, ap}
use Rattle.std.proofs.Common.{◌∙◌}
use Rattle.std.proofs.Math.Bool.{true, false}
use mathlib.Core.List.{List, [], ◌∷◌, ◌++◌}
use Rattle.std.specs.Int.Bits.{bit_or}
use Rattle.std.proofs.Math.ListN.{length, set}
use native.Mathlib.Omega.{arith}
use Rattle.refusal.specs.Test.{pick}
use Rattle.filter_asked.specs.declared.Filter.{Filter}
use Rattle.filter_plan.specs.Filters.{is_of, with_mask, added, without, or_dropped, cleared, mask_at}
use Rattle.filter_plan.specs.Table.{none, place_of, dropped}

-- the entry at a place
abbrev pub entry_at : List Filter → ℕ → Filter
entry_at l k = get_or l k none

module _ (a i : ℕ) where
  pub place_most : (l : List Filter) → place_of a i l ≤ length l
  unfolding place_of
  place_most [] = omega arith
  place_most (g ∷ l) = go (is_of a i g) (place_most l)
    where
      go : (t : Bool) → place_of a i l ≤ length l → pick t 0 (suc (place_of a i l)) ≤ suc (length l)
      go true h = omega arith
      go false h = omega arith

  -- the place, as a search through all finds it
  pub place_first : (l : List Filter) (r : Option ℕ)
      → MatchOption r (AllWithin (λ g. is_of a i g ≡ false) l 0 (length l)) (λ k. (k < length l) × HoldsAt (λ g. is_of a i g ≡ true) l k × AllWithin (λ g. is_of a i g ≡ false) l 0 k)
      → place_of a i l ≡ unwrap_or r (length l)
  unfolding place_of
  place_first l r h =
      index_from_first (place_of a i) (λ g. is_of a i g ≡ true) (λ g. is_of a i g ≡ false) refl (λ g m e. rw e) (λ g m e. rw e (omega arith)) l r h

  -- the mask that stands there; 0 where none does
  pub mask_there : (l : List Filter) → place_of a i l < length l → mask_at a i l ≡ (entry_at l (place_of a i l)).mask
  unfolding place_of mask_at
  mask_there [] h = refl
  mask_there (g ∷ l) h = go (is_of a i g) h (mask_there l)
    where
      go : (t : Bool) → pick t 0 (suc (place_of a i l)) < suc (length l) → (place_of a i l < length l → mask_at a i l ≡ (entry_at l (place_of a i l)).mask)
          → pick t g.mask (mask_at a i l) ≡ (entry_at (g ∷ l) (pick t 0 (suc (place_of a i l)))).mask
      go true k r = refl
      go false k r = r (omega arith)

  pub mask_absent : (l : List Filter) → length l ≤ place_of a i l → mask_at a i l ≡ 0
  unfolding place_of mask_at
  mask_absent [] h = refl
  mask_absent (g ∷ l) h = go (is_of a i g) h (mask_absent l)
    where
      go : (t : Bool) → suc (length l) ≤ pick t 0 (suc (place_of a i l)) → (length l ≤ place_of a i l → mask_at a i l ≡ 0) → pick t g.mask (mask_at a i l) ≡ 0
      go true k r = absurd (omega arith)
      go false k r = r (omega arith)

module _ (f : Filter) where
  abbrev at : List Filter → ℕ
  at l = place_of f.address f.instance l

  abbrev mine : Filter → Bool
  mine g = is_of f.address f.instance g

  -- the entry joined, and with the bits taken out
  abbrev pub joined : Filter → Filter
  joined g = with_mask g (bit_or g.mask f.mask)

  abbrev pub lessened : Filter → Filter
  lessened g = with_mask g (without g.mask f.mask)

  pub added_there : (l : List Filter) → at l < length l → added f l ≡ set l (at l) (joined (entry_at l (at l)))
  unfolding place_of added
  added_there [] h = absurd (omega arith)
  added_there (g ∷ l) h = go (mine g) h (added_there l)
    where
      go : (t : Bool) → pick t 0 (suc (at l)) < suc (length l) → (at l < length l → added f l ≡ set l (at l) (joined (entry_at l (at l))))
          → pick t (joined g ∷ l) (g ∷ added f l) ≡ set (g ∷ l) (pick t 0 (suc (at l))) (joined (entry_at (g ∷ l) (pick t 0 (suc (at l)))))
      go true k r = refl
      go false k r = ap (λ (m : List Filter). g ∷ m) (r (omega arith))

  pub added_absent : (l : List Filter) → length l ≤ at l → added f l ≡ l ++ pick (eqb f.mask 0) [] (f ∷ [])
  unfolding place_of added
  added_absent [] h = refl
  added_absent (g ∷ l) h = go (mine g) h (added_absent l)
    where
      go : (t : Bool) → suc (length l) ≤ pick t 0 (suc (at l)) → (length l ≤ at l → added f l ≡ l ++ pick (eqb f.mask 0) [] (f ∷ []))
          → pick t (joined g ∷ l) (g ∷ added f l) ≡ g ∷ l ++ pick (eqb f.mask 0) [] (f ∷ [])
      go true k r = absurd (omega arith)
      go false k r = ap (λ (m : List Filter). g ∷ m) (r (omega arith))

  -- the entry at the place lessened, or dropped
  abbrev pub settled : List Filter → ℕ → List Filter
  settled l k = pick (eqb (lessened (entry_at l k)).mask 0) (dropped k l) (set l k (lessened (entry_at l k)))

  pub cleared_there : (l : List Filter) → at l < length l → cleared f l ≡ settled l (at l)
  unfolding place_of cleared dropped
  cleared_there [] h = absurd (omega arith)
  cleared_there (g ∷ l) h = go (mine g) h (cleared_there l)
    where
      behind : (t : Bool) (k : ℕ) (e : Filter) → g ∷ pick t (dropped k l) (set l k e) ≡ pick t (g ∷ dropped k l) (g ∷ set l k e)
      behind true k e = refl
      behind false k e = refl

      go : (t : Bool) → pick t 0 (suc (at l)) < suc (length l) → (at l < length l → cleared f l ≡ settled l (at l))
          → pick t (or_dropped (lessened g) l) (g ∷ cleared f l) ≡ settled (g ∷ l) (pick t 0 (suc (at l)))
      go true k r = refl
      go false k r = ap (λ (m : List Filter). g ∷ m) (r (omega arith)) ∙ behind (eqb (lessened (entry_at l (at l))).mask 0) (at l) (lessened (entry_at l (at l)))

  pub cleared_absent : (l : List Filter) → length l ≤ at l → cleared f l ≡ l
  unfolding place_of cleared
  cleared_absent [] h = refl
  cleared_absent (g ∷ l) h = go (mine g) h (cleared_absent l)
    where
      go : (t : Bool) → suc (length l) ≤ pick t 0 (suc (at l)) → (length l ≤ at l → cleared f l ≡ l)
          → pick t (or_dropped (lessened g) l) (g ∷ cleared f l) ≡ g ∷ l
      go true k r = absurd (omega arith)
      go false k r = ap (λ (m : List Filter). g ∷ m) (r (omega arith))
