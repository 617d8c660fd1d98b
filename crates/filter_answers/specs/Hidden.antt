-- What one request makes of what is hidden: "Adding joins the mask", "Clearing takes bits out", and no other event changes.
use Rattle.std.specs.Prelude.{ℕ, ◌<◌, ◌≡◌, Bool, not, ◌&&◌, ◌||◌}
use Rattle.std.proofs.Math.Path.{refl, sym}
use Rattle.std.proofs.Common.{ap, ◌∙◌, eqb-true}
use Rattle.std.proofs.Math.Bool.{true, false}
use mathlib.Core.List.{List, [], ◌∷◌}
use Rattle.std.specs.Int.Bits.{bit_or}
use Rattle.std.proofs.Math.Dec.{eqb}
use Rattle.refusal.specs.Test.{pick, not_both}
use Rattle.filter_asked.specs.declared.Filter.{Filter}
use Rattle.filter_asked.specs.Asked.{is_named}
use Rattle.filter_asked.specs.Named.{named_joined, named_without}
use Rattle.filter_plan.specs.Filters.{is_of, added, without, cleared, mask_at, is_hidden}
use Rattle.filter_since.specs.Trace.{concerns}
use Rattle.filter_plan.specs.Places.{joined, lessened}
use Rattle.filter_answers.specs.Kept.{Absent, Distinct, of_turned, of_true}

module _ (f : Filter) (a i : ℕ) where
  abbrev mine : Filter → Bool
  mine g = is_of f.address f.instance g

  -- an entry of the filter's address and instance is of a and i exactly if the filter is; and one of a and i that is none of the filter's says the filter is not
  entry_same : (g : Filter) → mine g ≡ true → is_of a i g ≡ is_of a i f
  entry_same g e =
      let q = of_true f.address f.instance g e in
      rw (q.0, q.1)

  entry_other : (g : Filter) → mine g ≡ false → is_of a i g ≡ true → is_of a i f ≡ false
  entry_other g e w =
      let q = of_true a i g w in
      rw (← q.0, ← q.1) (sym (of_turned f g) ∙ e)

  mask_added : (l : List Filter) → mask_at a i (added f l) ≡ pick (is_of a i f) (bit_or (mask_at a i l) f.mask) (mask_at a i l)
  unfolding added mask_at
  mask_added [] = go (eqb f.mask 0) refl (is_of a i f) refl
    where
      go : (t : Bool) → eqb f.mask 0 ≡ t → (v : Bool) → is_of a i f ≡ v → mask_at a i (pick t [] (f ∷ [])) ≡ pick v f.mask 0
      go true e true y = sym (eqb-true f.mask 0 e)
      go true e false y = refl
      go false e true y = rw y
      go false e false y = rw y
  mask_added (g ∷ l) = go (mine g) refl (is_of a i g) refl (is_of a i f) refl (mask_added l)
    where
      go : (t : Bool) → mine g ≡ t → (w : Bool) → is_of a i g ≡ w → (v : Bool) → is_of a i f ≡ v
          → mask_at a i (added f l) ≡ pick v (bit_or (mask_at a i l) f.mask) (mask_at a i l)
          → mask_at a i (pick t (joined f g ∷ l) (g ∷ added f l)) ≡ pick v (bit_or (pick w g.mask (mask_at a i l)) f.mask) (pick w g.mask (mask_at a i l))
      go true e true x true y r = rw x
      go true e false x false y r = rw x
      go true e true x false y r = not_both (sym (entry_same g e) ∙ x) y
      go true e false x true y r = not_both y (sym (entry_same g e) ∙ x)
      go false e true x true y r = not_both y (entry_other g e x)
      go false e true x false y r = rw x
      go false e false x v y r = rw x r

  -- where no entry is
  mask_none : (l : List Filter) → Absent a i l → mask_at a i l ≡ 0
  unfolding mask_at
  mask_none [] h = refl
  mask_none (g ∷ l) h = rw h.0 (mask_none l h.1)

  mask_cleared : (l : List Filter) → Distinct l → mask_at a i (cleared f l) ≡ pick (is_of a i f) (without (mask_at a i l) f.mask) (mask_at a i l)
  unfolding cleared mask_at
  mask_cleared [] h = go (is_of a i f)
    where
      go : (v : Bool) → 0 ≡ pick v (without 0 f.mask) 0
      go true = refl
      go false = refl
  mask_cleared (g ∷ l) h = go (mine g) refl (is_of a i g) refl (is_of a i f) refl (eqb (lessened f g).mask 0) refl (mask_cleared l h.1)
    where
      go : (t : Bool) → mine g ≡ t → (w : Bool) → is_of a i g ≡ w → (v : Bool) → is_of a i f ≡ v → (u : Bool) → eqb (lessened f g).mask 0 ≡ u
          → mask_at a i (cleared f l) ≡ pick v (without (mask_at a i l) f.mask) (mask_at a i l)
          → mask_at a i (pick t (pick u l (lessened f g ∷ l)) (g ∷ cleared f l)) ≡ pick v (without (pick w g.mask (mask_at a i l)) f.mask) (pick w g.mask (mask_at a i l))
      go true e true x true y true z r =
          let q = of_true a i g x in
          mask_none l (rw (← q.0, ← q.1) h.0) ∙ sym (eqb-true (lessened f g).mask 0 z)
      go true e true x true y false z r = rw x
      go true e false x false y true z r = refl
      go true e false x false y false z r = rw x
      go true e true x false y u z r = not_both (sym (entry_same g e) ∙ x) y
      go true e false x true y u z r = not_both y (sym (entry_same g e) ∙ x)
      go false e true x true y u z r = not_both y (entry_other g e x)
      go false e true x false y u z r = rw x
      go false e false x v y u z r = rw x r

  -- 31: an event is hidden afterwards exactly if it was, or the request names its type of its address and instance
  pub joined_bit : (l : List Filter) (t : ℕ) → is_hidden (added f l) a i t ≡ is_hidden l a i t || concerns a i t f
  joined_bit l t = ap (λ (m : ℕ). is_named m t) (mask_added l) ∙ go (is_of a i f)
    where
      or_false : (b : Bool) → b ≡ b || false
      or_false true = refl
      or_false false = refl

      go : (v : Bool) → is_named (pick v (bit_or (mask_at a i l) f.mask) (mask_at a i l)) t ≡ is_named (mask_at a i l) t || v && is_named f.mask t
      go true = named_joined (mask_at a i l) f.mask t
      go false = or_false (is_named (mask_at a i l) t)

  -- 33: exactly if it was, and the request does not
  pub cleared_bit : f.mask < 65536 → (l : List Filter) → Distinct l → (t : ℕ) → is_hidden (cleared f l) a i t ≡ is_hidden l a i t && not (concerns a i t f)
  cleared_bit fits l h t = ap (λ (m : ℕ). is_named m t) (mask_cleared l h) ∙ go (is_of a i f)
    where
      and-true : (b : Bool) → b ≡ b && true
      and-true true = refl
      and-true false = refl

      go : (v : Bool) → is_named (pick v (without (mask_at a i l) f.mask) (mask_at a i l)) t ≡ is_named (mask_at a i l) t && not (v && is_named f.mask t)
      go true = named_without (mask_at a i l) f.mask t fits
      go false = and-true (is_named (mask_at a i l) t)
