-- However a stream is cut, feeding the parts and closing gives the items of the whole: demand 3, for any lawful rule.
use Rattle.std.specs.Prelude.{ℕ, zero, suc, ◌+◌, ◌≤◌, ◌<◌, ◌≡◌, length, take}
use Rattle.std.proofs.Math.Path.{refl, sym}
use Rattle.std.proofs.Common.{ap, ap₂, ◌∙◌, length-append, length-take, take-append-drop, arith}
use mathlib.Core.List.{List, [], ◌∷◌, ◌++◌, append_assoc, append-nil}
use Rattle.std.proofs.Math.ListN.{drop, length-drop}
use Rattle.refusal.specs.Test.{clash}
use Rattle.stream.specs.Stream.{Settling, More, Settled}
use Rattle.stream.specs.Stream.{Item, reading, Fed, nothing_yet, found, Closed, empty, last, item_number, item_size, whole}
use Rattle.stream.specs.Stream.{items, feed, close, Run, fed, over, closed, ended}
use Rattle.stream.specs.Lawful.{Lawful, size_some}
use Rattle.stream.specs.Items.{items_none, items_next, items_front, behind}
use Rattle.stream.specs.Fewest.{Fewest, found_fewest, fed_by, feed_once}

-- a part, cut once more
split_part : (h p t : List ℕ) (j : ℕ) → h ++ (p ++ t) ≡ (h ++ take j p) ++ (drop j p ++ t)
split_part h p t j =
    let e : take j p ++ (drop j p ++ t) ≡ p ++ t = sym (append_assoc (take j p) (drop j p) t) ∙ rw take-append-drop in
    sym (append_assoc h (take j p) (drop j p ++ t) ∙ ap (λ (l : List ℕ). h ++ l) e)

-- a closing call, case by case
module _ (settle : List ℕ → Settling) where
  pub close_none : (h : List ℕ) → length h ≡ 0 → close settle h ≡ empty
  unfolding close
  close_none [] l = refl
  close_none (b ∷ s) l = absurd (omega arith)

  pub close_some : (h : List ℕ) → 1 ≤ length h
      → close settle h ≡ last (reading (item_number (settle h)) (take (item_size (settle h)) h)) (drop (item_size (settle h)) h)
  unfolding close
  close_some [] l = absurd (omega arith)
  close_some (b ∷ s) l = refl

module _ (settle : List ℕ → Settling) (law : Lawful settle) where
  -- a call that says "nothing yet" holds what was held and the part, and these settle nothing
  pub feed_nothing : (h p g : List ℕ) → feed settle h p ≡ nothing_yet g → (g ≡ h ++ p) × (settle (h ++ p) ≡ More)
  feed_nothing h p g e = go (settle (h ++ p)) refl
    where
      go : (x : Settling) → settle (h ++ p) ≡ x → (g ≡ h ++ p) × (settle (h ++ p) ≡ More)
      go More s =
          let f : nothing_yet g ≡ nothing_yet (h ++ p) = sym e ∙ feed_once settle law h p ∙ simp s in
          (cc, s)
      go (Settled k m d) s =
          let f : nothing_yet g ≡ fed_by (Settled k m d) h p = sym e ∙ feed_once settle law h p ∙ simp s in
          clash (cc)

  -- a call that gives an item gives the next one of the stream
  pub feed_found : (h p g t : List ℕ) (j : ℕ) (i : Item) → feed settle h p ≡ found j i g
      → items settle (h ++ (p ++ t)) ≡ i ∷ items settle (g ++ (drop j p ++ t))
  feed_found h p g t j i e = go (found_fewest settle e)
    where
      go : Fewest settle h p j i g → items settle (h ++ (p ++ t)) ≡ i ∷ items settle (g ++ (drop j p ++ t))
      go f =
          ap (items settle) (split_part h p t j)
          ∙ items_front settle law (h ++ take j p) (drop j p ++ t) f.number f.size f.by f.settles
          ∙ sym (ap₂ (λ (x : Item) (l : List ℕ). x ∷ items settle (l ++ (drop j p ++ t))) f.gives f.holds)

  -- and leaves fewer bytes to read
  pub feed_less : (h p g : List ℕ) (j : ℕ) (i : Item) → feed settle h p ≡ found j i g → length g + length (drop j p) < length h + length p
  feed_less h p g j i e =
      let f = found_fewest settle e in
      let n = law.some _ _ _ _ f.settles in
      let w = law.within _ _ _ _ f.settles in
      let l = simp (length-append, length-take) at (law.there _ _ _ _ f.settles) in
      rw f.holds (simp (length-drop, length-append, length-take) (omega (arith, f.takes)))

  -- a closing call gives the next item of the bytes held, and says "empty" where there are none
  pub close_empty : (h : List ℕ) → close settle h ≡ empty → h ≡ []
  unfolding close
  close_empty [] e = refl
  close_empty (b ∷ s) e = clash (cc)

  pub close_last : (h g : List ℕ) (i : Item) → close settle h ≡ last i g → items settle h ≡ i ∷ items settle g
  unfolding close
  close_last [] g i e = clash (cc)
  close_last (b ∷ s) g i e =
      let ei : reading (item_number (settle (b ∷ s))) (take (item_size (settle (b ∷ s))) (b ∷ s)) ≡ i = cc in
      let eg : drop (item_size (settle (b ∷ s))) (b ∷ s) ≡ g = cc in
      items_next settle law b s ∙ cc (ap (items settle) eg)

  pub close_less : (h g : List ℕ) (i : Item) → close settle h ≡ last i g → length g < length h
  unfolding close
  close_less [] g i e = clash (cc)
  close_less (b ∷ s) g i e =
      let eg : drop (item_size (settle (b ∷ s))) (b ∷ s) ≡ g = cc in
      rw (← eg) (simp length-drop (omega (arith, size_some settle law (b ∷ s))))

  -- whatever the cut, the items given are those of the whole stream
  pub run_items : {h : List ℕ} {ps : List (List ℕ)} {is : List Item} {n : ℕ} → Run settle h ps is n → is ≡ items settle (h ++ whole ps)
  unfolding whole
  run_items (fed {h} {g} {p} {ps} {j} {n} {i} {is} e r) =
      behind (run_items r) ∙ sym (feed_found h p g (whole ps) j i e)
  run_items (over {h} {g} {p} {ps} {n} {is} e r) =
      let q : g ≡ h ++ p = (feed_nothing h p g e).0 in
      run_items r ∙ rw (q, append_assoc)
  run_items (closed {h} {g} {n} {i} {is} e r) = behind (run_items r) ∙ rw (append-nil, append-nil) (sym (close_last h g i e))
  run_items (ended {h} e) = rw (close_empty h e) (sym (items_none settle law))

  -- the number of its calls: one for each item, one for each part, and the one that says "empty"
  pub run_calls : {h : List ℕ} {ps : List (List ℕ)} {is : List Item} {n : ℕ} → Run settle h ps is n → n ≡ length is + length ps + 1
  run_calls (fed e r) = omega (arith, run_calls r)
  run_calls (over e r) = omega (arith, run_calls r)
  run_calls (closed e r) = omega (arith, run_calls r)
  run_calls (ended e) = omega arith

  -- and there is a run for every cut: feeding a part ends, and so does closing
  closing : (n : ℕ) (h : List ℕ) → length h < n → (is : List Item) × (c : ℕ) × Run settle h [] is c
  closing zero h l = absurd (omega arith)
  closing (suc n) h l = go (close settle h) refl (closing n)
    where
      go : (x : Closed) → close settle h ≡ x
          → ((g : List ℕ) → length g < n → (is : List Item) × (c : ℕ) × Run settle g [] is c)
          → (is : List Item) × (c : ℕ) × Run settle h [] is c
      go empty e rest = ([], 1, ended e)
      go (last i g) e rest =
          let r = rest g (omega (arith, close_less h g i e)) in
          (i ∷ r.0, suc r.1, closed e r.2)

  feeding : (ps : List (List ℕ)) → ((g : List ℕ) → (is : List Item) × (c : ℕ) × Run settle g ps is c)
      → (n : ℕ) (h p : List ℕ) → length h + length p < n → (is : List Item) × (c : ℕ) × Run settle h (p ∷ ps) is c
  feeding ps rest zero h p l = absurd (omega arith)
  feeding ps rest (suc n) h p l = go (feed settle h p) refl (feeding ps rest n)
    where
      go : (x : Fed) → feed settle h p ≡ x
          → ((h p : List ℕ) → length h + length p < n → (is : List Item) × (c : ℕ) × Run settle h (p ∷ ps) is c)
          → (is : List Item) × (c : ℕ) × Run settle h (p ∷ ps) is c
      go (nothing_yet g) e more =
          let r = rest g in
          (r.0, suc r.1, over e r.2)
      go (found j i g) e more =
          let r = more g (drop j p) (omega (arith, feed_less h p g j i e)) in
          (i ∷ r.0, suc r.1, fed e r.2)

  pub run_ends : (ps : List (List ℕ)) (h : List ℕ) → (is : List Item) × (n : ℕ) × Run settle h ps is n
  run_ends [] h = closing (suc (length h)) h (omega arith)
  run_ends (p ∷ ps) h = feeding ps (run_ends ps) (suc (length h + length p)) h p (omega arith)
