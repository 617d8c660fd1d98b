-- The parts of a run, one by one.
use Rattle.std.specs.Prelude.{ℕ, zero, suc, ◌+◌, ◌≤◌, ◌<◌, ◌≡◌, refl, true, false, List, [], ◌∷◌, length, take, drop, eqb}
use Rattle.std.proofs.Common.{sym, ap, ◌∙◌, length-drop, drop-drop, ne_eqb, arith}
use Rattle.refusal.specs.Test.{clash}
use Rattle.refusal.specs.Answer.{Answer, refused, full, is_full, full_one}
use Rattle.sum.specs.Bytes.{Bytes, bytes_take, bytes_drop}
use Rattle.led.specs.Led.{part_at, with_part, parts_up_to, parts_of}
use Rattle.led.specs.Cut.{part_there, part_15}
use Rattle.led.specs.Parts.{AllBytes}

-- what a run begins with: a part, none that is there, or its end
up_to_next : (m : ℕ) (s : List ℕ) (n : ℕ) → part_at s ≡ full n → parts_up_to (suc m) s ≡ with_part (take n (drop 2 s)) (parts_up_to m (drop (2 + n) s))
unfolding parts_up_to
up_to_next m s n e = let h : eqb (length s) 0 ≡ false = ne_eqb (length s) 0 (λ z. absurd (omega (arith, (part_there s n e).1, z))) in rw (h, e)

up_to_cut : (m : ℕ) (s : List ℕ) (k : ℕ) → 1 ≤ length s → part_at s ≡ refused k → parts_up_to (suc m) s ≡ refused k
unfolding parts_up_to
up_to_cut m s k h e = let f : eqb (length s) 0 ≡ false = ne_eqb (length s) 0 (λ z. absurd (omega (arith, h, z))) in rw (f, e)

up_to_end : (m : ℕ) (s : List ℕ) → length s ≡ 0 → parts_up_to m s ≡ full []
unfolding parts_up_to
up_to_end zero s h = refl
up_to_end (suc m) s h = rw h

-- how many are looked for does not matter, where they are as many as bytes
either : (n m : ℕ) (s : List ℕ) → (a : Answer ℕ) → part_at s ≡ a → (l : ℕ) → length s ≡ l
    → ((z : List ℕ) → length z < length s → parts_up_to n z ≡ parts_up_to m z) → parts_up_to (suc n) s ≡ parts_up_to (suc m) s
either n m s (refused k) e zero h again = up_to_end (suc n) s h ∙ sym (up_to_end (suc m) s h)
either n m s (refused k) e (suc l) h again = up_to_cut n s k (omega arith) e ∙ sym (up_to_cut m s k (omega arith) e)
either n m s (full x) e l h again =
    up_to_next n s x e
    ∙ ap (with_part (take x (drop 2 s))) (again (drop (2 + x) s) (let f = (part_there s x e).1 in simp length-drop (omega arith)))
    ∙ sym (up_to_next m s x e)

enough : (n m : ℕ) (s : List ℕ) → length s ≤ n → length s ≤ m → parts_up_to n s ≡ parts_up_to m s
enough zero m s hn hm = up_to_end zero s (omega arith) ∙ sym (up_to_end m s (omega arith))
enough (suc n) zero s hn hm = up_to_end (suc n) s (omega arith) ∙ sym (up_to_end zero s (omega arith))
enough (suc n) (suc m) s hn hm = either n m s (part_at s) refl (length s) refl (λ z l. enough n m z (omega arith) (omega arith))

-- no part where nothing is left, the first with those behind it, or the refusal
pub parts_end : (s : List ℕ) → length s ≡ 0 → parts_of s ≡ full []
parts_end s h = up_to_end (length s) s h

pub parts_next : (s : List ℕ) (n : ℕ) → part_at s ≡ full n → parts_of s ≡ with_part (take n (drop 2 s)) (parts_of (drop (2 + n) s))
parts_next [] n e = absurd (omega (arith, (part_there [] n e).1))
parts_next (b ∷ s) n e =
    let z : List ℕ = drop (2 + n) (b ∷ s) in
    up_to_next (length s) (b ∷ s) n e
    ∙ ap (with_part (take n (drop 2 (b ∷ s)))) (enough (length s) (length z) z (simp length-drop (omega arith)) (omega arith))

pub parts_cut : (s : List ℕ) (k : ℕ) → 1 ≤ length s → part_at s ≡ refused k → parts_of s ≡ refused k
parts_cut [] k h e = absurd (omega arith)
parts_cut (b ∷ s) k h e = up_to_cut (length s) (b ∷ s) k h e

-- the same of whether it is whole, at a place of a run
pub whole_next : (s : List ℕ) (i n : ℕ) → part_at (drop i s) ≡ full n → is_full (parts_of (drop i s)) ≡ is_full (parts_of (drop (i + (2 + n)) s))
whole_next s i n e = ap is_full (parts_next (drop i s) n e) ∙ go (parts_of (drop (2 + n) (drop i s))) ∙ ap (λ (z : List ℕ). is_full (parts_of z)) (drop-drop (2 + n) i s)
  where
    go : (a : Answer (List (List ℕ))) → is_full (with_part (take n (drop 2 (drop i s))) a) ≡ is_full a
    go (refused k) = refl
    go (full ps) = refl

pub whole_end : (s : List ℕ) (i : ℕ) → length s ≤ i → is_full (parts_of (drop i s)) ≡ true
whole_end s i h = ap is_full (parts_end (drop i s) (simp length-drop (omega arith)))

pub whole_cut : (s : List ℕ) (i k : ℕ) → i < length s → part_at (drop i s) ≡ refused k → is_full (parts_of (drop i s)) ≡ false
whole_cut s i k h e = ap is_full (parts_cut (drop i s) k (simp length-drop (omega arith)) e)

-- A run's parts by how many are looked for: at its end, cut, or one and then others
pub with_full : (p : List ℕ) (a : Answer (List (List ℕ))) (ps : List (List ℕ)) {P : Type 0} → ((qs : List (List ℕ)) → a ≡ full qs → ps ≡ p ∷ qs → P)
    → with_part p a ≡ full ps → P
with_full p (refused k) ps f e = clash (cc)
with_full p (full qs) ps f e = f qs refl (sym (full_one e))

with_refused : (p : List ℕ) (a : Answer (List (List ℕ))) (k : ℕ) → with_part p a ≡ refused k → a ≡ refused k
with_refused p (refused j) k e = e
with_refused p (full qs) k e = clash (cc)

pub up_to_cases : {P : Type 0} (n : ℕ) (s : List ℕ) → (length s ≡ 0 → parts_up_to (suc n) s ≡ full [] → P)
    → ((k : ℕ) → part_at s ≡ refused k → parts_up_to (suc n) s ≡ refused k → P)
    → ((m : ℕ) → part_at s ≡ full m → parts_up_to (suc n) s ≡ with_part (take m (drop 2 s)) (parts_up_to n (drop (2 + m) s)) → P) → P
up_to_cases {P} n s end cut next = go (length s) refl (part_at s) refl
  where
    go : (l : ℕ) → length s ≡ l → (a : Answer ℕ) → part_at s ≡ a → P
    go zero h a e = end h (up_to_end (suc n) s h)
    go (suc l) h (refused k) e = cut k e (up_to_cut n s k (omega arith) e)
    go (suc l) h (full m) e = next m e (up_to_next n s m e)

-- a run is refused with 15 only
up_to_15 : (n : ℕ) (s : List ℕ) (k : ℕ) → parts_up_to n s ≡ refused k → k ≡ 15
unfolding parts_up_to
up_to_15 zero s k e = clash (cc)
up_to_15 (suc n) s k e =
    up_to_cases n s (λ h f. clash (cc)) (λ j g f. let z : j ≡ k = cc in sym z ∙ part_15 s j g)
    (λ m g f. up_to_15 n (drop (2 + m) s) k (with_refused (take m (drop 2 s)) (parts_up_to n (drop (2 + m) s)) k (sym f ∙ e)))

pub parts_15 : (s : List ℕ) → is_full (parts_of s) ≡ false → parts_of s ≡ refused 15
parts_15 s e = go (parts_of s) refl e
  where
    go : (a : Answer (List (List ℕ))) → parts_of s ≡ a → is_full a ≡ false → a ≡ refused 15
    go (refused k) f e = ap (λ (k : ℕ). refused k) (up_to_15 (length s) s k f)
    go (full ps) f e = clash (cc)

up_to_bytes : (n : ℕ) (s : List ℕ) (ps : List (List ℕ)) → Bytes s → parts_up_to n s ≡ full ps → AllBytes ps
unfolding parts_up_to
up_to_bytes zero s ps b e = let z : ps ≡ [] = sym (full_one e) in rw z tt
up_to_bytes (suc n) s ps b e =
    up_to_cases n s (λ h f. let z : ps ≡ [] = full_one (sym e ∙ f) in rw z tt) (λ k g f. clash (cc))
    (λ m g f.
    with_full (take m (drop 2 s)) (parts_up_to n (drop (2 + m) s)) ps
    (λ qs h z. rw z (bytes_take m (drop 2 s) (bytes_drop 2 s b), up_to_bytes n (drop (2 + m) s) qs (bytes_drop (2 + m) s b) h)) (sym f ∙ e))

pub parts_bytes : (s : List ℕ) (ps : List (List ℕ)) → Bytes s → parts_of s ≡ full ps → AllBytes ps
parts_bytes s ps = up_to_bytes (length s) s ps
