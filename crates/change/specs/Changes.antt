-- Laws of what was changed between two runs: its sum is the exclusive-or of theirs, and what its bits say of it.
use Rattle.std.specs.Prelude.{ℕ, zero, suc, ◌+◌, ◌*◌, ◌-◌, ◌/◌, ◌%◌, ◌^◌, ◌<◌, ◌≡◌, refl, Bool, true, false, List, [], ◌∷◌, length, get_or, set, eqb}
use Rattle.std.proofs.Common.{sym, ap, ◌∙◌, length-take-le, eqb-true, eq-eqb, ne_eqb, arith}
use Rattle.std.specs.Int.Bits.{bit_xor, xor_self, xor_zero_l}
use Rattle.std.proofs.lemmas.Nat.{xor_shr, xor_mod, xor_lt}
use Rattle.std.proofs.lemmas.List.{set-get_or, get_or_at}
use Rattle.std.proofs.lemmas.Bool.{eqb-false}
use Rattle.refusal.specs.Test.{pick, not_both, both_left, both_right}
use Rattle.sum.specs.Bytes.{Bytes, bytes_none, bytes_cons, bytes_head, bytes_tail}
use Rattle.sum.specs.Sum.{sum_from, sum_of}
use Rattle.sum.specs.Sums.{sum_cons, sum_byte}
use Rattle.sum.specs.Xor.{xor_medial}
use Rattle.frame.specs.Frame.{unsealed, sealed_of}
use Rattle.order.specs.Order.{Order, place_of}
use Rattle.maps.specs.Bit.{bit}
use Rattle.maps.specs.Bits.{bit_two, bit_of_zero, bits_none}
use Rattle.change.specs.Change.{mended, changed, times, evenly, bit_at, Burst}

-- AN EXCLUSIVE-OR bit by bit: 1 where one of the two has it
mark_xor : (a b : ℕ) → a < 2 → b < 2 → bit_xor a b ≡ (a + b) % 2
mark_xor zero b ha hb = xor_zero_l b ∙ omega arith
mark_xor (suc zero) zero ha hb = refl
mark_xor (suc zero) (suc zero) ha hb = refl
mark_xor (suc zero) (suc (suc b)) ha hb = absurd (omega arith)
mark_xor (suc (suc a)) b ha hb = absurd (omega arith)

bit_xor_lem : (a b k : ℕ) → bit (bit_xor a b) k ≡ (bit a k + bit b k) % 2
unfolding bit
bit_xor_lem a b k =
    ap (λ (x : ℕ). x % 2) (xor_shr a b k)
    ∙ xor_mod (a / 2 ^ k) (b / 2 ^ k) 1
    ∙ mark_xor (a / 2 ^ k % 2) (b / 2 ^ k % 2) (omega arith) (omega arith)

-- THE SUM of what was changed
pub sum_changed : (s t : List ℕ) → length t ≡ length s → bit_xor (sum_of s) (sum_of t) ≡ sum_of (changed s t)
unfolding sum_from changed
sum_changed [] [] h = refl
sum_changed [] (b ∷ t) h = absurd (omega arith)
sum_changed (a ∷ s) [] h = absurd (omega arith)
sum_changed (a ∷ s) (b ∷ t) h =
    rw (sum_cons a s, sum_cons b t, xor_medial a (sum_of s) b (sum_of t), sum_changed s t (omega arith)) (go (eqb a b) refl)
  where
    go : (q : Bool) → eqb a b ≡ q → bit_xor (bit_xor a b) (sum_of (changed s t)) ≡ sum_of (pick q (changed s t) (bit_xor a b ∷ changed s t))
    go true e = rw (eqb-true a b e, xor_self b, xor_zero_l (sum_of (changed s t)))
    go false e = sym (sum_cons (bit_xor a b) (changed s t))

-- each is a byte
pub changed_bytes : (s t : List ℕ) → Bytes s → Bytes t → Bytes (changed s t)
unfolding changed
changed_bytes [] t p q = bytes_none
changed_bytes (a ∷ s) [] p q = bytes_none
changed_bytes (a ∷ s) (b ∷ t) p q = go (eqb a b) (changed_bytes s t (bytes_tail p) (bytes_tail q))
  where
    go : (e : Bool) → Bytes (changed s t) → Bytes (pick e (changed s t) (bit_xor a b ∷ changed s t))
    go true r = r
    go false r = bytes_cons (xor_lt 8 a b (bytes_head p) (bytes_head q)) r

-- ITS BITS: bit k of the sum says whether bit k was changed in an odd number of the bytes
pub times_sum : (k : ℕ) (l : List ℕ) → bit (sum_of l) k ≡ times k l % 2
unfolding sum_from times
times_sum k [] = bit_of_zero k
times_sum k (m ∷ l) =
    let e = times_sum k l in
    rw (sum_cons m l, bit_xor_lem m (sum_of l) k) (omega (arith, e))

evenly_each : (w : ℕ) (l : List ℕ) → evenly w l ≡ true → (k : ℕ) → k < w → times k l % 2 ≡ 0
unfolding evenly
evenly_each zero l e k h = absurd (omega arith)
evenly_each (suc w) l e k h =
    let here = eqb-true (times w l % 2) 0 (both_left (eqb (times w l % 2) 0) (evenly w l) e) in
    go (eqb k w) refl here (evenly_each w l (both_right (eqb (times w l % 2) 0) (evenly w l) e) k)
  where
    go : (t : Bool) → eqb k w ≡ t → times w l % 2 ≡ 0 → (k < w → times k l % 2 ≡ 0) → times k l % 2 ≡ 0
    go true g here below = rw (eqb-true k w g) here
    go false g here below = below (omega (arith, eqb-false k w g))

evenly_all : (w : ℕ) (l : List ℕ) → ((k : ℕ) → k < w → times k l % 2 ≡ 0) → evenly w l ≡ true
unfolding evenly
evenly_all zero l f = refl
evenly_all (suc w) l f = rw (f w (omega arith), evenly_all w l (λ k h. f k (omega arith)))

-- each of the eight in an even number: the sum is 0
pub evenly_sum : (l : List ℕ) → Bytes l → evenly 8 l ≡ eqb (sum_of l) 0
evenly_sum l b = go (evenly 8 l) refl (eqb (sum_of l) 0) refl
  where
    go : (t : Bool) → evenly 8 l ≡ t → (u : Bool) → eqb (sum_of l) 0 ≡ u → t ≡ u
    go true e true z = refl
    go false e false z = refl
    go true e false z =
        absurd
        (eqb-false (sum_of l) 0 z
        (bits_none 8 (sum_of l) (sum_byte b) (λ k h. times_sum k l ∙ evenly_each 8 l e k h)))
    go false e true z = not_both (evenly_all 8 l (λ k h. sym (times_sum k l) ∙ rw (eqb-true (sum_of l) 0 z) (bit_of_zero k))) e

-- WHAT `set` CHANGES: at one place, and at two
same_none : (s : List ℕ) → changed s s ≡ []
unfolding changed
same_none [] = refl
same_none (a ∷ s) = rw (eq-eqb a a refl) (same_none s)

pub changed_set : (d : List ℕ) (i b : ℕ) → i < length d → (get_or d i 0 ≡ b → ⊥) → changed d (set d i b) ≡ bit_xor (get_or d i 0) b ∷ []
unfolding changed
changed_set [] i b h o = absurd (omega arith)
changed_set (a ∷ d) zero b h o = rw (ne_eqb a b o, same_none d)
changed_set (a ∷ d) (suc i) b h o = rw (eq-eqb a a refl) (changed_set d i b (omega arith) o)

pub changed_two : (d : List ℕ) (i j b c : ℕ) → i < j → j < length d → (get_or d i 0 ≡ b → ⊥) → (get_or d j 0 ≡ c → ⊥)
    → changed d (set (set d i b) j c) ≡ bit_xor (get_or d i 0) b ∷ bit_xor (get_or d j 0) c ∷ []
unfolding changed
changed_two [] i j b c g h o p = absurd (omega arith)
changed_two (a ∷ d) i zero b c g h o p = absurd (omega arith)
changed_two (a ∷ d) zero (suc j) b c g h o p = rw (ne_eqb a b o) (ap (λ (l : List ℕ). bit_xor a b ∷ l) (changed_set d j c (omega arith) p))
changed_two (a ∷ d) (suc i) (suc j) b c g h o p = rw (eq-eqb a a refl) (changed_two d i j b c (omega arith) (omega arith) o p)

-- A BURST: a bit that was changed in one byte alone was changed once
times_cons : (k a b : ℕ) (s t : List ℕ) → times k (changed (a ∷ s) (b ∷ t)) ≡ bit (bit_xor a b) k + times k (changed s t)
unfolding changed times
times_cons k a b s t = go (eqb a b) refl
  where
    go : (q : Bool) → eqb a b ≡ q → times k (pick q (changed s t) (bit_xor a b ∷ changed s t)) ≡ bit (bit_xor a b) k + times k (changed s t)
    go true e = rw (eqb-true a b e, xor_self b, bit_of_zero k) (omega arith)
    go false e = refl

-- in none, where it is the same in each
times_none : (k : ℕ) (s t : List ℕ) → length t ≡ length s → ((j : ℕ) → bit (get_or s j 0) k ≡ bit (get_or t j 0) k) → times k (changed s t) ≡ 0
unfolding changed times
times_none k [] t h e = refl
times_none k (a ∷ s) [] h e = refl
times_none k (a ∷ s) (b ∷ t) h e =
    let r = times_none k s t (omega arith) (λ j. e (suc j)) in
    let z : bit a k ≡ bit b k = e 0 in
    times_cons k a b s t ∙ rw (r, bit_xor_lem a b k) (omega (arith, z))

times_alone : (k i : ℕ) (s t : List ℕ) → length t ≡ length s → ((j : ℕ) → (j ≡ i → ⊥) → bit (get_or s j 0) k ≡ bit (get_or t j 0) k)
    → times k (changed s t) ≡ (bit (get_or s i 0) k + bit (get_or t i 0) k) % 2
unfolding changed times
times_alone k i [] [] h e = rw (bit_of_zero k)
times_alone k i [] (b ∷ t) h e = absurd (omega arith)
times_alone k i (a ∷ s) [] h e = absurd (omega arith)
times_alone k zero (a ∷ s) (b ∷ t) h e =
    times_cons k a b s t ∙ rw (times_none k s t (omega arith) (λ j. e (suc j) (λ q. absurd (omega arith))), bit_xor_lem a b k) (omega arith)
times_alone k (suc i) (a ∷ s) (b ∷ t) h e =
    let r = times_alone k i s t (omega arith) (λ j n. e (suc j) (λ q. n (omega arith))) in
    let z : bit a k ≡ bit b k = e 0 (λ q. absurd (omega arith)) in
    times_cons k a b s t ∙ rw (r, bit_xor_lem a b k) (omega (arith, z))

-- so of a burst some bit was changed in an odd number of bytes
pub burst_odd : (o : Order) (p : ℕ) (s t : List ℕ) → length t ≡ length s → (w : Burst o p s t)
    → times (place_of o 8 (w.at % 8)) (changed s t) % 2 ≡ 1
burst_odd o p s t h w =
    rw (times_alone (place_of o 8 (w.at % 8)) (w.at / 8) s t h other)
    (omega (arith, w.some, bit_two (get_or s (w.at / 8) 0) (place_of o 8 (w.at % 8)), bit_two (get_or t (w.at / 8) 0) (place_of o 8 (w.at % 8))))
  where
    other : (j : ℕ) → (j ≡ w.at / 8 → ⊥) → bit (get_or s j 0) (place_of o 8 (w.at % 8)) ≡ bit (get_or t j 0) (place_of o 8 (w.at % 8))
    other j n =
        let r : ℕ = 8 * j + w.at % 8 in
        let e : r / 8 ≡ j = omega arith in
        let f : r % 8 ≡ w.at % 8 = omega arith in
        go r e f (eqb (bit_at o s r) (bit_at o t r)) refl
      where
        go : (r : ℕ) → r / 8 ≡ j → r % 8 ≡ w.at % 8 → (u : Bool) → eqb (bit_at o s r) (bit_at o t r) ≡ u
            → bit (get_or s j 0) (place_of o 8 (w.at % 8)) ≡ bit (get_or t j 0) (place_of o 8 (w.at % 8))
        go r e f true g = rw (e, f) at (eqb-true (bit_at o s r) (bit_at o t r) g)
        go r e f false g =
            let a = w.near r (eqb-false (bit_at o s r) (bit_at o t r) g) in
            let b = w.near w.at w.some in
            absurd (n (omega (arith, a.0, a.1, b.0, b.1)))

-- a run whose sum is 0 has nothing to mend
pub mended_same : (d : List ℕ) → sum_of d ≡ 0 → mended d ≡ d
mended_same [] e = refl
mended_same (a ∷ s) e =
    let d : List ℕ = a ∷ s in
    let n : ℕ = length d - 1 in
    let k : get_or d n 0 ≡ sum_of (unsealed d) =
    ap (λ (l : List ℕ). get_or l n 0) (sealed_of d (omega arith) e) ∙ get_or_at (unsealed d) (sum_of (unsealed d)) [] 0 n (length-take-le n d (omega arith)) in
    rw (← k) (set-get_or d n 0)
