-- The types that a mask names, of masks that are joined and of masks with bits taken out.
use Rattle.std.specs.Prelude.{ℕ, zero, suc, ◌-◌, ◌/◌, ◌%◌, ◌^◌, ◌<◌, ◌≡◌, refl, Bool, true, false, not, ◌&&◌, ◌||◌, ◌↔◌, eqb, leb}
use Rattle.std.proofs.Common.{sym, ap, ◌∙◌, le-leb, leb-true, pow-suc, arith}
use Rattle.std.specs.Int.Bits.{bit_and, bit_or}
use Rattle.std.proofs.lemmas.Nat.{and_shr, and_mod, or_shr, or_mod}
use Rattle.refusal.specs.Test.{clash}
use Rattle.maps.specs.Bit.{bit}
use Rattle.maps.specs.Bits.{bit_zero, bit_suc, bit_two, bits_one}
use Rattle.filter_asked.specs.Asked.{is_named}

-- bit by bit
or_bit : (m n k : ℕ) → bit (bit_or m n) k ≡ bit_or (bit m k) (bit n k)
unfolding bit
or_bit m n k = ap (λ (x : ℕ). x % 2) (or_shr m n k) ∙ or_mod (m / 2 ^ k) (n / 2 ^ k) 1

and_bit : (m n k : ℕ) → bit (bit_and m n) k ≡ bit_and (bit m k) (bit n k)
unfolding bit
and_bit m n k = ap (λ (x : ℕ). x % 2) (and_shr m n k) ∙ and_mod (m / 2 ^ k) (n / 2 ^ k) 1

-- what is left of all w bits without those of a number
other_bit : (w n k : ℕ) → n < 2 ^ w → k < w → bit (2 ^ w - 1 - n) k ≡ 1 - bit n k
other_bit zero n k h l = absurd (omega arith)
other_bit (suc w) n zero h l =
    let p = pow-suc 2 w in
    bit_zero (2 ^ suc w - 1 - n) ∙ omega (arith, bit_zero n)
other_bit (suc w) n (suc k) h l =
    let p = pow-suc 2 w in
    let e : (2 ^ suc w - 1 - n) / 2 ≡ 2 ^ w - 1 - n / 2 = omega arith in
    bit_suc (2 ^ suc w - 1 - n) k ∙ ap (λ (x : ℕ). bit x k) e ∙ other_bit w (n / 2) k (omega arith) (omega arith) ∙ ap (λ (x : ℕ). 1 - x) (sym (bit_suc n k))

or_set : (x y : ℕ) → x < 2 → y < 2 → eqb (bit_or x y) 1 ≡ eqb x 1 || eqb y 1
or_set zero zero h l = refl
or_set zero (suc zero) h l = refl
or_set zero (suc (suc y)) h l = absurd (omega arith)
or_set (suc zero) zero h l = refl
or_set (suc zero) (suc zero) h l = refl
or_set (suc zero) (suc (suc y)) h l = absurd (omega arith)
or_set (suc (suc x)) y h l = absurd (omega arith)

and_unset : (x y : ℕ) → x < 2 → y < 2 → eqb (bit_and x (1 - y)) 1 ≡ eqb x 1 && not (eqb y 1)
and_unset zero zero h l = refl
and_unset zero (suc zero) h l = refl
and_unset zero (suc (suc y)) h l = absurd (omega arith)
and_unset (suc zero) zero h l = refl
and_unset (suc zero) (suc zero) h l = refl
and_unset (suc zero) (suc (suc y)) h l = absurd (omega arith)
and_unset (suc (suc x)) y h l = absurd (omega arith)

-- joined masks name what either names
pub named_joined : (m n t : ℕ) → is_named (bit_or m n) t ≡ is_named m t || is_named n t
named_joined m n t = ap (λ (x : Bool). leb t 15 && x) (ap (λ (x : ℕ). eqb x 1) (or_bit m n t) ∙ or_set (bit m t) (bit n t) (bit_two m t) (bit_two n t)) ∙ go (leb t 15)
  where
    go : (b : Bool) → b && (eqb (bit m t) 1 || eqb (bit n t) 1) ≡ b && eqb (bit m t) 1 || b && eqb (bit n t) 1
    go true = refl
    go false = refl

-- a mask with those of another taken out names what it named and the other does not
pub named_without : (m n t : ℕ) → n < 65536 → is_named (bit_and m (65535 - n)) t ≡ is_named m t && not (is_named n t)
named_without m n t h = go (leb t 15) refl
  where
    go : (b : Bool) → leb t 15 ≡ b → b && eqb (bit (bit_and m (65535 - n)) t) 1 ≡ (b && eqb (bit m t) 1) && not (b && eqb (bit n t) 1)
    go true e =
        ap (λ (x : ℕ). eqb x 1) (and_bit m (65535 - n) t ∙ ap (λ (x : ℕ). bit_and (bit m t) x) (other_bit 16 n t h (omega (arith, leb-true t 15 e))))
        ∙ and_unset (bit m t) (bit n t) (bit_two m t) (bit_two n t)
    go false e = refl

-- masks that name the same types are the same
bit_same : (m n : ℕ) → m < 2 → n < 2 → eqb m 1 ≡ eqb n 1 → m ≡ n
bit_same zero zero h l e = refl
bit_same zero (suc zero) h l e = clash (cc)
bit_same zero (suc (suc n)) h l e = absurd (omega arith)
bit_same (suc zero) zero h l e = clash (cc)
bit_same (suc zero) (suc zero) h l e = refl
bit_same (suc zero) (suc (suc n)) h l e = absurd (omega arith)
bit_same (suc (suc m)) n h l e = absurd (omega arith)

pub named_one : (m n : ℕ) → m < 65536 → n < 65536 → ((t : ℕ) → t < 16 → is_named m t ≡ is_named n t) ↔ (m ≡ n)
named_one m n h l = (λ e. bits_one 16 m n h l (λ k g. bit_same (bit m k) (bit n k) (bit_two m k) (bit_two n k) (strip k g (e k g))), λ e t g. ap (λ (x : ℕ). is_named x t) e)
  where
    strip : (k : ℕ) → k < 16 → is_named m k ≡ is_named n k → eqb (bit m k) 1 ≡ eqb (bit n k) 1
    strip k g e = simp (le-leb k 15 (omega arith)) at e
