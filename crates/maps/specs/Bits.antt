-- Laws of the bits of a number.
use Rattle.std.specs.Prelude.{ℕ, zero, suc, ◌+◌, ◌-◌, ◌/◌, ◌%◌, ◌^◌, ◌<◌, ◌≡◌, refl, ◌⊎◌, eqb}
use Rattle.std.proofs.Common.{sym, ap, ap₂, ◌∙◌, inl, inr, pow_pos, shr-shr, pow-suc, one-add, arith}
use Rattle.std.proofs.Math.Pow.{field, mod-mod-pow}
use Rattle.std.proofs.Math.Nat.{zero-div}
use Rattle.refusal.specs.Test.{pick}
use Rattle.maps.specs.Bit.{bit, how_many, lowest, Least}

-- both depend on the bits below w alone
pub how_many_same : (w : ℕ) {f g : ℕ → ℕ} → ((k : ℕ) → k < w → f k ≡ g k) → how_many f w ≡ how_many g w
unfolding how_many
how_many_same zero e = refl
how_many_same (suc w) e = ap₂ (λ (x y : ℕ). x + y) (e 0 (omega arith)) (how_many_same w (λ k h. e (suc k) (omega arith)))

pub lowest_same : (w : ℕ) {f g : ℕ → ℕ} → ((k : ℕ) → k < w → f k ≡ g k) → lowest f w ≡ lowest g w
unfolding lowest
lowest_same zero e = refl
lowest_same (suc w) e = ap₂ (λ (x y : ℕ). pick (eqb x 1) 0 (suc y)) (e 0 (omega arith)) (lowest_same w (λ k h. e (suc k) (omega arith)))

-- bit 0, and the bits above it
pub bit_zero : (n : ℕ) → bit n 0 ≡ n % 2
unfolding bit
bit_zero n = omega arith

pub bit_suc : (n k : ℕ) → bit n (suc k) ≡ bit (n / 2) k
unfolding bit
bit_suc n k = ap (λ (x : ℕ). x % 2) (rw (← one-add k) (sym (shr-shr n 1 k)))

pub bit_two : (n k : ℕ) → bit n k < 2
unfolding bit
bit_two n k = omega arith

-- the w low bits of a number are those of its rest by 2 ^ w, and the bits above them those of its quotient
pub bit_low : (w n k : ℕ) → k < w → bit n k ≡ bit (n % 2 ^ w) k
unfolding bit
bit_low w n k h =
    let e : w ≡ w - k - 1 + 1 + k = omega arith in
    rw (e, field n (w - k - 1 + 1) k) (sym (mod-mod-pow (n / 2 ^ k) (w - k - 1) 1))

pub bit_high : (w n k : ℕ) → bit n (w + k) ≡ bit (n / 2 ^ w) k
unfolding bit
bit_high w n k = ap (λ (x : ℕ). x % 2) (sym (shr-shr n w k))

-- the lowest bit set, of numbers with the same bits
pub least_same : {f g : ℕ → ℕ} {w k : ℕ} → ((k : ℕ) → k < w → f k ≡ g k) → Least f w k → Least g w k
least_same {k = k} e l = record {
  inside = l.inside;
  set = sym (e k l.inside) ∙ l.set;
  none = λ j h. sym (e j (omega (arith, l.inside))) ∙ l.none j h;
}

-- the lowest is that, or none is set
pub lowest_least : (w : ℕ) (f : ℕ → ℕ) → ((k : ℕ) → f k < 2) → Least f w (lowest f w) ⊎ ((k : ℕ) → k < w → f k ≡ 0)
unfolding lowest
lowest_least zero f t = inr (λ k h. absurd (omega arith))
lowest_least (suc w) f t = go (f 0) refl (lowest_least w (λ k. f (suc k)) (λ k. t (suc k)))
  where
    go : (b : ℕ) → f 0 ≡ b → Least (λ k. f (suc k)) w (lowest (λ k. f (suc k)) w) ⊎ ((k : ℕ) → k < w → f (suc k) ≡ 0)
        → Least f (suc w) (lowest f (suc w)) ⊎ ((k : ℕ) → k < suc w → f k ≡ 0)
    go zero e (inl l) = inl (rw e record { inside = omega (arith, l.inside); set = l.set; none = down })
      where
        down : (j : ℕ) → j < suc (lowest (λ k. f (suc k)) w) → f j ≡ 0
        down zero g = e
        down (suc j) g = l.none j (omega arith)
    go zero e (inr z) = inr up
      where
        up : (k : ℕ) → k < suc w → f k ≡ 0
        up zero g = e
        up (suc k) g = z k (omega arith)
    go (suc zero) e r = inl (rw e record { inside = omega arith; set = e; none = λ j g. absurd (omega arith) })
    go (suc (suc b)) e r = absurd (omega (arith, t 0))

-- the w bits of a number tell it
pub bits_one : (w m n : ℕ) → m < 2 ^ w → n < 2 ^ w → ((k : ℕ) → k < w → bit m k ≡ bit n k) → m ≡ n
bits_one zero m n hm hn e = omega arith
bits_one (suc w) m n hm hn e =
    let p = pow-suc 2 w in
    let same : (k : ℕ) → k < w → bit (m / 2) k ≡ bit (n / 2) k = λ k l. sym (bit_suc m k) ∙ e (suc k) (omega arith) ∙ bit_suc n k in
    let h : m / 2 ≡ n / 2 = bits_one w (m / 2) (n / 2) (omega arith) (omega arith) same in
    omega (arith, sym (bit_zero m) ∙ e 0 (omega arith) ∙ bit_zero n)

-- and none of 0 is set
pub bit_of_zero : (k : ℕ) → bit 0 k ≡ 0
unfolding bit
bit_of_zero k = rw (zero-div (2 ^ k))

pub bits_none : (w n : ℕ) → n < 2 ^ w → ((k : ℕ) → k < w → bit n k ≡ 0) → n ≡ 0
bits_none w n h z = bits_one w n 0 h (pow_pos w) (λ k l. z k l ∙ sym (bit_of_zero k))
