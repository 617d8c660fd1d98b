-- A number in decimal in a lent buffer, stored from its last digit on.
use Rattle.std.specs.Prelude.{ℕ, zero, suc, ◌+◌, ◌-◌, ◌/◌, ◌%◌, ◌≤◌, ◌<◌, ◌≡◌, List, length, set}
use Rattle.std.proofs.Common.{sym, ap, ◌∙◌, lt-ltb, mod-lt, arith}
use Rattle.lent.specs.Puts.{over, over_snoc}
use Rattle.text.specs.Text.{digit}
use Rattle.text.specs.Digits.{last_digits, last_length}

-- the last digit of a number stored, and then those of its tenth in front of it
pub spell : (i n : ℕ) (out : List ℕ) (at : ℕ) → 0 < i → at + i ≤ length out
    → over (last_digits (i - 1) (n / 10)) (set out (at + (i - 1)) (48 + n % 10)) at ≡ over (last_digits i n) out at
unfolding last_digits
spell zero n out at h l = absurd (omega arith)
spell (suc j) n out at h l =
    let e : suc j - 1 ≡ j = omega arith in
    let t : List ℕ = last_digits j (n / 10) in
    let p : set out (at + j) (48 + n % 10) ≡ set out (at + length t) (digit (n % 10)) = rw (last_length j (n / 10), lt-ltb (n % 10) 10 (mod-lt n (omega arith))) in
    rw e (ap (λ (o : List ℕ). over t o at) p ∙ sym (over_snoc t (digit (n % 10)) out at (omega (arith, last_length j (n / 10)))))
