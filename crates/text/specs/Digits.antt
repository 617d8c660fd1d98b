-- The digits of a number in decimal as a program finds them, each from the last one on. And the numbers of one digit and of two, of which
-- each digit is a sum.
use Rattle.std.specs.Prelude.{ℕ, zero, suc, ◌+◌, ◌/◌, ◌%◌, ◌≤◌, ◌<◌, ◌≡◌, refl, List, [], ◌∷◌, ◌++◌, length}
use Rattle.std.proofs.Common.{ap, ◌∙◌, length-append, lt-ltb, le-ltb, mod-eq_of_lt, arith}
use Rattle.text.specs.Text.{digit, decimal_in, decimal_of}
use Rattle.text.specs.Decimal.{decimal_cases, snoc_length}

-- the last k decimal digits of a number
unfoldable pub last_digits : ℕ → ℕ → List ℕ
last_digits zero n = []
last_digits (suc k) n = last_digits k (n / 10) ++ (digit (n % 10) ∷ [])

pub last_length : (k n : ℕ) → length (last_digits k n) ≡ k
unfolding last_digits
last_length zero n = refl
last_length (suc k) n = length-append (last_digits k (n / 10)) (digit (n % 10) ∷ []) ∙ rw (last_length k (n / 10)) (omega arith)

-- a number in decimal is its last digits, as many as there are
pub decimal_last : (k n : ℕ) → decimal_in k n ≡ last_digits (length (decimal_in k n)) n
unfolding decimal_in last_digits
decimal_last zero n = refl
decimal_last (suc k) n =
    decimal_cases n
    (λ h e. rw (e, mod-eq_of_lt h, e))
    (λ h e. rw (e, snoc_length (decimal_in k (n / 10)) (digit (n % 10))) (ap (λ (s : List ℕ). s ++ (digit (n % 10) ∷ [])) (decimal_last k (n / 10))))

-- one digit, and two
pub decimal_one : (n : ℕ) → n < 10 → decimal_of n ≡ (48 + n) ∷ []
unfolding decimal_in
decimal_one n h = simp (lt-ltb n 10 h)

pub decimal_two : (n : ℕ) → 10 ≤ n → n < 100 → decimal_of n ≡ (48 + n / 10) ∷ (48 + n % 10) ∷ []
unfolding decimal_in
decimal_two n h l =
    let a : n / 10 < 10 = omega arith in
    let b : n % 10 < 10 = omega arith in
    simp (le-ltb n 10 h, lt-ltb (n / 10) 10 a, lt-ltb (n % 10) 10 b)

-- a number below 100 has no more
pub two_most : (n : ℕ) → n < 100 → length (decimal_of n) ≤ 2
two_most n h = decimal_cases n (λ l e. rw (decimal_one n l) (omega arith)) (λ l e. rw (decimal_two n l h) (omega arith))
