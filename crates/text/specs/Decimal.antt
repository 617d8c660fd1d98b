-- What is claimed of a number in decimal: its digits say it, none is to spare, and how many they are.
use Rattle.std.specs.Prelude.{ℕ, zero, suc, ◌+◌, ◌-◌, ◌*◌, ◌/◌, ◌%◌, ◌^◌, ◌≤◌, ◌<◌, ◌≡◌, refl, Bool, true, false, List, [], ◌∷◌, ◌++◌, length, get_or, ltb}
use Rattle.std.proofs.Common.{sym, ◌∙◌, length-append, lt-ltb, ltb-true, ltb-false, pow-suc, div-lt_iff_lt-mul, le-div_iff_mul-le, mod-lt, arith}
use Rattle.std.proofs.Math.ListN.{get_or-append}
use Rattle.std.proofs.Math.Nat.{pow-zero, one-le-pow}
use Rattle.text.specs.Text.{digit, decimal_in}

-- what decimal digits say, where those in front of them say x
unfoldable pub value_from : ℕ → List ℕ → ℕ
value_from x [] = x
value_from x (d ∷ s) = value_from (x * 10 + (d - 48)) s

pub decimal_digit : (d : ℕ) → d < 10 → digit d ≡ 48 + d
decimal_digit d h = rw (lt-ltb d 10 h)

-- a number is a digit, or it has ten in it
pub decimal_cases : {P : Type 0} (n : ℕ) → (n < 10 → ltb n 10 ≡ true → P) → (10 ≤ n → ltb n 10 ≡ false → P) → P
decimal_cases {P} n f g = go (ltb n 10) refl
  where
    go : (t : Bool) → ltb n 10 ≡ t → P
    go true e = f (ltb-true n 10 e) e
    go false e = g (ltb-false n 10 e) e

pub snoc_length : (s : List ℕ) (x : ℕ) → length (s ++ (x ∷ [])) ≡ suc (length s)
snoc_length s x = length-append s (x ∷ []) ∙ omega arith

tenth : (k n : ℕ) → n < 10 ^ suc k → n / 10 < 10 ^ k
tenth k n h = (div-lt_iff_lt-mul {k = 10} {x = n} {y = 10 ^ k} (omega arith)).1 (rw pow-suc at h)

value_snoc : (x : ℕ) (s : List ℕ) (d : ℕ) → value_from x (s ++ (d ∷ [])) ≡ value_from x s * 10 + (d - 48)
unfolding value_from
value_snoc x [] d = refl
value_snoc x (e ∷ s) d = value_snoc (x * 10 + (e - 48)) s d

-- the digits of a number say the number
pub decimal_value : (k n : ℕ) → n < 10 ^ k → value_from 0 (decimal_in k n) ≡ n
unfolding decimal_in value_from
decimal_value zero n h = omega (arith, pow-zero 10)
decimal_value (suc k) n h =
    decimal_cases n
    (λ l e. rw e (omega arith))
    (λ l e. rw (e, value_snoc 0 (decimal_in k (n / 10)) (digit (n % 10)), decimal_value k (n / 10) (tenth k n h), decimal_digit (n % 10) (mod-lt n (omega arith))) (omega arith))

-- a number has a digit at least, where one is granted
pub decimal_some : (k n : ℕ) → 1 ≤ length (decimal_in (suc k) n)
unfolding decimal_in
decimal_some k n =
    decimal_cases n
    (λ l e. rw e (omega arith))
    (λ l e. rw (e, snoc_length (decimal_in k (n / 10)) (digit (n % 10))) (omega arith))

granted : (k n : ℕ) → n < 10 ^ k → 0 < n → 1 ≤ length (decimal_in k n)
granted zero n h p = absurd (omega (arith, pow-zero 10))
granted (suc k) n h p = decimal_some k n

-- no zero stands in front, but for the number 0
pub decimal_front : (k n : ℕ) → n < 10 ^ k → get_or (decimal_in k n) 0 0 ≡ 48 → n ≡ 0
unfolding decimal_in
decimal_front zero n h z = omega (arith, pow-zero 10)
decimal_front (suc k) n h z =
    decimal_cases n
    (λ l e. let d : 48 + n ≡ 48 = rw e at z in omega arith)
    (λ l e.
    let t : n / 10 < 10 ^ k = tenth k n h in
    let some : 1 ≤ length (decimal_in k (n / 10)) = granted k (n / 10) t (omega arith) in
    let d : get_or (decimal_in k (n / 10)) 0 0 ≡ 48 = sym (get_or-append (decimal_in k (n / 10)) (digit (n % 10) ∷ []) 0 0 some) ∙ (rw e at z) in
    omega (arith, decimal_front k (n / 10) t d))

-- how many digits: one of a number below 10, and j + 1 where it is 10 ^ j or more and below ten times that
pub decimal_places : (k j n : ℕ) → j < k → (0 < j → 10 ^ j ≤ n) → n < 10 ^ suc j → length (decimal_in k n) ≡ suc j
unfolding decimal_in
decimal_places zero j n h low high = absurd (omega arith)
decimal_places (suc k) zero n h low high =
    decimal_cases n (λ l e. rw e) (λ l e. absurd (omega (arith, pow-suc 10 0, pow-zero 10)))
decimal_places (suc k) (suc j) n h low high =
    let p : 10 ^ j * 10 ≤ n = rw pow-suc at (low (omega arith)) in
    let q : 10 ^ j ≤ n / 10 = (le-div_iff_mul-le {k = 10} {x = 10 ^ j} {y = n} (omega arith)).1 p in
    decimal_cases n
    (λ l e. absurd (omega (arith, one-le-pow j 10 (omega arith))))
    (λ l e.
    rw (e, snoc_length (decimal_in k (n / 10)) (digit (n % 10)), decimal_places k j (n / 10) (omega arith) (λ z. q) (tenth (suc j) n high)))

-- never more than were granted
pub decimal_most : (k n : ℕ) → length (decimal_in k n) ≤ k
unfolding decimal_in
decimal_most zero n = omega arith
decimal_most (suc k) n =
    decimal_cases n
    (λ l e. rw e (omega arith))
    (λ l e. rw (e, snoc_length (decimal_in k (n / 10)) (digit (n % 10))) (omega (arith, decimal_most k (n / 10))))
