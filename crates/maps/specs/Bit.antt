-- The bits of a number: how many are set, and the lowest that is.
use Rattle.std.specs.Prelude.{ℕ, zero, suc, ◌+◌, ◌/◌, ◌%◌, ◌^◌, ◌<◌, ◌≡◌, eqb}
use Rattle.refusal.specs.Test.{pick}

-- bit k of a number: 0 or 1
unfoldable pub bit : ℕ → ℕ → ℕ
bit n k = n / 2 ^ k % 2

-- how many k below w have f k = 1, where f gives 0 or 1
unfoldable pub how_many : (ℕ → ℕ) → ℕ → ℕ
how_many f zero = 0
how_many f (suc w) = f 0 + how_many (λ k. f (suc k)) w

-- the lowest k below w that has f k = 1; w where none has
unfoldable pub lowest : (ℕ → ℕ) → ℕ → ℕ
lowest f zero = 0
lowest f (suc w) = pick (eqb (f 0) 1) 0 (suc (lowest (λ k. f (suc k)) w))

-- k is the lowest below w: it is set, and none below it is
pub record Least (f : ℕ → ℕ) (w k : ℕ) : Type 0 where
  pub inside : k < w
  pub set : f k ≡ 1
  pub none : (j : ℕ) → j < k → f j ≡ 0
