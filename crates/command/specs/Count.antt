-- How many numbers a test takes.
use Rattle.std.specs.Prelude.{ℕ, zero, suc, ◌+◌, Bool}
use Rattle.refusal.specs.Test.{pick}

-- of those below n
unfoldable pub count_below : (ℕ → Bool) → ℕ → ℕ
count_below test zero = 0
count_below test (suc n) = pick (test n) 1 0 + count_below test n
