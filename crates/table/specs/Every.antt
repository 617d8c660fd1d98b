-- A test of each entry of a list, with its place: computed over the whole list at once, and carried to each entry.
use Rattle.std.specs.Prelude.{ℕ, zero, suc, ◌+◌, ◌<◌, ◌≡◌, Bool, true, ◌&&◌, List, [], ◌∷◌, length, get_or}
use Rattle.std.proofs.Common.{sym, subst, ◌∙◌, add-zero, zero-add, add-suc, suc-add, arith}
use Rattle.refusal.specs.Test.{both_left, both_right}

-- the test passes at each entry, whose places are counted from i
abbrev pub every : (ℕ → ℕ → Bool) → ℕ → List ℕ → Bool
every test i [] = true
every test i (x ∷ xs) = test i x && every test (suc i) xs

from : (test : ℕ → ℕ → Bool) (xs : List ℕ) (i k : ℕ) → every test i xs ≡ true → k < length xs → test (i + k) (get_or xs k 0) ≡ true
from test [] i k t h = absurd (omega arith)
from test (x ∷ xs) i zero t h = rw (add-zero i) (both_left (test i x) (every test (suc i) xs) t)
from test (x ∷ xs) i (suc k) t h =
    subst (λ (m : ℕ). test m (get_or xs k 0) ≡ true) (suc-add i k ∙ sym (add-suc i k))
    (from test xs (suc i) k (both_right (test i x) (every test (suc i) xs) t) (omega arith))

pub each : (test : ℕ → ℕ → Bool) (xs : List ℕ) (k : ℕ) → every test 0 xs ≡ true → k < length xs → test k (get_or xs k 0) ≡ true
each test xs k t h = subst (λ (m : ℕ). test m (get_or xs k 0) ≡ true) (zero-add k) (from test xs 0 k t h)
