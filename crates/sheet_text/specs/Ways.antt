-- What is put to fill a width.
use Rattle.std.specs.Prelude.{ℕ, zero, suc, ◌≤◌, ◌≡◌, refl, ◌∷◌, List, take, replicate}
use Rattle.std.proofs.Common.{ap, arith}

-- so many times the same byte
pub take_same : (k n b : ℕ) → k ≤ n → take k (replicate n b) ≡ replicate k b
take_same zero n b h = refl
take_same (suc k) zero b h = absurd (omega arith)
take_same (suc k) (suc n) b h = ap (λ (l : List ℕ). b ∷ l) (take_same k n b (omega arith))
