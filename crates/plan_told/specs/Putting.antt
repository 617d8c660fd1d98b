-- Bytes of a request that are not there, numbers of other refusals, and what is no change that adds.
use Rattle.std.specs.Prelude.{ℕ, ◌≤◌, ◌≡◌, refl, false, List, [], ◌∷◌, length, eqb}
use Rattle.std.proofs.Common.{sym, ne_eqb, arith}
use Rattle.refusal.specs.Refusals.{number_of, number_one}
use Rattle.refusal.specs.declared.Refusal.{Refusal}
use Rattle.std.proofs.Math.ListN.{get_or-eq_default}
use Rattle.sum.specs.Sum.{sum_from}
use Rattle.frame.specs.Frame.{byte}
use Rattle.plan_told.specs.Told.{last_of}

-- a byte that is not there
pub byte_none : (i : ℕ) (s : List ℕ) → length s ≤ i → 0 ≡ byte i s
byte_none i s h = sym (get_or-eq_default s 0 {n = i} h)

-- no bytes, and so none to be the last
pub last_none : (s : List ℕ) → length s ≡ 0 → 0 ≡ last_of s
unfolding sum_from
last_none [] h = refl
last_none (b ∷ s) h = absurd (omega arith)

-- another refusal has another number
pub number_not : (r q : Refusal) → (r ≡ q → ⊥) → eqb (number_of r) (number_of q) ≡ false
number_not r q h = ne_eqb (number_of r) (number_of q) (λ e. h (number_one r q e))
