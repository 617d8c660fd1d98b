-- What a read's answer is, in the machine's two tests of it: whether it is negative, and its number.
use Rattle.std.specs.Prelude.{ℕ, zero, suc, ◌+◌, min, ◌≡◌, refl, ℤ, pos, negsuc, nat_abs, T, true, Some, None}
use Rattle.std.proofs.Common.{arith, ltb-true}
use Rattle.std.specs.Int.Signed.{non_neg, lt_z}
use Rattle.turns.specs.declared.Turn.{Turn}
use Rattle.turns.specs.Turn.{read_after}

module _ (t : Turn) (size : ℕ) where
  pub read_failed : (z : ℤ) → lt_z z (pos 0) ≡ true → None ≡ read_after t z size
  read_failed (pos n) h = absurd (omega (arith, ltb-true n 0 h))
  read_failed (negsuc n) h = refl

  pub read_none : (z : ℤ) → T (non_neg z) → nat_abs z ≡ 0 → Some (record { at = t.at; end = t.end; closed = true }) ≡ read_after t z size
  read_none (pos zero) h e = refl
  read_none (pos (suc n)) h e = absurd (omega arith)
  read_none (negsuc n) h e = absurd h

  pub read_some : (z : ℤ) (e : ℕ) → T (non_neg z) → (nat_abs z ≡ 0 → ⊥) → e ≡ min (t.end + nat_abs z) size
      → Some (record { at = t.at; end = e; closed = t.closed }) ≡ read_after t z size
  read_some (pos zero) e h n q = absurd (n refl)
  read_some (pos (suc k)) e h n q = rw q
  read_some (negsuc k) e h n q = absurd h
