-- A run of bytes at the front of an array, and zeros behind it.
use Rattle.std.specs.Prelude.{ℕ, zero, suc, ◌-◌, ◌≤◌, ◌≡◌, List, [], ◌∷◌, length, get_or, take, drop}
use Rattle.std.proofs.Math.Path.{refl}
use Rattle.std.proofs.Common.{ap, ◌∙◌, length-append, zero-add, arith}
use Rattle.std.proofs.Math.ListN.{replicate, length-replicate}
use Rattle.std.proofs.Math.Seq.{take_at}
use Rattle.lent.specs.Puts.{Puts}
use Rattle.lent.specs.Over.{puts_room}
use Rattle.reader.specs.Reader.{pad}

-- zeros, by their number
zeros_same : (k n : ℕ) → k ≡ n → replicate {A = ℕ} k 0 ≡ replicate n 0
zeros_same k n e = ap (λ (z : ℕ). replicate {A = ℕ} z 0) e

drop_zeros : (k n : ℕ) → drop {A = ℕ} k (replicate n 0) ≡ replicate (n - k) 0
drop_zeros zero n = zeros_same n (n - 0) (omega arith)
drop_zeros (suc k) zero = zeros_same 0 (0 - suc k) (omega arith)
drop_zeros (suc k) (suc n) = drop_zeros k n ∙ zeros_same (n - k) (suc n - suc k) (omega arith)

module _ (n : ℕ) (l : List ℕ) where
  pub length_pad : length l ≤ n → length (pad n l) ≡ n
  unfolding pad
  length_pad h = simp (length-append, length-replicate) (omega arith)

  pub take_pad : take (length l) (pad n l) ≡ l
  unfolding pad
  take_pad = take_at l _ (length l) refl

  -- put into an array of zeros
  pub filled : (r : ℕ) (b : List ℕ) → length l ≤ n → Puts l (replicate n 0) 0 r b → (r ≡ length l) × (b ≡ pad n l)
  unfolding pad
  filled r b h p =
      let w = puts_room {t = l} {out = replicate n 0} (simp length-replicate (omega arith)) p in
      (omega (arith, w.0), w.1 ∙ rw (zero-add, drop_zeros (length l) n))

-- one byte put into an array of zeros
pub filled_one : (n : ℕ) (s : List ℕ) (r : ℕ) (b : List ℕ) → length s ≡ 1 → 1 ≤ n → Puts (get_or s 0 0 ∷ []) (replicate n 0) 0 r b
    → b ≡ pad n s
filled_one n [] r b l h p = absurd (omega arith)
filled_one n (x ∷ []) r b l h p = (filled n (x ∷ []) r b (omega arith) p).1
filled_one n (x ∷ (y ∷ s)) r b l h p = absurd (omega arith)
