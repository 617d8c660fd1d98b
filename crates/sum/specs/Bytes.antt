-- A run of bytes: what a slice of `u8` holds.
use Rattle.std.specs.Prelude.{ℕ, zero, suc, ◌<◌, List, [], ◌∷◌, ◌++◌, get_or, take, drop}
use Rattle.std.proofs.Common.{arith}

-- every place holds a byte (what lies past the end reads 0)
pub record Bytes (s : List ℕ) : Type 0 where
  pub byte : (i : ℕ) → get_or s i 0 < 256

pub bytes_none : Bytes []
bytes_none = record { byte = λ i. omega arith }

pub bytes_cons : {b : ℕ} {s : List ℕ} → b < 256 → Bytes s → Bytes (b ∷ s)
bytes_cons {b} {s} h k = record { byte = at }
  where
    at : (i : ℕ) → get_or (b ∷ s) i 0 < 256
    at zero = h
    at (suc i) = k.byte i

pub bytes_head : {b : ℕ} {s : List ℕ} → Bytes (b ∷ s) → b < 256
bytes_head h = h.byte 0

pub bytes_tail : {b : ℕ} {s : List ℕ} → Bytes (b ∷ s) → Bytes s
bytes_tail h = record { byte = λ i. h.byte (suc i) }

pub bytes_append : (s : List ℕ) {t : List ℕ} → Bytes s → Bytes t → Bytes (s ++ t)
bytes_append [] h k = k
bytes_append (b ∷ s) h k = bytes_cons (bytes_head h) (bytes_append s (bytes_tail h) k)

pub bytes_take : (n : ℕ) (s : List ℕ) → Bytes s → Bytes (take n s)
bytes_take zero s h = bytes_none
bytes_take (suc n) [] h = bytes_none
bytes_take (suc n) (b ∷ s) h = bytes_cons (bytes_head h) (bytes_take n s (bytes_tail h))

pub bytes_drop : (n : ℕ) (s : List ℕ) → Bytes s → Bytes (drop n s)
bytes_drop zero s h = h
bytes_drop (suc n) [] h = bytes_none
bytes_drop (suc n) (b ∷ s) h = bytes_drop n s (bytes_tail h)
