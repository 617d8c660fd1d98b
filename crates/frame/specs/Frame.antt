-- Document 01, "Frames": a frame's last byte is its sum, which makes the exclusive-or of all its bytes 0.
use Rattle.std.specs.Prelude.{ℕ, zero, suc, ◌+◌, ◌-◌, ◌≤◌, ◌≡◌, refl, List, [], ◌∷◌, ◌++◌, length, get_or, take, drop}
use Rattle.std.proofs.Common.{sym, ap, ◌∙◌, length-append, take-append-drop, drop_of_length-le, drop-cons, take-add, add-suc, suc-add, add-zero, zero-add, arith}
use Rattle.sum.specs.Bytes.{Bytes, bytes_none, bytes_cons, bytes_append}
use Rattle.sum.specs.Sum.{sum_of}
use Rattle.sum.specs.Sums.{sum_closed, sum_closes, sum_byte}

-- the byte at a place of a datagram
abbrev pub byte : ℕ → List ℕ → ℕ
byte i d = get_or d i 0

-- some bytes, and their sum behind them
abbrev pub sealed : List ℕ → List ℕ
sealed s = s ++ (sum_of s ∷ [])

-- the bytes in front of the last
abbrev pub unsealed : List ℕ → List ℕ
unsealed d = take (length d - 1) d

pub sealed_length : (s : List ℕ) → length (sealed s) ≡ length s + 1
sealed_length s = simp length-append

pub sealed_sum : (s : List ℕ) → sum_of (sealed s) ≡ 0
sealed_sum s = sum_closed s

-- a datagram whose exclusive-or is 0 is some bytes and their sum, and no other bytes
pub sealed_of : (d : List ℕ) → 1 ≤ length d → sum_of d ≡ 0 → d ≡ sealed (unsealed d)
sealed_of d h e =
    let n : ℕ = length d - 1 in
    let f : d ≡ take n d ++ (get_or d n 0 ∷ []) = sym (take-append-drop n d) ∙ rw (drop-cons d n 0 (omega arith), drop_of_length-le d {i = suc n} (omega arith)) in
    let k : get_or d n 0 ≡ sum_of (take n d) = sum_closes (take n d) (get_or d n 0) (sym (ap sum_of f) ∙ e) in
    f ∙ rw k

-- n bytes of a datagram from place i on, one by one
abbrev pub listed : ℕ → ℕ → List ℕ → List ℕ
listed i zero d = []
listed i (suc n) d = get_or d i 0 ∷ listed (suc i) n d

pub listed_take : (i n : ℕ) (d : List ℕ) → i + n ≤ length d → take n (drop i d) ≡ listed i n d
listed_take i zero d h = refl
listed_take i (suc n) d h =
    let l : suc i + n ≤ length d = omega (arith, add-suc i n, suc-add i n) in
    rw (drop-cons d i 0 (omega arith)) (ap (λ (l : List ℕ). get_or d i 0 ∷ l) (listed_take (suc i) n d l))

pub length_listed : (i n : ℕ) (d : List ℕ) → length (listed i n d) ≡ n
length_listed i zero d = refl
length_listed i (suc n) d = ap suc (length_listed (suc i) n d)

pub listed_append : (i m n : ℕ) (d : List ℕ) → listed i (m + n) d ≡ listed i m d ++ listed (i + m) n d
listed_append i zero n d = rw (zero-add n, add-zero i)
listed_append i (suc m) n d =
    let e : suc i + m ≡ i + suc m = omega arith in
    rw suc-add (ap (λ (l : List ℕ). get_or d i 0 ∷ l) (listed_append (suc i) m n d ∙ rw e))

-- a datagram of h + n + 1 bytes whose exclusive-or is 0: its first h bytes one by one, then n bytes, then their sum
pub opened : (h n : ℕ) (d : List ℕ) → length d ≡ h + n + 1 → sum_of d ≡ 0 → d ≡ sealed (listed 0 h d ++ take n (drop h d))
opened h n d l e =
    let m : length d - 1 ≡ h + n = omega arith in
    sealed_of d (omega arith) e ∙ rw (m, take-add h n d, listed_take 0 h d (omega arith))

pub sealed_bytes : {s : List ℕ} → Bytes s → Bytes (sealed s)
sealed_bytes {s} h = bytes_append s h (bytes_cons (sum_byte h) bytes_none)
