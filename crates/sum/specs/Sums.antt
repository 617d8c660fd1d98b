-- Laws of the sum: of runs one behind the other, of bytes, and that a run has 0 exactly where its last byte is the sum of the others.
use Rattle.std.specs.Prelude.{ℕ, ◌+◌, ◌≤◌, ◌<◌, length, get_or, drop, List, [], ◌∷◌, ◌++◌, ◌≡◌, refl}
use Rattle.std.proofs.Common.{add-one, drop_of_length-le, drop-cons, sym, ◌∙◌, arith}
use Rattle.std.specs.Int.Bits.{bit_xor, xor_self, xor_zero_l, xor_zero_r}
use Rattle.std.proofs.lemmas.Nat.{xor_lt}
use Rattle.sum.specs.Bytes.{Bytes, bytes_head, bytes_tail}
use Rattle.sum.specs.Xor.{xor_assoc, xor_cancel}
use Rattle.sum.specs.Sum.{sum_from, sum_of}

-- one byte more: what is left of the run from i on gives the whole
pub sum_turn : (x i : ℕ) (s : List ℕ) → i < length s → sum_from (bit_xor x (get_or s i 0)) (drop (i + 1) s) ≡ sum_from x (drop i s)
unfolding sum_from
sum_turn x i s h = rw (add-one, drop-cons s i 0)

pub sum_done : (x i : ℕ) (s : List ℕ) → length s ≤ i → sum_from x (drop i s) ≡ x
unfolding sum_from
sum_done x i s h = rw drop_of_length-le

-- where the run begins does not matter
pub sum_from_lem : (x : ℕ) (s : List ℕ) → sum_from x s ≡ bit_xor x (sum_of s)
unfolding sum_from
sum_from_lem x [] = sym (xor_zero_r x)
sum_from_lem x (b ∷ s) = sum_from_lem (bit_xor x b) s ∙ xor_assoc x b (sum_of s) ∙ rw (xor_zero_l b, sum_from_lem b s)

-- of two runs, one behind the other
pub sum_append : (s t : List ℕ) → sum_of (s ++ t) ≡ bit_xor (sum_of s) (sum_of t)
unfolding sum_from
sum_append s t = go 0 s ∙ sum_from_lem (sum_of s) t
  where
    go : (x : ℕ) (s : List ℕ) → sum_from x (s ++ t) ≡ sum_from (sum_from x s) t
    go x [] = refl
    go x (b ∷ s) = go (bit_xor x b) s

-- of a byte in front of a run, and of one at its end
pub sum_cons : (b : ℕ) (s : List ℕ) → sum_of (b ∷ s) ≡ bit_xor b (sum_of s)
unfolding sum_from
sum_cons b s = rw (xor_zero_l b) (sum_from_lem b s)

pub sum_snoc : (s : List ℕ) (b : ℕ) → sum_of (s ++ (b ∷ [])) ≡ bit_xor (sum_of s) b
unfolding sum_from
sum_snoc s b = sum_append s (b ∷ []) ∙ rw (xor_zero_l b)

-- the sum of bytes is a byte
pub sum_byte : {s : List ℕ} → Bytes s → sum_of s < 256
unfolding sum_from
sum_byte {s} h = go 0 s (omega arith) h
  where
    go : (x : ℕ) (s : List ℕ) → x < 256 → Bytes s → sum_from x s < 256
    go x [] hx h = hx
    go x (b ∷ s) hx h = go (bit_xor x b) s (xor_lt 8 x b hx (bytes_head h)) (bytes_tail h)

-- a run that ends in its own sum has 0, and only such a run has
pub sum_closed : (s : List ℕ) → sum_of (s ++ (sum_of s ∷ [])) ≡ 0
sum_closed s = rw (sum_snoc, xor_self)

pub sum_closes : (s : List ℕ) (b : ℕ) → sum_of (s ++ (b ∷ [])) ≡ 0 → b ≡ sum_of s
sum_closes s b e = sym (xor_cancel (sum_of s) b (sym (sum_snoc s b) ∙ e))
