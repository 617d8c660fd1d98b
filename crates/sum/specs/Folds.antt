-- Laws of lanes and of folding, for any width: in lanes the exclusive-or is taken byte by byte, a number is folded in its middle, and
-- the lanes of a run's bytes give its sum, however it is cut into numbers.
use Rattle.std.specs.Prelude.{ℕ, zero, suc, ◌+◌, ◌*◌, ◌/◌, ◌%◌, ◌^◌, ◌≤◌, ◌<◌, ◌≡◌, refl, List, [], ◌∷◌, length, get_or, take, drop}
use Rattle.std.proofs.Common.{sym, ap, ◌∙◌, length-take, length-drop, take-append-drop, take_all, take-add, drop-drop, shr-shr, arith}
use Rattle.std.proofs.Math.Seq.{take-nil}
use Rattle.std.specs.Int.Bits.{bit_xor, xor_zero_l}
use Rattle.std.proofs.lemmas.Nat.{xor_shr, xor_mod}
use Rattle.std.proofs.Math.Nat.{zero-div}
use Rattle.sum.specs.Bytes.{Bytes, bytes_head, bytes_tail, bytes_take, bytes_drop}
use Rattle.sum.specs.Xor.{xor_assoc, xor_medial}
use Rattle.sum.specs.Sum.{sum_from, sum_of}
use Rattle.sum.specs.Sums.{sum_cons, sum_append}
use Rattle.sum.specs.Lanes.{low, lanes}

-- one lane further, and n more
further : (n x : ℕ) → x / 256 / 2 ^ (8 * n) ≡ x / 2 ^ (8 * suc n)
further n x =
    let e : 8 * suc n ≡ 8 + 8 * n = omega arith in
    rw e (shr-shr x 8 (8 * n))

-- LANES. Of nothing
pub lanes_none : (n : ℕ) → lanes n 0 ≡ 0
unfolding lanes
lanes_none zero = refl
lanes_none (suc n) = rw (lanes_none n) refl

-- of the exclusive-or of two numbers
pub lanes_xor : (n x y : ℕ) → lanes n (bit_xor x y) ≡ bit_xor (lanes n x) (lanes n y)
unfolding lanes
lanes_xor zero x y = refl
lanes_xor (suc n) x y =
    rw (xor_shr x y 8, xor_mod x y 8, lanes_xor n (x / 256) (y / 256))
    (xor_medial (x % 256) (y % 256) (lanes n (x / 256)) (lanes n (y / 256)))

-- the m low ones, and k above them
pub lanes_split : (m k x : ℕ) → lanes (m + k) x ≡ bit_xor (lanes m x) (lanes k (x / 2 ^ (8 * m)))
unfolding lanes
lanes_split zero k x =
    let e : 0 + k ≡ k = omega arith in
    let d : x / 1 ≡ x = omega arith in
    rw (e, d) (sym (xor_zero_l (lanes k x)))
lanes_split (suc m) k x =
    let e : suc m + k ≡ suc (m + k) = omega arith in
    rw (e, lanes_split m k (x / 256), further m x)
    (sym (xor_assoc (x % 256) (lanes m (x / 256)) (lanes k (x / 2 ^ (8 * suc m)))))

-- FOLDING. A number folded in its middle
pub lanes_fold : (m x : ℕ) → lanes (m + m) x ≡ lanes m (bit_xor x (x / 2 ^ (8 * m)))
lanes_fold m x = lanes_split m m x ∙ sym (lanes_xor m x (x / 2 ^ (8 * m)))

-- BYTES IN LANES. A run in as many lanes as it has bytes, or in more
pub lanes_low : (n : ℕ) (s : List ℕ) → Bytes s → length s ≤ n → lanes n (low s) ≡ sum_of s
unfolding lanes low sum_from
lanes_low n [] h l = lanes_none n
lanes_low zero (b ∷ s) h l = absurd (omega arith)
lanes_low (suc n) (b ∷ s) h l =
    let m : b < 256 = bytes_head h in
    let lo : (b + 256 * low s) % 256 ≡ b = omega arith in
    let hi : (b + 256 * low s) / 256 ≡ low s = omega arith in
    rw (lo, hi, lanes_low n s (bytes_tail h) (omega arith)) (sym (sum_cons b s))

-- a run's number without its c low bytes
pub low_drop : (c : ℕ) (s : List ℕ) → Bytes s → low s / 2 ^ (8 * c) ≡ low (drop c s)
unfolding low
low_drop zero s h = let d : low s / 1 ≡ low s = omega arith in d
low_drop (suc c) [] h = zero-div (2 ^ (8 * suc c))
low_drop (suc c) (b ∷ s) h =
    let m : b < 256 = bytes_head h in
    let hi : (b + 256 * low s) / 256 ≡ low s = omega arith in
    sym (further c (b + 256 * low s)) ∙ rw hi (low_drop c s (bytes_tail h))

-- the byte at a place of a run, and k behind it
low_at : (k i : ℕ) (s : List ℕ) → low (take (suc k) (drop i s)) ≡ get_or s i 0 + 256 * low (take k (drop (suc i) s))
unfolding low
low_at k zero [] = rw (take-nil {A = ℕ} k) refl
low_at k (suc i) [] = rw (take-nil {A = ℕ} k) refl
low_at k zero (b ∷ s) = refl
low_at k (suc i) (b ∷ s) = low_at k i s

-- in the places' own words: i, and i + j behind it
low_first_lem : (k i : ℕ) (s : List ℕ) → low (take (suc k) (drop i s)) ≡ get_or s i 0 + 256 * low (take k (drop (i + 1) s))
low_first_lem k i s =
    let e : i + 1 ≡ suc i = omega arith in
    rw e (low_at k i s)

low_next : (k i j : ℕ) (s : List ℕ) → low (take (suc k) (drop (i + j) s)) ≡ get_or s (i + j) 0 + 256 * low (take k (drop (i + suc j) s))
low_next k i j s =
    let e : i + suc j ≡ suc (i + j) = omega arith in
    rw e (low_at k (i + j) s)

-- so eight bytes in eight lanes, and four
pub low_eight : (i : ℕ) (s : List ℕ) → low (take 8 (drop i s)) ≡ low (get_or s i 0 ∷ get_or s (i + 1) 0 ∷ get_or s (i + 2) 0 ∷ get_or s (i + 3) 0 ∷ get_or s (i + 4) 0 ∷ get_or s (i + 5) 0 ∷ get_or s (i + 6) 0 ∷ get_or s (i + 7) 0 ∷ [])
unfolding low
low_eight i s = low_first_lem 7 i s ∙ rw (low_next 6 i 1 s, low_next 5 i 2 s, low_next 4 i 3 s, low_next 3 i 4 s, low_next 2 i 5 s, low_next 1 i 6 s, low_next 0 i 7 s) refl

pub low_four : (i : ℕ) (s : List ℕ) → low (take 4 (drop i s)) ≡ low (get_or s i 0 ∷ get_or s (i + 1) 0 ∷ get_or s (i + 2) 0 ∷ get_or s (i + 3) 0 ∷ 0 ∷ 0 ∷ 0 ∷ 0 ∷ [])
unfolding low
low_four i s = low_first_lem 3 i s ∙ rw (low_next 2 i 1 s, low_next 1 i 2 s, low_next 0 i 3 s) refl

-- x holds k bytes from the place i on, and behind them there is none: shifted by c bytes it holds those from e on
pub low_rest : (k i c e x : ℕ) (s : List ℕ) → Bytes s → length s ≤ i + k → i + c ≡ e → x ≡ low (take k (drop i s)) → x / 2 ^ (8 * c) ≡ low (drop e s)
low_rest k i c e x s h l p q =
    rw (q, take_all k (drop i s) (simp length-drop (omega arith)))
    (low_drop c (drop i s) (bytes_drop i s h) ∙ ap low (drop-drop c i s ∙ ap (λ (m : ℕ). drop m s) p))

-- WORD BY WORD. n lanes hold the sum of a run: of its first k bytes
pub lanes_first : (n k x : ℕ) (s : List ℕ) → Bytes s → k ≤ n → x ≡ low (take k s) → lanes n x ≡ sum_of (take k s)
lanes_first n k x s h l q = rw q (lanes_low n (take k s) (bytes_take k s h) (simp length-take (omega arith)))

-- of those before the place i, and of k more
pub lanes_more : (n k i j w x : ℕ) (s : List ℕ) → Bytes s → k ≤ n → i + k ≡ j → x ≡ low (take k (drop i s)) → lanes n w ≡ sum_of (take i s)
    → lanes n (bit_xor w x) ≡ sum_of (take j s)
lanes_more n k i j w x s h l p q e =
    lanes_xor n w x
    ∙ rw (e, lanes_first n k x (drop i s) (bytes_drop i s h) l q, ← p, take-add i k s) (sym (sum_append (take i s) (take k (drop i s))))

-- where two numbers hold them, k more in each
pub lanes_both : (n k i m j w v x y : ℕ) (s : List ℕ) → Bytes s → k ≤ n → i + k ≡ m → m + k ≡ j → x ≡ low (take k (drop i s)) → y ≡ low (take k (drop m s))
    → lanes n (bit_xor w v) ≡ sum_of (take i s)
    → lanes n (bit_xor (bit_xor w x) (bit_xor v y)) ≡ sum_of (take j s)
lanes_both n k i m j w v x y s h l p q a b e =
    rw (xor_medial w x v y, ← xor_assoc (bit_xor w v) x y)
    (lanes_more n k m j (bit_xor (bit_xor w v) x) y s h l q b (lanes_more n k i m (bit_xor w v) x s h l p a e))

-- and of all that are left
pub lanes_rest : (n i w x : ℕ) (s : List ℕ) → Bytes s → length s ≤ i + n → x ≡ low (drop i s) → lanes n w ≡ sum_of (take i s)
    → lanes n (bit_xor w x) ≡ sum_of s
lanes_rest n i w x s h l q e =
    lanes_xor n w x
    ∙ rw (e, q, lanes_low n (drop i s) (bytes_drop i s h) (simp length-drop (omega arith)))
    (sym (sum_append (take i s) (drop i s)) ∙ ap sum_of (take-append-drop i s))
