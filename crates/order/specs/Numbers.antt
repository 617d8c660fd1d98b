-- A number and its bytes tell each other, over any width.
use Rattle.std.specs.Prelude.{ℕ, zero, suc, ◌+◌, ◌-◌, ◌*◌, ◌/◌, ◌%◌, ◌^◌, ◌<◌, ◌≡◌, refl, List, [], ◌∷◌, ◌++◌, length, get_or, take}
use Rattle.std.proofs.Common.{sym, ap, ap₂, ◌∙◌, length-append, length-take, take-suc, take_all, pow-add, shr-shr, pow-suc, arith}
use Rattle.std.proofs.Math.ListN.{get_or-append}
use Rattle.std.proofs.lemmas.List.{get_or_at}
use Rattle.sum.specs.Bytes.{Bytes, bytes_none, bytes_cons, bytes_append, bytes_take}
use Rattle.order.specs.Order.{high_first, byte_of, number_by, number_in}
use Rattle.order.specs.Big.{big_bytes}

-- a number of n bytes has 8 n bits
pub number_fits : (n : ℕ) (f : ℕ → ℕ) → ((j : ℕ) → f j < 256) → number_by f n < 2 ^ (8 * n)
unfolding number_by
number_fits zero f h = omega arith
number_fits (suc n) f h =
    let e : 8 * suc n ≡ 8 + 8 * n = omega arith in
    rw (e, pow-add 2 8 (8 * n)) (omega (arith, h 0, number_fits n (λ j. f (suc j)) (λ j. h (suc j))))

-- its byte j is f j
pub number_byte : (n : ℕ) (f : ℕ → ℕ) (j : ℕ) → ((j : ℕ) → f j < 256) → j < n → number_by f n / 2 ^ (8 * j) % 256 ≡ f j
unfolding number_by
number_byte zero f j h l = absurd (omega arith)
number_byte (suc n) f zero h l = omega (arith, h 0)
number_byte (suc n) f (suc j) h l =
    let r : ℕ = number_by (λ j. f (suc j)) n in
    let e : 8 * suc j ≡ 8 + 8 * j = omega arith in
    let q : (f 0 + 256 * r) / 256 ≡ r = omega (arith, h 0) in
    rw (e, ← shr-shr (f 0 + 256 * r) 8 (8 * j), q) (number_byte n (λ j. f (suc j)) j (λ j. h (suc j)) (omega arith))

-- and its bytes are told from it
pub number_bytes : (n : ℕ) (f g : ℕ → ℕ) → ((j : ℕ) → f j < 256) → ((j : ℕ) → g j < 256) → number_by f n ≡ number_by g n
    → (j : ℕ) → j < n → f j ≡ g j
number_bytes n f g hf hg e j l = sym (number_byte n f j hf l) ∙ ap (λ (x : ℕ). x / 2 ^ (8 * j) % 256) e ∙ number_byte n g j hg l

pub number_same : (n : ℕ) (f g : ℕ → ℕ) → ((j : ℕ) → j < n → f j ≡ g j) → number_by f n ≡ number_by g n
unfolding number_by
number_same zero f g e = refl
number_same (suc n) f g e =
    ap₂ (λ (x y : ℕ). x + 256 * y) (e 0 (omega arith)) (number_same n (λ j. f (suc j)) (λ j. g (suc j)) (λ j l. e (suc j) (omega arith)))

-- HIGH BYTE FIRST. One byte more behind a run
number_snoc : (w : ℕ) (t : List ℕ) (b : ℕ) → length t ≡ w → number_in high_first (suc w) (t ++ (b ∷ [])) ≡ number_in high_first w t * 256 + b
unfolding number_by
number_snoc w t b l =
    let s : List ℕ = t ++ (b ∷ []) in
    let last : get_or s w 0 ≡ b = get_or_at t b [] 0 w l in
    let z : suc w - 1 - 0 ≡ w = omega arith in
    let rest : number_by (λ j. byte_of high_first (suc w) s (suc j)) w ≡ number_in high_first w t =
    number_same w (λ j. byte_of high_first (suc w) s (suc j)) (byte_of high_first w t) before in
    rw (rest, z, last) (omega arith)
  where
    before : (j : ℕ) → j < w → byte_of high_first (suc w) (t ++ (b ∷ [])) (suc j) ≡ byte_of high_first w t j
    before j h =
        let e : suc w - 1 - suc j ≡ w - 1 - j = omega arith in
        rw e (get_or-append t (b ∷ []) 0 (w - 1 - j) (omega arith))

-- a run of w + 1 bytes is w bytes and its last
split_last : (w : ℕ) (s : List ℕ) → length s ≡ suc w → s ≡ take w s ++ (get_or s w 0 ∷ [])
split_last w s l = sym (take_all (suc w) s (omega arith)) ∙ take-suc s w 0 (omega arith)

number_last : (w : ℕ) (s : List ℕ) → length s ≡ suc w → number_in high_first (suc w) s ≡ number_in high_first w (take w s) * 256 + get_or s w 0
number_last w s l =
    ap (number_in high_first (suc w)) (split_last w s l) ∙ number_snoc w (take w s) (get_or s w 0) (simp length-take (omega arith))

pub length_big : (w n : ℕ) → length (big_bytes w n) ≡ w
length_big zero n = refl
length_big (suc w) n = simp length-append (omega (arith, length_big w (n / 256)))

pub big_are_bytes : (w n : ℕ) → Bytes (big_bytes w n)
big_are_bytes zero n = bytes_none
big_are_bytes (suc w) n =
    bytes_append (big_bytes w (n / 256)) (big_are_bytes w (n / 256)) (bytes_cons {b = n % 256} (omega arith) bytes_none)

-- the number of a number's bytes is that number, where it is not too large for them
pub number_of_bytes : (w n : ℕ) → n < 256 ^ w → number_in high_first w (big_bytes w n) ≡ n
unfolding number_by
number_of_bytes zero n h = omega arith
number_of_bytes (suc w) n h =
    let q : n / 256 < 256 ^ w = omega (arith, pow-suc 256 w) in
    number_snoc w (big_bytes w (n / 256)) (n % 256) (length_big w (n / 256)) ∙ omega (arith, number_of_bytes w (n / 256) q)

-- and the bytes of a run's number are that run
pub bytes_of_number : (w : ℕ) (s : List ℕ) → length s ≡ w → Bytes s → big_bytes w (number_in high_first w s) ≡ s
bytes_of_number zero [] l h = refl
bytes_of_number zero (b ∷ s) l h = absurd (omega arith)
bytes_of_number (suc w) s l h =
    let t : List ℕ = take w s in
    let b : ℕ = get_or s w 0 in
    let x : ℕ = number_in high_first (suc w) s in
    let n : x ≡ number_in high_first w t * 256 + b = number_last w s l in
    let m : b < 256 = h.byte w in
    let hi : x / 256 ≡ number_in high_first w t = omega arith in
    let lo : x % 256 ≡ b = omega arith in
    rw (hi, lo, bytes_of_number w t (simp length-take (omega arith)) (bytes_take w s h)) (sym (split_last w s l))

-- which is not too large for them
pub number_below : (w : ℕ) (s : List ℕ) → length s ≡ w → Bytes s → number_in high_first w s < 256 ^ w
unfolding number_by
number_below zero s l h = omega arith
number_below (suc w) s l h =
    let lt : length (take w s) ≡ w = simp length-take (omega arith) in
    omega (arith, pow-suc 256 w, number_last w s l, number_below w (take w s) lt (bytes_take w s h), h.byte w)
