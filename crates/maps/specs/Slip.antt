-- Document 01, "Slips we have seen": "A mask read low byte first: 264 becomes 2049, hiding types 0 and 11." "One byte order for all
-- reply maps." The wrong order gives the right number only where the bytes are the same from either end.
use Rattle.std.specs.Prelude.{ℕ, zero, suc, ◌-◌, ◌<◌, ◌≡◌, refl, ◌↔◌, List, [], ◌∷◌, get_or}
use Rattle.std.proofs.Common.{sym, arith}
use Rattle.sum.specs.Bytes.{Bytes, bytes_none, bytes_cons}
use Rattle.maps.specs.Bit.{bit, how_many}
use Rattle.order.specs.Order.{high_first, low_first, byte_of, number_in, number_by}
use Rattle.order.specs.Numbers.{number_bytes, number_same}
use Rattle.maps.specs.Maps.{count_of}

pub orders_agree : (n : ℕ) {s : List ℕ} → Bytes s
    → (number_in high_first n s ≡ number_in low_first n s) ↔ ((j : ℕ) → j < n → get_or s (n - 1 - j) 0 ≡ get_or s j 0)
orders_agree n {s} b =
    let high = byte_of high_first n s in
    let low = byte_of low_first n s in
    (number_bytes n high low (λ j. b.byte (n - 1 - j)) (λ j. b.byte j), number_same n high low)

-- the two readings of a mask agree exactly where its two bytes are equal
pub mask_slip : (high low : ℕ) → high < 256 → low < 256
    → (number_in high_first 2 (high ∷ low ∷ []) ≡ number_in low_first 2 (high ∷ low ∷ [])) ↔ (high ≡ low)
mask_slip high low h l = (λ e. agree.0 e 1 (omega arith), λ e. agree.1 (λ j g. equal e j g))
  where
    s : List ℕ
    s = high ∷ low ∷ []

    agree : (number_in high_first 2 s ≡ number_in low_first 2 s) ↔ ((j : ℕ) → j < 2 → get_or s (1 - j) 0 ≡ get_or s j 0)
    agree = orders_agree 2 (bytes_cons h (bytes_cons l bytes_none))

    equal : high ≡ low → (j : ℕ) → j < 2 → get_or s (1 - j) 0 ≡ get_or s j 0
    equal e zero g = sym e
    equal e (suc zero) g = e
    equal e (suc (suc j)) g = absurd (omega arith)

-- the bytes 01 08 are 264, which names the types 3 and 8; read low byte first they are 2049, which names 0 and 11
pub mask_example : (number_in high_first 2 (0x01 ∷ 0x08 ∷ []) ≡ 264) × (number_in low_first 2 (0x01 ∷ 0x08 ∷ []) ≡ 2049)
unfolding number_by
mask_example = (refl, refl)

pub mask_right : (count_of 16 264 ≡ 2) × (bit 264 3 ≡ 1) × (bit 264 8 ≡ 1)
unfolding how_many bit
mask_right = (refl, refl, refl)

pub mask_wrong : (count_of 16 2049 ≡ 2) × (bit 2049 0 ≡ 1) × (bit 2049 11 ≡ 1)
unfolding how_many bit
mask_wrong = (refl, refl, refl)
