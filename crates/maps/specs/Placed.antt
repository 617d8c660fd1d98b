-- What the definitions of Maps.antt say of single bits: each stands where the maker puts it, and the count and the lowest are those
-- of the bits that are set there. Stated once, over the byte order and the number of bytes, and cited for each map.
use Rattle.std.specs.Prelude.{ℕ, ◌-◌, ◌*◌, ◌/◌, ◌%◌, ◌^◌, ◌<◌, ◌≡◌, refl, Bool, true, false, not, ◌↔◌, List, eqb, length, get_or}
use Rattle.std.proofs.Common.{sym, ◌∙◌, inl, inr, eqb-true, eq-eqb}
use Rattle.std.proofs.lemmas.Bool.{eqb-false, not-true}
use Rattle.refusal.specs.Test.{clash}
use Rattle.refusal.specs.Answer.{refused, full, demand_elim, full_one}
use Rattle.sum.specs.Bytes.{Bytes}
use Rattle.order.specs.Order.{Order, high_first, low_first, place_of, byte_of, number_in}
use Rattle.order.specs.Numbers.{number_fits}
use Rattle.maps.specs.Bit.{bit, how_many, Least}
use Rattle.maps.specs.Bits.{bit_two, how_many_same, lowest_least, least_same, bits_one, bits_none, bit_of_zero}
use Rattle.maps.specs.Places.{placed, number_bit}
use Rattle.maps.specs.Maps.{map_of, mask_of, scenes_of, gear_of, types_of, count_of, lowest_of}

-- the lowest of a number of w bits is set, and none below it is; it is refused exactly where none is set
pub lowest_set : (w x : ℕ) {k : ℕ} → x < 2 ^ w → lowest_of w x ≡ full k → Least (bit x) w k
lowest_set w x h =
    demand_elim (not (eqb x 0)) 12
    (λ t e.
    elim (lowest_least w (bit x) (bit_two x)) [
      | inl l ↦ rw (full_one e) at l
      | inr z ↦ absurd (eqb-false x 0 (not-true (eqb x 0) t) (bits_none w x h z))
    ])

pub lowest_none : (w x : ℕ) → x < 2 ^ w → (lowest_of w x ≡ refused 12) ↔ ((k : ℕ) → k < w → bit x k ≡ 0)
lowest_none w x h = (go (eqb x 0) refl, λ z. rw (eq-eqb x 0 (bits_none w x h z)))
  where
    go : (t : Bool) → eqb x 0 ≡ t → lowest_of w x ≡ refused 12 → (k : ℕ) → k < w → bit x k ≡ 0
    go true t e k l = rw (eqb-true x 0 t) (bit_of_zero k)
    go false t e k l = clash (cc (rw t at e))

-- what the number x is that a run of n bytes holds in an order
pub record Placed (o : Order) (n : ℕ) (s : List ℕ) (x : ℕ) : Type 0 where
  -- it has 8 bits for each byte, and bit k is the bit where the maker puts it
  pub fits : x < 2 ^ (8 * n)
  pub bits : (k : ℕ) → k < 8 * n → bit x k ≡ placed o n s k
  -- the count is the number of k whose bit is set
  pub count : count_of (8 * n) x ≡ how_many (placed o n s) (8 * n)
  -- the lowest is set and none below it is; 12 is given exactly where none is set
  pub least : (k : ℕ) → lowest_of (8 * n) x ≡ full k → Least (placed o n s) (8 * n) k
  pub none : (lowest_of (8 * n) x ≡ refused 12) ↔ ((k : ℕ) → k < 8 * n → placed o n s k ≡ 0)

-- holds of every map that is not refused
pub map_placed : (o : Order) (n : ℕ) {s : List ℕ} {x : ℕ} → Bytes s → map_of o n s ≡ full x → Placed o n s x
map_placed o n {s} {x} b = demand_elim (eqb (length s) n) 11 (λ t e. rw (full_one e) at number)
  where
    bytes : (j : ℕ) → byte_of o n s j < 256
    bytes j = b.byte (place_of o n j)

    fits : number_in o n s < 2 ^ (8 * n)
    fits = number_fits n (byte_of o n s) bytes

    same : (k : ℕ) → k < 8 * n → bit (number_in o n s) k ≡ placed o n s k
    same k l = number_bit n (byte_of o n s) k bytes l

    none : (lowest_of (8 * n) (number_in o n s) ≡ refused 12) ↔ ((k : ℕ) → k < 8 * n → bit (number_in o n s) k ≡ 0)
    none = lowest_none (8 * n) (number_in o n s) fits

    number : Placed o n s (number_in o n s)
    number = record {
      fits = fits;
      bits = same;
      count = how_many_same (8 * n) same;
      least = λ k e. least_same same (lowest_set (8 * n) (number_in o n s) fits e);
      none = (λ e k l. sym (same k l) ∙ none.0 e k l, λ z. none.1 (λ k l. same k l ∙ z k l));
    }

-- and is no other number
pub placed_one : {o : Order} {n : ℕ} {s : List ℕ} {x y : ℕ} → Placed o n s x → Placed o n s y → x ≡ y
placed_one {n = n} {x = x} {y = y} p q = bits_one (8 * n) x y p.fits q.fits (λ k l. p.bits k l ∙ sym (q.bits k l))

-- "high byte first. Bit k stands for event type k": types 8 to 15 stand in byte 0, 0 to 7 in byte 1
pub mask_bit : {s : List ℕ} {x : ℕ} → Bytes s → mask_of s ≡ full x → (k : ℕ) → k < 16 → bit x k ≡ bit (get_or s (1 - k / 8) 0) (k % 8)
mask_bit b e = (map_placed high_first 2 b e).bits

-- "scenes 8–15 first, then 0–7"
pub scenes_bit : {s : List ℕ} {x : ℕ} → Bytes s → scenes_of s ≡ full x → (k : ℕ) → k < 16 → bit x k ≡ bit (get_or s (1 - k / 8) 0) (k % 8)
scenes_bit b e = (map_placed high_first 2 b e).bits

-- "byte 0 holds gear 0–7, lowest gear in the lowest bit"
pub gear_bit : {s : List ℕ} {x : ℕ} → Bytes s → gear_of s ≡ full x → (k : ℕ) → k < 64 → bit x k ≡ bit (get_or s (k / 8) 0) (k % 8)
gear_bit b e = (map_placed low_first 8 b e).bits

-- "4 bytes, low byte first"
pub types_bit : {s : List ℕ} {x : ℕ} → Bytes s → types_of s ≡ full x → (k : ℕ) → k < 32 → bit x k ≡ bit (get_or s (k / 8) 0) (k % 8)
types_bit b e = (map_placed low_first 4 b e).bits
