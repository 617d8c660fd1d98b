-- Where the maker puts bit k of a number: the law over the byte order and the number of bytes.
use Rattle.std.specs.Prelude.{ℕ, ◌+◌, ◌*◌, ◌/◌, ◌%◌, ◌^◌, ◌<◌, ◌≡◌, List}
use Rattle.std.proofs.Common.{ap, ◌∙◌, arith}
use Rattle.order.specs.Order.{Order, byte_of, number_by}
use Rattle.order.specs.Numbers.{number_byte}
use Rattle.maps.specs.Bit.{bit}
use Rattle.maps.specs.Bits.{bit_low, bit_high}

-- bit k as the maker puts it: bit k mod 8 of the byte that has it
abbrev pub placed : Order → ℕ → List ℕ → ℕ → ℕ
placed o n s k = bit (byte_of o n s (k / 8)) (k % 8)

-- bit k of a number is bit k mod 8 of its byte k / 8
pub number_bit : (n : ℕ) (f : ℕ → ℕ) (k : ℕ) → ((j : ℕ) → f j < 256) → k < 8 * n → bit (number_by f n) k ≡ bit (f (k / 8)) (k % 8)
number_bit n f k h l =
    let e : k ≡ 8 * (k / 8) + k % 8 = omega arith in
    ap (bit (number_by f n)) e
    ∙ bit_high (8 * (k / 8)) (number_by f n) (k % 8)
    ∙ bit_low 8 (number_by f n / 2 ^ (8 * (k / 8))) (k % 8) (omega arith)
    ∙ ap (λ (x : ℕ). bit x (k % 8)) (number_byte n f (k / 8) h (omega arith))
