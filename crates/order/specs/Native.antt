-- The bytes of a number, as std's `to_be_bytes` gives them and as a writer lays them out, are the same.
use Rattle.std.specs.Prelude.{ℕ, ◌/◌, ◌≡◌, refl}
use Rattle.std.specs.Int.{to_be_bytes, w16, w32}
use Rattle.std.proofs.Common.{arith}
use Rattle.order.specs.Big.{big_bytes}

pub be_two : (n : ℕ) → to_be_bytes w16 n ≡ big_bytes 2 n
be_two n = refl

pub be_four : (n : ℕ) → to_be_bytes w32 n ≡ big_bytes 4 n
be_four n =
    let a : n / 256 / 256 / 256 ≡ n / 16777216 = omega arith in
    let b : n / 256 / 256 ≡ n / 65536 = omega arith in
    rw (a, b) refl
