-- The machine's count of ones and of trailing zeros, over any width, are how many bits are set and the lowest that is.
use Prim.Native.Nat.{ℕ, zero, suc, ◌+◌, ◌/◌, ◌%◌, ◌^◌, ◌<◌}
use mathlib.Core.Path.{◌≡◌, refl, sym, ap₂, ◌∙◌}
use lib.Count.{ones, ones_step, count_trailing_zeros, under}
use lib.Dec.{eqb}
use native.Mathlib.Nat.{pow-suc}
use native.Mathlib.Omega.{arith}
use Rattle.refusal.specs.Test.{pick}
use Rattle.maps.specs.Bit.{bit, how_many, lowest}
use Rattle.maps.specs.Bits.{bit_zero, bit_suc, how_many_same, lowest_same}
use Rattle.maps.specs.Maps.{count_of}

pub counted : (w n : ℕ) → n < 2 ^ w → ones n ≡ count_of w n
unfolding how_many ones
counted zero n h = let z : n ≡ 0 = omega arith in rw z
counted (suc w) n h =
    let l : n / 2 < 2 ^ w = omega (arith, pow-suc 2 w) in
    ones_step n ∙ ap₂ (λ (x y : ℕ). x + y) (sym (bit_zero n)) (counted w (n / 2) l ∙ how_many_same w (λ k h. sym (bit_suc n k)))

-- one more zero below a bit that is not set
under_pick : (b t : ℕ) → b < 2 → under b t ≡ pick (eqb b 1) 0 (suc t)
under_pick zero t h = refl
under_pick (suc zero) t h = refl
under_pick (suc (suc b)) t h = absurd (omega arith)

pub lowered : (w n : ℕ) → count_trailing_zeros w n ≡ lowest (bit n) w
unfolding lowest count_trailing_zeros
lowered zero n = refl
lowered (suc w) n =
    under_pick (n % 2) (count_trailing_zeros w (n / 2)) (omega arith)
    ∙ ap₂ (λ (x y : ℕ). pick (eqb x 1) 0 (suc y)) (sym (bit_zero n)) (lowered w (n / 2) ∙ lowest_same w (λ k h. sym (bit_suc n k)))
