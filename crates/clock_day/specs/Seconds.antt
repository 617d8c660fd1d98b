-- Seconds as signed numbers of 32 bits: sums and differences of times and offsets are reported as they are.
use Rattle.std.specs.Prelude.{ℕ, zero, suc, ◌+◌, ◌<◌, ◌≡◌, refl, Bool, true, false, ltb, ℤ, pos, ◌+ℤ◌, ◌-ℤ◌}
use Rattle.std.proofs.Common.{ap₂, ◌∙◌, SFits, to_z, of_z}
use Rattle.std.proofs.Math.IntN.{sub_ℕ}
use Rattle.std.specs.Int.{w32}
use Rattle.std.proofs.lemmas.Int.{to_z_pos, to_z-of_z}
use native.Mathlib.Omega.{arith}
use Rattle.clock_text.specs.declared.Time.{Time}
use Rattle.clock_text.specs.declared.Clock.{Clock}
use Rattle.clock_text.specs.declared.Offset.TheVariants.{Absent, Later, Earlier}
use Rattle.clock_day.specs.Day.{seconds_in, second_of}

-- a number far below 2³¹ is itself
small : (n : ℕ) → n < 1000000 → to_z w32 n ≡ pos n
small n h = to_z_pos w32 n (omega arith)

-- a sum and a difference of two such numbers
pos_fits : (n : ℕ) → n < 2000000 → SFits w32 (pos n)
pos_fits n h = record { sfits = omega arith }

sub_fits : (m n : ℕ) → m < 1000000 → n < 1000000 → SFits w32 (sub_ℕ m n)
sub_fits m n h l = go (ltb m n) refl
  where
    go : (t : Bool) → ltb m n ≡ t → SFits w32 (sub_ℕ m n)
    go true e = rw e (record { sfits = omega arith })
    go false e = rw e (record { sfits = omega arith })

less_fits : (m n : ℕ) → m < 1000000 → n < 1000000 → SFits w32 (pos m -ℤ pos n)
less_fits m zero h l = pos_fits (m + 0) (omega arith)
less_fits m (suc n) h l = sub_fits m (suc n) h l

module _ (m n : ℕ) (h : m < 1000000) (l : n < 1000000) where
  sum_same : to_z w32 m +ℤ to_z w32 n ≡ pos (m + n)
  sum_same = ap₂ (λ (x y : ℤ). x +ℤ y) (small m h) (small n l)

  less_same : to_z w32 m -ℤ to_z w32 n ≡ pos m -ℤ pos n
  less_same = ap₂ (λ (x y : ℤ). x -ℤ y) (small m h) (small n l)

  pub add_fits : SFits w32 (to_z w32 m +ℤ to_z w32 n)
  add_fits = rw sum_same (pos_fits (m + n) (omega arith))

  pub subtract_fits : SFits w32 (to_z w32 m -ℤ to_z w32 n)
  subtract_fits = rw less_same (less_fits m n h l)

  added : to_z w32 (of_z w32 (to_z w32 m +ℤ to_z w32 n)) ≡ pos (m + n)
  added = to_z-of_z w32 (to_z w32 m +ℤ to_z w32 n) add_fits ∙ sum_same

  subtracted : to_z w32 (of_z w32 (to_z w32 m -ℤ to_z w32 n)) ≡ pos m -ℤ pos n
  subtracted = to_z-of_z w32 (to_z w32 m -ℤ to_z w32 n) subtract_fits ∙ less_same

-- the second, by the offset
module _ (c : Clock) (m : ℕ) (e : m ≡ seconds_in c.time) (h : m < 1000000) where
  pub second_absent : c.offset ≡ Absent → to_z w32 m ≡ second_of c
  unfolding second_of
  second_absent f =
      let z : m + 0 ≡ m = omega arith in
      small m h ∙ rw (f, ← e, z)

  pub second_later : (t : Time) (n : ℕ) → c.offset ≡ Later t → n ≡ seconds_in t → n < 1000000 → to_z w32 (of_z w32 (to_z w32 m +ℤ to_z w32 n)) ≡ second_of c
  unfolding second_of
  second_later t n f g l = added m n h l ∙ rw (f, ← e, ← g)

  pub second_earlier : (t : Time) (n : ℕ) → c.offset ≡ Earlier t → n ≡ seconds_in t → n < 1000000 → to_z w32 (of_z w32 (to_z w32 m -ℤ to_z w32 n)) ≡ second_of c
  unfolding second_of
  second_earlier t n f g l = subtracted m n h l ∙ rw (f, ← e, ← g)
