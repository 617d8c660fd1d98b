-- What is claimed of a share: of k it is no more than k, and the greatest has it all.
use Rattle.std.specs.Prelude.{ℕ, ◌*◌, ◌/◌, ◌≤◌, ◌<◌, ◌≡◌, refl, Bool, true, false, leb, ltb, eqb}
use Rattle.std.proofs.Common.{le-leb, ltb-false, ne_eqb, leb-true, mul-le-mul_right, arith}
use Rattle.std.proofs.Math.Nat.{div-le_of_le-mul, mul-div_right}
use Rattle.refusal.specs.Test.{pick}
use Rattle.figures.specs.Figures.{scaled_of, lesser_of, wide, share_of}

-- the lesser is no more than the second
pub lesser_most : (a b : ℕ) → lesser_of a b ≤ b
lesser_most a b = go (leb a b) refl
  where
    go : (t : Bool) → leb a b ≡ t → pick t a b ≤ b
    go true e = leb-true a b e
    go false e = omega arith

scaled_most : (n most k : ℕ) → n ≤ most → scaled_of n most k ≤ k
scaled_most n most k h = go (eqb most 0)
  where
    go : (t : Bool) → pick t 0 (n * k / most) ≤ k
    go true = omega arith
    go false = div-le_of_le-mul most (mul-le-mul_right k h)

pub share_most : (n most k : ℕ) → share_of n most k ≤ k
unfolding share_of
share_most n most k = go (ltb most wide)
  where
    go : (t : Bool) → pick t (scaled_of (lesser_of n most) most k) (scaled_of (lesser_of n most / 256) (most / 256) k) ≤ k
    go true = scaled_most (lesser_of n most) most k (lesser_most n most)
    go false = scaled_most (lesser_of n most / 256) (most / 256) k (omega (arith, lesser_most n most))

-- "The greatest count .. has them all"
scaled_whole : (most k : ℕ) → 0 < most → scaled_of most most k ≡ k
scaled_whole most k h = rw (ne_eqb most 0 (λ e. omega arith)) (mul-div_right k h)

pub share_whole : (most k : ℕ) → 0 < most → share_of most most k ≡ k
unfolding share_of
share_whole most k h = rw (le-leb most most (omega arith)) (go (ltb most wide) refl)
  where
    go : (t : Bool) → ltb most wide ≡ t → pick t (scaled_of most most k) (scaled_of (most / 256) (most / 256) k) ≡ k
    go true e = scaled_whole most k h
    go false e = let g : wide ≤ most = ltb-false most wide e in scaled_whole (most / 256) k (omega arith)
