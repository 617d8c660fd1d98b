-- The definitions of a season, told by what the code has found.
use Rattle.std.specs.Prelude.{ℕ, ◌+◌, ◌≤◌, ◌<◌, ◌≡◌, refl, Bool, true, false, min, leb, ltb}
use Rattle.std.proofs.Common.{arith}
use borrow.Author.Tests.{le-leb, leb-true, leb-false}
use Rattle.refusal.specs.Test.{pick}
use Rattle.season.specs.declared.Boundaries.{Boundaries}
use Rattle.season.specs.Season.{season_of, full64, plus}

-- there are four seasons
pub season_small : (b : Boundaries) (t : ℕ) → season_of b t < 4
unfolding season_of
season_small b t = go (ltb t b.first) (ltb t b.second) (ltb t b.third)
  where
    go : (x y z : Bool) → pick x 0 (pick y 1 (pick z 2 3)) < 4
    go true y z = omega arith
    go false true z = omega arith
    go false false true = omega arith
    go false false false = omega arith

pub season_in_lem : (b : Boundaries) (t : ℕ) {n : ℕ} → n ≡ season_of b t → n < 4
season_in_lem b t e = rw e (season_small b t)

-- a sum that is not full
pub plus_in : (a b : ℕ) → a + b ≤ full64 → a + b ≡ plus a b
unfolding plus
plus_in a b h = rw (le-leb (a + b) full64 h)

-- the sum as std has it
pub plus_is : (a b : ℕ) → min (a + b) full64 ≡ plus a b
unfolding plus
plus_is a b = go (leb (a + b) full64) refl
  where
    go : (t : Bool) → leb (a + b) full64 ≡ t → min (a + b) full64 ≡ pick t (a + b) full64
    go true e = omega (arith, leb-true (a + b) full64 e)
    go false e = omega (arith, leb-false (a + b) full64 e)
