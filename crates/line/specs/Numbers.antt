-- The numbers of the items that occur on a line.
use Rattle.std.specs.Prelude.{ℕ, ◌≡◌, refl, Bool, true, false, ◌||◌, List, eqb}
use Rattle.std.proofs.Common.{eqb-true}
use Rattle.refusal.specs.Test.{clash}
use Rattle.stream.specs.Stream.{Settling, More, Settled}
use Rattle.extent.specs.declared.Line.{Line}
use Rattle.extent.specs.declared.Line.TheVariants.{Request, Reply}
use Rattle.extent.specs.declared.Extent.TheVariants.{Bad}
use Rattle.line.specs.Rule.{settle}
use Rattle.line.specs.Extents.{Tells, bad, length_item}
use Rattle.line.specs.Cases.{Shows, none, noise, short, odd, part, bad_sum, outside, good, shows}
use Rattle.line.specs.Laws.{leads_tells}

-- besides these, item 1 at close
abbrev pub occurs : Line → ℕ → Bool
occurs Request k = eqb k 0 || eqb k 2 || eqb k 3 || eqb k 4 || eqb k 6 || eqb k 7
occurs Reply k = eqb k 0 || eqb k 2 || eqb k 4 || eqb k 6

length_occurs : (on : Line) (k : ℕ) → length_item on k ≡ true → occurs on k ≡ true
length_occurs Request k e = go (eqb k 3) refl e
  where
    go : (x : Bool) → eqb k 3 ≡ x → x || eqb k 4 ≡ true → occurs Request k ≡ true
    go true q e = rw (eqb-true k 3 q)
    go false q e = rw (eqb-true k 4 e)
length_occurs Reply k e = rw (eqb-true k 4 e)

-- what is said of a position has such a number, or no number yet
abbrev pub occurs_at : Line → Settling → Bool
occurs_at on More = true
occurs_at on (Settled k m d) = occurs on k

shown : (on : Line) (s : List ℕ) {x : Settling} → Shows on s x → occurs_at on x ≡ true
shown on s (none h) = refl
shown Request s (noise h e) = refl
shown Reply s (noise h e) = refl
shown on s (short f) = refl
shown on s (odd k d f) = go (leads_tells on s f)
  where
    go : Tells on s (Bad k d) → occurs on k ≡ true
    go (bad k d o h l g) = length_occurs on k o
shown on s (part n f h) = refl
shown Request s (bad_sum n f h q) = refl
shown Reply s (bad_sum n f h q) = refl
shown Request s (outside n f h q e) = refl
shown Reply s (outside n f h q e) = clash (cc)
shown Request s (good n f h q e) = refl
shown Reply s (good n f h q e) = refl

pub numbers : (on : Line) (s : List ℕ) → occurs_at on (settle on s) ≡ true
numbers on s = shown on s (shows on s)
