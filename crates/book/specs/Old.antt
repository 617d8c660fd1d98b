-- The numbers that are given up: one number more, as the code comes to it; which they are, how many, and what is left of the entries.
use Rattle.std.specs.Prelude.{ℕ, zero, suc, ◌+◌, ◌≤◌, ◌≡◌, refl, Bool, false, ◌&&◌, List, ◌∷◌, length, set}
use Rattle.std.proofs.Math.Path.{sym, ap}
use Rattle.std.proofs.Common.{◌∙◌, get_or-set_other, add-one, arith}
use Rattle.std.proofs.Math.Bool.{true}
use Rattle.refusal.specs.Test.{pick}
use Rattle.command.specs.Command.{is_known}
use Rattle.tick.specs.Age.{is_over}
use Rattle.free_number.specs.Number.{vacant, entry, holds}
use Rattle.book.specs.Ticks.{tick_at, is_old, those, struck}

-- no more than were looked at
pub those_most : (test : ℕ → Bool) (k : ℕ) → length (those test k) ≤ k
unfolding those
those_most test zero = omega arith
those_most test (suc k) = go (test k) (those_most test k)
  where
    go : (t : Bool) → length (those test k) ≤ k → length (pick t (k ∷ those test k) (those test k)) ≤ suc k
    go true h = omega arith
    go false h = omega arith

-- an entry that was not looked at is as it was
pub struck_beyond : (test : ℕ → Bool) (asked : List ℕ) (k n : ℕ) → k ≤ n → entry (struck asked (those test k)) n ≡ entry asked n
unfolding those struck
struck_beyond test asked zero n h = refl
struck_beyond test asked (suc k) n h = go (test k) (struck_beyond test asked k n (omega arith))
  where
    go : (t : Bool) → entry (struck asked (those test k)) n ≡ entry asked n → entry (struck asked (pick t (k ∷ those test k) (those test k))) n ≡ entry asked n
    go true on = get_or-set_other (struck asked (those test k)) k n vacant vacant (omega arith) ∙ on
    go false on = on

and-false : (t : Bool) → t && false ≡ false
and-false true = refl
and-false false = refl

-- the numbers below k were looked at: the entries that are left, and how many were freed
pub record Looked (asked ticks : List ℕ) (clock limit k : ℕ) (left : List ℕ) (count : ℕ) : Type 0 where
  pub entries : left ≡ struck asked (those (is_old asked ticks clock limit) k)
  pub many : count ≡ length (those (is_old asked ticks clock limit) k)

pub looked_most : {asked ticks : List ℕ} {clock limit k : ℕ} {left : List ℕ} {count : ℕ} → Looked asked ticks clock limit k left count → count ≤ k
looked_most {asked} {ticks} {clock} {limit} {k} l = omega (arith, l.many, those_most (is_old asked ticks clock limit) k)

pub looked_none : (asked ticks : List ℕ) (clock limit : ℕ) → Looked asked ticks clock limit 0 asked 0
unfolding those struck
looked_none asked ticks clock limit = record { entries = refl; many = refl }

-- a turn, by what the code finds: the tick of the next number is not over, or nothing is held under it, or it is given up
module _ (asked ticks : List ℕ) (clock limit k : ℕ) (left : List ℕ) (count : ℕ) (l : Looked asked ticks clock limit k left count) where
  abbrev test : ℕ → Bool
  test = is_old asked ticks clock limit

  held : is_known (entry left k) ≡ holds asked k
  held = ap is_known (ap (λ (a : List ℕ). entry a k) l.entries ∙ struck_beyond test asked k k (omega arith))

  stay : test k ≡ false → Looked asked ticks clock limit (k + 1) left count
  unfolding those
  stay e =
      let same : those test (k + 1) ≡ those test k = ap (those test) (add-one k) ∙ rw e in
      record { entries = rw same l.entries; many = rw same l.many }

  pub looked_young : is_over clock (tick_at ticks k) limit ≡ false → Looked asked ticks clock limit (k + 1) left count
  looked_young e = stay (rw e (and-false (holds asked k)))

  pub looked_free : is_known (entry left k) ≡ false → Looked asked ticks clock limit (k + 1) left count
  looked_free e = stay (rw (sym held ∙ e))

  pub looked_old : is_over clock (tick_at ticks k) limit ≡ true → is_known (entry left k) ≡ true → Looked asked ticks clock limit (k + 1) (set left k vacant) (count + 1)
  unfolding those struck
  looked_old e h =
      let old : test k ≡ true = rw (e, sym held ∙ h) in
      let more : those test (k + 1) ≡ k ∷ those test k = ap (those test) (add-one k) ∙ rw old in
      record { entries = rw (more, ← l.entries); many = rw more (omega (arith, l.many)) }
