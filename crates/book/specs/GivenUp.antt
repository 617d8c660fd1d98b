-- What giving up does, for any book: "every such number is freed, no other changes, and the count freed is returned".
use Prim.Native.Nat.{ℕ, zero, suc, ◌+◌, ◌≤◌, ◌<◌}
use Rattle.std.specs.Prelude.{◌≡◌, Bool, ◌&&◌, List, ◌∷◌, length}
use Rattle.std.proofs.Math.Path.{refl}
use Rattle.std.proofs.Common.{ap, ◌∙◌, get_or-set_other}
use Rattle.std.proofs.Math.Bool.{true, false, not}
use Rattle.std.proofs.Math.Decide.{ℕ_discrete}
use native.Mathlib.Omega.{arith}
use Rattle.refusal.specs.Test.{pick}
use Rattle.command.specs.Command.{is_known}
use Rattle.command.specs.Count.{count_below}
use Rattle.tick.specs.Age.{is_over}
use Rattle.book.specs.declared.Timed.{Timed}
use Rattle.free_number.specs.Number.{vacant, entry, holds}
use Rattle.book.specs.Ticks.{tick_at, is_old, those, struck, given_up, count_freed}
use Rattle.book.specs.Old.{those_most, struck_beyond}
use Rattle.free_number.specs.Search.{vacant_free, freed_entry}

-- the numbers of a test are as many as it holds of
those_count : (test : ℕ → Bool) (k : ℕ) → length (those test k) ≡ count_below test k
unfolding those count_below
those_count test zero = refl
those_count test (suc k) = go (test k) (those_count test k)
  where
    go : (t : Bool) → length (those test k) ≡ count_below test k → length (pick t (k ∷ those test k) (those test k)) ≡ pick t 1 0 + count_below test k
    go true e = omega arith
    go false e = omega arith

-- an entry that was looked at: nothing where the test holds, else as it was
struck_below : (test : ℕ → Bool) (asked : List ℕ) (k n : ℕ) → n < k → entry (struck asked (those test k)) n ≡ pick (test n) vacant (entry asked n)
unfolding those struck
struck_below test asked zero n h = absurd (omega arith)
struck_below test asked (suc k) n h = go (test k) refl (struck_below test asked k n)
  where
    s : List ℕ
    s = struck asked (those test k)

    go : (t : Bool) → test k ≡ t → (n < k → entry s n ≡ pick (test n) vacant (entry asked n))
        → entry (struck asked (pick t (k ∷ those test k) (those test k))) n ≡ pick (test n) vacant (entry asked n)
    go true e on =
        elim (ℕ_discrete n k)
        [ yes q ↦ rw (q, e) (freed_entry s k) | no q ↦ (get_or-set_other s k n vacant vacant q ∙ on (omega arith)) ]
    go false e on = elim (ℕ_discrete n k) [ yes q ↦ rw (q, e) (struck_beyond test asked k k (omega arith)) | no q ↦ on (omega arith) ]

module _ (b : Timed) (clock limit : ℕ) where
  abbrev old : ℕ → Bool
  old = is_old b.book.asked b.ticks clock limit

  abbrev over : ℕ → Bool
  over n = is_over clock (tick_at b.ticks n) limit

  -- each entry afterwards: nothing where the number is awaited and its age is over the limit, else as it was
  pub given_up_entry : (n : ℕ) → n < 256 → entry (given_up b clock limit).book.asked n ≡ pick (old n) vacant (entry b.book.asked n)
  given_up_entry n h = struck_below old b.book.asked 256 n h

  -- a number is awaited afterwards exactly if it was, and its age is not over the limit
  pub given_up_holds : (n : ℕ) → n < 256 → holds (given_up b clock limit).book.asked n ≡ holds b.book.asked n && not (over n)
  given_up_holds n h = ap is_known (given_up_entry n h) ∙ go (is_known (entry b.book.asked n)) refl (over n)
    where
      go : (t : Bool) → is_known (entry b.book.asked n) ≡ t → (o : Bool) → is_known (pick (t && o) vacant (entry b.book.asked n)) ≡ t && not o
      go true e true = vacant_free
      go true e false = e
      go false e o = e

  -- "no other changes": the entry of any other number, every tick and the last number
  pub given_up_other : (n : ℕ) → n < 256 → old n ≡ false → entry (given_up b clock limit).book.asked n ≡ entry b.book.asked n
  given_up_other n h e = given_up_entry n h ∙ rw e

  pub given_up_ticks : (given_up b clock limit).ticks ≡ b.ticks
  given_up_ticks = refl

  pub given_up_last : (given_up b clock limit).book.last ≡ b.book.last
  given_up_last = refl

  -- the count is the number of those freed, 0 to 256
  pub freed_count : count_freed b clock limit ≡ count_below old 256
  freed_count = those_count old 256

  pub freed_most : count_freed b clock limit ≤ 256
  freed_most = those_most old 256

  -- so many numbers fewer are awaited afterwards
  awaited_below : (k : ℕ) → k ≤ 256
      → count_below (holds b.book.asked) k ≡ count_below (holds (given_up b clock limit).book.asked) k + count_below old k
  unfolding count_below
  awaited_below zero h = refl
  awaited_below (suc k) h = rw (given_up_holds k (omega arith)) (go (is_known (entry b.book.asked k)) (over k) _ _ _ (awaited_below k (omega arith)))
    where
      go : (t o : Bool) (x y z : ℕ) → x ≡ y + z → pick t 1 0 + x ≡ pick (t && not o) 1 0 + y + (pick (t && o) 1 0 + z)
      go true true x y z e = omega arith
      go true false x y z e = omega arith
      go false o x y z e = omega arith

  pub awaited_fewer : count_below (holds b.book.asked) 256 ≡ count_below (holds (given_up b clock limit).book.asked) 256 + count_freed b clock limit
  awaited_fewer = rw freed_count (awaited_below 256 (omega arith))
