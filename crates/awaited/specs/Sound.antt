-- Every book of a run from a fresh one "holds, for each sequence number 0 to 255, nothing or the command asked".
use Rattle.std.specs.Prelude.{ℕ, zero, suc, ◌<◌, ◌≡◌, refl, true, List, [], ◌∷◌, ◌⊎◌, length, set, replicate}
use Rattle.std.proofs.Common.{ap, ◌∙◌, inl, inr, ⊎_elim, length-set, arith}
use Rattle.std.proofs.lemmas.List.{length-replicate}
use Rattle.std.proofs.Math.ListN.{get_or-eq_default}
use Rattle.std.proofs.Math.Decide.{dec_lt}
use Rattle.refusal.specs.Test.{not_both}
use Rattle.refusal.specs.Answer.{Answer, refused, full}
use Rattle.command.specs.Command.{is_known}
use Rattle.command.specs.Known.{known_byte, may_ask_known}
use Rattle.free_number.specs.declared.Book.{Book}
use Rattle.free_number.specs.Number.{vacant, entry, holds, number_for}
use Rattle.book.specs.Book.{fresh_book, noted, command_of, freed}
use Rattle.free_number.specs.Search.{vacant_free}
use Rattle.awaited.specs.Found.{number_full}
use Rattle.awaited.specs.Run.{Call, ask, reply, after, run, book_of}

-- nothing, or a command
abbrev pub IsEntry : ℕ → Type 0
IsEntry e = (e ≡ vacant) ⊎ (is_known e ≡ true)

pub record Sound (b : Book) : Type 0 where
  pub count : length b.asked ≡ 256
  pub entries : (n : ℕ) → IsEntry (entry b.asked n)
  pub latest : b.last < 256

pub sound_byte : {b : Book} → Sound b → (n : ℕ) → entry b.asked n < 256
sound_byte {b} s n = ⊎_elim (λ e. omega arith) (known_byte (entry b.asked n)) (s.entries n)

-- an awaited number is one of the 256
pub held_below : {b : Book} → Sound b → (n : ℕ) → holds b.asked n ≡ true → n < 256
held_below {b} s n h =
    elim (dec_lt n 256)
    [ yes l ↦ l | no l ↦ (not_both h (ap is_known (get_or-eq_default b.asked vacant {n = n} (omega (arith, s.count))) ∙ vacant_free)) ]

pub fresh_entry : (k n : ℕ) → entry (replicate k vacant) n ≡ vacant
fresh_entry zero n = refl
fresh_entry (suc k) zero = refl
fresh_entry (suc k) (suc n) = fresh_entry k n

sound_fresh : Sound fresh_book
sound_fresh = record { count = length-replicate 256 vacant; entries = λ n. inl (fresh_entry 256 n); latest = omega arith }

-- one entry set
set_entry : (asked : List ℕ) (i e : ℕ) → IsEntry e → ((n : ℕ) → IsEntry (entry asked n)) → (n : ℕ) → IsEntry (entry (set asked i e) n)
set_entry [] i e p h n = h n
set_entry (a ∷ asked) zero e p h zero = p
set_entry (a ∷ asked) zero e p h (suc n) = h (suc n)
set_entry (a ∷ asked) (suc i) e p h zero = h zero
set_entry (a ∷ asked) (suc i) e p h (suc n) = set_entry asked i e p (λ m. h (suc m)) n

sound_set : {b : Book} (n e l : ℕ) → Sound b → IsEntry e → l < 256 → Sound (record { asked = set b.asked n e; last = l })
sound_set {b} n e l s p h = record { count = length-set b.asked n e ∙ s.count; entries = set_entry b.asked n e p s.entries; latest = h }

pub after_sound : (b : Book) (x : Call) → Sound b → Sound (after b x)
after_sound b (ask c) s = go (number_for b c) refl
  where
    go : (v : Answer ℕ) → number_for b c ≡ v → Sound (noted b c v)
    go (refused k) e = s
    go (full n) e =
        let f = number_full b c s.latest n e in
        sound_set n c n s (inr (may_ask_known c f.0)) f.1.below
after_sound b (reply n) s = go (command_of b n)
  where
    go : (v : Answer ℕ) → Sound (freed b n v)
    go (refused k) = s
    go (full c) = sound_set n vacant b.last s (inl refl) s.latest

pub run_sound : (past : List Call) → Sound (book_of past)
unfolding run
run_sound [] = sound_fresh
run_sound (x ∷ past) = after_sound (book_of past) x (run_sound past)
