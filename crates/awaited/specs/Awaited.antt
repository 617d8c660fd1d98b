-- Any run of calls from a fresh book: what its history says of the next answer. "all 256 sequence numbers are unanswered" (9),
-- "a reply's sequence number is not awaited" (10), "A reply with an awaited number frees it and returns its command".
use Rattle.std.specs.Prelude.{ℕ, ◌<◌, ◌≡◌, refl, Bool, true, false, List, ◌↔◌}
use Rattle.std.proofs.Common.{sym, ap, ◌∙◌}
use mathlib.Core.Logic.Iff
use Rattle.refusal.specs.Test.{not_both}
use Rattle.refusal.specs.Answer.{refused, full}
use Rattle.command.specs.Command.{is_known, may_ask}
use Rattle.free_number.specs.Number.{entry, holds}
use Rattle.awaited.specs.Found.{number_full, number_nine, command_full, command_ten}
use Rattle.awaited.specs.Run.{Call, ask, reply, answer, book_of, history_of, Awaited}
use Rattle.awaited.specs.Sound.{run_sound}
use Rattle.awaited.specs.Kept.{kept}

module _ (past : List Call) where
  -- a reply is answered with c exactly if its number is awaited with c
  pub reply_command : (n c : ℕ) → (answer (book_of past) (reply n) ≡ full c) ↔ Awaited n c (history_of past)
  reply_command n c = Iff.trans (command_full (book_of past) n c) (kept past n c)

  -- that is one command, so it is the one last asked under the number
  pub awaited_one : (n c d : ℕ) → Awaited n c (history_of past) → Awaited n d (history_of past) → c ≡ d
  awaited_one n c d v w = sym ((kept past n c).1 v).1 ∙ ((kept past n d).1 w).1

  awaited_held : (n c : ℕ) → Awaited n c (history_of past) → holds (book_of past).asked n ≡ true
  awaited_held n c w =
      let h = (kept past n c).1 w in
      ap is_known h.1 ∙ h.0

  held_awaited : (n : ℕ) → holds (book_of past).asked n ≡ true → (c : ℕ) × Awaited n c (history_of past)
  held_awaited n h =
      let c = entry (book_of past).asked n in
      (c, (kept past n c).0 (h, refl))

  -- a number is free in the book exactly if it is not awaited
  pub free_unawaited : (n : ℕ) → (holds (book_of past).asked n ≡ false) ↔ ((c : ℕ) → Awaited n c (history_of past) → ⊥)
  free_unawaited n = ((λ f c w. not_both (awaited_held n c w) f), go (holds (book_of past).asked n) refl)
    where
      go : (t : Bool) → holds (book_of past).asked n ≡ t → ((c : ℕ) → Awaited n c (history_of past) → ⊥) → t ≡ false
      go true e h =
          let w = held_awaited n e in
          absurd (h w.0 w.1)
      go false e h = refl

  -- a reply is refused exactly if its number is not awaited, and then with 10
  pub reply_ten : (n k : ℕ) → (answer (book_of past) (reply n) ≡ refused k) ↔ ((k ≡ 10) × ((c : ℕ) → Awaited n c (history_of past) → ⊥))
  reply_ten n k = Iff.trans (command_ten (book_of past) n k) (Iff.and Iff.rfl (free_unawaited n))

  -- a number is given only if it is not awaited at that moment
  pub given_unawaited : (c n : ℕ) → answer (book_of past) (ask c) ≡ full n → (d : ℕ) → Awaited n d (history_of past) → ⊥
  given_unawaited c n e = (free_unawaited n).0 (number_full (book_of past) c (run_sound past).latest n e).1.free

  -- asking with a command that may be asked is refused exactly if all 256 numbers are awaited, and then with 9
  pub ask_nine : (c k : ℕ) → may_ask c ≡ true
      → (answer (book_of past) (ask c) ≡ refused k) ↔ ((k ≡ 9) × ((n : ℕ) → n < 256 → (d : ℕ) × Awaited n d (history_of past)))
  ask_nine c k may =
      Iff.trans (number_nine (book_of past) c (run_sound past).latest may k)
      (Iff.and Iff.rfl ((λ h n l. held_awaited n (h n l)), λ h n l. awaited_held n (h n l).0 (h n l).1))
