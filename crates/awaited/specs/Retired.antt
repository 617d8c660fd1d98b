-- Retired commands in any run of calls. Document 02, W-210: "a book entry already asked with 0A still takes its reply"; none is asked anew.
use Rattle.std.specs.Prelude.{ℕ, zero, suc, ◌≡◌, refl, Bool, true, false, ◌⊎◌, set}
use Rattle.std.proofs.Common.{sym, ap, ◌∙◌, inl, inr}
use mathlib.Core.List.Memᴰ
use mathlib.Core.List.{List, [], ◌∷◌, Memᴰ}
use Rattle.refusal.specs.Test.{clash, not_both}
use Rattle.refusal.specs.Answer.{Answer, refused, full}
use Rattle.command.specs.Command.{is_retired}
use Rattle.command.specs.Known.{may_ask_current}
use Rattle.command.proofs.RetiredKnown.{retired_known}
use Rattle.free_number.specs.declared.Book.{Book}
use Rattle.free_number.specs.Number.{vacant, entry, number_for}
use Rattle.book.specs.Book.{fresh_book, noted, command_of, freed}
use Rattle.awaited.specs.Found.{number_seventeen, number_may, command_full}
use Rattle.awaited.specs.Run.{Call, ask, reply, answer, after, run, line, history, book_of, refused_same}
use Rattle.awaited.specs.Sound.{fresh_entry}

module _ (b : Book) (c : ℕ) (r : is_retired c ≡ true) where
  -- asking with it is refused with 17, whatever the book holds, and the book stays
  pub retired_asked : (answer b (ask c) ≡ refused 17) × (after b (ask c) ≡ b)
  retired_asked =
      let e = (number_seventeen b c).1 r in
      (e, refused_same b (ask c) 17 e)

  -- an entry with it takes its reply
  pub retired_replied : (n : ℕ) → entry b.asked n ≡ c → answer b (reply n) ≡ full c
  retired_replied n e = (command_full b n c).1 (retired_known c r, e)

-- over any run, from any book: no retired command is given a number,
pub given_current : (b : Book) (past : List Call) (c n : ℕ) → Memᴰ (line (ask c) (full n)) (history b past) → is_retired c ≡ false
unfolding history
given_current b [] c n m = absurd (Memᴰ.not-nil m)
given_current b (x ∷ past) c n (Memᴰ.head q) = here x (answer (run b past) x) refl q
  where
    here : (x : Call) (v : Answer ℕ) → answer (run b past) x ≡ v → line (ask c) (full n) ≡ line x v → is_retired c ≡ false
    here (ask d) v e q =
        let w : number_for (run b past) c ≡ full n = cc in
        may_ask_current c (number_may (run b past) c n w).0
    here (reply m) v e q = clash (cc)
given_current b (x ∷ past) c n (Memᴰ.tail m) = given_current b past c n m

-- and one that stands under a number afterwards stood there before
set_either : (asked : List ℕ) (i e n : ℕ) → (entry (set asked i e) n ≡ e) ⊎ (entry (set asked i e) n ≡ entry asked n)
set_either [] i e n = inr refl
set_either (a ∷ asked) zero e zero = inl refl
set_either (a ∷ asked) zero e (suc n) = inr refl
set_either (a ∷ asked) (suc i) e zero = inr refl
set_either (a ∷ asked) (suc i) e (suc n) = set_either asked i e n

set_current : (asked : List ℕ) (i e n : ℕ) → is_retired e ≡ false → is_retired (entry (set asked i e) n) ≡ true
    → entry (set asked i e) n ≡ entry asked n
set_current asked i e n f t = elim (set_either asked i e n) [ inl q ↦ not_both t (ap is_retired q ∙ f) | inr q ↦ q ]

vacant_current : is_retired vacant ≡ false
unfolding is_retired
vacant_current = refl

step : (b : Book) (x : Call) (n : ℕ) → is_retired (entry (after b x).asked n) ≡ true → entry (after b x).asked n ≡ entry b.asked n
step b (ask c) n = go (number_for b c) refl
  where
    go : (v : Answer ℕ) → number_for b c ≡ v → is_retired (entry (noted b c v).asked n) ≡ true → entry (noted b c v).asked n ≡ entry b.asked n
    go (refused k) e t = refl
    go (full m) e t = set_current b.asked m c n (may_ask_current c (number_may b c m e).0) t
step b (reply m) n = go (command_of b m)
  where
    go : (v : Answer ℕ) → is_retired (entry (freed b m v).asked n) ≡ true → entry (freed b m v).asked n ≡ entry b.asked n
    go (refused k) t = refl
    go (full c) t = set_current b.asked m vacant n vacant_current t

pub retired_before : (b : Book) (past : List Call) (n : ℕ) → is_retired (entry (run b past).asked n) ≡ true
    → entry (run b past).asked n ≡ entry b.asked n
unfolding run
retired_before b [] n t = refl
retired_before b (x ∷ past) n t =
    let e = step (run b past) x n t in
    e ∙ retired_before b past n (ap is_retired (sym e) ∙ t)

-- so a run from a fresh book holds none
pub fresh_none : (past : List Call) (n : ℕ) → is_retired (entry (book_of past).asked n) ≡ false
fresh_none past n = go (is_retired (entry (book_of past).asked n)) refl
  where
    go : (t : Bool) → is_retired (entry (book_of past).asked n) ≡ t → t ≡ false
    go true e = not_both e (ap is_retired (retired_before fresh_book past n e ∙ fresh_entry 256 n) ∙ vacant_current)
    go false e = refl
