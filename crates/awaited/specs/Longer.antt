-- Runs of calls with giving up among them, over the definitions that the contracts cite. In a run and in its history the latest call stands first.
-- Each is a run of the book without ticks, in which a request that is given up is one whose reply is taken as come: so all that is claimed of
-- those runs holds of these (`Since`).
use Prim.Native.Nat.{ℕ, zero, suc}
use Rattle.std.specs.Prelude.{◌≡◌, Bool, true, false, ◌⊎◌}
use Rattle.std.proofs.Math.Path.{refl}
use Rattle.std.proofs.Common.{sym, ap, ap₂, subst, ◌∙◌, arith}
use mathlib.Core.List.{List, [], ◌∷◌, ◌++◌}
use Rattle.refusal.specs.Test.{pick, both_left}
use Rattle.refusal.specs.Answer.{Answer, refused, full}
use Rattle.command.specs.Command.{is_known}
use Rattle.tick.specs.Age.{is_over}
use Rattle.free_number.specs.declared.Book.{Book}
use Rattle.book.specs.declared.Timed.{Timed}
use Rattle.free_number.specs.Number.{entry, holds, number_for, book}
use Rattle.book.specs.Book.{command_of}
use Rattle.book.specs.Ticks.{tick_at, fresh_timed, noted_at, freed_at, is_old, those, old_ones, struck, given_up, count_freed}
use Rattle.book.specs.Old.{struck_beyond}
use Rattle.awaited.specs.Run.{Call, ask, reply, answer, after, run, line, history, answers, given_in, run_on}
use Rattle.awaited.specs.Sound.{Sound, run_sound}

-- a call: asking with a command at a tick, a reply's sequence number, or giving up by the tick now and a limit
pub data TimedCall : Type 0 where
  ask_at : ℕ → ℕ → TimedCall
  reply_to : ℕ → TimedCall
  give_up : ℕ → ℕ → TimedCall

-- its answer, and the book afterwards
abbrev pub timed_answer : Timed → TimedCall → Answer ℕ
timed_answer b (ask_at c t) = number_for b.book c
timed_answer b (reply_to n) = command_of b.book n
timed_answer b (give_up clock limit) = full (count_freed b clock limit)

abbrev pub timed_after : Timed → TimedCall → Timed
timed_after b (ask_at c t) = noted_at b c t (number_for b.book c)
timed_after b (reply_to n) = freed_at b n (command_of b.book n)
timed_after b (give_up clock limit) = given_up b clock limit

-- the book after a run of calls
unfoldable pub timed_run : Timed → List TimedCall → Timed
timed_run b [] = b
timed_run b (x ∷ past) = timed_after (timed_run b past) x

-- a line of a history: a call and its answer
pub data TimedLine : Type 0 where
  timed_line : TimedCall → Answer ℕ → TimedLine

-- the history of a run of calls
unfoldable pub timed_history : Timed → List TimedCall → List TimedLine
timed_history b [] = []
timed_history b (x ∷ past) = timed_line x (timed_answer (timed_run b past) x) ∷ timed_history b past

-- the same from a fresh book
abbrev pub timed_of : List TimedCall → Timed
timed_of past = timed_run fresh_timed past

abbrev pub timed_history_of : List TimedCall → List TimedLine
timed_history_of past = timed_history fresh_timed past

-- the line ends the waiting for number n, asked at tick t: a reply with n that was answered, or giving up, where t is too long ago for it
abbrev pub ends : ℕ → ℕ → TimedLine → Bool
ends n t (timed_line (ask_at c u) v) = false
ends n t (timed_line (reply_to m) v) = answers n (line (reply m) v)
ends n t (timed_line (give_up clock limit) v) = is_over clock t limit

-- number n is awaited with command c, asked at tick t: it was given to such an ask, and since then neither answered nor given up
abbrev pub AwaitedAt : ℕ → ℕ → ℕ → List TimedLine → Type 0
AwaitedAt n c t [] = ⊥
AwaitedAt n c t (l ∷ past) = (l ≡ timed_line (ask_at c t) (full n)) ⊎ ((ends n t l ≡ false) × AwaitedAt n c t past)

-- the numbers that asks were given
abbrev pub timed_given : List TimedLine → List ℕ
timed_given [] = []
timed_given (timed_line (ask_at c t) (refused k) ∷ past) = timed_given past
timed_given (timed_line (ask_at c t) (full n) ∷ past) = n ∷ timed_given past
timed_given (timed_line (reply_to m) v ∷ past) = timed_given past
timed_given (timed_line (give_up clock limit) v ∷ past) = timed_given past

-- THE BOOK WITHOUT TICKS. What a call is to it: giving up is a reply for each number that is freed
abbrev pub replies : List ℕ → List Call
replies [] = []
replies (n ∷ ns) = reply n ∷ replies ns

abbrev pub untimed : Timed → TimedCall → List Call
untimed b (ask_at c t) = ask c ∷ []
untimed b (reply_to n) = reply n ∷ []
untimed b (give_up clock limit) = replies (old_ones b.book.asked b.ticks clock limit)

-- and what a run is to it
unfoldable pub shadow : Timed → List TimedCall → List Call
shadow b [] = []
shadow b (x ∷ past) = untimed (timed_run b past) x ++ shadow b past

-- replies for awaited numbers strike them out
module _ (b : Book) (test : ℕ → Bool) (held : (n : ℕ) → test n ≡ true → holds b.asked n ≡ true) where
  struck_run : (k : ℕ) → run b (replies (those test k)) ≡ book (struck b.asked (those test k)) b.last
  unfolding run those struck command_of
  struck_run zero = refl
  struck_run (suc k) = go (test k) refl (struck_run k)
    where
      s : List ℕ
      s = struck b.asked (those test k)

      go : (t : Bool) → test k ≡ t → run b (replies (those test k)) ≡ book s b.last
          → run b (replies (pick t (k ∷ those test k) (those test k))) ≡ book (struck b.asked (pick t (k ∷ those test k) (those test k))) b.last
      go true e on =
          let there : is_known (entry s k) ≡ true = ap is_known (struck_beyond test b.asked k k (omega arith)) ∙ held k e in
          ap (λ (d : Book). after d (reply k)) on ∙ rw there
      go false e on = on

-- one call, to the book without ticks
pub shadow_one : (b : Timed) (x : TimedCall) → run b.book (untimed b x) ≡ (timed_after b x).book
unfolding run
shadow_one b (ask_at c t) = refl
shadow_one b (reply_to n) = refl
shadow_one b (give_up clock limit) =
    struck_run b.book (is_old b.book.asked b.ticks clock limit)
    (λ n. both_left (holds b.book.asked n) (is_over clock (tick_at b.ticks n) limit)) 256

-- THE EQUATION: the book with ticks, its ticks left out, is the book it was
pub shadow_run : (b : Timed) (past : List TimedCall) → (timed_run b past).book ≡ run b.book (shadow b past)
unfolding timed_run shadow run
shadow_run b [] = refl
shadow_run b (x ∷ past) =
    let here = timed_run b past in
    sym (shadow_one here x) ∙ ap (λ (d : Book). run d (untimed here x)) (shadow_run b past) ∙ sym (run_on b.book (shadow b past) (untimed here x))

-- asks and replies are answered as they were
pub shadow_ask : (b : Timed) (past : List TimedCall) (c t : ℕ)
    → timed_answer (timed_run b past) (ask_at c t) ≡ answer (run b.book (shadow b past)) (ask c)
shadow_ask b past c t = ap (λ (d : Book). number_for d c) (shadow_run b past)

pub shadow_reply : (b : Timed) (past : List TimedCall) (n : ℕ)
    → timed_answer (timed_run b past) (reply_to n) ≡ answer (run b.book (shadow b past)) (reply n)
shadow_reply b past n = ap (λ (d : Book). command_of d n) (shadow_run b past)

-- and the same numbers are given
replies_give : (b : Book) (ns : List ℕ) (past : List Call) → given_in (history b (replies ns ++ past)) ≡ given_in (history b past)
unfolding history
replies_give b [] past = refl
replies_give b (n ∷ ns) past = replies_give b ns past

pub shadow_given : (b : Timed) (past : List TimedCall) → timed_given (timed_history b past) ≡ given_in (history b.book (shadow b past))
unfolding timed_history shadow history
shadow_given b [] = refl
shadow_given b (ask_at c t ∷ past) = go (timed_answer (timed_run b past) (ask_at c t)) (shadow_ask b past c t) (shadow_given b past)
  where
    go : (v : Answer ℕ) → v ≡ answer (run b.book (shadow b past)) (ask c) → timed_given (timed_history b past) ≡ given_in (history b.book (shadow b past))
        → timed_given (timed_line (ask_at c t) v ∷ timed_history b past) ≡ given_in (line (ask c) (answer (run b.book (shadow b past)) (ask c)) ∷ history b.book (shadow b past))
    go (refused k) e on = rw (← e) on
    go (full n) e on = rw (← e) (ap (λ (ns : List ℕ). n ∷ ns) on)
shadow_given b (reply_to n ∷ past) = shadow_given b past
shadow_given b (give_up clock limit ∷ past) =
    let here = timed_run b past in
    shadow_given b past ∙ sym (replies_give b.book (old_ones here.book.asked here.ticks clock limit) (shadow b past))

-- so every book of such a run from a fresh one holds, for each number, nothing or a command
pub timed_sound : (past : List TimedCall) → Sound (timed_of past).book
timed_sound past = subst Sound (sym (shadow_run fresh_timed past)) (run_sound (shadow fresh_timed past))

-- "no state changes": a refused call leaves the whole book as it was, ticks too
pub timed_refused_same : (b : Timed) (x : TimedCall) (k : ℕ) → timed_answer b x ≡ refused k → timed_after b x ≡ b
timed_refused_same b (ask_at c t) k e = rw e
timed_refused_same b (reply_to n) k e = rw e
timed_refused_same b (give_up clock limit) k e = cc

-- a run goes on from the book that an earlier one left
pub timed_run_on : (b : Timed) (past later : List TimedCall) → timed_run b (later ++ past) ≡ timed_run (timed_run b past) later
unfolding timed_run
timed_run_on b past [] = refl
timed_run_on b past (x ∷ later) = ap (λ (c : Timed). timed_after c x) (timed_run_on b past later)

pub timed_history_on : (b : Timed) (past later : List TimedCall)
    → timed_history b (later ++ past) ≡ timed_history (timed_run b past) later ++ timed_history b past
unfolding timed_history
timed_history_on b past [] = refl
timed_history_on b past (x ∷ later) =
    ap₂ (λ (c : Timed) (h : List TimedLine). timed_line x (timed_answer c x) ∷ h) (timed_run_on b past later) (timed_history_on b past later)
