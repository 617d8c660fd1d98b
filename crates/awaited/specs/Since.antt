-- Any run of calls from a fresh book, with giving up among them: a number is awaited, with the tick at which it was asked, until its reply or until
-- it is given up. Its history says so, the book holds it, and what was claimed of runs without giving up is cited (`Awaited`, `Again`, `Retired`).
use Rattle.std.specs.Prelude.{ℕ, zero, suc, ◌≤◌, ◌<◌, ◌≡◌, refl, Bool, true, false, ◌&&◌, ◌⊎◌, ◌↔◌, length, set, replicate}
use Rattle.std.proofs.Common.{sym, ap, subst, ◌∙◌, inl, inr, length-set, get_or-set_same, get_or-set_other, arith}
use mathlib.Core.List.Memᴰ
use mathlib.Core.List.{List, [], ◌∷◌, Memᴰ}
use mathlib.Core.Logic.Iff
use Rattle.std.proofs.lemmas.List.{length-replicate}
use Rattle.std.proofs.Math.Decide.{dec_lt}
use Rattle.refusal.specs.Test.{pick, clash, not_both}
use Rattle.refusal.specs.Answer.{Answer, refused, full}
use Rattle.command.specs.Command.{is_known, is_retired, may_ask}
use Rattle.command.specs.Known.{may_ask_current}
use Rattle.tick.specs.Age.{is_over}
use Rattle.free_number.specs.declared.Book.{Book}
use Rattle.book.specs.declared.Timed.{Timed}
use Rattle.free_number.specs.Number.{vacant, entry, holds, number_for}
use Rattle.book.specs.Book.{command_of}
use Rattle.book.specs.Ticks.{tick_at, fresh_timed, noted_at, freed_at, ticked, is_old, given_up, count_freed}
use Rattle.awaited.specs.Found.{between, number_full, number_may, command_full}
use Rattle.awaited.specs.Run.{Call, ask, reply, run, line, history, book_of, history_of, Awaited}
use Rattle.free_number.specs.Search.{vacant_free, freed_entry}
use Rattle.awaited.specs.Sound.{Sound, held_below}
use Rattle.awaited.specs.Kept.{HeldUnder, Step, step_ask as untimed-ask, step_reply as untimed-reply, chain, kept}
use Rattle.awaited.specs.Awaited.{reply_command, free_unawaited, reply_ten, given_unawaited, ask_nine}
use Rattle.awaited.specs.Again.{given_in_turn, given_again, countdown, given_first}
use Rattle.awaited.specs.Retired.{retired_asked, retired_replied, retired_before, fresh_none}
use Rattle.book.specs.Old.{struck_beyond}
use Rattle.book.specs.GivenUp.{given_up_entry, given_up_holds}
use Rattle.awaited.specs.Longer.{TimedCall, ask_at, reply_to, give_up, timed_answer, timed_after, timed_run, TimedLine, timed_line, timed_history, timed_of, timed_history_of, ends, AwaitedAt, timed_given, shadow, shadow_run, shadow_ask, shadow_reply, shadow_given, timed_sound, timed_refused_same}

-- command c is held under n, asked at tick t
abbrev pub HeldAt : Timed → ℕ → ℕ → ℕ → Type 0
HeldAt b n c t = HeldUnder b.book n c × (tick_at b.ticks n ≡ t)

-- what makes it so after the call of a line: it is asked there under n, or it was held and is neither answered nor given up there
abbrev StepAt : Timed → ℕ → ℕ → ℕ → TimedLine → Type 0
StepAt b n c t l = (l ≡ timed_line (ask_at c t) (full n)) ⊎ ((ends n t l ≡ false) × HeldAt b n c t)

module _ (b : Timed) (s : Sound b.book) (long : length b.ticks ≡ 256) (n c t : ℕ) where
  -- asking: by the book without ticks, and one tick set
  step_ask : (d u : ℕ) (v : Answer ℕ) → number_for b.book d ≡ v → HeldAt (noted_at b d u v) n c t ↔ StepAt b n c t (timed_line (ask_at d u) v)
  step_ask d u (refused k) e = ((λ h. inr (refl, h)), back)
    where
      back : StepAt b n c t (timed_line (ask_at d u) (refused k)) → HeldAt b n c t
      back (inl q) = clash (cc)
      back (inr h) = h.1
  step_ask d u (full m) e = ((λ h. to (held.0 h.0) h.1), from)
    where
      held : HeldUnder (noted_at b d u (full m)).book n c ↔ Step b.book n c (line (ask d) (full m))
      held = untimed-ask b.book s n c d (full m) e

      below : m < 256
      below = (number_full b.book d s.latest m e).1.below

      other : HeldUnder b.book n c → n ≡ m → ⊥
      other h q =
          not_both h.0 (ap is_known (sym h.1 ∙ ap (entry b.book.asked) q) ∙ (number_full b.book d s.latest m e).1.free)

      here : n ≡ m → tick_at (set b.ticks m u) n ≡ u
      here q = rw q (get_or-set_same b.ticks m u 0 (omega (arith, long, below)))

      elsewhere : (n ≡ m → ⊥) → tick_at (set b.ticks m u) n ≡ tick_at b.ticks n
      elsewhere q = get_or-set_other b.ticks m n u 0 q

      to : Step b.book n c (line (ask d) (full m)) → tick_at (set b.ticks m u) n ≡ t → StepAt b n c t (timed_line (ask_at d u) (full m))
      to (inl q) f =
          let number : n ≡ m = cc in
          let command : d ≡ c = cc in
          let tick : u ≡ t = sym (here number) ∙ f in
          inl (cc)
      to (inr h) f = inr (refl, (h.1, sym (elsewhere (other h.1)) ∙ f))

      from : StepAt b n c t (timed_line (ask_at d u) (full m)) → HeldAt (noted_at b d u (full m)) n c t
      from (inl q) =
          let number : n ≡ m = cc in
          let tick : u ≡ t = cc in
          (held.1 (inl (cc)), here number ∙ tick)
      from (inr h) = (held.1 (inr (refl, h.1.0)), elsewhere (other h.1.0) ∙ h.1.1)

  -- replying: by the book without ticks
  step_reply : (m : ℕ) → HeldAt (freed_at b m (command_of b.book m)) n c t ↔ StepAt b n c t (timed_line (reply_to m) (command_of b.book m))
  step_reply m = ((λ h. to (held.0 h.0) h.1), from)
    where
      held : HeldUnder (freed_at b m (command_of b.book m)).book n c ↔ Step b.book n c (line (reply m) (command_of b.book m))
      held = untimed-reply b.book s n c m (command_of b.book m) refl

      to : Step b.book n c (line (reply m) (command_of b.book m)) → tick_at b.ticks n ≡ t → StepAt b n c t (timed_line (reply_to m) (command_of b.book m))
      to (inl q) f = clash (cc)
      to (inr h) f = inr (h.0, (h.1, f))

      from : StepAt b n c t (timed_line (reply_to m) (command_of b.book m)) → HeldAt (freed_at b m (command_of b.book m)) n c t
      from (inl q) = clash (cc)
      from (inr h) = (held.1 (inr (h.0, h.1.0)), h.1.1)

  -- giving up: entry by entry
  step_up : (clock limit : ℕ) (v : Answer ℕ) → HeldAt (given_up b clock limit) n c t ↔ StepAt b n c t (timed_line (give_up clock limit) v)
  step_up clock limit v = (to, from)
    where
      old : Bool
      old = is_old b.book.asked b.ticks clock limit n

      -- a number past the 256 is not held, before or afterwards
      within : HeldUnder (given_up b clock limit).book n c → n < 256
      within h =
          elim (dec_lt n 256)
          [ yes l ↦ l | no l ↦ held_below s n (ap is_known (sym (struck_beyond (is_old b.book.asked b.ticks clock limit) b.book.asked 256 n (omega arith)) ∙ h.1) ∙ h.0) ]

      to : HeldAt (given_up b clock limit) n c t → StepAt b n c t (timed_line (give_up clock limit) v)
      to h = go (holds b.book.asked n) refl (is_over clock (tick_at b.ticks n) limit) refl (sym (given_up_entry b clock limit n (within h.0)) ∙ h.0.1)
        where
          go : (x : Bool) → holds b.book.asked n ≡ x → (y : Bool) → is_over clock (tick_at b.ticks n) limit ≡ y
              → pick (x && y) vacant (entry b.book.asked n) ≡ c → StepAt b n c t (timed_line (give_up clock limit) v)
          go true e true f g = not_both h.0.0 (ap is_known (sym g) ∙ vacant_free)
          go true e false f g = inr (ap (λ (u : ℕ). is_over clock u limit) (sym h.1) ∙ f, ((h.0.0, g), h.1))
          go false e y f g = not_both (ap is_known g ∙ h.0.0) e

      from : StepAt b n c t (timed_line (give_up clock limit) v) → HeldAt (given_up b clock limit) n c t
      from (inl q) = clash (cc)
      from (inr h) =
          let there : holds b.book.asked n ≡ true = ap is_known h.1.0.1 ∙ h.1.0.0 in
          let young : is_over clock (tick_at b.ticks n) limit ≡ false = ap (λ (u : ℕ). is_over clock u limit) h.1.1 ∙ h.0 in
          ((h.1.0.0, given_up_entry b clock limit n (held_below s n there) ∙ rw (there, young) h.1.0.1), h.1.1)

  step_at_lem : (x : TimedCall) → HeldAt (timed_after b x) n c t ↔ StepAt b n c t (timed_line x (timed_answer b x))
  step_at_lem (ask_at d u) = step_ask d u (number_for b.book d) refl
  step_at_lem (reply_to m) = step_reply m
  step_at_lem (give_up clock limit) = step_up clock limit (full (count_freed b clock limit))

-- a run has 256 ticks
ticks_long : (past : List TimedCall) → length (timed_of past).ticks ≡ 256
unfolding timed_run
ticks_long [] = length-replicate {A = ℕ} 256 0
ticks_long (ask_at c t ∷ past) = go (number_for (timed_of past).book c) (ticks_long past)
  where
    go : (v : Answer ℕ) → length (timed_of past).ticks ≡ 256 → length (ticked (timed_of past).ticks t v) ≡ 256
    go (refused k) e = e
    go (full n) e = length-set (timed_of past).ticks n t ∙ e
ticks_long (reply_to n ∷ past) = ticks_long past
ticks_long (give_up clock limit ∷ past) = ticks_long past

-- what is awaited by the history of a run is what its book holds, tick and all
pub kept_at : (past : List TimedCall) (n c t : ℕ) → HeldAt (timed_of past) n c t ↔ AwaitedAt n c t (timed_history_of past)
unfolding timed_run timed_history run history
kept_at [] n c t = ((λ h. (kept [] n c).0 h.0), λ h. absurd h)
kept_at (x ∷ past) n c t = chain (step_at_lem (timed_of past) (timed_sound past) (ticks_long past) n c t x) (kept_at past n c t)

module _ (past : List TimedCall) where
  abbrev calls : List Call
  calls = shadow fresh_timed past

  -- the tick that stands under an awaited number is the one at which it was asked
  pub tick_kept : (n c t : ℕ) → AwaitedAt n c t (timed_history_of past) → tick_at (timed_of past).ticks n ≡ t
  tick_kept n c t w = ((kept_at past n c t).1 w).1

  -- "a number is awaited until its reply or until it is given up": giving up ends it exactly where it was asked too long ago
  pub given_up_awaited : (clock limit n c t : ℕ)
      → AwaitedAt n c t (timed_history_of (give_up clock limit ∷ past)) ↔ ((is_over clock t limit ≡ false) × AwaitedAt n c t (timed_history_of past))
  unfolding timed_history
  given_up_awaited clock limit n c t = (to, inr)
    where
      to : AwaitedAt n c t (timed_history_of (give_up clock limit ∷ past)) → (is_over clock t limit ≡ false) × AwaitedAt n c t (timed_history_of past)
      to (inl q) = clash (cc)
      to (inr h) = h

  -- it is awaited in the run of the book without ticks exactly if it is in this one, at some tick
  pub awaited_shadow : (n c : ℕ) → Awaited n c (history_of calls) ↔ ((t : ℕ) × AwaitedAt n c t (timed_history_of past))
  awaited_shadow n c = (to, from)
    where
      same : (timed_of past).book ≡ book_of calls
      same = shadow_run fresh_timed past

      to : Awaited n c (history_of calls) → (t : ℕ) × AwaitedAt n c t (timed_history_of past)
      to w =
          let t = tick_at (timed_of past).ticks n in
          (t, (kept_at past n c t).0 (subst (λ (d : Book). HeldUnder d n c) (sym same) ((kept calls n c).1 w), refl))

      from : ((t : ℕ) × AwaitedAt n c t (timed_history_of past)) → Awaited n c (history_of calls)
      from w = (kept calls n c).0 (subst (λ (d : Book). HeldUnder d n c) same ((kept_at past n c w.0).1 w.1).0)

  -- one command and one tick
  pub awaited_at_one : (n c d t u : ℕ) → AwaitedAt n c t (timed_history_of past) → AwaitedAt n d u (timed_history_of past) → (c ≡ d) × (t ≡ u)
  awaited_at_one n c d t u v w =
      let x = (kept_at past n c t).1 v in
      let y = (kept_at past n d u).1 w in
      (sym x.0.1 ∙ y.0.1, sym x.1 ∙ y.1)

  unawaited : (n : ℕ) → ((c : ℕ) → Awaited n c (history_of calls) → ⊥) ↔ ((c t : ℕ) → AwaitedAt n c t (timed_history_of past) → ⊥)
  unawaited n = ((λ f c t w. f c ((awaited_shadow n c).1 (t, w))), λ f c w. let x = (awaited_shadow n c).0 w in f c x.0 x.1)

  -- a number is free in the book exactly if it is not awaited
  pub timed_free_unawaited : (n : ℕ) → (holds (timed_of past).book.asked n ≡ false) ↔ ((c t : ℕ) → AwaitedAt n c t (timed_history_of past) → ⊥)
  timed_free_unawaited n = rw (shadow_run fresh_timed past) (Iff.trans (free_unawaited calls n) (unawaited n))

  -- a reply is answered with c exactly if its number is awaited with c, and refused exactly if it is not awaited, with 10
  pub timed_reply_command : (n c : ℕ) → (timed_answer (timed_of past) (reply_to n) ≡ full c) ↔ ((t : ℕ) × AwaitedAt n c t (timed_history_of past))
  timed_reply_command n c = rw (shadow_reply fresh_timed past n) (Iff.trans (reply_command calls n c) (awaited_shadow n c))

  pub timed_reply_ten : (n k : ℕ)
      → (timed_answer (timed_of past) (reply_to n) ≡ refused k) ↔ ((k ≡ 10) × ((c t : ℕ) → AwaitedAt n c t (timed_history_of past) → ⊥))
  timed_reply_ten n k = rw (shadow_reply fresh_timed past n) (Iff.trans (reply_ten calls n k) (Iff.and Iff.rfl (unawaited n)))

  -- a number is given only if it is not awaited at that moment
  pub timed_given_unawaited : (c t n : ℕ) → timed_answer (timed_of past) (ask_at c t) ≡ full n → (d u : ℕ) → AwaitedAt n d u (timed_history_of past) → ⊥
  timed_given_unawaited c t n e = (unawaited n).0 (given_unawaited calls c n (sym (shadow_ask fresh_timed past c t) ∙ e))

  -- asking with a command that may be asked is refused exactly if all 256 numbers are awaited, and then with 9
  pub timed_ask_nine : (c t k : ℕ) → may_ask c ≡ true
      → (timed_answer (timed_of past) (ask_at c t) ≡ refused k) ↔ ((k ≡ 9) × ((n : ℕ) → n < 256 → (d : ℕ) × (u : ℕ) × AwaitedAt n d u (timed_history_of past)))
  timed_ask_nine c t k may =
      rw (shadow_ask fresh_timed past c t)
      (Iff.trans (ask_nine calls c k may)
      (Iff.and Iff.rfl ((λ h n l. let w = h n l in let x = (awaited_shadow n w.0).0 w.1 in (w.0, x.0, x.1)), λ h n l. let w = h n l in (w.0, (awaited_shadow n w.0).1 (w.1, w.2)))))

  -- a run from a fresh book holds no retired command
  pub timed_fresh_none : (n : ℕ) → is_retired (entry (timed_of past).book.asked n) ≡ false
  timed_fresh_none n = rw (shadow_run fresh_timed past) (fresh_none calls n)

-- RETIRED COMMANDS. Any book, also one handed in: asking with one is refused with 17 and changes nothing, an entry with one takes its reply
module _ (b : Timed) (c : ℕ) (r : is_retired c ≡ true) where
  pub timed_retired_asked : (t : ℕ) → (timed_answer b (ask_at c t) ≡ refused 17) × (timed_after b (ask_at c t) ≡ b)
  timed_retired_asked t =
      let e = (retired_asked b.book c r).0 in
      (e, timed_refused_same b (ask_at c t) 17 e)

  pub timed_retired_replied : (n : ℕ) → entry b.book.asked n ≡ c → timed_answer b (reply_to n) ≡ full c
  timed_retired_replied n e = retired_replied b.book c r n e

-- over any run no retired command is given a number,
pub timed_given_current : (b : Timed) (past : List TimedCall) (c t n : ℕ) → Memᴰ (timed_line (ask_at c t) (full n)) (timed_history b past)
    → is_retired c ≡ false
unfolding timed_history
timed_given_current b [] c t n m = absurd (Memᴰ.not-nil m)
timed_given_current b (x ∷ past) c t n (Memᴰ.head q) = here x (timed_answer (timed_run b past) x) refl q
  where
    here : (x : TimedCall) (v : Answer ℕ) → timed_answer (timed_run b past) x ≡ v → timed_line (ask_at c t) (full n) ≡ timed_line x v → is_retired c ≡ false
    here (ask_at d u) v e q =
        let w : number_for (timed_run b past).book c ≡ full n = cc in
        may_ask_current c (number_may (timed_run b past).book c n w).0
    here (reply_to m) v e q = clash (cc)
    here (give_up clock limit) v e q = clash (cc)
timed_given_current b (x ∷ past) c t n (Memᴰ.tail m) = timed_given_current b past c t n m

-- and one that stands under a number after a run stood there before
pub timed_retired_before : (b : Timed) (past : List TimedCall) (n : ℕ) → is_retired (entry (timed_run b past).book.asked n) ≡ true
    → entry (timed_run b past).book.asked n ≡ entry b.book.asked n
timed_retired_before b past n = rw (shadow_run b past) (retired_before b.book (shadow b past) n)

-- IN ITS TURN. Any book, also one handed in, and a number that is free in it, by a reply, by giving up or from the first: it is among the numbers given as
-- soon as these are more than lie between the last number and it, so among any 256
module _ (b : Timed) (n : ℕ) (hl : b.book.last < 256) (hn : n < 256) (free : holds b.book.asked n ≡ false) where
  pub timed_given_in_turn : (later : List TimedCall) → between b.book.last n < length (timed_given (timed_history b later))
      → Memᴰ n (timed_given (timed_history b later))
  timed_given_in_turn later = rw (shadow_given b later) (given_in_turn b.book n hl hn free (shadow b later))

  pub timed_given_again : (later : List TimedCall) → 256 ≤ length (timed_given (timed_history b later)) → Memᴰ n (timed_given (timed_history b later))
  timed_given_again later = rw (shadow_given b later) (given_again b.book n hl hn free (shadow b later))

-- in any run from a fresh book: a number that is not awaited, one whose reply was just answered, and one that was just given up
pub timed_unawaited_again : (past later : List TimedCall) (n : ℕ) → n < 256 → ((c t : ℕ) → AwaitedAt n c t (timed_history_of past) → ⊥)
    → 256 ≤ length (timed_given (timed_history (timed_of past) later)) → Memᴰ n (timed_given (timed_history (timed_of past) later))
timed_unawaited_again past later n hn free =
    timed_given_again (timed_of past) n (timed_sound past).latest hn ((timed_free_unawaited past n).1 free) later

pub timed_freed_again : (past later : List TimedCall) (n c : ℕ) → timed_answer (timed_of past) (reply_to n) ≡ full c
    → 256 ≤ length (timed_given (timed_history (timed_of (reply_to n ∷ past)) later))
    → Memᴰ n (timed_given (timed_history (timed_of (reply_to n ∷ past)) later))
unfolding timed_run
timed_freed_again past later n c e =
    let k = (command_full (timed_of past).book n c).0 e in
    let below : n < 256 = held_below (timed_sound past) n (ap is_known k.1 ∙ k.0) in
    let free : holds (timed_of (reply_to n ∷ past)).book.asked n ≡ false = rw e (ap is_known (freed_entry (timed_of past).book.asked n) ∙ vacant_free) in
    timed_given_again (timed_of (reply_to n ∷ past)) n (timed_sound (reply_to n ∷ past)).latest below free later

pub given_up_again : (past later : List TimedCall) (clock limit n c t : ℕ) → AwaitedAt n c t (timed_history_of past) → is_over clock t limit ≡ true
    → 256 ≤ length (timed_given (timed_history (timed_of (give_up clock limit ∷ past)) later))
    → Memᴰ n (timed_given (timed_history (timed_of (give_up clock limit ∷ past)) later))
unfolding timed_run
given_up_again past later clock limit n c t w old =
    let h = (kept_at past n c t).1 w in
    let there : holds (timed_of past).book.asked n ≡ true = ap is_known h.0.1 ∙ h.0.0 in
    let below : n < 256 = held_below (timed_sound past) n there in
    let over : is_over clock (tick_at (timed_of past).ticks n) limit ≡ true = ap (λ (u : ℕ). is_over clock u limit) h.1 ∙ old in
    let free : holds (given_up (timed_of past) clock limit).book.asked n ≡ false = given_up_holds (timed_of past) clock limit n below ∙ rw (there, over) in
    timed_given_again (given_up (timed_of past) clock limit) n (timed_sound past).latest below free later

-- no fewer than 256 would do: the first 255 asks of a fresh book are given 0 to 254, and 255 still waits
asks_shadow : (c t k : ℕ) → shadow fresh_timed (replicate k (ask_at c t)) ≡ replicate k (ask c)
unfolding shadow
asks_shadow c t zero = refl
asks_shadow c t (suc k) = ap (λ (s : List Call). ask c ∷ s) (asks_shadow c t k)

pub timed_given_first : (c t : ℕ) → may_ask c ≡ true → (k : ℕ) → k ≤ 256 → timed_given (timed_history_of (replicate k (ask_at c t))) ≡ countdown k
timed_given_first c t may k h = shadow_given fresh_timed (replicate k (ask_at c t)) ∙ rw (asks_shadow c t k) (given_first c may k h)
