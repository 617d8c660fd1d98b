-- "a freed number is used again in its turn": a free number is at the latest the 256th that is given from then on, whatever
-- replies and refusals come between. A book that never gives a number twice is shut out.
use Prim.Native.Nat.{ℕ, zero, suc, ◌+◌, ◌%◌, ◌≤◌, ◌<◌}
use Rattle.std.specs.Prelude.{◌≡◌, false, ◌⊎◌, length, replicate}
use Rattle.std.proofs.Math.Path.{refl, ap}
use Rattle.std.proofs.Common.{sym, ◌∙◌}
use Rattle.std.proofs.Math.Bool.{true, not}
use mathlib.Core.List.{List, [], ◌∷◌, Memᴰ}
use Rattle.std.proofs.Math.Logic.{inl, inr}
use Rattle.std.proofs.Math.Seq.{get_or-set_other}
use Rattle.std.proofs.Math.Decide.{ℕ_discrete}
use native.Mathlib.Omega.{arith}
use Rattle.refusal.specs.Test.{not_both}
use Rattle.refusal.specs.Answer.{Answer, refused, full}
use Rattle.command.specs.Command.{is_known, may_ask}
use Rattle.command.specs.Known.{may_ask_known, may_ask_current}
use Rattle.free_number.specs.declared.Book.{Book}
use Rattle.free_number.specs.Number.{vacant, entry, holds, number_for}
use Rattle.book.specs.Book.{noted, command_of, freed}
use Rattle.free_number.specs.Search.{search_here, vacant_free, freed_entry}
use Rattle.awaited.specs.Found.{between, number_full, command_full}
use Rattle.awaited.specs.Run.{Call, ask, reply, answer, after, run, Line, line, history, book_of, history_of, Awaited, given_in}
use Rattle.awaited.specs.Sound.{fresh_entry, held_below, run_sound}
use Rattle.awaited.specs.Awaited.{free_unawaited}

-- where m is given before n has its turn, fewer numbers lie between m and n than did
nearer : (l m n : ℕ) → l < 256 → m < 256 → n < 256 → (n ≡ m → ⊥) → between l m ≤ between l n → between m n < between l n
nearer l m n hl hm hn q h = omega arith

-- n is still free after a history h that began where the last number was l, and each number given has brought its turn nearer
record Waits (l n : ℕ) (b : Book) (h : List Line) : Type 0 where
  latest : b.last < 256
  free : holds b.asked n ≡ false
  turn : between b.last n + length (given_in h) ≤ between l n

-- a call gives it, or it waits on
module _ (l n : ℕ) (hn : n < 256) (b : Book) (h : List Line) (w : Waits l n b h) where
  step_ask : (c : ℕ) (v : Answer ℕ) → number_for b c ≡ v
      → Memᴰ n (given_in (line (ask c) v ∷ h)) ⊎ Waits l n (noted b c v) (line (ask c) v ∷ h)
  step_ask c (refused k) e = inr (record { latest = w.latest; free = w.free; turn = w.turn })
  step_ask c (full m) e = elim (ℕ_discrete n m) [ yes q ↦ inl (Memᴰ.head q) | no q ↦ inr (on q) ]
    where
      on : (n ≡ m → ⊥) → Waits l n (noted b c (full m)) (line (ask c) (full m) ∷ h)
      on q =
          let f = (number_full b c w.latest m e).1 in
          record {
            latest = f.below;
            free = ap is_known (get_or-set_other b.asked m n c vacant q) ∙ w.free;
            turn = omega (arith, w.turn, nearer b.last m n w.latest f.below hn q (f.first n hn w.free));
          }

  step_reply : (m : ℕ) (v : Answer ℕ) → command_of b m ≡ v → Waits l n (freed b m v) (line (reply m) v ∷ h)
  step_reply m (refused k) e = record { latest = w.latest; free = w.free; turn = w.turn }
  step_reply m (full c) e =
      let k = (command_full b m c).0 e in
      let q : n ≡ m → ⊥ = λ q. not_both (ap is_known (ap (entry b.asked) q ∙ k.1) ∙ k.0) w.free in
      record { latest = w.latest; free = ap is_known (get_or-set_other b.asked m n vacant vacant q) ∙ w.free; turn = w.turn }

  step : (x : Call) → Memᴰ n (given_in (line x (answer b x) ∷ h)) ⊎ Waits l n (after b x) (line x (answer b x) ∷ h)
  step (ask c) = step_ask c (number_for b c) refl
  step (reply m) = inr (step_reply m (command_of b m) refl)

more : {n : ℕ} (l : Line) (h : List Line) → Memᴰ n (given_in h) → Memᴰ n (given_in (l ∷ h))
more (line (ask c) (refused k)) h m = m
more (line (ask c) (full n)) h m = Memᴰ.tail m
more (line (reply k) v) h m = m

-- any book, also one handed in, and a number that is free in it
module _ (b : Book) (n : ℕ) (hl : b.last < 256) (hn : n < 256) (free : holds b.asked n ≡ false) where
  waits : (later : List Call) → Memᴰ n (given_in (history b later)) ⊎ Waits b.last n (run b later) (history b later)
  unfolding run history
  waits [] = inr (record { latest = hl; free = free; turn = omega arith })
  waits (x ∷ later) =
      elim (waits later)
      [ inl m ↦ inl (more (line x (answer (run b later) x)) (history b later) m) | inr w ↦ step b.last n hn (run b later) (history b later) w x ]

  -- it is among the numbers given as soon as these are more than lie between the last number and it
  pub given_in_turn : (later : List Call) → between b.last n < length (given_in (history b later))
      → Memᴰ n (given_in (history b later))
  given_in_turn later h = elim (waits later) [ inl m ↦ m | inr w ↦ absurd (omega (arith, w.turn)) ]

  -- so it is among any 256
  pub given_again : (later : List Call) → 256 ≤ length (given_in (history b later)) → Memᴰ n (given_in (history b later))
  given_again later h = given_in_turn later (omega arith)

-- in any run from a fresh book: a number that is not awaited, and one whose reply was just answered
pub unawaited_again : (past later : List Call) (n : ℕ) → n < 256 → ((c : ℕ) → Awaited n c (history_of past) → ⊥)
    → 256 ≤ length (given_in (history (book_of past) later)) → Memᴰ n (given_in (history (book_of past) later))
unawaited_again past later n hn free = given_again (book_of past) n (run_sound past).latest hn ((free_unawaited past n).1 free) later

pub freed_again : (past later : List Call) (n c : ℕ) → answer (book_of past) (reply n) ≡ full c
    → 256 ≤ length (given_in (history (book_of (reply n ∷ past)) later)) → Memᴰ n (given_in (history (book_of (reply n ∷ past)) later))
unfolding run
freed_again past later n c e =
    let k = (command_full (book_of past) n c).0 e in
    let below : n < 256 = held_below (run_sound past) n (ap is_known k.1 ∙ k.0) in
    let free : holds (book_of (reply n ∷ past)).asked n ≡ false = rw e (ap is_known (freed_entry (book_of past).asked n) ∙ vacant_free) in
    given_again (book_of (reply n ∷ past)) n (run_sound (reply n ∷ past)).latest below free later

-- k - 1, .., 0
abbrev pub countdown : ℕ → List ℕ
countdown zero = []
countdown (suc k) = k ∷ countdown k

-- a fresh book after k asks
record Begun (k : ℕ) (b : Book) : Type 0 where
  latest : b.last ≡ (k + 255) % 256
  beyond : (t : ℕ) → k ≤ t → entry b.asked t ≡ vacant

module _ (c : ℕ) (may : may_ask c ≡ true) where
  begun_gives : (k : ℕ) (b : Book) → k < 256 → Begun k b → number_for b c ≡ full k
  unfolding number_for
  begun_gives k b h s =
      let free : not (holds b.asked k) ≡ true = ap (λ (e : ℕ). not (is_known e)) (s.beyond k (omega arith)) ∙ ap not vacant_free in
      rw (may_ask_known c may, may_ask_current c may) (sym (search_here b.asked b.last 256 k (holds b.asked k) (omega arith) (omega (arith, s.latest)) refl free))

  begun : (k : ℕ) → k ≤ 256 → Begun k (book_of (replicate k (ask c)))
  unfolding run
  begun zero h = record { latest = refl; beyond = λ t l. fresh_entry 256 t }
  begun (suc k) h =
      let b = book_of (replicate k (ask c)) in
      let s : Begun k b = begun k (omega arith) in
      rw (begun_gives k b h s)
      (record { latest = omega arith; beyond = λ t l. get_or-set_other b.asked k t c vacant (omega arith) ∙ s.beyond t (omega arith) })

  -- no fewer than 256 would do: the first 255 asks of a fresh book are given 0 to 254, and 255 still waits
  pub given_first : (k : ℕ) → k ≤ 256 → given_in (history_of (replicate k (ask c))) ≡ countdown k
  unfolding history
  given_first zero h = refl
  given_first (suc k) h =
      rw (begun_gives k (book_of (replicate k (ask c))) h (begun k (omega arith)), given_first k (omega arith))
