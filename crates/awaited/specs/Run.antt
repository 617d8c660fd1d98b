-- Runs of calls: any asks and replies, one after the other, over the definitions that the contracts cite. In a run and in its
-- history the latest call stands first.
use Rattle.std.specs.Prelude.{ℕ, ◌≡◌, refl, Bool, false, List, [], ◌∷◌, ◌++◌, ◌⊎◌, eqb}
use Rattle.std.proofs.Common.{ap, ap₂}
use Rattle.refusal.specs.Answer.{Answer, refused, full}
use Rattle.free_number.specs.declared.Book.{Book}
use Rattle.free_number.specs.Number.{number_for}
use Rattle.book.specs.Book.{fresh_book, noted, command_of, freed}

-- a call: asking with a command, or a reply's sequence number
pub data Call : Type 0 where
  ask : ℕ → Call
  reply : ℕ → Call

-- its answer, and the book afterwards
abbrev pub answer : Book → Call → Answer ℕ
answer b (ask c) = number_for b c
answer b (reply n) = command_of b n

abbrev pub after : Book → Call → Book
after b (ask c) = noted b c (number_for b c)
after b (reply n) = freed b n (command_of b n)

-- the book after a run of calls
unfoldable pub run : Book → List Call → Book
run b [] = b
run b (x ∷ past) = after (run b past) x

-- a line of a history: a call and its answer
pub data Line : Type 0 where
  line : Call → Answer ℕ → Line

-- the history of a run of calls
unfoldable pub history : Book → List Call → List Line
history b [] = []
history b (x ∷ past) = line x (answer (run b past) x) ∷ history b past

-- the same from a fresh book
abbrev pub book_of : List Call → Book
book_of past = run fresh_book past

abbrev pub history_of : List Call → List Line
history_of past = history fresh_book past

-- the line is a reply with number n that was answered
abbrev pub answers : ℕ → Line → Bool
answers n (line (ask c) v) = false
answers n (line (reply m) (refused k)) = false
answers n (line (reply m) (full c)) = eqb m n

-- number n is awaited with command c: it was given to an ask with c, and no reply with n was answered since
abbrev pub Awaited : ℕ → ℕ → List Line → Type 0
Awaited n c [] = ⊥
Awaited n c (l ∷ past) = (l ≡ line (ask c) (full n)) ⊎ ((answers n l ≡ false) × Awaited n c past)

-- the numbers that asks were given
abbrev pub given_in : List Line → List ℕ
given_in [] = []
given_in (line (ask c) (refused k) ∷ past) = given_in past
given_in (line (ask c) (full n) ∷ past) = n ∷ given_in past
given_in (line (reply m) v ∷ past) = given_in past

-- "no state changes": a refused call leaves the whole book as it was
pub refused_same : (b : Book) (x : Call) (k : ℕ) → answer b x ≡ refused k → after b x ≡ b
refused_same b (ask c) k e = rw e
refused_same b (reply n) k e = rw e

-- a run goes on from the book that an earlier one left
pub run_on : (b : Book) (past later : List Call) → run b (later ++ past) ≡ run (run b past) later
unfolding run
run_on b past [] = refl
run_on b past (x ∷ later) = ap (λ (c : Book). after c x) (run_on b past later)

pub history_on : (b : Book) (past later : List Call) → history b (later ++ past) ≡ history (run b past) later ++ history b past
unfolding history
history_on b past [] = refl
history_on b past (x ∷ later) =
    ap₂ (λ (c : Book) (h : List Line). line x (answer c x) ∷ h) (run_on b past later) (history_on b past later)
