-- Document 02, W-205: "The book of unanswered requests must also hold the tick .. at which each was asked." What asking, replying and giving
-- up answer, and the book afterwards. "The record changes for asking and replying as well; their numbers, order and refusals stay": these
-- are those of the book without ticks.
use Rattle.std.specs.Prelude.{ℕ, zero, suc, ◌≡◌, Bool, ◌&&◌, List, [], ◌∷◌, get_or, set, replicate, length, Result}
use Rattle.refusal.specs.Test.{pick}
use Rattle.refusal.specs.Answer.{Answer, refused, full, said}
use Rattle.tick.specs.Age.{is_over}
use Rattle.book.specs.declared.Timed.{Timed}
use Rattle.refusal.specs.declared.Refusal.{Refusal}
use Rattle.free_number.specs.Number.{vacant, holds, book, number_for}
use Rattle.book.specs.Book.{fresh_book, noted, command_of, freed}

-- a book of its parts, as they are lent: the entries, the last number, the ticks
abbrev pub timed : List ℕ → ℕ → List ℕ → Timed
timed asked last ticks = record { book = book asked last; ticks = ticks }

-- the tick under a number
abbrev pub tick_at : List ℕ → ℕ → ℕ
tick_at ticks n = get_or ticks n 0

-- fresh as before; where nothing is held a tick says nothing
abbrev pub fresh_timed : Timed
fresh_timed = record { book = fresh_book; ticks = replicate 256 0 }

-- ASKING with a command at a tick: the tick stands under the number given; a refusal changes nothing
abbrev pub ticked : List ℕ → ℕ → Answer ℕ → List ℕ
ticked ticks t (refused k) = ticks
ticked ticks t (full n) = set ticks n t

abbrev pub noted_at : Timed → ℕ → ℕ → Answer ℕ → Timed
noted_at b c t v = record { book = noted b.book c v; ticks = ticked b.ticks t v }

-- REPLYING changes no tick
abbrev pub freed_at : Timed → ℕ → Answer ℕ → Timed
freed_at b n v = record { book = freed b.book n v; ticks = b.ticks }

-- GIVING UP "all requests older than a limit": the number is awaited, and its age is over the limit
abbrev pub is_old : List ℕ → List ℕ → ℕ → ℕ → ℕ → Bool
is_old asked ticks clock limit n = holds asked n && is_over clock (tick_at ticks n) limit

-- those of the k numbers from 0 on of which a test holds, the last in front
unfoldable pub those : (ℕ → Bool) → ℕ → List ℕ
those test zero = []
those test (suc k) = let fewer = those test k in pick (test k) (k ∷ fewer) fewer

abbrev pub old_ones : List ℕ → List ℕ → ℕ → ℕ → List ℕ
old_ones asked ticks clock limit = those (is_old asked ticks clock limit) 256

-- "every such number is freed, no other changes"
unfoldable pub struck : List ℕ → List ℕ → List ℕ
struck asked [] = asked
struck asked (n ∷ ns) = set (struck asked ns) n vacant

abbrev pub given_up : Timed → ℕ → ℕ → Timed
given_up b clock limit = timed (struck b.book.asked (old_ones b.book.asked b.ticks clock limit)) b.book.last b.ticks

-- "and the count freed is returned"
abbrev pub count_freed : Timed → ℕ → ℕ → ℕ
count_freed b clock limit = length (old_ones b.book.asked b.ticks clock limit)

-- THE CONTRACTS: the answer, and the book afterwards. A part that a call is not lent is any, and stays as it is
pub record Asks (b : Timed) (c t : ℕ) (r : Result ℕ Refusal) (after : Timed) : Type 0 where
  pub says : said r ≡ number_for b.book c
  pub leaves : after ≡ noted_at b c t (number_for b.book c)

pub record Replies (asked : List ℕ) (n : ℕ) (r : Result ℕ Refusal) (after : List ℕ) : Type 0 where
  pub says : (last : ℕ) → said r ≡ command_of (book asked last) n
  pub leaves : (last : ℕ) → book after last ≡ freed (book asked last) n (command_of (book asked last) n)

pub record GivesUp (asked ticks : List ℕ) (clock limit r : ℕ) (after : List ℕ) : Type 0 where
  pub says : (last : ℕ) → r ≡ count_freed (timed asked last ticks) clock limit
  pub leaves : (last : ℕ) → timed after last ticks ≡ given_up (timed asked last ticks) clock limit
