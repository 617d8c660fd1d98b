-- docs/BENCH.md, "The book of unanswered requests": a book as it is handed in, and the answers, case by case.
use Rattle.std.specs.Prelude.{ℕ, zero, suc, ◌*◌, List, [], ◌∷◌, ◌++◌, get_or, drop, eqb, Result, Ok, Err}
use Rattle.refusal.specs.Test.{pick}
use Rattle.text.specs.Text.{hex_of, decimal_of}
use Rattle.bench_words.specs.Words.{wide_of, made_by, front_of}
use Rattle.words.specs.Words.{text}
use Rattle.book.specs.declared.Timed.{Timed}
use Rattle.book.specs.Ticks.{timed}
use Rattle.refusal.specs.declared.Refusal.{Refusal}
use Rattle.refusal.specs.Refusals.{number_of}
use Rattle.bench_book.specs.declared.Page.{Page}
use Rattle.bench_book.specs.declared.Page.TheVariants.{Done, Number, Command, GivenUp, Book}

-- "ticks of 0, 1, .., in 4 each; bytes 00 behind them, so a short end is filled up"
abbrev pub tick_in : List ℕ → ℕ → ℕ
tick_in s n = wide_of 4 (drop (4 * n) s)

abbrev pub ticks_of : List ℕ → List ℕ
ticks_of s = made_by (tick_in s) 256

-- "commands; 00 behind them"
abbrev pub handed_book : ℕ → List ℕ → List ℕ → Timed
handed_book last s t = timed (front_of 256 s) last (ticks_of t)

-- "`number N`"
abbrev pub number_texts : Result ℕ Refusal → List (List ℕ)
number_texts (Ok n) = text "0 number " ∷ decimal_of n ∷ []
number_texts (Err k) = decimal_of (number_of k) ∷ []

-- "`command CC`"
abbrev pub command_texts : Result ℕ Refusal → List (List ℕ)
command_texts (Ok c) = text "0 command " ∷ hex_of c ∷ []
command_texts (Err k) = decimal_of (number_of k) ∷ []

-- "`freed N`"
abbrev pub given_up_texts : ℕ → List (List ℕ)
given_up_texts n = text "0 freed " ∷ decimal_of n ∷ []

-- "each number whose entry is not 00, its entry, and its tick in decimal"
abbrev pub entry_texts : ℕ → ℕ → ℕ → List (List ℕ)
entry_texts n c t = pick (eqb c 0) [] (text " " ∷ hex_of n ∷ text " " ∷ hex_of c ∷ text " " ∷ decimal_of t ∷ [])

-- the entries of k numbers from n on
unfoldable pub entries_texts : ℕ → ℕ → List ℕ → List ℕ → List (List ℕ)
entries_texts zero n s ts = []
entries_texts (suc k) n s ts = entry_texts n (get_or s n 0) (get_or ts n 0) ++ entries_texts k (suc n) s ts

-- "`last N held NN CC T NN CC T ..`"
abbrev pub book_texts : Timed → List (List ℕ)
book_texts b = text "0 last " ∷ decimal_of b.book.last ∷ text " held" ∷ entries_texts 256 0 b.book.asked b.ticks

-- the answer of a call that leaves this book: 0, or as above
abbrev pub page_texts : Page → Timed → List (List ℕ)
page_texts Done b = text "0" ∷ []
page_texts (Number r) b = number_texts r
page_texts (Command r) b = command_texts r
page_texts (GivenUp n) b = given_up_texts n
page_texts Book b = book_texts b
