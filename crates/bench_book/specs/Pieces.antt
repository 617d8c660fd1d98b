-- The answers by value, as the code has them, and that they say the texts of docs/BENCH.md.
use Rattle.std.specs.Prelude.{ℕ, ◌≡◌, refl, List, [], ◌++◌, Result, Ok, Err}
use Rattle.std.proofs.Common.{sym, ap, ◌∙◌, append-nil}
use Rattle.words.specs.Words.{before, word_in, text}
use Rattle.bench_say.specs.Pieces.{pieces_texts, three, byted}
use Rattle.bench_say.specs.declared.Pieces.{Pieces}
use Rattle.book.specs.declared.Timed.{Timed}
use Rattle.refusal.specs.declared.Refusal.{Refusal}
use Rattle.refusal.specs.Refusals.{number_of}
use Rattle.bench_book.specs.declared.Page.{Page}
use Rattle.bench_book.specs.declared.Page.TheVariants.{Done, Number, Command, GivenUp, Book}
use Rattle.bench_book.specs.Pages.{number_texts, command_texts, entries_texts, page_texts}

abbrev pub names : List ℕ
names = text "0,0 number ,0 command ,0 last , held,0 freed "

abbrev pub number_pieces : Result ℕ Refusal → Pieces
number_pieces (Ok n) = three 0x12 n 0 0 0 0
number_pieces (Err k) = three 4 (number_of k) 0 0 0 0

abbrev pub command_pieces : Result ℕ Refusal → Pieces
command_pieces (Ok c) = byted 0x23 0 0 0 0 0 c
command_pieces (Err k) = three 4 (number_of k) 0 0 0 0

abbrev pub page_pieces : Page → ℕ → Pieces
page_pieces Done last = three 0x01 0 0 0 0 0
page_pieces (Number g) last = number_pieces g
page_pieces (Command f) last = command_pieces f
page_pieces (GivenUp n) last = three 0x52 n 0 0 0 0
page_pieces Book last = three 0x32 last 0x41 0 0 0

-- what stands behind an answer's pieces: the entries of a book
abbrev pub rest_of : Page → Timed → List (List ℕ)
rest_of Done b = []
rest_of (Number g) b = []
rest_of (Command f) b = []
rest_of (GivenUp n) b = []
rest_of Book b = entries_texts 256 0 b.book.asked b.ticks

number_said : (r : Result ℕ Refusal) → pieces_texts names (number_pieces r) ≡ number_texts r
unfolding before word_in
number_said (Ok n) = refl
number_said (Err k) = refl

command_said : (r : Result ℕ Refusal) → pieces_texts names (command_pieces r) ≡ command_texts r
unfolding before word_in
command_said (Ok c) = refl
command_said (Err k) = refl

page_said : (p : Page) (b : Timed) → pieces_texts names (page_pieces p b.book.last) ++ rest_of p b ≡ page_texts p b
unfolding before word_in
page_said Done b = refl
page_said (Number g) b = append-nil (pieces_texts names (number_pieces g)) ∙ number_said g
page_said (Command f) b = append-nil (pieces_texts names (command_pieces f)) ∙ command_said f
page_said (GivenUp n) b = refl
page_said Book b = refl

pub page_of : (p : Page) (b : Timed) {x : Pieces} → x ≡ page_pieces p b.book.last → pieces_texts names x ++ rest_of p b ≡ page_texts p b
page_of p b {x} e = ap (λ (y : Pieces). pieces_texts names y ++ rest_of p b) e ∙ page_said p b

pub plain_of : (p : Page) (b : Timed) {x : Pieces} → x ≡ page_pieces p b.book.last → rest_of p b ≡ [] → pieces_texts names x ≡ page_texts p b
plain_of p b {x} e r = sym (append-nil (pieces_texts names x)) ∙ ap (λ (y : List (List ℕ)). pieces_texts names x ++ y) (sym r) ∙ page_of p b e
