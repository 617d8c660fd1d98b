-- The book as another language keeps it: handed over once, and then lent part by part; and the answers.
use Rattle.std.specs.Prelude.{ℕ, ◌≡◌, List}
use Rattle.std.proofs.Common.{sym, ap, ◌∙◌}
use Rattle.refusal.specs.Answer.{Answer, refused, full}
use Rattle.free_number.specs.declared.Book.{Book}
use Rattle.book.specs.declared.Timed.{Timed}
use Rattle.free_number.specs.Number.{number_for, book}
use Rattle.book.specs.Book.{command_of, freed}
use Rattle.book.specs.Ticks.{noted_at}
use Rattle.c_values.specs.declared.WickBook.{WickBook}
use Rattle.c_values.specs.declared.WickBooked.{WickBooked}

abbrev pub book_out : Timed → WickBook
book_out b = record { asked = b.book.asked; last = b.book.last; ticks = b.ticks }

-- an answer
abbrev pub booked_by : Answer ℕ → WickBooked
booked_by (refused k) = record { refusal = k; answer = 0 }
booked_by (full n) = record { refusal = 0; answer = n }

-- the answer, and the book afterwards: those of crate book
pub record AsksOut (b : Timed) (c t : ℕ) (w : WickBooked) (after : Timed) : Type 0 where
  pub says : w ≡ booked_by (number_for b.book c)
  pub leaves : after ≡ noted_at b c t (number_for b.book c)

pub record RepliesOut (asked : List ℕ) (n : ℕ) (w : WickBooked) (after : List ℕ) : Type 0 where
  pub says : (last : ℕ) → w ≡ booked_by (command_of (book asked last) n)
  pub leaves : (last : ℕ) → book after last ≡ freed (book asked last) n (command_of (book asked last) n)

-- they leave no choice
pub asks_out_one : {b : Timed} {c t : ℕ} {v w : WickBooked} {x y : Timed} → AsksOut b c t v x → AsksOut b c t w y → (v ≡ w) × (x ≡ y)
asks_out_one p q = (p.says ∙ sym q.says, p.leaves ∙ sym q.leaves)

pub replies_out_one : {asked : List ℕ} {n : ℕ} {v w : WickBooked} {x y : List ℕ} → RepliesOut asked n v x → RepliesOut asked n w y → (v ≡ w) × (x ≡ y)
replies_out_one p q = (p.says 0 ∙ sym (q.says 0), ap (λ (b : Book). b.asked) (p.leaves 0 ∙ sym (q.leaves 0)))
