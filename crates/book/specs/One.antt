-- The contracts of the book leave no choice: neither in the answer nor in what is lent.
use Rattle.std.specs.Prelude.{ℕ, ◌≡◌, List, Result}
use Rattle.std.proofs.Common.{sym, ap, ◌∙◌}
use Rattle.free_number.specs.declared.Book.{Book}
use Rattle.book.specs.declared.Timed.{Timed}
use Rattle.refusal.specs.Answer.{said_one}
use Rattle.refusal.specs.declared.Refusal.{Refusal}
use Rattle.book.specs.Ticks.{Asks, Replies, GivesUp}

pub asks_one : {b : Timed} {c t : ℕ} {r s : Result ℕ Refusal} {x y : Timed} → Asks b c t r x → Asks b c t s y → (r ≡ s) × (x ≡ y)
asks_one {b} {c} {t} {r} {s} p q = (said_one r s (p.says ∙ sym q.says), p.leaves ∙ sym q.leaves)

pub replies_one : {asked : List ℕ} {n : ℕ} {r s : Result ℕ Refusal} {x y : List ℕ} → Replies asked n r x → Replies asked n s y → (r ≡ s) × (x ≡ y)
replies_one {asked} {n} {r} {s} p q =
    (said_one r s (p.says 0 ∙ sym (q.says 0)), ap (λ (b : Book). b.asked) (p.leaves 0 ∙ sym (q.leaves 0)))

pub gives_up_one : {asked ticks : List ℕ} {clock limit r s : ℕ} {x y : List ℕ}
    → GivesUp asked ticks clock limit r x → GivesUp asked ticks clock limit s y → (r ≡ s) × (x ≡ y)
gives_up_one p q = (p.says 0 ∙ sym (q.says 0), ap (λ (b : Timed). b.book.asked) (p.leaves 0 ∙ sym (q.leaves 0)))
