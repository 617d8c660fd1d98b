-- What the contracts of crates book and reader say of an answer, said of what is handed over.
use Rattle.std.specs.Prelude.{ℕ, Result, ◌≡◌, List}
use Rattle.std.proofs.Common.{ap, ◌∙◌}
use Rattle.book.specs.declared.Timed.{Timed}
use Rattle.refusal.specs.Answer.{said}
use Rattle.refusal.specs.declared.Refusal.{Refusal}
use Rattle.book.specs.Ticks.{Asks, Replies}
use Rattle.extent.specs.declared.Line.{Line}
use Rattle.reader.specs.declared.Held.{Held}
use Rattle.reader.specs.declared.Given.{Given as Item}
use Rattle.reader.specs.Reader.{given_of, closed_of, Feeds, Closes}
use Rattle.c_values.specs.Lines.{given_out, no_item, fed_out, closed_out}
use Rattle.c_values.specs.declared.WickBooked.{WickBooked}
use Rattle.c_values.specs.Books.{booked_by, AsksOut, RepliesOut}

-- what a call of a book answers, and what it leaves
pub asked_out : {b : Timed} {c t : ℕ} {g : Result ℕ Refusal} {after : Timed} {w : WickBooked} → w ≡ booked_by (said g) → Asks b c t g after → AsksOut b c t w after
asked_out e a = record { says = e ∙ ap booked_by a.says; leaves = a.leaves }

pub replied_out : {asked : List ℕ} {n : ℕ} {f : Result ℕ Refusal} {after : List ℕ} {w : WickBooked}
    → w ≡ booked_by (said f) → Replies asked n f after → RepliesOut asked n w after
replied_out e a = record { says = λ last. e ∙ ap booked_by (a.says last); leaves = a.leaves }

-- what a call of a reader gives, of the line and the reader that were handed in
pub fed_out_lem : {on on' : Line} {h h' : Held} {p : List ℕ} (r : Item) → on' ≡ on → h' ≡ h → Feeds on' h' p r → given_out r no_item ≡ fed_out on h p
fed_out_lem {on} {on'} {h} {h'} {p} r e f w =
    ap (λ (g : Item). given_out g no_item) (w.only ∙ ap (given_of p) w.says) ∙ ap (λ z. fed_out z h' p) e ∙ ap (λ z. fed_out on z p) f

pub closed_out_lem : {on on' : Line} {h h' : Held} (r : Item) → on' ≡ on → h' ≡ h → Closes on' h' r → given_out r no_item ≡ closed_out on h
closed_out_lem {on} {on'} {h} {h'} r e f w =
    ap (λ (g : Item). given_out g no_item) (w.only ∙ ap closed_of w.says) ∙ ap (λ z. closed_out z h') e ∙ ap (closed_out on) f
