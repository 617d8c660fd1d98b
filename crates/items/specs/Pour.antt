-- What is poured of the bytes at hand: the items that stand there one behind the other, as far as their lines find room.
use Rattle.std.specs.Prelude.{ℕ, zero, suc, ◌+◌, ◌*◌, ◌-◌, ◌≡◌, Bool, List, [], ◌∷◌, ◌++◌, length, take, drop, leb}
use Rattle.std.proofs.Common.{sym, ◌∙◌}
use Rattle.refusal.specs.Test.{pick}
use Rattle.stream.specs.Stream.{Item, reading, Position, nothing, stands, counts_of}
use Rattle.extent.specs.declared.Line.{Line}
use Rattle.extent.specs.Line.{cap_of}
use Rattle.line.specs.Rule.{item_at}
use Rattle.printed.specs.Text.{line_of, text_of}
use Rattle.items.specs.declared.Poured.{Poured}

-- what stands at the front of s taken from it, and then other items
abbrev pub takes : Position → List ℕ → List Item → List Item
takes nothing s is = []
takes (stands k m) s is = reading k (take m s) ∷ is

abbrev pub size_at : Position → ℕ
size_at nothing = 0
size_at (stands k m) = m

-- the items that stand at the front of s one behind the other, of which at most n are looked for: "Reading goes on after the item's bytes."
unfoldable pub ready_up_to : Line → Bool → ℕ → List ℕ → List Item
ready_up_to on closed zero s = []
ready_up_to on closed (suc n) s =
    let x = item_at on closed s in
    takes x s (ready_up_to on closed n (drop (size_at x) s))

-- the items at the front of s that are ready: each has a byte at least, so there are no more than bytes
abbrev pub ready : Line → Bool → List ℕ → List Item
ready on closed s = ready_up_to on closed (length s) s

-- of some items, those whose lines find room, one behind the other
unfoldable pub fitting : ℕ → List Item → List Item
fitting room [] = []
fitting room (i ∷ is) = pick (leb (length (line_of i)) room) (i ∷ fitting (room - length (line_of i)) is) []

abbrev pub poured : Line → Bool → ℕ → List ℕ → List Item
poured on closed room s = fitting room (ready on closed s)

-- those of the bytes s from a place on, over a buffer
abbrev pub poured_from : Line → Bool → List ℕ → ℕ → List ℕ → List Item
poured_from on closed s start out = poured on closed (length out) (drop start s)

-- the contract of `pour` where it is to pour the items p from a place on: how far it read, how much text it wrote, and every byte of
-- the buffer
pub record Pours (p : List Item) (start : ℕ) (out : List ℕ) (r : Poured) (out' : List ℕ) : Type 0 where
  pub read : r.read ≡ start + counts_of p
  pub wrote : r.wrote ≡ length (text_of p)
  pub leaves : out' ≡ text_of p ++ drop (length (text_of p)) out

-- it leaves no choice
pub pours_one : {p : List Item} {start : ℕ} {out a b : List ℕ} {r q : Poured}
    → Pours p start out r a → Pours p start out q b → (r ≡ q) × (a ≡ b)
pours_one {p} {start} {out} {a} {b} {r} {q} x y =
    let e : r.read ≡ q.read = x.read ∙ sym y.read in
    let f : r.wrote ≡ q.wrote = x.wrote ∙ sym y.wrote in
    ((λ i. record { read = e i; wrote = f i }), x.leaves ∙ sym y.leaves)

-- the longest line of text of a line's items, 142 bytes for a reply line and 28 for a request line: the number, two digits of the count,
-- two blanks, the line feed, and two digits for each byte of the longest frame
abbrev pub longest_line : Line → ℕ
longest_line on = 6 + 2 * suc (cap_of on)
