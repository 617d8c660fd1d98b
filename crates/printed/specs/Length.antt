-- What is claimed of the lines: how long they are, that none is empty, and that the lines of items one after the other are the text of all.
use Rattle.std.specs.Prelude.{ℕ, ◌+◌, ◌*◌, ◌≤◌, ◌<◌, ◌≡◌, refl, List, [], ◌∷◌, ◌++◌, length}
use Rattle.std.proofs.Common.{sym, ap, ◌∙◌, append_assoc, append-nil, length-append, arith}
use Rattle.text.specs.Text.{decimal_of}
use Rattle.text.specs.Decimal.{decimal_most}
use Rattle.text.specs.Digits.{decimal_one}
use Rattle.stream.specs.Stream.{Item, reading}
use Rattle.printed.specs.Text.{hexes, head_of, head_most, line_of, text_of}

pub hexes_length : (s : List ℕ) → length (hexes s) ≡ 2 * length s
unfolding hexes
hexes_length [] = refl
hexes_length (b ∷ s) = omega (arith, hexes_length s)

pub line_length : (k : ℕ) (s : List ℕ)
    → length (line_of (reading k s)) ≡ length (decimal_of k) + length (decimal_of (length s)) + 2 * length s + 3
line_length k s = simp (length-append, hexes_length) (omega arith)

-- where the number has one digit
pub line_short : (k : ℕ) (s : List ℕ) → k < 10 → length (line_of (reading k s)) ≡ 2 * length s + 4 + length (decimal_of (length s))
line_short k s h = line_length k s ∙ rw (decimal_one k h) (omega arith)

-- a line ends, so it is never empty
pub line_some : (i : Item) → 1 ≤ length (line_of i)
line_some (reading k s) = omega (arith, line_length k s)

pub head_most_lem : (k n : ℕ) → length (head_of k n) ≤ head_most
head_most_lem k n = simp length-append (omega (arith, decimal_most 20 k, decimal_most 20 n))

-- the text of items, in parts
pub text_append : (is js : List Item) → text_of (is ++ js) ≡ text_of is ++ text_of js
unfolding text_of
text_append [] js = refl
text_append (i ∷ is) js = ap (λ (l : List ℕ). line_of i ++ l) (text_append is js) ∙ sym (append_assoc (line_of i) (text_of is) (text_of js))

pub text_none : text_of [] ≡ []
unfolding text_of
text_none = refl

pub text_one : (i : Item) → text_of (i ∷ []) ≡ line_of i
unfolding text_of
text_one i = append-nil (line_of i)
