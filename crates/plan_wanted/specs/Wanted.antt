-- docs/PLAN.md, "Files": the text that says which events are wanted, as bytes in ASCII.
use Rattle.std.specs.Prelude.{ℕ, suc, Option, Some, None, Result, Ok, Err, ◌≡◌, Bool, false, ◌||◌, List, [], ◌∷◌, length, eqb}
use Rattle.std.proofs.Common.{sym, ◌∙◌}
use Rattle.refusal.specs.Test.{pick}
use Rattle.lent.specs.Puts.{fits, buffer_after}
use Rattle.asked.specs.Asked.{number_of}
use Rattle.plan_wanted.specs.declared.Line.{Line}
use Rattle.plan_wanted.specs.declared.Line.TheVariants.{Nothing, Says, Bad}
use Rattle.plan_wanted.specs.declared.NotWanted.{NotWanted}
use Rattle.plan_wanted.specs.declared.NotWanted.TheVariants.{BadLine, Full}

-- "The text is cut at each line feed; behind the last line feed stands another line only if there is a byte": a run cut at each byte of a
-- kind. Such a byte ends a part; another byte stands in front of what goes on behind it, or is a part where nothing does
abbrev pub onto : ℕ → List (List ℕ) → List (List ℕ)
onto c [] = (c ∷ []) ∷ []
onto c (p ∷ ps) = (c ∷ p) ∷ ps

unfoldable pub cut_at : (ℕ → Bool) → List ℕ → List (List ℕ)
cut_at f [] = []
cut_at f (c ∷ s) = pick (f c) ([] ∷ cut_at f s) (onto c (cut_at f s))

abbrev pub is_feed : ℕ → Bool
is_feed c = eqb c 0x0A

abbrev pub lines_of : List ℕ → List (List ℕ)
lines_of s = cut_at is_feed s

-- "A blank is a space, a tab or a carriage return (the bytes 20, 09, 0D)"
abbrev pub is_blank : ℕ → Bool
is_blank c = eqb c 0x20 || eqb c 0x09 || eqb c 0x0D

-- "a word is a longest run of other bytes": a part between blanks that has a byte
abbrev pub some : List (List ℕ) → List (List ℕ)
some [] = []
some ([] ∷ ps) = some ps
some ((c ∷ p) ∷ ps) = (c ∷ p) ∷ some ps

abbrev pub words_of : List ℕ → List (List ℕ)
words_of l = some (cut_at is_blank l)

-- "each of decimal digits only that say 0 to 255; leading zeros do not matter": `number_of` of crate asked
abbrev pub says_of : Option ℕ → Option ℕ → Option ℕ → Line
says_of (Some a) (Some i) (Some t) = Says a i t
says_of (Some a) (Some i) None = Bad
says_of (Some a) None t = Bad
says_of None i t = Bad

-- "three words, `address instance type`"
abbrev pub three_of : List (List ℕ) → Line
three_of [] = Bad
three_of (a ∷ []) = Bad
three_of (a ∷ i ∷ []) = Bad
three_of (a ∷ i ∷ t ∷ []) = says_of (number_of 255 a) (number_of 255 i) (number_of 255 t)
three_of (a ∷ i ∷ t ∷ w ∷ ws) = Bad

-- "A line without a word, and one whose first word begins with `#`, is passed over. Every other line has three words"
abbrev pub is_remark : List ℕ → Bool
is_remark [] = false
is_remark (c ∷ w) = eqb c 0x23

abbrev pub by_words : List (List ℕ) → Line
by_words [] = Nothing
by_words (w ∷ ws) = pick (is_remark w) Nothing (three_of (w ∷ ws))

unfoldable pub line_of : List ℕ → Line
line_of l = by_words (words_of l)

-- what a text tells: the events of its lines, or the first line that is bad. "Lines are counted from 1"
pub data Event : Type 0 where
  event : ℕ → ℕ → ℕ → Event

pub data Told : Type 0 where
  events : List Event → Told
  bad : ℕ → Told

-- a line in front of others, which are then one line further down
abbrev pub in_front : Line → Told → Told
in_front Bad x = bad 1
in_front Nothing (events es) = events es
in_front Nothing (bad n) = bad (suc n)
in_front (Says a i t) (events es) = events (event a i t ∷ es)
in_front (Says a i t) (bad n) = bad (suc n)

unfoldable pub all_of : List (List ℕ) → Told
all_of [] = events []
all_of (l ∷ ls) = in_front (line_of l) (all_of ls)

abbrev pub told_by : List ℕ → Told
told_by s = all_of (lines_of s)

-- three bytes for each event, one behind the other
abbrev pub bytes_of : List Event → List ℕ
bytes_of [] = []
bytes_of (event a i t ∷ es) = a ∷ i ∷ t ∷ bytes_of es

-- the answer, and the buffer afterwards: the bytes of the events at its start where they have room, else as it was
abbrev pub answer_of : Told → List ℕ → Result ℕ NotWanted
answer_of (bad n) out = Err (BadLine n)
answer_of (events es) out = pick (fits (bytes_of es) out 0) (Ok (length (bytes_of es))) (Err Full)

abbrev pub left_by : Told → List ℕ → List ℕ
left_by (bad n) out = out
left_by (events es) out = buffer_after (bytes_of es) out 0

-- the contract of `read`
pub record Reads (s out : List ℕ) (r : Result ℕ NotWanted) (out' : List ℕ) : Type 0 where
  pub says : r ≡ answer_of (told_by s) out
  pub leaves : out' ≡ left_by (told_by s) out

-- it leaves no choice
pub reads_one : {s out p q : List ℕ} {r t : Result ℕ NotWanted} → Reads s out r p → Reads s out t q → (r ≡ t) × (p ≡ q)
reads_one a b = (a.says ∙ sym b.says, a.leaves ∙ sym b.leaves)
