-- docs/BENCH.md, "A line": "What follows are groups of bytes. A byte is two hexadecimal digits, capitals or not. `/` ends a group and begins
-- the next."
use Rattle.std.specs.Prelude.{ℕ, Option, Some, None, ◌+◌, ◌*◌, ◌≤◌, ◌≡◌, List, [], ◌∷◌, ◌++◌, length, get_or, take, drop, eqb, ltb, leb}
use Rattle.std.proofs.Common.{sym, ◌∙◌}
use Rattle.refusal.specs.Test.{pick}
use Rattle.text.specs.Text.{digit_of}
use Rattle.bench_words.specs.Words.{words_at}
use Rattle.bench_words.specs.declared.Word.{Word}
use Rattle.bench_words.specs.declared.Word.TheVariants.{Nothing, Slash, Byte, Other}
use Rattle.bench_words.specs.declared.Groups.{Groups}

-- what a word says: one of no bytes nothing, `/` (47) a slash, two digits a byte, and another is other
abbrev pub pair_of : ℕ → ℕ → Word
pair_of h l = pick (ltb 15 h) Other (pick (ltb 15 l) Other (Byte (h * 16 + l)))

abbrev pub word_of : List ℕ → Word
word_of s =
    pick (eqb (length s) 0) Nothing
    (pick (eqb (length s) 1) (pick (eqb (get_or s 0 0) 47) Slash Other)
    (pick (ltb 2 (length s)) Other (pair_of (digit_of (get_or s 0 0)) (digit_of (get_or s 1 0)))))

-- what words have said: how many groups (four and more count as four), where the first and the second end in the run of all
-- their bytes, and this run; or, where a word was other, the run before it
pub data Taken : Type 0 where
  groups : ℕ → ℕ → ℕ → List ℕ → Taken
  other : List ℕ → Taken

-- a byte more, where the run has room for it
unfoldable pub byte_more : ℕ → ℕ → ℕ → ℕ → List ℕ → ℕ → Taken
byte_more room k a b run x =
    pick (leb room (length run)) (groups k a b run)
    (groups k (pick (eqb k 1) (length run + 1) a) (pick (leb k 2) (length run + 1) b) (run ++ (x ∷ [])))

abbrev pub word_more : ℕ → Taken → Word → Taken
word_more room (other run) w = other run
word_more room (groups k a b run) Nothing = groups k a b run
word_more room (groups k a b run) Slash = groups (pick (ltb k 4) (k + 1) 4) a b run
word_more room (groups k a b run) (Byte x) = byte_more room k a b run x
word_more room (groups k a b run) Other = other run

unfoldable pub all_more : ℕ → Taken → List (List ℕ) → Taken
all_more room t [] = t
all_more room t (w ∷ ws) = all_more room (word_more room t (word_of w)) ws

-- what the words of a line from a place on say, with room for so many bytes
abbrev pub taken_of : ℕ → List ℕ → ℕ → Taken
taken_of room line from = all_more room (groups 1 0 0 []) (words_at from line)

abbrev pub kept_of : Taken → List ℕ
kept_of (groups k a b run) = run
kept_of (other run) = run

abbrev pub parsed_of : Taken → Option Groups
parsed_of (groups k a b run) = Some (record { count = k; a = a; b = b; c = length run })
parsed_of (other run) = None

-- the contract of `parse`: what the words say, and their bytes at the front of the run that was lent
pub record Reads (line : List ℕ) (from : ℕ) (bytes : List ℕ) (r : Option Groups) (bytes' : List ℕ) : Type 0 where
  pub says : r ≡ parsed_of (taken_of (length bytes) line from)
  pub leaves : bytes' ≡ kept_of (taken_of (length bytes) line from) ++ drop (length (kept_of (taken_of (length bytes) line from))) bytes

-- it leaves no choice
pub reads_one : {line bytes p q : List ℕ} {from : ℕ} {r s : Option Groups} → Reads line from bytes r p → Reads line from bytes s q → (r ≡ s) × (p ≡ q)
reads_one a b = (a.says ∙ sym b.says, a.leaves ∙ sym b.leaves)

-- the groups so far, as the code has them, and one word more
abbrev pub filled : Groups → List ℕ → Taken
filled g bytes = groups g.count g.a g.b (take g.c bytes)

abbrev pub end_of : Groups → Option Groups → ℕ
end_of g (Some h) = h.c
end_of g None = g.c

abbrev pub held_by : Groups → Option Groups → List ℕ → Taken
held_by g (Some h) bytes = filled h bytes
held_by g None bytes = other (take g.c bytes)

pub record Grows (g : Groups) (bytes s : List ℕ) (r : Option Groups) (bytes' : List ℕ) : Type 0 where
  pub says : held_by g r bytes' ≡ word_more (length bytes) (filled g bytes) (word_of s)
  pub within : end_of g r ≤ length bytes
  pub same : length bytes' ≡ length bytes
  pub behind : drop (end_of g r) bytes' ≡ drop (end_of g r) bytes
  pub further : g.c ≤ end_of g r
