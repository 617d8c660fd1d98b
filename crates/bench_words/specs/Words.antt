-- docs/BENCH.md, "A line": words, and the places where they begin and end.
use Rattle.std.specs.Prelude.{ℕ, zero, suc, ◌+◌, ◌-◌, ◌*◌, List, [], ◌∷◌, ◌++◌, length, get_or, take, drop, eqb, ltb, leb}
use Rattle.refusal.specs.Test.{pick}

-- how many blanks stand in front
unfoldable pub blanks : List ℕ → ℕ
blanks [] = 0
blanks (c ∷ s) = pick (eqb c 32) (suc (blanks s)) 0

-- the words of a run, of which one has begun: what stands between blanks. Two blanks have a word of no bytes between them,
-- which says nothing
unfoldable pub words_from : List ℕ → List ℕ → List (List ℕ)
words_from w [] = w ∷ []
words_from w (c ∷ s) = pick (eqb c 32) (w ∷ words_from [] s) (words_from (w ++ (c ∷ [])) s)

-- the words from a place on: none behind the end
unfoldable pub words_at : ℕ → List ℕ → List (List ℕ)
words_at i s = pick (leb i (length s)) (words_from [] (drop i s)) []

-- the part from a up to e, and where it starts: where there is none, no bytes, at the front
abbrev pub part_of : List ℕ → ℕ → ℕ → List ℕ
part_of s a e = pick (ltb (length s) e) [] (pick (ltb e a) [] (take (e - a) (drop a s)))

abbrev pub start_of : List ℕ → ℕ → ℕ → ℕ
start_of s a e = pick (ltb (length s) e) 0 (pick (ltb e a) 0 a)

-- the number of the first k bytes, high byte first; a byte past the end is 0
unfoldable pub wide_of : ℕ → List ℕ → ℕ
wide_of zero s = 0
wide_of (suc k) s = wide_of k s * 256 + get_or s k 0

-- what a rule has for each of n places
unfoldable pub made_by : (ℕ → ℕ) → ℕ → List ℕ
made_by rule zero = []
made_by rule (suc n) = made_by rule n ++ (rule n ∷ [])

-- the first n bytes, with 0 for a byte past the end
abbrev pub byte_in : List ℕ → ℕ → ℕ
byte_in s i = get_or s i 0

abbrev pub front_of : ℕ → List ℕ → List ℕ
front_of n s = made_by (byte_in s) n
