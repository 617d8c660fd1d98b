-- Words of a run of bytes, parted by a byte.
use Rattle.std.specs.Prelude.{ℕ, zero, suc, Bool, true, ◌&&◌, List, [], ◌∷◌, ◌++◌, length, take, drop, eqb, ltb}
use Prim.Native.Char.{code}
use Prim.Native.String.{String, [] as none, ◌∷◌ as ◌then◌}
use Rattle.refusal.specs.Test.{pick}

-- a quoted text as its bytes, in ASCII
abbrev pub text : String → List ℕ
text none = []
text (c then s) = code c ∷ text s

-- how many bytes stand before the first byte b
unfoldable pub before : ℕ → List ℕ → ℕ
before b [] = 0
before b (c ∷ s) = pick (eqb c b) 0 (suc (before b s))

-- the first word: what stands before the first parting byte
abbrev pub first_in : ℕ → List ℕ → List ℕ
first_in b s = take (before b s) s

-- a word by its number from 0; where there are fewer words, no bytes
unfoldable pub word_in : ℕ → ℕ → List ℕ → List ℕ
word_in b zero s = first_in b s
word_in b (suc k) s = word_in b k (drop (suc (before b s)) s)

-- words as one run, the parting byte behind each; and whether each of them has bytes, none of them the parting byte
abbrev pub joined : ℕ → List (List ℕ) → List ℕ
joined b [] = []
joined b (w ∷ ws) = w ++ (b ∷ joined b ws)

abbrev pub proper : ℕ → List (List ℕ) → Bool
proper b [] = true
proper b (w ∷ ws) = (ltb 0 (length w) && eqb (before b w) (length w)) && proper b ws
