-- docs/PLAN.md, "The answer": "masks are hexadecimal digits in capitals without blanks, a mask with four digits, high byte first."
use Rattle.std.specs.Prelude.{ℕ, zero, suc, ◌+◌, ◌*◌, ◌/◌, ◌%◌, min, Bool, true, false, List, [], ◌∷◌, ◌++◌, leb}
use Rattle.refusal.specs.Test.{pick}
use Rattle.words.specs.Words.{text}
use Rattle.text.specs.Text.{hex_of, hex_texts, decimal_of}
use Rattle.names.specs.Names.{name_text}
use Rattle.filter_asked.specs.declared.Filter.{Filter}
use Rattle.filter_asked.specs.Asked.{is_named}

-- "request K begins at byte 8 K". A place is counted in 64 bits: one that is full stays so
abbrev pub start_of : ℕ → ℕ
start_of k = min (8 * k) 18446744073709551615

-- "request K at byte N, HEX"; "HEX are its bytes"
abbrev pub placed_texts : ℕ → List ℕ → List (List ℕ)
placed_texts k s = (text "request " ∷ decimal_of k ∷ text " at byte " ∷ decimal_of (start_of k) ∷ text ", " ∷ []) ++ hex_texts s

-- "A *type* is its number, and behind it a blank and its name where it has one (0 to 9)."
abbrev pub type_texts : ℕ → List (List ℕ)
type_texts t = decimal_of t ∷ pick (leb t 9) (text " " ∷ name_text 4 t ∷ []) []

-- "TYPE, TYPE, ..": a type, which stands behind some or is the first; and types
abbrev pub next_texts : Bool → ℕ → List (List ℕ)
next_texts some t = pick some (text ", " ∷ []) [] ++ type_texts t

unfoldable pub behind_texts : Bool → List ℕ → List (List ℕ)
behind_texts some [] = []
behind_texts some (t ∷ ts) = next_texts some t ++ behind_texts true ts

abbrev pub types_texts : List ℕ → List (List ℕ)
types_texts ts = behind_texts false ts

-- "the types whose bits stand in the mask, lowest first": of k numbers from t on, and of all that have a bit
unfoldable pub types_from : ℕ → ℕ → ℕ → List ℕ
types_from mask t zero = []
types_from mask t (suc k) = pick (is_named mask t) (t ∷ []) [] ++ types_from mask (suc t) k

abbrev pub types_of : ℕ → List ℕ
types_of mask = types_from mask 0 16

-- "address A, instance I"
abbrev pub instance_texts : ℕ → ℕ → List (List ℕ)
instance_texts a i = text "address " ∷ decimal_of a ∷ text ", instance " ∷ decimal_of i ∷ []

-- "address A, instance I, mask MMMM, types TYPE, TYPE, ..". Behind `types ` stands nothing where the mask is 0
abbrev pub filter_texts : Filter → List (List ℕ)
filter_texts f =
    instance_texts f.address f.instance
    ++ (text ", mask " ∷ hex_of (f.mask / 256) ∷ hex_of (f.mask % 256) ∷ text ", types " ∷ [])
    ++ types_texts (types_of f.mask)

-- "a line for each filter"
abbrev pub line_texts : Filter → List (List ℕ)
line_texts f = filter_texts f ++ ((10 ∷ []) ∷ [])

-- "with the two bytes of its mask exchanged it adds FILTER: were they swapped?"
abbrev pub exchanged : Filter → Filter
exchanged f = record { address = f.address; instance = f.instance; mask = f.mask % 256 * 256 + f.mask / 256 }

abbrev pub slip_texts : Filter → List (List ℕ)
slip_texts f =
    (text "with the two bytes of its mask exchanged it adds " ∷ []) ++ filter_texts f ++ ((text ": were they swapped?" ++ (10 ∷ [])) ∷ [])

-- "where its mask with the two bytes exchanged does not have the type's bit"
abbrev pub slipped_texts : ℕ → Filter → List (List ℕ)
slipped_texts t f = pick (is_named f.mask t) [] (slip_texts f)
