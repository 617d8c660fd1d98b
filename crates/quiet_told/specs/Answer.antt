-- The line that answers whether a run is quiet: `yes`, or `no: item K at byte N, HEX: REASON`.
use Rattle.std.specs.Prelude.{ℕ, ◌+◌, min, List, [], ◌∷◌, ◌++◌, take, drop, eqb}
use Rattle.refusal.specs.Test.{pick}
use Rattle.words.specs.Words.{text}
use Rattle.frame.specs.Frame.{byte}
use Rattle.stream.specs.Stream.{items}
use Rattle.extent.specs.declared.Line.TheVariants.{Request}
use Rattle.line.specs.Rule.{settle}
use Rattle.text.specs.Text.{hex_of, hex_texts, decimal_of}
use Rattle.quiet_run.specs.Quiet.{First, none, loud, first_loud}

-- a place is counted in 64 bits: one that is full stays so
abbrev pub full64 : ℕ
full64 = 18446744073709551615

abbrev pub plus : ℕ → ℕ → ℕ
plus a b = min (a + b) full64

-- REASON, by the item's number
abbrev pub outside_texts : List ℕ → List (List ℕ)
outside_texts l = text "command " ∷ hex_of (byte 2 l) ∷ text " is outside the profile" ∷ []

unfoldable pub reason_texts : ℕ → List ℕ → List (List ℕ)
reason_texts k l =
    pick (eqb k 0) (outside_texts l)
    (pick (eqb k 1) (text "the run ends inside a request" ∷ [])
    (pick (eqb k 2) (text "no request begins here" ∷ [])
    (pick (eqb k 3) (text "the command is unknown" ∷ [])
    (pick (eqb k 4) (text "no such length byte or colour type" ∷ [])
    (pick (eqb k 6) (text "the sum is wrong" ∷ [])
    (pick (eqb k 7) (text "an argument is out of range" ∷ [])
    (text "not a request" ∷ [])))))))

-- the answer for an item that is not quiet, by its place, its number and its bytes
abbrev pub place_texts : ℕ → ℕ → List (List ℕ)
place_texts n k = text "no: item " ∷ decimal_of k ∷ text " at byte " ∷ decimal_of n ∷ []

abbrev pub loud_texts : ℕ → ℕ → List ℕ → List (List ℕ)
loud_texts n k l = place_texts n k ++ (text ", " ∷ []) ++ hex_texts l ++ (text ": " ∷ []) ++ reason_texts k l ++ ((10 ∷ []) ∷ [])

-- the answer where so many bytes are passed over, and this is the first item of the bytes s behind them that is not quiet
abbrev pub answer_texts : ℕ → List ℕ → First → List (List ℕ)
answer_texts passed s none = (text "yes" ++ (10 ∷ [])) ∷ []
answer_texts passed s (loud at k m) = loud_texts (plus passed at) k (take m (drop at s))

-- where no more bytes come
abbrev pub closed_texts : ℕ → List ℕ → List (List ℕ)
closed_texts passed s = answer_texts passed s (first_loud 0 (items (settle Request) s))
