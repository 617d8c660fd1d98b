-- docs/PLAN.md, "The answer": "Lines end in a line feed. Numbers are decimal, HEX and masks are hexadecimal digits in capitals without blanks, a mask
-- with four digits, high byte first."
use Rattle.std.specs.Prelude.{ℕ, List, [], ◌∷◌, ◌++◌, eqb}
use Rattle.refusal.specs.Test.{pick}
use Rattle.refusal.specs.Answer.{Answer, refused, full}
use Rattle.sum.specs.Sum.{sum_of}
use Rattle.words.specs.Words.{text}
use Rattle.frame.specs.Frame.{byte, unsealed}
use Rattle.text.specs.Text.{hex_of, decimal_of}
use Rattle.names.specs.Names.{name_text}
use Rattle.filter_asked.specs.declared.Filter.{Filter}
use Rattle.filter_asked.specs.declared.Change.{Change}
use Rattle.filter_asked.specs.declared.Change.TheVariants.{Add as add, Clear as clear}
use Rattle.filter_asked.specs.Asked.{asked}
use Rattle.filter_text.specs.Told.{placed_texts, type_texts, instance_texts, line_texts, exchanged, slipped_texts}

-- "request K adds FILTER"
abbrev pub adds_texts : ℕ → Filter → List (List ℕ)
adds_texts k f = (text "request " ∷ decimal_of k ∷ text " adds " ∷ []) ++ line_texts f

-- YES. "yes: no wanted event is hidden (requests N, filters left N, wanted events N)"
abbrev pub yes_texts : ℕ → ℕ → ℕ → List (List ℕ)
yes_texts n m w =
    text "yes: no wanted event is hidden (requests " ∷ decimal_of n
    ∷ text ", filters left " ∷ decimal_of m
    ∷ text ", wanted events " ∷ decimal_of w
    ∷ (text ")" ++ (10 ∷ [])) ∷ []

-- A BAD REQUEST. "CC is the request's command, its third byte"; bytes that are not there count as 0
abbrev pub unknown_texts : List ℕ → List (List ℕ)
unknown_texts s = text "we know no command " ∷ hex_of (byte 2 s) ∷ []

abbrev pub length_texts : List ℕ → List (List ℕ)
length_texts s = text "command " ∷ hex_of (byte 2 s) ∷ text " has another length, and sets no filter" ∷ []

-- "its last byte has to be HEX, the exclusive-or of those before it"
abbrev pub last_of : List ℕ → ℕ
last_of s = sum_of (unsealed s)

abbrev pub sum_texts : List ℕ → List (List ℕ)
sum_texts s = text "its last byte has to be " ∷ hex_of (last_of s) ∷ text ", the exclusive-or of those before it" ∷ []

-- "of command 31 or 33: `address A with instance I: ..`", its fourth byte and its fifth; "of another: .."
abbrev pub range_texts : List ℕ → List (List ℕ)
range_texts s =
    text "address " ∷ decimal_of (byte 3 s)
    ∷ text " with instance " ∷ decimal_of (byte 4 s)
    ∷ text ": a filter is of address 0 to 63 with instance 255, or of 64 to 127 with 0 to 31" ∷ []

abbrev pub argument_texts : List ℕ → List (List ℕ)
argument_texts s =
    pick (eqb (byte 2 s) 0x31) (range_texts s)
    (pick (eqb (byte 2 s) 0x33) (range_texts s)
    (text "an argument of command " ∷ hex_of (byte 2 s) ∷ text " is out of its range" ∷ []))

-- "WORD being the command's name in source 002"
abbrev pub other_texts : List ℕ → List (List ℕ)
other_texts s =
    text "command " ∷ hex_of (byte 2 s) ∷ text " " ∷ name_text 1 (byte 2 s) ∷ text " sets no filter, a plan has 31 and 33 only" ∷ []

-- REASON, by the refusal's number; a plan has no other, and of one there is none
unfoldable pub reason_texts : ℕ → List ℕ → List (List ℕ)
reason_texts n s =
    pick (eqb n 1) (text "the plan ends inside it, a request has 8 bytes" ∷ [])
    (pick (eqb n 2) (text "a request begins with 04" ∷ [])
    (pick (eqb n 3) (unknown_texts s)
    (pick (eqb n 4) (length_texts s)
    (pick (eqb n 5) (length_texts s)
    (pick (eqb n 6) (sum_texts s)
    (pick (eqb n 7) (argument_texts s)
    (pick (eqb n 18) (other_texts s)
    (pick (eqb n 19) (text "a 65th filter is needed, and a controller keeps 64" ∷ [])
    []))))))))

-- "R is the refusal's number and NAME its name"; where it has none, nothing
abbrev pub number_texts : ℕ → List (List ℕ)
number_texts n = text ": " ∷ decimal_of n ∷ text " " ∷ name_text 0 n ∷ text ": " ∷ []

-- "request K adds " and the filter; no line where it adds none
abbrev pub added_by : ℕ → Answer Change → List (List ℕ)
added_by k (full (add f)) = adds_texts k f
added_by k (full (clear f)) = []
added_by k (refused n) = []

abbrev pub added_texts : ℕ → List ℕ → List (List ℕ)
added_texts k s = added_by k (asked s)

-- "Where it is 19, a second line"
abbrev pub too_many_texts : ℕ → ℕ → List ℕ → List (List ℕ)
too_many_texts k n s = pick (eqb n 19) (added_texts k s) []

-- "no: request K at byte N, HEX: R NAME: REASON"
abbrev pub bad_texts : ℕ → List ℕ → ℕ → List (List ℕ)
bad_texts k s n =
    (text "no: " ∷ []) ++ placed_texts k s ++ number_texts n ++ reason_texts n s ++ ((10 ∷ []) ∷ [])
    ++ too_many_texts k n s

-- A HIDDEN EVENT. What the request adds, then the slip; no line where it adds none
abbrev pub since_by : ℕ → ℕ → Answer Change → List (List ℕ)
since_by k t (full (add f)) = adds_texts k f ++ slipped_texts t (exchanged f)
since_by k t (full (clear f)) = []
since_by k t (refused n) = []

abbrev pub since_texts : ℕ → ℕ → List ℕ → List (List ℕ)
since_texts k t s = since_by k t (asked s)

-- "no: wanted event J, address A, instance I, type TYPE, is hidden since request K at byte N, HEX"
abbrev pub wanted_texts : ℕ → ℕ → ℕ → ℕ → List (List ℕ)
wanted_texts j a i t =
    (text "no: wanted event " ∷ decimal_of j ∷ text ", " ∷ []) ++ instance_texts a i ++ (text ", type " ∷ []) ++ type_texts t

abbrev pub hidden_texts : ℕ → ℕ → ℕ → ℕ → ℕ → List ℕ → List (List ℕ)
hidden_texts j a i t k s =
    wanted_texts j a i t ++ (text ", is hidden since " ∷ []) ++ placed_texts k s ++ ((10 ∷ []) ∷ [])
    ++ since_texts k t s

-- THE LIST. "filters left: N", "filters before request K: N"
abbrev pub left_texts : ℕ → List (List ℕ)
left_texts n = text "filters left: " ∷ decimal_of n ∷ (10 ∷ []) ∷ []

abbrev pub before_texts : ℕ → ℕ → List (List ℕ)
before_texts k n = text "filters before request " ∷ decimal_of k ∷ text ": " ∷ decimal_of n ∷ (10 ∷ []) ∷ []

-- STANDARD ERROR. What stands behind the argument where a line of the wanted list is none
abbrev pub bad_line_texts : ℕ → List (List ℕ)
bad_line_texts n =
    text ", line " ∷ decimal_of n
    ∷ (text ": an address, an instance and a type are wanted, each a number from 0 to 255" ++ (10 ∷ [])) ∷ []
