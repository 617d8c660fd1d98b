-- What a datagram says as a request. Document 01, "Refusals, by number": 1, 2, 3, 4, 5, 6, 7, the lowest that applies. Document 02, W-202:
-- "an unlisted colour type is 4, after 3"; W-210: what holds a retired command reads "as before, marked as retired".
use Rattle.std.specs.Prelude.{ℕ, ◌-◌, List, length, take, drop, leb, eqb}
use Rattle.refusal.specs.Answer.{Answer, refused, full, demand}
use Rattle.lead.specs.Lead.{is_request}
use Rattle.sum.specs.Sum.{sum_of}
use Rattle.frame.specs.Frame.{byte}
use Rattle.target.specs.Target.{is_lighting, lights_of}
use Rattle.command.specs.declared.Rule.{Rule}
use Rattle.command.specs.declared.Shape.{Shape}
use Rattle.command.specs.declared.Shape.TheVariants.{Unknown, Basic, Unicast, Colour}
use Rattle.command.specs.Command.{shape_of, is_retired}
use Rattle.command.specs.Length.{Told, unknown, fixed, tested, length_of, basic_bytes}
use Rattle.colour.specs.Colour.{Hue, hue_in}
use Rattle.ranges.specs.Arguments.{fits}
use Rattle.meaning.specs.Meaning.{pair, meaning_of}
use Rattle.request.specs.Said.{Inside, Heard, heard, arguments, address, coloured}

-- what a request says: its mark is told by its command
abbrev pub marked : ℕ → ℕ → Inside → Heard
marked s k x = heard s k (is_retired k) x

-- a basic request, request 40, and a colour request
abbrev pub basic_heard : Rule → ℕ → ℕ → ℕ → ℕ → ℕ → ℕ → Heard
basic_heard rule s k a b c d = marked s k (arguments a b c d (meaning_of rule a b c d))

abbrev pub unicast_heard : ℕ → ℕ → ℕ → ℕ → ℕ → ℕ → ℕ → Heard
unicast_heard s k port i j h l = marked s k (address port i j h l)

abbrev pub colour_heard : ℕ → ℕ → ℕ → ℕ → Hue → Heard
colour_heard s k a l h = marked s k (coloured a (lights_of (record { 0 = a })) l h)

-- 3, 4 and 5: the length of a datagram is the one that its frame states
abbrev pub stated : {A : Type 0} → Told → List ℕ → Answer A → Answer A
stated unknown d x = refused 3
stated (fixed n) d x = demand (eqb (length d) n) 5 x
stated (tested p test n) d x = demand (test (byte p d)) 4 (demand (eqb (length d) (n (byte p d))) 5 x)

unfoldable pub read_basic : Rule → List ℕ → Answer Heard
read_basic rule d =
    stated (length_of (Basic rule)) d
    (demand (eqb (sum_of d) 0) 6
    (demand (fits rule (byte 3 d) (byte 4 d) (byte 5 d) (byte 6 d)) 7
    (full (basic_heard rule (byte 1 d) (byte 2 d) (byte 3 d) (byte 4 d) (byte 5 d) (byte 6 d)))))

unfoldable pub read_unicast : List ℕ → Answer Heard
read_unicast d =
    stated (length_of Unicast) d
    (demand (eqb (sum_of d) 0) 6
    (full (unicast_heard (byte 1 d) (byte 2 d) (pair (byte 4 d) (byte 5 d)) (byte 6 d) (byte 7 d) (byte 8 d) (byte 9 d))))

-- the colour data: what stands behind the colour type, the sum left out
abbrev pub colour_data : List ℕ → List ℕ
colour_data d = take (length d - 1 - 6) (drop 6 d)

-- 6 and 7, where its length is the one that its type states
abbrev pub judged : List ℕ → Answer Heard
judged d =
    demand (eqb (sum_of d) 0) 6
    (demand (is_lighting (byte 3 d)) 7
    (full (colour_heard (byte 1 d) (byte 2 d) (byte 3 d) (byte 4 d) (hue_in (byte 5 d) (colour_data d)))))

unfoldable pub read_coloured : List ℕ → Answer Heard
read_coloured d = stated (length_of Colour) d (judged d)

abbrev pub read_shape : Shape → List ℕ → Answer Heard
read_shape Unknown d = refused 3
read_shape (Basic rule) d = read_basic rule d
read_shape Unicast d = read_unicast d
read_shape Colour d = read_coloured d

-- the least of the family has 8 bytes
unfoldable pub read_request : List ℕ → Answer Heard
read_request d =
    demand (leb basic_bytes (length d)) 1
    (demand (is_request (byte 0 d)) 2
    (read_shape (shape_of (byte 2 d)) d))
