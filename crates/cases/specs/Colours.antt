-- Document 02, W-202: "every colour type there as its own kind of content inside the request". A frame of each type; source 002's own
-- example, whose type 00 its list lacks; every refusal in its place; and what a request line makes of them.
use Rattle.std.specs.Prelude.{ℕ, refl, false, List, [], ◌∷◌, ◌++◌}
use Rattle.refusal.specs.Answer.{Answer, refused, full}
use Rattle.sum.specs.Sum.{sum_from}
use Rattle.order.specs.Order.{number_by}
use Rattle.target.specs.Target.{Aim, gear, group, broadcast}
use Rattle.command.specs.Command.{shape_of, is_retired}
use Rattle.command.specs.Colours.{widths_of, data_bytes}
use Rattle.colour.specs.Colour.{Hue, hue}
use Rattle.request.specs.Said.{Heard, heard, coloured}
use Rattle.request.specs.Reading.{read_coloured, read_request}
use Rattle.stream.specs.Stream.{reading, items_up_to}
use Rattle.line.specs.Rule.{settle}
use Rattle.cases.specs.Cases.{Case, request, request_line, AllHold}

-- a colour request behind its sequence number 0, and what is heard of it: target, what it lights, level, colour
abbrev pub asks : List ℕ → List ℕ
asks l = 0x04 ∷ 0x00 ∷ 0x0E ∷ l

abbrev pub hears : ℕ → Aim → ℕ → Hue → Answer Heard
hears t aim level h = full (heard 0 0x0E false (coloured t aim level h))

-- the printed example, with some type and some sum: red on gear 1
abbrev pub printed_red : ℕ → ℕ → List ℕ
printed_red k z = asks (0x01 ∷ 0xFE ∷ k ∷ 0xFF ∷ 0x00 ∷ 0x00 ∷ 0x00 ∷ 0x00 ∷ 0x00 ∷ z ∷ [])

-- a colour temperature of 370 for some target; X 4660 and Y 22136 for group 15; six channels
abbrev pub warm : ℕ → ℕ → List ℕ
warm t z = asks (t ∷ 0xFE ∷ 0x20 ∷ 0x01 ∷ 0x72 ∷ z ∷ [])

abbrev pub placed : List ℕ
placed = asks (0x4F ∷ 0x00 ∷ 0x10 ∷ 0x12 ∷ 0x34 ∷ 0x56 ∷ 0x78 ∷ 0x5D ∷ [])

abbrev pub mixed : List ℕ
mixed = asks (0xFF ∷ 0x01 ∷ 0x80 ∷ 0x01 ∷ 0x02 ∷ 0x03 ∷ 0x04 ∷ 0x05 ∷ 0x06 ∷ 0x73 ∷ [])

abbrev pub colour_cases : List Case
colour_cases =
    request placed (hears 79 (group 15) 0 (hue 0x10 (4660 ∷ 22136 ∷ [])))
    ∷ request mixed (hears 255 broadcast 1 (hue 0x80 (1 ∷ 2 ∷ 3 ∷ 4 ∷ 5 ∷ 6 ∷ [])))
    -- 127 and 255 light the same, and are kept apart
    ∷ request (warm 0x7F 0xD8) (hears 127 broadcast 254 (hue 0x20 (370 ∷ [])))
    ∷ request (warm 0xFF 0x58) (hears 255 broadcast 254 (hue 0x20 (370 ∷ [])))
    -- as it is printed, with a listed type, and with the sum that belongs to it
    ∷ request (printed_red 0x00 0x0A) (refused 4)
    ∷ request (printed_red 0x80 0x0A) (refused 6)
    ∷ request (printed_red 0x80 0x8A) (hears 1 (gear 1) 254 (hue 0x80 (255 ∷ 0 ∷ 0 ∷ 0 ∷ 0 ∷ 0 ∷ [])))
    -- seven bytes; another lead; another command; eight bytes of an unlisted type and of a listed one; a byte too many; target 80
    ∷ request (asks (0x7F ∷ 0xFE ∷ 0x20 ∷ 0x01 ∷ [])) (refused 1)
    ∷ request (0x05 ∷ 0x00 ∷ 0x0E ∷ 0x50 ∷ 0xFE ∷ 0x21 ∷ 0x01 ∷ 0x72 ∷ []) (refused 2)
    ∷ request (0x04 ∷ 0x00 ∷ 0x0F ∷ 0x50 ∷ 0xFE ∷ 0x21 ∷ 0x01 ∷ 0x72 ∷ []) (refused 3)
    ∷ request (asks (0x50 ∷ 0xFE ∷ 0x21 ∷ 0x01 ∷ 0x72 ∷ [])) (refused 4)
    ∷ request (asks (0x50 ∷ 0xFE ∷ 0x20 ∷ 0x01 ∷ 0x72 ∷ [])) (refused 5)
    ∷ request (warm 0x7F 0xD8 ++ (0x00 ∷ [])) (refused 5)
    ∷ request (warm 0x50 0xF7) (refused 7)
    -- a frame, one with target 80, and one cut in front of its type
    ∷ request_line (warm 0x7F 0xD8 ++ (warm 0x50 0xF7 ++ asks (0x01 ∷ 0xFE ∷ [])))
    (reading 0 (warm 0x7F 0xD8) ∷ reading 7 (warm 0x50 0xF7) ∷ reading 1 (0x04 ∷ [])
    ∷ reading 2 (0x00 ∷ []) ∷ reading 2 (0x0E ∷ []) ∷ reading 2 (0x01 ∷ []) ∷ reading 2 (0xFE ∷ []) ∷ [])
    -- the printed example is item 4 of one byte, and a frame behind it is found
    ∷ request_line (printed_red 0x00 0x0A ++ placed)
    (reading 4 (0x04 ∷ []) ∷ reading 2 (0x00 ∷ []) ∷ reading 2 (0x0E ∷ []) ∷ reading 2 (0x01 ∷ []) ∷ reading 2 (0xFE ∷ [])
    ∷ reading 2 (0x00 ∷ []) ∷ reading 2 (0xFF ∷ []) ∷ reading 2 (0x00 ∷ []) ∷ reading 2 (0x00 ∷ []) ∷ reading 2 (0x00 ∷ [])
    ∷ reading 2 (0x00 ∷ []) ∷ reading 2 (0x00 ∷ []) ∷ reading 2 (0x0A ∷ []) ∷ reading 0 placed ∷ [])
    ∷ []

-- THE CLAIM
pub colours_told : AllHold colour_cases
unfolding sum_from number_by shape_of is_retired data_bytes widths_of read_coloured read_request items_up_to settle
colours_told =
    (refl, (refl, (refl, (refl, (refl, (refl, (refl, (refl, (refl, (refl, (refl, (refl, (refl, (refl, (refl, (refl, tt))))))))))))))))
