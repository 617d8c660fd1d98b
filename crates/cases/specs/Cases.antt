-- Document 01, "Bench cases": "Proved of the written definitions, as a single list under a single claim, are the cases marked P."
use Rattle.std.specs.Prelude.{ℕ, ◌≡◌, refl, false, List, [], ◌∷◌, ◌++◌}
use Rattle.refusal.specs.Answer.{Answer, refused, full}
use Rattle.sum.specs.Sum.{sum_from}
use Rattle.order.specs.Order.{number_by}
use Rattle.target.specs.Target.{broadcast}
use Rattle.command.specs.Command.{shape_of, is_retired}
use Rattle.ranges.specs.Arguments.{fits}
use Rattle.meaning.specs.Meaning.{group, filter, timers, scene, meaning_of}
use Rattle.request.specs.Said.{Heard, heard, arguments, address}
use Rattle.request.specs.Reading.{read_basic, read_unicast, read_request}
use Rattle.reply.specs.declared.Reply.{Reply}
use Rattle.reply.specs.Reading.{read_reply, data_of}
use Rattle.event.specs.declared.Layout.{Layout}
use Rattle.event.specs.Layout.{width_of}
use Rattle.event.specs.Reading.{Told, read_event}
use Rattle.stream.specs.Stream.{Item, reading, items_up_to, items}
use Rattle.extent.specs.declared.Line.TheVariants.{Request as OnRequest, Reply as OnReply}
use Rattle.line.specs.Rule.{settle}
use Rattle.text.specs.Text.{decimal_in}
use Rattle.printed.specs.Text.{hexes, text_of}
use Rattle.maps.specs.Bit.{bit, how_many, lowest}
use Rattle.maps.specs.Maps.{gear_of, scenes_of, count_of, lowest_of}

-- a case: some bytes or a number, and what is to be answered
pub data Case : Type 0 where
  request : List ℕ → Answer Heard → Case
  reply : List ℕ → Answer Reply → Case
  reply_data_lem : List ℕ → List ℕ → Case
  event : Layout → List ℕ → Answer Told → Case
  types_named : ℕ → ℕ → Case
  lowest_type : ℕ → Answer ℕ → Case
  gear : List ℕ → Answer ℕ → Case
  gear_present : ℕ → ℕ → Case
  lowest_gear : ℕ → Answer ℕ → Case
  scenes : List ℕ → Answer ℕ → Case
  request_line : List ℕ → List Item → Case
  reply_line : List ℕ → List Item → Case
  printed_text : List ℕ → List ℕ → Case

-- what it claims
abbrev pub Holds : Case → Type 0
Holds (request d a) = read_request d ≡ a
Holds (reply d a) = read_reply d ≡ a
Holds (reply_data_lem d l) = data_of d ≡ l
Holds (event y d a) = read_event (width_of y) d ≡ a
Holds (types_named m n) = count_of 16 m ≡ n
Holds (lowest_type m a) = lowest_of 16 m ≡ a
Holds (gear s a) = gear_of s ≡ a
Holds (gear_present g n) = count_of 64 g ≡ n
Holds (lowest_gear g a) = lowest_of 64 g ≡ a
Holds (scenes s a) = scenes_of s ≡ a
Holds (request_line s is) = items (settle OnRequest) s ≡ is
Holds (reply_line s is) = items (settle OnReply) s ≡ is
Holds (printed_text s t) = text_of (items (settle OnReply) s) ≡ t

abbrev pub AllHold : List Case → Type 0
AllHold [] = Unit {0}
AllHold (x ∷ xs) = Holds x × AllHold xs

-- "A small program": its input, and what it prints, in ASCII
abbrev pub program_input : List ℕ
program_input = 0xA0 ∷ 0x00 ∷ 0x00 ∷ 0xA0 ∷ 0xFF ∷ 0xA0 ∷ 0x05 ∷ 0x00 ∷ 0xA4 ∷ 0xA0 ∷ 0x00 ∷ []

abbrev pub program_output : List ℕ
program_output =
    -- 0 4 A00000A0
    (48 ∷ 32 ∷ 52 ∷ 32 ∷ 65 ∷ 48 ∷ 48 ∷ 48 ∷ 48 ∷ 48 ∷ 65 ∷ 48 ∷ 10 ∷ [])
    -- 2 1 FF
    ++ (50 ∷ 32 ∷ 49 ∷ 32 ∷ 70 ∷ 70 ∷ 10 ∷ [])
    -- 6 1 A0
    ++ (54 ∷ 32 ∷ 49 ∷ 32 ∷ 65 ∷ 48 ∷ 10 ∷ [])
    -- 2 1 05
    ++ (50 ∷ 32 ∷ 49 ∷ 32 ∷ 48 ∷ 53 ∷ 10 ∷ [])
    -- 2 1 00
    ++ (50 ∷ 32 ∷ 49 ∷ 32 ∷ 48 ∷ 48 ∷ 10 ∷ [])
    -- 2 1 A4
    ++ (50 ∷ 32 ∷ 49 ∷ 32 ∷ 65 ∷ 52 ∷ 10 ∷ [])
    -- 1 1 A0
    ++ (49 ∷ 32 ∷ 49 ∷ 32 ∷ 65 ∷ 48 ∷ 10 ∷ [])
    -- 2 1 00
    ++ (50 ∷ 32 ∷ 49 ∷ 32 ∷ 48 ∷ 48 ∷ 10 ∷ [])

abbrev pub cases : List Case
cases =
    -- accepted, group 10
    request (0x04 ∷ 0x00 ∷ 0x01 ∷ 0x0A ∷ 0x00 ∷ 0x00 ∷ 0x00 ∷ 0x0F ∷ [])
    (full (heard 0 0x01 false (arguments 10 0 0 0 (group 10))))
    -- accepted, port 8811
    ∷ request (0x04 ∷ 0x00 ∷ 0x40 ∷ 0x06 ∷ 0x22 ∷ 0x6B ∷ 0xC0 ∷ 0xA8 ∷ 0x0A ∷ 0x0A ∷ 0x63 ∷ [])
    (full (heard 0 0x40 false (address 8811 192 168 10 10)))
    -- accepted, mask 264, two types, lowest 3; with last byte CB (as printed): 6
    ∷ request (0x04 ∷ 0x00 ∷ 0x31 ∷ 0x00 ∷ 0xFF ∷ 0x01 ∷ 0x08 ∷ 0xC3 ∷ [])
    (full (heard 0 0x31 false (arguments 0 255 1 8 (filter 0 255 264))))
    ∷ types_named 264 2
    ∷ lowest_type 264 (full 3)
    ∷ request (0x04 ∷ 0x00 ∷ 0x31 ∷ 0x00 ∷ 0xFF ∷ 0x01 ∷ 0x08 ∷ 0xCB ∷ []) (refused 6)
    -- accepted; printed 48: 6
    ∷ request (0x04 ∷ 0x00 ∷ 0x0C ∷ 0x40 ∷ 0x00 ∷ 0x00 ∷ 0x01 ∷ 0x49 ∷ [])
    (full (heard 0 0x0C false (arguments 64 0 0 1 (timers 64 1))))
    ∷ request (0x04 ∷ 0x00 ∷ 0x0C ∷ 0x40 ∷ 0x00 ∷ 0x00 ∷ 0x01 ∷ 0x48 ∷ []) (refused 6)
    -- accepted, broadcast
    ∷ request (0x04 ∷ 0x00 ∷ 0xA1 ∷ 0xFF ∷ 0x00 ∷ 0x00 ∷ 0x01 ∷ 0x5B ∷ [])
    (full (heard 0 0xA1 false (arguments 255 0 0 1 (scene broadcast 1))))
    -- accepted, no data
    ∷ reply (0xA0 ∷ 0x00 ∷ 0x00 ∷ 0xA0 ∷ []) (full (record { kind = 0xA0; sequence = 0; n = 0 }))
    ∷ reply_data_lem (0xA0 ∷ 0x00 ∷ 0x00 ∷ 0xA0 ∷ []) []
    -- accepted, data 07 0F
    ∷ reply (0xA1 ∷ 0x00 ∷ 0x02 ∷ 0x07 ∷ 0x0F ∷ 0xAB ∷ []) (full (record { kind = 0xA1; sequence = 0; n = 2 }))
    ∷ reply_data_lem (0xA1 ∷ 0x00 ∷ 0x02 ∷ 0x07 ∷ 0x0F ∷ 0xAB ∷ []) (0x07 ∷ 0x0F ∷ [])
    -- accepted; printed 8B: 6
    ∷ reply (0xA1 ∷ 0x00 ∷ 0x03 ∷ 0x46 ∷ 0x6F ∷ 0x6F ∷ 0xE4 ∷ []) (full (record { kind = 0xA1; sequence = 0; n = 3 }))
    ∷ reply (0xA1 ∷ 0x00 ∷ 0x03 ∷ 0x46 ∷ 0x6F ∷ 0x6F ∷ 0x8B ∷ []) (refused 6)
    -- ten present, lowest 0
    ∷ gear (0xFF ∷ 0x03 ∷ 0x00 ∷ 0x00 ∷ 0x00 ∷ 0x00 ∷ 0x00 ∷ 0x00 ∷ []) (full 1023)
    ∷ gear_present 1023 10
    ∷ lowest_gear 1023 (full 0)
    -- scene 2 only
    ∷ scenes (0x00 ∷ 0x04 ∷ []) (full 4)
    -- the program's input: its items, and what is printed of it
    ∷ reply_line program_input
    (reading 0 (0xA0 ∷ 0x00 ∷ 0x00 ∷ 0xA0 ∷ [])
    ∷ reading 2 (0xFF ∷ [])
    ∷ reading 6 (0xA0 ∷ [])
    ∷ reading 2 (0x05 ∷ [])
    ∷ reading 2 (0x00 ∷ [])
    ∷ reading 2 (0xA4 ∷ [])
    ∷ reading 1 (0xA0 ∷ [])
    ∷ reading 2 (0x00 ∷ [])
    ∷ [])
    ∷ printed_text program_input program_output
    ∷ []

-- THE CLAIM
pub bench : AllHold cases
unfolding
    sum_from number_by shape_of is_retired fits meaning_of read_basic read_unicast read_request read_reply bit how_many lowest settle items_up_to text_of hexes decimal_in
bench =
    (refl, (refl, (refl, (refl, (refl, (refl, (refl, (refl, (refl, (refl, (refl, (refl, (refl, (refl, (refl, (refl, (refl, (refl, (refl, (refl, (refl, tt)))))))))))))))))))))
