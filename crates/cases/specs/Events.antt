-- Document 02, W-206: "Our bench unit sends event datagrams with two target bytes, not the three of the source's table." Source 002 prints
-- five events, all with two, the last with a wrong sum; here in both layouts, with the least event of each, and with a datagram that is a
-- frame of both and says two things.
use Rattle.std.specs.Prelude.{ℕ, Option, Some, None, refl, List, [], ◌∷◌}
use Rattle.refusal.specs.Answer.{Answer, refused, full}
use Rattle.sum.specs.Sum.{sum_from}
use Rattle.order.specs.Order.{number_by}
use Rattle.event_type.specs.Types.{by_name}
use Rattle.event.specs.declared.Mac.{Mac}
use Rattle.event.specs.declared.Layout.TheVariants.{Three, Two}
use Rattle.event.specs.Reading.{Told, read_event}
use Rattle.cases.specs.Cases.{Case, event, AllHold}

-- the printed MAC address, and an event from it
abbrev pub printed_mac : Mac
printed_mac = record { 0 = 0x7C; 1 = 0xBA; 2 = 0xCC; 3 = 0x2F; 4 = 0x40; 5 = 0x2E }

abbrev pub told : ℕ → ℕ → ℕ → Option ℕ → Answer Told
told t k n i = full (record { mac = printed_mac; target = t; kind = by_name k; n = n; instance = i })

abbrev pub from : List ℕ → List ℕ
from l = 0x5A ∷ 0x43 ∷ 0x7C ∷ 0xBA ∷ 0xCC ∷ 0x2F ∷ 0x40 ∷ 0x2E ∷ l

-- a button press, two changes of colour, one of level, one of profile as it is printed and with its right sum
abbrev pub pressed : List ℕ
pressed = from (0x00 ∷ 0x3B ∷ 0x00 ∷ 0x01 ∷ 0x05 ∷ 0x6D ∷ [])

abbrev pub coloured : List ℕ
coloured = from (0x00 ∷ 0x3B ∷ 0x08 ∷ 0x07 ∷ 0x80 ∷ 0xFF ∷ 0x00 ∷ 0x00 ∷ 0x00 ∷ 0x00 ∷ 0x00 ∷ 0x19 ∷ [])

abbrev pub warmed : List ℕ
warmed = from (0x00 ∷ 0x3B ∷ 0x08 ∷ 0x03 ∷ 0x20 ∷ 0xFF ∷ 0x00 ∷ 0xBD ∷ [])

abbrev pub levelled : List ℕ
levelled = from (0x00 ∷ 0x3B ∷ 0x03 ∷ 0x01 ∷ 0xFE ∷ 0x95 ∷ [])

abbrev pub profiled : ℕ → List ℕ
profiled z = from (0x00 ∷ 0x00 ∷ 0x09 ∷ 0x02 ∷ 0x00 ∷ 0x0F ∷ z ∷ [])

-- no data, behind two target bytes and behind three; and the first cut by a byte
abbrev pub least13 : List ℕ
least13 = from (0x00 ∷ 0x3B ∷ 0x03 ∷ 0x00 ∷ 0x6A ∷ [])

abbrev pub least14 : List ℕ
least14 = from (0x00 ∷ 0x00 ∷ 0x3B ∷ 0x03 ∷ 0x00 ∷ 0x6A ∷ [])

abbrev pub cut12 : List ℕ
cut12 = from (0x00 ∷ 0x3B ∷ 0x03 ∷ 0x00 ∷ [])

-- seven data bytes behind two target bytes, six behind three
abbrev pub either : List ℕ
either = from (0x01 ∷ 0x02 ∷ 0x03 ∷ 0x07 ∷ 0x06 ∷ 0x06 ∷ 0x01 ∷ 0x02 ∷ 0x03 ∷ 0x04 ∷ 0x05 ∷ 0x54 ∷ [])

abbrev pub event_cases : List Case
event_cases =
    event Two pressed (told 59 0 1 (Some 5))
    ∷ event Two coloured (told 59 8 7 None)
    ∷ event Two warmed (told 59 8 3 None)
    ∷ event Two levelled (told 59 3 1 None)
    ∷ event Two (profiled 0x59) (refused 6)
    ∷ event Two (profiled 0x56) (told 0 9 2 None)
    ∷ event Three pressed (refused 5)
    ∷ event Three coloured (refused 4)
    ∷ event Three warmed (refused 5)
    ∷ event Three levelled (refused 4)
    ∷ event Three (profiled 0x59) (refused 5)
    ∷ event Three (profiled 0x56) (refused 5)
    ∷ event Two cut12 (refused 1)
    ∷ event Two least13 (told 59 3 0 None)
    ∷ event Three least13 (refused 1)
    ∷ event Three least14 (told 59 3 0 None)
    ∷ event Two either (told 258 3 7 None)
    ∷ event Three either (told 66051 7 6 (Some 6))
    ∷ []

-- THE CLAIM
pub events_told : AllHold event_cases
unfolding sum_from number_by read_event
events_told =
    (refl, (refl, (refl, (refl, (refl, (refl, (refl, (refl, (refl, (refl, (refl, (refl, (refl, (refl, (refl, (refl, (refl, (refl, tt))))))))))))))))))
