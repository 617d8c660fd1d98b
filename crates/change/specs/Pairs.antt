-- Document 02, W-211: "Write beside it, with a worked pair, that two changed bytes may pass." One pair for each family and layout, both by their
-- bytes: accepted both, with two bytes changed by the same bits, and saying two things. Beside them what does not pass.
use Rattle.std.specs.Prelude.{ℕ, Ok, Some, ◌≡◌, refl, false, List, [], ◌∷◌, T, ltb}
use Rattle.std.proofs.Common.{lit<, arith}
use Rattle.refusal.specs.Test.{clash}
use Rattle.refusal.specs.Answer.{Answer, refused, full, said}
use Rattle.sum.specs.Bytes.{Bytes, bytes_none, bytes_cons}
use Rattle.sum.specs.Sum.{sum_from}
use Rattle.order.specs.Order.{number_by}
use Rattle.target.specs.Target.{gear}
use Rattle.command.specs.Command.{shape_of, is_retired}
use Rattle.command.specs.Colours.{widths_of, data_bytes}
use Rattle.colour.specs.Colour.{hue}
use Rattle.ranges.specs.Arguments.{fits}
use Rattle.meaning.specs.Meaning.{filter, meaning_of}
use Rattle.request.specs.Said.{Heard, heard, arguments, coloured}
use Rattle.request.specs.Reading.{read_basic, read_coloured, read_request}
use Rattle.reply.specs.declared.Reply.{Reply}
use Rattle.reply.specs.Reading.{read_reply}
use Rattle.event_type.specs.Types.{by_name}
use Rattle.event.specs.declared.Layout.TheVariants.{Three, Two}
use Rattle.event.specs.Layout.{width_of}
use Rattle.event.specs.Reading.{Told, read_event}
use Rattle.change.specs.Change.{mended, changed}
use Rattle.change.specs.Excludes.{Beside, Excludes}

-- both are accepted, with these readings, and two bytes were changed, each by the bits m
abbrev pub Passes : {A : Type 0} → (List ℕ → Answer A) → List ℕ → List ℕ → A → A → ℕ → Type 0
Passes read d d' r r' m = (read d ≡ full r) × (read d' ≡ full r') × (changed d d' ≡ m ∷ m ∷ [])

-- OK to request 0, and to request 1
abbrev pub okay : ℕ → ℕ → List ℕ
okay s z = 0xA0 ∷ s ∷ 0x00 ∷ z ∷ []

abbrev pub okay_to : ℕ → Reply
okay_to s = record { kind = 0xA0; sequence = s; n = 0 }

-- the filter of gear 0 for event types 3 and 8, and with its two mask bytes exchanged for types 0 and 11
abbrev pub filter_of : ℕ → ℕ → List ℕ
filter_of high low = 0x04 ∷ 0x00 ∷ 0x31 ∷ 0x00 ∷ 0xFF ∷ high ∷ low ∷ 0xC3 ∷ []

abbrev pub filtered : ℕ → ℕ → ℕ → Heard
filtered high low mask = heard 0 0x31 false (arguments 0 255 high low (filter 0 255 mask))

-- a colour temperature for gear 1, and another for gear 0
abbrev pub warm : ℕ → ℕ → List ℕ
warm t low = 0x04 ∷ 0x00 ∷ 0x0E ∷ t ∷ 0xFE ∷ 0x20 ∷ 0x01 ∷ low ∷ 0xA6 ∷ []

abbrev pub warmed : ℕ → ℕ → Heard
warmed t k = heard 0 0x0E false (coloured t (gear t) 254 (hue 0x20 (k ∷ [])))

-- a button press at device 59, instance 5, and one at device 58, instance 4, in each layout
abbrev pub from : List ℕ → List ℕ
from l = 0x5A ∷ 0x43 ∷ 0x7C ∷ 0xBA ∷ 0xCC ∷ 0x2F ∷ 0x40 ∷ 0x2E ∷ 0x00 ∷ l

abbrev pub pressed : ℕ → ℕ → List ℕ
pressed t i = t ∷ 0x00 ∷ 0x01 ∷ i ∷ 0x6D ∷ []

abbrev pub pressed_at : ℕ → ℕ → Told
pressed_at t i =
    record {
      mac = record { 0 = 0x7C; 1 = 0xBA; 2 = 0xCC; 3 = 0x2F; 4 = 0x40; 5 = 0x2E };
      target = t;
      kind = by_name 0;
      n = 1;
      instance = Some i;
    }

-- THE PAIRS
pub two_pass : Passes read_reply (okay 0x00 0xA0) (okay 0x01 0xA1) (okay_to 0) (okay_to 1) 0x01
    × Passes read_request (filter_of 0x01 0x08) (filter_of 0x08 0x01) (filtered 1 8 264) (filtered 8 1 2049) 0x09
    × Passes read_request (warm 0x01 0x72) (warm 0x00 0x73) (warmed 1 370) (warmed 0 371) 0x01
    × Passes (read_event (width_of Three)) (from (0x00 ∷ pressed 0x3B 0x05)) (from (0x00 ∷ pressed 0x3A 0x04)) (pressed_at 59 5) (pressed_at 58 4) 0x01
    × Passes (read_event (width_of Two)) (from (pressed 0x3B 0x05)) (from (pressed 0x3A 0x04)) (pressed_at 59 5) (pressed_at 58 4) 0x01
unfolding changed sum_from number_by shape_of is_retired fits meaning_of data_bytes widths_of read_basic read_coloured read_request read_reply read_event
two_pass = ((refl, refl, refl), (refl, refl, refl), (refl, refl, refl), (refl, refl, refl), (refl, refl, refl))

-- nine bits in a row may pass: bit 0 of the first byte and of the second
pub nine_pass : Passes read_reply (okay 0x00 0xA0) (0xA1 ∷ 0x01 ∷ 0x00 ∷ 0xA0 ∷ []) (okay_to 0) (record { kind = 0xA1; sequence = 1; n = 0 }) 0x01
unfolding changed sum_from read_reply
nine_pass = (refl, refl, refl)

-- one byte; two by differing bits; two by the same bits that leave the ranges: the type A4, and n of 4 in four bytes
pub refused_beside : (read_reply (okay 0x01 0xA0) ≡ refused 6) × (read_reply (okay 0x01 0xA2) ≡ refused 6)
    × (read_reply (0xA4 ∷ 0x00 ∷ 0x00 ∷ 0xA4 ∷ []) ≡ refused 2) × (read_reply (0xA0 ∷ 0x00 ∷ 0x04 ∷ 0xA4 ∷ []) ≡ refused 5)
unfolding sum_from read_reply
refused_beside = (refl, refl, refl, refl)

-- A READER THAT DOES NOT DEMAND THE SUM excludes none of this: of it the claim is false
abbrev pub loose : List ℕ → Answer Reply
loose d = read_reply (mended d)

pub loose_passes : Excludes said loose → ⊥
unfolding sum_from read_reply
loose_passes c =
    let e = c.one_changed (okay 0x00 0xA0) 3 0xA1 (Ok (okay_to 0)) (Ok (okay_to 0)) (omega arith) (λ q. absurd (omega arith)) beside in
    clash (cc)
  where
    bytes : (z : ℕ) → T (ltb z 256) → Bytes (okay 0x00 z)
    bytes z h = bytes_cons (omega arith) (bytes_cons (omega arith) (bytes_cons (omega arith) (bytes_cons (lit< h) bytes_none)))

    beside : Beside said loose (okay 0x00 0xA0) (okay 0x00 0xA1) (Ok (okay_to 0)) (Ok (okay_to 0))
    beside = record { bytes = bytes 0xA0 tt; bytes' = bytes 0xA1 tt; long = refl; answer = refl; answer' = refl; taken = refl }
