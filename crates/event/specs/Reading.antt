-- What a datagram says as an event, over the width of the target. Document 01, "Refusals, by number": 1, 2, 4, 5, 6, 7, the lowest that
-- applies.
use Rattle.std.specs.Prelude.{ℕ, ◌+◌, not, List, [], Option, length, take, drop, leb, eqb}
use Rattle.refusal.specs.Answer.{Answer, refused, full, demand}
use Rattle.lead.specs.Lead.{is_event, event_data}
use Rattle.sum.specs.Sum.{sum_of}
use Rattle.frame.specs.Frame.{byte, listed}
use Rattle.order.specs.Order.{high_first, number_in}
use Rattle.event_type.specs.Types.{Kind, said_type, kind_of, kind_number, lacks, instance_of}
use Rattle.event.specs.Layout.{Fields, event, target_at, type_at, count_at, data_at, least}
use Rattle.event.specs.declared.Mac.{Mac}
use Rattle.event.specs.declared.Event.{Event}

-- an event in document 01's terms: the MAC bytes, the target as a number, the type, n, and the instance
pub record Told : Type 0 where
  pub mac : Mac
  pub target : ℕ
  pub kind : Kind
  pub n : ℕ
  pub instance : Option ℕ

-- what an event tells
abbrev pub said_event : Event → Told
said_event e = record { mac = e.mac; target = e.target; kind = said_type e.kind; n = e.n; instance = e.instance }

abbrev pub mac_of : List ℕ → Mac
mac_of d = record { 0 = byte 2 d; 1 = byte 3 d; 2 = byte 4 d; 3 = byte 5 d; 4 = byte 6 d; 5 = byte 7 d }

-- the reading of an accepted datagram. "The target as a number is big-endian (our choice)."
abbrev pub event_in : ℕ → List ℕ → Told
event_in w d =
    record {
      mac = mac_of d;
      target = number_in high_first w (listed target_at w d);
      kind = kind_of (byte (type_at w) d);
      n = byte (count_at w) d;
      instance = instance_of (byte (type_at w) d) (byte (data_at w) d);
    }

unfoldable pub read_event : ℕ → List ℕ → Answer Told
read_event w d =
    demand (leb (least w) (length d)) 1
    (demand (is_event (byte 0 d) (byte 1 d)) 2
    (demand (leb (byte (count_at w) d) event_data) 4
    (demand (eqb (length d) (byte (count_at w) d + least w)) 5
    (demand (eqb (sum_of d) 0) 6
    (demand (not (lacks (byte (type_at w) d) (byte (count_at w) d))) 7
    (full (event_in w d)))))))

-- "the data part, asked of a refused datagram, is empty"
abbrev pub data_in : Answer Told → ℕ → List ℕ → List ℕ
data_in (refused k) w d = []
data_in (full r) w d = take r.n (drop (data_at w) d)

abbrev pub data_of : ℕ → List ℕ → List ℕ
data_of w d = data_in (read_event w d) w d

-- "handed back as that part of the caller's own datagram, not as a copy": the place of the datagram where the part begins
abbrev pub start_in : Answer Told → ℕ → ℕ
start_in (refused k) w = 0
start_in (full r) w = data_at w

abbrev pub data_start : ℕ → List ℕ → ℕ
data_start w d = start_in (read_event w d) w

-- the fields of a datagram with some reading
abbrev pub fields_of : ℕ → Told → List ℕ → Fields
fields_of w r d = event r.mac r.target (kind_number r.kind) (take r.n (drop (data_at w) d))
