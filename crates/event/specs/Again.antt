-- An accepted event written again with its own data: the frame to write is the datagram.
use Rattle.std.specs.Prelude.{ℕ, ◌≡◌, List, take, drop}
use Rattle.refusal.specs.Answer.{full}
use Rattle.sum.specs.Bytes.{Bytes}
use Rattle.event_type.specs.Types.{kind_number}
use Rattle.event.specs.Layout.{data_at}
use Rattle.event.specs.Reading.{Told, read_event}
use Rattle.event.specs.Writing.{event_frame}
use Rattle.event.specs.Demand2.{events}

pub read_again : (w : ℕ) (d : List ℕ) (r : Told) → Bytes d → read_event w d ≡ full r
    → event_frame w r.mac r.target (kind_number r.kind) (take r.n (drop (data_at w) d)) ≡ full d
read_again w d r b e = (events w).written_read d r b e ((events w).accepted_frame d r b e).0
