-- Demand 2 for replies, from its parts in specs/Demand2.antt, and that what was read is written again.
use Rattle.std.specs.Prelude.{ℕ, ◌≡◌, List, take, drop}
use Rattle.refusal.specs.Answer.{full}
use Rattle.sum.specs.Bytes.{Bytes}
use Rattle.frame.specs.Demand2.{Demand2, demand2}
use Rattle.reply.specs.Layout.{InRange, data_at, layout}
use Rattle.reply.specs.Reading.{read_reply, fields_of}
use Rattle.reply.specs.Writing.{reply_frame}
use Rattle.reply.specs.Demand2.{frame_of, accepted_frame, frame_bytes, frame_sum, frame_accepted, in_range_written, read_written}
use Rattle.reply.specs.declared.Reply.{Reply}

-- DEMAND 2 FOR REPLIES. Whatever is in range may be written
pub replies : Demand2 InRange layout read_reply fields_of InRange frame_of
replies =
    demand2 InRange layout read_reply fields_of InRange frame_of
    accepted_frame frame_bytes frame_sum frame_accepted (λ f i. i) in_range_written read_written

-- written again with its own data, it is the frame to write
pub read_again : (d : List ℕ) (r : Reply) → Bytes d → read_reply d ≡ full r
    → reply_frame r.kind r.sequence (take r.n (drop data_at d)) ≡ full d
read_again d r b e = replies.written_read d r b e (replies.accepted_frame d r b e).0
