-- The bytes from data_at on, n of them, are the data part that crates reply and event hand back.
use Rattle.std.specs.Prelude.{◌≡◌, refl, List, ℕ, take, drop}
use Rattle.refusal.specs.Answer.{Answer, refused, full}
use Rattle.reply.specs.declared.Reply.{Reply}
use Rattle.reply.specs.Reading as reply
use Rattle.event.specs.Reading as event
use Rattle.c_datagrams.specs.Replies.{reply_out}
use Rattle.c_datagrams.specs.Events.{event_out}

reply_part_in : (a : Answer Reply) (d : List ℕ) → take (reply_out a).n (drop (reply_out a).data_at d) ≡ reply.data_in a d
reply_part_in (refused k) d = refl
reply_part_in (full r) d = refl

pub reply_part : (d : List ℕ)
    → take (reply_out (reply.read_reply d)).n (drop (reply_out (reply.read_reply d)).data_at d) ≡ reply.data_of d
reply_part d = reply_part_in (reply.read_reply d) d

event_part_in : (w : ℕ) (a : Answer event.Told) (d : List ℕ)
    → take (event_out w a).n (drop (event_out w a).data_at d) ≡ event.data_in a w d
event_part_in w (refused k) d = refl
event_part_in w (full e) d = refl

pub event_part : (w : ℕ) (d : List ℕ)
    → take (event_out w (event.read_event w d)).n (drop (event_out w (event.read_event w d)).data_at d) ≡ event.data_of w d
event_part w d = event_part_in w (event.read_event w d) d
