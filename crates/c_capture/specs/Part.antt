-- The bytes from datagram_at on, n of them, are the datagram that crate capture hands back.
use Rattle.std.specs.Prelude.{ℕ, ◌≡◌, refl, List, take, drop}
use Rattle.refusal.specs.Answer.{Answer, refused, full}
use Rattle.record.specs.Record.{Entry}
use Rattle.capture.specs.Capture.{entry_at, part_of, datagram_at}
use Rattle.capture.specs.Says.{entry_there}
use Rattle.c_capture.specs.Records.{record_out}

pub record_part : (b : List ℕ) (u p : ℕ)
    → take (record_out p (entry_at b u p)).n (drop (record_out p (entry_at b u p)).datagram_at b) ≡ datagram_at b u p
record_part b u p = go (entry_at b u p) refl
  where
    go : (a : Answer Entry) → entry_at b u p ≡ a → take (record_out p a).n (drop (record_out p a).datagram_at b) ≡ part_of a
    go (refused k) e = refl
    go (full r) e = (entry_there b u p r e).1
