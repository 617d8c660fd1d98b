-- A record of a capture as another language is handed it. Its datagram is told by where it begins and how many bytes it has.
use Rattle.std.specs.Prelude.{ℕ, ◌+◌, ◌-◌, length}
use Rattle.refusal.specs.Answer.{Answer, refused, full}
use Rattle.record.specs.Record.{Entry, record_size, Stood}
use Rattle.c_capture.specs.declared.WickRecord.{WickRecord}

-- a refusal: every other field is 0
abbrev pub no_record : ℕ → WickRecord
no_record k = record { refusal = k; seconds = 0; datagram_at = 0; n = 0; next = 0 }

-- the record at a place of a capture
abbrev pub record_out : ℕ → Answer Entry → WickRecord
record_out p (refused k) = no_record k
record_out p (full r) =
    record {
      refusal = 0;
      seconds = r.seconds;
      datagram_at = p + 6;
      n = length r.datagram;
      next = p + record_size r.datagram;
    }

-- the same by what crate capture says of a place: the datagram ends where the next record begins, and 6 bytes stand in front of it
abbrev pub stood_out : ℕ → Answer Stood → WickRecord
stood_out p (refused k) = no_record k
stood_out p (full s) =
    record {
      refusal = 0;
      seconds = s.seconds;
      datagram_at = s.next - (s.next - 6 - p);
      n = s.next - 6 - p;
      next = s.next;
    }
