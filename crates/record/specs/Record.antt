-- A record of a capture. Document 02, W-207: "records, each a two-byte length first, then seconds in four bytes, then the datagram, all
-- big-endian. The length counts what follows it."
use Rattle.std.specs.Prelude.{ℕ, Option, Some, None, ◌+◌, ◌-◌, List, ◌++◌, length, take, drop, leb}
use Rattle.refusal.specs.Answer.{Answer, refused, full, demand}
use Rattle.frame.specs.Frame.{listed}
use Rattle.order.specs.Order.{high_first, number_in}
use Rattle.order.specs.Big.{big_bytes}
use Rattle.event.specs.Reading.{Told, said_event, read_event}
use Rattle.led.specs.Led.{part_at}
use Rattle.record.specs.declared.Stored.{Stored}

-- the bytes of a record
abbrev pub record_bytes : ℕ → List ℕ → List ℕ
record_bytes t d = big_bytes 2 (4 + length d) ++ big_bytes 4 t ++ d

-- how many they are
abbrev pub record_size : List ℕ → ℕ
record_size d = 6 + length d

-- what a good record tells: its seconds, its datagram, and the event that this says
pub record Entry : Type 0 where
  pub seconds : ℕ
  pub datagram : List ℕ
  pub event : Told

-- the seconds and the datagram of a record at the front of a run, where n bytes follow its length
abbrev pub seconds_in : List ℕ → ℕ
seconds_in s = number_in high_first 4 (listed 2 4 s)

abbrev pub datagram_in : ℕ → List ℕ → List ℕ
datagram_in n s = take (n - 4) (drop 6 s)

-- 15: ".. or whose datagram its layout refuses"
abbrev pub with_event : Answer Told → ℕ → List ℕ → Answer Entry
with_event (refused k) n s = refused 15
with_event (full e) n s = full (record { seconds = seconds_in s; datagram = datagram_in n s; event = e })

-- 15: ".. of length under 4"
abbrev pub with_part : Answer ℕ → ℕ → List ℕ → Answer Entry
with_part (refused k) w s = refused 15
with_part (full n) w s = demand (leb 4 n) 15 (with_event (read_event w (datagram_in n s)) n s)

-- the record at the front of a run; 15: "a record cut short" and the two above. Its target has w bytes
unfoldable pub record_at : ℕ → List ℕ → Answer Entry
record_at w s = with_part (part_at s) w s

-- a record that begins at a place: its seconds, its event, and the place behind it
pub record Stood : Type 0 where
  pub seconds : ℕ
  pub event : Told
  pub next : ℕ

abbrev pub stood_at : ℕ → Entry → Stood
stood_at at r = record { seconds = r.seconds; event = r.event; next = at + record_size r.datagram }

abbrev pub standing : ℕ → Answer Entry → Answer Stood
standing at (refused k) = refused k
standing at (full r) = full (stood_at at r)

-- the number and values for each case of what stands at a place
abbrev pub said_stored : Stored → Stood
said_stored x = record { seconds = x.seconds; event = said_event x.event; next = x.next }

abbrev pub said_standing : Option Stored → Answer Stood
said_standing (Some x) = full (said_stored x)
said_standing None = refused 15
