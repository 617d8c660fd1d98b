-- A relay of replies or events (crate request has that of requests): what was read is written again, byte for byte. Demand 2: "writing a
-- frame that was read gives its bytes back, where the buffer is long enough."
use Rattle.std.specs.Prelude.{ℕ, List}
use Rattle.refusal.specs.Answer.{Answer, refused, full}

-- the frame that a relay is to write: the datagram itself where its reader accepts it, else the reader's refusal
abbrev pub relayed : {A : Type 0} → Answer A → List ℕ → Answer (List ℕ)
relayed (refused k) d = refused k
relayed (full r) d = full d
