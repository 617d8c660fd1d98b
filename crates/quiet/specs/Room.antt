-- The room that the program has.
use Rattle.std.specs.Prelude.{ℕ, ◌+◌, ◌≤◌, List, length}
use Rattle.extent.specs.declared.Line.TheVariants.{Request}
use Rattle.extent.specs.Line.{cap_of}
use Rattle.quiet_turns.specs.declared.Act.{Act}
use Rattle.quiet_turns.specs.declared.Act.TheVariants.{Failed, Read, Says}
use Rattle.quiet_turns.specs.Room.{answer_most}

-- behind the bytes that are held there is room for a read of 65,536 bytes: our choice, as many as a pipe holds
abbrev pub RoomBehind : List ℕ → ℕ → Type 0
RoomBehind buf held = held + 65536 ≤ length buf

-- behind as many as a request line's rule waits with, and there is room for each answer
pub record Roomy (buf out : List ℕ) : Type 0 where
  pub held : RoomBehind buf (cap_of Request)
  pub text : answer_most ≤ length out

-- the answer stands in the buffer
abbrev pub SaysWithin : Act → List ℕ → Type 0
SaysWithin Failed out = Unit {0}
SaysWithin (Read w) out = Unit {0}
SaysWithin (Says n) out = n ≤ length out
