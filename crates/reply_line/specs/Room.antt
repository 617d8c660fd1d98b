-- The room that the program has.
use Rattle.std.specs.Prelude.{ℕ, ◌+◌, ◌≤◌, List, length}
use Rattle.extent.specs.declared.Line.TheVariants.{Reply}
use Rattle.extent.specs.Line.{cap_of}
use Rattle.items.specs.Pour.{longest_line}

-- the most bytes that one read gives: our choice, as many as a pipe holds
abbrev pub part_most : ℕ
part_most = 65536

-- behind the bytes that are held there is room for a read
abbrev pub RoomBehind : List ℕ → ℕ → Type 0
RoomBehind buf held = held + part_most ≤ length buf

-- a reply line's rule waits with at most so many bytes, and a line of text is at most so long
pub record Roomy (buf out : List ℕ) : Type 0 where
  pub held : RoomBehind buf (cap_of Reply)
  pub text : longest_line Reply ≤ length out
