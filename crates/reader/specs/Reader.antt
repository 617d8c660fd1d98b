-- A reader of a line, as the code has it: what a state holds, what a call's result says, and the contracts of the two calls. Document 01,
-- "Reading a line"; the words of a stream are those of the crate stream.
use Rattle.std.specs.Prelude.{ℕ, ◌-◌, ◌≡◌, List, [], ◌++◌, length, take, replicate, leb, Option, Some, None}
use Rattle.refusal.specs.Test.{pick}
use Rattle.stream.specs.Stream.{reading, Fed, nothing_yet, found, Closed, empty, last, feed, close}
use Rattle.extent.specs.declared.Line.{Line}
use Rattle.extent.specs.declared.Line.TheVariants.{Reply}
use Rattle.extent.specs.Line.{cap_of, longest_of}
use Rattle.line.specs.Rule.{settle}
use Rattle.reader.specs.declared.Held.{Held}
use Rattle.reader.specs.declared.Given.{Given}
use Rattle.reader.specs.declared.Item.{Item}

-- the places of a state and of an item: as many as the longer line needs, the reply line
abbrev pub held_room : ℕ
held_room = cap_of Reply

abbrev pub item_room : ℕ
item_room = longest_of Reply

-- the bytes of a run in an array of n, and zeros behind them
unfoldable pub pad : ℕ → List ℕ → List ℕ
pad n l = l ++ replicate (n - length l) 0

-- the bytes that a state holds: "One handed in that claims more is taken as a fresh reader; any other bytes held are read by the
-- rules as they stand."
unfoldable pub held_of : Line → Held → List ℕ
held_of on h = pick (leb h.len (cap_of on)) (take h.len h.bytes) []

-- the state that holds a run
abbrev pub hold : List ℕ → Held
hold l = record { bytes = pad held_room l; len = length l }

-- What a feeding call's result says: where it has no item, "nothing yet"; else how many bytes were taken, the item's number and its bytes.
-- In both cases the bytes then held.
abbrev pub fed_said : Option Item → ℕ → List ℕ → Fed
fed_said None j g = nothing_yet g
fed_said (Some i) j g = found j (reading i.number (take i.count i.bytes)) g

abbrev pub said_fed : Line → Given → Fed
said_fed on r = fed_said r.item r.taken (held_of on r.held)

-- what a closing call's result says: "empty"; or an item, by its number and its bytes, and the bytes then held
abbrev pub closed_said : Option Item → List ℕ → Closed
closed_said None g = empty
closed_said (Some i) g = last (reading i.number (take i.count i.bytes)) g

abbrev pub said_closed : Line → Given → Closed
said_closed on r = closed_said r.item (held_of on r.held)

-- how many bytes the item has: none where there is none
abbrev pub count_of : Option Item → ℕ
count_of None = 0
count_of (Some i) = i.count

-- the result that says so and no more: no item, and some bytes held; or an item and its bytes. Every other byte is 0
abbrev pub nothing_of : List ℕ → ℕ → Given
nothing_of s j = record { held = hold s; taken = j; item = None }

abbrev pub item_of : ℕ → ℕ → List ℕ → List ℕ → Given
item_of j k l g = record { held = hold g; taken = j; item = Some (record { number = k; count = length l; bytes = pad item_room l }) }

-- of a part p: "If none is settled it takes all and answers 'nothing yet'."
abbrev pub given_of : List ℕ → Fed → Given
given_of p (nothing_yet g) = nothing_of g (length p)
given_of p (found j (reading k l) g) = item_of j k l g

-- of no part: closing calls "leave a fresh reader when they say 'empty'"
abbrev pub closed_of : Closed → Given
closed_of empty = nothing_of [] 0
closed_of (last (reading k l) g) = item_of 0 k l g

-- the contract of a feeding call: what its result says, and that it says no more
pub record Feeds (on : Line) (h : Held) (p : List ℕ) (r : Given) : Type 0 where
  pub says : said_fed on r ≡ feed (settle on) (held_of on h) p
  pub only : r ≡ given_of p (said_fed on r)

-- the contract of a closing call
pub record Closes (on : Line) (h : Held) (r : Given) : Type 0 where
  pub says : said_closed on r ≡ close (settle on) (held_of on h)
  pub only : r ≡ closed_of (said_closed on r)
