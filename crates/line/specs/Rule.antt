-- Document 01, "Reading a line": the rule at a position, one for both lines. First as it stands there, by an item's number and size; then
-- with the count of bytes that settles the item, as a feeding call needs it. That the two agree is a law (specs/Says.antt).
use Rattle.std.specs.Prelude.{ℕ, suc, Bool, List, [], ◌∷◌, length, take, leb, eqb}
use Rattle.refusal.specs.Test.{pick}
use Rattle.sum.specs.Sum.{sum_of}
use Rattle.frame.specs.Frame.{byte}
use Rattle.command.specs.Command.{shape_of}
use Rattle.command.specs.Length.{Told, unknown, fixed, tested, length_of}
use Rattle.stream.specs.Stream.{Position, nothing, stands, at_close, Settling, More, Settled}
use Rattle.extent.specs.declared.Line.{Line}
use Rattle.extent.specs.declared.Line.TheVariants.{Request, Reply}
use Rattle.extent.specs.declared.Extent.{Extent}
use Rattle.extent.specs.declared.Extent.TheVariants.{Wait, Bad, Frame}
use Rattle.extent.specs.Line.{is_lead, reply_length, extent_of, in_table}

-- "4. Fewer bytes than a rule needs: wait."
abbrev pub need : ℕ → List ℕ → Position → Position
need n s x = pick (leb n (length s)) x nothing

-- "3. All bytes of the frame there, exclusive-or not 0: item 6, one byte. Sum right but an argument outside the table: item 7,
-- the whole frame. Else item 0, the whole frame."
abbrev pub frame_at : Line → ℕ → List ℕ → Position
frame_at on n s =
    need n s (pick (eqb (sum_of (take n s)) 0) (pick (in_table on (take n s)) (stands 0 n) (stands 7 n)) (stands 6 1))

-- "2. Request line: third byte an unknown command: item 3, one byte. Request 40 with fourth byte not 6: item 4, one byte. Reply line:
-- third byte over 64: item 4, one byte." By what tells the length of a frame: its command, or a byte behind a test.
abbrev pub length_at : Line → Told → List ℕ → Position
length_at on unknown s = stands 3 1
length_at on (fixed n) s = frame_at on n s
length_at on (tested p test n) s = need (suc p) s (pick (test (byte p s)) (frame_at on (n (byte p s)) s) (stands 4 1))

abbrev pub behind_lead : Line → List ℕ → Position
behind_lead Request s = need 3 s (length_at Request (length_of (shape_of (byte 2 s))) s)
behind_lead Reply s = length_at Reply reply_length s

-- "1. First byte not the line's lead: item 2, one byte."
unfoldable pub rule_at : Line → List ℕ → Position
rule_at on s = need 1 s (pick (is_lead on (byte 0 s)) (behind_lead on s) (stands 2 1))

-- what stands at a position from which on the bytes s are there, and no more where the stream is closed: "At close: item 1, one byte."
unfoldable pub item_at : Line → Bool → List ℕ → Position
item_at on closed [] = nothing
item_at on closed (b ∷ s) = at_close closed (rule_at on (b ∷ s))

-- The same with the count: "4." waits,
abbrev pub await : ℕ → List ℕ → Settling → Settling
await n s x = pick (leb n (length s)) x More

-- "3." is settled by the whole frame,
abbrev pub frame_item : Line → ℕ → List ℕ → Settling
frame_item on n s =
    await n s (pick (eqb (sum_of (take n s)) 0) (pick (in_table on (take n s)) (Settled 0 n n) (Settled 7 n n)) (Settled 6 1 n))

-- "2." by the bytes that tell the frame's length,
abbrev pub extent_item : Line → Extent → List ℕ → Settling
extent_item on Wait s = More
extent_item on (Bad k d) s = Settled k 1 d
extent_item on (Frame n) s = frame_item on n s

-- and "1." by the first byte
unfoldable pub settle : Line → List ℕ → Settling
settle on s = await 1 s (pick (is_lead on (byte 0 s)) (extent_item on (extent_of on s) s) (Settled 2 1 1))
