-- Document 01, "Reading a line": the two lines, each given by its lead, by what its first bytes tell of a frame's length, and by
-- the table of its arguments.
use Rattle.std.specs.Prelude.{ℕ, suc, ◌+◌, ◌-◌, Bool, true, List, length, leb}
use Rattle.refusal.specs.Test.{pick}
use Rattle.lead.specs.Lead.{is_request, is_reply, reply_least, reply_data}
use Rattle.frame.specs.Frame.{byte}
use Rattle.target.specs.Target.{is_lighting}
use Rattle.command.specs.declared.Shape.{Shape}
use Rattle.command.specs.declared.Shape.TheVariants.{Unknown, Basic, Unicast, Colour}
use Rattle.command.specs.Command.{shape_of}
use Rattle.command.specs.Length.{Told, unknown, fixed, tested, length_of, basic_bytes, most_bytes}
use Rattle.ranges.specs.Arguments.{fits}
use Rattle.extent.specs.declared.Line.{Line}
use Rattle.extent.specs.declared.Line.TheVariants.{Request, Reply}
use Rattle.extent.specs.declared.Extent.{Extent}
use Rattle.extent.specs.declared.Extent.TheVariants.{Wait, Bad, Frame}

-- "the line's lead (04 on a request line, A0–A3 on a reply line)"
abbrev pub is_lead : Line → ℕ → Bool
is_lead Request b = is_request b
is_lead Reply b = is_reply b

-- "Reply, 4 + n bytes: type, sequence, n, n data bytes, sum": what tells the length of a reply
abbrev pub reply_length : Told
reply_length = tested 2 (λ b. leb b reply_data) (λ b. b + reply_least)

-- "Fewer bytes than a rule needs: wait."
abbrev pub up_to : ℕ → List ℕ → Extent → Extent
up_to n s x = pick (leb n (length s)) x Wait

-- "third byte an unknown command: item 3, one byte. Request 40 with fourth byte not 6: item 4, one byte." "third byte over 64: item 4,
-- one byte." Document 02, W-202, of a colour request: "an unlisted colour type is 4", "the items follow the same numbers". Beside an item
-- stands how many bytes tell it.
abbrev pub length_extent : Told → List ℕ → Extent
length_extent unknown s = Bad 3 3
length_extent (fixed n) s = Frame n
length_extent (tested p test n) s = up_to (suc p) s (pick (test (byte p s)) (Frame (n (byte p s))) (Bad 4 (suc p)))

abbrev pub request_extent : List ℕ → Extent
request_extent s = up_to 3 s (length_extent (length_of (shape_of (byte 2 s))) s)

abbrev pub reply_extent : List ℕ → Extent
reply_extent s = length_extent reply_length s

abbrev pub extent_of : Line → List ℕ → Extent
extent_of Request s = request_extent s
extent_of Reply s = reply_extent s

-- "Sum right but an argument outside the table": request 40 takes any port and address, of a colour request "its address is a lighting
-- target, its other values any", and a reply has no arguments
abbrev pub shape_in_table : Shape → List ℕ → Bool
shape_in_table Unknown f = true
shape_in_table (Basic rule) f = fits rule (byte 3 f) (byte 4 f) (byte 5 f) (byte 6 f)
shape_in_table Unicast f = true
shape_in_table Colour f = is_lighting (byte 3 f)

abbrev pub request_in_table : List ℕ → Bool
request_in_table f = shape_in_table (shape_of (byte 2 f)) f

abbrev pub in_table : Line → List ℕ → Bool
in_table Request f = request_in_table f
in_table Reply f = true

-- the least and the greatest length of a frame: "Basic request, 8 bytes", the 13 bytes of a colour request of type RGBWAF,
-- "n is 0 to 64"
abbrev pub least_of : Line → ℕ
least_of Request = basic_bytes
least_of Reply = reply_least

abbrev pub longest_of : Line → ℕ
longest_of Request = most_bytes
longest_of Reply = reply_data + reply_least

-- "A reader holds at most 67 bytes of a reply line and 10 of a request line", and 12 of it since W-202: one less than the longest frame has
abbrev pub cap_of : Line → ℕ
cap_of Request = longest_of Request - 1
cap_of Reply = longest_of Reply - 1
