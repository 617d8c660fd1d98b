-- What tells the length of a request's frame. Document 01, "Frames": "Basic request, 8 bytes", "Request 40, 11 bytes: .. length 06, ..";
-- "Reading a line": "third byte an unknown command: item 3", "Request 40 with fourth byte not 6: item 4". Document 02, W-202: "The length
-- of a request now depends on the colour type as well as the command".
use Rattle.std.specs.Prelude.{ℕ, ◌+◌, ◌≤◌, ◌<◌, ◌≡◌, refl, Bool, true, eqb}
use Rattle.std.proofs.Common.{arith}
use Rattle.command.specs.declared.Shape.{Shape}
use Rattle.command.specs.declared.Shape.TheVariants.{Unknown, Basic, Unicast, Colour}
use Rattle.command.specs.Colours.{xy_type, tc_type, rgbwaf_type, widths_of, data_bytes, is_type}
use Rattle.command.specs.Listed.{type_bytes}

-- the bytes of a basic request: no request has fewer
abbrev pub basic_bytes : ℕ
basic_bytes = 8

-- the one dynamic request
abbrev pub unicast_command : ℕ
unicast_command = 0x40

-- the bytes of request 40; and its length byte, which counts those of port and address
abbrev pub unicast_bytes : ℕ
unicast_bytes = 11

abbrev pub unicast_length : ℕ
unicast_length = 6

-- the colour request, and its bytes: lead, sequence, command, address, level and type, then the type's colour data, then the sum
abbrev pub colour_command : ℕ
colour_command = 0x0E

abbrev pub colour_bytes : ℕ → ℕ
colour_bytes k = 6 + data_bytes k + 1

-- the bytes of RGBWAF: no request has more
abbrev pub most_bytes : ℕ
most_bytes = 13

-- what tells the length of a frame whose command is read
pub data Told : Type 0 where
  -- no frame has that command: 3
  unknown : Told
  -- the command: so many bytes
  fixed : ℕ → Told
  -- so many bytes, then a test: the byte at a place is one that the test lets pass, else 4, and tells how many bytes there are
  tested : ℕ → (ℕ → Bool) → (ℕ → ℕ) → Told

abbrev pub length_of : Shape → Told
length_of Unknown = unknown
length_of (Basic rule) = fixed basic_bytes
length_of Unicast = tested 3 (λ b. eqb b unicast_length) (λ b. unicast_bytes)
length_of Colour = tested 5 is_type colour_bytes

-- a frame has lo to hi bytes, and what tells its length stands among the first lo
abbrev pub Within : ℕ → ℕ → Told → Type 0
Within lo hi unknown = Unit {0}
Within lo hi (fixed n) = (lo ≤ n) × (n ≤ hi)
Within lo hi (tested p test n) = (p < lo) × ((b : ℕ) → test b ≡ true → (lo ≤ n b) × (n b ≤ hi))

pub length_within : (x : Shape) → Within basic_bytes most_bytes (length_of x)
length_within Unknown = tt
length_within (Basic rule) = (omega arith, omega arith)
length_within Unicast = (omega arith, λ b e. (omega arith, omega arith))
length_within Colour = (omega arith, λ k e. let t = type_bytes k e in (omega (arith, t.1), omega (arith, t.2)))

-- a colour request has 11, 9 or 13 bytes
pub colour_lengths : (colour_bytes xy_type ≡ 11) × (colour_bytes tc_type ≡ 9) × (colour_bytes rgbwaf_type ≡ most_bytes)
unfolding data_bytes widths_of
colour_lengths = (refl, refl, refl)
