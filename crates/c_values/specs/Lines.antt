-- A reader of a line as another language hands it in and is handed it back, and what its calls give; and what a finished run gives.
use Rattle.std.specs.Prelude.{ℕ, Option, Some, None, List, replicate, eqb}
use Rattle.refusal.specs.Test.{pick}
use Rattle.stream.specs.Stream.{Position, nothing, stands, feed, close}
use Rattle.extent.specs.declared.Line.{Line}
use Rattle.extent.specs.declared.Line.TheVariants.{Request, Reply}
use Rattle.line.specs.Rule.{settle}
use Rattle.reader.specs.declared.Held.{Held}
use Rattle.reader.specs.declared.Given.{Given}
use Rattle.reader.specs.declared.Item.{Item}
use Rattle.reader.specs.Reader.{item_room, held_of, given_of, closed_of}
use Rattle.quiet_run.specs.Quiet.{First, none, loud}
use Rattle.c_values.specs.declared.WickReader.{WickReader}
use Rattle.c_values.specs.declared.WickGiven.{WickGiven}
use Rattle.c_values.specs.declared.WickItem.{WickItem}
use Rattle.c_values.specs.declared.WickQuiet.{WickQuiet}

-- 0 is the request line, any other number the reply line
abbrev pub line_by : ℕ → Line
line_by n = pick (eqb n 0) Request Reply

abbrev pub reader_in : WickReader → Held
reader_in w = record { bytes = w.bytes; len = w.len }

abbrev pub reader_out : Held → WickReader
reader_out h = record { bytes = h.bytes; len = h.len }

-- whether there is an item, its number, how many bytes it has, and these in front of zeros; where there is none, the count and the bytes
-- of the one handed here
abbrev pub item_is : Option Item → ℕ
item_is None = 0
item_is (Some x) = 1

abbrev pub item_no : Option Item → ℕ
item_no None = 0
item_no (Some x) = x.number

abbrev pub item_count : Option Item → Item → ℕ
item_count None z = z.count
item_count (Some x) z = x.count

abbrev pub item_bytes : Option Item → Item → List ℕ
item_bytes None z = z.bytes
item_bytes (Some x) z = x.bytes

abbrev pub given_out : Given → Item → WickGiven
given_out r z =
    record {
      reader = reader_out r.held;
      taken = r.taken;
      has_item = item_is r.item;
      item = item_no r.item;
      count = item_count r.item z;
      bytes = item_bytes r.item z;
    }

-- an item of nothing
abbrev pub no_item : Item
no_item = record { number = 0; count = 0; bytes = replicate item_room 0 }

-- what a feeding and a closing call give
abbrev pub fed_out : Line → Held → List ℕ → WickGiven
fed_out on h p = given_out (given_of p (feed (settle on) (held_of on h) p)) no_item

abbrev pub closed_out : Line → Held → WickGiven
closed_out on h = given_out (closed_of (close (settle on) (held_of on h))) no_item

-- what stands at a position
abbrev pub position_out : Position → WickItem
position_out nothing = record { has_item = 0; item = 0; count = 0 }
position_out (stands k m) = record { has_item = 1; item = k; count = m }

-- a finished run passes, or the first item that is not quiet
abbrev pub quiet_out : First → WickQuiet
quiet_out none = record { passes = 1; item = 0; place = 0; count = 0 }
quiet_out (loud at k m) = record { passes = 0; item = k; place = at; count = m }
