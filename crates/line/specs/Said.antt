-- What the code's answer says of a position: number and size of the item that stands there.
use Rattle.std.specs.Prelude.{Option, Some, None}
use Rattle.stream.specs.Stream.{Position, nothing, stands}
use Rattle.line.specs.declared.Item.{Item}

abbrev pub said_at : Option Item → Position
said_at None = nothing
said_at (Some x) = stands x.number x.size
