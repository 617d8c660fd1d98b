-- What the code's answer says of a position, in the words of the rule: number, size and count of an item that is settled.
use Rattle.std.specs.Prelude.{Option, Some, None}
use Rattle.stream.specs.declared.Step.{Step}
use Rattle.stream.specs.Stream.{Settling, More, Settled}

abbrev pub said_step : Option Step → Settling
said_step None = More
said_step (Some x) = Settled x.number x.size x.settled
