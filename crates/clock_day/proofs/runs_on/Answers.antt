use Rattle.maps.specs.Bit.{bit}
use Rattle.clock_day.specs.Day.{runs_on}
use Rattle.clock_day.proofs.runs_on.Goals as goal

pub returns : goal.returns
unfolding bit runs_on
returns c = rw c.from.ensures
