use Rattle.clock_write.specs.Putting.{puts_later, puts_earlier}
use Rattle.clock_write.proofs.put_offset.Goals as goal

pub returns-in-Later : goal.returns-in-Later
returns-in-Later c = puts_later c.in-Later.t c.in-Later.is c.requires c.word-e.ensures c.put_time.ensures

pub returns-in-Earlier : goal.returns-in-Earlier
returns-in-Earlier c = puts_earlier c.in-Earlier.t c.in-Earlier.is c.requires c.word-e-in-Earlier.ensures c.put_time-in-Earlier.ensures
