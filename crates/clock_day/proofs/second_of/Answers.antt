use Rattle.clock_day.specs.Seconds.{second_absent, second_later, second_earlier}
use Rattle.clock_day.proofs.second_of.Goals as goal

pub returns-in-Absent : goal.returns-in-Absent
returns-in-Absent c = second_absent c.args.c _ c.seconds_in-at.ensures.0 c.seconds_in-at.ensures.1 (cc)

pub returns-in-Later : goal.returns-in-Later
returns-in-Later c = second_later c.args.c _ c.seconds_in-at.ensures.0 c.seconds_in-at.ensures.1 c.in-Later.t _ c.in-Later.is c.seconds_in.ensures.0 c.seconds_in.ensures.1

pub returns-in-Earlier : goal.returns-in-Earlier
returns-in-Earlier c = second_earlier c.args.c _ c.seconds_in-at.ensures.0 c.seconds_in-at.ensures.1 c.in-Earlier.t _ c.in-Earlier.is c.seconds_in-in-Earlier.ensures.0 c.seconds_in-in-Earlier.ensures.1
