use mathlib.Core.Path.{sym, ◌∙◌}
use Rattle.clock_write.specs.Putting.{out_of_range_lem, no_room, written}
use Rattle.clock_write.proofs.write.Goals as goal

pub returns-then-not-in_range : goal.returns-then-not-in_range
returns-then-not-in_range c = out_of_range_lem _ _ (sym c.in_range.ensures ∙ c.if-not-in_range.true)

pub returns-then-out-offset_length : goal.returns-then-out-offset_length
returns-then-out-offset_length c = no_room _ _ (sym c.in_range.ensures ∙ c.if-not-in_range.false) (rw (← c.offset_length.ensures) c.if-out-offset_length.true)

pub returns : goal.returns
returns c = written c.args.c _ (rw (← c.offset_length.ensures) c.if-out-offset_length.false) c.put_time-days.ensures c.put_days-date.ensures c.put_date-behind.ensures (sym c.in_range.ensures ∙ c.if-not-in_range.false) c.put_offset.ensures
