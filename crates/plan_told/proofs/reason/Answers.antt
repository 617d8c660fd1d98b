use Rattle.lent.specs.Behind.{puts_next, puts_none}
use Rattle.refusal.specs.declared.Refusal.TheVariants.{TooShort, BadLead, UnknownCommand, BadLengthByte, BadLength, BadSum, BadArgument, NotAFilter, FiltersFull}
use Rattle.plan_told.specs.Told.{reason_texts}
use Rattle.plan_told.specs.Putting.{number_not}
use Rattle.plan_told.proofs.reason.Goals as goal

pub returns-in-TooShort : goal.returns-in-TooShort
unfolding reason_texts
returns-in-TooShort c = rw c.in-TooShort.is (puts_next c.word.ensures (puts_none _ _))

pub returns-in-BadLead : goal.returns-in-BadLead
unfolding reason_texts
returns-in-BadLead c = rw c.in-BadLead.is (puts_next c.word-in-BadLead.ensures (puts_none _ _))

pub returns-in-UnknownCommand : goal.returns-in-UnknownCommand
unfolding reason_texts
returns-in-UnknownCommand c = rw c.in-UnknownCommand.is c.unknown.ensures

pub returns-in-BadSum : goal.returns-in-BadSum
unfolding reason_texts
returns-in-BadSum c = rw c.in-BadSum.is c.of_sum.ensures

pub returns-in-BadArgument : goal.returns-in-BadArgument
unfolding reason_texts
returns-in-BadArgument c = rw c.in-BadArgument.is c.argument.ensures

pub returns-in-NotAFilter : goal.returns-in-NotAFilter
unfolding reason_texts
returns-in-NotAFilter c = rw c.in-NotAFilter.is c.other.ensures

pub returns-in-FiltersFull : goal.returns-in-FiltersFull
unfolding reason_texts
returns-in-FiltersFull c = rw c.in-FiltersFull.is (puts_next c.word-in-FiltersFull.ensures (puts_none _ _))

pub returns-in-BadLengthByte : goal.returns-in-BadLengthByte
unfolding reason_texts
returns-in-BadLengthByte c = rw c.in-BadLengthByte.is c.of_length.ensures

pub returns-in-BadLength : goal.returns-in-BadLength
unfolding reason_texts
returns-in-BadLength c = rw c.in-BadLength.is c.of_length-in-BadLength.ensures

pub returns-in_default : goal.returns-in_default
unfolding reason_texts
returns-in_default c =
    let d = c.in_default in
    rw (number_not _ TooShort d.not-TooShort, number_not _ BadLead d.not-BadLead, number_not _ UnknownCommand d.not-UnknownCommand, number_not _ BadLengthByte d.not-BadLengthByte, number_not _ BadLength d.not-BadLength, number_not _ BadSum d.not-BadSum, number_not _ BadArgument d.not-BadArgument, number_not _ NotAFilter d.not-NotAFilter, number_not _ FiltersFull d.not-FiltersFull)
    (puts_none _ _)
