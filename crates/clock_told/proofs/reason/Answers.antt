use Rattle.clock_told.specs.Bytes.{other_number}
use Rattle.clock_told.proofs.reason.Goals as goal

pub returns-in_default : goal.returns-in_default
returns-in_default c = rw (other_number c.args.k c.in_default.not-NotAClock) c.word-in_default.ensures
