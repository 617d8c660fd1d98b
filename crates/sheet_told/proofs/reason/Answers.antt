use Rattle.std.proofs.Common.{ne_eqb}
use Rattle.lent.specs.Behind.{puts_next, puts_none}
use Rattle.refusal.specs.Refusals.{number_of, number_one}
use Rattle.refusal.specs.declared.Refusal.TheVariants.{UnknownVersion, BadRecord, NotRising}
use Rattle.sheet_told.proofs.reason.Goals as goal

pub returns-in-UnknownVersion : goal.returns-in-UnknownVersion
returns-in-UnknownVersion c = rw c.in-UnknownVersion.is (puts_next c.word.ensures (puts_none _ _))

pub returns-in_default : goal.returns-in_default
returns-in_default c =
    let r = c.args.refusal in
    rw (
      ne_eqb (number_of r) 14 (λ e. c.in_default.not-UnknownVersion (number_one r UnknownVersion e)),
      ne_eqb (number_of r) 15 (λ e. c.in_default.not-BadRecord (number_one r BadRecord e)),
      ne_eqb (number_of r) 20 (λ e. c.in_default.not-NotRising (number_one r NotRising e)),
    )
    (puts_next (rw c.number.ensures at c.decimal.ensures) (puts_none _ _))
