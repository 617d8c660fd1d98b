use Rattle.clock_rows.specs.Lines.{no_byte, return_last, other_last}
use Rattle.clock_rows.proofs.length_of.Goals.{else-n-ne0-via-then-n-ne0+else-l-n-eq13, else-n-ne0-via-else-n-ne0}
use Rattle.std.proofs.Common.{arith}
use Rattle.clock_rows.proofs.length_of.Goals as goal

pub returns-then-l-n-eq13 : goal.returns-then-l-n-eq13
returns-then-l-n-eq13 c = return_last _ c.if-l-n-eq13.true

pub returns-else-n-ne0 : goal.returns-else-n-ne0
returns-else-n-ne0 c =
    elim c.else-n-ne0.branch [
      | else-n-ne0-via-then-n-ne0+else-l-n-eq13 w ↦ other_last _ w.if-l-n-eq13.false
      | else-n-ne0-via-else-n-ne0 w ↦ no_byte _ (omega (arith, w.if-n-ne0.false))
    ]
