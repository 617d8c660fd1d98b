use Rattle.lent.specs.Behind.{puts_none}
use Rattle.filter_text.proofs.slipped.Goals as goal

pub returns-then-names : goal.returns-then-names
returns-then-names c =
    rw (← c.names.ensures, c.if-names.true) (puts_none _ _)
