use mathlib.Core.Path.{sym, ◌∙◌}
use Rattle.by_parts.specs.Found.{part_refused, part_taken, part_none, part_version, part_opened}
use Rattle.by_parts.proofs.part.Goals as goal

pub returns-then-is_empty : goal.returns-then-is_empty
returns-then-is_empty c = part_none _ _ c.in-Fresh.is (sym c.is_empty.ensures ∙ c.if-is_empty.true)

pub returns-in-Refused : goal.returns-in-Refused
returns-in-Refused c = part_refused _ _ _ c.in-Refused.is

pub returns-in-Of : goal.returns-in-Of
returns-in-Of c = c.take_in.ensures ∙ part_taken _ _ _ c.in-Of.is

pub returns-in-Err : goal.returns-in-Err
returns-in-Err c = c.stop.ensures ∙ part_version _ _ _ c.in-Fresh.is (sym c.is_empty.ensures ∙ c.if-is_empty.false) (sym c.in-Err.ensures)

pub returns-in-Ok : goal.returns-in-Ok
returns-in-Ok c = c.go_on.ensures ∙ part_opened _ _ _ c.in-Fresh.is (sym c.is_empty.ensures ∙ c.if-is_empty.false) (sym c.in-Ok.ensures)
