use Rattle.std.proofs.Common.{sym, ◌∙◌, arith}
use Rattle.append.specs.Judged.{empty_none, empty_unknown, empty_well}
use Rattle.append.proofs.empty.Goals as goal

pub returns-then-buf-lt1 : goal.returns-then-buf-lt1
returns-then-buf-lt1 c = empty_none _ _ (omega arith)

pub returns-then-not-is_version : goal.returns-then-not-is_version
returns-then-not-is_version c = empty_unknown _ _ (omega arith) (sym c.is_version.ensures ∙ c.if-not-is_version.true)

pub returns : goal.returns
returns c = empty_well _ _ _ (omega arith) (sym c.is_version.ensures ∙ c.if-not-is_version.false) (c.keep.ensures ∙ rw c.nothing.ensures)
