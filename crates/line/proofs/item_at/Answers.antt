use mathlib.Core.Path.{sym}
use borrow.Author.Rules.{rules}
use Rattle.line.specs.Says.{said_at_lem, none_at}
use Rattle.line.proofs.item_at.Goals as goal

pub returns-then-is_empty : goal.returns-then-is_empty
returns-then-is_empty c = sym (none_at _ _ _ (search rules))

pub returns-in-Some : goal.returns-in-Some
returns-in-Some c = rw c.in-Some.is at (said_at_lem c.args.line c.args.closed c.args.s.now c.settled.result (search rules) c.settled.ensures)

pub returns-in-None : goal.returns-in-None
returns-in-None c =
    rw c.if-closed.true (rw (c.in-None.is, c.if-closed.true) at (said_at_lem c.args.line c.args.closed c.args.s.now c.settled.result (search rules) c.settled.ensures))

pub returns-in-None-2 : goal.returns-in-None-2
returns-in-None-2 c =
    rw c.if-closed.false (rw (c.in-None-2.is, c.if-closed.false) at (said_at_lem c.args.line c.args.closed c.args.s.now c.settled.result (search rules) c.settled.ensures))
