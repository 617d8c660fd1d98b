use mathlib.Core.Path.{sym, ◌∙◌}
use borrow.Author.Rules.{rules}
use Rattle.refusal.specs.Test.{tests}
use Rattle.line.specs.Cases.{settle_noise, extent_step}
use Rattle.line.specs.Rule.{settle}
use Rattle.line.proofs.settled.Goals as goal

pub returns-then-is_empty : goal.returns-then-is_empty
unfolding settle
returns-then-is_empty c = search (tests, rules)

pub returns-then-not-leads : goal.returns-then-not-leads
returns-then-not-leads c =
    let a = c.args in
    c.one_byte.ensures ∙ rw (settle_noise a.line a.s.now (search rules) (sym c.leads.ensures ∙ c.if-not-leads.true))

pub returns-in-Wait : goal.returns-in-Wait
returns-in-Wait c =
    extent_step _ _ _ _ (search rules) (sym c.leads.ensures ∙ c.if-not-leads.false) c.extent_of.ensures (rw c.in-Wait.is)

pub returns-in-Bad : goal.returns-in-Bad
returns-in-Bad c =
    extent_step _ _ _ _ (search rules) (sym c.leads.ensures ∙ c.if-not-leads.false) c.extent_of.ensures (rw c.in-Bad.is (cc))

pub returns-in-Frame : goal.returns-in-Frame
returns-in-Frame c =
    extent_step _ _ _ _ (search rules) (sym c.leads.ensures ∙ c.if-not-leads.false) c.extent_of.ensures (rw c.in-Frame.is c.frame.ensures)
