use mathlib.Core.Path.{sym, ap, ◌∙◌}
use borrow.Author.Rules.{rules, length_unmapped}
use native.Mathlib.Omega.{arith}
use Rattle.stream.specs.Said.{said_step}
use Rattle.reader.specs.Calls.{item_fits, front_fits, feeds, feeds_none, feeds_held}
use Rattle.reader.proofs.feed.Goals as goal

pub returns-then-n-eq0 : goal.returns-then-n-eq0
returns-then-n-eq0 c = feeds_none _ _ _ c.holds-n.ensures _ _ c.if-n-eq0.true c.begin.ensures

pub shared_ref_as_front-held : goal.shared_ref_as_front-held
shared_ref_as_front-held c = (front_fits _ _ _ c.holds-n.ensures (search (length_unmapped, rules))).0

pub cut-requires : goal.cut-requires
cut-requires c =
    let w = front_fits _ _ _ c.holds-n.ensures (search (length_unmapped, rules)) in
    let f = item_fits _ _ _ _ _ (sym c.settled.ensures ∙ ap said_step c.in-Some.is) in
    (omega arith, omega arith, omega arith)

pub returns-in-Some : goal.returns-in-Some
returns-in-Some c = feeds_held _ _ _ c.holds-n.ensures _ _ _ _ _ (sym c.settled.ensures ∙ ap said_step c.in-Some.is) (rw c.cut.ensures)

pub returns-in-None : goal.returns-in-None
returns-in-None c = feeds _ _ _ c.holds-n.ensures _ _ c.resume.ensures
