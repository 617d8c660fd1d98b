use mathlib.Core.Path.{◌∙◌}
use Rattle.by_parts.specs.Onward.{told_few}
use Rattle.by_parts.specs.Found.{resumed_left, resumed_fits, resumed_on}
use Rattle.by_parts.proofs.resume.Goals as goal

pub join-w-requires : goal.join-w-requires
join-w-requires c = told_few _ _ c.requires

pub returns-then-p-n : goal.returns-then-p-n
returns-then-p-n c = c.leave.ensures ∙ resumed_left _ _ _ _ _ _ _ c.requires c.join-w.ensures.0 c.over-p.result c.over-p.ensures c.if-p-n.true

pub slice_bounds-go_on-count : goal.slice_bounds-go_on-count
slice_bounds-go_on-count c = resumed_fits _ _ _ _ _ _ _ c.requires c.join-w.ensures.0 c.over-p.result c.over-p.ensures c.if-p-n.false

pub slice_bounds-go_on-start : goal.slice_bounds-go_on-start
slice_bounds-go_on-start c =
    resumed_fits c.args.layout c.args.x.who c.args.x.bounds c.args.x.passed c.args.held.now c.args.part.now _ c.requires c.join-w.ensures.0 c.over-p.result
    c.over-p.ensures c.if-p-n.false

pub returns : goal.returns
returns c = c.go_on.ensures ∙ resumed_on _ _ _ _ _ _ _ c.requires c.join-w.ensures.0 c.over-p.result c.over-p.ensures c.if-p-n.false
