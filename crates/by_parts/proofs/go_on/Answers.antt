use mathlib.Core.Path.{◌∙◌}
use Rattle.by_parts.specs.Found.{tail_is, pass_fits, on_by}
use Rattle.by_parts.proofs.go_on.Goals as goal

pub slice_bounds-leave-count : goal.slice_bounds-leave-count
slice_bounds-leave-count c = pass_fits _ _ _ _ _ c.over-p.result c.over-p.ensures

pub slice_bounds-leave-start : goal.slice_bounds-leave-start
slice_bounds-leave-start c = pass_fits c.args.layout c.args.x.who c.args.x.bounds c.args.x.passed c.args.s.now c.over-p.result c.over-p.ensures

pub returns : goal.returns
returns c = c.leave.ensures ∙ on_by _ _ _ _ _ c.over-p.result c.over-p.ensures _ (tail_is c.args.s.now c.over-p.result.at)
