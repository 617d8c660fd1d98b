use Rattle.std.proofs.Common.{◌∙◌, sym, rules, arith}
use Rattle.words.specs.Places.{until_within}
use Rattle.bench_calls.specs.Rows.{same_is, place_here, place_on, place_end}
use Rattle.bench_calls.proofs.place.Goals as goal

pub slice_bounds-eq-end : goal.slice_bounds-eq-end
slice_bounds-eq-end c =
    let w = until_within 32 c.args.names.now c.loop-i.i c.until-e.result (search rules) c.until-e.ensures in
    omega arith

pub returns-then-eq : goal.returns-then-eq
returns-then-eq c =
    let l = c.loop-i in
    let s = c.args.names.now in
    omega (arith, l.invariant.1, place_here s c.args.name.now l.i c.until-e.result (search rules) c.until-e.ensures (sym (same_is _ _) ∙ sym c.eq.ensures ∙ c.if-eq.true))

pub loop-i-preserved : goal.loop-i-preserved
loop-i-preserved c =
    let l = c.loop-i in
    let s = c.args.names.now in
    let w = until_within 32 s l.i c.until-e.result (search rules) c.until-e.ensures in
    (omega arith, omega (arith, l.invariant.1, place_on s c.args.name.now l.i c.until-e.result (search rules) c.until-e.ensures (sym (same_is _ _) ∙ sym c.eq.ensures ∙ c.if-eq.false)))

pub returns : goal.returns
returns c =
    omega (arith, c.loop-i.invariant.1, place_end c.args.names.now c.args.name.now c.loop-i.i (search rules))
