use borrow.Author.Rules.{rules}
use Rattle.clock_rows.specs.Lines.{no_line, end_most}
use Rattle.clock_rows.proofs.turn.Goals as goal

pub returns-then-text-from : goal.returns-then-text-from
returns-then-text-from c =
    let a = c.args in
    no_line a.midnight a.text.now a.from a.n a.out.now a.at a.err.now c.if-text-from.true

pub slice_bounds-length_of-end : goal.slice_bounds-length_of-end
slice_bounds-length_of-end c =
    let a = c.args in
    let w = end_most a.text.now a.from c.until-e.result (search rules) c.until-e.ensures in
    search rules
