use mathlib.Core.Path.{sym, ap, ◌∙◌}
use lib.Seq.{length-take-le}
use native.Mathlib.Omega.{arith}
use Rattle.stream.specs.Said.{said_step}
use Rattle.reader.specs.Calls.{item_fits, wait_fits, begins, begins_not}
use Rattle.reader.proofs.begin.Goals as goal

pub slice_bounds-cut-end : goal.slice_bounds-cut-end
slice_bounds-cut-end c =
    let known = sym c.settled.ensures ∙ ap said_step c.in-Some.is in
    let f = item_fits _ _ _ _ _ known in sym (length-take-le _ _ (omega arith))

pub cut-requires : goal.cut-requires
cut-requires c =
    let known = sym c.settled.ensures ∙ ap said_step c.in-Some.is in
    let f = item_fits _ _ _ _ _ known in (omega arith, omega arith, omega arith)

pub nothing-requires : goal.nothing-requires
nothing-requires c = wait_fits _ _ (sym c.settled.ensures ∙ ap said_step c.in-None.is)

pub returns-in-Some : goal.returns-in-Some
returns-in-Some c = begins _ _ _ _ _ _ (sym c.settled.ensures ∙ ap said_step c.in-Some.is) (rw c.cut.ensures)

pub returns-in-None : goal.returns-in-None
returns-in-None c = begins_not _ _ _ (sym c.settled.ensures ∙ ap said_step c.in-None.is) (rw c.nothing.ensures)
