use mathlib.Core.Path.{sym, ap, ◌∙◌}
use lib.ListN.{length-take}
use lib.Seq.{length-take-le}
use native.Mathlib.Omega.{arith}
use Rattle.line.specs.Laws.{waits_few}
use Rattle.stream.specs.Said.{said_step}
use Rattle.reader.specs.Calls.{item_fits, wait_fits, window_fits, window_takes, resumes, resumes_not}
use Rattle.reader.proofs.resume.Goals as goal

pub join-e-requires : goal.join-e-requires
join-e-requires c = waits_few _ _ c.requires

pub slice_bounds-cut-end : goal.slice_bounds-cut-end
slice_bounds-cut-end c =
    let w = window_fits _ _ _ _ _ c.requires c.join-e.ensures in
    let f = item_fits _ _ _ _ _ (sym c.settled.ensures ∙ ap said_step c.in-Some.is) in
    sym (length-take-le _ _ (omega arith))

pub overflow_sub-step : goal.overflow_sub-step
overflow_sub-step c =
    let w = window_fits _ _ _ _ _ c.requires c.join-e.ensures in
    omega (arith, window_takes _ _ _ _ _ c.requires c.join-e.ensures _ _ _ (sym c.settled.ensures ∙ ap said_step c.in-Some.is))

pub cut-requires : goal.cut-requires
cut-requires c =
    let w = window_fits _ _ _ _ _ c.requires c.join-e.ensures in
    let f = item_fits _ _ _ _ _ (sym c.settled.ensures ∙ ap said_step c.in-Some.is) in
    (omega arith, simp length-take (omega arith), simp length-take (omega arith))

pub overflow_sub-e : goal.overflow_sub-e
overflow_sub-e c = (window_fits _ _ _ _ _ c.requires c.join-e.ensures).0

pub nothing-requires : goal.nothing-requires
nothing-requires c = wait_fits _ _ (sym c.settled.ensures ∙ ap said_step c.in-None.is)

pub returns-in-Some : goal.returns-in-Some
returns-in-Some c = resumes _ _ _ _ _ c.requires c.join-e.ensures _ _ _ _ (sym c.settled.ensures ∙ ap said_step c.in-Some.is) (rw c.cut.ensures)

pub returns-in-None : goal.returns-in-None
returns-in-None c = resumes_not _ _ _ _ _ c.requires c.join-e.ensures _ (sym c.settled.ensures ∙ ap said_step c.in-None.is) (rw c.nothing.ensures)
