use mathlib.Core.Path.{sym, ◌∙◌}
use mathlib.Core.Bool.{false}
use lib.ListN.{take}
use lib.Seq.{length-take-le}
use native.Mathlib.Omega.{arith}
use Rattle.quiet_run.specs.Laws.{scan_there}
use Rattle.quiet_turns.specs.Turning.{onward_loud}
use Rattle.quiet_turns.proofs.onward.Goals as goal

pub overflow_add-place : goal.overflow_add-place
overflow_add-place c =
    let a = c.args in
    omega (arith, scan_there false (take a.end a.buf.now) _ _ _ (sym c.scan.ensures ∙ c.in-Err.is), length-take-le a.end a.buf.now c.requires)

pub slice_bounds-loud-end : goal.slice_bounds-loud-end
slice_bounds-loud-end c =
    let a = c.args in
    omega (arith, scan_there false (take a.end a.buf.now) _ _ _ (sym c.scan.ensures ∙ c.in-Err.is), length-take-le a.end a.buf.now c.requires)

pub returns-in-Err : goal.returns-in-Err
returns-in-Err c =
    let a = c.args in
    onward_loud a.passed a.end a.buf.now _ _ _ _ (sym c.scan.ensures ∙ c.in-Err.is) c.plus-in-Err.ensures c.loud.ensures
