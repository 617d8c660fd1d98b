use native.Mathlib.Omega.{arith}
use Rattle.std.proofs.Common.{length-drop}
use Rattle.led.specs.Cut.{follows, cut_length, cut_part, length_at}
use Rattle.led.proofs.part_at.Goals as goal

pub returns-in_err-left : goal.returns-in_err-left
returns-in_err-left c = rw c.from_residual.ensures (cut_length _ (simp length-drop (grind arith)))

pub returns-then-left-lt-LEAD : goal.returns-then-left-lt-LEAD
returns-then-left-lt-LEAD c = cut_length _ (simp length-drop (omega (arith, c.in_ok-left.ensures)))

pub returns-then-left-n : goal.returns-then-left-n
returns-then-left-n c =
    let a = c.args in
    let l = c.in_ok-left.ensures in
    cut_part _ (simp length-drop (omega (arith, l)))
    (omega (arith, l, length-drop a.at a.s.now, length_at a.s.now a.at _ c.high_first-n.ensures))

pub returns : goal.returns
returns c =
    let a = c.args in
    let l = c.in_ok-left.ensures in
    follows _ _ (length_at a.s.now a.at _ c.high_first-n.ensures) (simp length-drop (omega (arith, l))) (simp length-drop (omega (arith, l)))
