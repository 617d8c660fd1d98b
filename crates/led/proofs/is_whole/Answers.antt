use Rattle.std.specs.Prelude.{ℕ, None, ◌+◌, ◌≤◌, ◌≡◌, List, length, drop}
use Rattle.std.proofs.Common.{sym, ◌∙◌, length-drop, arith}
use Rattle.refusal.specs.Answer.{full, told}
use Rattle.led.specs.Led.{part_at, said_part}
use Rattle.led.specs.Cut.{part_there}
use Rattle.led.proofs.Parts.{whole_next, whole_end, whole_cut}
use Rattle.led.proofs.is_whole.Goals as goal

room : (s : List ℕ) (i n : ℕ) → full n ≡ part_at (drop i s) → i + (2 + n) ≤ length s
room s i n e = omega (arith, (part_there (drop i s) n (sym e)).1, length-drop i s)

pub returns-in_default : goal.returns-in_default
returns-in_default c = sym (c.loop-i.invariant.1 ∙ whole_cut c.args.s.now c.loop-i.i 15 c.loop-i-test.true (told said_part c.part_at.result {y = None} c.part_at.ensures (cc)))

pub overflow_add-i : goal.overflow_add-i
overflow_add-i c = omega (arith, room c.args.s.now c.loop-i.i _ c.in-Some.ensures)

pub overflow_add-i-in-loop-i : goal.overflow_add-i-in-loop-i
overflow_add-i-in-loop-i c = omega (arith, room c.args.s.now c.loop-i.i _ c.in-Some.ensures)

pub loop-i-preserved : goal.loop-i-preserved
loop-i-preserved c =
    (room c.args.s.now c.loop-i.i _ c.in-Some.ensures, c.loop-i.invariant.1 ∙ whole_next c.args.s.now c.loop-i.i _ (sym c.in-Some.ensures))

pub returns : goal.returns
returns c = sym (c.loop-i.invariant.1 ∙ whole_end c.args.s.now c.loop-i.i c.loop-i-test.false)
