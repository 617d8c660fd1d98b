use Rattle.std.proofs.Common.{◌+◌, ◌*◌, drop, sym, ◌∙◌, arith}
use Rattle.asked.specs.Turns.{rest_over, rest_other, rest_turn}
use Rattle.asked.proofs.number_of.Goals as goal

pub returns-then-not-is_ascii_digit : goal.returns-then-not-is_ascii_digit
returns-then-not-is_ascii_digit c =
    let l = c.loop-c in
    rest_other c.args.most l.n c.args.s.now l.c-index c.loop-c-test.true (sym c.is_ascii_digit.ensures.value ∙ c.if-not-is_ascii_digit.true) ∙ l.invariant.1

pub returns-then-from-n : goal.returns-then-from-n
returns-then-from-n c =
    let l = c.loop-c in
    let e = rest_turn c.args.most l.n c.args.s.now l.c-index c.loop-c-test.true (sym c.is_ascii_digit.ensures.value ∙ c.if-not-is_ascii_digit.false) in
    rest_over c.args.most (l.n * 10 + c.from.result) (drop (l.c-index + 1) c.args.s.now) (omega arith) ∙ sym (rw (← c.from.ensures) at e) ∙ l.invariant.1

pub loop-c-preserved : goal.loop-c-preserved
loop-c-preserved c =
    let l = c.loop-c in
    let e = rest_turn c.args.most l.n c.args.s.now l.c-index c.loop-c-test.true (sym c.is_ascii_digit.ensures.value ∙ c.if-not-is_ascii_digit.false) in
    (omega arith, rw c.from.ensures (sym e ∙ l.invariant.1))
