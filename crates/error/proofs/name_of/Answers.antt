use Rattle.std.proofs.Common.{sym, ap, ◌∙◌, refl, eq-eqb, ne_eqb, drop_of_length-le}
use Rattle.std.specs.Prelude.{ℕ, List, get_or}
use Rattle.error.specs.Error.{look, name_of, table}
use Rattle.error.proofs.Table.{turn}
use Rattle.error.proofs.name_of.Goals as goal

pub loop-c-init : goal.loop-c-init
unfolding name_of
loop-c-init c = refl

pub returns-then-c-code : goal.returns-then-c-code
returns-then-c-code c = rw (eq-eqb (get_or table c.loop-c.c-index (0, 0)).0 c.args.code c.if-c-code.true) at (sym (turn table c.loop-c.c-index c.args.code c.loop-c-test.true)) ∙ c.loop-c.invariant

pub loop-c-preserved : goal.loop-c-preserved
loop-c-preserved c = rw (ne_eqb (get_or table c.loop-c.c-index (0, 0)).0 c.args.code c.if-c-code.false) at (sym (turn table c.loop-c.c-index c.args.code c.loop-c-test.true)) ∙ c.loop-c.invariant

pub returns : goal.returns
unfolding look
returns c = ap (λ (l : List (ℕ × ℕ)). look l c.args.code) (sym (drop_of_length-le table c.loop-c-test.false)) ∙ c.loop-c.invariant
