use Rattle.std.proofs.Common.{rules, tests, length, ◌∙◌, sym, arith}
use Rattle.std.proofs.lemmas.Iterator.{YieldsList-from_slice, YieldsList-from_zip}
use Rattle.std.proofs.lemmas.Iterator.Search.{all_from_yields_List}
use Rattle.std.proofs.lemmas.Bool.{ne_eqb}
use Rattle.clock_text.specs.Clock.{stands}
use Rattle.clock_text.specs.Forms.{form_all, other_length}
use Rattle.clock_text.proofs.has_form.Goals as goal

pub returns-then-form-s : goal.returns-then-form-s
returns-then-form-s c =
    let f = c.args.form.now in
    let s = c.args.s.now in
    all_from_yields_List (λ p. stands p.0 p.1) c.all.new.self _ _ c.all.ensures.ran (YieldsList-from_zip (YieldsList-from_slice f cc) (YieldsList-from_slice s cc)) (λ x b q k. search (rules, tests)) ∙ form_all f s (omega (arith, c.if-form-s.true))

pub returns-else-form-s : goal.returns-else-form-s
returns-else-form-s c = ne_eqb (length c.args.form.now) (length c.args.s.now) c.if-form-s.false ∙ other_length c.args.form.now c.args.s.now (λ e. c.if-form-s.false (sym e))
