use Rattle.std.proofs.Common.{rules, ◌≡◌, Ok, Err, sym, ◌∙◌}
use Rattle.morning.proofs.Ways.{at_capture, at_cut, at_all}
use Rattle.morning.proofs.run_at.Goals as goal

pub returns-in_err-front : goal.returns-in_err-front
returns-in_err-front c =
    let z : c.from_residual.result ≡ Err c.in_err-front.field-0.0 = search rules in
    rw z (at_capture _ _ _ _ _ _ (sym c.in_err-front.ensures))

pub returns-then-not-is_whole : goal.returns-then-not-is_whole
returns-then-not-is_whole c = at_cut _ _ _ _ _ _ (sym c.in_ok-front.ensures) (sym c.is_whole.ensures ∙ c.if-not-is_whole.true)

pub returns : goal.returns
returns c = at_all _ _ _ _ _ (Ok c.append_all.result) _ _ (sym c.in_ok-front.ensures) (sym c.is_whole.ensures ∙ c.if-not-is_whole.false) c.append_all.ensures
