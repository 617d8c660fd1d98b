use Rattle.std.proofs.Common.{rules, ◌≡◌, Err, sym, ◌∙◌, arith}
use Rattle.morning.proofs.Ways.{letter_capture, letter_cut, letter_all}
use Rattle.morning.proofs.run.Goals as goal

pub returns-in_err-mark : goal.returns-in_err-mark
returns-in_err-mark c =
    let z : c.from_residual.result ≡ Err c.in_err-mark.field-0.0 = search rules in
    rw z (letter_capture _ _ _ _ _ _ (sym c.in_err-mark.ensures))

pub returns-then-not-is_whole : goal.returns-then-not-is_whole
returns-then-not-is_whole c = letter_cut _ _ _ _ _ _ (sym c.in_ok-mark.ensures) (sym c.is_whole.ensures ∙ c.if-not-is_whole.true)

pub returns : goal.returns
returns c =
    letter_all _ _ _ _ _ c.append_all-r.result _ _ (sym c.in_ok-mark.ensures) (sym c.is_whole.ensures ∙ c.if-not-is_whole.false)
    (record { byte = λ i. search rules }) (record { byte = λ i. search rules }) (omega arith) c.append_all-r.ensures
