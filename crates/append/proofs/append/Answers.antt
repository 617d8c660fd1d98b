use Rattle.std.proofs.Common.{rules, ◌≡◌, Ok, Err, sym}
use Rattle.append.specs.Judged.{letter_refused, letter_marked}
use Rattle.append.proofs.append.Goals as goal

pub returns-in_err-mark : goal.returns-in_err-mark
returns-in_err-mark c =
    let z : c.from_residual.result ≡ Err c.in_err-mark.field-0.0 = search rules in
    rw z (letter_refused _ _ _ _ _ _ (sym c.in_err-mark.ensures))

pub returns-in_err-kept : goal.returns-in_err-kept
returns-in_err-kept c =
    let z : c.from_residual-in_err-kept.result ≡ Err c.in_err-kept.field-0.0 = search rules in
    rw z (letter_marked _ _ _ _ _ _ (Err c.in_err-kept.field-0.0) _ (sym c.in_ok-mark.ensures) c.in_err-kept.ensures)

pub returns : goal.returns
returns c = letter_marked _ _ _ _ _ _ (Ok c.in_ok-kept.kept) _ (sym c.in_ok-mark.ensures) c.in_ok-kept.ensures
