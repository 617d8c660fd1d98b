use Rattle.std.proofs.Common.{rules, ◌≡◌, Err}
use Rattle.append.specs.Judged.{judged_refused, judged_counts, at_refused, at_in}
use Rattle.append.proofs.append_at.Goals as goal

pub returns-in_err-kind : goal.returns-in_err-kind
returns-in_err-kind c =
    let z : c.from_residual.result ≡ Err c.in_err-kind.field-0.0 = search rules in
    rw z (at_refused _ _ _ _ _ _ (judged_refused _ _ _ _ _ _ c.in_err-kind.ensures))

pub returns-in_err-summary : goal.returns-in_err-summary
returns-in_err-summary c =
    let z : c.from_residual-in_err-summary.result ≡ Err c.in_err-summary.field-0.0 = search rules in
    rw z (at_refused _ _ _ _ _ _ (judged_counts _ _ _ _ _ _ c.in_ok-kind.ensures c.in_err-summary.ensures))

pub returns : goal.returns
returns c = at_in _ _ _ _ _ _ _ _ (judged_counts _ _ _ _ _ _ c.in_ok-kind.ensures c.in_ok-summary.ensures) c.put-used.ensures
