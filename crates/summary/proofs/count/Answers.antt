use Rattle.std.proofs.Common.{rules, ◌≡◌, Err}
use Rattle.summary.specs.Counts.{up_ok, up_err, no_record_lem, no_count, counts}
use Rattle.summary.proofs.count.Goals as goal

pub returns-in_err-records : goal.returns-in_err-records
returns-in_err-records c =
    let z : c.from_residual.result ≡ Err c.in_err-records.field-0.0 = search rules in
    let u = up_err _ _ c.checked_add.ensures c.in_err-records.ensures.value in
    rw (z, u.1) (no_record_lem _ _ _ u.0)

pub returns-in_err-counts : goal.returns-in_err-counts
returns-in_err-counts c =
    let z : c.from_residual-in_err-counts.result ≡ Err c.in_err-counts.field-0.0 = search rules in
    let r = up_ok _ _ c.checked_add.ensures c.in_ok-records.ensures.value in
    let u = up_err _ _ c.checked_add-2.ensures c.in_err-counts.ensures.value in
    rw (z, u.1) (no_count _ _ _ c.slot_of-slot.ensures r.0 u.0)

pub returns : goal.returns
returns c =
    counts _ _ _ c.slot_of-slot.ensures (up_ok _ _ c.checked_add.ensures c.in_ok-records.ensures.value)
    (up_ok _ _ c.checked_add-2.ensures c.in_ok-counts.ensures.value) c.or.ensures
