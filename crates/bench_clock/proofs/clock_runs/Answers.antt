use Rattle.std.proofs.Common.{ap, arith}
use Rattle.std.specs.Int.{w32}
use Rattle.std.proofs.lemmas.Int.{to_z-of_z}
use Rattle.lent.specs.Behind.{puts_next, puts_none, puts_same}
use Rattle.signed.specs.Signed.{signed_texts}
use Rattle.refusal.specs.Answer.{said_of, told}
use Rattle.clock_day.specs.Day.{day_said}
use Rattle.bench_clock.proofs.clock_runs.Goals as goal

pub returns-in-Err : goal.returns-in-Err
returns-in-Err c =
    let e = told (said_of day_said) _ c.runs.ensures c.in-Err.is in
    rw (← c.flag_in.ensures, ← c.given_in.ensures, e) (puts_next (rw (c.from.ensures, c.number.ensures) at c.decimal.ensures) (puts_none _ _))

pub returns-in-Ok-None : goal.returns-in-Ok-None
returns-in-Ok-None c =
    let e = told (said_of day_said) _ c.runs.ensures c.in-Ok-None.is in
    rw (← c.flag_in.ensures, ← c.given_in.ensures, e, c.in-Ok-None.field-0-is) (puts_next c.word.ensures (puts_none _ _))

pub returns-in-Ok-Some : goal.returns-in-Ok-Some
returns-in-Ok-Some c =
    let e = told (said_of day_said) _ c.runs.ensures c.in-Ok-Some.is in
    let t = rw (c.in-Ok-Some.is, c.in-Ok-Some.field-0-is) at c.runs.type_inv in
    let z = c.in-Ok-Some.z in
    let same = to_z-of_z w32 z (record { sfits = omega arith }) in
    rw (← c.flag_in.ensures, ← c.given_in.ensures, e, c.in-Ok-Some.field-0-is) (puts_next c.word-e.ensures (puts_same (ap signed_texts same) c.decimal-in-Ok-Some.ensures))
