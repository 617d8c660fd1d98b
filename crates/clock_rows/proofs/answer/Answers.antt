use Rattle.std.proofs.Common.{rules, ◌≡◌, Some, None}
use Rattle.lent.specs.Behind.{puts_append, puts_next, puts_none}
use Rattle.refusal.specs.Answer.{said_of, told}
use Rattle.clock_day.specs.Day.{day_said}
use Rattle.clock_rows.specs.Times.{near_same, runs_near}
use Rattle.clock_rows.specs.Rows.{runs_texts, answer_texts}
use Rattle.clock_rows.proofs.answer.Goals as goal

pub runs-a-requires : goal.runs-a-requires
runs-a-requires c =
    let w = c.in-Ok-Some in
    let f : w.field-0 ≡ Some w.z = rw w.is at w.field-0-is in
    let e = rw f at (told (said_of day_said) c.args.run c.requires w.is) in
    let n = runs_near c.args.midnight c.args.line.now w.z (search rules) e in
    rw (near_same w.z n) n

pub returns-in-Ok-Some : goal.returns-in-Ok-Some
unfolding answer_texts
returns-in-Ok-Some c =
    let w = c.in-Ok-Some in
    let f : w.field-0 ≡ Some w.z = rw w.is at w.field-0-is in
    let e = rw f at (told (said_of day_said) c.args.run c.requires w.is) in
    let n = runs_near c.args.midnight c.args.line.now w.z (search rules) e in
    rw (w.is, f) (puts_append {ts = runs_texts c.args.midnight w.z} (rw (near_same w.z n) at c.runs-a.ensures) c.clock.ensures)

pub returns-in-Ok-None : goal.returns-in-Ok-None
unfolding answer_texts
returns-in-Ok-None c =
    let w = c.in-Ok-None in
    let f : w.field-0 ≡ None = rw w.is at w.field-0-is in
    rw (w.is, f) (puts_next c.word-a.ensures c.clock-in-Ok-None.ensures)

pub returns-in-Err : goal.returns-in-Err
unfolding answer_texts
returns-in-Err c = rw c.in-Err.is (puts_next c.refusal-a.ensures (puts_next c.word.ensures (puts_none _ _)))
