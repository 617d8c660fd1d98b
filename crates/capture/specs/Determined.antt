-- What is said of a step tells the answers apart, so that its contract leaves no choice (of the other answers crate refusal has it).
use Rattle.std.specs.Prelude.{Result, Ok, Err, ◌≡◌}
use Rattle.std.proofs.Common.{ap}
use Rattle.refusal.specs.Refusals.{number_one}
use Rattle.refusal.specs.Answer.{said_of, full_one}
use Rattle.refusal.specs.declared.Refusal.{Refusal}
use Rattle.record.specs.Record.{said_stored}
use Rattle.record.specs.Determined.{stored_one}
use Rattle.record.specs.declared.Stored.{Stored}

pub step_one : (x y : Result Stored Refusal) → said_of said_stored x ≡ said_of said_stored y → x ≡ y
step_one (Ok x) (Ok y) e = ap Ok (stored_one x y (full_one e))
step_one (Ok x) (Err k) e = cc
step_one (Err j) (Ok y) e = cc
step_one (Err j) (Err k) e = ap Err (number_one j k (cc))
