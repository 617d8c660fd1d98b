-- The numbers and values of document 01 tell the answers apart, so that each contract leaves no choice.
use Rattle.std.specs.Prelude.{ℕ, ◌≡◌, Result, Ok, Err}
use Rattle.std.proofs.Common.{ap}
use Rattle.refusal.specs.Refusals.{number_one}
use Rattle.refusal.specs.Answer.{Answer, refused, full_one, said_of}
use Rattle.refusal.specs.declared.Refusal.{Refusal}
use Rattle.event_type.specs.Laws.{type_one}
use Rattle.event.specs.Reading.{Told, said_event}
use Rattle.event.specs.declared.Event.{Event}

pub event_one : (x y : Event) → said_event x ≡ said_event y → x ≡ y
event_one x y e =
    let k = type_one x.kind y.kind (ap (λ (t : Told). t.kind) e) in
    λ i. record { mac = (e i).mac; target = (e i).target; kind = k i; n = (e i).n; instance = (e i).instance }

refused_one : {j k : ℕ} → ◌≡◌ {A = Answer Told} (refused j) (refused k) → j ≡ k
refused_one e = cc

pub said_event_one : (x y : Result Event Refusal) → said_of said_event x ≡ said_of said_event y → x ≡ y
said_event_one (Err r) (Err s) e = ap Err (number_one r s (refused_one e))
said_event_one (Err r) (Ok n) e = cc
said_event_one (Ok m) (Err s) e = cc
said_event_one (Ok m) (Ok n) e = ap Ok (event_one m n (full_one e))
