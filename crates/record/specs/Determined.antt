-- What is said of a place tells the answers apart, so that the contract leaves no choice.
use Rattle.std.specs.Prelude.{Option, Some, None, ◌≡◌}
use Rattle.std.proofs.Common.{ap}
use Rattle.refusal.specs.Answer.{full_one}
use Rattle.event.specs.Determined.{event_one}
use Rattle.record.specs.Record.{Stood, said_stored, said_standing}
use Rattle.record.specs.declared.Stored.{Stored}

pub stored_one : (x y : Stored) → said_stored x ≡ said_stored y → x ≡ y
stored_one x y e =
    let k = event_one x.event y.event (ap (λ (s : Stood). s.event) e) in
    λ i. record { seconds = (e i).seconds; event = k i; next = (e i).next }

pub standing_one : (x y : Option Stored) → said_standing x ≡ said_standing y → x ≡ y
standing_one None None e = cc
standing_one None (Some y) e = cc
standing_one (Some x) None e = cc
standing_one (Some x) (Some y) e = ap Some (stored_one x y (full_one e))
