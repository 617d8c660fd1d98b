-- A request of a plan and a wanted event, by their places.
use Rattle.std.specs.Prelude.{ℕ, ◌+◌, ◌*◌, List, leb, length, get_or}
use Rattle.refusal.specs.Test.{pick}
use Rattle.filter_plan.specs.Plan.{wants}
use Rattle.filter_since.specs.declared.Event.{Event}

-- where request k begins; the plan's end where that is before
abbrev pub request_start : List ℕ → ℕ → ℕ
request_start p k = pick (leb (8 * k) (length p)) (8 * k) (length p)

-- wanted event j; zeros behind the last
abbrev pub event_at : List ℕ → ℕ → Event
event_at w j =
    pick (leb (wants w) j) (record { address = 0; instance = 0; kind = 0 })
    (record { address = get_or w (3 * j) 0; instance = get_or w (3 * j + 1) 0; kind = get_or w (3 * j + 2) 0 })
