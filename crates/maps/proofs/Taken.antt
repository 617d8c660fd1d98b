-- The number of a map whose bytes were taken for their size.
use Rattle.std.specs.Prelude.{ℕ, ◌≡◌, List, eqb, length}
use Rattle.std.proofs.Common.{sym}
use Rattle.refusal.specs.Answer.{full, demand, demand_elim, full_one}
use Rattle.order.specs.Order.{Order, number_in}
use Rattle.maps.specs.Maps.{map_of}

pub taken : (o : Order) (n : ℕ) (s : List ℕ) {b : List ℕ} {x : ℕ} → full b ≡ demand (eqb (length s) n) 11 (full s) → x ≡ number_in o n b → full x ≡ map_of o n s
taken o n s {b} {x} e f = demand_elim (eqb (length s) n) 11 {x = full s} {v = b} (λ t g. rw (t, f, full_one g)) (sym e)
