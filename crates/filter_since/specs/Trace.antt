-- Document 02, W-212: an event and the requests of a plan that hide it.
use Rattle.std.specs.Prelude.{ℕ, zero, suc, Bool, ◌&&◌, List, Option, None, Some}
use Rattle.refusal.specs.Test.{pick}
use Rattle.refusal.specs.Answer.{Answer, refused, full}
use Rattle.filter_asked.specs.declared.Filter.{Filter}
use Rattle.filter_asked.specs.declared.Change.{Change}
use Rattle.filter_asked.specs.declared.Change.TheVariants.{Add as add, Clear as clear}
use Rattle.filter_asked.specs.Asked.{asked, is_named}
use Rattle.filter_plan.specs.Filters.{is_of}
use Rattle.filter_plan.specs.Plan.{request_at, requests}

-- beside the document, for good plans: since which request an event is hidden. It is hidden by one that adds its type to its address and instance, until one clears it
-- there; further ones that add it change nothing
abbrev pub concerns : ℕ → ℕ → ℕ → Filter → Bool
concerns a i t f = is_of a i f && is_named f.mask t

abbrev pub or_since : Option ℕ → ℕ → Option ℕ
or_since None k = Some k
or_since (Some j) k = Some j

abbrev pub traced : ℕ → ℕ → ℕ → ℕ → Answer Change → Option ℕ → Option ℕ
traced a i t k (refused n) s = s
traced a i t k (full (add f)) s = pick (concerns a i t f) (or_since s k) s
traced a i t k (full (clear f)) s = pick (concerns a i t f) None s

-- after the first k requests, and after all of them
unfoldable pub since_by : List ℕ → ℕ → ℕ → ℕ → ℕ → Option ℕ
since_by p a i t zero = None
since_by p a i t (suc k) = traced a i t k (asked (request_at p k)) (since_by p a i t k)

abbrev pub since_of : List ℕ → ℕ → ℕ → ℕ → Option ℕ
since_of p a i t = since_by p a i t (requests p)
