-- A plan gone through request by request, and one event with it.
use Prim.Native.Nat.{ℕ, suc, ◌+◌}
use Rattle.std.specs.Prelude.{◌≡◌, List, Option, None}
use Rattle.std.proofs.Common.{ap, ◌∙◌}
use native.Mathlib.Omega.{arith}
use Rattle.refusal.specs.Answer.{Answer}
use Rattle.filter_asked.specs.declared.Change.{Change}
use Rattle.filter_asked.specs.Asked.{asked}
use Rattle.filter_plan.specs.Plan.{request_at, requests}
use Rattle.filter_since.specs.Trace.{traced, since_by, since_of}

-- since which request an event is hidden, request by request
module _ (p : List ℕ) (a i t : ℕ) where
  abbrev pub Traced : ℕ → Option ℕ → Type 0
  Traced k s = s ≡ since_by p a i t k

  pub traced_first : (k : ℕ) → k ≡ 0 → Traced k None
  unfolding since_by
  traced_first k e = rw e

  pub traced_on : (k j : ℕ) (s r : Option ℕ) (v : Answer Change) → Traced k s → v ≡ asked (request_at p k) → r ≡ traced a i t k v s → j ≡ k + 1 → Traced j r
  unfolding since_by
  traced_on k j s r v is w e h =
      let q : j ≡ suc k = omega arith in
      rw q (e ∙ rw (w, is))

  pub traced_end : (k : ℕ) (s : Option ℕ) → Traced k s → k ≡ requests p → s ≡ since_of p a i t
  traced_end k s is h = is ∙ ap (since_by p a i t) h
