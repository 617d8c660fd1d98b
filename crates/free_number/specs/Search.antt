-- The search for a free number: one turn of it, and where nothing stands under the next number.
use Rattle.std.specs.Prelude.{◌≡◌, ℕ, zero, suc, ◌-◌, ◌<◌, Bool, true, false, not, List, [], ◌∷◌, slice_set, refl}
use Rattle.std.proofs.Math.Path.{ap}
use Rattle.std.proofs.Common.{◌∙◌}
use native.Mathlib.Omega.{arith}
use Rattle.std.proofs.lemmas.Bool.{not-true, not-false}
use Rattle.refusal.specs.Test.{pick}
use Rattle.refusal.specs.Answer.{full}
use Rattle.command.specs.Command.{shape_of, is_known}
use Rattle.free_number.specs.Number.{vacant, next, entry, holds, first_free}

-- a turn: m is the number after n, and t says whether something is held under it, as the code finds it
module _ (asked : List ℕ) (n k m : ℕ) (t : Bool) (left : 0 < k) (em : m ≡ next n) (et : t ≡ holds asked m) where
  turn : first_free asked n k ≡ pick t (first_free asked m (k - 1)) (full m)
  unfolding first_free
  turn =
      let s : k ≡ suc (k - 1) = omega arith in
      ap (first_free asked n) s ∙ rw (← em, ← et)

  pub search_here : not t ≡ true → full m ≡ first_free asked n k
  search_here e = rw (turn, not-true t e)

  pub search_on : (j : ℕ) → k ≡ suc j → not t ≡ false → first_free asked m j ≡ first_free asked n k
  search_on j ej e =
      let d : k - 1 ≡ j = omega arith in
      rw (turn, not-false t e, d)

-- what stands for nothing is no known command
pub vacant_free : is_known vacant ≡ false
unfolding shape_of
vacant_free = refl

-- so a search ends with the next number where nothing stands under it
pub next_vacant : (asked : List ℕ) (n m : ℕ) → m ≡ next n → entry asked m ≡ vacant → full m ≡ first_free asked n 256
next_vacant asked n m e v = search_here asked n 256 m (holds asked m) (omega arith) e refl (ap (λ (x : ℕ). not (is_known x)) v ∙ ap not vacant_free)

-- a number that was freed
pub freed_entry : (asked : List ℕ) (n : ℕ) → entry (slice_set asked n vacant) n ≡ vacant
freed_entry [] n = refl
freed_entry (a ∷ asked) zero = refl
freed_entry (a ∷ asked) (suc n) = freed_entry asked n
