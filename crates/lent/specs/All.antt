-- Texts put one behind the other into a lent buffer, each where it has room.
use Rattle.std.specs.Prelude.{ℕ, ◌≡◌, List, [], ◌∷◌}
use Rattle.std.proofs.Common.{sym, ◌∙◌}
use Rattle.lent.specs.Puts.{place_after, buffer_after}

-- the place behind the last text
unfoldable pub place_all : List (List ℕ) → List ℕ → ℕ → ℕ
place_all [] out at = at
place_all (t ∷ ts) out at = place_all ts (buffer_after t out at) (place_after t out at)

-- the buffer with the texts in it
unfoldable pub buffer_all : List (List ℕ) → List ℕ → ℕ → List ℕ
buffer_all [] out at = out
buffer_all (t ∷ ts) out at = buffer_all ts (buffer_after t out at) (place_after t out at)

-- the contract of every function that puts an answer: the place that it answers, and every byte of the buffer
pub record PutsAll (ts : List (List ℕ)) (out : List ℕ) (at r : ℕ) (out' : List ℕ) : Type 0 where
  pub says : r ≡ place_all ts out at
  pub leaves : out' ≡ buffer_all ts out at

-- it leaves no choice
pub puts_all_one : {ts : List (List ℕ)} {out p q : List ℕ} {at r s : ℕ} → PutsAll ts out at r p → PutsAll ts out at s q → (r ≡ s) × (p ≡ q)
puts_all_one a b = (a.says ∙ sym b.says, a.leaves ∙ sym b.leaves)
