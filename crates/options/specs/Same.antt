-- The same bytes, as `==` tells of them.
use Rattle.std.specs.Prelude.{ℕ, ◌≡◌, refl, Bool, ◌&&◌, List, [], ◌∷◌, eqb}
use Rattle.std.proofs.Common.{ap}
use Rattle.std.specs.Cmp.Lexicographic.{pointwise}
use Rattle.options.specs.Option.{is_same}

pub same_bytes : (s t : List ℕ) → pointwise eqb s t ≡ is_same s t
unfolding is_same
same_bytes [] [] = refl
same_bytes [] (d ∷ t) = refl
same_bytes (c ∷ s) [] = refl
same_bytes (c ∷ s) (d ∷ t) = ap (λ (x : Bool). eqb c d && x) (same_bytes s t)
