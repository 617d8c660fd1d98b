-- A run of bytes, one byte after the other.
use Rattle.std.specs.Prelude.{ℕ, ◌+◌, ◌<◌, ◌≤◌, ◌≡◌, List, [], ◌∷◌, length, get_or, drop}
use Rattle.std.proofs.Common.{drop_of_length-le, drop-cons, add-one}
use Rattle.text.specs.Text.{hex_of}
use Rattle.bench_say.specs.Said.{run_of}

-- a byte more of a run, and its end
pub run_turn : (s : List ℕ) (i : ℕ) → i < length s → run_of (drop i s) ≡ (32 ∷ []) ∷ hex_of (get_or s i 0) ∷ run_of (drop (i + 1) s)
unfolding run_of
run_turn s i h = rw (add-one, drop-cons s i 0)

pub run_done : (s : List ℕ) (i : ℕ) → length s ≤ i → run_of (drop i s) ≡ []
unfolding run_of
run_done s i h = rw (drop_of_length-le s h)
