-- One turn of the search.
use Rattle.std.specs.Prelude.{ℕ, ◌+◌, ◌<◌, ◌≡◌, List, Some, eqb, length, get_or, drop}
use Rattle.std.proofs.lemmas.List.{drop_more}
use Rattle.refusal.specs.Test.{pick}
use Rattle.error.specs.Error.{look}

pub turn : (s : List (ℕ × ℕ)) (i c : ℕ) → i < length s
    → look (drop i s) c ≡ pick (eqb (get_or s i (0, 0)).0 c) (Some (get_or s i (0, 0)).1) (look (drop (i + 1) s) c)
unfolding look
turn s i c h = rw (drop_more s i (0, 0) h)
