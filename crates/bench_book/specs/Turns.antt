-- Entries one by one.
use Rattle.std.specs.Prelude.{ℕ, suc, ◌+◌, ◌-◌, ◌<◌, ◌≤◌, ◌≡◌, List, [], ◌++◌, get_or}
use Rattle.std.proofs.Common.{add-one, arith}
use Rattle.bench_book.specs.Pages.{entry_texts, entries_texts}

pub entries_turn : (s ts : List ℕ) (i : ℕ) → i < 256
    → entries_texts (256 - i) i s ts ≡ entry_texts i (get_or s i 0) (get_or ts i 0) ++ entries_texts (256 - (i + 1)) (i + 1) s ts
unfolding entries_texts
entries_turn s ts i h = let e : 256 - i ≡ suc (256 - (i + 1)) = omega arith in rw (e, add-one)

pub entries_done : (s ts : List ℕ) (i : ℕ) → 256 ≤ i → entries_texts (256 - i) i s ts ≡ []
unfolding entries_texts
entries_done s ts i h = let e : 256 - i ≡ 0 = omega arith in rw e
