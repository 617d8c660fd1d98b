-- What is known of reply data by their size: both readings refuse the same sizes.
use Rattle.std.specs.Prelude.{ℕ, ◌+◌, ◌*◌, ◌≤◌, ◌≡◌, refl, Bool, true, false, List, leb, eqb, length, get_or}
use Rattle.std.proofs.Common.{ap}
use Rattle.refusal.specs.Test.{clash}
use Rattle.refusal.specs.Answer.{refused, full, demand, demand_elim, full_one}
use Rattle.filters.specs.declared.Filters.{Filters}
use Rattle.filters.specs.Filters.{entry_size, entries_most, count_in, filters_of, entry_in, entry_of}
use Rattle.filters.specs.Laid.{sized_only}

-- filters that are read have k entries in a size of 1 + 4k
pub read_sized : (s : List ℕ) (f : Filters) → filters_of s ≡ full f
    → (length s ≡ 1 + entry_size * f.entries) × (f.entries ≤ entries_most)
read_sized s f e =
    let z = sized_only s (full (record { mode = get_or s 0 0; entries = count_in s })) e in
    let k : count_in s ≡ f.entries = ap (λ (x : Filters). x.entries) (taken s e) in
    rw k at z
  where
    taken : (s : List ℕ) {f : Filters} → filters_of s ≡ full f → record { mode = get_or s 0 0; entries = count_in s } ≡ f
    taken s =
        demand_elim (eqb (length s) (1 + entry_size * count_in s)) 11 (λ t. demand_elim (leb (count_in s) entries_most) 11 (λ u e. full_one e))

-- a size that one reading takes the other takes too, and both refuse another alike
pub entry_taken : (s : List ℕ) (i : ℕ) (f : Filters) → filters_of s ≡ full f → entry_of s i ≡ entry_in s i
entry_taken s i f = go (eqb (length s) (1 + entry_size * count_in s)) (leb (count_in s) entries_most)
  where
    x : Filters
    x = record { mode = get_or s 0 0; entries = count_in s }

    go : (t u : Bool) → demand t 11 (demand u 11 (full x)) ≡ full f → demand t 11 (demand u 11 (entry_in s i)) ≡ entry_in s i
    go true true e = refl
    go true false e = clash (cc)
    go false u e = clash (cc)

pub entry_refused : (s : List ℕ) (i k : ℕ) → filters_of s ≡ refused k → entry_of s i ≡ refused k
entry_refused s i k = go (eqb (length s) (1 + entry_size * count_in s)) (leb (count_in s) entries_most)
  where
    x : Filters
    x = record { mode = get_or s 0 0; entries = count_in s }

    go : (t u : Bool) → demand t 11 (demand u 11 (full x)) ≡ refused k → demand t 11 (demand u 11 (entry_in s i)) ≡ refused k
    go true true e = clash (cc)
    go true false e = cc
    go false u e = cc
