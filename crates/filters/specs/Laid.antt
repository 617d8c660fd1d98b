-- The size that filters_of takes, and that it and entry_of read what is laid out as document 01 says.
use Rattle.std.specs.Prelude.{ℕ, ◌+◌, ◌*◌, ◌/◌, ◌%◌, ◌≤◌, ◌≡◌, refl, true, List, [], ◌∷◌, ◌++◌, leb, ltb, eqb, length, get_or}
use Rattle.std.proofs.Common.{ap, ◌∙◌, length-append, get_or-append-add, eq-eqb, le-leb, lt-ltb, eqb-true, leb-true, add-zero, arith}
use Rattle.refusal.specs.Answer.{Answer, full, demand_elim}
use Rattle.order.specs.Order.{high_first, number_in, number_by}
use Rattle.filters.specs.declared.Filter.{Filter}
use Rattle.filters.specs.Filters.{count_in, sized, filters_of, entry_of}

-- "1 + 4k with k at most 15": such a size is taken, and no other
pub sized_taken : {A : Type 0} (s : List ℕ) (k : ℕ) (x : Answer A) → length s ≡ 1 + 4 * k → k ≤ 15 → sized s x ≡ x
sized_taken s k x e h =
    let c : count_in s ≡ k = omega arith in
    rw (eq-eqb (length s) (1 + 4 * count_in s) (omega arith), le-leb (count_in s) 15 (omega arith))

pub sized_only : {A : Type 0} (s : List ℕ) (x : Answer A) {v : A} → sized s x ≡ full v → (length s ≡ 1 + 4 * count_in s) × (count_in s ≤ 15)
sized_only s x =
    demand_elim (eqb (length s) (1 + 4 * count_in s)) 11
    (λ t. demand_elim (leb (count_in s) 15) 11 (λ u e. (eqb-true (length s) (1 + 4 * count_in s) t, leb-true (count_in s) 15 u)))

-- "address, instance, mask high, mask low", entry after entry
abbrev pub laid_out : List Filter → List ℕ
laid_out [] = []
laid_out (e ∷ es) = e.address ∷ e.instance ∷ e.mask / 256 ∷ e.mask % 256 ∷ laid_out es

laid_append : (p q : List Filter) → laid_out (p ++ q) ≡ laid_out p ++ laid_out q
laid_append [] q = refl
laid_append (e ∷ p) q = rw (laid_append p q)

laid_length : (m : ℕ) (es : List Filter) → length (m ∷ laid_out es) ≡ 1 + 4 * length es
laid_length m [] = refl
laid_length m (e ∷ es) = omega (arith, laid_length m es)

-- a mode byte and some entries behind it are read as that mode and that many
pub filters_laid : (m : ℕ) (es : List Filter) → length es ≤ 15
    → filters_of (m ∷ laid_out es) ≡ full (record { mode = m; entries = length es })
filters_laid m es h =
    let s : List ℕ = m ∷ laid_out es in
    let l : length s ≡ 1 + 4 * length es = laid_length m es in
    let k : count_in s ≡ length es = omega arith in
    sized_taken s (length es) (full (record { mode = m; entries = count_in s })) l h
    ∙ ap (λ (n : ℕ). full (record { mode = m; entries = n })) k

-- and each entry as it was laid out
pub entry_laid : (m : ℕ) (p : List Filter) (e : Filter) (q : List Filter) → length p + 1 + length q ≤ 15
    → entry_of (m ∷ laid_out (p ++ (e ∷ q))) (length p) ≡ full e
unfolding number_by
entry_laid m p e q h =
    let n : length (p ++ (e ∷ q)) ≡ length p + 1 + length q = omega (arith, length-append p (e ∷ q)) in
    let l : length s ≡ 1 + 4 * length (p ++ (e ∷ q)) = laid_length m (p ++ (e ∷ q)) in
    let t : ltb (length p) (count_in s) ≡ true = lt-ltb (length p) (count_in s) (omega arith) in
    sized_taken s (length (p ++ (e ∷ q))) _ l (omega arith)
    ∙ rw t (ap full (λ i. record { address = address i; instance = at 1 i; mask = mask i }))
  where
    s : List ℕ
    s = m ∷ laid_out (p ++ (e ∷ q))

    here : ℕ
    here = 1 + 4 * length p

    at : (j : ℕ) → get_or s (here + j) 0 ≡ get_or (laid_out (e ∷ q)) j 0
    at j = rw (laid_append p (e ∷ q), ← laid_length m p) (get_or-append-add (m ∷ laid_out p) (laid_out (e ∷ q)) j 0)

    address : get_or s here 0 ≡ e.address
    address = rw (← add-zero here) (at 0)

    mask : number_in high_first 2 (get_or s (here + 2) 0 ∷ get_or s (here + 3) 0 ∷ []) ≡ e.mask
    mask = omega (arith, at 2, at 3)
