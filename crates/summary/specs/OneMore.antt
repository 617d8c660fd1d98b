-- The summary of some records with one more counted is the summary of all of them, where there are few enough.
use Rattle.std.specs.Prelude.{ℕ, Option, Some, None, zero, suc, ◌+◌, ◌≤◌, ◌<◌, ◌≡◌, refl, Bool, true, false, List, [], ◌∷◌, ◌++◌, length, get_or, set, leb, eqb}
use Rattle.std.proofs.Common.{sym, ap, ◌∙◌, length-append, lt-ltb, le-ltb, leb-true, eq-eqb, ne_eqb, arith}
use Rattle.refusal.specs.Test.{pick}
use Rattle.refusal.specs.Answer.{refused, full}
use Rattle.event_type.specs.Types.{last_named}
use Rattle.record.specs.Record.{Entry}
use Rattle.summary.specs.Summary.{first_in, last_from, slot_of, type_of, how_many, counts_from, counted_in, most, first_of, raised, one_more}

pub slot_small : (k : ℕ) → slot_of k < 11
slot_small k = go (leb k last_named) refl
  where
    go : (t : Bool) → leb k last_named ≡ t → pick t k (suc last_named) < 11
    go true e = omega (arith, leb-true k last_named e)
    go false e = omega arith

pub last_snoc : (t : Option ℕ) (rs : List Entry) (r : Entry) → last_from t (rs ++ (r ∷ [])) ≡ Some r.seconds
last_snoc t [] r = refl
last_snoc t (s ∷ rs) r = last_snoc (Some s.seconds) rs r

first_snoc : (rs : List Entry) (r : Entry) → first_in (rs ++ (r ∷ [])) ≡ first_of (first_in rs) r.seconds
first_snoc [] r = refl
first_snoc (s ∷ rs) r = refl

many_snoc : (k : ℕ) (rs : List Entry) (r : Entry) → how_many k (rs ++ (r ∷ [])) ≡ how_many k rs + pick (eqb (slot_of (type_of r)) k) 1 0
unfolding how_many
many_snoc k [] r = omega arith
many_snoc k (s ∷ rs) r = omega (arith, many_snoc k rs r)

pub many_most : (k : ℕ) (rs : List Entry) → how_many k rs ≤ length rs
unfolding how_many
many_most k [] = omega arith
many_most k (r ∷ rs) = go (eqb (slot_of (type_of r)) k) (many_most k rs)
  where
    go : (t : Bool) → how_many k rs ≤ length rs → pick t 1 0 + how_many k rs ≤ suc (length rs)
    go true h = omega arith
    go false h = omega arith

-- the count at a place of n counts from i on
pub count_at_lem : (i n j : ℕ) (rs : List Entry) → j < n → get_or (counts_from i n rs) j 0 ≡ how_many (i + j) rs
unfolding counts_from
count_at_lem i zero j rs h = absurd (omega arith)
count_at_lem i (suc n) zero rs h = let e : i + 0 ≡ i = omega arith in rw e
count_at_lem i (suc n) (suc j) rs h = let e : suc i + j ≡ i + suc j = omega arith in count_at_lem (suc i) n j rs (omega arith) ∙ rw e

-- counts none of which the record raises
counts_same : (i n : ℕ) (rs : List Entry) (r : Entry) → slot_of (type_of r) < i → counts_from i n (rs ++ (r ∷ [])) ≡ counts_from i n rs
unfolding counts_from
counts_same i zero rs r h = refl
counts_same i (suc n) rs r h =
    let a : how_many i (rs ++ (r ∷ [])) ≡ how_many i rs =
    many_snoc i rs r ∙ rw (ne_eqb (slot_of (type_of r)) i (λ e. omega arith)) (omega arith) in
    rw (a, counts_same (suc i) n rs r (omega arith))

counts_snoc : (i n j : ℕ) (rs : List Entry) (r : Entry) → slot_of (type_of r) ≡ i + j → j < n
    → set (counts_from i n rs) j (get_or (counts_from i n rs) j 0 + 1) ≡ counts_from i n (rs ++ (r ∷ []))
unfolding counts_from
counts_snoc i zero j rs r e h = absurd (omega arith)
counts_snoc i (suc n) zero rs r e h =
    let a : how_many i (rs ++ (r ∷ [])) ≡ how_many i rs + 1 =
    many_snoc i rs r ∙ rw (eq-eqb (slot_of (type_of r)) i (omega arith)) in
    rw (a, counts_same (suc i) n rs r (omega arith))
counts_snoc i (suc n) (suc j) rs r e h =
    let a : how_many i (rs ++ (r ∷ [])) ≡ how_many i rs =
    many_snoc i rs r ∙ rw (ne_eqb (slot_of (type_of r)) i (λ z. omega arith)) (omega arith) in
    rw a (ap (λ (l : List ℕ). how_many i rs ∷ l) (counts_snoc (suc i) n j rs r (omega arith) (omega arith)))

-- one more
pub raised_in : (rs : List Entry) (r : Entry) → raised (counted_in rs) r.seconds (slot_of (type_of r)) ≡ counted_in (rs ++ (r ∷ []))
raised_in rs r =
    let a : length rs + 1 ≡ length (rs ++ (r ∷ [])) = omega (arith, length-append rs (r ∷ [])) in
    let b = sym (first_snoc rs r) in
    let c = sym (last_snoc None rs r) in
    let d = counts_snoc 0 11 (slot_of (type_of r)) rs r (omega arith) (slot_small (type_of r)) in
    λ i. record { records = a i; first = b i; last = c i; counts = d i }

pub count_below_lem : (rs : List Entry) (k : ℕ) → get_or (counted_in rs).counts (slot_of k) 0 ≤ length rs
count_below_lem rs k = omega (arith, count_at_lem 0 11 (slot_of k) rs (slot_small k), many_most (0 + slot_of k) rs)

pub one_more_lem : (rs : List Entry) (r : Entry) → length rs < most → one_more (counted_in rs) r.seconds (type_of r) ≡ full (counted_in (rs ++ (r ∷ [])))
unfolding one_more
one_more_lem rs r h =
    rw (
      lt-ltb (length rs) most h,
      lt-ltb (get_or (counts_from 0 11 rs) (slot_of (type_of r)) 0) most (omega (arith, count_below_lem rs (type_of r))),
      raised_in rs r,
    )

-- there are no more than fit
pub no_more : (rs : List Entry) (r : Entry) → most ≤ length rs → one_more (counted_in rs) r.seconds (type_of r) ≡ refused 8
unfolding one_more
no_more rs r h = rw (le-ltb (length rs) most h)
