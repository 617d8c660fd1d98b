-- The gaps of a season: which is the longest, how great their total can be, and that they are one less than the occupied events that lie in
-- it. Of times that do not fall, as a capture's do not, and of boundaries that rise.
use Rattle.std.specs.Prelude.{ℕ, zero, suc, ◌+◌, ◌-◌, ◌≤◌, ◌<◌, ◌≡◌, refl, Bool, true, false, ◌&&◌, List, [], ◌∷◌, length, get_or, leb, ltb, eqb}
use Rattle.std.proofs.Common.{◌∙◌, leb-true, leb-false, ltb-true, ltb-false, lt-ltb, le-ltb, eqb-true, ne_eqb, arith}
use Rattle.std.proofs.lemmas.Bool.{eqb-false}
use Rattle.refusal.specs.Test.{pick, both_left, both_right}
use Rattle.record.specs.Record.{Entry}
use Rattle.summary.specs.Summary.{type_of}
use Rattle.season.specs.declared.Corridor.{Corridor}
use Rattle.season.specs.declared.Boundaries.{Boundaries}
use Rattle.season.specs.Season.{is_of, rises, season_of, type_occupied}
use Rattle.seasons.specs.Seasons.{is_in, how_many, occupied_at, gaps_behind, gaps_in, total_of, greatest}

apart : (m n : ℕ) → n ≤ m → (m ≡ n → ⊥) → n < m
apart m n h k = go (ltb n m) refl
  where
    go : (t : Bool) → ltb n m ≡ t → n < m
    go true e = ltb-true n m e
    go false e = absurd (k (omega (arith, ltb-false n m e)))

-- THE GREATEST of some numbers is none below any of them, and one of them
greater : (l g : ℕ) → (l ≤ pick (leb l g) g l) × (g ≤ pick (leb l g) g l)
greater l g = go (leb l g) refl
  where
    go : (t : Bool) → leb l g ≡ t → (l ≤ pick t g l) × (g ≤ pick t g l)
    go true e = (leb-true l g e, omega arith)
    go false e = let f = leb-false l g e in (omega arith, omega arith)

pub greatest_over : (l : ℕ) (gs : List ℕ) (i : ℕ) → i ≤ length gs → get_or (l ∷ gs) i 0 ≤ greatest l gs
unfolding greatest
greatest_over l [] zero h = omega arith
greatest_over l [] (suc i) h = absurd (omega arith)
greatest_over l (g ∷ gs) zero h = omega (arith, greater l g, greatest_over (pick (leb l g) g l) gs zero (omega arith))
greatest_over l (g ∷ gs) (suc zero) h = omega (arith, greater l g, greatest_over (pick (leb l g) g l) gs zero (omega arith))
greatest_over l (g ∷ gs) (suc (suc i)) h = greatest_over (pick (leb l g) g l) gs (suc i) (omega arith)

-- the place at which it stands
pub record Stands (l : ℕ) (gs : List ℕ) : Type 0 where
  pub place : ℕ
  pub there : place ≤ length gs
  pub is : get_or (l ∷ gs) place 0 ≡ greatest l gs

stands_behind : (l g : ℕ) (gs : List ℕ) (t : Bool) → leb l g ≡ t → (p : ℕ) → p ≤ length gs → get_or (pick t g l ∷ gs) p 0 ≡ greatest (pick t g l) gs
    → Stands l (g ∷ gs)
unfolding greatest
stands_behind l g gs true e zero h q = record { place = 1; there = omega arith; is = rw e q }
stands_behind l g gs false e zero h q = record { place = 0; there = omega arith; is = rw e q }
stands_behind l g gs t e (suc p) h q = record { place = suc (suc p); there = omega arith; is = rw e q }

pub greatest_there : (l : ℕ) (gs : List ℕ) → Stands l gs
unfolding greatest
greatest_there l [] = record { place = 0; there = omega arith; is = refl }
greatest_there l (g ∷ gs) =
    let s = greatest_there (pick (leb l g) g l) gs in
    stands_behind l g gs (leb l g) refl s.place s.there s.is

-- TIMES THAT DO NOT FALL, the first not below one before
abbrev pub Rising : ℕ → List ℕ → Type 0
Rising t [] = Unit {0}
Rising t (u ∷ us) = (t ≤ u) × Rising u us

-- the last of them
abbrev pub end_of : ℕ → List ℕ → ℕ
end_of t [] = t
end_of t (u ∷ us) = end_of u us

-- gaps lie one behind the other, so that their total does not pass the last time
pub total_most : (b : Boundaries) (n t : ℕ) (ts : List ℕ) → Rising t ts → t + total_of (gaps_behind b n t ts) ≤ end_of t ts
unfolding gaps_behind total_of
total_most b n t [] h = omega arith
total_most b n t (u ∷ us) h = go (eqb (season_of b t) n && eqb (season_of b u) n) h.0 (total_most b n u us h.1)
  where
    go : (e : Bool) → t ≤ u → u + total_of (gaps_behind b n u us) ≤ end_of u us
        → t + total_of (pick e ((u - t) ∷ gaps_behind b n u us) (gaps_behind b n u us)) ≤ end_of u us
    go true l k = omega arith
    go false l k = omega arith

-- A LATER TIME LIES IN NO EARLIER SEASON
pub season_later : (b : Boundaries) (t u : ℕ) → t ≤ u → season_of b t ≤ season_of b u
unfolding season_of
season_later b t u l = go (ltb t b.first) (ltb t b.second) (ltb t b.third) refl refl refl (ltb u b.first) (ltb u b.second) (ltb u b.third) refl refl refl
  where
    go : (x y z : Bool) → ltb t b.first ≡ x → ltb t b.second ≡ y → ltb t b.third ≡ z
        → (x' y' z' : Bool) → ltb u b.first ≡ x' → ltb u b.second ≡ y' → ltb u b.third ≡ z'
        → pick x 0 (pick y 1 (pick z 2 3)) ≤ pick x' 0 (pick y' 1 (pick z' 2 3))
    go true y z e f g x' y' z' e' f' g' = omega arith
    go false y z e f g true y' z' e' f' g' = absurd (omega (arith, ltb-false t b.first e, ltb-true u b.first e'))
    go false true z e f g false true z' e' f' g' = omega arith
    go false true z e f g false false true e' f' g' = omega arith
    go false true z e f g false false false e' f' g' = omega arith
    go false false z e f g false true z' e' f' g' = absurd (omega (arith, ltb-false t b.second f, ltb-true u b.second f'))
    go false false true e f g false false true e' f' g' = omega arith
    go false false true e f g false false false e' f' g' = omega arith
    go false false false e f g false false true e' f' g' = absurd (omega (arith, ltb-false t b.third g, ltb-true u b.third g'))
    go false false false e f g false false false e' f' g' = omega arith

-- "A time equal to a boundary belongs to the later season"
pub boundary_later : (b : Boundaries) → rises b ≡ true → (season_of b b.first ≡ 1) × (season_of b b.second ≡ 2) × (season_of b b.third ≡ 3)
unfolding season_of
boundary_later b h =
    let l = ltb-true b.first b.second (both_left (ltb b.first b.second) (ltb b.second b.third) h) in
    let m = ltb-true b.second b.third (both_right (ltb b.first b.second) (ltb b.second b.third) h) in (
      rw (le-ltb b.first b.first (omega arith), lt-ltb b.first b.second l),
      rw (le-ltb b.second b.first (omega arith), le-ltb b.second b.second (omega arith), lt-ltb b.second b.third m),
      rw (le-ltb b.third b.first (omega arith), le-ltb b.third b.second (omega arith), le-ltb b.third b.third (omega arith)),
    )

-- how many times lie in a season
unfoldable pub times_in : Boundaries → ℕ → List ℕ → ℕ
times_in b n [] = 0
times_in b n (t ∷ ts) = pick (eqb (season_of b t) n) 1 0 + times_in b n ts

-- none once it is past
none_past : (b : Boundaries) (n t : ℕ) (ts : List ℕ) → n < season_of b t → Rising t ts → times_in b n ts ≡ 0
unfolding times_in
none_past b n t [] h r = refl
none_past b n t (u ∷ us) h r =
    let l = season_later b t u r.0 in
    rw (ne_eqb (season_of b u) n (λ e. absurd (omega arith)), none_past b n u us (omega arith) r.1)

-- so its gaps are as many as its times behind the first of them
behind_number : (b : Boundaries) (n t : ℕ) (ts : List ℕ) → Rising t ts → length (gaps_behind b n t ts) ≡ times_in b n ts - pick (eqb (season_of b t) n) 0 1
unfolding gaps_behind times_in
behind_number b n t [] r = go (eqb (season_of b t) n)
  where
    go : (p : Bool) → 0 ≡ 0 - pick p 0 1
    go true = refl
    go false = refl
behind_number b n t (u ∷ us) r =
    go (eqb (season_of b t) n) (eqb (season_of b u) n) refl refl (season_later b t u r.0) (λ h. none_past b n u us h r.1) (behind_number b n u us r.1)
  where
    go : (p q : Bool) → eqb (season_of b t) n ≡ p → eqb (season_of b u) n ≡ q → season_of b t ≤ season_of b u → (n < season_of b u → times_in b n us ≡ 0)
        → length (gaps_behind b n u us) ≡ times_in b n us - pick q 0 1
        → length (pick (p && q) ((u - t) ∷ gaps_behind b n u us) (gaps_behind b n u us)) ≡ pick q 1 0 + times_in b n us - pick p 0 1
    go true true e f l past again = omega arith
    go false true e f l past again = omega arith
    go false false e f l past again = omega arith
    go true false e f l past again =
        let x : season_of b t ≡ n = eqb-true (season_of b t) n e in
        let y : n < season_of b u = apart (season_of b u) n (omega arith) (eqb-false (season_of b u) n f) in
        let z = past y in
        omega arith

pub gaps_number : (b : Boundaries) (n : ℕ) (ts : List ℕ) → Rising 0 ts → length (gaps_in b n ts) ≡ times_in b n ts - 1
unfolding times_in
gaps_number b n [] r = refl
gaps_number b n (t ∷ ts) r = behind_number b n t ts r.1 ∙ go (eqb (season_of b t) n)
  where
    go : (p : Bool) → times_in b n ts - pick p 0 1 ≡ pick p 1 0 + times_in b n ts - 1
    go true = omega arith
    go false = omega arith

-- and these are the season's occupied events
pub times_counted : (c : Corridor) (b : Boundaries) (n : ℕ) (rs : List Entry) → times_in b n (occupied_at c rs) ≡ how_many (is_in c b n type_occupied) rs
unfolding times_in occupied_at how_many
times_counted c b n [] = refl
times_counted c b n (r ∷ rs) = go (is_of c r.event) (eqb (type_of r) type_occupied) (eqb (season_of b r.seconds) n) refl (times_counted c b n rs)
  where
    go : (t k e : Bool) → eqb (season_of b r.seconds) n ≡ e → times_in b n (occupied_at c rs) ≡ how_many (is_in c b n type_occupied) rs
        → times_in b n (pick (t && k) (r.seconds ∷ occupied_at c rs) (occupied_at c rs)) ≡ pick (t && (e && k)) 1 0 + how_many (is_in c b n type_occupied) rs
    go false k e q h = h ∙ omega arith
    go true true true q h = rw (q, h)
    go true true false q h = rw (q, h)
    go true false true q h = h ∙ omega arith
    go true false false q h = h ∙ omega arith
