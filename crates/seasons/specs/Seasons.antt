-- The seasons of some records as document 02 words them, each at once and in numbers without end; and that the tally, record by record, gives
-- them, as long as they fit into 64 bits.
use Prim.Native.Nat.{ℕ, zero, suc, ◌+◌, ◌-◌, ◌≤◌}
use Rattle.std.specs.Prelude.{◌≡◌, ◌&&◌, length, get_or, leb, Option, Some, None}
use Rattle.std.proofs.Math.Path.{refl, ap}
use Rattle.std.proofs.Common.{sym, ◌∙◌, get_or-set_same, get_or-set_other, eqb-true}
use Rattle.std.proofs.Math.Bool.{Bool, true, false}
use mathlib.Core.List.{List, [], ◌∷◌}
use Rattle.std.proofs.Math.ListN.{length-set}
use Rattle.std.proofs.Math.Dec.{eqb}
use Rattle.std.proofs.lemmas.Bool.{eqb-false}
use native.Mathlib.Omega.{arith}
use Rattle.refusal.specs.Test.{pick, clash}
use Rattle.record.specs.Record.{Entry}
use Rattle.summary.specs.Summary.{type_of}
use Rattle.season.specs.declared.Corridor.{Corridor}
use Rattle.season.specs.declared.Boundaries.{Boundaries}
use Rattle.season.specs.declared.Season.{Season}
use Rattle.tally.specs.declared.Tally.{Tally}
use Rattle.season.specs.Season.{is_of, season_of, full64, plus, count_if, longer, with_gap, one_gap, no_events, with_event, gap_between, gap_to, gap_by}
use Rattle.tally.specs.Tally.{noted, one_more}
use Rattle.season.specs.Season.{type_occupied, type_press, type_hold}
use Rattle.tally.specs.Tally.{tallied, no_tally, seasons_in}
use Rattle.season.specs.Ways.{season_small, plus_in}

-- "occupied events (type 6), button presses (0), holds (1)": what is counted, the type of its events, and its count in a season
pub data Counted : Type 0 where
  of_occupied : Counted
  of_presses : Counted
  of_holds : Counted

abbrev pub number_of : Counted → ℕ
number_of of_occupied = type_occupied
number_of of_presses = type_press
number_of of_holds = type_hold

abbrev pub count_of : Counted → Season → ℕ
count_of of_occupied s = s.occupied
count_of of_presses s = s.presses
count_of of_holds s = s.holds

-- whether a record is an event of the corridor and of type k; and whether it is one that lies in season n
abbrev pub is_type : Corridor → ℕ → Entry → Bool
is_type c k r = is_of c r.event && eqb (type_of r) k

abbrev pub is_in : Corridor → Boundaries → ℕ → ℕ → Entry → Bool
is_in c b n k r = is_of c r.event && (eqb (season_of b r.seconds) n && eqb (type_of r) k)

-- how many records meet a test
unfoldable pub how_many : (Entry → Bool) → List Entry → ℕ
how_many p [] = 0
how_many p (r ∷ rs) = pick (p r) 1 0 + how_many p rs

-- the seconds of the corridor's occupied events, in their order
unfoldable pub occupied_at : Corridor → List Entry → List ℕ
occupied_at c [] = []
occupied_at c (r ∷ rs) = pick (is_type c type_occupied r) (r.seconds ∷ occupied_at c rs) (occupied_at c rs)

-- "from one occupied event to the next, both lying in it": the differences of neighbours that both lie in season n
unfoldable pub gaps_behind : Boundaries → ℕ → ℕ → List ℕ → List ℕ
gaps_behind b n t [] = []
gaps_behind b n t (u ∷ us) = pick (eqb (season_of b t) n && eqb (season_of b u) n) ((u - t) ∷ gaps_behind b n u us) (gaps_behind b n u us)

abbrev pub gaps_in : Boundaries → ℕ → List ℕ → List ℕ
gaps_in b n [] = []
gaps_in b n (t ∷ ts) = gaps_behind b n t ts

-- their sum, and the greatest of them, "absent" where there is none
unfoldable pub total_of : List ℕ → ℕ
total_of [] = 0
total_of (g ∷ gs) = g + total_of gs

unfoldable pub greatest : ℕ → List ℕ → ℕ
greatest l [] = l
greatest l (g ∷ gs) = greatest (pick (leb l g) g l) gs

abbrev pub longest_of : List ℕ → Option ℕ
longest_of [] = None
longest_of (g ∷ gs) = Some (greatest g gs)

-- SEASON n of some records
abbrev pub season_is : Corridor → Boundaries → List Entry → ℕ → Season
season_is c b rs n =
    record {
      occupied = how_many (is_in c b n type_occupied) rs;
      presses = how_many (is_in c b n type_press) rs;
      holds = how_many (is_in c b n type_hold) rs;
      longest = longest_of (gaps_in b n (occupied_at c rs));
      total = total_of (gaps_in b n (occupied_at c rs));
      gaps = length (gaps_in b n (occupied_at c rs));
    }

-- ONE SEASON OF A TALLY
abbrev pub at : ℕ → Tally → Season
at n x = get_or x.seasons n no_events

-- there are four of them, and stay so
abbrev pub Four : Tally → Type 0
Four x = length x.seasons ≡ 4

module _ (c : Corridor) (b : Boundaries) where
  -- the tally with a record more
  abbrev pub with : Tally → Entry → Tally
  with x r = one_more c b x r.seconds r.event

  pub four_stay : (x : Tally) (r : Entry) → Four x → Four (with x r)
  unfolding one_more noted
  four_stay x r h = go (is_of c r.event)
    where
      go : (t : Bool) → Four (pick t (noted b x r.seconds (type_of r)) x)
      go true = simp length-set h
      go false = h

  -- a season changes where the record is of the corridor and lies in it
  abbrev lies : ℕ → Entry → Bool
  lies n r = is_of c r.event && eqb (season_of b r.seconds) n

  season_step : (n : ℕ) (x : Tally) (r : Entry) → Four x
      → at n (with x r) ≡ pick (lies n r) (with_event (at n x) (type_of r) (gap_by b x.last r.seconds (type_of r))) (at n x)
  unfolding one_more noted
  season_step n x r h = go (is_of c r.event) (eqb (season_of b r.seconds) n) refl
    where
      m : ℕ
      m = season_of b r.seconds

      s : Season
      s = with_event (at m x) (type_of r) (gap_by b x.last r.seconds (type_of r))

      go : (t e : Bool) → eqb m n ≡ e → at n (pick t (noted b x r.seconds (type_of r)) x)
          ≡ pick (t && e) (with_event (at n x) (type_of r) (gap_by b x.last r.seconds (type_of r))) (at n x)
      go false e q = refl
      go true true q = let z : m ≡ n = eqb-true m n q in rw (← z) (get_or-set_same x.seasons m s no_events (omega (arith, h, season_small b r.seconds)))
      go true false q = get_or-set_other x.seasons m n s no_events (λ z. eqb-false m n q (sym z))

  -- COUNTS. One record more raises a season's count where it is one of those that are counted, and lies in it
  count_step : (k : Counted) (n : ℕ) (x : Tally) (r : Entry) → Four x → count_of k (at n (with x r)) ≡ count_if (is_in c b n (number_of k) r) (count_of k (at n x))
  unfolding with_event
  count_step k n x r h = ap (count_of k) (season_step n x r h) ∙ go k (is_of c r.event) (eqb (season_of b r.seconds) n)
    where
      gap : Option ℕ
      gap = gap_by b x.last r.seconds (type_of r)

      go : (k : Counted) (t e : Bool) → count_of k (pick (t && e) (with_event (at n x) (type_of r) gap) (at n x))
          ≡ count_if (t && (e && eqb (type_of r) (number_of k))) (count_of k (at n x))
      go k false e = refl
      go k true false = refl
      go of_occupied true true = refl
      go of_presses true true = refl
      go of_holds true true = refl

  counts_are : (k : Counted) (n : ℕ) (x : Tally) (rs : List Entry) → Four x → count_of k (at n x) + how_many (is_in c b n (number_of k)) rs ≤ full64
      → count_of k (at n (tallied c b x rs)) ≡ count_of k (at n x) + how_many (is_in c b n (number_of k)) rs
  unfolding tallied how_many
  counts_are k n x [] h l = omega arith
  counts_are k n x (r ∷ rs) h l = go (is_in c b n (number_of k) r) (count_step k n x r h) l (counts_are k n (with x r) rs (four_stay x r h))
    where
      p : Entry → Bool
      p = is_in c b n (number_of k)

      v : ℕ
      v = count_of k (at n x)

      y : Tally
      y = with x r

      go : (t : Bool) → count_of k (at n y) ≡ count_if t v → v + (pick t 1 0 + how_many p rs) ≤ full64
          → (count_of k (at n y) + how_many p rs ≤ full64 → count_of k (at n (tallied c b y rs)) ≡ count_of k (at n y) + how_many p rs)
          → count_of k (at n (tallied c b y rs)) ≡ v + (pick t 1 0 + how_many p rs)
      go true e l again =
          let f : count_of k (at n y) ≡ v + 1 = e ∙ sym (plus_in v 1 (omega arith)) in
          again (omega arith) ∙ omega arith
      go false e l again = again (omega arith) ∙ omega arith

  -- GAPS. The gap that a record ends in season n, where the last occupied event was this one
  abbrev gap_of : ℕ → Option ℕ → Entry → Option ℕ
  gap_of n last r = pick (lies n r) (gap_by b last r.seconds (type_of r)) None

  -- some gaps onto what a season holds of them
  unfoldable onto : {H : Type 0} → (H → Option ℕ → H) → H → List ℕ → H
  onto f v [] = v
  onto f v (g ∷ gs) = onto f (f v (Some g)) gs

  -- those of some occupied events behind the last one
  abbrev since : ℕ → Option ℕ → List ℕ → List ℕ
  since n None ts = gaps_in b n ts
  since n (Some t) ts = gaps_behind b n t ts

  last_step : (x : Tally) (r : Entry) → (with x r).last ≡ pick (is_type c type_occupied r) (Some r.seconds) x.last
  unfolding one_more noted
  last_step x r = go (is_of c r.event)
    where
      go : (t : Bool) → (pick t (noted b x r.seconds (type_of r)) x).last ≡ pick (t && eqb (type_of r) type_occupied) (Some r.seconds) x.last
      go true = refl
      go false = refl

  -- no gap where the record is no occupied event
  no_gap : (n : ℕ) (last : Option ℕ) (r : Entry) → is_type c type_occupied r ≡ false → gap_of n last r ≡ None
  no_gap n last r h = go (is_of c r.event) (eqb (type_of r) type_occupied) (eqb (season_of b r.seconds) n) h
    where
      go : (t k e : Bool) → t && k ≡ false → pick (t && e) (pick k (gap_to b last r.seconds) None) None ≡ None
      go false k e h = refl
      go true false true h = refl
      go true false false h = refl
      go true true e h = clash (cc)

  -- and where it is one, the gap from the last where both lie in the season
  first_gap : (n : ℕ) (r : Entry) → gap_of n None r ≡ None
  first_gap n r = go (lies n r) (eqb (type_of r) type_occupied)
    where
      go : (e k : Bool) → ◌≡◌ {A = Option ℕ} (pick e (pick k None None) None) None
      go false k = refl
      go true true = refl
      go true false = refl

  next_gap : (n l : ℕ) (r : Entry) → is_type c type_occupied r ≡ true
      → gap_of n (Some l) r ≡ pick (eqb (season_of b l) n && eqb (season_of b r.seconds) n) (Some (r.seconds - l)) None
  unfolding gap_between
  next_gap n l r h = go (is_of c r.event) (eqb (type_of r) type_occupied) (eqb (season_of b r.seconds) n) refl h
    where
      m : ℕ
      m = season_of b r.seconds

      g : Option ℕ
      g = Some (r.seconds - l)

      none : (e : Bool) → None ≡ pick (e && false) g None
      none true = refl
      none false = refl

      some : (e : Bool) → pick e g None ≡ pick (e && true) g None
      some true = refl
      some false = refl

      go : (t k e : Bool) → eqb m n ≡ e → t && k ≡ true
          → pick (t && e) (pick k (pick (eqb (season_of b l) m) g None) None) None ≡ pick (eqb (season_of b l) n && e) g None
      go false k e q h = clash (cc)
      go true false e q h = clash (cc)
      go true true false q h = none (eqb (season_of b l) n)
      go true true true q h = let z : m ≡ n = eqb-true m n q in rw z (some (eqb (season_of b l) n))

  -- WHAT A SEASON HOLDS OF GAPS: a value that each gap changes by f. By one record, and by all that are left
  module _ {H : Type 0} (f : H → Option ℕ → H) (val : Season → H) (n : ℕ) (none : (v : H) → f v None ≡ v)
      (by : (s : Season) (k : ℕ) (g : Option ℕ) → val (with_event s k g) ≡ f (val s) g) where
    gap_step : (x : Tally) (r : Entry) → Four x → val (at n (with x r)) ≡ f (val (at n x)) (gap_of n x.last r)
    gap_step x r h = ap val (season_step n x r h) ∙ go (lies n r)
      where
        g : Option ℕ
        g = gap_by b x.last r.seconds (type_of r)

        go : (t : Bool) → val (pick t (with_event (at n x) (type_of r) g) (at n x)) ≡ f (val (at n x)) (pick t g None)
        go true = by (at n x) (type_of r) g
        go false = sym (none (val (at n x)))

    gaps_next : (x : Tally) (r : Entry) (rs : List Entry) → Four x
        → val (at n (tallied c b (with x r) rs)) ≡ onto f (val (at n (with x r))) (since n (with x r).last (occupied_at c rs))
        → val (at n (tallied c b x (r ∷ rs))) ≡ onto f (val (at n x)) (since n x.last (occupied_at c (r ∷ rs)))
    unfolding tallied occupied_at onto gaps_behind
    gaps_next x r rs h again = go (is_type c type_occupied r) refl x.last refl
      where
        y : Tally
        y = with x r

        t : ℕ
        t = r.seconds

        ts : List ℕ
        ts = occupied_at c rs

        v : H
        v = val (at n x)

        onwards : {l : Option ℕ} {w : H} → y.last ≡ l → val (at n y) ≡ w → val (at n (tallied c b y rs)) ≡ onto f w (since n l ts)
        onwards {l} {w} p q = again ∙ ap (λ (z : H). onto f z (since n y.last ts)) q ∙ ap (λ (z : Option ℕ). onto f w (since n z ts)) p

        ends : (e : Bool) (g : ℕ) → y.last ≡ Some t → val (at n y) ≡ f v (pick e (Some g) None)
            → val (at n (tallied c b y rs)) ≡ onto f v (pick e (g ∷ gaps_behind b n t ts) (gaps_behind b n t ts))
        ends true g p q = onwards p q
        ends false g p q = onwards p (q ∙ none v)

        go : (i : Bool) → is_type c type_occupied r ≡ i → (l : Option ℕ) → x.last ≡ l
            → val (at n (tallied c b y rs)) ≡ onto f v (since n l (pick i (t ∷ ts) ts))
        go false e l p = onwards {l = l} (last_step x r ∙ rw e p) (gap_step x r h ∙ ap (f v) (no_gap n x.last r e) ∙ none v)
        go true e None p =
            onwards {l = Some t} (last_step x r ∙ rw e) (gap_step x r h ∙ ap (λ (l : Option ℕ). f v (gap_of n l r)) p ∙ ap (f v) (first_gap n r) ∙ none v)
        go true e (Some l) p =
            ends (eqb (season_of b l) n && eqb (season_of b t) n) (t - l) (last_step x r ∙ rw e)
            (gap_step x r h ∙ ap (λ (l : Option ℕ). f v (gap_of n l r)) p ∙ ap (f v) (next_gap n l r e))

    gaps_are : (x : Tally) (rs : List Entry) → Four x → val (at n (tallied c b x rs)) ≡ onto f (val (at n x)) (since n x.last (occupied_at c rs))
    unfolding tallied occupied_at onto gaps_behind
    gaps_are x [] h = go x.last
      where
        go : (l : Option ℕ) → val (at n x) ≡ onto f (val (at n x)) (since n l [])
        go None = refl
        go (Some t) = refl
    gaps_are x (r ∷ rs) h = gaps_next x r rs h (gaps_are (with x r) rs (four_stay x r h))

  -- total, number and longest of some gaps, one by one
  onto_total : (v : ℕ) (gs : List ℕ) → v + total_of gs ≤ full64 → onto with_gap v gs ≡ v + total_of gs
  unfolding onto total_of
  onto_total v [] h = omega arith
  onto_total v (g ∷ gs) h =
      let e : v + g ≡ plus v g = plus_in v g (omega arith) in
      onto_total (plus v g) gs (omega arith) ∙ omega arith

  onto_number : (v : ℕ) (gs : List ℕ) → v + length gs ≤ full64 → onto one_gap v gs ≡ v + length gs
  unfolding onto
  onto_number v [] h = omega arith
  onto_number v (g ∷ gs) h =
      let e : v + 1 ≡ plus v 1 = plus_in v 1 (omega arith) in
      onto_number (plus v 1) gs (omega arith) ∙ omega arith

  onto_longer : (l : ℕ) (gs : List ℕ) → onto longer (Some l) gs ≡ Some (greatest l gs)
  unfolding onto greatest
  onto_longer l [] = refl
  onto_longer l (g ∷ gs) = onto_longer (pick (leb l g) g l) gs

  onto_longest : (gs : List ℕ) → onto longer None gs ≡ longest_of gs
  unfolding onto
  onto_longest [] = refl
  onto_longest (g ∷ gs) = onto_longer g gs

pub four_seasons : (c : Corridor) (b : Boundaries) (x : Tally) (rs : List Entry) → Four x → Four (tallied c b x rs)
unfolding tallied
four_seasons c b x [] h = h
four_seasons c b x (r ∷ rs) h = four_seasons c b (with c b x r) rs (four_stay c b x r h)

-- HOW MANY THERE CAN BE: no more events than records, no more gaps than events
pub many_most : (p : Entry → Bool) (rs : List Entry) → how_many p rs ≤ length rs
unfolding how_many
many_most p [] = omega arith
many_most p (r ∷ rs) = go (p r) (many_most p rs)
  where
    go : (t : Bool) → how_many p rs ≤ length rs → pick t 1 0 + how_many p rs ≤ suc (length rs)
    go true h = omega arith
    go false h = omega arith

occupied_most : (c : Corridor) (rs : List Entry) → length (occupied_at c rs) ≤ length rs
unfolding occupied_at
occupied_most c [] = omega arith
occupied_most c (r ∷ rs) = go (is_type c type_occupied r) (occupied_most c rs)
  where
    go : (t : Bool) → length (occupied_at c rs) ≤ length rs → length (pick t (r.seconds ∷ occupied_at c rs) (occupied_at c rs)) ≤ suc (length rs)
    go true h = omega arith
    go false h = omega arith

behind_most : (b : Boundaries) (n t : ℕ) (ts : List ℕ) → length (gaps_behind b n t ts) ≤ length ts
unfolding gaps_behind
behind_most b n t [] = omega arith
behind_most b n t (u ∷ us) = go (eqb (season_of b t) n && eqb (season_of b u) n) (behind_most b n u us)
  where
    go : (e : Bool) → length (gaps_behind b n u us) ≤ length us → length (pick e ((u - t) ∷ gaps_behind b n u us) (gaps_behind b n u us)) ≤ suc (length us)
    go true h = omega arith
    go false h = omega arith

gaps_most : (c : Corridor) (b : Boundaries) (n : ℕ) (rs : List Entry) → length (gaps_in b n (occupied_at c rs)) ≤ length rs
gaps_most c b n rs = go (occupied_at c rs) (occupied_most c rs)
  where
    go : (ts : List ℕ) → length ts ≤ length rs → length (gaps_in b n ts) ≤ length rs
    go [] h = omega arith
    go (t ∷ ts) h = omega (arith, behind_most b n t ts)

-- of nothing no season has anything
at_first_lem : (n : ℕ) → at n no_tally ≡ no_events
at_first_lem zero = refl
at_first_lem (suc zero) = refl
at_first_lem (suc (suc zero)) = refl
at_first_lem (suc (suc (suc zero))) = refl
at_first_lem (suc (suc (suc (suc n)))) = refl

-- THE TALLY OF SOME RECORDS IS DOCUMENT 02'S REPORT of them, season by season, where records and gaps fit into 64 bits
pub seasons_are : (c : Corridor) (b : Boundaries) (rs : List Entry) (n : ℕ) → length rs ≤ full64 → total_of (gaps_in b n (occupied_at c rs)) ≤ full64
    → get_or (seasons_in c b rs) n no_events ≡ season_is c b rs n
unfolding with_event
seasons_are c b rs n few fits =
    let gs : List ℕ = gaps_in b n (occupied_at c rs) in
    let z = at_first_lem n in
    let count : (k : Counted) → count_of k no_events ≡ 0 → count_of k (at n (tallied c b no_tally rs)) ≡ how_many (is_in c b n (number_of k)) rs =
    λ k e.
    let s : count_of k (at n no_tally) ≡ 0 = ap (count_of k) z ∙ e in
    counts_are c b k n no_tally rs refl (omega (arith, many_most (is_in c b n (number_of k)) rs)) ∙ omega arith in
    let o = count of_occupied refl in
    let p = count of_presses refl in
    let h = count of_holds refl in
    let l : (at n (tallied c b no_tally rs)).longest ≡ longest_of gs =
    gaps_are c b longer (λ (s : Season). s.longest) n (λ v. refl) (λ s k g. refl) no_tally rs refl
    ∙ ap (λ (s : Season). onto c b longer s.longest gs) z ∙ onto_longest c b gs in
    let t : (at n (tallied c b no_tally rs)).total ≡ total_of gs =
    gaps_are c b with_gap (λ (s : Season). s.total) n (λ v. refl) (λ s k g. refl) no_tally rs refl
    ∙ ap (λ (s : Season). onto c b with_gap s.total gs) z ∙ onto_total c b 0 gs (omega arith) ∙ omega arith in
    let g : (at n (tallied c b no_tally rs)).gaps ≡ length gs =
    gaps_are c b one_gap (λ (s : Season). s.gaps) n (λ v. refl) (λ s k g. refl) no_tally rs refl
    ∙ ap (λ (s : Season). onto c b one_gap s.gaps gs) z ∙ onto_number c b 0 gs (omega (arith, gaps_most c b n rs)) ∙ omega arith in
    λ i. record { occupied = o i; presses = p i; holds = h i; longest = l i; total = t i; gaps = g i }
