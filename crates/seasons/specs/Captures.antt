-- What a report says of a capture that a buffer of bytes holds: its seasons are document 02's, their counts add up to the corridor's, and no
-- number is too great for its 64 bits.
use Rattle.std.specs.Prelude.{ℕ, ◌+◌, ◌-◌, ◌*◌, ◌≤◌, ◌<◌, ◌≡◌, refl, Bool, true, false, List, [], ◌∷◌, length, get_or, Option, Some, None}
use Rattle.std.proofs.Common.{sym, ap, ◌∙◌, leb-true, arith}
use Rattle.refusal.specs.Test.{pick, clash}
use Rattle.refusal.specs.Answer.{Answer, refused, full, demand, demand_elim, full_one}
use Rattle.sum.specs.Bytes.{Bytes}
use Rattle.record.specs.Record.{Entry}
use Rattle.summary.specs.Summary.{not_before}
use Rattle.capture.specs.declared.Mark.{Mark}
use Rattle.capture.specs.Capture.{sizes_of, opened}
use Rattle.year.specs.Good.{Good}
use Rattle.year.specs.Whole.{records_of, width_in, Whole, whole_used, opened_whole}
use Rattle.season.specs.declared.Corridor.{Corridor}
use Rattle.season.specs.declared.Boundaries.{Boundaries}
use Rattle.season.specs.declared.Season.{Season}
use Rattle.season.specs.Season.{type_occupied, type_press, type_hold, rises, full64, no_events}
use Rattle.tally.specs.Tally.{no_tally, seasons_in}
use Rattle.seasons.specs.Seasons.{Counted, of_occupied, of_presses, of_holds, number_of, count_of, is_type, is_in, how_many, occupied_at, gaps_in, total_of, longest_of, season_is}
use Rattle.seasons.specs.Seasons.{many_most, seasons_are, four_seasons}
use Rattle.seasons.specs.Added.{counts_add}
use Rattle.seasons.specs.Gaps.{Rising, end_of, total_most, gaps_number, times_counted}
use Rattle.report.specs.Report.{on_opened, reported}

-- THE TIMES OF GOOD RECORDS do not fall, and have 32 bits: so it is with the occupied events among them
occupied_rise : (w : ℕ) (c : Corridor) (low : ℕ) (last : Option ℕ) (rs : List Entry) → ((s : ℕ) → not_before last s ≡ true → low ≤ s) → Good w last rs
    → Rising low (occupied_at c rs)
unfolding occupied_at
occupied_rise w c low last [] h g = tt
occupied_rise w c low last (r ∷ rs) h g =
    let l : low ≤ r.seconds = h r.seconds g.0.later in
    go (is_type c type_occupied r) l
    (occupied_rise w c r.seconds (Some r.seconds) rs (λ s e. leb-true r.seconds s e) g.1)
    (occupied_rise w c low (Some r.seconds) rs (λ s e. omega (arith, l, leb-true r.seconds s e)) g.1)
  where
    go : (t : Bool) → low ≤ r.seconds → Rising r.seconds (occupied_at c rs) → Rising low (occupied_at c rs)
        → Rising low (pick t (r.seconds ∷ occupied_at c rs) (occupied_at c rs))
    go true l p q = (l, p)
    go false l p q = q

occupied_end : (w : ℕ) (c : Corridor) (low : ℕ) (last : Option ℕ) (rs : List Entry) → low < 4294967296 → Good w last rs → end_of low (occupied_at c rs) < 4294967296
unfolding occupied_at
occupied_end w c low last [] h g = h
occupied_end w c low last (r ∷ rs) h g =
    go (is_type c type_occupied r) (occupied_end w c r.seconds (Some r.seconds) rs g.0.short g.1) (occupied_end w c low (Some r.seconds) rs h g.1)
  where
    go : (t : Bool) → end_of r.seconds (occupied_at c rs) < 4294967296 → end_of low (occupied_at c rs) < 4294967296
        → end_of low (pick t (r.seconds ∷ occupied_at c rs) (occupied_at c rs)) < 4294967296
    go true p q = p
    go false p q = q

-- so the gaps of a season take less than 32 bits in all
total_below : (b : Boundaries) (n : ℕ) (ts : List ℕ) → Rising 0 ts → end_of 0 ts < 4294967296 → total_of (gaps_in b n ts) < 4294967296
unfolding total_of
total_below b n [] r h = omega arith
total_below b n (t ∷ ts) r h = omega (arith, total_most b n t ts r.1)

-- a record takes six bytes at least
records_few : (rs : List Entry) → 6 * length rs ≤ sizes_of rs
records_few [] = omega arith
records_few (r ∷ rs) = omega (arith, records_few rs)

-- A REPORT THAT IS NOT REFUSED: the capture opens, the boundaries rise, and it is the seasons of the records
pub record Reports (b : List ℕ) (u : ℕ) (c : Corridor) (bounds : Boundaries) (ss : List Season) : Type 0 where
  pub mark : Mark
  pub opens : opened b u ≡ full mark
  pub rise : rises bounds ≡ true
  pub is : ss ≡ seasons_in c bounds (records_of b u)

pub reports : (b : List ℕ) (u : ℕ) (c : Corridor) (bounds : Boundaries) {ss : List Season} → reported b u c bounds ≡ full ss → Reports b u c bounds ss
unfolding reported
reports b u c bounds {ss} e = go (opened b u) refl e
  where
    go : (a : Answer Mark) → opened b u ≡ a → on_opened a (demand (rises bounds) 20 (full (seasons_in c bounds (records_of b u)))) ≡ full ss
        → Reports b u c bounds ss
    go (refused k) q x = clash (cc)
    go (full m) q x = demand_elim (rises bounds) 20 (λ h y. record { mark = m; opens = q; rise = h; is = sym (full_one y) }) x

-- of a buffer of bytes, as long as a length of 64 bits says
module _ (b : List ℕ) (u : ℕ) (c : Corridor) (bounds : Boundaries) {ss : List Season} (bytes : Bytes b) (room : length b ≤ full64)
    (e : reported b u c bounds ≡ full ss) where
  abbrev rs : List Entry
  rs = records_of b u

  whole : Whole b u rs
  whole = (opened_whole b u bytes (reports b u c bounds e).opens).0

  few : 6 * length rs < u
  few = omega (arith, records_few rs, whole_used whole)

  rise : Rising 0 (occupied_at c rs)
  rise = occupied_rise (width_in b) c 0 None rs (λ s h. omega arith) whole.good

  below : (n : ℕ) → total_of (gaps_in bounds n (occupied_at c rs)) < 4294967296
  below n = total_below bounds n (occupied_at c rs) rise (occupied_end (width_in b) c 0 None rs (omega arith) whole.good)

  -- EACH SEASON IS DOCUMENT 02'S, in numbers without end: no sum was too great for its 64 bits
  pub report_is : (n : ℕ) → get_or ss n no_events ≡ season_is c bounds (records_of b u) n
  report_is n =
      ap (λ (l : List Season). get_or l n no_events) (reports b u c bounds e).is
      ∙ seasons_are c bounds rs n (omega (arith, few, whole.there)) (omega (arith, below n))

  pub report_four : length ss ≡ 4
  report_four = ap length (reports b u c bounds e).is ∙ four_seasons c bounds no_tally rs refl

  -- since a season has no more events than the capture has records, of six bytes at least each, and its gaps lie one behind the other
  pub counts_fit : (k : Counted) (n : ℕ) → 6 * count_of k (get_or ss n no_events) < u
  counts_fit k n =
      let q = counted k in
      omega (arith, ap (count_of k) (report_is n), q, many_most (is_in c bounds n (number_of k)) rs, few)
    where
      counted : (k : Counted) → count_of k (season_is c bounds rs n) ≡ how_many (is_in c bounds n (number_of k)) rs
      counted of_occupied = refl
      counted of_presses = refl
      counted of_holds = refl

  pub total_fits : (n : ℕ) → (get_or ss n no_events).total < 4294967296
  total_fits n = omega (arith, ap (λ (s : Season). s.total) (report_is n), below n)

  -- "For each of the three the seasons' counts add up to that instance's over the whole capture"
  pub seasons_add : (k : Counted)
      → count_of k (get_or ss 0 no_events) + count_of k (get_or ss 1 no_events) + count_of k (get_or ss 2 no_events) + count_of k (get_or ss 3 no_events)
      ≡ how_many (is_type c (number_of k)) (records_of b u)
  seasons_add k =
      rw (report_is 0, report_is 1, report_is 2, report_is 3) (go k)
    where
      go : (k : Counted) → count_of k (season_is c bounds rs 0) + count_of k (season_is c bounds rs 1) + count_of k (season_is c bounds rs 2) + count_of k (season_is c bounds rs 3)
          ≡ how_many (is_type c (number_of k)) rs
      go of_occupied = counts_add c bounds type_occupied rs
      go of_presses = counts_add c bounds type_press rs
      go of_holds = counts_add c bounds type_hold rs

  -- a season has one gap less than occupied events; "absent if there are fewer than two", and only then
  pub gaps_between : (n : ℕ) → (get_or ss n no_events).gaps ≡ (get_or ss n no_events).occupied - 1
  gaps_between n =
      let g = ap (λ (s : Season). s.gaps) (report_is n) in
      let o = ap (λ (s : Season). s.occupied) (report_is n) in
      omega (arith, g, o, gaps_number bounds n (occupied_at c rs) rise, times_counted c bounds n rs)

  longest_none : (gs : List ℕ) → length gs ≡ 0 → longest_of gs ≡ None
  longest_none [] h = refl
  longest_none (g ∷ gs) h = absurd (omega arith)

  none_longest : (gs : List ℕ) → longest_of gs ≡ None → length gs ≡ 0
  none_longest [] h = refl
  none_longest (g ∷ gs) h = clash (cc)

  pub few_absent : (n : ℕ) → (get_or ss n no_events).occupied < 2 → (get_or ss n no_events).longest ≡ None
  few_absent n h =
      ap (λ (s : Season). s.longest) (report_is n)
      ∙ longest_none (gaps_in bounds n (occupied_at c rs)) (omega (arith, ap (λ (s : Season). s.gaps) (report_is n), gaps_between n))

  pub absent_few : (n : ℕ) → (get_or ss n no_events).longest ≡ None → (get_or ss n no_events).occupied < 2
  absent_few n h =
      omega
      (arith, none_longest (gaps_in bounds n (occupied_at c rs)) (sym (ap (λ (s : Season). s.longest) (report_is n)) ∙ h), ap (λ (s : Season). s.gaps) (report_is n), gaps_between n)
