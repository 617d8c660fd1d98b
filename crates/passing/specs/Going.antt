-- A pass on its way: the tally of the records passed and their number, and what is left.
use Prim.Native.Nat.{ℕ, ◌+◌, ◌≤◌}
use Rattle.std.specs.Prelude.{◌≡◌, refl, drop, Option, Some}
use Rattle.std.proofs.Common.{sym, ◌∙◌, drop-drop, arith}
use Rattle.std.proofs.Math.Path.{ap}
use mathlib.Core.List.{List, [], ◌∷◌}
use Rattle.std.proofs.Math.ListN.{length}
use Rattle.event.specs.Reading.{said_event}
use Rattle.record.specs.declared.Stored.{Stored}
use Rattle.record.specs.Record.{Entry, record_size}
use Rattle.summary.specs.Summary.{last_from}
use Rattle.capture.specs.Capture.{next_at, records_from, sizes_of}
use Rattle.capture.specs.Walk.{records_next}
use Rattle.capture.specs.Says.{Stands}
use Rattle.capture.specs.Reached.{Reached, reached_starts, reached_step, reached_all}
use Rattle.season.specs.declared.Corridor.{Corridor}
use Rattle.season.specs.declared.Boundaries.{Boundaries}
use Rattle.season.specs.Season.{plus}
use Rattle.tally.specs.declared.Tally.{Tally}
use Rattle.tally.specs.Tally.{one_more, tallied}
use Rattle.passing.specs.declared.Passed.{Passed}
use Rattle.passing.specs.Passing.{passed_over}

-- records have bytes
pub few_records : (rs : List Entry) → length rs ≤ sizes_of rs
few_records [] = omega arith
few_records (r ∷ rs) = omega (arith, few_records rs)

-- at a place behind n records: what is left, tallied onto t, gives the whole, and so does its number
pub record Going (w : ℕ) (s : List ℕ) (c : Corridor) (b : Boundaries) (x : Passed) (at n : ℕ) (last : Option ℕ) (t : Tally) : Type 0 where
  pub way : Reached w s 0 x.last at last
  pub same : tallied c b t (records_from w last (drop at s)) ≡ tallied c b x.tally (records_from w x.last s)
  pub count : n + length (records_from w last (drop at s)) ≡ length (records_from w x.last s)
  pub few : n ≤ at

module _ {w : ℕ} {s : List ℕ} {c : Corridor} {b : Boundaries} {x : Passed} where
  pub going_starts : Going w s c b x 0 0 x.last x.tally
  going_starts = record { way = reached_starts (omega arith); same = refl; count = omega arith; few = omega arith }

  -- one record more
  pub going_step : {at n m : ℕ} {last : Option ℕ} {t t' : Tally} {y : Stored} → Going w s c b x at n last t → Stands (next_at w last (drop at s)) at y
      → t' ≡ one_more c b t y.seconds (said_event y.event) → m ≡ n + 1 → Going w s c b x y.next m (Some y.seconds) t'
  unfolding tallied
  going_step {at} {n} {m} {last} {t} {t'} {y} g z e q =
      let r : Entry = z.entry in
      let k : ℕ = record_size r.datagram in
      let f : t' ≡ one_more c b t r.seconds r.event = e ∙ rw (z.time, z.says) in
      let left : ℕ → List ℕ → Tally = λ u l. tallied c b (one_more c b t r.seconds r.event) (records_from w (Some u) l) in
      let next : records_from w last (drop at s) ≡ r ∷ records_from w (Some y.seconds) (drop y.next s) =
      records_next w last (drop at s) r z.is
      ∙ ap (λ (l : List ℕ). r ∷ records_from w (Some r.seconds) l) (drop-drop k at s)
      ∙ ap (λ (p : ℕ). r ∷ records_from w (Some r.seconds) (drop p s)) (sym z.next)
      ∙ ap (λ (u : ℕ). r ∷ records_from w (Some u) (drop y.next s)) (sym z.time) in
      record {
        way = reached_step g.way z;
        same =
            ap (λ (u : Tally). tallied c b u (records_from w (Some y.seconds) (drop y.next s))) f
            ∙ ap (tallied c b t) (sym next)
            ∙ g.same;
        count = omega (arith, q, g.count, ap (length {A = Entry}) next);
        few = omega (arith, q, g.few, z.next);
      }

  -- none left
  pub going_stops : {at n : ℕ} {last : Option ℕ} {t : Tally} → Going w s c b x at n last t → records_from w last (drop at s) ≡ []
      → record { passed = record { records = plus x.records n; bytes = plus x.bytes at; last = last; tally = t }; at = at } ≡ passed_over w s c b x
  unfolding tallied
  going_stops {at} {n} {last} {t} g e =
      let a = reached_all g.way e in
      let y : t ≡ tallied c b x.tally (records_from w x.last s) = ap (tallied c b t) (sym e) ∙ g.same in
      let m : n ≡ length (records_from w x.last s) = omega (arith, g.count, ap (length {A = Entry}) e) in
      let u : at ≡ sizes_of (records_from w x.last s) = omega (arith, g.way.place, ap sizes_of a) in
      let d : last ≡ last_from x.last (records_from w x.last s) = g.way.time ∙ ap (last_from x.last) (sym a) in
      λ i. record { passed = record { records = plus x.records (m i); bytes = plus x.bytes (u i); last = d i; tally = y i }; at = u i }
