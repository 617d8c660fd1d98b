-- The report told by what the code has found: the front of the capture, and the pass over its records.
use Rattle.std.specs.Prelude.{ℕ, ◌+◌, ◌-◌, ◌≤◌, ◌<◌, ◌≡◌, true, false, List, ◌++◌, take, drop}
use Rattle.std.proofs.Math.Path.{refl, ap}
use Rattle.std.proofs.Common.{sym, ◌∙◌, take-add, drop_at, length-take-le, arith}
use Rattle.refusal.specs.Answer.{refused, full}
use Rattle.event.specs.declared.Layout.{Layout}
use Rattle.event.specs.Layout.{width_of}
use Rattle.capture.specs.Capture.{front_of, walked, start, records_in}
use Rattle.capture.specs.Says.{front_used, opened_refused, opened_short, opened_open}
use Rattle.year.specs.Whole.{records_of, front_is}
use Rattle.season.specs.declared.Corridor.{Corridor}
use Rattle.season.specs.declared.Boundaries.{Boundaries}
use Rattle.season.specs.Season.{rises}
use Rattle.tally.specs.Tally.{seasons_in}
use Rattle.passing.specs.declared.Passed.{Passed}
use Rattle.passing.specs.declared.Pass.{Pass}
use Rattle.passing.specs.Passing.{none_passed, passed_over}
use Rattle.report.specs.Report.{reported}

module _ (b : List ℕ) (u : ℕ) (c : Corridor) (bounds : Boundaries) where
  pub report_front : (k : ℕ) → front_of b u ≡ refused k → refused k ≡ reported b u c bounds
  unfolding reported
  report_front k e = rw (← opened_refused b u k e)

  module _ (l : Layout) (x : Passed) (p : Pass) (e : front_of b u ≡ full l) (z : x ≡ none_passed)
      (f : p ≡ passed_over (width_of l) (take (u - 1) (drop 1 b)) c bounds x) where
    -- the bytes behind the version
    same : take (u - 1) (drop 1 b) ≡ drop 1 (take u b)
    same =
        let v = front_used b u l e in
        let n : 1 + (u - 1) ≡ u = omega (arith, v.0) in
        let t : take u b ≡ take 1 b ++ take (u - 1) (drop 1 b) = ap (λ (n : ℕ). take n b) (sym n) ∙ take-add 1 (u - 1) b in
        sym (ap (drop 1) t ∙ drop_at (take 1 b) (take (u - 1) (drop 1 b)) 1 (length-take-le 1 b (omega (arith, v.0, v.1))))

    passes : p ≡ passed_over (width_of l) (drop 1 (take u b)) c bounds none_passed
    passes = f ∙ rw (same, z)

    reaches : (walked (width_of l) (take u b) start).used ≡ 1 + p.at
    reaches = omega (arith, ap (λ (p : Pass). p.at) passes)

    pub report_short : p.at < u - 1 → refused 15 ≡ reported b u c bounds
    unfolding reported
    report_short h = rw (← opened_short b u l (walked (width_of l) (take u b) start) e refl (omega (arith, reaches)))

    pub report_level : u - 1 ≤ p.at → rises bounds ≡ false → refused 20 ≡ reported b u c bounds
    unfolding reported
    report_level h k = rw (← opened_open b u l (walked (width_of l) (take u b) start) e refl (omega (arith, reaches)), k)

    pub report_full : u - 1 ≤ p.at → rises bounds ≡ true → full p.passed.tally.seasons ≡ reported b u c bounds
    unfolding reported
    report_full h k =
        let s : p.passed.tally.seasons ≡ seasons_in c bounds (records_of b u) =
        ap (λ (x : Pass). x.passed.tally.seasons) passes
        ∙ ap (λ (l : Layout). seasons_in c bounds (records_in (width_of l) (take u b))) (front_is b u e).2 in
        rw (← opened_open b u l (walked (width_of l) (take u b) start) e refl (omega (arith, reaches)), k, s)
