-- A state that is handed back and handed in again is what it was: so parts that a program in C hands in one after the other, each with the
-- state that the call before handed back, make the report that crate by_parts makes of them.
use Rattle.std.specs.Prelude.{ℕ, ◌≡◌, refl, List, [], ◌∷◌, map, length, Option, Some, None}
use Rattle.std.proofs.Common.{sym, ap, ◌∙◌}
use Rattle.refusal.specs.Refusals.{number_of}
use Rattle.refusal.specs.Answer.{Answer}
use Rattle.stream.specs.Stream.{whole}
use Rattle.event.specs.declared.Layout.TheVariants.{Three, Two}
use Rattle.season.specs.declared.Season.{Season}
use Rattle.tally.specs.Tally.{no_tally}
use Rattle.report.specs.Report.{reported}
use Rattle.by_parts.specs.declared.Stage.{Stage}
use Rattle.by_parts.specs.declared.Stage.TheVariants.{Fresh, Of, Refused}
use Rattle.by_parts.specs.declared.SoFar.{SoFar}
use Rattle.by_parts.specs.Numbered.{refusal_is}
use Rattle.by_parts.specs.Parts.{begun, parted, parted_all, ended}
use Rattle.by_parts.specs.Whole.{report_in_parts}
use Rattle.c_capture.specs.Times.{time_in, time_is, time_no}
use Rattle.c_seasons.specs.declared.WickCorridor.{WickCorridor}
use Rattle.c_seasons.specs.declared.WickBoundaries.{WickBoundaries}
use Rattle.c_seasons.specs.declared.WickSeasons.{WickSeasons}
use Rattle.c_seasons.specs.declared.WickSeasonsState.{WickSeasonsState}
use Rattle.c_seasons.specs.Seasons.{corridor_in, boundaries_in, season_in, season_out, seasons_out}
use Rattle.c_seasons.specs.States.{stage_in, stage_no, stage_refusal, state_in, state_out}

time_back : (t : Option ℕ) → time_in (time_is t) (time_no t) ≡ t
time_back None = refl
time_back (Some n) = refl

stage_back : (s : Stage) → stage_in (stage_no s) (stage_refusal s) ≡ s
stage_back Fresh = refl
stage_back (Of Three) = refl
stage_back (Of Two) = refl
stage_back (Refused k) = ap Refused (sym (refusal_is k (number_of k) refl))

season_back : (s : Season) → season_in (season_out s) ≡ s
season_back s =
    let t = time_back s.longest in
    λ i. record { occupied = s.occupied; presses = s.presses; holds = s.holds; longest = t i; total = s.total; gaps = s.gaps }

seasons_back : (l : List Season) → map season_in (map season_out l) ≡ l
seasons_back [] = refl
seasons_back (s ∷ l) = let a = season_back s in let b = seasons_back l in λ i. a i ∷ b i

pub state_back : (x : SoFar) → state_in (state_out x) ≡ x
state_back x =
    let p = x.passed in
    let k = stage_back x.stage in
    let t = time_back p.last in
    let l = seasons_back p.tally.seasons in
    let o = time_back p.tally.last in
    λ i.
    record {
      who = x.who;
      bounds = x.bounds;
      stage = k i;
      passed = record { records = p.records; bytes = p.bytes; last = t i; tally = record { seasons = l i; last = o i } };
      held = x.held;
    }

-- the calls of a program, each with what the one before handed back
abbrev pub after_begin : WickCorridor → WickBoundaries → WickSeasonsState
after_begin c b = state_out (begun (corridor_in c) (boundaries_in b))

abbrev pub after_part : WickSeasonsState → List ℕ → WickSeasonsState
after_part w s = state_out (parted (state_in w) s)

unfoldable pub after_parts : WickSeasonsState → List (List ℕ) → WickSeasonsState
after_parts w [] = w
after_parts w (p ∷ ps) = after_parts (after_part w p) ps

abbrev pub at_end : WickSeasonsState → WickSeasons
at_end w = seasons_out (ended (state_in w)) no_tally.seasons

pub parts_are : (w : WickSeasonsState) (ps : List (List ℕ)) → state_in (after_parts w ps) ≡ parted_all (state_in w) ps
unfolding after_parts parted_all
parts_are w [] = refl
parts_are w (p ∷ ps) = parts_are (after_part w p) ps ∙ ap (λ (x : SoFar). parted_all x ps) (state_back (parted (state_in w) p))

pub calls_are : (c : WickCorridor) (b : WickBoundaries) (ps : List (List ℕ))
    → at_end (after_parts (after_begin c b) ps) ≡ seasons_out (ended (parted_all (begun (corridor_in c) (boundaries_in b)) ps)) no_tally.seasons
calls_are c b ps =
    let x : SoFar = begun (corridor_in c) (boundaries_in b) in
    ap (λ (y : SoFar). seasons_out (ended y) no_tally.seasons) (parts_are (after_begin c b) ps ∙ ap (λ (y : SoFar). parted_all y ps) (state_back x))

-- so, whatever the cut, they give the report of document 02's W-213 over all parts put together
pub report_from_c : (c : WickCorridor) (b : WickBoundaries) (ps : List (List ℕ))
    → at_end (after_parts (after_begin c b) ps) ≡ seasons_out (reported (whole ps) (length (whole ps)) (corridor_in c) (boundaries_in b)) no_tally.seasons
report_from_c c b ps = calls_are c b ps ∙ ap (λ (a : Answer (List Season)). seasons_out a no_tally.seasons) (report_in_parts (corridor_in c) (boundaries_in b) ps)
