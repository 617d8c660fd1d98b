-- Any program that reads a capture and goes by the answers of `turn`: where it came to the end, it has the report of all that was there.
use Rattle.std.specs.Prelude.{ℕ, suc, ◌≤◌, min, ◌≡◌, refl, List, [], ◌∷◌, length, take, pos, Option, Some}
use Rattle.std.proofs.Common.{sym, ap, ◌∙◌, arith}
use Rattle.refusal.specs.Test.{clash}
use Rattle.refusal.specs.declared.Refusal.{Refusal}
use Rattle.stream.specs.Stream.{whole}
use Rattle.season.specs.declared.Corridor.{Corridor}
use Rattle.season.specs.declared.Boundaries.{Boundaries}
use Rattle.report.specs.Report.{reported}
use Rattle.by_parts.specs.declared.Stage.{Stage}
use Rattle.by_parts.specs.declared.Stage.TheVariants.{Fresh, Of, Refused}
use Rattle.by_parts.specs.declared.SoFar.{SoFar}
use Rattle.by_parts.specs.declared.Turned.{Turned}
use Rattle.by_parts.specs.declared.Turned.TheVariants.{Goes, Ended}
use Rattle.by_parts.specs.Parts.{begun, parted, parted_all, ended}
use Rattle.by_parts.specs.Turn.{turn_after, turned_to, turned}
use Rattle.by_parts.specs.Whole.{report_in_parts}

-- A run from a report on, beside the parts that are there to be read, of a byte at least, and the report with which it comes to the end. A
-- read gives a part at the front of the buffer, and may change any byte behind it. What is there and not read any more may be any parts.
pub data Run : SoFar → List (List ℕ) → SoFar → Type 0 where
  reads : {x y z : SoFar} {p : List ℕ} (buf : List ℕ) {ps : List (List ℕ)} → 1 ≤ length p → length p ≤ length buf → take (length p) buf ≡ p
      → turned x (pos (length p)) buf ≡ Some (Goes y) → Run y ps z → Run x (p ∷ ps) z
  tells : {x y : SoFar} {p : List ℕ} (buf : List ℕ) (ps : List (List ℕ)) → 1 ≤ length p → length p ≤ length buf → take (length p) buf ≡ p
      → turned x (pos (length p)) buf ≡ Some (Ended y) → Run x (p ∷ ps) y
  ends : {x y : SoFar} (buf : List ℕ) → turned x (pos 0) buf ≡ Some (Ended y) → Run x [] y

-- a read of some bytes takes them as the next part
read_some : (x : SoFar) (p buf : List ℕ) → 1 ≤ length p → length p ≤ length buf → take (length p) buf ≡ p → turned x (pos (length p)) buf ≡ Some (turned_to (parted x p))
read_some x [] buf h f e = absurd (omega (arith, h))
read_some x (v ∷ p) buf h f e =
    let m : min (suc (length p)) (length buf) ≡ suc (length p) = omega (arith, f) in
    ap (λ (n : ℕ). Some (turned_to (parted x (take n buf)))) m ∙ ap (λ (s : List ℕ). Some (turned_to (parted x s))) e

-- a program goes on with the report that it has; and behind a refusal no part matters
goes_on : (x : SoFar) {y : SoFar} → ◌≡◌ {A = Option Turned} (Some (turned_to x)) (Some (Goes y)) → x ≡ y
goes_on x {y} e = go x.stage e
  where
    go : (t : Stage) → ◌≡◌ {A = Option Turned} (Some (turn_after t x)) (Some (Goes y)) → x ≡ y
    go Fresh f = cc
    go (Of l) f = cc
    go (Refused k) f = clash (cc)

refused_stays : (x : SoFar) (ps : List (List ℕ)) {k : Refusal} → x.stage ≡ Refused k → parted_all x ps ≡ x
unfolding parted_all parted
refused_stays x [] e = refl
refused_stays x (p ∷ ps) e = ap (λ (y : SoFar). parted_all y ps) (rw e) ∙ refused_stays x ps e

ended_stays : (x : SoFar) (ps : List (List ℕ)) {y : SoFar} → ◌≡◌ {A = Option Turned} (Some (turned_to x)) (Some (Ended y)) → parted_all x ps ≡ y
ended_stays x ps {y} e = go x.stage refl e
  where
    go : (t : Stage) → x.stage ≡ t → ◌≡◌ {A = Option Turned} (Some (turn_after t x)) (Some (Ended y)) → parted_all x ps ≡ y
    go Fresh q f = clash (cc)
    go (Of l) q f = clash (cc)
    go (Refused k) q f = let z : x ≡ y = cc in refused_stays x ps q ∙ z

pub run_takes : {x z : SoFar} {ps : List (List ℕ)} → Run x ps z → z ≡ parted_all x ps
unfolding parted_all
run_takes (reads {x} {y} {z} {p} buf {ps} h f e q r) =
    run_takes r ∙ ap (λ (s : SoFar). parted_all s ps) (sym (goes_on (parted x p) (sym (read_some x p buf h f e) ∙ q)))
run_takes (tells {x} {y} {p} buf ps h f e q) = sym (ended_stays (parted x p) ps (sym (read_some x p buf h f e) ∙ q))
run_takes (ends {x} {y} buf q) = cc

-- THE REPORT OF A PROGRAM is that of all parts put together
pub run_reports : (c : Corridor) (b : Boundaries) {z : SoFar} {ps : List (List ℕ)} → Run (begun c b) ps z
    → ended z ≡ reported (whole ps) (length (whole ps)) c b
run_reports c b {z} {ps} r = ap ended (run_takes r) ∙ report_in_parts c b ps
