-- What an answer of `turn` tells.
use Rattle.std.specs.Prelude.{ℕ, zero, suc, ◌+◌, ◌≤◌, ◌≡◌, refl, false, List, ◌++◌, length, take, drop, ℤ, pos, negsuc, Ok, Err, Result}
use Rattle.std.proofs.Common.{ap, arith}
use Rattle.std.proofs.Math.Seq.{take-append_seam}
use Rattle.refusal.specs.Test.{clash}
use Rattle.lent.specs.All.{place_all, buffer_all}
use Rattle.extent.specs.declared.Line.TheVariants.{Request}
use Rattle.extent.specs.Line.{cap_of}
use Rattle.quiet_run.specs.declared.Loud.{Loud}
use Rattle.quiet_run.specs.Scan.{loud_at, scanned}
use Rattle.quiet_run.specs.Laws.{scan_goes_on, scan_stands}
use Rattle.quiet_turns.specs.declared.Watch.{Watch}
use Rattle.quiet_turns.specs.declared.Act.TheVariants.{Failed, Read, Says}
use Rattle.quiet_told.specs.Answer.{plus, loud_texts, closed_texts}
use Rattle.quiet_turns.specs.Room.{answer_most, loud_most, closed_most, all_place}
use Rattle.quiet_turns.specs.Turn.{going, Does, Turns}

-- it reads on: the scan is past j bytes, and the others stand in front of the buffer
pub record Went (passed : ℕ) (s : List ℕ) (out : List ℕ) (v : Watch) (buf' out' : List ℕ) : Type 0 where
  pub by : ℕ
  pub past : scanned false s ≡ Ok by
  pub counted : v.passed ≡ plus passed by
  pub held : v.held ≡ length (drop by s)
  pub front : take v.held buf' ≡ drop by s
  pub same : out' ≡ out

-- it says that an item is not quiet
pub record Stopped (passed : ℕ) (s out : List ℕ) (n : ℕ) (out' : List ℕ) : Type 0 where
  pub place : ℕ
  pub number : ℕ
  pub size : ℕ
  pub found : scanned false s ≡ loud_at place number size
  pub says : n ≡ place_all (loud_texts (plus passed place) number (take size (drop place s))) out 0
  pub leaves : out' ≡ buffer_all (loud_texts (plus passed place) number (take size (drop place s))) out 0

module _ (passed : ℕ) (s : List ℕ) {buf out buf' out' : List ℕ} where
  pub going_reads : {v : Watch} → Does (going passed s) buf out (Read v) buf' out' → Went passed s out v buf' out'
  going_reads {v} d = go (scanned false s) refl
    where
      go : (x : Result ℕ Loud) → scanned false s ≡ x → Went passed s out v buf' out'
      go (Ok j) e =
          let q : Read v ≡ Read (record { passed = plus passed j; held = length (drop j s) }) = rw e at d.answers in
          let f : v ≡ record { passed = plus passed j; held = length (drop j s) } = cc in
          let b : buf' ≡ drop j s ++ drop (length (drop j s)) buf = rw e at d.keeps in
          record {
            by = j;
            past = e;
            counted = ap (λ (x : Watch). x.passed) f;
            held = ap (λ (x : Watch). x.held) f;
            front = rw (ap (λ (x : Watch). x.held) f, b) (take-append_seam (drop j s) (drop (length (drop j s)) buf));
            same = rw e at d.leaves;
          }
      go (Err x) e = clash (let q : Read v ≡ Says (place_all (loud_texts (plus passed x.place) x.number (take x.size (drop x.place s))) out 0) = rw e at d.answers in cc)

  pub going_says : {n : ℕ} → Does (going passed s) buf out (Says n) buf' out' → Stopped passed s out n out'
  going_says {n} d = go (scanned false s) refl
    where
      go : (x : Result ℕ Loud) → scanned false s ≡ x → Stopped passed s out n out'
      go (Ok j) e = clash (let q : Says n ≡ Read (record { passed = plus passed j; held = length (drop j s) }) = rw e at d.answers in cc)
      go (Err x) e =
          let ts = loud_texts (plus passed x.place) x.number (take x.size (drop x.place s)) in
          let q : Says n ≡ Says (place_all ts out 0) = rw e at d.answers in
          let f : n ≡ place_all ts out 0 = cc in
          record { place = x.place; number = x.number; size = x.size; found = e; says = f; leaves = rw e at d.leaves }

  -- it says no failure
  pub going_on : Does (going passed s) buf out Failed buf' out' → ⊥
  going_on d = go (scanned false s) refl
    where
      go : (x : Result ℕ Loud) → scanned false s ≡ x → ⊥
      go (Ok j) e = clash (let q : Failed ≡ Read (record { passed = plus passed j; held = length (drop j s) }) = rw e at d.answers in cc)
      go (Err x) e = clash (let q : Failed ≡ Says (place_all (loud_texts (plus passed x.place) x.number (take x.size (drop x.place s))) out 0) = rw e at d.answers in cc)

module _ (w : Watch) (buf : List ℕ) {out buf' out' : List ℕ} where
  -- a read of some bytes, and one of none
  pub turn_reads : (n : ℕ) {v : Watch} → 1 ≤ n → Turns w (pos n) buf out (Read v) buf' out' → Went w.passed (take (w.held + n) buf) out v buf' out'
  turn_reads zero h d = absurd (omega arith)
  turn_reads (suc n) h d = going_reads w.passed (take (w.held + suc n) buf) d

  pub turn_stops : (n : ℕ) {r : ℕ} → 1 ≤ n → Turns w (pos n) buf out (Says r) buf' out' → Stopped w.passed (take (w.held + n) buf) out r out'
  turn_stops zero h d = absurd (omega arith)
  turn_stops (suc n) h d = going_says w.passed (take (w.held + suc n) buf) d

  pub turn_ends : {r : ℕ} → Turns w (pos 0) buf out (Says r) buf' out'
      → (r ≡ place_all (closed_texts w.passed (take w.held buf)) out 0) × (out' ≡ buffer_all (closed_texts w.passed (take w.held buf)) out 0)
  turn_ends {r} d =
      let q : Says r ≡ Says (place_all (closed_texts w.passed (take w.held buf)) out 0) = d.answers in
      (cc, d.leaves)

  -- where it reads no more is held than a reader of the line holds
  pub reads_few : {v : Watch} (got : ℤ) → Turns w got buf out (Read v) buf' out' → v.held ≤ cap_of Request
  reads_few (negsuc k) d = clash (let q = d.answers in cc)
  reads_few (pos zero) d = clash (let q = d.answers in cc)
  reads_few (pos (suc n)) d =
      let x = going_reads w.passed (take (w.held + suc n) buf) d in
      rw x.held (scan_goes_on (take (w.held + suc n) buf) x.by x.past).1

  -- where it says an answer, and there is room for each, that has no more bytes than this
  pub says_few : (got : ℤ) {n : ℕ} → answer_most ≤ length out → Turns w got buf out (Says n) buf' out' → n ≤ answer_most
  says_few (negsuc k) o d = clash (let q = d.answers in cc)
  says_few (pos zero) o d =
      let ts = closed_texts w.passed (take w.held buf) in
      let most = closed_most w.passed (take w.held buf) in
      omega (arith, (turn_ends d).0, all_place ts out (omega arith))
  says_few (pos (suc n)) o d =
      let s = take (w.held + suc n) buf in
      let g = going_says w.passed s d in
      let ts = loud_texts (plus w.passed g.place) g.number (take g.size (drop g.place s)) in
      let most = loud_most false (drop g.place s) (plus w.passed g.place) g.number g.size (scan_stands false s g.place g.number g.size g.found).0 in
      omega (arith, g.says, all_place ts out (omega arith))

  -- a failure is said only of a read that failed
  pub failed_only : (n : ℕ) → Turns w (pos n) buf out Failed buf' out' → ⊥
  failed_only zero d = clash (let q = d.answers in cc)
  failed_only (suc n) d = going_on w.passed (take (w.held + suc n) buf) d
