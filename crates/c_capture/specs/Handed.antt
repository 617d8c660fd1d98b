-- What the contracts of crates capture, append and morning say of an answer, said of what is handed over.
use Rattle.std.specs.Prelude.{ℕ, Result, ◌+◌, ◌-◌, ◌≡◌, refl, List, length}
use Rattle.std.proofs.Common.{ap, arith}
use Rattle.refusal.specs.declared.Refusal.{Refusal}
use Rattle.refusal.specs.Answer.{Answer, refused, full, said}
use Rattle.record.specs.Record.{Entry, record_size, standing}
use Rattle.summary.specs.declared.Summary.{Summary}
use Rattle.capture.specs.declared.Mark.{Mark}
use Rattle.capture.specs.declared.Kept.{Kept}
use Rattle.capture.specs.Capture.{nothing_kept}
use Rattle.append.specs.declared.Appended.{Appended}
use Rattle.append.specs.Append.{emptied, Empties, verdict_at, AppendsAt, verdict, Appends}
use Rattle.morning.specs.declared.Ran.{Ran}
use Rattle.morning.specs.declared.RanAt.{RanAt}
use Rattle.morning.specs.Morning.{ran, Runs, ran_at, RunsAt}
use Rattle.c_capture.specs.Captures.{found_out, appended_out, run_out, run_at_out, ran_none, ran_at_none, EmptiesOut, AppendsAtOut, AppendsOut, RunsOut, RunsAtOut}
use Rattle.c_capture.specs.Records.{record_out, stood_out}

pub empties_out : {b b' : List ℕ} {v : ℕ} (r : Result Kept Refusal) → Empties (emptied b v) b v r b' → EmptiesOut b v (found_out (said r) nothing_kept) b'
empties_out r w = record { says = ap (λ (a : Answer Kept). found_out a nothing_kept) w.says; leaves = w.leaves }

-- of the mark and the summary that were handed in
pub appends_at_out : {b b' d : List ℕ} {m m' : Mark} {x x' : Summary} {t : ℕ} (r : Result Kept Refusal) → m' ≡ m → x' ≡ x
    → AppendsAt (verdict_at b m' x' t d) b m' t d r b' → AppendsAtOut b m x t d (found_out (said r) (record { mark = m'; summary = x' })) b'
appends_at_out {m' = m'} {x' = x'} r e f w =
    rw (← e, ← f) (record { says = ap (λ (a : Answer Kept). found_out a (record { mark = m'; summary = x' })) w.says; leaves = w.leaves })

pub appends_out : {b b' d : List ℕ} {u : ℕ} {x x' : Summary} {t : ℕ} (r : Result Appended Refusal) → x' ≡ x
    → Appends (verdict b u x' t d) b u t d r b' → AppendsOut b u x t d (appended_out (said r) u x') b'
appends_out {u = u} {x' = x'} r f w = rw (← f) (record { says = ap (λ (a : Answer Appended). appended_out a u x') w.says; leaves = w.leaves })

pub runs_out_lem : {b b' run : List ℕ} {u : ℕ} {x x' : Summary} {t : ℕ} (r : Result Ran Refusal) → x' ≡ x
    → Runs (ran b u x' t run) b r b' → RunsOut b u x t run (run_out (said r) (ran_none u x')) b'
runs_out_lem {u = u} {x' = x'} r f w = rw (← f) (record { says = ap (λ (a : Answer Ran). run_out a (ran_none u x')) w.says; leaves = w.leaves })

pub runs_at_out : {b b' run : List ℕ} {m m' : Mark} {x x' : Summary} {t : ℕ} (r : Result RanAt Refusal) → m' ≡ m → x' ≡ x
    → RunsAt (ran_at b m' x' t run) b r b' → RunsAtOut b m x t run (run_at_out (said r) (ran_at_none m' x')) b'
runs_at_out {m' = m'} {x' = x'} r e f w = rw (← e, ← f) (record { says = ap (λ (a : Answer RanAt). run_at_out a (ran_at_none m' x')) w.says; leaves = w.leaves })

-- a record, told by its place and the next
pub stood_out_lem : (p : ℕ) (a : Answer Entry) → stood_out p (standing p a) ≡ record_out p a
stood_out_lem p (refused k) = refl
stood_out_lem p (full r) =
    let e : ℕ = p + record_size r.datagram in
    let n : e - 6 - p ≡ length r.datagram = omega arith in
    let s : e - (e - 6 - p) ≡ p + 6 = omega arith in
    λ i. record { refusal = 0; seconds = r.seconds; datagram_at = s i; n = n i; next = e }
