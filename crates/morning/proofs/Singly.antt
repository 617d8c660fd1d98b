-- What is claimed of a run, over the definitions that the contracts cite: it is its datagrams appended singly; what went in and what was
-- refused are all of them; and by marks it is what it is by the letter.
use Rattle.std.specs.Prelude.{ℕ, ◌+◌, ◌<◌, ◌≡◌, refl, List, [], ◌∷◌, length}
use Rattle.std.proofs.Common.{sym, ap, ◌∙◌, arith}
use Rattle.refusal.specs.Test.{clash}
use Rattle.refusal.specs.Answer.{Answer, refused, full, full_one}
use Rattle.sum.specs.Bytes.{Bytes}
use Rattle.led.specs.Led.{parts_of}
use Rattle.led.specs.Parts.{AllBytes}
use Rattle.led.proofs.Parts.{parts_bytes}
use Rattle.event.specs.declared.Layout.{Layout}
use Rattle.summary.specs.declared.Summary.{Summary}
use Rattle.capture.specs.declared.Mark.{Mark}
use Rattle.capture.specs.declared.Kept.{Kept}
use Rattle.capture.specs.Capture.{front_of, opened}
use Rattle.append.specs.Append.{verdict, verdict_at, handed, left_by, appended_to, stands_after}
use Rattle.append.specs.Judged.{opened_there}
use Rattle.year.specs.Marks.{Marks}
use Rattle.year.specs.Runs.{Call, Left, leaves_at, says_in_use, plain as plain_left, by_letter, alike}
use Rattle.morning.specs.Morning.{entered_by, refused_by, Stand, single, singles, begins, StandAt, single_at, singles_at, begins_at, judged, ran, ran_at}
use Rattle.morning.specs.Going.{one_each}
use Rattle.morning.specs.Singly.{calls, behind, after, plain, Marked, Alike, AsLetter}

-- the stand behind a run is the one behind the run of these calls by the letter (crate year)
singles_calls : (t : ℕ) (ds : List (List ℕ)) (z : Stand) → singles t z ds ≡ after z (by_letter z.buffer z.used z.summary (calls t ds))
unfolding singles after by_letter
singles_calls t [] z = refl
singles_calls t (d ∷ ds) z = singles_calls t ds (single t z d)

pub run_is_singles : (b : List ℕ) (u : ℕ) (x : Summary) (t : ℕ) (run : List ℕ) (ds : List (List ℕ)) {m : Mark} → opened b u ≡ full m → parts_of run ≡ full ds
    → ran b u x t run ≡ full (after (begins b u x) (by_letter b u x (calls t ds)))
unfolding ran
run_is_singles b u x t run ds e p = rw (e, p) (ap full (singles_calls t ds (begins b u x)))

-- WHAT WENT IN AND WHAT WAS REFUSED are all of them
pub counts_add : (t : ℕ) (ds : List (List ℕ)) (z : Stand) → (singles t z ds).entered + (singles t z ds).refused ≡ z.entered + z.refused + length ds
unfolding singles
counts_add t [] z = omega arith
counts_add t (d ∷ ds) z =
    let w = appended_to (verdict z.buffer z.used z.summary t d) z.used d in
    omega (arith, counts_add t ds (single t z d), one_each w)

pub counts_add_at : (t : ℕ) (ds : List (List ℕ)) (z : StandAt)
    → (singles_at t z ds).entered + (singles_at t z ds).refused ≡ z.entered + z.refused + length ds
unfolding singles_at
counts_add_at t [] z = omega arith
counts_add_at t (d ∷ ds) z =
    let w = handed (verdict_at z.buffer z.kept.mark z.kept.summary t d) z.kept.mark.used t d in
    omega (arith, counts_add_at t ds (single_at t z d), one_each w)

-- of the call: what was answered, and the number of the run's datagrams
ran_all : {A S : Type 0} (a : Answer A) (ds : List (List ℕ)) (p : Answer (List (List ℕ))) (then : List (List ℕ) → S) {z : S} → p ≡ full ds
    → judged a p then ≡ full z → then ds ≡ z
ran_all (refused k) ds p then e f = clash (cc)
ran_all (full a) ds (refused k) then e f = clash (cc)
ran_all (full a) ds (full es) then e f = ap then (sym (full_one e)) ∙ full_one f

pub run_all : (b : List ℕ) (u : ℕ) (x : Summary) (t : ℕ) (run : List ℕ) (ds : List (List ℕ)) {z : Stand} → parts_of run ≡ full ds → ran b u x t run ≡ full z
    → singles t (begins b u x) ds ≡ z
unfolding ran
run_all b u x t run ds e f = ran_all (opened b u) ds (parts_of run) (singles t (begins b u x)) e f

pub in_and_refused : (b : List ℕ) (u : ℕ) (x : Summary) (t : ℕ) (run : List ℕ) (ds : List (List ℕ)) {z : Stand} → parts_of run ≡ full ds → ran b u x t run ≡ full z
    → z.entered + z.refused ≡ length ds
in_and_refused b u x t run ds e f = rw (← run_all b u x t run ds e f) (omega (arith, counts_add t ds (begins b u x)))

pub in_and_refused_at : (b : List ℕ) (m : Mark) (x : Summary) (t : ℕ) (run : List ℕ) (ds : List (List ℕ)) {z : StandAt} → parts_of run ≡ full ds
    → ran_at b m x t run ≡ full z → z.entered + z.refused ≡ length ds
unfolding ran_at
in_and_refused_at b m x t run ds e f =
    rw (← ran_all (front_of b m.used) ds (parts_of run) (singles_at t (begins_at b m x)) e f) (omega (arith, counts_add_at t ds (begins_at b m x)))

-- one by a mark and one by the letter count alike
entered_same : (a : Answer Kept) → entered_by a ≡ entered_by (says_in_use a)
entered_same (refused k) = refl
entered_same (full k) = refl

refused_same : (a : Answer Kept) → refused_by a ≡ refused_by (says_in_use a)
refused_same (refused k) = refl
refused_same (full k) = refl

single_plain : (t : ℕ) (z : StandAt) (d : List ℕ)
    → plain (single_at t z d) ≡ behind z.entered z.refused (plain_left (leaves_at z.buffer z.kept.mark z.kept.summary (record { seconds = t; datagram = d })))
single_plain t z d =
    let m = z.kept.mark in
    let v = verdict_at z.buffer m z.kept.summary t d in
    let a = handed v m.used t d in
    let k = stands_after a z.kept in
    λ i.
    record {
      entered = z.entered + entered_same a i;
      refused = z.refused + refused_same a i;
      used = k.mark.used;
      summary = k.summary;
      buffer = left_by v z.buffer m.used t d;
    }

pub singles_alike : (t : ℕ) → t < 4294967296 → (ds : List (List ℕ)) → AllBytes ds → (z : StandAt) → Marked z → Alike t z ds
unfolding singles singles_at
singles_alike t s [] h z k = record { same = refl; marked = k }
singles_alike t s (d ∷ ds) h z k =
    let c : Call = record { seconds = t; datagram = d } in
    let a = alike z.buffer z.kept.mark z.kept.summary c (record { short = s; bytes = h.0 }) k.bytes k.marks in
    let r = singles_alike t s ds h.1 (single_at t z d) (record { marks = a.marks; bytes = a.bytes }) in
    record {
      same = r.same ∙ ap (λ (s : Stand). singles t s ds) (single_plain t z d) ∙ ap (λ (l : Left). singles t (behind z.entered z.refused l) ds) a.same;
      marked = r.marked;
    }

pub run_by_mark : (b : List ℕ) (m : Mark) (x : Summary) (t : ℕ) (run : List ℕ) → Bytes b → Bytes run → t < 4294967296 → Marks b m → AsLetter b m x t run
unfolding ran ran_at
run_by_mark b m x t run bs rs s k =
    opened_there b m.used m k
    (λ l f z. go l f (parts_of run) refl)
  where
    go : (l : Layout) → front_of b m.used ≡ full l → (p : Answer (List (List ℕ))) → parts_of run ≡ p → AsLetter b m x t run
    go l f (refused j) p = record { same = rw (f, k, p); marked = λ z e. clash (cc) }
    go l f (full ds) p =
        let a = singles_alike t s ds (parts_bytes run ds rs p) (begins_at b m x) (record { marks = k; bytes = bs }) in
        record {
          same = rw (f, k, p) (ap full a.same);
          marked = λ z e. rw (← ran_all (front_of b m.used) ds (parts_of run) (singles_at t (begins_at b m x)) p e) a.marked;
        }
