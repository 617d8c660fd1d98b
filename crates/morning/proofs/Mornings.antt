-- Mornings one after the other: by marks as by the letter, call by call; and behind any mix of appends and runs from an empty capture the
-- summary is the one counted afresh, and the records are what went in.
use Rattle.std.specs.Prelude.{ℕ, Ok, ◌+◌, ◌<◌, ◌≡◌, refl, List, [], ◌∷◌, ◌++◌, map, length}
use Rattle.std.proofs.Common.{sym, ap, ◌∙◌, append_assoc, append-nil, length-append, arith}
use Rattle.refusal.specs.Answer.{Answer, refused, full}
use Rattle.sum.specs.Bytes.{Bytes}
use Rattle.led.specs.Led.{parts_of}
use Rattle.led.specs.Parts.{AllBytes}
use Rattle.led.proofs.Parts.{parts_bytes}
use Rattle.summary.specs.declared.Summary.{Summary}
use Rattle.capture.specs.declared.Mark.{Mark}
use Rattle.record.specs.Record.{record_size}
use Rattle.append.specs.declared.Appended.{Appended}
use Rattle.append.specs.Append.{verdict, left_by, appended_to, stands_after}
use Rattle.year.specs.Marks.{Marks}
use Rattle.year.specs.Runs.{Call, Sound as Sound₁, goes_in, Grown, then_appended, Afresh, summary_afresh}
use Rattle.morning.specs.Morning.{Stand, single, singles, begins, entered_by, StandAt, ran, ran_at}
use Rattle.morning.specs.Singly.{plainly, AsLetter}
use Rattle.morning.proofs.Singly.{run_all, run_by_mark}
use Rattle.morning.specs.Mornings.{went, Morning, Sound, AllSound, Left, leaves, leaves_at, plain, by_letter, by_marks, went_in}

record Alike (b : List ℕ) (m : Mark) (x : Summary) (c : Morning) : Type 0 where
  same : plain (leaves_at b m x c) ≡ leaves b m.used x c
  marks : Marks (leaves_at b m x c).buffer (leaves_at b m x c).stands.mark
  bytes : Bytes (leaves_at b m x c).buffer

alike : (b : List ℕ) (m : Mark) (x : Summary) (c : Morning) → Sound c → Bytes b → Marks b m → Alike b m x c
alike b m x c s h k = go (ran_at b m x c.seconds c.run) refl
  where
    r : AsLetter b m x c.seconds c.run
    r = run_by_mark b m x c.seconds c.run h s.bytes s.short k

    go : (a : Answer StandAt) → ran_at b m x c.seconds c.run ≡ a → Alike b m x c
    go (refused j) e =
        let f : ran b m.used x c.seconds c.run ≡ refused j = sym r.same ∙ ap plainly e in
        record { same = rw (e, f); marks = rw e k; bytes = rw e h }
    go (full z) e =
        let f : ran b m.used x c.seconds c.run ≡ plainly (full z) = sym r.same ∙ ap plainly e in
        let g = r.marked z e in
        record { same = rw (e, f); marks = rw e g.marks; bytes = rw e g.bytes }

-- BY MARKS they give, call by call, the answers, uses, summaries and buffers of those by the letter
pub mornings_marks : (b : List ℕ) (m : Mark) (x : Summary) (cs : List Morning) → Bytes b → Marks b m → AllSound cs
    → map plain (by_marks b m x cs) ≡ by_letter b m.used x cs
unfolding by_letter by_marks
mornings_marks b m x [] h k s = refl
mornings_marks b m x (c ∷ cs) h k s =
    let l = leaves_at b m x c in
    let a = alike b m x c s.0 h k in
    ap (λ (z : List Left). plain l ∷ z) (mornings_marks l.buffer l.stands.mark l.stands.summary cs a.bytes a.marks s.1)
    ∙ ap (λ (z : Left). z ∷ by_letter z.buffer z.stands.used z.stands.summary cs) a.same

-- they are as many as it says
goes_one : {A : Type 0} (a : Answer A) (c : Call) → length (goes_in a c) ≡ entered_by a
goes_one (full y) c = refl
goes_one (refused k) c = refl

pub entered_are : (t : ℕ) (ds : List (List ℕ)) (z : Stand) → (singles t z ds).entered ≡ z.entered + length (went_in t z ds)
unfolding singles went_in
entered_are t [] z = omega arith
entered_are t (d ∷ ds) z =
    let c : Call = record { seconds = t; datagram = d } in
    let g = goes_in (went t z d) c in
    omega (arith, entered_are t ds (single t z d), length-append g (went_in t (single t z d) ds), goes_one (went t z d) c)

-- an append that the definitions tell of makes a capture longer, or leaves it as it was
then_single : (z : Stand) {cs : List Call} (t : ℕ) (d : List ℕ) → Sound₁ (record { seconds = t; datagram = d }) → Grown z.buffer z.used z.summary cs
    → Grown (single t z d).buffer (single t z d).used (single t z d).summary (cs ++ goes_in (went t z d) (record { seconds = t; datagram = d }))
then_single z {cs} t d s g = go (verdict z.buffer z.used z.summary t d) refl
  where
    c : Call
    c = record { seconds = t; datagram = d }

    u : Appended
    u = record { used = z.used; summary = z.summary }

    go : (v : Answer Summary) → verdict z.buffer z.used z.summary t d ≡ v
        → Grown (left_by v z.buffer z.used t d) (stands_after (appended_to v z.used d) u).used (stands_after (appended_to v z.used d) u).summary
        (cs ++ goes_in (appended_to v z.used d) c)
    go (refused k) e = rw (append-nil cs) g
    go (full y) e = then_appended {r = Ok (record { used = z.used + record_size d; summary = y })} g c s (rw e (record { says = refl; leaves = refl }))

-- a run makes a capture longer as single appends do
singles_grown : (t : ℕ) → t < 4294967296 → (ds : List (List ℕ)) → AllBytes ds → (z : Stand) (cs : List Call) → Grown z.buffer z.used z.summary cs
    → Grown (singles t z ds).buffer (singles t z ds).used (singles t z ds).summary (cs ++ went_in t z ds)
unfolding singles went_in
singles_grown t s [] h z cs g = rw (append-nil cs) g
singles_grown t s (d ∷ ds) h z cs g =
    let c : Call = record { seconds = t; datagram = d } in
    let n = then_single z t d (record { short = s; bytes = h.0 }) g in
    let i = goes_in (went t z d) c in
    rw (← append_assoc cs i (went_in t (single t z d) ds)) (singles_grown t s ds h.1 (single t z d) (cs ++ i) n)

pub run_grown : (b : List ℕ) (u : ℕ) (x : Summary) (t : ℕ) (run : List ℕ) (ds : List (List ℕ)) {z : Stand} {cs : List Call} → t < 4294967296 → Bytes run
    → Grown b u x cs → parts_of run ≡ full ds → ran b u x t run ≡ full z → Grown z.buffer z.used z.summary (cs ++ went_in t (begins b u x) ds)
run_grown b u x t run ds {z} {cs} s rs g p e =
    rw (← run_all b u x t run ds p e) (singles_grown t s ds (parts_bytes run ds rs p) (begins b u x) cs g)

-- so "the summary equals one counted afresh from the records" behind it, and the records are what went in
pub run_afresh : (b : List ℕ) (u : ℕ) (x : Summary) (t : ℕ) (run : List ℕ) (ds : List (List ℕ)) {z : Stand} {cs : List Call} → t < 4294967296 → Bytes run
    → Grown b u x cs → parts_of run ≡ full ds → ran b u x t run ≡ full z → Afresh z.buffer z.used z.summary (cs ++ went_in t (begins b u x) ds)
run_afresh b u x t run ds s rs g p e = summary_afresh (run_grown b u x t run ds s rs g p e)
