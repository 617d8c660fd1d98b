-- The ways that a run goes, by what the code has found.
use Rattle.std.specs.Prelude.{ℕ, Result, Ok, Err, ◌<◌, ◌≡◌, true, false, List}
use Rattle.std.proofs.Math.Path.{refl, ap}
use Rattle.std.proofs.Common.{◌∙◌}
use Rattle.refusal.specs.Test.{clash}
use Rattle.refusal.specs.Refusals.{number_of}
use Rattle.refusal.specs.declared.Refusal.{Refusal}
use Rattle.refusal.specs.declared.Refusal.TheVariants.{BadRecord}
use Rattle.refusal.specs.Answer.{Answer, refused, full, is_full, full_one}
use Rattle.sum.specs.Bytes.{Bytes}
use Rattle.led.specs.Led.{parts_of}
use Rattle.led.proofs.Parts.{parts_15, parts_bytes}
use Rattle.event.specs.declared.Layout.{Layout}
use Rattle.summary.specs.declared.Summary.{Summary}
use Rattle.capture.specs.declared.Mark.{Mark}
use Rattle.capture.specs.Capture.{front_of, opened}
use Rattle.year.specs.Marks.{open_marks}
use Rattle.morning.specs.declared.RanAt.{RanAt}
use Rattle.morning.specs.Morning.{singles, begins, StandAt, singles_at, begins_at, ran, Runs, ran_at, RunsAt}
use Rattle.morning.specs.Singly.{plain}
use Rattle.morning.specs.Mornings.{plain_ran}
use Rattle.morning.proofs.Singly.{singles_alike}
use Rattle.morning.specs.Going.{parts_in, all_of}

-- the parts of a run that is whole
whole : {P : Type 0} (run : List ℕ) → is_full (parts_of run) ≡ true → ((ds : List (List ℕ)) → parts_of run ≡ full ds → P) → P
whole {P} run h some = go (parts_of run) refl h
  where
    go : (a : Answer (List (List ℕ))) → parts_of run ≡ a → is_full a ≡ true → P
    go (refused k) e h = clash (cc)
    go (full ds) e h = some ds e

-- BY A MARK
module _ (b : List ℕ) (m : Mark) (x : Summary) (t : ℕ) (run : List ℕ) where
  pub at_capture : (k : Refusal) → front_of b m.used ≡ refused (number_of k) → RunsAt (ran_at b m x t run) b (Err k) b
  unfolding ran_at
  at_capture k e = rw e (record { says = refl; leaves = refl })

  pub at_cut : (l : Layout) → front_of b m.used ≡ full l → is_full (parts_of run) ≡ false → RunsAt (ran_at b m x t run) b (Err BadRecord) b
  unfolding ran_at
  at_cut l e h = rw (e, parts_15 run h) (record { says = refl; leaves = refl })

  pub at_all : (r : Result RanAt Refusal) (l : Layout) (b' : List ℕ) → front_of b m.used ≡ full l → is_full (parts_of run) ≡ true
      → RunsAt (full (all_of b m x t run)) b r b' → RunsAt (ran_at b m x t run) b r b'
  unfolding ran_at
  at_all r l b' e h a =
      whole run h
      (λ ds p.
      let s : all_of b m x t run ≡ singles_at t (begins_at b m x) ds = ap (λ (a : Answer (List (List ℕ))). singles_at t (begins_at b m x) (parts_in a)) p in
      rw (e, p, ← s) a)

-- BY THE LETTER
module _ (b : List ℕ) (u : ℕ) (x : Summary) (t : ℕ) (run : List ℕ) where
  pub letter_capture : (k : Refusal) → opened b u ≡ refused (number_of k) → Runs (ran b u x t run) b (Err k) b
  unfolding ran
  letter_capture k e = rw e (record { says = refl; leaves = refl })

  pub letter_cut : (m : Mark) → opened b u ≡ full m → is_full (parts_of run) ≡ false → Runs (ran b u x t run) b (Err BadRecord) b
  unfolding ran
  letter_cut m e h = rw (e, parts_15 run h) (record { says = refl; leaves = refl })

  pub letter_all : (r : RanAt) (m : Mark) (b' : List ℕ) → opened b u ≡ full m → is_full (parts_of run) ≡ true → Bytes b → Bytes run → t < 4294967296
      → RunsAt (full (all_of b m x t run)) b (Ok r) b' → Runs (ran b u x t run) b (Ok (plain_ran r)) b'
  unfolding ran
  letter_all r m b' e h bs rs s a =
      whole run h
      (λ ds p.
      let o = open_marks b u e in
      let k = singles_alike t s ds (parts_bytes run ds rs p) (begins_at b m x) (record { marks = o.0; bytes = bs }) in
      let z : StandAt = singles_at t (begins_at b m x) ds in
      let q : all_of b m x t run ≡ z = ap (λ (a : Answer (List (List ℕ))). singles_at t (begins_at b m x) (parts_in a)) p in
      let y : plain z ≡ singles t (begins b u x) ds = k.same ∙ ap (λ (u : ℕ). singles t (begins b u x) ds) o.1 in
      let f : r ≡ record { entered = z.entered; refused = z.refused; kept = z.kept } =
      full_one (a.says ∙ ap (λ (z : StandAt). full (record { entered = z.entered; refused = z.refused; kept = z.kept })) q) in
      rw (e, p, ← y, f, a.leaves, q) (record { says = refl; leaves = refl }))
