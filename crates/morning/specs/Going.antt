-- A run on its way: the datagrams that were tried, and those that are left.
use Rattle.std.specs.Prelude.{ℕ, Result, Ok, Err, ◌+◌, ◌-◌, ◌≤◌, ◌<◌, ◌≡◌, Bool, true, false, leb, length, drop}
use Rattle.std.proofs.Math.Path.{refl, ap}
use Rattle.std.proofs.Common.{sym, ◌∙◌, drop-drop, add-zero, leb-true, leb-false}
use mathlib.Core.List.{List, [], ◌∷◌}
use Rattle.std.proofs.Math.ListN.{take, length-drop}
use native.Mathlib.Omega.{arith}
use Rattle.refusal.specs.Test.{clash}
use Rattle.refusal.specs.declared.Refusal.{Refusal}
use Rattle.refusal.specs.Answer.{Answer, refused, full, is_full, full_one, said}
use Rattle.led.specs.Led.{part_at, with_part, parts_of}
use Rattle.led.specs.Cut.{part_there}
use Rattle.led.proofs.Parts.{parts_end, parts_next, parts_cut}
use Rattle.summary.specs.declared.Summary.{Summary}
use Rattle.capture.specs.declared.Mark.{Mark}
use Rattle.capture.specs.declared.Kept.{Kept}
use Rattle.append.specs.Append.{verdict_at, AppendsAt, stands_after}
use Rattle.morning.specs.Morning.{entered_by, refused_by, StandAt, single_at, singles_at, begins_at, RunsAt}

-- the parts of a run that is whole
abbrev pub parts_in : Answer (List (List ℕ)) → List (List ℕ)
parts_in (refused k) = []
parts_in (full ds) = ds

-- all of them by marks
abbrev pub all_of : List ℕ → Mark → Summary → ℕ → List ℕ → StandAt
all_of b m x t run = singles_at t (begins_at b m x) (parts_in (parts_of run))

pub record Going (b : List ℕ) (m : Mark) (x : Summary) (t : ℕ) (run : List ℕ) (i : ℕ) (z : StandAt) : Type 0 where
  pub left : List (List ℕ)
  pub parts : parts_of (drop i run) ≡ full left
  pub same : all_of b m x t run ≡ singles_at t z left
  pub room : i ≤ length run
  pub few : z.entered + z.refused ≤ i

-- each went in or was refused
pub one_each : {A : Type 0} (a : Answer A) → entered_by a + refused_by a ≡ 1
one_each (full y) = refl
one_each (refused k) = refl

module _ {b : List ℕ} {m : Mark} {x : Summary} {t : ℕ} {run : List ℕ} where
  pub going_starts : is_full (parts_of run) ≡ true → Going b m x t run 0 (begins_at b m x)
  going_starts h = go (parts_of run) refl h
    where
      go : (a : Answer (List (List ℕ))) → parts_of run ≡ a → is_full a ≡ true → Going b m x t run 0 (begins_at b m x)
      go (refused k) e h = clash (cc)
      go (full ds) e h = record { left = ds; parts = e; same = rw e; room = omega arith; few = omega arith }

  -- what is left begins with a part
  pub going_cut : {P : Type 0} {i : ℕ} {z : StandAt} → Going b m x t run i z → i < length run → (k : ℕ) → part_at (drop i run) ≡ refused k → P
  going_cut {P} {i} g h k e =
      clash (let q = parts_cut (drop i run) k (simp length-drop (omega arith)) e in let r = g.parts in cc)

  pub going_room : {i : ℕ} {z : StandAt} → Going b m x t run i z → (n : ℕ) → part_at (drop i run) ≡ full n → i + (2 + n) ≤ length run
  going_room {i} g n e = omega (arith, (part_there (drop i run) n e).1, length-drop i run, g.room)

  -- which is tried
  pub going_next : {i : ℕ} {z : StandAt} → Going b m x t run i z → (n : ℕ) → part_at (drop i run) ≡ full n
      → (d : List ℕ) → d ≡ take (i + 2 + n - (i + 2)) (drop (i + 2) run) → (r : Result Kept Refusal) (b' : List ℕ)
      → AppendsAt (verdict_at z.buffer z.kept.mark z.kept.summary t d) z.buffer z.kept.mark t d r b'
      → Going b m x t run (i + 2 + n)
      (record { entered = z.entered + entered_by (said r); refused = z.refused + refused_by (said r); kept = stands_after (said r) z.kept; buffer = b' })
  unfolding singles_at
  going_next {i} {z} g n e d f r b' a = go (parts_of (drop (2 + n) (drop i run))) refl
    where
      y : StandAt
      y = record { entered = z.entered + entered_by (said r); refused = z.refused + refused_by (said r); kept = stands_after (said r) z.kept; buffer = b' }

      part : d ≡ take n (drop 2 (drop i run))
      part =
          let j : i + 2 + n - (i + 2) ≡ n = omega arith in
          f ∙ ap (λ (k : ℕ). take k (drop (i + 2) run)) j ∙ ap (take n) (sym (drop-drop 2 i run))

      there : drop (i + 2 + n) run ≡ drop (2 + n) (drop i run)
      there = let j : i + 2 + n ≡ i + (2 + n) = omega arith in ap (λ (j : ℕ). drop j run) j ∙ sym (drop-drop (2 + n) i run)

      steps : single_at t z d ≡ y
      steps = rw (a.leaves, a.says) refl

      go : (l : Answer (List (List ℕ))) → parts_of (drop (2 + n) (drop i run)) ≡ l → Going b m x t run (i + 2 + n) y
      go (refused j) q = clash (let y = parts_next (drop i run) n e ∙ ap (with_part (take n (drop 2 (drop i run)))) q in let v = g.parts in cc)
      go (full ds) q =
          let s : g.left ≡ d ∷ ds =
          full_one (sym g.parts ∙ parts_next (drop i run) n e ∙ ap (with_part (take n (drop 2 (drop i run)))) q ∙ ap (λ (p : List ℕ). full (p ∷ ds)) (sym part)) in
          record {
            left = ds;
            parts = ap parts_of there ∙ q;
            same = g.same ∙ ap (singles_at t z) s ∙ ap (λ (z : StandAt). singles_at t z ds) steps;
            room = omega (arith, going_room g n e);
            few = omega (arith, g.few, one_each (said r));
          }

  -- and went in, or was refused
  pub going_in : {i : ℕ} {z : StandAt} → Going b m x t run i z → (n : ℕ) → part_at (drop i run) ≡ full n
      → (d : List ℕ) → d ≡ take (i + 2 + n - (i + 2)) (drop (i + 2) run) → (k : Kept) (b' : List ℕ)
      → AppendsAt (verdict_at z.buffer z.kept.mark z.kept.summary t d) z.buffer z.kept.mark t d (Ok k) b'
      → Going b m x t run (i + 2 + n) (record { entered = z.entered + 1; refused = z.refused; kept = k; buffer = b' })
  going_in {i} {z} g n e d f k b' a = rw add-zero at (going_next g n e d f (Ok k) b' a)

  pub going_refused : {i : ℕ} {z : StandAt} → Going b m x t run i z → (n : ℕ) → part_at (drop i run) ≡ full n
      → (d : List ℕ) → d ≡ take (i + 2 + n - (i + 2)) (drop (i + 2) run) → (k : Refusal) (b' : List ℕ)
      → AppendsAt (verdict_at z.buffer z.kept.mark z.kept.summary t d) z.buffer z.kept.mark t d (Err k) b'
      → Going b m x t run (i + 2 + n) (record { entered = z.entered; refused = z.refused + 1; kept = z.kept; buffer = b' })
  going_refused {i} {z} g n e d f k b' a = rw add-zero at (going_next g n e d f (Err k) b' a)

  -- and when nothing is left, all were
  pub going_ends : {i : ℕ} {z : StandAt} → Going b m x t run i z → length run ≤ i
      → RunsAt (full (all_of b m x t run)) b (Ok (record { entered = z.entered; refused = z.refused; kept = z.kept })) z.buffer
  unfolding singles_at
  going_ends {i} {z} g h =
      let n : g.left ≡ [] = full_one (sym g.parts ∙ parts_end (drop i run) (simp length-drop (omega arith))) in
      rw (g.same, n) (record { says = refl; leaves = refl })

  -- where no part is left, nothing is left
  pub going_stops : {i : ℕ} {z : StandAt} → Going b m x t run i z → (k : ℕ) → part_at (drop i run) ≡ refused k
      → RunsAt (full (all_of b m x t run)) b (Ok (record { entered = z.entered; refused = z.refused; kept = z.kept })) z.buffer
  going_stops {i} {z} g k e = go (leb (length run) i) refl
    where
      go : (a : Bool) → leb (length run) i ≡ a
          → RunsAt (full (all_of b m x t run)) b (Ok (record { entered = z.entered; refused = z.refused; kept = z.kept })) z.buffer
      go true h = going_ends g (leb-true (length run) i h)
      go false h = going_cut g (leb-false (length run) i h) k e
