-- The definitions, told by what the code has found.
use Rattle.std.specs.Prelude.{ℕ, ◌+◌, ◌-◌, ◌≤◌, ◌<◌, ◌≡◌, refl, Bool, true, false, not, ◌&&◌, List, [], ◌++◌, length, take, drop, leb, eqb}
use Rattle.std.proofs.Common.{sym, ap, ◌∙◌, length-append, length-take, length-drop, take_all, length-take-le, arith}
use borrow.Author.Tests.{le-leb, lt-leb, leb-true}
use Rattle.refusal.specs.Test.{pick}
use Rattle.refusal.specs.Answer.{refused, full}
use Rattle.refusal.specs.Refusals.{number_of}
use Rattle.refusal.specs.declared.Refusal.{Refusal}
use Rattle.event.specs.declared.Layout.{Layout}
use Rattle.event.specs.Layout.{width_of}
use Rattle.capture.specs.Capture.{front_of, records_from, sizes_of}
use Rattle.capture.specs.Tally.{sizes_fit}
use Rattle.season.specs.declared.Corridor.{Corridor}
use Rattle.season.specs.declared.Boundaries.{Boundaries}
use Rattle.passing.specs.declared.Passed.{Passed}
use Rattle.passing.specs.declared.Pass.{Pass}
use Rattle.passing.specs.Passing.{passed_over}
use Rattle.by_parts.specs.declared.Held.{Held}
use Rattle.by_parts.specs.declared.SoFar.{SoFar}
use Rattle.by_parts.specs.declared.Stage.TheVariants.{Fresh, Of, Refused}
use Rattle.by_parts.specs.Parts.{is_settled, room, held_of, stopped, leaving, onward, parted}
use Rattle.by_parts.specs.Numbered.{refusal_is}
use Rattle.by_parts.specs.Window.{joined}
use Rattle.by_parts.specs.Onward.{resume_left, resume_on}

-- the bytes from a place on
pub tail_is : (s : List ℕ) (n : ℕ) → take (length s - n) (drop n s) ≡ drop n s
tail_is s n = take_all (length s - n) (drop n s) (omega (arith, length-drop n s))

-- what a state holds
module _ (l : Layout) (h : Held) where
  pub held_over : room < h.len → 0 ≡ length (held_of l h)
  unfolding held_of
  held_over k = rw (lt-leb h.len room k)

  pub held_told : h.len ≤ room → is_settled (width_of l) (take h.len h.bytes) ≡ true → 0 ≡ length (held_of l h)
  unfolding held_of
  held_told k e = rw (le-leb h.len room k, e)

  pub held_there : h.len ≤ room → is_settled (width_of l) (take h.len h.bytes) ≡ false → held_of l h ≡ take h.len h.bytes
  unfolding held_of
  held_there k e = rw (le-leb h.len room k, e)

  pub held_count : length h.bytes ≡ room → h.len ≤ room → is_settled (width_of l) (take h.len h.bytes) ≡ false → h.len ≡ length (held_of l h)
  held_count g k e = sym (ap length (held_there k e) ∙ length-take-le h.len h.bytes (omega (arith, g, k)))

-- records passed, and the rest left
module _ (l : Layout) (c : Corridor) (b : Boundaries) (x : Passed) (s : List ℕ) where
  module _ (p : Pass) (e : p ≡ passed_over (width_of l) s c b x) where
    pub pass_fits : p.at ≤ length s
    pass_fits = rw e (sizes_fit (width_of l) x.last s)

    pub on_by : (d : List ℕ) → d ≡ drop p.at s → leaving l c b p.passed d ≡ onward l c b x s
    unfolding onward
    on_by d f = rw (f, e)

-- what was held and a part, by the records of the window
module _ (l : Layout) (c : Corridor) (b : Boundaries) (x : Passed) (h p s : List ℕ) (untold : is_settled (width_of l) h ≡ false) (e : s ≡ joined h p)
    (q : Pass) (f : q ≡ passed_over (width_of l) s c b x) where
  passes : q ≡ passed_over (width_of l) (joined h p) c b x
  passes = f ∙ ap (λ (s : List ℕ). passed_over (width_of l) s c b x) e

  place : q.at ≡ sizes_of (records_from (width_of l) x.last (joined h p))
  place = ap (λ (q : Pass). q.at) passes

  pub resumed_left : q.at < length h → leaving l c b q.passed s ≡ onward l c b x (h ++ p)
  resumed_left n = rw (e, passes) (resume_left l c b x h p untold (omega (arith, n, place)))

  pub resumed_fits : length h ≤ q.at → q.at - length h ≤ length p
  resumed_fits n =
      let m = sizes_fit (width_of l) x.last (joined h p) in
      let k : ℕ = room + 1 - length h in
      omega (arith, n, m, place, length-append h (take k p), length-take k p)

  pub resumed_on : length h ≤ q.at → onward l c b q.passed (take (length p - (q.at - length h)) (drop (q.at - length h) p)) ≡ onward l c b x (h ++ p)
  resumed_on n =
      ap (onward l c b q.passed) (tail_is p (q.at - length h))
      ∙ rw passes (resume_on l c b x h p untold (omega (arith, n, place)))

-- what is held, as that part of the array
pub record Front (l : Layout) (h : Held) (n : ℕ) : Type 0 where
  pub is : take n h.bytes ≡ held_of l h
  pub untold : is_settled (width_of l) (take n h.bytes) ≡ false
  pub fits : n ≤ length h.bytes

pub front : (l : Layout) (h : Held) (n : ℕ) → length h.bytes ≡ room → n ≡ length (held_of l h) → 0 < n → Front l h n
unfolding held_of
front l h n g e k = go (leb h.len room) refl (is_settled (width_of l) (take h.len h.bytes)) refl e
  where
    go : (t : Bool) → leb h.len room ≡ t → (s : Bool) → is_settled (width_of l) (take h.len h.bytes) ≡ s
        → n ≡ length (pick (t && not s) (take h.len h.bytes) []) → Front l h n
    go false a s f q = absurd (omega (arith, k, q))
    go true a true f q = absurd (omega (arith, k, q))
    go true a false f q =
        let m : h.len ≤ room = leb-true h.len room a in
        let z : n ≡ h.len = omega (arith, q, g, m, length-take h.len h.bytes) in
        record {
          is = rw (z, a, f) refl;
          untold = rw z f;
          fits = omega (arith, z, m, g);
        }

-- A PART, by what is known of the capture
module _ (x : SoFar) (s : List ℕ) where
  pub part_refused : (k : Refusal) → x.stage ≡ Refused k → x ≡ parted x s
  unfolding parted
  part_refused k e = rw e

  pub part_taken : (l : Layout) → x.stage ≡ Of l → onward l x.who x.bounds x.passed (held_of l x.held ++ s) ≡ parted x s
  unfolding parted
  part_taken l e = rw e

  pub part_none : x.stage ≡ Fresh → eqb (length s) 0 ≡ true → x ≡ parted x s
  unfolding parted
  part_none e h = rw (e, h)

  pub part_version : (k : Refusal) → x.stage ≡ Fresh → eqb (length s) 0 ≡ false → front_of s (length s) ≡ refused (number_of k)
      → stopped x.who x.bounds x.passed k ≡ parted x s
  unfolding parted
  part_version k e h f = rw (e, h, f, ← refusal_is k (number_of k) refl)

  pub part_opened : (l : Layout) → x.stage ≡ Fresh → eqb (length s) 0 ≡ false → front_of s (length s) ≡ full l
      → onward l x.who x.bounds x.passed (take (length s - 1) (drop 1 s)) ≡ parted x s
  unfolding parted
  part_opened l e h f = rw (e, h, f, tail_is s 1)
