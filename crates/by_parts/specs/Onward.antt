-- A report goes on with the bytes behind others as with both at once.
use Prim.Native.Nat.{ℕ, ◌+◌, ◌-◌, ◌≤◌, ◌<◌}
use Rattle.std.specs.Prelude.{◌≡◌, refl, Bool, false, length, take, Option, Some}
use Rattle.std.proofs.Math.Path.{sym, ap}
use Rattle.std.proofs.Common.{◌∙◌, length-append, length-take, take-append-drop, drop-drop, take_all, arith}
use Rattle.std.proofs.Math.Bool.{true}
use mathlib.Core.List.{List, [], ◌∷◌, ◌++◌, append-nil, append_assoc}
use Rattle.std.proofs.Math.ListN.{drop}
use Rattle.std.proofs.lemmas.List.{drop-append-le}
use Rattle.std.proofs.Math.Seq.{drop-append-add}
use Rattle.refusal.specs.Test.{not_both}
use Rattle.refusal.specs.Answer.{Answer, refused, full}
use Rattle.refusal.specs.declared.Refusal.TheVariants.{BadRecord}
use Rattle.event.specs.declared.Layout.{Layout}
use Rattle.event.specs.declared.Layout.TheVariants.{Three, Two}
use Rattle.event.specs.Layout.{width_of}
use Rattle.record.specs.Record.{Entry, record_size}
use Rattle.record.specs.Found.{holds}
use Rattle.summary.specs.Summary.{last_from}
use Rattle.capture.specs.Capture.{next_at, records_from, sizes_of}
use Rattle.capture.specs.Walk.{next_is, records_next, records_cases, sizes_append}
use Rattle.capture.specs.Tally.{sizes_fit}
use Rattle.season.specs.declared.Corridor.{Corridor}
use Rattle.season.specs.declared.Boundaries.{Boundaries}
use Rattle.passing.specs.declared.Passed.{Passed}
use Rattle.passing.specs.Passing.{more_passed}
use Rattle.passing.specs.More.{more_append}
use Rattle.by_parts.specs.Parts.{room, is_settled, stopped, leaving, onward}
use Rattle.by_parts.specs.Cut.{record_less, settled_more, bad_stays, all_there, unsettled_few, records_cut}
use Rattle.by_parts.specs.Window.{joined}

-- where there are none, none comes next
pub none_next : {P : Type 0} (w : ℕ) (last : Option ℕ) (s : List ℕ) → records_from w last s ≡ [] → ((k : ℕ) → next_at w last s ≡ refused k → P) → P
none_next {P} w last s e f = go (next_at w last s) refl
  where
    go : (a : Answer Entry) → next_at w last s ≡ a → P
    go (refused k) q = f k q
    go (full r) q =
        let z : ◌≡◌ {A = ℕ} (length (r ∷ records_from w (Some r.seconds) (drop (record_size r.datagram) s))) 0 = ap length (sym (records_next w last s r q) ∙ e) in
        absurd (omega (arith, z))

-- behind the good records stands none
append_none : (rs qs : List Entry) → rs ≡ rs ++ qs → qs ≡ []
append_none rs [] e = refl
append_none rs (q ∷ qs) e = absurd (omega (arith, ap (length {A = Entry}) e, length-append rs (q ∷ qs)))

pub none_behind : (w : ℕ) (last : Option ℕ) (s : List ℕ) → records_from w (last_from last (records_from w last s)) (drop (sizes_of (records_from w last s)) s) ≡ []
none_behind w last s =
    let rs : List Entry = records_from w last s in
    let z : List ℕ = drop (sizes_of rs) s in
    append_none rs (records_from w (last_from last rs) z)
    (ap (records_from w last) (sym (append-nil s)) ∙ records_cut w last s [] ∙ ap (λ (x : List ℕ). rs ++ records_from w (last_from last rs) x) (append-nil z))

-- what tells nothing has room
pub told_few : (l : Layout) (s : List ℕ) → is_settled (width_of l) s ≡ false → length s ≤ room
told_few Three s e = omega (arith, unsettled_few 3 s e)
told_few Two s e = omega (arith, unsettled_few 2 s e)

module _ (l : Layout) (c : Corridor) (b : Boundaries) where
  -- BYTES CUT IN TWO: the records of the front are passed, and what it leaves goes on with the others behind
  pub onward_cut : (x : Passed) (s p : List ℕ)
      → onward l c b x (s ++ p)
      ≡ onward l c b (more_passed c b x (records_from (width_of l) x.last s)) (drop (sizes_of (records_from (width_of l) x.last s)) s ++ p)
  unfolding onward
  onward_cut x s p =
      let rs : List Entry = records_from (width_of l) x.last s in
      let z : List ℕ = drop (sizes_of rs) s ++ p in
      let qs : List Entry = records_from (width_of l) (last_from x.last rs) z in
      let a : drop (sizes_of (rs ++ qs)) (s ++ p) ≡ drop (sizes_of qs) z =
      ap (λ (n : ℕ). drop n (s ++ p)) (sizes_append rs qs)
      ∙ sym (drop-drop (sizes_of qs) (sizes_of rs) (s ++ p))
      ∙ ap (drop (sizes_of qs)) (drop-append-le (sizes_of rs) s p (sizes_fit (width_of l) x.last s)) in
      ap (λ (r : List Entry). leaving l c b (more_passed c b x r) (drop (sizes_of r) (s ++ p))) (records_cut (width_of l) x.last s p)
      ∙ ap (leaving l c b (more_passed c b x (rs ++ qs))) a
      ∙ ap (λ (y : Passed). leaving l c b y (drop (sizes_of qs) z)) (sym (more_append c b x rs qs))

  -- bytes that begin with no good record, which they tell
  pub onward_bad : (x : Passed) (s p : List ℕ) → is_settled (width_of l) s ≡ true → records_from (width_of l) x.last s ≡ []
      → stopped c b (more_passed c b x []) BadRecord ≡ onward l c b x (s ++ p)
  unfolding onward
  onward_bad x s p e n =
      none_next (width_of l) x.last s n
      (λ k q.
      let a : records_from (width_of l) x.last (s ++ p) ≡ [] = bad_stays (width_of l) s p e x.last q in
      let t : is_settled (width_of l) (s ++ p) ≡ true = settled_more (width_of l) s p e in
      sym (ap (λ (r : List Entry). leaving l c b (more_passed c b x r) (drop (sizes_of r) (s ++ p))) a ∙ rw t))

  -- and that they do not tell
  pub onward_none : (x : Passed) (s : List ℕ) → records_from (width_of l) x.last s ≡ [] → leaving l c b (more_passed c b x []) s ≡ onward l c b x s
  unfolding onward
  onward_none x s n = sym (ap (λ (r : List Entry). leaving l c b (more_passed c b x r) (drop (sizes_of r) s)) n)

  -- WHAT WAS HELD, AND A PART. The window is the front of both
  module _ (x : Passed) (h p : List ℕ) (untold : is_settled (width_of l) h ≡ false) where
    pub window_whole : joined h p ++ drop (room + 1 - length h) p ≡ h ++ p
    window_whole =
        append_assoc h (take (room + 1 - length h) p) (drop (room + 1 - length h) p)
        ∙ ap (λ (x : List ℕ). h ++ x) (take-append-drop (room + 1 - length h) p)

    -- a window that tells nothing is all
    pub window_all : is_settled (width_of l) (joined h p) ≡ false → joined h p ≡ h ++ p
    window_all e =
        let n = told_few l (joined h p) e in
        let k = told_few l h untold in
        let a : length p ≤ room + 1 - length h = omega (arith, n, k, length-append h (take (room + 1 - length h) p), length-take (room + 1 - length h) p) in
        ap (λ (x : List ℕ). h ++ x) (take_all (room + 1 - length h) p a)

    -- a record that is passed takes more than was held
    pub window_takes : sizes_of (records_from (width_of l) x.last (joined h p)) < length h → records_from (width_of l) x.last (joined h p) ≡ []
    window_takes n =
        records_cases (width_of l) x.last (joined h p)
        (λ r e q.
        let z : List Entry = records_from (width_of l) (Some r.seconds) (drop (record_size r.datagram) (joined h p)) in
        let m : sizes_of (records_from (width_of l) x.last (joined h p)) ≡ record_size r.datagram + sizes_of z = ap sizes_of q in
        let f : record_size r.datagram ≤ length h = omega (arith, n, m) in
        let g = record_less (width_of l) h (take (room + 1 - length h) p) r (next_is (width_of l) x.last (joined h p) r e).0 f in
        let s = (holds (width_of l) h r g).size in
        not_both (all_there (width_of l) h (omega (arith, s, f))) untold)
        (λ q. q)

    -- no record is passed: the window is left
    pub resume_left : sizes_of (records_from (width_of l) x.last (joined h p)) < length h
        → leaving l c b (more_passed c b x (records_from (width_of l) x.last (joined h p))) (joined h p) ≡ onward l c b x (h ++ p)
    resume_left n =
        let e = window_takes n in
        ap (λ (r : List Entry). leaving l c b (more_passed c b x r) (joined h p)) e ∙ go (is_settled (width_of l) (joined h p)) refl e
      where
        go : (t : Bool) → is_settled (width_of l) (joined h p) ≡ t → records_from (width_of l) x.last (joined h p) ≡ []
            → leaving l c b (more_passed c b x []) (joined h p) ≡ onward l c b x (h ++ p)
        go true q e =
            rw q
            (onward_bad x (joined h p) (drop (room + 1 - length h) p) q e
            ∙ ap (onward l c b x) window_whole)
        go false q e = onward_none x (joined h p) e ∙ ap (onward l c b x) (window_all q)

    -- some are: the rest of the part goes on
    pub resume_on : length h ≤ sizes_of (records_from (width_of l) x.last (joined h p))
        → onward l c b (more_passed c b x (records_from (width_of l) x.last (joined h p))) (drop (sizes_of (records_from (width_of l) x.last (joined h p)) - length h) p)
        ≡ onward l c b x (h ++ p)
    resume_on n =
        let rs : List Entry = records_from (width_of l) x.last (joined h p) in
        let m : ℕ = sizes_of rs in
        let q : List ℕ = drop (room + 1 - length h) p in
        let k : length h + (m - length h) ≡ m = omega (arith, n) in
        let a : drop m (joined h p) ++ q ≡ drop (m - length h) p =
        sym (drop-append-le m (joined h p) q (sizes_fit (width_of l) x.last (joined h p)))
        ∙ ap (drop m) window_whole
        ∙ ap (λ (n : ℕ). drop n (h ++ p)) (sym k)
        ∙ drop-append-add h p (m - length h) in
        sym (ap (onward l c b x) (sym window_whole) ∙ onward_cut x (joined h p) q ∙ ap (onward l c b (more_passed c b x rs)) a)
