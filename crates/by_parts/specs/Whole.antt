-- Whatever the cut, the same: after any parts a report is what it is after all of them as one, and its end is the report of document 02's
-- W-213 over the capture that they make together.
use Rattle.std.specs.Prelude.{ℕ, zero, suc, ◌+◌, ◌≤◌, ◌<◌, ◌≡◌, Bool, true, false, length, take, drop, replicate, eqb, None}
use Rattle.std.proofs.Math.Path.{refl, ap}
use Rattle.std.proofs.Common.{sym, ◌∙◌, le-leb, ne_eqb, arith}
use mathlib.Core.List.{List, [], ◌∷◌, ◌++◌, append_assoc, append-nil}
use Rattle.std.proofs.Math.ListN.{length-drop}
use Rattle.std.proofs.Math.Seq.{take-length}
use Rattle.refusal.specs.Answer.{refused, full, demand}
use Rattle.refusal.specs.declared.Refusal.{Refusal}
use Rattle.refusal.specs.declared.Refusal.TheVariants.{BadRecord}
use Rattle.stream.specs.Stream.{whole}
use Rattle.event.specs.declared.Layout.{Layout}
use Rattle.event.specs.declared.Layout.TheVariants.{Three}
use Rattle.event.specs.Layout.{width_of}
use Rattle.record.specs.Record.{Entry}
use Rattle.capture.specs.Capture.{is_version, layout_by, version_in, with_claim, front_of, records_from, records_in, sizes_of, walked, start, opened}
use Rattle.capture.specs.Says.{opened_refused, opened_short, opened_open}
use Rattle.capture.specs.Tally.{sizes_fit}
use Rattle.season.specs.declared.Corridor.{Corridor}
use Rattle.season.specs.declared.Boundaries.{Boundaries}
use Rattle.season.specs.Season.{rises, full64, plus}
use Rattle.tally.specs.Tally.{no_tally, tallied, seasons_in}
use Rattle.passing.specs.declared.Passed.{Passed}
use Rattle.passing.specs.Passing.{none_passed, more_passed}
use Rattle.passing.specs.More.{plus_in, more_none}
use Rattle.passing.specs.Going.{few_records}
use Rattle.report.specs.Report.{reported}
use Rattle.by_parts.specs.declared.Stage.TheVariants.{Of}
use Rattle.by_parts.specs.declared.SoFar.{SoFar}
use Rattle.by_parts.specs.Parts.{room, is_settled, holding, held_of, stopped, onward, begun, versioned, parted, parted_all, ended}
use Rattle.by_parts.specs.Numbered.{refusal_of, number_refusal}
use Rattle.by_parts.specs.Cut.{settled_cases}
use Rattle.by_parts.specs.Window.{over_front}
use Rattle.by_parts.specs.Onward.{none_behind, told_few, onward_cut, onward_bad}
use Rattle.by_parts.specs.Found.{held_there}

-- what is left and tells nothing is what is held
pub hold_held : (l : Layout) (s : List ℕ) → is_settled (width_of l) s ≡ false → held_of l (holding s) ≡ s
hold_held l s e =
    let f = over_front s (replicate room 0) in
    held_there l (holding s) (told_few l s e) (rw f e) ∙ f

-- the two ways that bytes from the place of a record on can leave a report
abbrev pub holding_on : Layout → Corridor → Boundaries → Passed → List ℕ → SoFar
holding_on l c b y z = record { who = c; bounds = b; stage = Of l; passed = y; held = holding z }

-- the good records of some bytes, and what they leave of them
abbrev pub good_in : Layout → Passed → List ℕ → List Entry
good_in l x s = records_from (width_of l) x.last s

abbrev pub left_of : Layout → Passed → List ℕ → List ℕ
left_of l x s = drop (sizes_of (good_in l x s)) s

module _ (l : Layout) (c : Corridor) (b : Boundaries) where
  module _ (x : Passed) (s : List ℕ) where
    pub onward_told : is_settled (width_of l) (left_of l x s) ≡ true → onward l c b x s ≡ stopped c b (more_passed c b x (good_in l x s)) BadRecord
    unfolding onward
    onward_told e = rw e

    pub onward_held : is_settled (width_of l) (left_of l x s) ≡ false → onward l c b x s ≡ holding_on l c b (more_passed c b x (good_in l x s)) (left_of l x s)
    unfolding onward
    onward_held e = rw e

  pub parted_stopped : (y : Passed) (k : Refusal) (p : List ℕ) → parted (stopped c b y k) p ≡ stopped c b y k
  unfolding parted
  parted_stopped y k p = refl

  pub parted_holding : (y : Passed) (z p : List ℕ) → parted (holding_on l c b y z) p ≡ onward l c b y (held_of l (holding z) ++ p)
  unfolding parted
  parted_holding y z p = refl

  -- ONE PART, AND ANOTHER, are both as one: from the place of a record on
  pub onward_then : (x : Passed) (s p : List ℕ) → parted (onward l c b x s) p ≡ onward l c b x (s ++ p)
  onward_then x s p = go (is_settled (width_of l) (left_of l x s)) refl ∙ sym (onward_cut l c b x s p)
    where
      go : (t : Bool) → is_settled (width_of l) (left_of l x s) ≡ t
          → parted (onward l c b x s) p ≡ onward l c b (more_passed c b x (good_in l x s)) (left_of l x s ++ p)
      go true e =
          let y : Passed = more_passed c b x (good_in l x s) in
          ap (λ (q : SoFar). parted q p) (onward_told x s e)
          ∙ parted_stopped y BadRecord p
          ∙ ap (λ (y : Passed). stopped c b y BadRecord) (sym (more_none c b x (good_in l x s)))
          ∙ onward_bad l c b y (left_of l x s) p e (none_behind (width_of l) x.last s)
      go false e =
          let y : Passed = more_passed c b x (good_in l x s) in
          ap (λ (q : SoFar). parted q p) (onward_held x s e)
          ∙ parted_holding y (left_of l x s) p
          ∙ ap (λ (z : List ℕ). onward l c b y (z ++ p)) (hold_held l (left_of l x s) e)

-- and from the version byte on
pub front_by : (v : ℕ) (s : List ℕ) → front_of (v ∷ s) (length (v ∷ s)) ≡ demand (is_version v) 14 (full (layout_by v))
unfolding version_in
front_by v s = rw (le-leb 1 (suc (length s)) (omega arith)) (go (is_version v))
  where
    go : (t : Bool) → with_claim (demand t 14 (full (layout_by v))) (v ∷ s) (length (v ∷ s)) ≡ demand t 14 (full (layout_by v))
    go true = rw (le-leb (suc (length s)) (suc (length s)) (omega arith))
    go false = refl

-- no byte at all, and an unknown version
none : (c : Corridor) (b : Boundaries) → ended (begun c b) ≡ reported [] 0 c b
unfolding ended reported version_in opened
none c b = refl

unknown : (c : Corridor) (b : Boundaries) (s : List ℕ) → front_of s (length s) ≡ refused 14 → ended (stopped c b none_passed (refusal_of 14)) ≡ reported s (length s) c b
unfolding ended reported
unknown c b s e = rw (number_refusal 14, ← opened_refused s (length s) 14 e)

module _ (c : Corridor) (b : Boundaries) where
  pub parted_none : parted (begun c b) [] ≡ begun c b
  unfolding parted
  parted_none = refl

  pub parted_first : (v : ℕ) (s : List ℕ) → parted (begun c b) (v ∷ s) ≡ versioned (demand (is_version v) 14 (full (layout_by v))) (begun c b) (v ∷ s)
  unfolding parted
  parted_first v s = rw (ne_eqb (suc (length s)) 0 (λ z. absurd (omega (arith, z))), front_by v s)

  pub parts_join : (s p : List ℕ) → parted (parted (begun c b) s) p ≡ parted (begun c b) (s ++ p)
  parts_join [] p = ap (λ (q : SoFar). parted q p) parted_none
  parts_join (v ∷ s) p =
      ap (λ (q : SoFar). parted q p) (parted_first v s) ∙ go (is_version v) ∙ sym (parted_first v (s ++ p))
    where
      go : (t : Bool)
          → parted (versioned (demand t 14 (full (layout_by v))) (begun c b) (v ∷ s)) p
          ≡ versioned (demand t 14 (full (layout_by v))) (begun c b) (v ∷ (s ++ p))
      go true = onward_then (layout_by v) c b none_passed s p
      go false = parted_stopped Three c b none_passed (refusal_of 14) p

  -- WHATEVER THE CUT, THE SAME
  behind_parts : (s : List ℕ) (ps : List (List ℕ)) → parted_all (parted (begun c b) s) ps ≡ parted (begun c b) (s ++ whole ps)
  unfolding parted_all whole
  behind_parts s [] = ap (parted (begun c b)) (sym (append-nil s))
  behind_parts s (p ∷ ps) =
      ap (λ (q : SoFar). parted_all q ps) (parts_join s p) ∙ behind_parts (s ++ p) ps ∙ ap (parted (begun c b)) (append_assoc s p (whole ps))

  pub in_parts : (ps : List (List ℕ)) → parted_all (begun c b) ps ≡ parted (begun c b) (whole ps)
  in_parts ps = ap (λ (q : SoFar). parted_all q ps) (sym parted_none) ∙ behind_parts [] ps

  -- THE END of one part is the report of the capture that it is
  module _ (v : ℕ) (s : List ℕ) (h : is_version v ≡ true) where
    known : front_of (v ∷ s) (suc (length s)) ≡ full (layout_by v)
    known = front_by v s ∙ rw h

    all : take (suc (length s)) (v ∷ s) ≡ v ∷ s
    all = take-length (v ∷ s)

    used : (walked (width_of (layout_by v)) (take (suc (length s)) (v ∷ s)) start).used ≡ 1 + sizes_of (good_in (layout_by v) none_passed s)
    used = ap (λ (x : List ℕ). 1 + sizes_of (records_from (width_of (layout_by v)) None (drop 1 x))) all

    -- some bytes are left, and none
    short : 0 < length (left_of (layout_by v) none_passed s) → refused 15 ≡ reported (v ∷ s) (suc (length s)) c b
    unfolding reported
    short n =
        let k = length-drop (sizes_of (good_in (layout_by v) none_passed s)) s in
        rw (← opened_short (v ∷ s) (suc (length s)) (layout_by v) (walked (width_of (layout_by v)) (take (suc (length s)) (v ∷ s)) start) known refl (omega (arith, n, k, used)))

    level : length (left_of (layout_by v) none_passed s) ≡ 0
        → demand (rises b) 20 (full (tallied c b no_tally (good_in (layout_by v) none_passed s)).seasons) ≡ reported (v ∷ s) (suc (length s)) c b
    unfolding reported
    level n =
        let k = length-drop (sizes_of (good_in (layout_by v) none_passed s)) s in
        let f = sizes_fit (width_of (layout_by v)) None s in
        rw (← opened_open (v ∷ s) (suc (length s)) (layout_by v) (walked (width_of (layout_by v)) (take (suc (length s)) (v ∷ s)) start) known refl (omega (arith, n, k, f, used)))
        (ap (λ (x : List ℕ). demand (rises b) 20 (full (seasons_in c b (records_in (width_of (layout_by v)) x)))) (sym all))

    told : is_settled (width_of (layout_by v)) (left_of (layout_by v) none_passed s) ≡ true → 0 < length (left_of (layout_by v) none_passed s)
    told e = settled_cases (width_of (layout_by v)) (left_of (layout_by v) none_passed s) e (λ n k. omega (arith, n)) (λ n. omega (arith, n))

    by_told : is_settled (width_of (layout_by v)) (left_of (layout_by v) none_passed s) ≡ true → ended (onward (layout_by v) c b none_passed s) ≡ refused 15
    unfolding ended
    by_told e = rw (onward_told (layout_by v) c b none_passed s e)

    by_held : is_settled (width_of (layout_by v)) (left_of (layout_by v) none_passed s) ≡ false
        → ended (onward (layout_by v) c b none_passed s)
        ≡ demand (eqb (length (left_of (layout_by v) none_passed s)) 0) 15 (demand (rises b) 20 (full (tallied c b no_tally (good_in (layout_by v) none_passed s)).seasons))
    unfolding ended
    by_held e = rw (onward_held (layout_by v) c b none_passed s e, hold_held (layout_by v) (left_of (layout_by v) none_passed s) e)

    ended_on : ended (onward (layout_by v) c b none_passed s) ≡ reported (v ∷ s) (suc (length s)) c b
    ended_on = go (is_settled (width_of (layout_by v)) (left_of (layout_by v) none_passed s)) refl
      where
        some : (n : ℕ) → length (left_of (layout_by v) none_passed s) ≡ n
            → demand (eqb n 0) 15 (demand (rises b) 20 (full (tallied c b no_tally (good_in (layout_by v) none_passed s)).seasons)) ≡ reported (v ∷ s) (suc (length s)) c b
        some zero e = level e
        some (suc n) e = rw (ne_eqb (suc n) 0 (λ z. absurd (omega (arith, z)))) (short (omega (arith, e)))

        go : (t : Bool) → is_settled (width_of (layout_by v)) (left_of (layout_by v) none_passed s) ≡ t
            → ended (onward (layout_by v) c b none_passed s) ≡ reported (v ∷ s) (suc (length s)) c b
        go true e = by_told e ∙ short (told e)
        go false e = by_held e ∙ some (length (left_of (layout_by v) none_passed s)) refl

  pub ended_whole : (s : List ℕ) → ended (parted (begun c b) s) ≡ reported s (length s) c b
  ended_whole [] = ap ended parted_none ∙ none c b
  ended_whole (v ∷ s) = ap ended (parted_first v s) ∙ go (is_version v) refl
    where
      go : (t : Bool) → is_version v ≡ t → ended (versioned (demand t 14 (full (layout_by v))) (begun c b) (v ∷ s)) ≡ reported (v ∷ s) (length (v ∷ s)) c b
      go true e = ended_on v s e
      go false e = unknown c b (v ∷ s) (front_by v s ∙ rw e)

  -- THE REPORT, PART BY PART: of all parts put together
  pub report_in_parts : (ps : List (List ℕ)) → ended (parted_all (begun c b) ps) ≡ reported (whole ps) (length (whole ps)) c b
  report_in_parts ps = ap ended (in_parts ps) ∙ ended_whole (whole ps)

  -- WHERE IT STANDS: the records passed are the good ones from the front, and the bytes passed are theirs, so that what is bad or cut short
  -- begins behind them, where a capture opened would stop
  passed_on : (l : Layout) (s : List ℕ) → (onward l c b none_passed s).passed ≡ more_passed c b none_passed (good_in l none_passed s)
  passed_on l s = go (is_settled (width_of l) (left_of l none_passed s)) refl
    where
      go : (t : Bool) → is_settled (width_of l) (left_of l none_passed s) ≡ t → (onward l c b none_passed s).passed ≡ more_passed c b none_passed (good_in l none_passed s)
      go true e = ap (λ (x : SoFar). x.passed) (onward_told l c b none_passed s e)
      go false e = ap (λ (x : SoFar). x.passed) (onward_held l c b none_passed s e)

  pub stands_at : (v : ℕ) (s : List ℕ) → is_version v ≡ true → length s ≤ full64
      → ((parted (begun c b) (v ∷ s)).passed.records ≡ length (records_in (width_of (layout_by v)) (v ∷ s)))
      × (1 + (parted (begun c b) (v ∷ s)).passed.bytes ≡ (walked (width_of (layout_by v)) (v ∷ s) start).used)
  stands_at v s h n =
      let l : Layout = layout_by v in
      let rs : List Entry = good_in l none_passed s in
      let f = sizes_fit (width_of l) None s in
      let k = few_records rs in
      let a : parted (begun c b) (v ∷ s) ≡ onward l c b none_passed s = parted_first v s ∙ rw h in
      let e : (parted (begun c b) (v ∷ s)).passed ≡ more_passed c b none_passed rs = ap (λ (x : SoFar). x.passed) a ∙ passed_on l s in
      let p : plus 0 (length rs) ≡ length rs = plus_in 0 (length rs) (omega (arith, n, f, k)) ∙ omega arith in
      let q : plus 0 (sizes_of rs) ≡ sizes_of rs = plus_in 0 (sizes_of rs) (omega (arith, n, f)) ∙ omega arith in
      (ap (λ (x : Passed). x.records) e ∙ p, ap (λ (x : Passed). 1 + x.bytes) e ∙ ap (λ (m : ℕ). 1 + m) q)
