-- A plan gone through request by request, and the wanted events one by one.
use Rattle.std.specs.Prelude.{ℕ, zero, suc, ◌+◌, ◌*◌, ◌/◌, ◌%◌, ◌≤◌, ◌<◌, ◌≡◌, refl, true, false, List, [], ◌∷◌, ◌++◌, leb, length, take, drop, min, get_or}
use Rattle.std.proofs.Common.{sym, ap, ◌∙◌, length-append, take_all, take_at, drop_at, drop_of_length-le, leb-true, lt-ltb, le-ltb, arith}
use Rattle.std.proofs.Math.Decide.{ℕ_discrete}
use Rattle.std.proofs.lemmas.List.{drop-drop, append-nil, get_or-drop}
use Rattle.std.proofs.Math.ListN.{get_or-append}
use Rattle.refusal.specs.Test.{flag, clash}
use Rattle.refusal.specs.Answer.{Answer, refused, full, demand_elim, full_one}
use Rattle.maps.specs.Bit.{lowest}
use Rattle.filter_asked.specs.declared.Filter.{Filter}
use Rattle.filter_asked.specs.declared.Change.{Change}
use Rattle.filter_asked.specs.Asked.{asked}
use Rattle.filter_plan.specs.declared.Filters.{Filters}
use Rattle.filter_plan.specs.Filters.{changed, next, is_hidden}
use Rattle.filter_plan.specs.Plan.{request_at, requests, Went, well, bad, told_yes, told_bad, told_hidden, Run, run, filters_in, went_in, judged, step_of, onward, after, verdict, left_of, wants, hidden_at, first_hidden}
use Rattle.filter_plan.specs.Table.{table_of, left_by, list_of, IsTable}
use Rattle.filter_plan.specs.Tables.{list_back, table_is}

-- a good step is a change that leaves no more than 64 filters
pub step_changed : (a : Answer Change) (l m : List Filter) → step_of a l ≡ full m → (x : Change) × (a ≡ full x) × (changed x l ≡ m) × (length (changed x l) ≤ 64)
unfolding next
step_changed (refused n) l m e = clash (cc)
step_changed (full x) l m e = demand_elim (leb (length (changed x l)) 64) 19 (λ t q. (x, refl, full_one q, leb-true (length (changed x l)) 64 t)) e

pub step_few : (a : Answer Change) (l m : List Filter) → step_of a l ≡ full m → length m ≤ 64
step_few a l m e =
    let y = step_changed a l m e in
    rw (← y.2) y.3

-- one request more
pub after_good : (p : List ℕ) (k : ℕ) (l m : List Filter) → after p k ≡ run l well → step_of (asked (request_at p k)) l ≡ full m → after p (suc k) ≡ run m well
unfolding after
after_good p k l m e s = rw (e, s)

pub after_bad : (p : List ℕ) (k n : ℕ) (l : List Filter) → after p k ≡ run l well → step_of (asked (request_at p k)) l ≡ refused n → (j : ℕ) → k < j → after p j ≡ run l (bad k n)
unfolding after
after_bad p k n l e s zero h = absurd (omega arith)
after_bad p k n l e s (suc j) h = go (ℕ_discrete j k) (after_bad p k n l e s j)
  where
    go : Dec (j ≡ k) → (k < j → after p j ≡ run l (bad k n)) → onward (after p j) j (request_at p j) ≡ run l (bad k n)
    go (yes q) r = rw (q, e, s)
    go (no q) r = rw (r (omega arith))

-- no run leaves more than 64 filters
onward_few : (r : Run) (k : ℕ) (d : List ℕ) → length (filters_in r) ≤ 64 → length (filters_in (onward r k d)) ≤ 64
onward_few (run l (bad j n)) k d h = h
onward_few (run l well) k d h = go (step_of (asked d) l) refl
  where
    go : (v : Answer (List Filter)) → step_of (asked d) l ≡ v → length (filters_in (judged k l v)) ≤ 64
    go (refused n) e = h
    go (full m) e = step_few (asked d) l m e

pub after_few : (p : List ℕ) (k : ℕ) → length (filters_in (after p k)) ≤ 64
unfolding after
after_few p zero = omega arith
after_few p (suc k) = onward_few (after p k) k (request_at p k) (after_few p k)

pub left_table : (p : List ℕ) (w : Went) (t : Filters) → (w, t) ≡ left_by (left_of p) → IsTable t × (list_of t ≡ filters_in (left_of p)) × (w ≡ went_in (left_of p))
left_table p w t e = go (left_of p) (after_few p (requests p)) (ap (λ (z : Went × Filters). z.0) e) (ap (λ (z : Went × Filters). z.1) e)
  where
    go : (r : Run) → length (filters_in r) ≤ 64 → w ≡ (left_by r).0 → t ≡ (left_by r).1 → IsTable t × (list_of t ≡ filters_in r) × (w ≡ went_in r)
    go (run l v) h q o = (rw o (table_is l h), rw o (list_back l), q)

-- the verdict, by a look at how a plan went
pub verdict_well : (r : Run) (w : List ℕ) → went_in r ≡ well → first_hidden (filters_in r) w ≡ verdict r w
verdict_well (run l well) w e = refl
verdict_well (run l (bad j n)) w e = clash (cc)

pub verdict_bad : (r : Run) (w : List ℕ) (k n : ℕ) → went_in r ≡ bad k n → told_bad k n ≡ verdict r w
verdict_bad (run l well) w k n e = clash (cc)
verdict_bad (run l (bad j m)) w k n e = cc

-- at byte `at` of a plan stands the request with its eighth as number
pub request_at_lem : (p : List ℕ) (at : ℕ) → at % 8 ≡ 0 → take 8 (drop at p) ≡ request_at p (at / 8)
request_at_lem p at h =
    let e : at ≡ 8 * (at / 8) = omega arith in
    ap (λ (n : ℕ). take 8 (drop n p)) e

-- what is left of a plan, cut once more
module _ (p rest x more : List ℕ) (k size : ℕ) (e : rest ≡ drop (8 * k) p) (z : size ≡ 8) (s : rest ≡ x ++ more) (l : length x ≡ min size (length rest)) where
  cut : (take 8 rest ≡ x) × (drop 8 rest ≡ more)
  cut =
      let n : length rest ≡ length x + length more = ap length s ∙ length-append x more in
      elim (ℕ_discrete (length x) 8) [
        | yes q ↦ (ap (take 8) s ∙ take_at x more 8 q, ap (drop 8) s ∙ drop_at x more 8 q)
        | no q ↦
            let m : more ≡ [] = none more (omega arith) in
            let h : length rest ≤ 8 = omega arith in
            (take_all 8 rest h ∙ s ∙ ap (λ (y : List ℕ). x ++ y) m ∙ append-nil x, drop_of_length-le rest h ∙ sym m)
      ]
    where
      none : (y : List ℕ) → length y ≡ 0 → y ≡ []
      none [] h = refl
      none (b ∷ y) h = absurd (omega arith)

  pub cut_request : x ≡ request_at p k
  cut_request = sym cut.0 ∙ ap (take 8) e

  pub cut_more : (j : ℕ) → j ≡ k + 1 → more ≡ drop (8 * j) p
  cut_more j h =
      let q : 8 * k + 8 ≡ 8 * j = omega arith in
      sym cut.1 ∙ ap (drop 8) e ∙ drop-drop 8 (8 * k) p ∙ ap (λ (n : ℕ). drop n p) q

-- the turn of the loop, good and bad, and its end
abbrev pub Stands : List ℕ → ℕ → Filters → Type 0
Stands p k t = IsTable t × (after p k ≡ run (list_of t) well)

pub stands_first : (p : List ℕ) (k : ℕ) → k ≡ 0 → Stands p k (table_of [])
unfolding after
stands_first p k e = (table_is [] (omega arith), rw e)

module _ (p : List ℕ) (k : ℕ) (t : Filters) (is : Stands p k t) where
  pub stands_on : (u : Filters) (j : ℕ) → IsTable u → full (list_of u) ≡ step_of (asked (request_at p k)) (list_of t) → j ≡ k + 1 → Stands p j u
  stands_on u j iu e h =
      let q : j ≡ suc k = omega arith in
      (iu, ap (after p) q ∙ after_good p k (list_of t) (list_of u) is.1 (sym e))

  pub stands_bad : (n : ℕ) (u : Filters) → refused n ≡ step_of (asked (request_at p k)) (list_of t) → u ≡ t → k < requests p → (bad k n, u) ≡ left_by (left_of p)
  stands_bad n u e q h =
      let a : left_of p ≡ run (list_of t) (bad k n) = after_bad p k n (list_of t) is.1 (sym e) (requests p) h in
      rw a (λ j. (bad k n, (q ∙ is.0.1) j))

pub stands_end : (p : List ℕ) (k : ℕ) (t : Filters) → Stands p k t → k ≡ requests p → (well, t) ≡ left_by (left_of p)
stands_end p k t is q =
    let a : left_of p ≡ run (list_of t) well = ap (after p) (sym q) ∙ is.1 in
    rw a (λ j. (well, is.0.1 j))

-- the lowest of some, found by a look at one after the other
pub lowest_at : (w : ℕ) (f : ℕ → ℕ) (j : ℕ) → j < w → f j ≡ 1 → ((k : ℕ) → k < j → f k ≡ 0) → lowest f w ≡ j
unfolding lowest
lowest_at zero f j h e z = absurd (omega arith)
lowest_at (suc w) f zero h e z = rw e
lowest_at (suc w) f (suc j) h e z = rw (z 0 (omega arith)) (ap suc (lowest_at w (λ k. f (suc k)) j (omega arith) e (λ k l. z (suc k) (omega arith))))

pub lowest_none : (w : ℕ) (f : ℕ → ℕ) → ((k : ℕ) → k < w → f k ≡ 0) → lowest f w ≡ w
unfolding lowest
lowest_none zero f z = refl
lowest_none (suc w) f z = rw (z 0 (omega arith)) (ap suc (lowest_none w (λ k. f (suc k)) (λ k l. z (suc k) (omega arith))))

-- so the first wanted event that is hidden
module _ (l : List Filter) (w : List ℕ) where
  abbrev pub Shown : ℕ → Type 0
  Shown j = (k : ℕ) → k < j → hidden_at l w k ≡ false

  -- the event at the front of what is left of the list
  module _ (rest x more : List ℕ) (j size : ℕ) (e : rest ≡ drop (3 * j) w) (z : size ≡ 3) (s : rest ≡ x ++ more) (n : length x ≡ size) where
    at_front : (i : ℕ) → i < 3 → get_or x i 0 ≡ get_or w (3 * j + i) 0
    at_front i h = sym (get_or-append x more 0 i (omega arith)) ∙ ap (λ (y : List ℕ). get_or y i 0) (sym s ∙ e) ∙ get_or-drop (3 * j) w i 0

    pub front_event : is_hidden l (get_or x 0 0) (get_or x 1 0) (get_or x 2 0) ≡ hidden_at l w j
    front_event =
        let q : 3 * j + 0 ≡ 3 * j = omega arith in
        rw (at_front 0 (omega arith), at_front 1 (omega arith), at_front 2 (omega arith), q)

    pub front_more : (k : ℕ) → k ≡ j + 1 → more ≡ drop (3 * k) w
    front_more k h =
        let q : 3 * j + 3 ≡ 3 * k = omega arith in
        sym (drop_at x more 3 (n ∙ z)) ∙ ap (drop 3) (sym s ∙ e) ∙ drop-drop 3 (3 * j) w ∙ ap (λ (i : ℕ). drop i w) q

  pub shown_on : (i j : ℕ) → i ≡ j + 1 → Shown j → hidden_at l w j ≡ false → Shown i
  shown_on i j n z e k h = elim (ℕ_discrete k j) [ yes q ↦ rw q e | no q ↦ z k (omega arith) ]

  pub hidden_here : (j : ℕ) → j < wants w → Shown j → hidden_at l w j ≡ true → told_hidden j ≡ first_hidden l w
  hidden_here j h z e =
      let x : lowest (λ k. flag (hidden_at l w k)) (wants w) ≡ j = lowest_at (wants w) (λ k. flag (hidden_at l w k)) j h (ap flag e) (λ k g. ap flag (z k g)) in
      rw (x, lt-ltb j (wants w) h)

  pub none_hidden : Shown (wants w) → told_yes ≡ first_hidden l w
  none_hidden z =
      let x : lowest (λ k. flag (hidden_at l w k)) (wants w) ≡ wants w = lowest_none (wants w) (λ k. flag (hidden_at l w k)) (λ k g. ap flag (z k g)) in
      rw (x, le-ltb (wants w) (wants w) (omega arith))
