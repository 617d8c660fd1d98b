-- What the check answers: "say yes exactly if every request is an accepted 31 or 33, the table never needs a 65th entry, and after the last request
-- no wanted event is hidden. A failing plan names its first bad request, or else the first wanted event hidden."
use Prim.Native.Nat.{ℕ, zero, suc, ◌≤◌, ◌<◌}
use Rattle.std.specs.Prelude.{◌≡◌, Bool, true, false, List, ◌⊎◌, ◌↔◌, leb, ltb, length}
use Rattle.std.proofs.Math.Path.{refl, sym, ap}
use Rattle.std.proofs.Common.{◌∙◌, leb-false, lt-ltb, ltb-true, arith}
use Rattle.std.proofs.Math.Logic.{inl, inr}
use Rattle.std.proofs.Math.Decide.{ℕ_discrete}
use Rattle.refusal.specs.Test.{pick, flag, clash, not_both}
use Rattle.refusal.specs.Answer.{Answer, refused, full}
use Rattle.maps.specs.Bit.{lowest, Least}
use Rattle.maps.specs.Bits.{lowest_least}
use Rattle.request.specs.Said.{Heard, command_of}
use Rattle.request.specs.Reading.{read_request}
use Rattle.filter_asked.specs.declared.Filter.{Filter}
use Rattle.filter_asked.specs.declared.Change.{Change}
use Rattle.filter_asked.specs.Asked.{asked}
use Rattle.filter_asked.specs.Requests.{IsFilter, asked_exactly, asked_refused, asked_31, asked_33, asked_18, read_numbers}
use Rattle.filter_plan.specs.Filters.{changed, next}
use Rattle.filter_plan.specs.Plan.{request_at, requests, Run, run, filters_in, went_in, judged, step_of, onward, after, left_of, wants, hidden_at, first_hidden, checked, Went, well, bad, told_yes, told_bad, told_hidden}
use Rattle.filter_plan.specs.Runs.{step_changed, after_good, after_bad, verdict_well, verdict_bad, Shown, hidden_here, none_hidden, lowest_none}
use Rattle.filter_plan.specs.Stepped.{next_good}

module _ (p : List ℕ) where
  -- "every request is an accepted 31 or 33"
  abbrev pub AllFilters : Type 0
  AllFilters = (k : ℕ) → k < requests p → IsFilter (request_at p k)

  -- "the table never needs a 65th entry"
  abbrev pub NeverFull : Type 0
  NeverFull = (k : ℕ) → k < requests p → (x : Change) → asked (request_at p k) ≡ full x → length (changed x (filters_in (after p k))) ≤ 64

  -- "after the last request no wanted event is hidden"
  abbrev pub NoneHidden : List ℕ → Type 0
  NoneHidden w = (j : ℕ) → j < wants w → hidden_at (filters_in (left_of p)) w j ≡ false

  -- what request k answers where those before it were good, and that it is good
  abbrev pub answer_at : ℕ → Answer (List Filter)
  answer_at k = step_of (asked (request_at p k)) (filters_in (after p k))

  abbrev pub IsGood : ℕ → Type 0
  IsGood k = (m : List Filter) × (answer_at k ≡ full m)

  pub well_at : (k : ℕ) → went_in (after p k) ≡ well → after p k ≡ run (filters_in (after p k)) well
  well_at k = go (after p k)
    where
      go : (r : Run) → went_in r ≡ well → r ≡ run (filters_in r) well
      go (run l w) e = ap (run l) e

  -- after some requests all went well exactly if each was good
  each_well : (n : ℕ) → ((k : ℕ) → k < n → IsGood k) → went_in (after p n) ≡ well
  unfolding after
  each_well zero h = refl
  each_well (suc n) h =
      let g = h n (omega arith) in
      ap went_in (after_good p n (filters_in (after p n)) g.0 (well_at n (each_well n (λ k l. h k (omega arith)))) g.1)

  -- how one more went
  onward_went : (r : Run) (k : ℕ) (d : List ℕ) → went_in (onward r k d) ≡ well → (went_in r ≡ well) × ((m : List Filter) × (step_of (asked d) (filters_in r) ≡ full m))
  onward_went (run l (bad j n)) k d e = clash (cc)
  onward_went (run l well) k d e = go (step_of (asked d) l) refl e
    where
      go : (v : Answer (List Filter)) → step_of (asked d) l ≡ v → went_in (judged k l v) ≡ well → (well ≡ well) × ((m : List Filter) × (step_of (asked d) l ≡ full m))
      go (refused n) q e = clash (cc)
      go (full m) q e = (refl, (m, q))

  pub well_before : (k : ℕ) → went_in (after p (suc k)) ≡ well → went_in (after p k) ≡ well
  unfolding after
  well_before k e = (onward_went (after p k) k (request_at p k) e).0

  pub well_last : (k : ℕ) → went_in (after p (suc k)) ≡ well → IsGood k
  unfolding after
  well_last k e = (onward_went (after p k) k (request_at p k) e).1

  well_each : (n : ℕ) → went_in (after p n) ≡ well → (k : ℕ) → k < n → IsGood k
  well_each zero e k h = absurd (omega arith)
  well_each (suc n) e k h = elim (ℕ_discrete k n) [ yes q ↦ rw q (well_last n e) | no q ↦ well_each n (well_before n e) k (omega arith) ]

  -- and the first bad one is where it went otherwise
  FirstBad : ℕ → ℕ → ℕ → Type 0
  FirstBad n k m = (k < n) × ((j : ℕ) → j < k → IsGood j) × (answer_at k ≡ refused m)

  onward_bad : (r : Run) (j : ℕ) (d : List ℕ) (k m : ℕ) → went_in (onward r j d) ≡ bad k m
      → (went_in r ≡ bad k m) ⊎ ((went_in r ≡ well) × (k ≡ j) × (step_of (asked d) (filters_in r) ≡ refused m))
  onward_bad (run l (bad i n)) j d k m e = inl e
  onward_bad (run l well) j d k m e = go (step_of (asked d) l) refl e
    where
      go : (v : Answer (List Filter)) → step_of (asked d) l ≡ v → went_in (judged j l v) ≡ bad k m → (well ≡ bad k m) ⊎ ((well ≡ well) × (k ≡ j) × (step_of (asked d) l ≡ refused m))
      go (refused n) q e = inr (refl, cc, q ∙ ap refused (cc))
      go (full x) q e = clash (cc)

  bad_first : (n k m : ℕ) → went_in (after p n) ≡ bad k m → FirstBad n k m
  unfolding after FirstBad
  bad_first zero k m e = clash (cc)
  bad_first (suc n) k m e =
      elim (onward_bad (after p n) n (request_at p n) k m e) [
        | inl b ↦ (let r = bad_first n k m b in (omega (arith, r.0), r.1, r.2))
        | inr b ↦ (omega (arith, b.1), (λ j h. well_each n b.0 j (omega (arith, b.1))), rw b.1 b.2)
      ]

  first_bad_went : (n k m : ℕ) → FirstBad n k m → went_in (after p n) ≡ bad k m
  unfolding FirstBad
  first_bad_went n k m h = ap went_in (after_bad p k m (filters_in (after p k)) (well_at k (each_well k h.1)) h.2 n h.0)

  -- a request is good exactly if it is an accepted 31 or 33 that needs no 65th entry
  good_filter : (k : ℕ) → IsGood k → IsFilter (request_at p k) × ((x : Change) → asked (request_at p k) ≡ full x → length (changed x (filters_in (after p k))) ≤ 64)
  good_filter k g =
      let y = step_changed (asked (request_at p k)) (filters_in (after p k)) g.0 g.1 in
      ((asked_exactly (request_at p k)).0 (y.0, y.1), λ x e. same x e y)
    where
      same : (x : Change) → asked (request_at p k) ≡ full x
          → (z : Change) × (asked (request_at p k) ≡ full z) × (changed z (filters_in (after p k)) ≡ g.0) × (length (changed z (filters_in (after p k))) ≤ 64)
          → length (changed x (filters_in (after p k))) ≤ 64
      same x e y =
          let q : y.0 ≡ x = cc in
          rw (← q) y.3

  filter_good : (k : ℕ) → IsFilter (request_at p k) → ((x : Change) → asked (request_at p k) ≡ full x → length (changed x (filters_in (after p k))) ≤ 64) → IsGood k
  filter_good k f h =
      let y = (asked_exactly (request_at p k)).1 f in
      (changed y.0 (filters_in (after p k)), ap (λ (a : Answer Change). step_of a (filters_in (after p k))) y.1 ∙ next_good y.0 (filters_in (after p k)) _ refl (h y.0 y.1))

  pub good_exactly : (k : ℕ) → IsGood k ↔ (IsFilter (request_at p k) × ((x : Change) → asked (request_at p k) ≡ full x → length (changed x (filters_in (after p k))) ≤ 64))
  good_exactly k = (good_filter k, λ h. filter_good k h.0 h.1)

  module _ (w : List ℕ) where
    abbrev shows : ℕ → ℕ
    shows j = flag (hidden_at (filters_in (left_of p)) w j)

    flag_two : (b : Bool) → flag b < 2
    flag_two true = omega arith
    flag_two false = omega arith

    flag_true : (b : Bool) → flag b ≡ 1 → b ≡ true
    flag_true true e = refl
    flag_true false e = clash (cc)

    flag_false : (b : Bool) → flag b ≡ 0 → b ≡ false
    flag_false true e = clash (cc)
    flag_false false e = refl

    hidden_says : (j : ℕ) → first_hidden (filters_in (left_of p)) w ≡ told_hidden j → (j < wants w) × (hidden_at (filters_in (left_of p)) w j ≡ true) × Shown (filters_in (left_of p)) w j
    hidden_says j e = go (ltb (lowest shows (wants w)) (wants w)) refl e (lowest_least (wants w) shows (λ k. flag_two (hidden_at (filters_in (left_of p)) w k)))
      where
        go : (t : Bool) → ltb (lowest shows (wants w)) (wants w) ≡ t → pick t (told_hidden (lowest shows (wants w))) told_yes ≡ told_hidden j
            → Least shows (wants w) (lowest shows (wants w)) ⊎ ((k : ℕ) → k < wants w → shows k ≡ 0)
            → (j < wants w) × (hidden_at (filters_in (left_of p)) w j ≡ true) × Shown (filters_in (left_of p)) w j
        go false q e y = clash (cc)
        go true q e (inl y) =
            let x : lowest shows (wants w) ≡ j = cc in
            rw (← x) (y.inside, flag_true _ y.set, λ k h. flag_false _ (y.none k h))
        go true q e (inr z) = absurd (omega (arith, lowest_none (wants w) shows z, ltb-true (lowest shows (wants w)) (wants w) q))

    yes_says : first_hidden (filters_in (left_of p)) w ≡ told_yes → NoneHidden w
    yes_says e = go (ltb (lowest shows (wants w)) (wants w)) refl e (lowest_least (wants w) shows (λ k. flag_two (hidden_at (filters_in (left_of p)) w k)))
      where
        go : (t : Bool) → ltb (lowest shows (wants w)) (wants w) ≡ t → pick t (told_hidden (lowest shows (wants w))) told_yes ≡ told_yes
            → Least shows (wants w) (lowest shows (wants w)) ⊎ ((k : ℕ) → k < wants w → shows k ≡ 0) → NoneHidden w
        go true q e y = clash (cc)
        go false q e (inl y) = not_both (lt-ltb (lowest shows (wants w)) (wants w) y.inside) q
        go false q e (inr z) = λ j h. flag_false _ (z j h)

    by_went : (x : Went) → (x ≡ well) ⊎ ((k : ℕ) × (n : ℕ) × (x ≡ bad k n))
    by_went well = inl refl
    by_went (bad k n) = inr (k, n, refl)

    -- what the check says where a plan went well, and where it did not
    said_well : went_in (left_of p) ≡ well → checked p w ≡ first_hidden (filters_in (left_of p)) w
    unfolding checked
    said_well e = sym (verdict_well (left_of p) w e)

    said_bad : (k n : ℕ) → went_in (left_of p) ≡ bad k n → checked p w ≡ told_bad k n
    unfolding checked
    said_bad k n e = sym (verdict_bad (left_of p) w k n e)

    no_bad : (t : Bool) (x j k n : ℕ) → pick t (told_hidden x) told_yes ≡ told_bad k n → ⊥
    no_bad true x j k n e = clash (cc)
    no_bad false x j k n e = clash (cc)

    pub yes_exactly : (checked p w ≡ told_yes) ↔ (AllFilters × NeverFull × NoneHidden w)
    yes_exactly = (to, λ h. said_well (went_well h) ∙ sym (none_hidden (filters_in (left_of p)) w h.2))
      where
        to : checked p w ≡ told_yes → AllFilters × NeverFull × NoneHidden w
        to e = elim (by_went (went_in (left_of p))) [
          | inl q ↦ (let g = well_each (requests p) q in ((λ k h. (good_filter k (g k h)).0), (λ k h. (good_filter k (g k h)).1), yes_says (sym (said_well q) ∙ e)))
          | inr y ↦ clash (no (said_bad y.0 y.1 y.2))
        ]
          where
            no : {k n : ℕ} → checked p w ≡ told_bad k n → ◌≡◌ {A = ℕ} 0 1
            no f = cc

        went_well : AllFilters × NeverFull × NoneHidden w → went_in (left_of p) ≡ well
        went_well h = each_well (requests p) (λ k g. filter_good k (h.0 k g) (h.1 k g))

    -- the first bad request, with its number: those before it were good
    pub first_bad : (k n : ℕ) → (checked p w ≡ told_bad k n) ↔ ((k < requests p) × ((j : ℕ) → j < k → IsGood j) × (answer_at k ≡ refused n))
    unfolding FirstBad
    first_bad k n = (to, λ h. said_bad k n (first_bad_went (requests p) k n h))
      where
        to : checked p w ≡ told_bad k n → (k < requests p) × ((j : ℕ) → j < k → IsGood j) × (answer_at k ≡ refused n)
        to e = elim (by_went (went_in (left_of p))) [
          | inl q ↦ absurd (no_bad (ltb (lowest shows (wants w)) (wants w)) (lowest shows (wants w)) k k n (sym (said_well q) ∙ e))
          | inr y ↦ bad_first (requests p) k n (y.2 ∙ same (sym (said_bad y.0 y.1 y.2) ∙ e))
        ]
          where
            same : {i m : ℕ} → told_bad i m ≡ told_bad k n → bad i m ≡ bad k n
            same f = cc

    -- the first wanted event hidden: no request is bad, and no wanted event before it is hidden
    pub first_hidden_lem : (j : ℕ)
        → (checked p w ≡ told_hidden j) ↔ ((AllFilters × NeverFull) × (j < wants w) × (hidden_at (filters_in (left_of p)) w j ≡ true) × ((k : ℕ) → k < j → hidden_at (filters_in (left_of p)) w k ≡ false))
    first_hidden_lem j = (to, λ h. said_well (each_well (requests p) (λ k g. filter_good k (h.0.0 k g) (h.0.1 k g))) ∙ sym (hidden_here (filters_in (left_of p)) w j h.1 h.3 h.2))
      where
        to : checked p w ≡ told_hidden j
            → (AllFilters × NeverFull) × (j < wants w) × (hidden_at (filters_in (left_of p)) w j ≡ true) × ((k : ℕ) → k < j → hidden_at (filters_in (left_of p)) w k ≡ false)
        to e = elim (by_went (went_in (left_of p))) [
          | inl q ↦ (let g = well_each (requests p) q in let y = hidden_says j (sym (said_well q) ∙ e) in (((λ k h. (good_filter k (g k h)).0), (λ k h. (good_filter k (g k h)).1)), y.0, y.1, y.2))
          | inr y ↦ clash (no (said_bad y.0 y.1 y.2))
        ]
          where
            no : {k n : ℕ} → checked p w ≡ told_bad k n → ◌≡◌ {A = ℕ} 0 1
            no f = cc

-- the number of a refused request: "1 to 7 for a plan's request, 18 for a command other than 31 or 33, 19 for a 65th entry, in that order"
pub data Reason (d : List ℕ) (l : List Filter) (n : ℕ) : Type 0 where
  unread : read_request d ≡ refused n → 1 ≤ n → n ≤ 7 → Reason d l n
  other : (h : Heard) → read_request d ≡ full h → (command_of h ≡ 0x31 → ⊥) → (command_of h ≡ 0x33 → ⊥) → n ≡ 18 → Reason d l n
  too_many : (x : Change) → asked d ≡ full x → 64 < length (changed x l) → n ≡ 19 → Reason d l n

pub reason_told : (d : List ℕ) (l : List Filter) (n : ℕ) → step_of (asked d) l ≡ refused n → Reason d l n
unfolding next
reason_told d l n e = go (asked d) refl e
  where
    unasked : (k : ℕ) → asked d ≡ refused k → k ≡ n → Reason d l n
    unasked k a q = read (read_request d) refl
      where
        commanded : (h : Heard) → read_request d ≡ full h → Dec (command_of h ≡ 0x31) → Dec (command_of h ≡ 0x33) → Reason d l n
        commanded h r (yes c) y =
            let z = sym a ∙ asked_31 d h r c in
            clash (cc)
        commanded h r (no m) (yes c) =
            let z = sym a ∙ asked_33 d h r c in
            clash (cc)
        commanded h r (no m) (no c) =
            let z = sym a ∙ asked_18 d h r m c in
            other h r m c (sym q ∙ cc)

        read : (v : Answer Heard) → read_request d ≡ v → Reason d l n
        read (refused j) r =
            let z : refused k ≡ refused j = sym a ∙ asked_refused d j r in
            let y : ◌≡◌ {A = ℕ} j n = cc in
            let w = read_numbers d n (r ∙ ap refused y) in
            unread (r ∙ ap refused y) w.0 w.1
        read (full h) r = commanded h r (ℕ_discrete (command_of h) 0x31) (ℕ_discrete (command_of h) 0x33)

    crowded : (x : Change) (t : Bool) → leb (length (changed x l)) 64 ≡ t → asked d ≡ full x → pick t (full (changed x l)) (refused 19) ≡ refused n → Reason d l n
    crowded x true q a f = clash (cc)
    crowded x false q a f = too_many x a (leb-false (length (changed x l)) 64 q) (cc)

    go : (v : Answer Change) → asked d ≡ v → step_of v l ≡ refused n → Reason d l n
    go (refused k) a f = unasked k a (cc)
    go (full x) a f = crowded x (leb (length (changed x l)) 64) refl a f
