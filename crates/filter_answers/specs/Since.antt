-- Since which request an event is hidden: the trace of its type through the requests, without the filters, tells what the filters tell.
use Prim.Native.Nat.{ℕ, zero, suc, ◌*◌, ◌<◌}
use Rattle.std.proofs.Math.Path.{◌≡◌, refl, sym, ap}
use Rattle.std.proofs.Common.{◌∙◌, arith}
use Rattle.std.specs.Prelude.{Bool, not, ◌&&◌, ◌||◌, leb, drop, Option, None, Some}
use Rattle.std.proofs.Math.Bool.{true, false}
use mathlib.Core.List.{List}
use Rattle.std.proofs.Math.Decide.{ℕ_discrete}
use Rattle.refusal.specs.Test.{pick, clash}
use Rattle.refusal.specs.Answer.{Answer, refused, full}
use Rattle.sum.specs.Bytes.{Bytes, bytes_take, bytes_drop}
use Rattle.maps.specs.Bits.{bit_of_zero}
use Rattle.filter_asked.specs.declared.Filter.{Filter}
use Rattle.filter_asked.specs.declared.Change.{Change}
use Rattle.filter_asked.specs.declared.Change.TheVariants.{Add as add, Clear as clear}
use Rattle.filter_asked.specs.Asked.{asked}
use Rattle.filter_asked.specs.Requests.{mask_fits}
use Rattle.filter_plan.specs.Filters.{changed, mask_at, is_hidden}
use Rattle.filter_plan.specs.Plan.{request_at, filters_in, went_in, after, well}
use Rattle.filter_since.specs.Trace.{concerns, or_since, traced, since_by}
use Rattle.filter_plan.specs.Runs.{step_changed, after_good}
use Rattle.filter_answers.specs.Kept.{Distinct, kept}
use Rattle.filter_answers.specs.Hidden.{joined_bit, cleared_bit}
use Rattle.filter_answers.specs.Answers.{well_at, well_before, well_last}

abbrev pub is_since : Option ℕ → Bool
is_since None = false
is_since (Some j) = true

module _ (a i t : ℕ) where
  abbrev concern : Filter → Bool
  concern f = concerns a i t f

  since_added : (k : ℕ) (c : Bool) (s : Option ℕ) → is_since (pick c (or_since s k) s) ≡ is_since s || c
  since_added k true None = refl
  since_added k true (Some j) = refl
  since_added k false None = refl
  since_added k false (Some j) = refl

  since_cleared : (c : Bool) (s : Option ℕ) → is_since (pick c None s) ≡ is_since s && not c
  since_cleared true None = refl
  since_cleared true (Some j) = refl
  since_cleared false None = refl
  since_cleared false (Some j) = refl

  step : (d : List ℕ) → Bytes d → (l : List Filter) → Distinct l → (x : Change) → asked d ≡ full x → (k : ℕ) (s : Option ℕ)
      → is_hidden l a i t ≡ is_since s → is_hidden (changed x l) a i t ≡ is_since (traced a i t k (full x) s)
  step d b l h (add f) e k s q = joined_bit f a i l t ∙ ap (λ (y : Bool). y || concern f) q ∙ sym (since_added k (concern f) s)
  step d b l h (clear f) e k s q = cleared_bit f a i (mask_fits d b (clear f) e) l h t ∙ ap (λ (y : Bool). y && not (concern f)) q ∙ sym (since_cleared (concern f) s)

  -- one good request more of a plan: 31 hides what it concerns, 33 shows that, and no other event changes
  more : (p : List ℕ) (k : ℕ) → went_in (after p (suc k)) ≡ well → (x : Change) → asked (request_at p k) ≡ full x → filters_in (after p (suc k)) ≡ changed x (filters_in (after p k))
  more p k e x q =
      let g = well_last p k e in
      let y = step_changed (asked (request_at p k)) (filters_in (after p k)) g.0 g.1 in
      let z : y.0 ≡ x = cc in
      ap filters_in (after_good p k (filters_in (after p k)) g.0 (well_at p k (well_before p k e)) g.1) ∙ sym y.2 ∙ ap (λ (c : Change). changed c (filters_in (after p k))) z

  pub request_31 : (p : List ℕ) (k : ℕ) → went_in (after p (suc k)) ≡ well → (f : Filter) → asked (request_at p k) ≡ full (add f)
      → is_hidden (filters_in (after p (suc k))) a i t ≡ is_hidden (filters_in (after p k)) a i t || concerns a i t f
  request_31 p k e f q = ap (λ (l : List Filter). is_hidden l a i t) (more p k e (add f) q) ∙ joined_bit f a i (filters_in (after p k)) t

  pub request_33 : (p : List ℕ) → Bytes p → (k : ℕ) → went_in (after p (suc k)) ≡ well → (f : Filter) → asked (request_at p k) ≡ full (clear f)
      → is_hidden (filters_in (after p (suc k))) a i t ≡ is_hidden (filters_in (after p k)) a i t && not (concerns a i t f)
  request_33 p b k e f q =
      ap (λ (l : List Filter). is_hidden l a i t) (more p k e (clear f) q)
      ∙ cleared_bit f a i (mask_fits (request_at p k) (bytes_take 8 (drop (8 * k) p) (bytes_drop (8 * k) p b)) (clear f) q) (filters_in (after p k)) (kept p k).one t

  -- after good requests an event is hidden exactly if there is a request since which it is
  pub since_hidden : (p : List ℕ) → Bytes p → (k : ℕ) → went_in (after p k) ≡ well → is_hidden (filters_in (after p k)) a i t ≡ is_since (since_by p a i t k)
  unfolding after since_by mask_at
  since_hidden p b zero e = rw (bit_of_zero t) (none (leb t 15))
    where
      none : (b : Bool) → b && false ≡ false
      none true = refl
      none false = refl
  since_hidden p b (suc k) e =
      let d = request_at p k in
      let w = well_before p k e in
      let g = well_last p k e in
      let y = step_changed (asked d) (filters_in (after p k)) g.0 g.1 in
      let m : filters_in (after p (suc k)) ≡ g.0 = ap filters_in (after_good p k (filters_in (after p k)) g.0 (well_at p k w) g.1) in
      ap (λ (x : List Filter). is_hidden x a i t) (m ∙ sym y.2)
      ∙ step d (bytes_take 8 (drop (8 * k) p) (bytes_drop (8 * k) p b)) (filters_in (after p k)) (kept p k).one y.0 y.1 k (since_by p a i t k) (since_hidden p b k w)
      ∙ ap (λ (v : Answer Change). is_since (traced a i t k v (since_by p a i t k))) (sym y.1)

  -- that request adds the type, no request behind it clears it, and before it there is none since which the event is hidden
  pub record Begins (p : List ℕ) (j k : ℕ) : Type 0 where
    pub inside : j < k
    pub adds : (f : Filter) × (asked (request_at p j) ≡ full (add f)) × (concerns a i t f ≡ true)
    pub lasts : (n : ℕ) → j < n → n < k → (f : Filter) → asked (request_at p n) ≡ full (clear f) → concerns a i t f ≡ false
    pub fresh : since_by p a i t j ≡ None

  further : (p : List ℕ) (j k : ℕ) → Begins p j k → ((f : Filter) → asked (request_at p k) ≡ full (clear f) → concerns a i t f ≡ false) → Begins p j (suc k)
  further p j k b h = record { inside = omega (arith, b.inside); adds = b.adds; lasts = λ n g l f e. go n g l f e (ℕ_discrete n k); fresh = b.fresh }
    where
      go : (n : ℕ) → j < n → n < suc k → (f : Filter) → asked (request_at p n) ≡ full (clear f) → Dec (n ≡ k) → concerns a i t f ≡ false
      go n g l f e (yes q) = h f (rw (← q) e)
      go n g l f e (no q) = b.lasts n g (omega arith) f e

  pub since_begins : (p : List ℕ) (j k : ℕ) → since_by p a i t k ≡ Some j → Begins p j k
  unfolding since_by
  since_begins p j zero e = clash (cc)
  since_begins p j (suc k) e = go (asked (request_at p k)) refl (since_by p a i t k) refl e (since_begins p j k)
    where
      added : (f : Filter) → asked (request_at p k) ≡ full (add f) → (c : Bool) → concerns a i t f ≡ c → (s : Option ℕ) → since_by p a i t k ≡ s
          → pick c (or_since s k) s ≡ Some j → (since_by p a i t k ≡ Some j → Begins p j k) → Begins p j (suc k)
      added f q true c None z e r =
          let y : ◌≡◌ {A = ℕ} k j = cc in
          rw (← y) (record { inside = omega arith; adds = (f, q, c); lasts = λ n g l h w. absurd (omega arith); fresh = z })
      added f q true c (Some m) z e r = further p j k (r (z ∙ e)) (λ h w. clash (cc))
      added f q false c s z e r = further p j k (r (z ∙ e)) (λ h w. clash (cc))

      cleared : (f : Filter) → asked (request_at p k) ≡ full (clear f) → (c : Bool) → concerns a i t f ≡ c → (s : Option ℕ) → since_by p a i t k ≡ s
          → pick c None s ≡ Some j → (since_by p a i t k ≡ Some j → Begins p j k) → Begins p j (suc k)
      cleared f q true c s z e r = clash (cc)
      cleared f q false c s z e r =
          further p j k (r (z ∙ e))
          (λ h w.
          let y : f ≡ h = cc in
          rw (← y) c)

      go : (v : Answer Change) → asked (request_at p k) ≡ v → (s : Option ℕ) → since_by p a i t k ≡ s → traced a i t k v s ≡ Some j
          → (since_by p a i t k ≡ Some j → Begins p j k) → Begins p j (suc k)
      go (refused n) q s z e r = further p j k (r (z ∙ e)) (λ h w. clash (cc))
      go (full (add f)) q s z e r = added f q (concerns a i t f) refl s z e r
      go (full (clear f)) q s z e r = cleared f q (concerns a i t f) refl s z e r
