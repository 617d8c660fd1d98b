-- What a scan finds: of a closed run the first item that is not quiet; of an open one as much as the bytes at hand settle, whatever comes
-- behind them.
use Rattle.std.specs.Prelude.{ℕ, zero, suc, ◌+◌, ◌-◌, ◌≤◌, ◌<◌, ◌≡◌, refl, Bool, true, false, List, [], ◌∷◌, ◌++◌, length, take, drop, not, Option, Some, None, is_some, Result, Ok, Err}
use Rattle.std.specs.Result.{result_err}
use Rattle.std.proofs.Common.{sym, ap, ◌∙◌, length-drop, drop-drop, length-take-le, add_assoc, add-zero, arith}
use Rattle.std.proofs.Math.Nat.{sub-zero}
use Rattle.refusal.specs.Test.{pick, clash}
use Rattle.stream.specs.Stream.{Item, reading, nothing, stands, at_close, Settling, More, Settled, position, items}
use Rattle.stream.specs.Items.{items_front}
use Rattle.extent.specs.declared.Line.TheVariants.{Request}
use Rattle.extent.specs.Line.{cap_of}
use Rattle.line.specs.Rule.{item_at, settle}
use Rattle.line.specs.Laws.{lawful, waits_few}
use Rattle.line.specs.Says.{item_at_lem, nothing_at, stands_at, items_end, items_at}
use Rattle.quiet_run.specs.declared.Loud.{Loud}
use Rattle.quiet_run.specs.Quiet.{is_quiet, all_quiet, quiet_run, First, none, loud, first_loud}
use Rattle.quiet_run.specs.Scan.{loud_at, scan_from, scanned, said_first}
use Rattle.quiet_run.specs.Scanning.{scan_cases}

-- items are all quiet exactly if none is the first that is not
all_none : (at : ℕ) (is : List Item) → all_quiet is ≡ true → first_loud at is ≡ none
unfolding all_quiet first_loud
all_none at [] e = refl
all_none at (reading k l ∷ is) e = go (is_quiet (reading k l)) refl (all_none (at + length l) is)
  where
    go : (x : Bool) → is_quiet (reading k l) ≡ x → (all_quiet is ≡ true → first_loud (at + length l) is ≡ none)
        → first_loud at (reading k l ∷ is) ≡ none
    go true q again = rw q (again (rw q at e))
    go false q again = clash (let z : false ≡ true = rw q at e in cc)

none_all : (at : ℕ) (is : List Item) → first_loud at is ≡ none → all_quiet is ≡ true
unfolding all_quiet first_loud
none_all at [] e = refl
none_all at (reading k l ∷ is) e = go (is_quiet (reading k l)) refl (none_all (at + length l) is)
  where
    go : (x : Bool) → is_quiet (reading k l) ≡ x → (first_loud (at + length l) is ≡ none → all_quiet is ≡ true)
        → all_quiet (reading k l ∷ is) ≡ true
    go true q again = rw q (again (rw q at e))
    go false q again = clash (let z : loud at k (length l) ≡ none = rw q at e in cc)

pub quiet_first : (at : ℕ) (s : List ℕ)
    → (quiet_run s ≡ true → first_loud at (items (settle Request) s) ≡ none) × (first_loud at (items (settle Request) s) ≡ none → quiet_run s ≡ true)
quiet_first at s = (all_none at (items (settle Request) s), none_all at (items (settle Request) s))

-- the item at the front of a closed run, and what is first behind it
front : (p : ℕ) (s : List ℕ) (k m : ℕ) (is : List Item) → m ≤ length s
    → first_loud p (reading k (take m s) ∷ is) ≡ pick (is_quiet (reading k (take m s))) (first_loud (p + m) is) (loud p k m)
unfolding first_loud
front p s k m is h = rw (length-take-le m s h)

front_closed : (p : ℕ) (s : List ℕ) (k m : ℕ) → item_at Request true s ≡ stands k m
    → first_loud p (items (settle Request) s)
    ≡ pick (is_quiet (reading k (take m s))) (first_loud (p + m) (items (settle Request) (drop m s))) (loud p k m)
front_closed p s k m e =
    ap (first_loud p) (items_at Request s k m e) ∙ front p s k m (items (settle Request) (drop m s)) (stands_at Request true s k m e).3

-- and at that of an open one, whatever comes behind it: what is settled stays settled
settled : (s : List ℕ) (k m : ℕ) → item_at Request false s ≡ stands k m → (d : ℕ) × (settle Request s ≡ Settled k m d)
settled s k m e =
    let w = stands_at Request false s k m e in
    go (settle Request s) refl (sym (item_at_lem Request false s (omega (arith, w.2, w.3))) ∙ e)
  where
    go : (x : Settling) → settle Request s ≡ x → at_close false (position (settle Request s)) ≡ stands k m → (d : ℕ) × (settle Request s ≡ Settled k m d)
    go More q f = clash (let z : nothing ≡ stands k m = rw q at f in cc)
    go (Settled j n d) q f =
        let z : stands j n ≡ stands k m = rw q at f in
        let a : j ≡ k = cc in
        let b : n ≡ m = cc in
        (d, q ∙ rw (a, b))

front_open : (p : ℕ) (s t : List ℕ) (k m : ℕ) → item_at Request false s ≡ stands k m
    → first_loud p (items (settle Request) (s ++ t))
    ≡ pick (is_quiet (reading k (take m s))) (first_loud (p + m) (items (settle Request) (drop m s ++ t))) (loud p k m)
front_open p s t k m e =
    let x = settled s k m e in
    ap (first_loud p) (items_front (settle Request) (lawful Request) s t k m x.0 x.1)
    ∙ front p s k m (items (settle Request) (drop m s ++ t)) (stands_at Request false s k m e).3

-- what a scan of a closed run says of the first item that is not quiet
abbrev pub first_of : Result ℕ Loud → First
first_of (Ok j) = none
first_of (Err x) = loud x.place x.number x.size

closed_none : (p : ℕ) (s : List ℕ) → item_at Request true s ≡ nothing → first_loud p (items (settle Request) s) ≡ none
unfolding first_loud
closed_none p [] e = rw (items_end Request)
closed_none p (b ∷ s) e = clash (let z = (nothing_at Request true (b ∷ s) e (omega arith)).0 in cc)

pub scan_closed : (s : List ℕ) → first_of (scanned true s) ≡ first_loud 0 (items (settle Request) s)
scan_closed s = go (suc (length s)) 0 s (omega arith)
  where
    go : (n at : ℕ) (s : List ℕ) → length s < n → first_of (scan_from true at s) ≡ first_loud at (items (settle Request) s)
    go zero at s h = absurd (omega arith)
    go (suc n) at s h =
        scan_cases true at s
        (λ e q. ap first_of q ∙ sym (closed_none at s e))
        (λ k m e f q.
        let w = stands_at Request true s k m e in
        ap first_of q ∙ go n (at + m) (drop m s) (simp length-drop (omega (arith, w.2, w.3))) ∙ sym (rw f at (front_closed at s k m e)))
        (λ k m e f q. ap first_of q ∙ sym (rw f at (front_closed at s k m e)))

-- a scan that is past j bytes of an open run: the first item that is not quiet is then the first behind them, whatever comes; and what is
-- left has no more bytes than a reader of the line holds
record Passed (p at j : ℕ) (s t : List ℕ) : Type 0 where
  onward : at ≤ j
  there : j - at ≤ length s
  same : first_loud p (items (settle Request) (s ++ t)) ≡ first_loud (p + (j - at)) (items (settle Request) (drop (j - at) s ++ t))
  few : length (drop (j - at) s) ≤ cap_of Request

waiting : (s : List ℕ) → item_at Request false s ≡ nothing → length s ≤ cap_of Request
waiting [] e = omega arith
waiting (b ∷ s) e = waits_few Request (b ∷ s) (nothing_at Request false (b ∷ s) e (omega arith)).1

past_same : {j at : ℕ} → ◌≡◌ {A = Result ℕ Loud} (Ok at) (Ok j) → at ≡ j
past_same e = cc

passed : (t : List ℕ) (n p at j : ℕ) (s : List ℕ) → length s < n → scan_from false at s ≡ Ok j → Passed p at j s t
passed t zero p at j s h e = absurd (omega arith)
passed t (suc n) p at j s h e =
    scan_cases false at s
    (λ f q.
    let a : j - at ≡ 0 = omega (arith, past_same (sym q ∙ e)) in
    record {
      onward = omega (arith, past_same (sym q ∙ e));
      there = omega (arith, a);
      same = rw (a, add-zero p);
      few = rw a (waiting s f);
    })
    (λ k m f g q.
    let w = stands_at Request false s k m f in
    behind s m w.3 (rw g at (front_open p s t k m f)) (passed t n (p + m) (at + m) j (drop m s) (simp length-drop (omega (arith, w.2, w.3))) (sym q ∙ e)))
    (λ k m f g q. clash (let z : loud_at at k m ≡ Ok j = sym q ∙ e in cc))
  where
    behind : (s : List ℕ) (m : ℕ) → m ≤ length s
        → first_loud p (items (settle Request) (s ++ t)) ≡ first_loud (p + m) (items (settle Request) (drop m s ++ t))
        → Passed (p + m) (at + m) j (drop m s) t → Passed p at j s t
    behind s m w f x =
        let l = x.onward in
        let a : p + m + (j - (at + m)) ≡ p + (j - at) = omega arith in
        let b : m + (j - (at + m)) ≡ j - at = omega arith in
        let d : drop (j - (at + m)) (drop m s) ≡ drop (j - at) s = drop-drop (j - (at + m)) m s ∙ rw b in
        record {
          onward = omega arith;
          there = omega (arith, x.there, length-drop m s);
          same = f ∙ x.same ∙ rw (a, d);
          few = rw d at x.few;
        }

pub scan_goes_on : (s : List ℕ) (j : ℕ) → scanned false s ≡ Ok j
    → ((p : ℕ) (t : List ℕ) → first_loud p (items (settle Request) (s ++ t)) ≡ first_loud (p + j) (items (settle Request) (drop j s ++ t)))
    × (length (drop j s) ≤ cap_of Request)
    × (j ≤ length s)
scan_goes_on s j e = (
  (λ p t. rw sub-zero at (passed t (suc (length s)) p 0 j s (omega arith) e).same),
  rw sub-zero at (passed [] (suc (length s)) 0 0 j s (omega arith) e).few,
  rw sub-zero at (passed [] (suc (length s)) 0 0 j s (omega arith) e).there,
)

-- a scan that stopped: there an item stands, and it is not quiet
record Stopped (closed : Bool) (at j k m : ℕ) (s : List ℕ) : Type 0 where
  onward : at ≤ j
  stood : item_at Request closed (drop (j - at) s) ≡ stands k m
  noisy : is_quiet (reading k (take m (drop (j - at) s))) ≡ false

loud_parts : {at k m j k' m' : ℕ} → loud at k m ≡ loud j k' m' → (at ≡ j) × (k ≡ k') × (m ≡ m')
loud_parts e = (cc, cc, cc)

loud_same : {at k m j k' m' : ℕ} → loud_at at k m ≡ loud_at j k' m' → (at ≡ j) × (k ≡ k') × (m ≡ m')
loud_same e = loud_parts (ap first_of e)

stopped : (closed : Bool) (n at j k m : ℕ) (s : List ℕ) → length s < n → scan_from closed at s ≡ loud_at j k m → Stopped closed at j k m s
stopped closed zero at j k m s h e = absurd (omega arith)
stopped closed (suc n) at j k m s h e =
    scan_cases closed at s
    (λ f q. clash (let z : Ok at ≡ loud_at j k m = sym q ∙ e in cc))
    (λ k' m' f g q.
    let w = stands_at Request closed s k' m' f in
    behind m' (stopped closed n (at + m') j k m (drop m' s) (simp length-drop (omega (arith, w.2, w.3))) (sym q ∙ e)))
    (λ k' m' f g q. here k' m' f g (loud_same (sym q ∙ e)))
  where
    behind : (m' : ℕ) → Stopped closed (at + m') j k m (drop m' s) → Stopped closed at j k m s
    behind m' x =
        let l = x.onward in
        let b : m' + (j - (at + m')) ≡ j - at = omega arith in
        let d : drop (j - (at + m')) (drop m' s) ≡ drop (j - at) s = drop-drop (j - (at + m')) m' s ∙ rw b in
        record { onward = omega arith; stood = rw d at x.stood; noisy = rw d at x.noisy }

    here : (k' m' : ℕ) → item_at Request closed s ≡ stands k' m' → is_quiet (reading k' (take m' s)) ≡ false
        → (at ≡ j) × (k' ≡ k) × (m' ≡ m) → Stopped closed at j k m s
    here k' m' f g q =
        let a : j - at ≡ 0 = omega (arith, q.0) in
        record { onward = omega (arith, q.0); stood = rw (a, ← q.1, ← q.2) f; noisy = rw (a, ← q.1, ← q.2) g }

pub scan_stands : (closed : Bool) (s : List ℕ) (at k m : ℕ) → scanned closed s ≡ loud_at at k m
    → (item_at Request closed (drop at s) ≡ stands k m) × (is_quiet (reading k (take m (drop at s))) ≡ false)
scan_stands closed s at k m e =
    let x = stopped closed (suc (length s)) 0 at k m s (omega arith) e in
    (rw sub-zero at x.stood, rw sub-zero at x.noisy)

-- its bytes are there
pub scan_there : (closed : Bool) (s : List ℕ) (at k m : ℕ) → scanned closed s ≡ loud_at at k m → at + m ≤ length s
scan_there closed s at k m e =
    let w = stands_at Request closed (drop at s) k m (scan_stands closed s at k m e).0 in
    omega (arith, w.2, w.3, length-drop at s)

-- the first item that is not quiet stands at its place, and its bytes are there
same_loud : {at k m j k' m' : ℕ} → loud at k m ≡ loud j k' m' → loud_at at k m ≡ loud_at j k' m'
same_loud e = cc

first_scan : (s : List ℕ) (at k m : ℕ) → first_loud 0 (items (settle Request) s) ≡ loud at k m → scanned true s ≡ loud_at at k m
first_scan s at k m e = go (scanned true s) refl (scan_closed s ∙ e)
  where
    go : (x : Result ℕ Loud) → scanned true s ≡ x → first_of (scanned true s) ≡ loud at k m → scanned true s ≡ loud_at at k m
    go (Ok j) q f = clash (let z : none ≡ loud at k m = rw q at f in cc)
    go (Err x) q f = q ∙ same_loud (rw q at f)

pub first_stands : (s : List ℕ) (at k m : ℕ) → first_loud 0 (items (settle Request) s) ≡ loud at k m
    → (item_at Request true (drop at s) ≡ stands k m) × (is_quiet (reading k (take m (drop at s))) ≡ false)
first_stands s at k m e = scan_stands true s at k m (first_scan s at k m e)

pub first_item : (s : List ℕ) (at k m : ℕ) → first_loud 0 (items (settle Request) s) ≡ loud at k m → at + m ≤ length s
first_item s at k m e = scan_there true s at k m (first_scan s at k m e)

-- where the scan of an open run stops at an item that is not quiet, that is the first of the whole run, whatever comes behind
pub scan_stops : (s : List ℕ) (j k m : ℕ) → scanned false s ≡ loud_at j k m
    → (p : ℕ) (t : List ℕ) → first_loud p (items (settle Request) (s ++ t)) ≡ loud (p + j) k m
scan_stops s j k m e p t = rw sub-zero at (go (suc (length s)) p 0 s (omega arith) e)
  where
    at_front : (p at : ℕ) (s : List ℕ) (k' m' : ℕ) → first_loud p (items (settle Request) (s ++ t)) ≡ loud p k' m'
        → (at ≡ j) × (k' ≡ k) × (m' ≡ m) → first_loud p (items (settle Request) (s ++ t)) ≡ loud (p + (j - at)) k m
    at_front p at s k' m' f q =
        let a : p + (j - at) ≡ p = omega (arith, q.0) in
        f ∙ rw (a, q.1, q.2)

    onward : (p at m' : ℕ) → at + m' ≤ j → loud (p + m' + (j - (at + m'))) k m ≡ loud (p + (j - at)) k m
    onward p at m' l = ap (λ (x : ℕ). loud x k m) (omega arith)

    go : (n p at : ℕ) (s : List ℕ) → length s < n → scan_from false at s ≡ loud_at j k m
        → first_loud p (items (settle Request) (s ++ t)) ≡ loud (p + (j - at)) k m
    go zero p at s h e = absurd (omega arith)
    go (suc n) p at s h e =
        scan_cases false at s
        (λ f q. clash (let z : Ok at ≡ loud_at j k m = sym q ∙ e in cc))
        (λ k' m' f g q.
        let w = stands_at Request false s k' m' f in
        let l : length (drop m' s) < n = simp length-drop (omega (arith, w.2, w.3)) in
        (rw g at (front_open p s t k' m' f))
        ∙ go n (p + m') (at + m') (drop m' s) l (sym q ∙ e)
        ∙ onward p at m' (stopped false n (at + m') j k m (drop m' s) l (sym q ∙ e)).onward)
        (λ k' m' f g q. at_front p at s k' m' (rw g at (front_open p s t k' m' f)) (loud_same (sym q ∙ e)))

-- so the scan of a closed run tells the first item that is not quiet, and that tells whether there is none
said_err : (r : Result ℕ Loud) → said_first (result_err r) ≡ first_of r
said_err (Ok j) = refl
said_err (Err x) = refl

pub first_said : (s : List ℕ) (r : Result ℕ Loud) (x : Option Loud) → r ≡ scanned true s → x ≡ result_err r → said_first x ≡ first_loud 0 (items (settle Request) s)
first_said s r x e f = ap said_first f ∙ said_err r ∙ ap first_of e ∙ scan_closed s

pub passes_none : (s : List ℕ) → none ≡ first_loud 0 (items (settle Request) s) → true ≡ quiet_run s
passes_none s e = sym ((quiet_first 0 s).1 (sym e))

pub passes_loud : (s : List ℕ) (at k m : ℕ) → loud at k m ≡ first_loud 0 (items (settle Request) s) → false ≡ quiet_run s
passes_loud s at k m e = go (quiet_run s) refl
  where
    go : (x : Bool) → quiet_run s ≡ x → false ≡ quiet_run s
    go true q = clash (let z : none ≡ loud at k m = sym ((quiet_first 0 s).0 q) ∙ sym e in cc)
    go false q = sym q

pub passes_said : (s : List ℕ) (x : Option Loud) (b : Bool) → said_first x ≡ first_loud 0 (items (settle Request) s) → is_some x ≡ not b → b ≡ quiet_run s
passes_said s None true e h = passes_none s e
passes_said s None false e h = clash (cc)
passes_said s (Some x) true e h = clash (cc)
passes_said s (Some x) false e h = passes_loud s x.place x.number x.size e

-- the same items from a place further on: only the place is another
abbrev pub moved : ℕ → First → First
moved p none = none
moved p (loud at k m) = loud (p + at) k m

pub first_moved : (p at : ℕ) (is : List Item) → first_loud (p + at) is ≡ moved p (first_loud at is)
unfolding first_loud
first_moved p at [] = refl
first_moved p at (reading k l ∷ is) = go (is_quiet (reading k l)) (first_moved p (at + length l) is)
  where
    go : (x : Bool) → first_loud (p + (at + length l)) is ≡ moved p (first_loud (at + length l) is)
        → pick x (first_loud (p + at + length l) is) (loud (p + at) k (length l)) ≡ moved p (pick x (first_loud (at + length l) is) (loud at k (length l)))
    go true again = ap (λ (n : ℕ). first_loud n is) (add_assoc p at (length l)) ∙ again
    go false again = refl
