-- A scan on its way, one item after the other.
use Prim.Native.Nat.{ℕ, zero, suc, ◌+◌, ◌-◌, ◌≤◌, ◌<◌}
use Rattle.std.specs.Prelude.{◌≡◌, Bool, true, false, ◌&&◌, List, [], ◌∷◌, length, take, drop, eqb, Ok}
use Rattle.std.proofs.Math.Path.{refl}
use Rattle.std.proofs.Common.{sym, ap, ◌∙◌, length-drop, drop-drop, arith}
use Rattle.std.proofs.Math.ListN.{get_or-eq_default}
use Rattle.frame.specs.Frame.{byte}
use Rattle.command.specs.Command.{shape_of}
use Rattle.profile.specs.Profile.{is_inside}
use Rattle.stream.specs.Stream.{reading, Position, nothing, stands}
use Rattle.extent.specs.declared.Line.TheVariants.{Request}
use Rattle.line.specs.Rule.{item_at}
use Rattle.line.specs.Says.{none_at, stands_at}
use Rattle.quiet_run.specs.Quiet.{is_quiet}
use Rattle.quiet_run.specs.Scan.{loud_at, scan_at, scan_up_to, scan_from, scanned}

module _ (closed : Bool) where
  -- where nothing stands the scan is past, and else the item that stands there says how it goes
  up_to_none : (n at : ℕ) (s : List ℕ) → item_at Request closed s ≡ nothing → scan_up_to closed n at s ≡ Ok at
  unfolding scan_up_to
  up_to_none zero at s e = refl
  up_to_none (suc n) at s e = rw e

  up_to_next : (n at : ℕ) (s : List ℕ) (k m : ℕ) → item_at Request closed s ≡ stands k m
      → scan_up_to closed (suc n) at s ≡ scan_at at s (stands k m) (scan_up_to closed n (at + m) (drop m s))
  unfolding scan_up_to
  up_to_next n at s k m e = rw e

  -- how many items are looked at does not matter, where they are as many as bytes
  either : (n m at : ℕ) (s : List ℕ) (x : Position) → item_at Request closed s ≡ x
      → ((a : ℕ) (t : List ℕ) → length t < length s → scan_up_to closed n a t ≡ scan_up_to closed m a t)
      → scan_up_to closed (suc n) at s ≡ scan_up_to closed (suc m) at s
  either n m at s nothing e again = up_to_none (suc n) at s e ∙ sym (up_to_none (suc m) at s e)
  either n m at s (stands k z) e again =
      let w = stands_at Request closed s k z e in
      up_to_next n at s k z e
      ∙ ap (scan_at at s (stands k z)) (again (at + z) (drop z s) (simp length-drop (omega (arith, w.2, w.3))))
      ∙ sym (up_to_next m at s k z e)

  enough : (n m at : ℕ) (s : List ℕ) → length s ≤ n → length s ≤ m → scan_up_to closed n at s ≡ scan_up_to closed m at s
  enough zero zero at s hn hm = refl
  enough zero (suc m) at s hn hm =
      up_to_none zero at s (none_at Request closed s (omega arith)) ∙ sym (up_to_none (suc m) at s (none_at Request closed s (omega arith)))
  enough (suc n) zero at s hn hm =
      up_to_none (suc n) at s (none_at Request closed s (omega arith)) ∙ sym (up_to_none zero at s (none_at Request closed s (omega arith)))
  enough (suc n) (suc m) at s hn hm =
      either n m at s (item_at Request closed s) refl (λ a t l. enough n m a t (omega arith) (omega arith))

  pub scan_none : (at : ℕ) (s : List ℕ) → item_at Request closed s ≡ nothing → scan_from closed at s ≡ Ok at
  scan_none at s e = up_to_none (length s) at s e

  pub scan_next : (at : ℕ) (s : List ℕ) (k m : ℕ) → item_at Request closed s ≡ stands k m
      → scan_from closed at s ≡ scan_at at s (stands k m) (scan_from closed (at + m) (drop m s))
  scan_next at [] k m e = absurd (let w = stands_at Request closed [] k m e in omega (arith, w.2, w.3))
  scan_next at (b ∷ s) k m e =
      let w = stands_at Request closed (b ∷ s) k m e in
      let d = drop m (b ∷ s) in
      let l : length d ≤ length s = simp length-drop (omega (arith, w.2)) in
      up_to_next (length s) at (b ∷ s) k m e
      ∙ ap (scan_at at (b ∷ s) (stands k m)) (enough (length s) (length d) (at + m) d l (omega arith))

  -- the three ways that a scan can go at a place
  pub scan_cases : {P : Type 0} (at : ℕ) (s : List ℕ)
      → (item_at Request closed s ≡ nothing → scan_from closed at s ≡ Ok at → P)
      → ((k m : ℕ) → item_at Request closed s ≡ stands k m → is_quiet (reading k (take m s)) ≡ true
      → scan_from closed at s ≡ scan_from closed (at + m) (drop m s) → P)
      → ((k m : ℕ) → item_at Request closed s ≡ stands k m → is_quiet (reading k (take m s)) ≡ false → scan_from closed at s ≡ loud_at at k m → P)
      → P
  scan_cases {P} at s none quiet loud = go (item_at Request closed s) refl
    where
      heard : (k m : ℕ) (x : Bool) → is_quiet (reading k (take m s)) ≡ x → item_at Request closed s ≡ stands k m → P
      heard k m true q e = quiet k m e q (scan_next at s k m e ∙ rw q)
      heard k m false q e = loud k m e q (scan_next at s k m e ∙ rw q)

      go : (x : Position) → item_at Request closed s ≡ x → P
      go nothing e = none e (scan_none at s e)
      go (stands k m) e = heard k m (is_quiet (reading k (take m s))) refl e

-- an item that has no third byte is not quiet
zero_outside : is_inside 0 ≡ false
unfolding is_inside shape_of
zero_outside = refl

pub quiet_short : (k : ℕ) (l : List ℕ) → length l < 3 → false ≡ is_quiet (reading k l)
quiet_short k l h = go (eqb k 0)
  where
    none : is_inside (byte 2 l) ≡ false
    none = ap is_inside (get_or-eq_default l 0 {n = 2} (omega arith)) ∙ zero_outside

    go : (t : Bool) → false ≡ t && is_inside (byte 2 l)
    go true = sym none
    go false = refl

-- the scan of a run is at a place of it: what is left gives the whole
pub record Scanning (closed : Bool) (s : List ℕ) (at : ℕ) : Type 0 where
  pub there : at ≤ length s
  pub left : scanned closed s ≡ scan_from closed at (drop at s)

module _ {closed : Bool} {s : List ℕ} where
  pub scanning_starts : Scanning closed s 0
  scanning_starts = record { there = omega arith; left = refl }

  -- at the end of the bytes, and where no item stands
  pub stops_waiting : {at : ℕ} → Scanning closed s at → item_at Request closed (drop at s) ≡ nothing → Ok at ≡ scanned closed s
  stops_waiting {at} p e = sym (p.left ∙ scan_none closed at (drop at s) e)

  pub stops_end : {at : ℕ} → Scanning closed s at → length s ≤ at → Ok at ≡ scanned closed s
  stops_end {at} p h = stops_waiting p (none_at Request closed (drop at s) (simp length-drop (omega arith)))

  -- the item that stands at a place, by its number k and its size m
  module _ {at : ℕ} (p : Scanning closed s at) (k m : ℕ) (e : item_at Request closed (drop at s) ≡ stands k m) where
    part : at + m - at ≡ m
    part = omega arith

    pub stops_loud : is_quiet (reading k (take (at + m - at) (drop at s))) ≡ false → loud_at at k m ≡ scanned closed s
    stops_loud q =
        let f : is_quiet (reading k (take m (drop at s))) ≡ false = rw part at q in
        sym (p.left ∙ scan_next closed at (drop at s) k m e ∙ rw f)

    pub goes_on_lem : is_quiet (reading k (take (at + m - at) (drop at s))) ≡ true → Scanning closed s (at + m)
    goes_on_lem q =
        let f : is_quiet (reading k (take m (drop at s))) ≡ true = rw part at q in
        let w = stands_at Request closed (drop at s) k m e in
        record {
          there = omega (arith, w.3, length-drop at s);
          left = p.left ∙ scan_next closed at (drop at s) k m e ∙ rw (f, drop-drop m at s);
        }
