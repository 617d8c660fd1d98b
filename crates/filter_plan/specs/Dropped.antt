-- An entry is dropped by a move of those behind it, one place each.
use Rattle.std.specs.Prelude.{ℕ, zero, suc, ◌+◌, ◌-◌, ◌≤◌, ◌<◌, ◌≡◌, refl, List, [], ◌∷◌, ◌++◌, length, set, take, drop, replicate}
use Rattle.std.proofs.Common.{sym, ap, ap₂, ◌∙◌, append_assoc, take_at, drop_at, length-drop, length-take-le, arith}
use Rattle.std.proofs.Math.Seq.{paste}
use Rattle.std.proofs.lemmas.List.{set_split, drop-drop, take-append-drop}
use Rattle.std.proofs.lemmas.List.Edits.{length-paste, take-paste, drop-paste}
use Rattle.filter_asked.specs.declared.Filter.{Filter}
use Rattle.filter_plan.specs.declared.Filters.{Filters}
use Rattle.filter_plan.specs.Table.{none, table_of, list_of, IsTable, dropped}
use Rattle.filter_plan.specs.Tables.{count_list}

dropped_split : (l : List Filter) (k : ℕ) → k < length l → dropped k l ≡ take k l ++ drop (suc k) l
unfolding dropped
dropped_split [] k h = absurd (omega arith)
dropped_split (x ∷ l) zero h = refl
dropped_split (x ∷ l) (suc k) h = ap (λ (m : List Filter). x ∷ m) (dropped_split l k (omega arith))

-- with the n behind the one at k copied one place up, to drop the last of them is to drop the one at k
pub moved_up : (l : List Filter) (k n : ℕ) → k + n < length l → dropped (k + n) (paste l k (drop (k + 1) l) n) ≡ dropped k l
moved_up l k n h =
    let s = paste l k (drop (k + 1) l) n in
    let y = drop (k + 1) l in
    let ly : n ≤ length y = omega (arith, length-drop (k + 1) l) in
    let ls : length s ≡ length l = length-paste l k y n (omega arith) ly in
    let a : take (k + n) s ≡ take k l ++ take n y = take-paste l k y n (omega arith) ly in
    let u : suc (k + n) ≡ k + n + 1 = omega arith in
    let v : k + n + 1 ≡ k + 1 + n = omega arith in
    let w : k + 1 ≡ suc k = omega arith in
    let b : drop (suc (k + n)) s ≡ drop n y =
    ap (λ (i : ℕ). drop i s) u ∙ sym (drop-drop 1 (k + n) s) ∙ ap (drop 1) (drop-paste l k y n (omega arith) ly) ∙ drop-drop 1 (k + n) l ∙ ap (λ (i : ℕ). drop i l) v ∙ sym (drop-drop n (k + 1) l) in
    dropped_split s (k + n) (omega arith) ∙ ap₂ (λ (u v : List Filter). u ++ v) a b ∙ append_assoc (take k l) (take n y) (drop n y)
    ∙ ap (λ (u : List Filter). take k l ++ u) (take-append-drop n y ∙ ap (λ (i : ℕ). drop i l) w) ∙ sym (dropped_split l k (omega arith))

dropped_append : (l r : List Filter) (k : ℕ) → k < length l → dropped k (l ++ r) ≡ dropped k l ++ r
unfolding dropped
dropped_append [] r k h = absurd (omega arith)
dropped_append (x ∷ l) r zero h = refl
dropped_append (x ∷ l) r (suc k) h = ap (λ (m : List Filter). x ∷ m) (dropped_append l r k (omega arith))

pub dropped_length : (l : List Filter) (k : ℕ) → k < length l → suc (length (dropped k l)) ≡ length l
unfolding dropped
dropped_length [] k h = absurd (omega arith)
dropped_length (x ∷ l) zero h = refl
dropped_length (x ∷ l) (suc k) h = ap suc (dropped_length l k (omega arith))

-- the last move: nothing stands in the last place
module _ (l s : List Filter) (k m : ℕ) (h : k < length l) (last : suc m ≡ length l) (whole : length s ≡ 64) (few : length l ≤ 64)
    (e : dropped m s ≡ dropped k (l ++ replicate (64 - length l) none)) where
  abbrev rest : List Filter
  rest = replicate (64 - length l) none

  size : length (dropped k l) ≡ m
  size = omega (arith, dropped_length l k h)

  both : take m s ++ drop (suc m) s ≡ dropped k l ++ rest
  both = sym (dropped_split s m (omega arith)) ∙ e ∙ dropped_append l rest k h

  front : take m s ≡ dropped k l
  front =
      sym (take_at (take m s) (drop (suc m) s) m (length-take-le m s (omega arith))) ∙ ap (take m) both ∙ take_at (dropped k l) rest m size

  behind : drop (suc m) s ≡ rest
  behind =
      sym (drop_at (take m s) (drop (suc m) s) m (length-take-le m s (omega arith))) ∙ ap (drop m) both ∙ drop_at (dropped k l) rest m size

  pub last_empty : set s m none ≡ dropped k l ++ replicate (64 - length (dropped k l)) none
  last_empty =
      let n : 64 - length (dropped k l) ≡ suc (64 - length l) = omega (arith, size) in
      set_split s m none (omega arith) ∙ ap₂ (λ (x y : List Filter). x ++ none ∷ y) front behind
      ∙ ap (λ (x : ℕ). dropped k l ++ replicate x none) (sym n)

-- of a table
pub table_dropped : (t : Filters) → IsTable t → (k m : ℕ) → k < t.count → suc m ≡ t.count → (s : List Filter) → length s ≡ 64 → dropped m s ≡ dropped k t.entries
    → ◌≡◌ {A = Filters} (record { entries = set s m none; count = m }) (table_of (dropped k (list_of t)))
table_dropped t is k m h q s w e =
    let c = count_list t is in
    let p : dropped m s ≡ dropped k (list_of t ++ replicate (64 - length (list_of t)) none) = e ∙ ap (λ (x : Filters). dropped k x.entries) is.1 in
    let x = last_empty (list_of t) s k m (omega arith) (omega arith) w (omega (arith, is.0)) p in
    let y : m ≡ length (dropped k (list_of t)) = omega (arith, dropped_length (list_of t) k (omega arith)) in
    λ j. record { entries = x j; count = y j }
