-- A table's list, and what a store into a table makes of it.
use Rattle.std.specs.Prelude.{ℕ, suc, ◌+◌, ◌-◌, ◌≤◌, ◌<◌, ◌≡◌, refl, List, [], ◌∷◌, ◌++◌, length, get_or, set, replicate}
use Rattle.std.proofs.Common.{sym, ap, ◌∙◌, append_assoc, length-append, length-set, get_or-take, take_at, arith}
use Rattle.std.proofs.lemmas.List.{length-replicate, set-append_left, set_at}
use Rattle.filter_asked.specs.declared.Filter.{Filter}
use Rattle.filter_plan.specs.declared.Filters.{Filters}
use Rattle.filter_plan.specs.Table.{none, table_of, list_of, IsTable}

-- a list as a table, and back
pub list_back : (l : List Filter) → list_of (table_of l) ≡ l
list_back l = take_at l (replicate (64 - length l) none) (length l) refl

pub table_is : (l : List Filter) → length l ≤ 64 → IsTable (table_of l)
table_is l h = (h, ap table_of (sym (list_back l)))

module _ (t : Filters) (is : IsTable t) where
  pub count_list : t.count ≡ length (list_of t)
  count_list = ap (λ (x : Filters). x.count) is.1

  pub entries_64 : length t.entries ≡ 64
  entries_64 =
      ap (λ (x : Filters). length x.entries) is.1
      ∙ length-append (list_of t) (replicate (64 - length (list_of t)) none)
      ∙ omega (arith, is.0, count_list, length-replicate (64 - length (list_of t)) none)

  -- an entry, as the table and as the list has it
  pub entry_list : (k : ℕ) → k < t.count → (d : Filter) → get_or t.entries k d ≡ get_or (list_of t) k d
  entry_list k h d = sym (get_or-take t.count t.entries k d h)

  -- an entry stored over one that is there, and behind the last
  pub table_set : (k : ℕ) (g : Filter) → k < t.count → ◌≡◌ {A = Filters} (record { entries = set t.entries k g; count = t.count }) (table_of (set (list_of t) k g))
  table_set k g h =
      let l = list_of t in
      let q : length (set l k g) ≡ length l = length-set l k g in
      let e : set t.entries k g ≡ set l k g ++ replicate (64 - length (set l k g)) none =
      ap (λ (x : Filters). set x.entries k g) is.1
      ∙ set-append_left l (replicate (64 - length l) none) k g (omega (arith, count_list))
      ∙ ap (λ (n : ℕ). set l k g ++ replicate (64 - n) none) (sym q) in
      let n : t.count ≡ length (set l k g) = count_list ∙ sym q in
      λ j. record { entries = e j; count = n j }

  pub table_more : (f : Filter) → t.count < 64 → ◌≡◌ {A = Filters} (record { entries = set t.entries t.count f; count = t.count + 1 }) (table_of (list_of t ++ f ∷ []))
  table_more f h =
      let l = list_of t in
      let m = 63 - length l in
      let q : length (l ++ f ∷ []) ≡ length l + 1 = length-append l (f ∷ []) in
      let a : 64 - length l ≡ suc m = omega (arith, count_list) in
      let b : m ≡ 64 - length (l ++ f ∷ []) = omega (arith, q) in
      let e : set t.entries t.count f ≡ (l ++ f ∷ []) ++ replicate (64 - length (l ++ f ∷ [])) none =
      ap (λ (x : Filters). set x.entries t.count f) is.1
      ∙ ap (λ (n : ℕ). set (l ++ replicate n none) t.count f) a
      ∙ set_at l none (replicate m none) f t.count (sym count_list)
      ∙ sym (append_assoc l (f ∷ []) (replicate m none))
      ∙ ap (λ (n : ℕ). (l ++ f ∷ []) ++ replicate n none) b in
      let n : t.count + 1 ≡ length (l ++ f ∷ []) = omega (arith, q, count_list) in
      λ j. record { entries = e j; count = n j }
