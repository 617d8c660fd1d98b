-- What one request makes of a table.
use Rattle.std.specs.Prelude.{ℕ, suc, ◌+◌, ◌≤◌, ◌<◌, ◌≡◌, refl, Bool, true, false, ◌&&◌, List, [], ◌∷◌, ◌++◌, eqb, leb, length, get_or, set}
use Rattle.std.proofs.Common.{sym, ap, ◌∙◌, length-append, length-set, le-leb, arith}
use Rattle.std.specs.Int.Bits.{bit_or}
use Rattle.std.proofs.lemmas.Bool.{lt-leb}
use Rattle.refusal.specs.Test.{pick}
use Rattle.refusal.specs.Answer.{refused, full}
use Rattle.maps.specs.Bits.{bit_of_zero}
use Rattle.filter_asked.specs.declared.Filter.{Filter}
use Rattle.filter_asked.specs.declared.Change.{Change}
use Rattle.filter_asked.specs.declared.Change.TheVariants.{Add as add}
use Rattle.filter_asked.specs.Asked.{is_named}
use Rattle.filter_plan.specs.declared.Filters.{Filters}
use Rattle.filter_plan.specs.Filters.{with_mask, added, without, cleared, changed, next, is_of, is_hidden}
use Rattle.filter_plan.specs.Table.{none, table_of, list_of, IsTable, place_of, dropped}
use Rattle.filter_plan.specs.Places.{entry_at, place_most, joined, lessened, added_there, added_absent, cleared_there, cleared_absent, mask_there, mask_absent}
use Rattle.filter_plan.specs.Tables.{list_back, table_is, count_list, entry_list, table_set, table_more}

pub next_good : (x : Change) (l m : List Filter) → changed x l ≡ m → length m ≤ 64 → next x l ≡ full m
unfolding next
next_good x l m e h = rw (e, le-leb (length m) 64 h)

pub next_full : (x : Change) (l m : List Filter) → changed x l ≡ m → 64 < length m → next x l ≡ refused 19
unfolding next
next_full x l m e h = rw (e, lt-leb (length m) 64 h)

-- a good step: the table that it leaves, and what it says
abbrev pub Steps : Change → List Filter → Filters → Type 0
Steps x l t = IsTable t × (full (list_of t) ≡ next x l)

pub good_step : (x : Change) (l m : List Filter) (t : Filters) → changed x l ≡ m → length m ≤ 64 → t ≡ table_of m → Steps x l t
good_step x l m t e h q = rw q (table_is m h, ap full (list_back m) ∙ sym (next_good x l m e h))

-- no entry more than there were
pub cleared_length : (f : Filter) (l : List Filter) → length (cleared f l) ≤ length l
unfolding cleared
cleared_length f [] = omega arith
cleared_length f (g ∷ l) = go (is_of f.address f.instance g) (eqb (lessened f g).mask 0) (cleared_length f l)
  where
    go : (t u : Bool) → length (cleared f l) ≤ length l → length (pick t (pick u l (lessened f g ∷ l)) (g ∷ cleared f l)) ≤ suc (length l)
    go true true h = omega arith
    go true false h = omega arith
    go false u h = omega arith

module _ (t : Filters) (is : IsTable t) (f : Filter) (k : ℕ) (p : k ≡ place_of f.address f.instance (list_of t)) where
  abbrev l : List Filter
  l = list_of t

  abbrev g : Filter
  g = get_or t.entries k none

  within : k ≤ t.count
  within = omega (arith, p, place_most f.address f.instance l, count_list t is)

  same : k < t.count → g ≡ entry_at l k
  same h = entry_list t is k h none

  pub add_there : k < t.count → Steps (add f) l (record { entries = set t.entries k (with_mask g (bit_or g.mask f.mask)); count = t.count })
  add_there h =
      let e : added f l ≡ set l k (joined f g) = added_there f l (omega (arith, p, count_list t is)) ∙ ap (λ (i : ℕ). set l i (joined f (entry_at l i))) (sym p) ∙ ap (λ (x : Filter). set l k (joined f x)) (sym (same h)) in
      good_step (add f) l (set l k (joined f g)) _ e (omega (arith, length-set l k (joined f g), is.0, count_list t is)) (table_set t is k (joined f g) h)

  nothing_more : t.count ≤ k → eqb f.mask 0 ≡ true → added f l ≡ l
  nothing_more h z = added_absent f l (omega (arith, p, count_list t is)) ∙ rw z (append_none l)
    where
      append_none : (m : List Filter) → m ++ [] ≡ m
      append_none [] = refl
      append_none (x ∷ m) = ap (λ (n : List Filter). x ∷ n) (append_none m)

  one_more_lem : t.count ≤ k → eqb f.mask 0 ≡ false → added f l ≡ l ++ f ∷ []
  one_more_lem h z = added_absent f l (omega (arith, p, count_list t is)) ∙ rw z

  pub add_nothing : t.count ≤ k → eqb f.mask 0 ≡ true → full l ≡ next (add f) l
  add_nothing h z = sym (next_good (add f) l l (nothing_more h z) (omega (arith, is.0, count_list t is)))

  pub add_full : t.count ≤ k → eqb f.mask 0 ≡ false → t.count ≡ 64 → refused 19 ≡ next (add f) l
  add_full h z w = sym (next_full (add f) l (l ++ f ∷ []) (one_more_lem h z) (omega (arith, length-append l (f ∷ []), count_list t is)))

  pub add_made : t.count ≤ k → eqb f.mask 0 ≡ false → t.count < 64 → Steps (add f) l (record { entries = set t.entries t.count f; count = t.count + 1 })
  add_made h z w = good_step (add f) l (l ++ f ∷ []) _ (one_more_lem h z) (omega (arith, length-append l (f ∷ []), count_list t is)) (table_more t is f w)

  pub clear_absent : t.count ≤ k → t ≡ table_of (cleared f l)
  clear_absent h = is.1 ∙ ap table_of (sym (cleared_absent f l (omega (arith, p, count_list t is))))

  settles : k < t.count → cleared f l ≡ pick (eqb (without g.mask f.mask) 0) (dropped k l) (set l k (lessened f g))
  settles h =
      cleared_there f l (omega (arith, p, count_list t is))
      ∙ ap (λ (i : ℕ). pick (eqb (lessened f (entry_at l i)).mask 0) (dropped i l) (set l i (lessened f (entry_at l i)))) (sym p)
      ∙ ap (λ (x : Filter). pick (eqb (lessened f x).mask 0) (dropped k l) (set l k (lessened f x))) (sym (same h))

  pub clear_drops : k < t.count → eqb (without g.mask f.mask) 0 ≡ true → table_of (dropped k l) ≡ table_of (cleared f l)
  clear_drops h z = rw (settles h, z)

  pub clear_keeps : k < t.count → eqb (without g.mask f.mask) 0 ≡ false
      → ◌≡◌ {A = Filters} (record { entries = set t.entries k (lessened f g); count = t.count }) (table_of (cleared f l))
  clear_keeps h z = rw (settles h, z) (table_set t is k (lessened f g) h)

-- whether an event is hidden, by a look at the place of its entry
module _ (t : Filters) (is : IsTable t) (a i kind k : ℕ) (p : k ≡ place_of a i (list_of t)) where
  pub hidden_there : k < t.count → is_named (get_or t.entries k none).mask kind ≡ is_hidden (list_of t) a i kind
  hidden_there h =
      ap (λ (x : Filter). is_named x.mask kind) (entry_list t is k h none ∙ ap (entry_at (list_of t)) p)
      ∙ ap (λ (m : ℕ). is_named m kind) (sym (mask_there a i (list_of t) (omega (arith, p, count_list t is))))

  pub hidden_absent : t.count ≤ k → false ≡ is_hidden (list_of t) a i kind
  hidden_absent h = rw (mask_absent a i (list_of t) (omega (arith, p, count_list t is)), bit_of_zero kind) (none (leb kind 15))
    where
      none : (b : Bool) → false ≡ b && false
      none true = refl
      none false = refl
