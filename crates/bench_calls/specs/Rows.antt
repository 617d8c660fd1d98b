-- The table by its columns, and laws of the search.
use lib.Pointwise.{pointwise}
use Rattle.std.specs.Prelude.{ℕ, ◌&&◌, nat_eq, suc, ◌+◌, ◌-◌, ◌≤◌, ◌<◌, ◌≡◌, refl, Bool, true, false, List, [], ◌∷◌, length, get_or, take, drop, eqb}
use Rattle.std.proofs.Common.{sym, ap, ◌∙◌}
use Rattle.refusal.specs.Test.{pick}
use Rattle.words.specs.Words.{text, before}
use Rattle.bench_words.specs.Words.{words_at}
use Rattle.bench_words.specs.Turns.{words_turn, words_done}
use Rattle.bench_calls.specs.Table.{Row, row, table, same_as, row_in, row_of, place_in}

abbrev pub names_of : List Row → List (List ℕ)
names_of [] = []
names_of (row s n ∷ rows) = text s ∷ names_of rows

abbrev pub numbers_of : List Row → List ℕ
numbers_of [] = []
numbers_of (row s n ∷ rows) = n ∷ numbers_of rows

-- the row of a name is the number at the name's place
pub row_placed : (rows : List Row) (name : List ℕ) → row_in rows name ≡ get_or (numbers_of rows) (place_in name (names_of rows)) 0
unfolding row_in place_in
row_placed [] name = refl
row_placed (row s n ∷ rows) name = go (same_as (text s) name) (row_placed rows name)
  where
    go : (t : Bool) → row_in rows name ≡ get_or (numbers_of rows) (place_in name (names_of rows)) 0
        → pick t n (row_in rows name) ≡ get_or (n ∷ numbers_of rows) (pick t 0 (suc (place_in name (names_of rows)))) 0
    go true h = refl
    go false h = h

pub row_found : (name : List ℕ) (k : ℕ) → k ≡ place_in name (names_of table) → row_of name ≡ get_or (numbers_of table) k 0
unfolding row_of
row_found name k e = row_placed table name ∙ ap (λ (n : ℕ). get_or (numbers_of table) n 0) (sym e)

-- two runs are the same exactly if `==` finds them so
pub same_is : (s t : List ℕ) → pointwise nat_eq s t ≡ same_as s t
unfolding same_as
same_is [] [] = refl
same_is [] (y ∷ t) = refl
same_is (x ∷ s) [] = refl
same_is (x ∷ s) (y ∷ t) = go (eqb x y) (same_is s t)
  where
    go : (b : Bool) → pointwise nat_eq s t ≡ same_as s t → b && pointwise nat_eq s t ≡ pick b (same_as s t) false
    go true h = h
    go false h = refl

-- the search for a name: found, further, the end
module _ (names name : List ℕ) (i e : ℕ) (h : i ≤ length names) (q : e ≡ i + before 32 (drop i names)) where
  pub place_here : same_as (take (e - i) (drop i names)) name ≡ true → place_in name (words_at i names) ≡ 0
  unfolding place_in
  place_here t = rw (words_turn names i e h q, t)

  pub place_on : same_as (take (e - i) (drop i names)) name ≡ false → place_in name (words_at i names) ≡ suc (place_in name (words_at (e + 1) names))
  unfolding place_in
  place_on t = rw (words_turn names i e h q, t)

pub place_end : (names name : List ℕ) (i : ℕ) → length names < i → place_in name (words_at i names) ≡ 0
unfolding place_in
place_end names name i h = rw (words_done names i h)
