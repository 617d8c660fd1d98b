-- How long a buffer has to be for any name.
use Rattle.std.specs.Prelude.{ℕ, ◌+◌, ◌*◌, ◌≤◌, ◌≡◌, refl, Bool, true, false, ◌&&◌, List, [], ◌∷◌, length, eqb, leb}
use Rattle.std.proofs.Common.{leb-true}
use Rattle.refusal.specs.Test.{pick, clash, both_left, both_right}
use Rattle.refusal.specs.Answer.{full, full_one}
use Rattle.words.specs.Words.{text}
use Rattle.names.specs.Names.{Row, row, table, name_in, name_of}

-- whether each name of some rows has at most n bytes
abbrev within : ℕ → List Row → Bool
within n [] = true
within n (row k s ∷ rows) = leb (length (text s)) n && within n rows

name_within : (n : ℕ) (rows : List Row) → within n rows ≡ true → (key : ℕ) (f : List ℕ) → name_in rows key ≡ full f → length f ≤ n
unfolding name_in
name_within n [] h key f e = clash (cc)
name_within n (row k s ∷ rows) h key f e =
    go (eqb k key) (leb-true (length (text s)) n (both_left (leb (length (text s)) n) (within n rows) h)) (name_within n rows (both_right (leb (length (text s)) n) (within n rows) h) key f) e
  where
    go : (t : Bool) → length (text s) ≤ n → (name_in rows key ≡ full f → length f ≤ n) → pick t (full (text s)) (name_in rows key) ≡ full f → length f ≤ n
    go true l r q = rw (← full_one q) l
    go false l r q = r q

-- no name has more than 33 bytes
pub name_most : (kind number : ℕ) (f : List ℕ) → name_of kind number ≡ full f → length f ≤ 33
unfolding name_of
name_most kind number f e = name_within 33 table refl (kind * 256 + number) f e
