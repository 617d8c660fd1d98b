-- The table by its columns: the place of a key, and the names as one run of words.
use Prim.Native.Nat.{ℕ, suc, ◌+◌, ◌*◌, ◌≤◌, ◌<◌}
use Rattle.std.specs.Prelude.{◌≡◌, Bool, get_or, eqb, leb, Ok, Err, Option, unwrap_or}
use Rattle.std.proofs.Math.Path.{refl, sym, ap}
use Rattle.std.specs.Option.{MatchOption}
use Rattle.std.specs.List.{AllWithin, HoldsAt}
use Rattle.std.proofs.lemmas.Iterator.{index_from_first}
use Rattle.std.proofs.Common.{◌∙◌, leb-true, leb-false, ltb-true, ltb-false, arith}
use Rattle.std.proofs.Math.Bool.{true, false}
use mathlib.Core.List.{List, [], ◌∷◌}
use Rattle.std.proofs.Math.ListN.{length, get_or-eq_default}
use Rattle.std.proofs.Math.Dec.{ltb}
use Rattle.std.proofs.lemmas.Bool.{lt-leb}
use Rattle.refusal.specs.Test.{pick}
use Rattle.refusal.specs.Answer.{refused, full}
use Rattle.lent.specs.Puts.{Puts, over, over_none}
use Rattle.words.specs.Words.{text, before, word_in, joined, proper}
use Rattle.words.specs.Joined.{word_joined, word_some}
use Rattle.frame.specs.Written.{Written, put_written}
use Rattle.refusal.specs.declared.Refusal.TheVariants.{NoRoom}
use Rattle.names.specs.Names.{Row, row, table, name_in, name_of, named, name_text}

abbrev pub keys_of : List Row → List ℕ
keys_of [] = []
keys_of (row k s ∷ rows) = k ∷ keys_of rows

abbrev pub names_of : List Row → List (List ℕ)
names_of [] = []
names_of (row k s ∷ rows) = text s ∷ names_of rows

abbrev pub keys : List ℕ
keys = keys_of table

-- the place of the first key that is this one, or how many there are
unfoldable pub place_in : ℕ → List ℕ → ℕ
place_in key [] = 0
place_in key (k ∷ ks) = pick (eqb k key) 0 (suc (place_in key ks))

-- the first key that is this one, as a search through all finds it
pub place_first : (key : ℕ) (ks : List ℕ) (r : Option ℕ)
    → MatchOption r (AllWithin (λ x. eqb x key ≡ false) ks 0 (length ks)) (λ i. (i < length ks) × HoldsAt (λ x. eqb x key ≡ true) ks i × AllWithin (λ x. eqb x key ≡ false) ks 0 i)
    → place_in key ks ≡ unwrap_or r (length ks)
unfolding place_in
place_first key ks r h =
    index_from_first (place_in key) (λ x. eqb x key ≡ true) (λ x. eqb x key ≡ false) refl (λ x xs e. rw e) (λ x xs e. rw e (omega arith)) ks r h

-- the name of a key is the word at the key's place; a key that has none has no name
module _ (key : ℕ) where
  name_there : (rows : List Row) → place_in key (keys_of rows) < length (keys_of rows) → name_in rows key ≡ full (get_or (names_of rows) (place_in key (keys_of rows)) [])
  unfolding name_in place_in
  name_there [] h = absurd (omega arith)
  name_there (row k s ∷ rows) h = go (eqb k key) h (name_there rows)
    where
      go : (t : Bool) → pick t 0 (suc (place_in key (keys_of rows))) < suc (length (keys_of rows))
          → (place_in key (keys_of rows) < length (keys_of rows) → name_in rows key ≡ full (get_or (names_of rows) (place_in key (keys_of rows)) []))
          → pick t (full (text s)) (name_in rows key) ≡ full (get_or (text s ∷ names_of rows) (pick t 0 (suc (place_in key (keys_of rows)))) [])
      go true l f = refl
      go false l f = f (omega arith)

  name_nowhere : (rows : List Row) → length (keys_of rows) ≤ place_in key (keys_of rows) → name_in rows key ≡ refused 7
  unfolding name_in place_in
  name_nowhere [] h = refl
  name_nowhere (row k s ∷ rows) h = go (eqb k key) h (name_nowhere rows)
    where
      go : (t : Bool) → suc (length (keys_of rows)) ≤ pick t 0 (suc (place_in key (keys_of rows)))
          → (length (keys_of rows) ≤ place_in key (keys_of rows) → name_in rows key ≡ refused 7)
          → pick t (full (text s)) (name_in rows key) ≡ refused 7
      go true l f = absurd (omega arith)
      go false l f = f (omega arith)

-- the names as one run of words, a blank behind each
abbrev pub names : List ℕ
names = joined 32 (names_of table)

names_proper : proper 32 (names_of table) ≡ true
unfolding before
names_proper = refl

-- there are no more names than rows, and so none is put behind the last
word_none : (k : ℕ) → 83 ≤ k → word_in 32 k names ≡ []
word_none k h = word_joined 32 (names_of table) names_proper k ∙ get_or-eq_default (names_of table) [] {n = k} h

pub none_put : (out : List ℕ) (at k : ℕ) → 83 ≤ k → Puts (word_in 32 k names) out at at out
none_put out at k h = rw (word_none k h) (go (leb (at + 0) (length out)) refl)
  where
    go : (t : Bool) → leb (at + 0) (length out) ≡ t → Puts [] out at at out
    go true e = record { says = rw e (omega arith); leaves = rw e (sym (over_none out at)) }
    go false e = record { says = rw e; leaves = rw e }

module _ (kind number k : ℕ) (e : k ≡ place_in (kind * 256 + number) keys) where
  pub name_found : k < 83 → name_of kind number ≡ full (word_in 32 k names)
  unfolding name_of
  name_found h = name_there (kind * 256 + number) table (rw (← e) h) ∙ rw (← e) (ap full (sym (word_joined 32 (names_of table) names_proper k)))

  pub name_none : 83 ≤ k → name_of kind number ≡ refused 7
  unfolding name_of
  name_none h = name_nowhere (kind * 256 + number) table (rw (← e) h)

  -- so the word at the key's place is the name, or none
  pub name_text_lem : name_text kind number ≡ word_in 32 k names
  unfolding name_text
  name_text_lem = go (ltb k 83) refl
    where
      go : (t : Bool) → ltb k 83 ≡ t → name_text kind number ≡ word_in 32 k names
      go true h = ap named (name_found (ltb-true k 83 h))
      go false h = ap named (name_none (ltb-false k 83 h)) ∙ sym (word_none k (ltb-false k 83 h))

-- a text of some bytes that was put at the front of a buffer is written, and none was put exactly where there is no room for it
module _ (f out out' : List ℕ) (n : ℕ) (s : 0 < length f) (w : Puts f out 0 n out') where
  pub front_written : (n ≡ 0 → ⊥) → Written (full f) out (Ok n) out'
  front_written z = put_written (room (leb (0 + length f) (length out)) refl w.says) w
    where
      room : (t : Bool) → leb (0 + length f) (length out) ≡ t → n ≡ pick t (0 + length f) 0 → length f ≤ length out
      room true e p = omega (arith, leb-true (0 + length f) (length out) e)
      room false e p = absurd (z p)

  pub front_refused : n ≡ 0 → Written (full f) out (Err NoRoom) out'
  front_refused z = go (leb (0 + length f) (length out)) refl w.says w.leaves
    where
      go : (t : Bool) → leb (0 + length f) (length out) ≡ t → n ≡ pick t (0 + length f) 0 → out' ≡ pick t (over f out 0) out → Written (full f) out (Err NoRoom) out'
      go true e p q = absurd (omega arith)
      go false e p q =
          let r : leb (length f) (length out) ≡ false = lt-leb (length f) (length out) (omega (arith, leb-false (0 + length f) (length out) e)) in
          record { says = rw r; leaves = rw r q }

pub name_some : (k : ℕ) → k < 83 → 0 < length (word_in 32 k names)
name_some k h = rw (word_joined 32 (names_of table) names_proper k) (word_some 32 (names_of table) names_proper k h)
