-- Laws of places: where a search stands, and the words behind it.
use Prim.Native.Nat.{ℕ, zero, suc, ◌+◌, ◌-◌, ◌≤◌, ◌<◌}
use Rattle.std.specs.Prelude.{◌≡◌, refl, Bool, true, false, get_or, take, eqb}
use Rattle.std.proofs.Math.Path.{sym, ap}
use Rattle.std.proofs.Common.{◌∙◌, length-drop, drop-cons, eq-eqb, ne_eqb, add-one}
use mathlib.Core.List.{List, [], ◌∷◌}
use Rattle.std.proofs.Math.ListN.{length, drop, drop_of_length-le}
use Rattle.std.proofs.Math.Seq.{drop-drop}
use native.Mathlib.Omega.{arith}
use Rattle.refusal.specs.Test.{pick}
use Rattle.words.specs.Words.{before, first_in, word_in}

-- a search from a place on: one byte further, or found, or at the end
pub before_on : (b : ℕ) (s : List ℕ) (i : ℕ) → i < length s → (get_or s i 0 ≡ b → ⊥) → before b (drop i s) ≡ suc (before b (drop (i + 1) s))
unfolding before
before_on b s i h n = rw (add-one, drop-cons s i 0, ne_eqb (get_or s i 0) b n)

pub before_here : (b : ℕ) (s : List ℕ) (i : ℕ) → i < length s → get_or s i 0 ≡ b → before b (drop i s) ≡ 0
unfolding before
before_here b s i h e = rw (drop-cons s i 0, eq-eqb (get_or s i 0) b e)

pub before_end : (b : ℕ) (s : List ℕ) (i : ℕ) → length s ≤ i → before b (drop i s) ≡ 0
unfolding before
before_end b s i h = rw (drop_of_length-le s h)

-- never behind the end
pub before_most : (b : ℕ) (s : List ℕ) → before b s ≤ length s
unfolding before
before_most b [] = omega arith
before_most b (c ∷ s) = go (eqb c b) (before_most b s)
  where
    go : (t : Bool) → before b s ≤ length s → pick t 0 (suc (before b s)) ≤ suc (length s)
    go true h = omega arith
    go false h = omega arith

-- where a search from a place on ends
pub until_within : (b : ℕ) (s : List ℕ) (i e : ℕ) → i ≤ length s → e ≡ i + before b (drop i s) → (i ≤ e) × (e ≤ length s)
until_within b s i e h q = (omega arith, omega (arith, before_most b (drop i s), length-drop i s))

-- a search for a word that has come to a place, with so many words still to pass: it passes one, or none is left, or it is there
pub word_none : (b k : ℕ) → word_in b k [] ≡ []
unfolding before word_in
word_none b zero = refl
word_none b (suc k) = word_none b k

module _ (b n : ℕ) (s w : List ℕ) (i : ℕ) (h : word_in b n (drop i s) ≡ w) where
  module _ (e : ℕ) (l : 0 < n) (q : e ≡ i + before b (drop i s)) where
    pub word_turn : word_in b (n - 1) (drop (e + 1) s) ≡ w
    unfolding word_in
    word_turn =
        let m : n ≡ suc (n - 1) = omega arith in
        let k : i + suc (before b (drop i s)) ≡ e + 1 = omega arith in
        let d : drop (suc (before b (drop i s))) (drop i s) ≡ drop (e + 1) s = drop-drop (suc (before b (drop i s))) i s ∙ ap (λ (x : ℕ). drop x s) k in
        sym (ap (word_in b (n - 1)) d) ∙ sym (ap (λ (x : ℕ). word_in b x (drop i s)) m) ∙ h

    pub word_left : length s ≤ e → first_in b (drop (length s) s) ≡ w
    unfolding before
    word_left z =
        let x : length s ≤ e + 1 = omega arith in
        let y : length s ≤ length s = omega arith in
        let d : drop (e + 1) s ≡ [] = drop_of_length-le s x in
        let f : drop (length s) s ≡ [] = drop_of_length-le s y in
        rw f (sym (word_none b (n - 1)) ∙ ap (word_in b (n - 1)) (sym d) ∙ word_turn)

  pub word_there : n ≤ 0 → first_in b (drop i s) ≡ w
  unfolding word_in
  word_there z = let m : n ≡ 0 = omega arith in sym (ap (λ (x : ℕ). word_in b x (drop i s)) m) ∙ h

-- what stands from the place where a word begins to the place where it ends is the word
pub word_between : (b k : ℕ) (s : List ℕ) (i e : ℕ) → first_in b (drop i s) ≡ word_in b k s → e ≡ i + before b (drop i s) → take (e - i) (drop i s) ≡ word_in b k s
word_between b k s i e h q =
    let m : e - i ≡ before b (drop i s) = omega arith in
    ap (λ (x : ℕ). take x (drop i s)) m ∙ h
