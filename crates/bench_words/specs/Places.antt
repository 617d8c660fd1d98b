-- Laws of places: where a search stands, and the words behind it.
use Rattle.std.specs.Prelude.{ℕ, suc, ◌+◌, ◌-◌, ◌≤◌, ◌<◌, ◌≡◌, refl, Bool, true, false, List, [], ◌∷◌, length, get_or, take, drop, set, eqb, ltb}
use Rattle.std.proofs.Common.{sym, ap, ◌∙◌, length-drop, drop_of_length-le, drop-cons, take-suc-set, eq-eqb, ne_eqb, le-ltb, ltb-true, add-one, arith}
use Rattle.std.proofs.Math.Seq.{take-length}
use Rattle.refusal.specs.Test.{pick}
use Rattle.bench_words.specs.Words.{blanks, part_of, made_by}

-- a search for the first place without a blank: one byte further, or found, or at the end
pub blanks_on : (s : List ℕ) (i : ℕ) → i < length s → get_or s i 0 ≡ 32 → blanks (drop i s) ≡ suc (blanks (drop (i + 1) s))
unfolding blanks
blanks_on s i h e = rw (add-one, drop-cons s i 0, eq-eqb (get_or s i 0) 32 e)

pub blanks_here : (s : List ℕ) (i : ℕ) → i < length s → (get_or s i 0 ≡ 32 → ⊥) → blanks (drop i s) ≡ 0
unfolding blanks
blanks_here s i h n = rw (drop-cons s i 0, ne_eqb (get_or s i 0) 32 n)

pub blanks_end : (s : List ℕ) (i : ℕ) → length s ≤ i → blanks (drop i s) ≡ 0
unfolding blanks
blanks_end s i h = rw (drop_of_length-le s h)

-- never behind the end
pub blanks_most : (s : List ℕ) → blanks s ≤ length s
unfolding blanks
blanks_most [] = omega arith
blanks_most (c ∷ s) = go (eqb c 32) (blanks_most s)
  where
    go : (t : Bool) → blanks s ≤ length s → pick t (suc (blanks s)) 0 ≤ suc (length s)
    go true h = omega arith
    go false h = omega arith

-- what a rule has, put down place by place: one more, and all of it
pub made_turn : (rule : ℕ → ℕ) (n : ℕ) (b : List ℕ) → n < length b → take n b ≡ made_by rule n → take (n + 1) (set b n (rule n)) ≡ made_by rule (n + 1)
unfolding made_by
made_turn rule n b h e = rw (add-one, take-suc-set b n (rule n) h, e)

pub made_done : (rule : ℕ → ℕ) (n : ℕ) (b : List ℕ) → length b ≡ n → take n b ≡ made_by rule n → b ≡ made_by rule n
made_done rule n b l e = sym (take-length b) ∙ ap (λ (k : ℕ). take k b) l ∙ e

-- the part from a place to the end is what stands there
pub part_on : (s : List ℕ) (a : ℕ) → part_of s a (length s) ≡ drop a s
part_on s a = rw (le-ltb (length s) (length s) (omega arith)) (go (ltb (length s) a) refl)
  where
    go : (t : Bool) → ltb (length s) a ≡ t → pick t [] (take (length s - a) (drop a s)) ≡ drop a s
    go true e = sym (drop_of_length-le s {i = a} (omega (arith, ltb-true (length s) a e)))
    go false e = ap (λ (k : ℕ). take k (drop a s)) (sym (length-drop a s)) ∙ take-length (drop a s)
