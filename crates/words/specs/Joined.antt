-- The words of a run that was made of words.
use Rattle.std.specs.Prelude.{ℕ, zero, suc, ◌<◌, ◌≡◌, refl, Bool, true, false, ◌&&◌, List, [], ◌∷◌, ◌++◌, length, get_or, take, drop, eqb, ltb}
use Rattle.std.proofs.Common.{ap, ◌∙◌, take_at, eqb-true, ltb-true, eq-eqb, arith}
use Rattle.refusal.specs.Test.{pick, both_left, both_right}
use Rattle.words.specs.Words.{before, word_in, joined, proper}
use Rattle.words.specs.Places.{word_none}

-- a parting byte behind a word that has none
before_parted : (b : ℕ) (w r : List ℕ) → before b w ≡ length w → before b (w ++ (b ∷ r)) ≡ length w
unfolding before
before_parted b [] r h = rw (eq-eqb b b refl) refl
before_parted b (c ∷ w) r h = go (eqb c b) h (before_parted b w r)
  where
    go : (t : Bool) → pick t 0 (suc (before b w)) ≡ suc (length w) → (before b w ≡ length w → before b (w ++ (b ∷ r)) ≡ length w)
        → pick t 0 (suc (before b (w ++ (b ∷ r)))) ≡ suc (length w)
    go true e f = absurd (omega arith)
    go false e f = ap suc (f (omega arith))

-- what a proper list says of its first word, and of the others
first_some : (b : ℕ) (w : List ℕ) (ws : List (List ℕ)) → proper b (w ∷ ws) ≡ true → 0 < length w
first_some b w ws h =
    let p : Bool = ltb 0 (length w) in
    let q : Bool = eqb (before b w) (length w) in
    ltb-true 0 (length w) (both_left p q (both_left (p && q) (proper b ws) h))

first_whole : (b : ℕ) (w : List ℕ) (ws : List (List ℕ)) → proper b (w ∷ ws) ≡ true → before b w ≡ length w
first_whole b w ws h =
    let p : Bool = ltb 0 (length w) in
    let q : Bool = eqb (before b w) (length w) in
    eqb-true (before b w) (length w) (both_right p q (both_left (p && q) (proper b ws) h))

others : (b : ℕ) (w : List ℕ) (ws : List (List ℕ)) → proper b (w ∷ ws) ≡ true → proper b ws ≡ true
others b w ws h = both_right (ltb 0 (length w) && eqb (before b w) (length w)) (proper b ws) h

-- the words of the run are the words that it was made of
pub word_joined : (b : ℕ) (ws : List (List ℕ)) → proper b ws ≡ true → (k : ℕ) → word_in b k (joined b ws) ≡ get_or ws k []
unfolding word_in
word_joined b [] h k = word_none b k
word_joined b (w ∷ ws) h zero = ap (λ (n : ℕ). take n (w ++ (b ∷ joined b ws))) (before_parted b w (joined b ws) (first_whole b w ws h)) ∙ take_at w (b ∷ joined b ws) (length w) refl
word_joined b (w ∷ ws) h (suc k) =
    ap (λ (n : ℕ). word_in b k (drop (suc n) (w ++ (b ∷ joined b ws)))) (before_parted b w (joined b ws) (first_whole b w ws h))
    ∙ ap (word_in b k) (skip w (joined b ws))
    ∙ word_joined b ws (others b w ws h) k
  where
    skip : (v r : List ℕ) → drop (suc (length v)) (v ++ (b ∷ r)) ≡ r
    skip [] r = refl
    skip (c ∷ v) r = skip v r

-- and each of them has bytes
pub word_some : (b : ℕ) (ws : List (List ℕ)) → proper b ws ≡ true → (k : ℕ) → k < length ws → 0 < length (get_or ws k [])
word_some b [] h k l = absurd (omega arith)
word_some b (w ∷ ws) h zero l = first_some b w ws h
word_some b (w ∷ ws) h (suc k) l = word_some b ws (others b w ws h) k (omega arith)
