-- Laws of places: where a line or a word begins and ends, and those behind it.
use Prim.Native.Nat.{ℕ, suc, ◌+◌, ◌-◌, ◌≤◌, ◌<◌}
use Rattle.std.specs.Prelude.{◌≡◌, Bool, not, length, get_or, drop, eqb}
use Rattle.std.proofs.Math.Path.{refl, ap}
use Rattle.std.proofs.Common.{sym, ap₂, ◌∙◌, length-drop, drop_of_length-le, drop-drop, add-one, arith}
use Rattle.std.proofs.Math.Bool.{true, false}
use mathlib.Core.List.{List, [], ◌∷◌}
use Rattle.std.proofs.Math.ListN.{take}
use Rattle.std.proofs.Math.Seq.{drop-cons}
use Rattle.refusal.specs.Test.{pick, clash, not_both}
use Rattle.words.specs.Words.{before}
use Rattle.plan_wanted.specs.Wanted.{onto, cut_at, is_feed, lines_of, is_blank, some, words_of}

-- how many bytes stand before the first of a kind
unfoldable pub ahead : (ℕ → Bool) → List ℕ → ℕ
ahead f [] = 0
ahead f (c ∷ s) = pick (f c) 0 (suc (ahead f s))

-- a blank, or another byte
abbrev pub is_kind : Bool → ℕ → Bool
is_kind true c = is_blank c
is_kind false c = not (is_blank c)

-- a search from a place on: one byte further, or found, or at the end
module _ (f : ℕ → Bool) where
  pub ahead_on : (s : List ℕ) (i : ℕ) → i < length s → f (get_or s i 0) ≡ false → ahead f (drop i s) ≡ suc (ahead f (drop (i + 1) s))
  unfolding ahead
  ahead_on s i h e = rw (add-one, drop-cons s i 0 h, e)

  pub ahead_here : (s : List ℕ) (i : ℕ) → i < length s → f (get_or s i 0) ≡ true → ahead f (drop i s) ≡ 0
  unfolding ahead
  ahead_here s i h e = rw (drop-cons s i 0 h, e)

  pub ahead_end : (s : List ℕ) (i : ℕ) → length s ≤ i → ahead f (drop i s) ≡ 0
  unfolding ahead
  ahead_end s i h = rw (drop_of_length-le s h)

  -- a run with a byte has a first part, and the others behind it
  pub cut_some : (c : ℕ) (s : List ℕ) → cut_at f (c ∷ s) ≡ take (ahead f (c ∷ s)) (c ∷ s) ∷ cut_at f (drop (suc (ahead f (c ∷ s))) (c ∷ s))
  unfolding cut_at ahead
  cut_some c [] = go (f c)
    where
      go : (t : Bool) → pick t ([] ∷ []) ((c ∷ []) ∷ []) ≡ take (pick t 0 1) (c ∷ []) ∷ cut_at f (drop (pick t 0 1) [])
      go true = refl
      go false = refl
  cut_some c (d ∷ s) = go (f c) (cut_some d s)
    where
      r : List ℕ
      r = d ∷ s

      go : (t : Bool) → cut_at f r ≡ take (ahead f r) r ∷ cut_at f (drop (suc (ahead f r)) r)
          → pick t ([] ∷ cut_at f r) (onto c (cut_at f r)) ≡ take (pick t 0 (suc (ahead f r))) (c ∷ r) ∷ cut_at f (drop (pick t 0 (suc (ahead f r))) r)
      go true h = refl
      go false h = ap (onto c) h

  pub cut_turn : (s : List ℕ) (i e : ℕ) → i < length s → e ≡ i + ahead f (drop i s) → cut_at f (drop i s) ≡ take (e - i) (drop i s) ∷ cut_at f (drop (e + 1) s)
  cut_turn s i e h q =
      let n : ℕ = ahead f (drop i s) in
      let k : n ≡ e - i = omega arith in
      let m : i + suc n ≡ e + 1 = omega arith in
      let d : drop (suc n) (drop i s) ≡ drop (e + 1) s = drop-drop (suc n) i s ∙ ap (λ (x : ℕ). drop x s) m in
      go (drop i s) (rw length-drop (omega arith)) ∙ ap₂ (λ (x : ℕ) (y : List ℕ). take x (drop i s) ∷ cut_at f y) k d
    where
      go : (r : List ℕ) → 0 < length r → cut_at f r ≡ take (ahead f r) r ∷ cut_at f (drop (suc (ahead f r)) r)
      go [] l = absurd (omega arith)
      go (c ∷ r) l = cut_some c r

-- the lines from a place on: the first, up to the next line feed, and those behind it
before_ahead : (b : ℕ) (s : List ℕ) → before b s ≡ ahead (λ (c : ℕ). eqb c b) s
unfolding before ahead
before_ahead b [] = refl
before_ahead b (c ∷ s) = ap (λ (n : ℕ). pick (eqb c b) 0 (suc n)) (before_ahead b s)

pub line_turn : (s : List ℕ) (i e : ℕ) → i < length s → e ≡ i + before 10 (drop i s) → lines_of (drop i s) ≡ take (e - i) (drop i s) ∷ lines_of (drop (e + 1) s)
line_turn s i e h q = cut_turn is_feed s i e h (q ∙ ap (λ (n : ℕ). i + n) (before_ahead 10 (drop i s)))

pub line_done : (s : List ℕ) (i : ℕ) → length s ≤ i → lines_of (drop i s) ≡ []
unfolding cut_at
line_done s i h = rw (drop_of_length-le s h)

-- a blank in front makes no word, and so for all of them
blank_front : (c : ℕ) (s : List ℕ) → is_blank c ≡ true → words_of (c ∷ s) ≡ words_of s
unfolding cut_at
blank_front c s e = ap (λ (t : Bool). some (pick t ([] ∷ cut_at is_blank s) (onto c (cut_at is_blank s)))) e

blanks_front : (s : List ℕ) → words_of s ≡ words_of (drop (ahead (is_kind false) s) s)
unfolding ahead
blanks_front [] = refl
blanks_front (c ∷ s) = go (is_blank c) refl (blanks_front s)
  where
    n : ℕ
    n = ahead (is_kind false) s

    go : (t : Bool) → is_blank c ≡ t → words_of s ≡ words_of (drop n s) → words_of (c ∷ s) ≡ words_of (drop (pick (not t) 0 (suc n)) (c ∷ s))
    go true e h = blank_front c s e ∙ h
    go false e h = refl

-- nor does the one behind a word
blank_behind : (s : List ℕ) → words_of (drop (ahead is_blank s) s) ≡ words_of (drop (suc (ahead is_blank s)) s)
unfolding ahead
blank_behind [] = refl
blank_behind (c ∷ s) = go (is_blank c) refl (blank_behind s)
  where
    n : ℕ
    n = ahead is_blank s

    go : (t : Bool) → is_blank c ≡ t → words_of (drop n s) ≡ words_of (drop (suc n) s)
        → words_of (drop (pick t 0 (suc n)) (c ∷ s)) ≡ words_of (drop (pick t 0 (suc n)) s)
    go true e h = blank_front c s e
    go false e h = h

-- where a search ends before the run does, such a byte stands
found : (f : ℕ → Bool) (s : List ℕ) (c : ℕ) (t : List ℕ) → drop (ahead f s) s ≡ c ∷ t → f c ≡ true
unfolding ahead
found f [] c t e = clash (cc)
found f (d ∷ s) c t e = go (f d) refl e (found f s c t)
  where
    go : (x : Bool) → f d ≡ x → drop (pick x 0 (suc (ahead f s))) (d ∷ s) ≡ c ∷ t → (drop (ahead f s) s ≡ c ∷ t → f c ≡ true) → f c ≡ true
    go true p q h = let z : d ≡ c = cc in ap f (sym z) ∙ p
    go false p q h = h q

-- the first word of a run, from its first byte on, and the words behind it
other : (c : ℕ) → is_kind false c ≡ true → is_blank c ≡ false
other c e = go (is_blank c) e
  where
    go : (t : Bool) → not t ≡ true → t ≡ false
    go true p = not_both refl (sym p)
    go false p = refl

word_ahead : (c : ℕ) (s : List ℕ) → is_blank c ≡ false → ahead is_blank (c ∷ s) ≡ suc (ahead is_blank s)
unfolding ahead
word_ahead c s e = ap (λ (t : Bool). pick t 0 (suc (ahead is_blank s))) e

word_some : (c : ℕ) (s : List ℕ) → is_blank c ≡ false → words_of (c ∷ s) ≡ (c ∷ take (ahead is_blank s) s) ∷ words_of (drop (ahead is_blank s) s)
word_some c s e =
    let m : ahead is_blank (c ∷ s) ≡ suc (ahead is_blank s) = word_ahead c s e in
    ap some (cut_some is_blank c s)
    ∙ ap (λ (n : ℕ). some (take n (c ∷ s) ∷ cut_at is_blank (drop n s))) m
    ∙ ap (λ (ws : List (List ℕ)). (c ∷ take (ahead is_blank s) s) ∷ ws) (sym (blank_behind s))

-- the words from a place i on, where a is the first place without a blank, and b the first with one from there on: none, or the first and those
-- behind it
module _ (s : List ℕ) (i a : ℕ) (p : a ≡ i + ahead (is_kind false) (drop i s)) where
  from_there : words_of (drop i s) ≡ words_of (drop a s)
  from_there = blanks_front (drop i s) ∙ ap words_of (drop-drop (ahead (is_kind false) (drop i s)) i s ∙ ap (λ (x : ℕ). drop x s) (sym p))

  pub word_none : length s ≤ a → words_of (drop i s) ≡ []
  unfolding cut_at
  word_none h = from_there ∙ ap words_of (drop_of_length-le s h)

  module _ (h : a < length s) where
    there : is_blank (get_or s a 0) ≡ false
    there =
        other (get_or s a 0)
        (found (is_kind false) (drop i s) (get_or s a 0) (drop (suc a) s)
        (drop-drop (ahead (is_kind false) (drop i s)) i s ∙ ap (λ (x : ℕ). drop x s) (sym p) ∙ drop-cons s a 0 h))

    module _ (b : ℕ) (q : b ≡ a + ahead (is_kind true) (drop a s)) where
      abbrev bytes : ℕ
      bytes = ahead is_blank (drop (suc a) s)

      many : b ≡ a + suc bytes
      many = q ∙ ap (λ (n : ℕ). a + n) (ap (ahead is_blank) (drop-cons s a 0 h) ∙ word_ahead (get_or s a 0) (drop (suc a) s) there)

      pub word_first : take (b - a) (drop a s) ≡ get_or s a 0 ∷ take bytes (drop (suc a) s)
      word_first =
          let k : b - a ≡ suc bytes = omega (arith, many) in
          ap₂ (λ (n : ℕ) (r : List ℕ). take n r) k (drop-cons s a 0 h)

      pub word_turn : words_of (drop i s) ≡ take (b - a) (drop a s) ∷ words_of (drop b s)
      word_turn =
          let k : suc a + bytes ≡ b = omega (arith, many) in
          from_there
          ∙ ap words_of (drop-cons s a 0 h)
          ∙ word_some (get_or s a 0) (drop (suc a) s) there
          ∙ ap₂ (λ (w r : List ℕ). w ∷ words_of r) (sym word_first) (drop-drop bytes (suc a) s ∙ ap (λ (x : ℕ). drop x s) k)
