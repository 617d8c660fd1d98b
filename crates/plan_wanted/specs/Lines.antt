-- A line judged by the places of its words.
use Rattle.std.specs.Prelude.{ℕ, Option, Some, None, ◌+◌, ◌-◌, ◌≤◌, ◌<◌, ◌≡◌, refl, Bool, true, false, ◌&&◌, length, get_or, take, drop, eqb, leb}
use Rattle.std.proofs.Math.Path.{sym, ap}
use Rattle.std.proofs.Common.{◌∙◌, drop_of_length-le, eq-eqb, ne_eqb, leb-true, leb-false, arith}
use mathlib.Core.List.{List, [], ◌∷◌}
use Rattle.refusal.specs.Test.{pick}
use Rattle.asked.specs.Asked.{number_of, is_number, value_of}
use Rattle.plan_wanted.specs.declared.Line.TheVariants.{Nothing, Bad}
use Rattle.plan_wanted.specs.Wanted.{words_of, says_of, three_of, is_remark, by_words, line_of}
use Rattle.plan_wanted.specs.Places.{ahead, is_kind, word_none, word_first, word_turn}

-- a number of a word is a byte
abbrev pub is_byte : Option ℕ → Type 0
is_byte (Some n) = n ≤ 255
is_byte None = 0 ≤ 255

pub number_byte : (w : List ℕ) → is_byte (number_of 255 w)
unfolding number_of
number_byte w = go (is_number w) (leb (value_of w) 255) refl
  where
    go : (x y : Bool) → leb (value_of w) 255 ≡ y → is_byte (pick (x && y) (Some (value_of w)) None)
    go true true e = leb-true (value_of w) 255 e
    go true false e = omega arith
    go false y e = omega arith

pub byte_most : {x : Option ℕ} {n : ℕ} → is_byte x → x ≡ Some n → n ≤ 255
byte_most h e = rw e at h

-- no word says no number, and without one a line says nothing
number_no : number_of 255 [] ≡ None
unfolding number_of
number_no = refl

says_second : (x z : Option ℕ) → says_of x None z ≡ Bad
says_second (Some a) z = refl
says_second None z = refl

says_third : (x y : Option ℕ) → says_of x y None ≡ Bad
says_third (Some a) (Some i) = refl
says_third (Some a) None = refl
says_third None y = refl

part_none : (s : List ℕ) (a b : ℕ) → length s ≤ a → b ≡ a + ahead (is_kind true) (drop a s) → number_of 255 (take (b - a) (drop a s)) ≡ None
unfolding ahead
part_none s a b h q =
    let d : drop a s ≡ [] = drop_of_length-le s h in
    let k : b - a ≡ 0 = omega (arith, q, ap (ahead (is_kind true)) d) in
    ap (λ (n : ℕ). number_of 255 (take n (drop a s))) k ∙ number_no

-- where the first word begins
module _ (s : List ℕ) (a : ℕ) (p : a ≡ 0 + ahead (is_kind false) (drop 0 s)) where
  pub line_nothing : length s ≤ a → Nothing ≡ line_of s
  unfolding line_of
  line_nothing h = sym (ap by_words (word_none s 0 a p h))

  module _ (h : a < length s) (b : ℕ) (q : b ≡ a + ahead (is_kind true) (drop a s)) where
    first : line_of s ≡ pick (eqb (get_or s a 0) 35) Nothing (three_of (take (b - a) (drop a s) ∷ words_of (drop b s)))
    unfolding line_of
    first =
        ap by_words (word_turn s 0 a p h b q)
        ∙ ap (λ (w : List ℕ). pick (is_remark w) Nothing (three_of (take (b - a) (drop a s) ∷ words_of (drop b s)))) (word_first s 0 a p h b q)

    pub line_remark : get_or s a 0 ≡ 35 → Nothing ≡ line_of s
    line_remark e = sym (first ∙ rw (eq-eqb (get_or s a 0) 35 e))

    -- and the others
    module _ (n : get_or s a 0 ≡ 35 → ⊥) (c d e f g : ℕ)
        (r : c ≡ b + ahead (is_kind false) (drop b s)) (t : d ≡ c + ahead (is_kind true) (drop c s))
        (u : e ≡ d + ahead (is_kind false) (drop d s)) (v : f ≡ e + ahead (is_kind true) (drop e s))
        (w : g ≡ f + ahead (is_kind false) (drop f s)) where
      abbrev x : List ℕ
      x = take (b - a) (drop a s)

      abbrev y : List ℕ
      y = take (d - c) (drop c s)

      abbrev z : List ℕ
      z = take (f - e) (drop e s)

      three : line_of s ≡ three_of (x ∷ words_of (drop b s))
      three = first ∙ rw (ne_eqb (get_or s a 0) 35 n)

      pub line_more : g < length s → Bad ≡ line_of s
      line_more k =
          let h : ℕ = g + ahead (is_kind true) (drop g s) in
          sym
          (three
          ∙ ap (λ (ws : List (List ℕ)). three_of (x ∷ ws)) (word_turn s b c r (omega arith) d t)
          ∙ ap (λ (ws : List (List ℕ)). three_of (x ∷ y ∷ ws)) (word_turn s d e u (omega arith) f v)
          ∙ ap (λ (ws : List (List ℕ)). three_of (x ∷ y ∷ z ∷ ws)) (word_turn s f g w k h refl))

      pub line_three : length s ≤ g → says_of (number_of 255 x) (number_of 255 y) (number_of 255 z) ≡ line_of s
      line_three k = sym (three ∙ go (leb (length s) c) refl (leb (length s) e) refl)
        where
          go : (i : Bool) → leb (length s) c ≡ i → (j : Bool) → leb (length s) e ≡ j
              → three_of (x ∷ words_of (drop b s)) ≡ says_of (number_of 255 x) (number_of 255 y) (number_of 255 z)
          go true i m j =
              let l : length s ≤ c = leb-true (length s) c i in
              ap (λ (ws : List (List ℕ)). three_of (x ∷ ws)) (word_none s b c r l)
              ∙ sym (ap (λ (o : Option ℕ). says_of (number_of 255 x) o (number_of 255 z)) (part_none s c d l t) ∙ says_second (number_of 255 x) (number_of 255 z))
          go false i true j =
              let l : length s ≤ e = leb-true (length s) e j in
              ap (λ (ws : List (List ℕ)). three_of (x ∷ ws)) (word_turn s b c r (leb-false (length s) c i) d t)
              ∙ ap (λ (ws : List (List ℕ)). three_of (x ∷ y ∷ ws)) (word_none s d e u l)
              ∙ sym (ap (λ (o : Option ℕ). says_of (number_of 255 x) (number_of 255 y) o) (part_none s e f l v) ∙ says_third (number_of 255 x) (number_of 255 y))
          go false i false j =
              ap (λ (ws : List (List ℕ)). three_of (x ∷ ws)) (word_turn s b c r (leb-false (length s) c i) d t)
              ∙ ap (λ (ws : List (List ℕ)). three_of (x ∷ y ∷ ws)) (word_turn s d e u (leb-false (length s) e j) f v)
              ∙ ap (λ (ws : List (List ℕ)). three_of (x ∷ y ∷ z ∷ ws)) (word_none s f g w k)
