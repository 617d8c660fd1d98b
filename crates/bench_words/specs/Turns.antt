-- Laws of words: the first of them, and those behind it; and of a word more.
use Rattle.std.specs.Prelude.{ℕ, Some, None, suc, ◌+◌, ◌-◌, ◌≤◌, ◌<◌, ◌≡◌, Bool, true, false, List, [], ◌∷◌, ◌++◌, drop, set, eqb, ltb, leb}
use Rattle.std.proofs.Math.Path.{refl, sym}
use Rattle.std.proofs.Common.{ap, ap₂, ◌∙◌, append_assoc, append-nil, length-drop, length-set, take-append-drop, drop-drop, take-suc-set}
use Rattle.std.proofs.Math.ListN.{length, take}
use Rattle.std.proofs.Math.Seq.{drop-set-lt, length-take-le}
use borrow.Author.Tests.{le-leb, lt-leb, leb-true, leb-false}
use Rattle.std.proofs.Math.Numerals.{add-one}
use native.Mathlib.Omega.{arith}
use Rattle.refusal.specs.Test.{pick}
use Rattle.words.specs.Words.{before}
use Rattle.bench_words.specs.Words.{words_from, words_at}
use Rattle.bench_words.specs.Groups.{word_of, Taken, other, byte_more, all_more, taken_of, kept_of, filled, Grows, Reads}
use Rattle.bench_words.specs.declared.Word.TheVariants.{Nothing, Slash, Byte, Other}
use Rattle.bench_words.specs.declared.Groups.{Groups}

-- the words behind the first blank
unfoldable rest_of : List ℕ → List (List ℕ)
rest_of [] = []
rest_of (c ∷ s) = pick (eqb c 32) (words_from [] s) (rest_of s)

first_word : (w s : List ℕ) → words_from w s ≡ (w ++ take (before 32 s) s) ∷ rest_of s
unfolding words_from before rest_of
first_word w [] = ap (λ (x : List ℕ). x ∷ []) (sym (append-nil w))
first_word w (c ∷ s) = go (eqb c 32) (first_word (w ++ (c ∷ [])) s)
  where
    go : (t : Bool) → words_from (w ++ (c ∷ [])) s ≡ ((w ++ (c ∷ [])) ++ take (before 32 s) s) ∷ rest_of s
        → pick t (w ∷ words_from [] s) (words_from (w ++ (c ∷ [])) s) ≡ (w ++ take (pick t 0 (suc (before 32 s))) (c ∷ s)) ∷ pick t (words_from [] s) (rest_of s)
    go true h = ap (λ (x : List ℕ). x ∷ words_from [] s) (sym (append-nil w))
    go false h = h ∙ ap (λ (x : List ℕ). x ∷ rest_of s) (append_assoc w (c ∷ []) (take (before 32 s) s))

rest_some : (s : List ℕ) → before 32 s < length s → rest_of s ≡ words_from [] (drop (suc (before 32 s)) s)
unfolding before rest_of
rest_some [] h = absurd (omega arith)
rest_some (c ∷ s) h = go (eqb c 32) h (rest_some s)
  where
    go : (t : Bool) → pick t 0 (suc (before 32 s)) < suc (length s) → (before 32 s < length s → rest_of s ≡ words_from [] (drop (suc (before 32 s)) s))
        → pick t (words_from [] s) (rest_of s) ≡ words_from [] (drop (pick t 0 (suc (before 32 s))) s)
    go true l f = refl
    go false l f = f (omega arith)

rest_none : (s : List ℕ) → length s ≤ before 32 s → rest_of s ≡ []
unfolding before rest_of
rest_none [] h = refl
rest_none (c ∷ s) h = go (eqb c 32) h (rest_none s)
  where
    go : (t : Bool) → suc (length s) ≤ pick t 0 (suc (before 32 s)) → (length s ≤ before 32 s → rest_of s ≡ []) → pick t (words_from [] s) (rest_of s) ≡ []
    go true l f = absurd (omega arith)
    go false l f = f (omega arith)

-- the words from a place on: the first, up to the next blank, and those behind this
pub words_turn : (s : List ℕ) (i e : ℕ) → i ≤ length s → e ≡ i + before 32 (drop i s) → words_at i s ≡ take (e - i) (drop i s) ∷ words_at (e + 1) s
unfolding words_at
words_turn s i e h q =
    let k : before 32 (drop i s) ≡ e - i = omega arith in
    rw (le-leb i (length s) h) (first_word [] (drop i s) ∙ ap₂ (λ (x : ℕ) (y : List (List ℕ)). take x (drop i s) ∷ y) k (go (leb (e + 1) (length s)) refl))
  where
    go : (t : Bool) → leb (e + 1) (length s) ≡ t → rest_of (drop i s) ≡ pick t (words_from [] (drop (e + 1) s)) []
    go true p =
        let l : e + 1 ≤ length s = leb-true (e + 1) (length s) p in
        let k : i + suc (before 32 (drop i s)) ≡ e + 1 = omega arith in
        rest_some (drop i s) (rw length-drop (omega arith)) ∙ ap (words_from []) (drop-drop (suc (before 32 (drop i s))) i s ∙ ap (λ (x : ℕ). drop x s) k)
    go false p =
        let l : length s < e + 1 = leb-false (e + 1) (length s) p in
        rest_none (drop i s) (rw length-drop (omega arith))

pub words_done : (s : List ℕ) (i : ℕ) → length s < i → words_at i s ≡ []
unfolding words_at
words_done s i h = rw (lt-leb i (length s) h)

-- how a word more goes
module _ (g : Groups) (bytes s : List ℕ) (h : g.c ≤ length bytes) where
  pub grows_nothing : word_of s ≡ Nothing → Grows g bytes s (Some g) bytes
  grows_nothing e = record { says = rw e; within = h; same = refl; behind = refl; further = omega arith }

  pub grows_slash : (k : ℕ) → word_of s ≡ Slash → k ≡ pick (ltb g.count 4) (g.count + 1) 4
      → Grows g bytes s (Some (record { count = k; a = g.a; b = g.b; c = g.c })) bytes
  grows_slash k e p = record { says = rw (e, p); within = h; same = refl; behind = refl; further = omega arith }

  pub grows_other : word_of s ≡ Other → Grows g bytes s None bytes
  grows_other e = record { says = rw e; within = h; same = refl; behind = refl; further = omega arith }

  pub grows_full : (x : ℕ) → word_of s ≡ Byte x → length bytes ≤ g.c → Grows g bytes s (Some g) bytes
  unfolding byte_more
  grows_full x e l =
      let t : length (take g.c bytes) ≡ g.c = length-take-le g.c bytes h in
      record { says = rw (e, t, le-leb (length bytes) g.c l); within = h; same = refl; behind = refl; further = omega arith }

  pub grows_byte : (x a b : ℕ) → word_of s ≡ Byte x → g.c < length bytes → a ≡ pick (eqb g.count 1) (g.c + 1) g.a → b ≡ pick (leb g.count 2) (g.c + 1) g.b
      → Grows g bytes s (Some (record { count = g.count; a = a; b = b; c = g.c + 1 })) (set bytes g.c x)
  unfolding byte_more
  grows_byte x a b e l p q =
      let t : length (take g.c bytes) ≡ g.c = length-take-le g.c bytes h in
      let m : take (g.c + 1) (set bytes g.c x) ≡ take g.c bytes ++ (x ∷ []) = rw add-one (take-suc-set bytes g.c x l) in
      record {
        says = rw (e, t, lt-leb (length bytes) g.c l, p, q, m);
        within = omega arith;
        same = simp length-set;
        behind = drop-set-lt (g.c + 1) bytes g.c x (omega arith);
        further = omega arith;
      }

-- nothing is taken behind a word that is other
more_other : (room : ℕ) (run : List ℕ) (ws : List (List ℕ)) → all_more room (other run) ws ≡ other run
unfolding all_more
more_other room run [] = refl
more_other room run (w ∷ ws) = more_other room run ws

drop_further : (n m : ℕ) (s t : List ℕ) → n ≤ m → drop n s ≡ drop n t → drop m s ≡ drop m t
drop_further n m s t h e =
    let k : n + (m - n) ≡ m = omega arith in
    rw k at (sym (drop-drop (m - n) n s) ∙ ap (drop (m - n)) e ∙ drop-drop (m - n) n t)

-- what is known between two words: what the words from a place on make of the groups so far is what all words make
pub record Under (line : List ℕ) (from : ℕ) (bytes₀ bytes : List ℕ) (g : Groups) (i : ℕ) : Type 0 where
  pub same : length bytes ≡ length bytes₀
  pub within : g.c ≤ length bytes₀
  pub behind : drop g.c bytes ≡ drop g.c bytes₀
  pub left : all_more (length bytes₀) (filled g bytes) (words_at i line) ≡ taken_of (length bytes₀) line from

pub under_start : (line : List ℕ) (from : ℕ) (bytes : List ℕ) → Under line from bytes bytes (record { count = 1; a = 0; b = 0; c = 0 }) from
under_start line from bytes = record { same = refl; within = omega arith; behind = refl; left = refl }

module _ (line : List ℕ) (from : ℕ) (bytes₀ bytes : List ℕ) (g : Groups) (i : ℕ) (u : Under line from bytes₀ bytes g i) where
  whole : (bytes' : List ℕ) (t : Taken) (n : ℕ) → taken_of (length bytes₀) line from ≡ t → kept_of t ≡ take n bytes' → n ≤ length bytes' → drop n bytes' ≡ drop n bytes₀
      → bytes' ≡ kept_of (taken_of (length bytes₀) line from) ++ drop (length (kept_of (taken_of (length bytes₀) line from))) bytes₀
  whole bytes' t n e k l b =
      let m : length (take n bytes') ≡ n = length-take-le n bytes' l in
      rw (e, k, m, ← b) (sym (take-append-drop n bytes'))

  module _ (e : ℕ) (h : i ≤ length line) (q : e ≡ i + before 32 (drop i line)) (bytes' : List ℕ) where
    pub under_turn : (more : Groups) → Grows g bytes (take (e - i) (drop i line)) (Some more) bytes' → Under line from bytes₀ bytes' more (e + 1)
    unfolding all_more
    under_turn more w = record {
      same = w.same ∙ u.same;
      within = omega (arith, w.within, u.same);
      behind = w.behind ∙ drop_further g.c more.c bytes bytes₀ w.further u.behind;
      left = rw (w.says, u.same) (rw (words_turn line i e h q) at u.left);
    }

    pub under_other : Grows g bytes (take (e - i) (drop i line)) None bytes' → Reads line from bytes₀ None bytes'
    unfolding all_more
    under_other w =
        let p : all_more (length bytes₀) (other (take g.c bytes')) (words_at (e + 1) line) ≡ taken_of (length bytes₀) line from =
        rw (w.says, u.same) (rw (words_turn line i e h q) at u.left) in
        let t : taken_of (length bytes₀) line from ≡ other (take g.c bytes') = sym p ∙ more_other (length bytes₀) (take g.c bytes') (words_at (e + 1) line) in
        record { says = rw t; leaves = whole bytes' (other (take g.c bytes')) g.c t refl (omega (arith, w.within, w.same)) (w.behind ∙ u.behind) }

  pub under_done : length line < i → Reads line from bytes₀ (Some g) bytes
  unfolding all_more
  under_done h =
      let t : taken_of (length bytes₀) line from ≡ filled g bytes = sym u.left ∙ rw (words_done line i h) in
      let m : length (take g.c bytes) ≡ g.c = length-take-le g.c bytes (omega (arith, u.same, u.within)) in
      record { says = rw (t, m); leaves = whole bytes (filled g bytes) g.c t refl (omega (arith, u.same, u.within)) u.behind }
