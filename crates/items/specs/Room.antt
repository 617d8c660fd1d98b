-- How long a line of text can be, and what is left where one has room and nothing is poured.
use Rattle.std.specs.Prelude.{ℕ, suc, ◌≤◌, ◌<◌, ◌≡◌, refl, Bool, true, false, List, [], ◌∷◌, length, take, ltb}
use Rattle.std.proofs.Common.{sym, ◌∙◌, length-take, ltb-true, ltb-false, ne_eqb, arith}
use Rattle.refusal.specs.Test.{clash}
use Rattle.text.specs.Digits.{two_most}
use Rattle.stream.specs.Stream.{reading, nothing, stands, Settling, More, Settled, item_number}
use Rattle.stream.specs.Lawful.{size_most}
use Rattle.extent.specs.declared.Line.{Line}
use Rattle.extent.specs.declared.Line.TheVariants.{Request, Reply}
use Rattle.extent.specs.Line.{cap_of}
use Rattle.line.specs.Rule.{item_at, settle}
use Rattle.line.specs.Laws.{lawful, waits_few}
use Rattle.line.specs.Numbers.{occurs, occurs_at, numbers}
use Rattle.line.specs.Says.{nothing_at, stands_at}
use Rattle.printed.specs.Text.{line_of}
use Rattle.printed.specs.Length.{line_short}
use Rattle.items.specs.Pour.{poured, longest_line}
use Rattle.items.specs.Poured.{poured_cases}

-- the numbers of items have one digit
occurs_digit : (on : Line) (k : ℕ) → occurs on k ≡ true → k < 10
occurs_digit on k e = go on (ltb k 10) refl e
  where
    go : (on : Line) (x : Bool) → ltb k 10 ≡ x → occurs on k ≡ true → k < 10
    go on true q e = ltb-true k 10 q
    go Request false q e =
        let h = ltb-false k 10 q in
        let none : occurs Request k ≡ false =
        rw (
          ne_eqb k 0 (λ j. omega arith),
          ne_eqb k 2 (λ j. omega arith),
          ne_eqb k 3 (λ j. omega arith),
          ne_eqb k 4 (λ j. omega arith),
          ne_eqb k 6 (λ j. omega arith),
          ne_eqb k 7 (λ j. omega arith),
        ) in
        clash (let z : false ≡ true = sym none ∙ e in cc)
    go Reply false q e =
        let h = ltb-false k 10 q in
        let none : occurs Reply k ≡ false =
        rw (ne_eqb k 0 (λ j. omega arith), ne_eqb k 2 (λ j. omega arith), ne_eqb k 4 (λ j. omega arith), ne_eqb k 6 (λ j. omega arith)) in
        clash (let z : false ≡ true = sym none ∙ e in cc)

pub number_digit : (on : Line) (s : List ℕ) → item_number (settle on s) < 10
number_digit on s = go (settle on s) (numbers on s)
  where
    go : (x : Settling) → occurs_at on x ≡ true → item_number x < 10
    go More e = omega arith
    go (Settled k m d) e = occurs_digit on k e

cap_short : (on : Line) → cap_of on < 98
cap_short Request = omega arith
cap_short Reply = omega arith

-- no line of an item that stands anywhere is longer
pub line_most : (on : Line) (closed : Bool) (s : List ℕ) (k m : ℕ) → item_at on closed s ≡ stands k m
    → length (line_of (reading k (take m s))) ≤ longest_line on
line_most on closed s k m e =
    let w = stands_at on closed s k m e in
    let d : k < 10 = rw w.0 (number_digit on s) in
    let z : m ≤ suc (cap_of on) = rw w.1 (size_most (settle on) (lawful on) (cap_of on) (waits_few on) s) in
    let l : length (take m s) ≤ suc (cap_of on) = simp length-take (omega arith) in
    omega (arith, line_short k (take m s) d, two_most (length (take m s)) (omega (arith, cap_short on)))

-- so where there is room for one line and nothing is poured, nothing stands there
module _ (on : Line) (room : ℕ) (enough : longest_line on ≤ room) where
  pub none_stands : (closed : Bool) (s : List ℕ) → poured on closed room s ≡ [] → item_at on closed s ≡ nothing
  none_stands closed s e =
      poured_cases on closed room s
      (λ k m f l q. clash (cc))
      (λ f q. f)
      (λ k m f l q. absurd (omega (arith, line_most on closed s k m f)))

  -- of a closed line nothing is left
  pub none_left : (s : List ℕ) → poured on true room s ≡ [] → s ≡ []
  none_left s e = go s (none_stands true s e)
    where
      go : (s : List ℕ) → item_at on true s ≡ nothing → s ≡ []
      go [] f = refl
      go (b ∷ s) f = clash (let z = (nothing_at on true (b ∷ s) f (omega arith)).0 in cc)

  -- and of an open one no more bytes than a reader holds, with which the rule waits
  pub left_few : (s : List ℕ) → poured on false room s ≡ [] → length s ≤ cap_of on
  left_few s e = go s (none_stands false s e)
    where
      go : (s : List ℕ) → item_at on false s ≡ nothing → length s ≤ cap_of on
      go [] f = omega arith
      go (b ∷ s) f = waits_few on (b ∷ s) (nothing_at on false (b ∷ s) f (omega arith)).1
