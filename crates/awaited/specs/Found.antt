-- The search for a free number: the number that it finds, and when it finds none. What that says of the answers.
use Rattle.std.specs.Prelude.{ℕ, zero, suc, ◌+◌, ◌-◌, ◌%◌, ◌≤◌, ◌<◌, ◌≡◌, refl, Bool, not, List, ◌↔◌}
use Rattle.std.proofs.Common.{sym, ◌∙◌, arith}
use Rattle.std.proofs.Math.Path.{ap}
use Rattle.std.proofs.Math.Bool.{true, false}
use Rattle.std.proofs.Math.Decide.{ℕ_discrete}
use Rattle.std.proofs.lemmas.Bool.{not-true}
use Rattle.refusal.specs.Test.{pick_elim, clash, not_both}
use Rattle.refusal.specs.Answer.{refused, full, demand, demand_elim, full_one}
use Rattle.command.specs.Command.{is_known, is_retired, may_ask}
use Rattle.command.proofs.RetiredKnown.{retired_known}
use Rattle.command.specs.Known.{may_ask_known, may_ask_current, current_may_ask}
use Rattle.free_number.specs.declared.Book.{Book}
use Rattle.free_number.specs.Number.{next, entry, holds, first_free, number_for}
use Rattle.book.specs.Book.{command_of}

-- how many numbers lie between n and m, counting on from n past 255 to 0: none for the number after n, 255 for n itself
abbrev pub between : ℕ → ℕ → ℕ
between n m = (m + 255 - n) % 256

between_next : (n m : ℕ) → n < 256 → m < 256 → (m ≡ next n → ⊥) → between n m ≡ suc (between (next n) m)
between_next n m hn hm h = omega arith

-- the number found is free, and no other free number comes sooner
pub record Found (asked : List ℕ) (n m : ℕ) : Type 0 where
  pub below : m < 256
  pub free : holds asked m ≡ false
  pub first : (t : ℕ) → t < 256 → holds asked t ≡ false → between n m ≤ between n t

pub search_found : (asked : List ℕ) (n k m : ℕ) → n < 256 → first_free asked n k ≡ full m → Found asked n m
unfolding first_free
search_found asked n zero m hn e = clash (cc)
search_found asked n (suc k) m hn e =
    pick_elim (holds asked (next n)) (λ u f. later u (search_found asked (next n) k m (omega arith) f)) (λ u f. here u (full_one f)) e
  where
    here : holds asked (next n) ≡ false → next n ≡ m → Found asked n m
    here u f = record { below = omega arith; free = rw (← f) u; first = λ t ht v. omega arith }

    later : holds asked (next n) ≡ true → Found asked (next n) m → Found asked n m
    later u f =
        let other : (t : ℕ) → holds asked t ≡ false → t ≡ next n → ⊥ = λ t v q. not_both u (rw q at v) in
        record {
          below = f.below;
          free = f.free;
          first = λ t ht v. omega (arith, f.first t ht v, between_next n m hn f.below (other m f.free), between_next n t hn ht (other t v));
        }

-- where it finds none of the k numbers after n, each of them is held
pub search_none : (asked : List ℕ) (n k j : ℕ) → n < 256 → first_free asked n k ≡ refused j
    → (t : ℕ) → t < 256 → between n t < k → holds asked t ≡ true
unfolding first_free
search_none asked n zero j hn e t ht h = absurd (omega arith)
search_none asked n (suc k) j hn e t ht h =
    pick_elim (holds asked (next n)) (λ u f. later u (search_none asked (next n) k j (omega arith) f t ht)) (λ u f. clash (cc)) e
  where
    later : holds asked (next n) ≡ true → (between (next n) t < k → holds asked t ≡ true) → holds asked t ≡ true
    later u f = elim (ℕ_discrete t (next n)) [ yes q ↦ rw q u | no q ↦ f (omega (arith, between_next n t hn ht q)) ]

pub search_nine : (asked : List ℕ) (n k j : ℕ) → first_free asked n k ≡ refused j → j ≡ 9
unfolding first_free
search_nine asked n zero j e = cc
search_nine asked n (suc k) j e =
    pick_elim (holds asked (next n)) (λ u f. search_nine asked (next n) k j f) (λ u f. clash (cc)) e

pub search_full : (asked : List ℕ) (n k : ℕ) → ((t : ℕ) → t < 256 → holds asked t ≡ true) → first_free asked n k ≡ refused 9
unfolding first_free
search_full asked n zero h = refl
search_full asked n (suc k) h = rw (h (next n) (omega arith)) (search_full asked (next n) k h)

-- what asking answers, for any book. A command that is not known is 3 and a retired one 17, also where no number is free
pub number_three : (b : Book) (c : ℕ) → (number_for b c ≡ refused 3) ↔ (is_known c ≡ false)
unfolding number_for
number_three b c = (to (is_known c) (not (is_retired c)), λ u. rw u)
  where
    to : (t u : Bool) → demand t 3 (demand u 17 (first_free b.asked b.last 256)) ≡ refused 3 → t ≡ false
    to true true e = absurd (omega (arith, search_nine b.asked b.last 256 3 e))
    to true false e = clash (cc)
    to false u e = refl

pub number_seventeen : (b : Book) (c : ℕ) → (number_for b c ≡ refused 17) ↔ (is_retired c ≡ true)
unfolding number_for
number_seventeen b c = (to (is_known c) (is_retired c), λ u. rw (retired_known c u, u))
  where
    to : (t u : Bool) → demand t 3 (demand (not u) 17 (first_free b.asked b.last 256)) ≡ refused 17 → u ≡ true
    to t true e = refl
    to true false e = absurd (omega (arith, search_nine b.asked b.last 256 17 e))
    to false false e = clash (cc)

-- only a command that may be asked is given a number
pub number_may : (b : Book) (c n : ℕ) → number_for b c ≡ full n → (may_ask c ≡ true) × (first_free b.asked b.last 256 ≡ full n)
unfolding number_for
number_may b c n =
    demand_elim (is_known c) 3
    (λ k. demand_elim (not (is_retired c)) 17
    (λ r e. (current_may_ask c k (not-true (is_retired c) r), e)))

module _ (b : Book) (c : ℕ) (hl : b.last < 256) where
  -- "takes the first free number after the last one given"
  pub number_full : (n : ℕ) → number_for b c ≡ full n → (may_ask c ≡ true) × Found b.asked b.last n
  number_full n e =
      let m = number_may b c n e in
      (m.0, search_found b.asked b.last 256 n hl m.1)

  -- "It refuses with 9 exactly if no number is free."
  pub number_nine : may_ask c ≡ true → (j : ℕ) → (number_for b c ≡ refused j) ↔ ((j ≡ 9) × ((t : ℕ) → t < 256 → holds b.asked t ≡ true))
  unfolding number_for
  number_nine m j =
      rw (may_ask_known c m, may_ask_current c m) (
        (λ e. (search_nine b.asked b.last 256 j e, λ t ht. search_none b.asked b.last 256 j hl e t ht (omega arith))),
        λ h. search_full b.asked b.last 256 h.1 ∙ ap refused (sym h.0),
      )

-- what replying answers, for any book: the command held, or 10
module _ (b : Book) (n : ℕ) where
  pub command_full : (c : ℕ) → (command_of b n ≡ full c) ↔ ((is_known c ≡ true) × (entry b.asked n ≡ c))
  unfolding command_of
  command_full c = (demand_elim (holds b.asked n) 10 (λ k e. let v = full_one e in (rw v at k, v)), λ h. rw (h.1, h.0))

  pub command_ten : (j : ℕ) → (command_of b n ≡ refused j) ↔ ((j ≡ 10) × (holds b.asked n ≡ false))
  unfolding command_of
  command_ten j = (to (holds b.asked n), λ h. rw h.1 (ap refused (sym h.0)))
    where
      to : (t : Bool) → demand t 10 (full (entry b.asked n)) ≡ refused j → (j ≡ 10) × (t ≡ false)
      to true e = clash (cc)
      to false e = (cc, refl)
