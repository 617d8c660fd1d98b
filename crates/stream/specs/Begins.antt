-- How a rule is shown to be lawful: what it settles, it settles by bytes that settle the same in every run that begins with them.
use Rattle.std.specs.Prelude.{ℕ, ◌≤◌, ◌<◌, ◌≡◌, List, ◌++◌, length, get_or, take}
use Rattle.std.proofs.Common.{sym, ap, ◌∙◌, length-append, length-take, get_or-take, take-take, arith}
use Rattle.std.proofs.lemmas.List.{take-append-le}
use Rattle.stream.specs.Stream.{Settling, More, Settled}
use Rattle.stream.specs.Lawful.{Lawful}

-- t has at least n bytes, and begins with the first n bytes of s
pub record Begins (n : ℕ) (s t : List ℕ) : Type 0 where
  pub there : n ≤ length t
  pub same : take n s ≡ take n t

pub begins_at_lem : {n : ℕ} {s t : List ℕ} → Begins n s t → (i : ℕ) → i < n → get_or s i 0 ≡ get_or t i 0
begins_at_lem {n} {s} {t} b i h = sym (get_or-take n s i 0 h) ∙ ap (λ (l : List ℕ). get_or l i 0) b.same ∙ get_or-take n t i 0 h

-- more bytes behind a run, and its first bytes alone
pub begins_longer : (d : ℕ) (s t : List ℕ) → d ≤ length s → Begins d s (s ++ t)
begins_longer d s t l = record { there = simp length-append (omega arith); same = sym (take-append-le d s t l) }

pub begins_front : (d : ℕ) (s : List ℕ) → d ≤ length s → Begins d s (take d s)
begins_front d s l = record { there = simp length-take (omega arith); same = sym (take-take d d s (omega arith)) }

-- what a rule says of s, and why: it waits, and s has at most `most` bytes; or d bytes settle an item that lies within them, here
-- and in every run that begins with them
pub data Settles (settle : List ℕ → Settling) (most : ℕ) (s : List ℕ) : Settling → Type 0 where
  waits : length s ≤ most → Settles settle most s More
  item : (k m d : ℕ) → 1 ≤ m → m ≤ d → d ≤ length s → ((t : List ℕ) → Begins d s t → settle t ≡ Settled k m d)
      → Settles settle most s (Settled k m d)

module _ (settle : List ℕ → Settling) (most : ℕ) (why : (s : List ℕ) → Settles settle most s (settle s)) where
  sized : (s : List ℕ) (k m d : ℕ) → settle s ≡ Settled k m d → (1 ≤ m) × (m ≤ d) × (d ≤ length s)
  sized s k m d e = go (rw e at (why s))
    where
      go : Settles settle most s (Settled k m d) → (1 ≤ m) × (m ≤ d) × (d ≤ length s)
      go (item k m d a b c f) = (a, b, c)

  local : (s t : List ℕ) (k m d : ℕ) → settle s ≡ Settled k m d → Begins d s t → settle t ≡ Settled k m d
  local s t k m d e = go (rw e at (why s))
    where
      go : Settles settle most s (Settled k m d) → Begins d s t → settle t ≡ Settled k m d
      go (item k m d a b c f) = f t

  pub lawful_by : Lawful settle
  lawful_by =
      record {
        stable = λ s t k m d e. let l = (sized s k m d e).2 in local s (s ++ t) k m d e (begins_longer d s t l);
        some = λ s k m d e. (sized s k m d e).0;
        within = λ s k m d e. (sized s k m d e).1;
        there = λ s k m d e. (sized s k m d e).2;
        enough = λ s k m d e. let l = (sized s k m d e).2 in local s (take d s) k m d e (begins_front d s l);
      }

  -- where it waits there are at most `most` bytes
  pub waits_by : (s : List ℕ) → settle s ≡ More → length s ≤ most
  waits_by s e = go (rw e at (why s))
    where
      go : Settles settle most s More → length s ≤ most
      go (waits l) = l
