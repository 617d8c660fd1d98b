-- What makes a rule fit for reading a stream that is cut anywhere.
use Rattle.std.specs.Prelude.{ℕ, suc, ◌-◌, ◌≤◌, ◌<◌, ◌≡◌, refl, List, ◌++◌, length, take, drop}
use Rattle.std.proofs.Common.{sym, ◌∙◌, length-take, take-append-drop, take_all, take-take, arith}
use Rattle.refusal.specs.Test.{clash}
use Rattle.stream.specs.Stream.{Settling, More, Settled}
use Rattle.stream.specs.Stream.{item_size}

pub record Lawful (settle : List ℕ → Settling) : Type 0 where
  -- what a prefix settles, every extension settles the same
  pub stable : (s t : List ℕ) (k m d : ℕ) → settle s ≡ Settled k m d → settle (s ++ t) ≡ Settled k m d
  -- an item has a byte at least, and lies within the bytes that settle it, and these are there
  pub some : (s : List ℕ) (k m d : ℕ) → settle s ≡ Settled k m d → 1 ≤ m
  pub within : (s : List ℕ) (k m d : ℕ) → settle s ≡ Settled k m d → m ≤ d
  pub there : (s : List ℕ) (k m d : ℕ) → settle s ≡ Settled k m d → d ≤ length s
  -- as many bytes as the rule says settle the item
  pub enough : (s : List ℕ) (k m d : ℕ) → settle s ≡ Settled k m d → settle (take d s) ≡ Settled k m d

-- no step is both
pub not_more : {P : Type 0} {k m d : ℕ} → Settled k m d ≡ More → P
not_more e = clash (cc)

pub same_by : {k m d k' m' d' : ℕ} → Settled k m d ≡ Settled k' m' d' → d ≡ d'
same_by e = cc

module _ (settle : List ℕ → Settling) (law : Lawful settle) where
  -- what a prefix settles, the whole settles
  pub prefix_settles : (c : ℕ) (s : List ℕ) (k m d : ℕ) → settle (take c s) ≡ Settled k m d → settle s ≡ Settled k m d
  prefix_settles c s k m d e = rw (take-append-drop c s) at (law.stable (take c s) (drop c s) k m d e)

  -- what is not settled, no shorter prefix settles
  pub prefix_waits : (c : ℕ) (s : List ℕ) → settle s ≡ More → settle (take c s) ≡ More
  prefix_waits c s e = go (settle (take c s)) refl
    where
      go : (x : Settling) → settle (take c s) ≡ x → settle (take c s) ≡ More
      go More f = f
      go (Settled k m d) f = not_more (sym (prefix_settles c s k m d f) ∙ e)

  -- as many bytes as the rule says settle an item, and so do more
  pub enough_settle : (n : ℕ) (s : List ℕ) (k m d : ℕ) → settle s ≡ Settled k m d → d ≤ n → settle (take n s) ≡ Settled k m d
  enough_settle n s k m d e h = prefix_settles d (take n s) k m d (rw (take-take d n s h) (law.enough s k m d e))

  -- and no fewer do
  pub fewer_wait : (c : ℕ) (s : List ℕ) (k m d : ℕ) → settle s ≡ Settled k m d → c < d → settle (take c s) ≡ More
  fewer_wait c s k m d e h = go (settle (take c s)) refl
    where
      go : (x : Settling) → settle (take c s) ≡ x → settle (take c s) ≡ More
      go More f = f
      go (Settled k' m' d') f =
          let q : d ≡ d' = same_by (sym e ∙ prefix_settles c s k' m' d' f) in
          absurd (omega (arith, simp length-take at (law.there (take c s) k' m' d' f)))

  -- a rule that waits for fewer than n bytes says of a run what it says of its first n
  pub in_window : (n : ℕ) → ((s : List ℕ) → settle s ≡ More → length s < n) → (s : List ℕ) → settle (take n s) ≡ settle s
  in_window n bound s = go (settle (take n s)) refl
    where
      go : (x : Settling) → settle (take n s) ≡ x → settle (take n s) ≡ settle s
      go More f =
          let l : length s ≤ n = omega (arith, simp length-take at (bound (take n s) f)) in
          rw take_all
      go (Settled k m d) f = f ∙ sym (prefix_settles n s k m d f)

  -- an item has a byte at least, and its bytes are there
  pub size_some : (s : List ℕ) → 1 ≤ item_size (settle s)
  size_some s = go (settle s) refl
    where
      go : (x : Settling) → settle s ≡ x → 1 ≤ item_size x
      go More e = omega arith
      go (Settled k m d) e = law.some s k m d e

  pub size_there : (s : List ℕ) → 1 ≤ length s → item_size (settle s) ≤ length s
  size_there s h = go (settle s) refl
    where
      go : (x : Settling) → settle s ≡ x → item_size x ≤ length s
      go More e = h
      go (Settled k m d) e = omega (arith, law.within s k m d e, law.there s k m d e)

  -- a rule that waits for at most so many bytes settles an item by one more, and it has no more
  pub by_most : (most : ℕ) → ((s : List ℕ) → settle s ≡ More → length s ≤ most) → (s : List ℕ) (k m d : ℕ) → settle s ≡ Settled k m d
      → d ≤ suc most
  by_most most few s k m d e =
      let a = law.some s k m d e in
      let b = law.within s k m d e in
      let l = law.there s k m d e in
      let w = few (take (d - 1) s) (fewer_wait (d - 1) s k m d e (omega arith)) in
      omega (arith, simp length-take at w)

  pub size_most : (most : ℕ) → ((s : List ℕ) → settle s ≡ More → length s ≤ most) → (s : List ℕ) → item_size (settle s) ≤ suc most
  size_most most few s = go (settle s) refl
    where
      go : (x : Settling) → settle s ≡ x → item_size x ≤ suc most
      go More e = omega arith
      go (Settled k m d) e = omega (arith, law.within s k m d e, by_most most few s k m d e)
