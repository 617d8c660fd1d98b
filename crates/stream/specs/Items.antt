-- The items of a whole stream, one after the other.
use Prim.Native.Nat.{ℕ, zero, suc, ◌+◌, ◌≤◌}
use Rattle.std.specs.Prelude.{◌≡◌, take}
use Rattle.std.proofs.Math.Path.{refl}
use Rattle.std.proofs.Common.{sym, ap, ◌∙◌, length-append, take-append-drop}
use mathlib.Core.List.{List, [], ◌∷◌, ◌++◌}
use Rattle.std.proofs.Math.ListN.{length, drop, length-drop}
use Rattle.std.proofs.lemmas.List.{take-append-le, drop-append-le}
use native.Mathlib.Omega.{arith}
use Rattle.stream.specs.Stream.{Settling, Settled}
use Rattle.stream.specs.Stream.{Item, reading, item_number, item_size, items_up_to, items, bytes_of, counts_of}
use Rattle.stream.specs.Lawful.{Lawful, size_some}

-- two lists with one head, whose tails are equal
pub behind : {i : Item} {a b : List Item} → a ≡ b → i ∷ a ≡ i ∷ b
behind {i} e = ap (λ (l : List Item). i ∷ l) e

-- the byte counts of items add up to the number of their bytes
pub counts_bytes : (is : List Item) → counts_of is ≡ length (bytes_of is)
unfolding counts_of bytes_of
counts_bytes [] = refl
counts_bytes (reading k l ∷ is) = ap (λ (n : ℕ). length l + n) (counts_bytes is) ∙ sym (length-append l (bytes_of is))

module _ (settle : List ℕ → Settling) (law : Lawful settle) where
  enough : (n m : ℕ) (s : List ℕ) → length s ≤ n → length s ≤ m → items_up_to settle n s ≡ items_up_to settle m s
  unfolding items_up_to
  enough zero zero [] hn hm = refl
  enough zero (suc m) [] hn hm = refl
  enough (suc n) zero [] hn hm = refl
  enough (suc n) (suc m) [] hn hm = refl
  enough zero zero (b ∷ s) hn hm = absurd (omega arith)
  enough zero (suc m) (b ∷ s) hn hm = absurd (omega arith)
  enough (suc n) zero (b ∷ s) hn hm = absurd (omega arith)
  enough (suc n) (suc m) (b ∷ s) hn hm =
      behind
      (enough n m (drop (item_size (settle (b ∷ s))) (b ∷ s))
      (simp length-drop (omega (arith, size_some settle law (b ∷ s))))
      (simp length-drop (omega (arith, size_some settle law (b ∷ s)))))

  -- a stream of no bytes has no item, and any other has the item at its front and then those of what is left: this determines the items
  pub items_none : items settle [] ≡ []
  unfolding items_up_to
  items_none = refl

  pub items_next : (b : ℕ) (s : List ℕ)
      → items settle (b ∷ s)
      ≡ reading (item_number (settle (b ∷ s))) (take (item_size (settle (b ∷ s))) (b ∷ s))
      ∷ items settle (drop (item_size (settle (b ∷ s))) (b ∷ s))
  unfolding items_up_to
  items_next b s =
      let r = drop (item_size (settle (b ∷ s))) (b ∷ s) in
      behind (enough (length s) (length r) r (simp length-drop (omega (arith, size_some settle law (b ∷ s)))) (omega arith))

  -- where the front is settled
  pub items_settled : (s : List ℕ) (k m d : ℕ) → settle s ≡ Settled k m d → items settle s ≡ reading k (take m s) ∷ items settle (drop m s)
  items_settled [] k m d e = absurd (omega (arith, law.some [] k m d e, law.within [] k m d e, law.there [] k m d e))
  items_settled (b ∷ s) k m d e = simp e at (items_next b s)

  -- and where more bytes stand behind those that settle it
  pub items_front : (h t : List ℕ) (k m d : ℕ) → settle h ≡ Settled k m d
      → items settle (h ++ t) ≡ reading k (take m h) ∷ items settle (drop m h ++ t)
  items_front h t k m d e =
      let w : m ≤ length h = omega (arith, law.within h k m d e, law.there h k m d e) in
      items_settled (h ++ t) k m d (law.stable h t k m d e) ∙ simp (take-append-le m h t w, drop-append-le m h t w)

  -- the items' bytes, put together, are the stream
  pub items_bytes : (s : List ℕ) → bytes_of (items settle s) ≡ s
  unfolding items_up_to bytes_of
  items_bytes s = go (length s) s (omega arith)
    where
      go : (n : ℕ) (s : List ℕ) → length s ≤ n → bytes_of (items_up_to settle n s) ≡ s
      go zero [] h = refl
      go zero (b ∷ s) h = absurd (omega arith)
      go (suc n) [] h = refl
      go (suc n) (b ∷ s) h =
          let m = item_size (settle (b ∷ s)) in
          let r : bytes_of (items_up_to settle n (drop m (b ∷ s))) ≡ drop m (b ∷ s) =
          go n (drop m (b ∷ s)) (simp length-drop (omega (arith, size_some settle law (b ∷ s)))) in
          rw r (take-append-drop m (b ∷ s))

  -- so their byte counts add up to its length
  pub items_counts : (s : List ℕ) → counts_of (items settle s) ≡ length s
  items_counts s = counts_bytes (items settle s) ∙ ap length (items_bytes s)

  -- and there are no more items than bytes
  pub items_few : (s : List ℕ) → length (items settle s) ≤ length s
  unfolding items_up_to
  items_few s = go (length s) s
    where
      go : (n : ℕ) (s : List ℕ) → length (items_up_to settle n s) ≤ n
      go zero s = omega arith
      go (suc n) [] = omega arith
      go (suc n) (b ∷ s) = omega (arith, go n (drop (item_size (settle (b ∷ s))) (b ∷ s)))
