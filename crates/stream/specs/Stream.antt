-- Document 01, "Reading a line", over any rule `settle` that says of the bytes at a position whether they settle an item.
use Rattle.std.specs.Prelude.{ℕ, zero, suc, ◌+◌, ◌≡◌, Bool, List, [], ◌∷◌, ◌++◌, length, take, drop}
use Rattle.refusal.specs.Test.{pick}

-- an item: its number and its bytes
pub data Item : Type 0 where
  reading : ℕ → List ℕ → Item

-- what stands at a position: nothing (yet, or no more), or an item by its number and its size
pub data Position : Type 0 where
  nothing : Position
  stands : ℕ → ℕ → Position

-- "Fewer bytes than a rule needs: wait. At close: item 1, one byte."
abbrev pub at_close : Bool → Position → Position
at_close closed nothing = pick closed (stands 1 1) nothing
at_close closed (stands k m) = stands k m

-- what a rule says of the bytes at a position: more are needed; or the item's number, its size, and the fewest bytes that settle it
pub data Settling : Type 0 where
  More : Settling
  Settled : ℕ → ℕ → ℕ → Settling

-- the same, but for the count
abbrev pub position : Settling → Position
position More = nothing
position (Settled k m d) = stands k m

-- number and size of the item where the stream ends behind these bytes
abbrev pub item_number : Settling → ℕ
item_number More = 1
item_number (Settled k m d) = k

abbrev pub item_size : Settling → ℕ
item_size More = 1
item_size (Settled k m d) = m

-- what a feeding call answers: "nothing yet", with the bytes then held; or how many bytes of its part it took, the item, and the bytes
-- then held
pub data Fed : Type 0 where
  nothing_yet : List ℕ → Fed
  found : ℕ → Item → List ℕ → Fed

-- what a closing call answers: "empty", or an item and the bytes then held
pub data Closed : Type 0 where
  empty : Closed
  last : Item → List ℕ → Closed

-- where the bytes h settle an item, a call that has taken j bytes of its part gives it; else it goes on
abbrev pub or_else : Settling → ℕ → List ℕ → Fed → Fed
or_else More j h other = other
or_else (Settled k m d) j h other = found j (reading k (take m h)) (drop m h)

-- the parts of a cut, put together again
unfoldable pub whole : List (List ℕ) → List ℕ
whole [] = []
whole (p ∷ ps) = p ++ whole ps

module _ (settle : List ℕ → Settling) where
  -- the items of a whole stream, of which at most n are looked for: "Reading goes on after the item's bytes."
  unfoldable pub items_up_to : ℕ → List ℕ → List Item
  items_up_to zero s = []
  items_up_to (suc n) [] = []
  items_up_to (suc n) (b ∷ s) =
      let x = settle (b ∷ s) in
      reading (item_number x) (take (item_size x) (b ∷ s)) ∷ items_up_to n (drop (item_size x) (b ∷ s))

  -- the items of a whole stream: each has a byte at least, so there are no more than bytes
  abbrev pub items : List ℕ → List Item
  items s = items_up_to (length s) s

  -- a feeding call that holds h, has taken j bytes of its part, and has p of it left, takes one more only where h settles no item
  unfoldable pub feed_from : ℕ → List ℕ → List ℕ → Fed
  feed_from j h [] = or_else (settle h) j h (nothing_yet h)
  feed_from j h (b ∷ p) = or_else (settle h) j h (feed_from (suc j) (h ++ (b ∷ [])) p)

  -- "A feeding call takes the fewest bytes of its part that settle the next item, says how many, and gives the item with its bytes;
  -- zero is possible. If none is settled it takes all and answers 'nothing yet'."
  abbrev pub feed : List ℕ → List ℕ → Fed
  feed h p = feed_from 0 h p

  -- "Closing calls give the remaining items one at a time": the first item of the bytes held, as if the stream ended there
  unfoldable pub close : List ℕ → Closed
  close [] = empty
  close (b ∷ s) =
      let x = settle (b ∷ s) in
      last (reading (item_number x) (take (item_size x) (b ∷ s))) (drop (item_size x) (b ∷ s))

  -- A run of calls from the bytes held: each part is fed until a call says "nothing yet", and then the reader is closed until a
  -- call says "empty". Beside it the parts still to be fed, the items that the run gives, and how many calls it makes.
  pub data Run : List ℕ → List (List ℕ) → List Item → ℕ → Type 0 where
    fed : {h g p : List ℕ} {ps : List (List ℕ)} {j n : ℕ} {i : Item} {is : List Item}
        → feed h p ≡ found j i g → Run g (drop j p ∷ ps) is n → Run h (p ∷ ps) (i ∷ is) (suc n)
    over : {h g p : List ℕ} {ps : List (List ℕ)} {n : ℕ} {is : List Item}
        → feed h p ≡ nothing_yet g → Run g ps is n → Run h (p ∷ ps) is (suc n)
    closed : {h g : List ℕ} {n : ℕ} {i : Item} {is : List Item}
        → close h ≡ last i g → Run g [] is n → Run h [] (i ∷ is) (suc n)
    ended : {h : List ℕ} → close h ≡ empty → Run h [] [] 1

-- the bytes of items, put together, and the sum of their byte counts
unfoldable pub bytes_of : List Item → List ℕ
bytes_of [] = []
bytes_of (reading k l ∷ is) = l ++ bytes_of is

unfoldable pub counts_of : List Item → ℕ
counts_of [] = 0
counts_of (reading k l ∷ is) = length l + counts_of is
