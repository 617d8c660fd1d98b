-- A run of calls on a reader: "any byte stream on either line, cut at any places, empty parts allowed, fed part by part until
-- 'nothing yet' and then closed until 'empty'".
use Rattle.std.specs.Prelude.{ℕ, suc, ◌≡◌, List, [], ◌∷◌, drop}
use Rattle.stream.specs.Stream.{Item, nothing_yet, found, empty, last}
use Rattle.extent.specs.declared.Line.{Line}
use Rattle.reader.specs.declared.Held.{Held}
use Rattle.reader.specs.declared.Given.{Given}
use Rattle.reader.specs.Reader.{hold, said_fed, said_closed, Feeds, Closes}

module _ (on : Line) where
  -- The reader before the calls, the parts still to be fed (the first as far as it is not taken), the items that the calls give,
  -- and how many calls they are. Each r is any result that the contract of `feed` or of `close` allows.
  pub data Run : Held → List (List ℕ) → List Item → ℕ → Type 0 where
    fed : {h : Held} {p g : List ℕ} {ps : List (List ℕ)} {j n : ℕ} {i : Item} {is : List Item} (r : Given)
        → Feeds on h p r → said_fed on r ≡ found j i g → Run r.held (drop j p ∷ ps) is n → Run h (p ∷ ps) (i ∷ is) (suc n)
    over : {h : Held} {p g : List ℕ} {ps : List (List ℕ)} {n : ℕ} {is : List Item} (r : Given)
        → Feeds on h p r → said_fed on r ≡ nothing_yet g → Run r.held ps is n → Run h (p ∷ ps) is (suc n)
    closed : {h : Held} {g : List ℕ} {n : ℕ} {i : Item} {is : List Item} (r : Given)
        → Closes on h r → said_closed on r ≡ last i g → Run r.held [] is n → Run h [] (i ∷ is) (suc n)
    ended : {h : Held} (r : Given) → Closes on h r → said_closed on r ≡ empty → Run h [] [] 1

  -- the readers that calls lead to from a fresh one
  pub data Reached : Held → Type 0 where
    fresh : Reached (hold [])
    after_feed : {h : Held} → Reached h → (p : List ℕ) (r : Given) → Feeds on h p r → Reached r.held
    after_close : {h : Held} → Reached h → (r : Given) → Closes on h r → Reached r.held
