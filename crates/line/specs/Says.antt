-- The rule with the count says at each position what document 01's rule says there; and what stands at a position is that, or at close
-- item 1.
use Rattle.std.specs.Prelude.{ℕ, suc, ◌≤◌, ◌<◌, ◌≡◌, refl, Bool, true, false, List, [], ◌∷◌, length, take, drop, leb, eqb, Option}
use Rattle.std.proofs.Common.{sym, ap, ◌∙◌, arith}
use Rattle.refusal.specs.Test.{pick, clash}
use Rattle.sum.specs.Sum.{sum_of}
use Rattle.frame.specs.Frame.{byte}
use Rattle.command.specs.Command.{shape_of}
use Rattle.command.specs.Length.{Told, unknown, fixed, tested, length_of}
use Rattle.stream.specs.Stream.{nothing, stands, at_close, Settling, More, Settled, position, item_number, item_size}
use Rattle.stream.specs.Stream.{reading, items}
use Rattle.stream.specs.Items.{items_none, items_next}
use Rattle.stream.specs.declared.Step.{Step}
use Rattle.stream.specs.Said.{said_step}
use Rattle.stream.specs.Lawful.{size_some, size_there}
use Rattle.extent.specs.declared.Line.{Line}
use Rattle.extent.specs.declared.Line.TheVariants.{Request, Reply}
use Rattle.extent.specs.declared.Extent.TheVariants.{Wait, Bad, Frame}
use Rattle.extent.specs.Line.{is_lead, reply_length, length_extent, extent_of, in_table}
use Rattle.line.specs.Rule.{frame_at, length_at, behind_lead, rule_at, item_at, frame_item, extent_item, settle}
use Rattle.line.specs.Laws.{lawful}

frame_says : (on : Line) (n : ℕ) (s : List ℕ) → position (frame_item on n s) ≡ frame_at on n s
frame_says on n s = go (leb n (length s)) (eqb (sum_of (take n s)) 0) (in_table on (take n s))
  where
    go : (a b c : Bool) → position (pick a (pick b (pick c (Settled 0 n n) (Settled 7 n n)) (Settled 6 1 n)) More)
        ≡ pick a (pick b (pick c (stands 0 n) (stands 7 n)) (stands 6 1)) nothing
    go true true true = refl
    go true true false = refl
    go true false c = refl
    go false b c = refl

length_says : (on : Line) (x : Told) (s : List ℕ) → position (extent_item on (length_extent x s) s) ≡ length_at on x s
length_says on unknown s = refl
length_says on (fixed n) s = frame_says on n s
length_says on (tested p test n) s = go (leb (suc p) (length s)) (test (byte p s))
  where
    go : (a b : Bool) → position (extent_item on (pick a (pick b (Frame (n (byte p s))) (Bad 4 (suc p))) Wait) s)
        ≡ pick a (pick b (frame_at on (n (byte p s)) s) (stands 4 1)) nothing
    go true true = frame_says on (n (byte p s)) s
    go true false = refl
    go false b = refl

extent_says : (on : Line) (s : List ℕ) → position (extent_item on (extent_of on s) s) ≡ behind_lead on s
extent_says Request s = go (leb 3 (length s))
  where
    x : Told
    x = length_of (shape_of (byte 2 s))

    go : (a : Bool) → position (extent_item Request (pick a (length_extent x s) Wait) s) ≡ pick a (length_at Request x s) nothing
    go true = length_says Request x s
    go false = refl
extent_says Reply s = length_says Reply reply_length s

-- but for the count the two rules are one
pub settle_says : (on : Line) (s : List ℕ) → position (settle on s) ≡ rule_at on s
unfolding settle rule_at
settle_says on s = go (leb 1 (length s)) (is_lead on (byte 0 s))
  where
    go : (a b : Bool)
        → position (pick a (pick b (extent_item on (extent_of on s) s) (Settled 2 1 1)) More)
        ≡ pick a (pick b (behind_lead on s) (stands 2 1)) nothing
    go true true = extent_says on s
    go true false = refl
    go false b = refl

-- what stands at a position, by the rule with the count
pub item_at_lem : (on : Line) (closed : Bool) (s : List ℕ) → 1 ≤ length s → item_at on closed s ≡ at_close closed (position (settle on s))
unfolding item_at
item_at_lem on closed [] l = absurd (omega arith)
item_at_lem on closed (b ∷ s) l = ap (at_close closed) (sym (settle_says on (b ∷ s)))

pub said_at_lem : (on : Line) (closed : Bool) (s : List ℕ) (r : Option Step) → 1 ≤ length s → said_step r ≡ settle on s
    → at_close closed (position (said_step r)) ≡ item_at on closed s
said_at_lem on closed s r l e = rw e (sym (item_at_lem on closed s l))

pub none_at : (on : Line) (closed : Bool) (s : List ℕ) → length s < 1 → item_at on closed s ≡ nothing
unfolding item_at
none_at on closed [] l = refl
none_at on closed (b ∷ s) l = absurd (omega arith)

-- where nothing stands there are no bytes, or they settle nothing and more may come
pub nothing_at : (on : Line) (closed : Bool) (s : List ℕ) → item_at on closed s ≡ nothing → 1 ≤ length s
    → (closed ≡ false) × (settle on s ≡ More)
nothing_at on closed s e l = go closed (settle on s) refl (sym (item_at_lem on closed s l) ∙ e)
  where
    go : (c : Bool) (x : Settling) → settle on s ≡ x → at_close c (position x) ≡ nothing → (c ≡ false) × (settle on s ≡ More)
    go true More q f = clash (cc)
    go false More q f = (refl, q)
    go c (Settled k m d) q f = clash (cc)

-- an item that stands is the one that the rule settles, or where it settles none the one at close; it has a byte, and its bytes are there
pub stands_at : (on : Line) (closed : Bool) (s : List ℕ) (k m : ℕ) → item_at on closed s ≡ stands k m
    → (k ≡ item_number (settle on s)) × (m ≡ item_size (settle on s)) × (1 ≤ m) × (m ≤ length s)
unfolding item_at
stands_at on closed [] k m e = clash (cc)
stands_at on closed (b ∷ s) k m e =
    let q = go closed (settle on (b ∷ s)) (sym (item_at_lem on closed (b ∷ s) (omega arith)) ∙ e) in
    let a = size_some (settle on) (lawful on) (b ∷ s) in
    let c = size_there (settle on) (lawful on) (b ∷ s) (omega arith) in
    (q.0, q.1, omega (arith, q.1), omega (arith, q.1))
  where
    go : (c : Bool) (x : Settling) → at_close c (position x) ≡ stands k m → (k ≡ item_number x) × (m ≡ item_size x)
    go true More f = (cc, cc)
    go false More f = clash (cc)
    go c (Settled k' m' d) f = (cc, cc)

-- so document 01's rule gives the items of a whole stream: none at its end, else the one that stands there, and those behind it
pub items_end : (on : Line) → items (settle on) [] ≡ []
items_end on = items_none (settle on) (lawful on)

pub items_at : (on : Line) (s : List ℕ) (k m : ℕ) → item_at on true s ≡ stands k m
    → items (settle on) s ≡ reading k (take m s) ∷ items (settle on) (drop m s)
unfolding item_at
items_at on [] k m e = clash (cc)
items_at on (b ∷ s) k m e =
    let w = stands_at on true (b ∷ s) k m e in
    rw (w.0, w.1) (items_next (settle on) (lawful on) b s)
