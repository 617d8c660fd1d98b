-- What the definitions of the calls come to as results: each says what the rule's call answers, and no more.
use Rattle.std.specs.Prelude.{ℕ, zero, suc, ◌≤◌, ◌≡◌, refl, List, [], ◌++◌, length, take, Option, Some, None}
use Rattle.std.proofs.Common.{sym, ap, ◌∙◌, length-append, length-take, length-drop, arith}
use Rattle.refusal.specs.Test.{clash}
use Rattle.stream.specs.Stream.{Item, reading, Fed, nothing_yet, found, Closed, empty, last, feed, close}
use Rattle.stream.specs.Fewest.{Fewest, found_fewest}
use Rattle.stream.specs.Cut.{feed_nothing, close_less}
use Rattle.extent.specs.declared.Line.{Line}
use Rattle.extent.specs.Line.{cap_of}
use Rattle.line.specs.Rule.{settle}
use Rattle.line.specs.Laws.{lawful, waits_few}
use Rattle.reader.specs.declared.Held.{Held}
use Rattle.reader.specs.declared.Given.{Given}
use Rattle.reader.specs.declared.Item.{Item as Got}
use Rattle.reader.specs.Reader.{item_room, held_of, hold, fed_said, closed_said, said_fed, said_closed, given_of, closed_of, Feeds, Closes}
use Rattle.reader.specs.Arrays.{take_pad}
use Rattle.reader.specs.Claims.{held_few, hold_holds}

-- what a result says is held
pub found_held : (on : Line) (r : Given) (j : ℕ) (i : Item) (g : List ℕ) → said_fed on r ≡ found j i g → held_of on r.held ≡ g
found_held on r j i g = go r.item r.taken (held_of on r.held)
  where
    go : (x : Option Got) (c : ℕ) (f : List ℕ) → fed_said x c f ≡ found j i g → f ≡ g
    go None c f e = clash (cc)
    go (Some k) c f e = cc

pub nothing_held : (on : Line) (r : Given) (g : List ℕ) → said_fed on r ≡ nothing_yet g → held_of on r.held ≡ g
nothing_held on r g = go r.item r.taken (held_of on r.held)
  where
    go : (x : Option Got) (c : ℕ) (f : List ℕ) → fed_said x c f ≡ nothing_yet g → f ≡ g
    go None c f e = cc
    go (Some k) c f e = clash (cc)

pub last_held : (on : Line) (r : Given) (i : Item) (g : List ℕ) → said_closed on r ≡ last i g → held_of on r.held ≡ g
last_held on r i g = go r.item (held_of on r.held)
  where
    go : (x : Option Got) (f : List ℕ) → closed_said x f ≡ last i g → f ≡ g
    go None f e = clash (cc)
    go (Some k) f e = cc

-- a result that says no more holds what it says, and no other byte
pub given_held : (p : List ℕ) (x : Option Got) (j : ℕ) (g : List ℕ) → (given_of p (fed_said x j g)).held ≡ hold g
given_held p None j g = refl
given_held p (Some k) j g = refl

-- the bytes held after an answer
abbrev pub held_after : Fed → List ℕ
held_after (nothing_yet g) = g
held_after (found j i g) = g

abbrev pub held_behind : Closed → List ℕ
held_behind empty = []
held_behind (last i g) = g

module _ (on : Line) where
  -- a call holds no more afterwards than a reader of the line can
  found_few : (h p g : List ℕ) (j : ℕ) (i : Item) → length h ≤ cap_of on → Fewest (settle on) h p j i g → length g ≤ cap_of on
  found_few h p g zero i l f =
      let n = (lawful on).some _ _ _ _ f.settles in
      rw f.holds (simp (length-drop, length-append, length-take) (omega arith))
  found_few h p g (suc c) i l f =
      let n = (lawful on).some _ _ _ _ f.settles in
      let w = simp (length-append, length-take) at (waits_few on (h ++ take c p) (f.least c (omega arith))) in
      rw f.holds (simp (length-drop, length-append, length-take) (omega (arith, f.takes)))

  fed_few : (h p : List ℕ) → length h ≤ cap_of on → length (held_after (feed (settle on) h p)) ≤ cap_of on
  fed_few h p l = go (feed (settle on) h p) refl
    where
      go : (x : Fed) → feed (settle on) h p ≡ x → length (held_after x) ≤ cap_of on
      go (nothing_yet g) e =
          let w = feed_nothing (settle on) (lawful on) h p g e in
          rw w.0 (waits_few on (h ++ p) w.1)
      go (found j i g) e = found_few h p g j i l (found_fewest (settle on) e)

  closed_few : (h : List ℕ) → length h ≤ cap_of on → length (held_behind (close (settle on) h)) ≤ cap_of on
  closed_few h l = go (close (settle on) h) refl
    where
      go : (x : Closed) → close (settle on) h ≡ x → length (held_behind x) ≤ cap_of on
      go empty e = omega arith
      go (last i g) e = omega (arith, close_less (settle on) (lawful on) h g i e)

  -- the result that was made of an answer says it
  said_given_lem : (p : List ℕ) (x : Fed) → length (held_after x) ≤ cap_of on → said_fed on (given_of p x) ≡ x
  said_given_lem p (nothing_yet g) l = ap nothing_yet (hold_holds on g l)
  said_given_lem p (found j (reading k b) g) l = rw (hold_holds on g l, take_pad item_room b)

  said_closed_lem : (x : Closed) → length (held_behind x) ≤ cap_of on → said_closed on (closed_of x) ≡ x
  said_closed_lem empty l = refl
  said_closed_lem (last (reading k b) g) l = rw (hold_holds on g l, take_pad item_room b)

  -- so it is one that the contract allows
  pub feeds_by : (h : Held) (p : List ℕ) (r : Given) → r ≡ given_of p (feed (settle on) (held_of on h) p) → Feeds on h p r
  feeds_by h p r e =
      let s : said_fed on r ≡ feed (settle on) (held_of on h) p =
      ap (said_fed on) e ∙ said_given_lem p (feed (settle on) (held_of on h) p) (fed_few (held_of on h) p (held_few on h)) in
      record { says = s; only = e ∙ ap (given_of p) (sym s) }

  pub closes_by : (h : Held) (r : Given) → r ≡ closed_of (close (settle on) (held_of on h)) → Closes on h r
  closes_by h r e =
      let s : said_closed on r ≡ close (settle on) (held_of on h) =
      ap (said_closed on) e ∙ said_closed_lem (close (settle on) (held_of on h)) (closed_few (held_of on h) (held_few on h)) in
      record { says = s; only = e ∙ ap closed_of (sym s) }
