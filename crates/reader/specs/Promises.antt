-- What the contracts of feeding and closing promise, in document 01's words, whatever state is handed in.
use Rattle.std.specs.Prelude.{ℕ, ◌+◌, ◌-◌, ◌≤◌, ◌<◌, ◌≡◌, refl, List, [], ◌∷◌, ◌++◌, length, take}
use Rattle.std.proofs.Common.{sym, ap, ◌∙◌, length-take, length-drop, arith}
use Rattle.std.proofs.Math.Seq.{take-append-add}
use Rattle.refusal.specs.Test.{clash}
use Rattle.stream.specs.Stream.{More, Item, reading, Fed, nothing_yet, found, Closed, empty, last, item_size, items, feed, close}
use Rattle.stream.specs.Lawful.{prefix_waits}
use Rattle.stream.specs.Fewest.{Fewest, found_fewest}
use Rattle.stream.specs.Cut.{feed_nothing, feed_less, close_empty, close_last, close_less}
use Rattle.extent.specs.declared.Line.{Line}
use Rattle.extent.specs.Line.{cap_of}
use Rattle.line.specs.Rule.{settle}
use Rattle.line.specs.Laws.{lawful, by_few, fullest, waits_most}
use Rattle.reader.specs.declared.Held.{Held}
use Rattle.reader.specs.declared.Given.{Given}
use Rattle.reader.specs.Reader.{item_room, held_of, hold, said_fed, said_closed, count_of, given_of, closed_of, Feeds, Closes}
use Rattle.reader.specs.Claims.{cap_fits, held_few, held_over, hold_holds}
use Rattle.reader.specs.Answers.{given_held, feeds_by}
use Rattle.reader.specs.Window.{begin_nothing}
use Rattle.reader.specs.Run.{Reached, fresh, after_feed, after_close}

-- What a feeding call promises, whose result r its contract allows.
pub record FeedPromise (on : Line) (h : Held) (p : List ℕ) (r : Given) : Type 0 where
  -- "A feeding call takes the fewest bytes of its part that settle the next item, says how many, and gives the item with its bytes"
  pub fewest : (j : ℕ) (i : Item) (g : List ℕ) → said_fed on r ≡ found j i g → Fewest (settle on) (held_of on h) p j i g
  -- "If none is settled it takes all and answers 'nothing yet'."
  pub all : (g : List ℕ) → said_fed on r ≡ nothing_yet g
      → (r.taken ≡ length p) × (g ≡ held_of on h ++ p) × ((c : ℕ) → settle on (held_of on h ++ take c p) ≡ More)
  -- it takes no more than the part, its item has room, and with each item fewer bytes are left to read
  pub fits : r.taken ≤ length p
  pub room : count_of r.item ≤ item_room
  pub onwards : (j : ℕ) (i : Item) (g : List ℕ) → said_fed on r ≡ found j i g → length g + (length p - j) < length (held_of on h) + length p
  -- "A reader holds at most 67 bytes of a reply line and 10 of a request line", and 12 of it since W-202.
  pub few : r.held.len ≤ cap_of on
  -- "One handed in that claims more is taken as a fresh reader"
  pub claims : cap_of on < h.len → Feeds on (hold []) p r

-- What a closing call promises.
pub record ClosePromise (on : Line) (h : Held) (r : Given) : Type 0 where
  -- "Closing calls give the remaining items one at a time"
  pub next : (i : Item) (g : List ℕ) → said_closed on r ≡ last i g → items (settle on) (held_of on h) ≡ i ∷ items (settle on) g
  -- "and leave a fresh reader when they say 'empty'"
  pub end : said_closed on r ≡ empty → (held_of on h ≡ []) × (r.held ≡ hold [])
  -- it takes nothing, its item has room, and with each item fewer bytes are held
  pub none : r.taken ≡ 0
  pub room : count_of r.item ≤ item_room
  pub onwards : (i : Item) (g : List ℕ) → said_closed on r ≡ last i g → length g < length (held_of on h)
  -- "A reader holds at most 67 bytes of a reply line and 10 of a request line", and 12 of it since W-202.
  pub few : r.held.len ≤ cap_of on
  -- "One handed in that claims more is taken as a fresh reader"
  pub claims : cap_of on < h.len → Closes on (hold []) r

found_fits : (on : Line) (h p g : List ℕ) (j k : ℕ) (l : List ℕ) → feed (settle on) h p ≡ found j (reading k l) g → length l ≤ item_room
found_fits on h p g j k l e =
    let f = found_fewest (settle on) e in
    let q : l ≡ take f.size (h ++ take j p) = (let w = f.gives in cc) in
    let s = h ++ take j p in
    rw q
    (omega (arith, length-take f.size s, (lawful on).within s _ _ _ f.settles, by_few on s _ _ _ f.settles, cap_fits on))

last_fits : (on : Line) (h g : List ℕ) (k : ℕ) (l : List ℕ) → close (settle on) h ≡ last (reading k l) g → length l ≤ length h
unfolding close
last_fits on [] g k l e = clash (cc)
last_fits on (b ∷ s) g k l e =
    let q : take (item_size (settle on (b ∷ s))) (b ∷ s) ≡ l = cc in
    rw (← q) (simp length-take (omega arith))

module _ (on : Line) (h : Held) where
  -- one that claims more holds what a fresh one does
  fresh_held : cap_of on < h.len → held_of on h ≡ held_of on (hold [])
  fresh_held l = held_over on h l ∙ sym (hold_holds on [] (omega arith))

  module _ (p : List ℕ) (r : Given) (f : Feeds on h p r) where
    result : r ≡ given_of p (feed (settle on) (held_of on h) p)
    result = f.only ∙ ap (given_of p) f.says

    takes_all : (g : List ℕ) → said_fed on r ≡ nothing_yet g
        → (r.taken ≡ length p) × (g ≡ held_of on h ++ p) × ((c : ℕ) → settle on (held_of on h ++ take c p) ≡ More)
    takes_all g e =
        let w = feed_nothing (settle on) (lawful on) (held_of on h) p g (sym f.says ∙ e) in
        let z : r.taken ≡ length p = ap (λ (x : Given). x.taken) (f.only ∙ ap (given_of p) e) in (
          z,
          w.0,
          λ c. rw (sym (take-append-add (held_of on h) p c))
              (prefix_waits (settle on) (lawful on) (length (held_of on h) + c) (held_of on h ++ p) w.1),
        )

    fed_within : (r.taken ≤ length p) × (count_of r.item ≤ item_room)
    fed_within = rw result (go (feed (settle on) (held_of on h) p) refl)
      where
        go : (x : Fed) → feed (settle on) (held_of on h) p ≡ x → ((given_of p x).taken ≤ length p) × (count_of (given_of p x).item ≤ item_room)
        go (nothing_yet g) e = (omega arith, omega arith)
        go (found j (reading k l) g) e = ((found_fewest (settle on) e).takes, found_fits on (held_of on h) p g j k l e)

    fed_few : r.held.len ≤ cap_of on
    fed_few =
        let e : r.held ≡ hold (held_of on r.held) =
        ap (λ (x : Given). x.held) f.only ∙ given_held p r.item r.taken (held_of on r.held) in
        rw (ap (λ (x : Held). x.len) e) (held_few on r.held)

    pub feed_promise : FeedPromise on h p r
    feed_promise =
        record {
          fewest = λ j i g e. found_fewest (settle on) (sym f.says ∙ e);
          all = takes_all;
          fits = fed_within.0;
          room = fed_within.1;
          onwards = λ j i g e.
              omega (arith, simp length-drop at (feed_less (settle on) (lawful on) (held_of on h) p g j i (sym f.says ∙ e)));
          few = fed_few;
          claims = λ l. record { says = f.says ∙ ap (λ (x : List ℕ). feed (settle on) x p) (fresh_held l); only = f.only };
        }

  module _ (r : Given) (f : Closes on h r) where
    closed_result : r ≡ closed_of (close (settle on) (held_of on h))
    closed_result = f.only ∙ ap closed_of f.says

    closed_within : (r.taken ≡ 0) × (count_of r.item ≤ item_room) × (r.held.len ≤ cap_of on)
    closed_within = rw closed_result (go (close (settle on) (held_of on h)) refl)
      where
        go : (x : Closed) → close (settle on) (held_of on h) ≡ x
            → ((closed_of x).taken ≡ 0) × (count_of (closed_of x).item ≤ item_room) × ((closed_of x).held.len ≤ cap_of on)
        go empty e = (refl, omega arith, omega arith)
        go (last (reading k l) g) e =
            let n = held_few on h in (
              refl,
              omega (arith, last_fits on (held_of on h) g k l e, cap_fits on),
              omega (arith, close_less (settle on) (lawful on) (held_of on h) g (reading k l) e),
            )

    pub close_promise : ClosePromise on h r
    close_promise =
        record {
          next = λ i g e. close_last (settle on) (lawful on) (held_of on h) g i (sym f.says ∙ e);
          end = λ e. (
            close_empty (settle on) (lawful on) (held_of on h) (sym f.says ∙ e),
            ap (λ (x : Given). x.held) (f.only ∙ ap closed_of e),
          );
          none = closed_within.0;
          room = closed_within.1;
          onwards = λ i g e. close_less (settle on) (lawful on) (held_of on h) g i (sym f.says ∙ e);
          few = closed_within.2;
          claims = λ l. record { says = f.says ∙ ap (close (settle on)) (fresh_held l); only = f.only };
        }

-- so no reader that calls lead to from a fresh one holds more, and one holds as many
pub reached_few : (on : Line) {h : Held} → Reached on h → h.len ≤ cap_of on
reached_few on fresh = omega arith
reached_few on (after_feed {h} w p r f) = (feed_promise on h p r f).few
reached_few on (after_close {h} w r f) = (close_promise on h r f).few

pub reached_most : (on : Line) → (h : Held) × Reached on h × (h.len ≡ cap_of on)
reached_most on =
    let r : Given = given_of (fullest on) (nothing_yet (fullest on)) in
    let none : held_of on (hold []) ≡ [] = hold_holds on [] (omega arith) in
    let e : r ≡ given_of (fullest on) (feed (settle on) (held_of on (hold [])) (fullest on)) =
    rw none (ap (given_of (fullest on)) (sym (begin_nothing on (fullest on) (waits_most on).1))) in
    (r.held, after_feed fresh (fullest on) r (feeds_by on (hold []) (fullest on) r e), (waits_most on).0)
