-- What the code puts together is what the definitions say.
use Rattle.std.specs.Prelude.{ℕ, suc, ◌-◌, ◌≤◌, ◌≡◌, refl, Bool, true, List, [], ◌∷◌, ◌++◌, length, take, drop, Option, Some, None}
use Rattle.std.proofs.Common.{sym, ap, ◌∙◌, length-append, length-take, length-drop, length-take-le, take_all, arith}
use Rattle.stream.specs.Stream.{More, Settled}
use Rattle.refusal.specs.Test.{clash}
use Rattle.stream.specs.Stream.{nothing, feed}
use Rattle.stream.specs.Fewest.{feed_settled}
use Rattle.stream.specs.Cut.{close_none, close_some}
use Rattle.extent.specs.declared.Line.{Line}
use Rattle.line.specs.declared.Item.{Item}
use Rattle.extent.specs.Line.{cap_of}
use Rattle.line.specs.Rule.{settle, item_at}
use Rattle.line.specs.Said.{said_at}
use Rattle.line.specs.Says.{nothing_at, stands_at}
use Rattle.line.specs.Laws.{lawful, waits_few, by_few}
use Rattle.reader.specs.declared.Held.{Held}
use Rattle.reader.specs.declared.Given.{Given}
use Rattle.reader.specs.Reader.{held_room, item_room, pad, held_of, hold, nothing_of, item_of, given_of, Feeds, Closes}
use Rattle.reader.specs.Claims.{cap_fits, held_few, held_front}
use Rattle.reader.specs.Answers.{feeds_by, closes_by}
use Rattle.reader.specs.Window.{Joined, window_of, begin_item, begin_nothing, resume_takes, resume_item, resume_nothing}

-- the first m bytes of a run as an item, the others held
abbrev pub cut_of : List ℕ → ℕ → ℕ → ℕ → Given
cut_of s m j k = item_of j k (take m s) (drop m s)

-- where the line is closed, nothing stands at the end alone
none_left : (on : Line) (s : List ℕ) → item_at on true s ≡ nothing → s ≡ []
none_left on [] e = refl
none_left on (b ∷ s) e = clash (let w = (nothing_at on true (b ∷ s) e (omega arith)).0 in cc)

-- an item that stands has a byte, and its bytes are there
pub at_fits : (on : Line) (closed : Bool) (s : List ℕ) (a : Option Item) (x : Item) → said_at a ≡ item_at on closed s → a ≡ Some x
    → (1 ≤ x.size) × (x.size ≤ length s)
at_fits on closed s a x e f = let w = stands_at on closed s x.number x.size (sym e ∙ ap said_at f) in (w.2, w.3)

-- an item cut off the front of a run
pub cut_is : (s : List ℕ) (m j k : ℕ) (held : Held) (bytes : List ℕ) → m ≤ length s → held ≡ hold (take (length s - m) (drop m s))
    → bytes ≡ pad item_room (take m s)
    → record { held = held; taken = j; item = Some (record { number = k; count = m; bytes = bytes }) } ≡ cut_of s m j k
cut_is s m j k held bytes l eh eb =
    let ec : m ≡ length (take m s) = sym (length-take-le m s l) in
    let er : take (length s - m) (drop m s) ≡ drop m s = take_all (length s - m) (drop m s) (simp length-drop (omega arith)) in
    let eg : held ≡ hold (drop m s) = rw er at eh in
    λ i. record { held = eg i; taken = j; item = Some (record { number = k; count = ec i; bytes = eb i }) }

-- and one that is the whole run
pub cut_whole : (s : List ℕ) (m : ℕ) (held : Held) → length s ≡ m → held ≡ hold [] → held ≡ hold (take (length s - m) (drop m s))
cut_whole s m held l eh =
    let e : take (length s - m) (drop m s) ≡ [] = take_of (length s - m) (omega arith) in
    rw e eh
  where
    take_of : (n : ℕ) → n ≡ 0 → take n (drop m s) ≡ []
    take_of n e = rw e

module _ (on : Line) where
  -- what is settled fits an item, and what waits fits a state
  pub item_fits : (s : List ℕ) (k m d : ℕ) → settle on s ≡ Settled k m d
      → (1 ≤ m) × (m ≤ d) × (d ≤ length s) × (d ≤ item_room) × (length (take d s) ≡ d)
  item_fits s k m d e =
      let l = (lawful on).there s k m d e in
      ((lawful on).some s k m d e, (lawful on).within s k m d e, l, omega (arith, by_few on s k m d e, cap_fits on), length-take-le d s l)

  pub wait_fits : (s : List ℕ) → settle on s ≡ More → length s ≤ held_room
  wait_fits s e = omega (arith, waits_few on s e, cap_fits on)

  -- a feeding call where nothing is held
  pub begins : (p : List ℕ) (k m d : ℕ) (r : Given) → settle on p ≡ Settled k m d → r ≡ cut_of (take d p) m d k
      → r ≡ given_of p (feed (settle on) [] p)
  begins p k m d r e q = q ∙ rw (begin_item on p k m d e)

  pub begins_not : (p : List ℕ) (r : Given) → settle on p ≡ More → r ≡ nothing_of p (length p) → r ≡ given_of p (feed (settle on) [] p)
  begins_not p r e q = q ∙ rw (begin_nothing on p e)

  -- a feeding call where the bytes held settle nothing, and the window stands at the front of an array
  module _ (h p : List ℕ) (n : ℕ) (b : List ℕ) (waits : settle on h ≡ More) (joined : Joined (window_of on h p) n b) where
    pub window_fits : (length h ≤ n) × (n ≤ length b) × (n ≡ length (take n b))
        × (n ≤ item_room)
    window_fits =
        let z = length-take (suc (cap_of on)) (h ++ p) in
        let l : n ≤ length b = omega (arith, joined.count, joined.room, cap_fits on) in (
          omega (arith, joined.count, length-append h p, waits_few on h waits),
          l,
          sym (length-take-le n b l),
          omega (arith, joined.room),
        )

    pub window_takes : (k m d : ℕ) → settle on (take n b) ≡ Settled k m d → length h ≤ d
    window_takes k m d e = resume_takes on h p waits k m d (rw joined.front at e)

    pub resumes : (k m d : ℕ) (r : Given) → settle on (take n b) ≡ Settled k m d
        → r ≡ cut_of (take d (take n b)) m (d - length h) k → r ≡ given_of p (feed (settle on) h p)
    resumes k m d r e q = q ∙ rw (joined.front, resume_item on h p waits k m d (rw joined.front at e))

    pub resumes_not : (r : Given) → settle on (take n b) ≡ More
        → r ≡ nothing_of (take n b) (n - length h) → r ≡ given_of p (feed (settle on) h p)
    resumes_not r e q =
        let z = resume_nothing on h p waits (rw joined.front at e) in
        let l : n - length h ≡ length p = omega (arith, joined.count, z.1) in
        q ∙ rw (joined.front, l, z.0)

  -- the calls of a state whose first n bytes are held
  module _ (h : Held) (n : ℕ) (en : n ≡ length (held_of on h)) where
    pub front_fits : length h.bytes ≡ held_room → (n ≤ held_room) × (n ≤ length h.bytes) × (n ≡ length (take n h.bytes))
    front_fits l =
        let f : n ≤ held_room = omega (arith, held_few on h, cap_fits on) in
        (f, omega arith, sym (length-take-le n h.bytes (omega arith)))

    -- feeding
    pub feeds : (p : List ℕ) (r : Given) → r ≡ given_of p (feed (settle on) (take n h.bytes) p) → Feeds on h p r
    feeds p r q = feeds_by on h p r (q ∙ rw (held_front on h n en))

    pub feeds_none : (p : List ℕ) (r : Given) → n ≡ 0 → r ≡ given_of p (feed (settle on) [] p) → Feeds on h p r
    feeds_none p r z q = feeds p r (q ∙ rw z)

    pub feeds_held : (p : List ℕ) (k m d : ℕ) (r : Given) → settle on (take n h.bytes) ≡ Settled k m d
        → r ≡ cut_of (take n h.bytes) m 0 k
        → Feeds on h p r
    feeds_held p k m d r e q = feeds p r (q ∙ rw (feed_settled (settle on) (take n h.bytes) p 0 k m d e))

    -- closing
    pub closes_item : (a : Option Item) (x : Item) (r : Given) → said_at a ≡ item_at on true (take n h.bytes) → a ≡ Some x
        → r ≡ cut_of (take n h.bytes) x.size 0 x.number → Closes on h r
    closes_item a x r e f q =
        let w = stands_at on true (take n h.bytes) x.number x.size (sym e ∙ ap said_at f) in
        let l : 1 ≤ length (take n h.bytes) = omega (arith, w.2, w.3) in
        let l' : 1 ≤ length (held_of on h) = rw (held_front on h n en) at l in
        closes_by on h r (q ∙ rw (w.0, w.1, held_front on h n en, close_some (settle on) (held_of on h) l'))

    pub closes_nothing : (a : Option Item) (r : Given) → said_at a ≡ item_at on true (take n h.bytes) → a ≡ None
        → r ≡ nothing_of (take n h.bytes) 0 → Closes on h r
    closes_nothing a r e f q =
        let z = none_left on (held_of on h) (rw (held_front on h n en) at (sym e ∙ ap said_at f)) in
        closes_by on h r (q ∙ rw (held_front on h n en, z, close_none (settle on) [] refl))
