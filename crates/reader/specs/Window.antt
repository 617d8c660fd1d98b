-- A feeding call looks at no more bytes than its line can need: those held, and of the part so many that the line's most held
-- bytes and one are there. These say all.
use Rattle.std.specs.Prelude.{ℕ, suc, ◌+◌, ◌-◌, ◌≤◌, ◌<◌, ◌≡◌, refl, Bool, true, false, List, [], ◌++◌, length, take, drop, ltb}
use Rattle.std.proofs.Common.{sym, ap, ◌∙◌, length-append, take_at, take_all, take-take, length-take-le, ltb-true, ltb-false, arith}
use Rattle.std.proofs.Math.Seq.{take-append-add}
use Rattle.std.proofs.Math.Nat.{sub-zero}
use Rattle.lent.specs.Puts.{Puts}
use Rattle.lent.specs.Over.{puts_room, puts_length, puts_then}
use Rattle.stream.specs.Stream.{More, Settled}
use Rattle.stream.specs.Stream.{reading, nothing_yet, found, feed}
use Rattle.stream.specs.Fewest.{feed_once, held_waits}
use Rattle.extent.specs.declared.Line.{Line}
use Rattle.extent.specs.Line.{cap_of}
use Rattle.line.specs.Rule.{settle}
use Rattle.line.specs.Laws.{lawful, waits_few, by_few, in_window}
use Rattle.reader.specs.Reader.{item_room}
use Rattle.reader.specs.Claims.{cap_fits}

abbrev pub window_of : Line → List ℕ → List ℕ → List ℕ
window_of on h p = take (suc (cap_of on)) (h ++ p)

-- an array with a run at its front, of so many bytes
pub record Joined (s : List ℕ) (r : ℕ) (b : List ℕ) : Type 0 where
  pub front : take r b ≡ s
  pub count : r ≡ length s
  pub room : length b ≡ item_room

module _ (on : Line) where
  -- nothing is held
  pub begin_item : (p : List ℕ) (k m d : ℕ) → settle on p ≡ Settled k m d
      → feed (settle on) [] p ≡ found d (reading k (take m (take d p))) (drop m (take d p))
  begin_item p k m d e = feed_once (settle on) (lawful on) [] p ∙ rw (e, sub-zero)

  pub begin_nothing : (p : List ℕ) → settle on p ≡ More → feed (settle on) [] p ≡ nothing_yet p
  begin_nothing p e = feed_once (settle on) (lawful on) [] p ∙ rw e

  -- the bytes held, and as many of the part as there are or as there is room for
  pub window_is : (h p : List ℕ) (t : ℕ) → length h ≤ cap_of on → t ≤ length p → t ≤ suc (cap_of on) - length h
      → (t < suc (cap_of on) - length h → t ≡ length p) → h ++ take t p ≡ window_of on h p
  window_is h p t fits lp lr short = go (ltb t (suc (cap_of on) - length h)) refl
    where
      go : (x : Bool) → ltb t (suc (cap_of on) - length h) ≡ x → h ++ take t p ≡ window_of on h p
      go true e =
          let l = ltb-true t (suc (cap_of on) - length h) e in
          let q : t ≡ length p = short l in
          let a : take t p ≡ p = take_all t p (omega arith) in
          let b : length (h ++ p) ≤ suc (cap_of on) = simp length-append (omega arith) in
          rw (a, take_all (suc (cap_of on)) (h ++ p) b)
      go false e =
          let l = ltb-false t (suc (cap_of on) - length h) e in
          let q : length h + t ≡ suc (cap_of on) = omega arith in
          sym (take-append-add h p t) ∙ rw q

  -- an array into which the two were put
  pub joins : (h p o a b : List ℕ) (t m r : ℕ) → length o ≡ item_room → length h ≤ cap_of on → t ≤ length p → t ≤ suc (cap_of on) - length h
      → (t < suc (cap_of on) - length h → t ≡ length p) → Puts h o 0 m a → Puts (take t p) a m r b → Joined (window_of on h p) r b
  joins h p o a b t m r lo fits lp lr short first then =
      let n : length (take t p) ≡ t = length-take-le t p lp in
      let w : h ++ take t p ≡ window_of on h p = window_is h p t fits lp lr short in
      let q = puts_then {t = h} {u = take t p} (omega (arith, cap_fits on)) first then in
      let f = puts_room {t = h ++ take t p} {out = o} (omega (arith, length-append h (take t p), cap_fits on)) q in
      let c : r ≡ length (h ++ take t p) = omega (arith, f.0) in
      let e : take r b ≡ h ++ take t p = rw (f.1, c) (take_at (h ++ take t p) (drop (0 + length (h ++ take t p)) o) (length (h ++ take t p)) refl) in
      record { front = e ∙ w; count = c ∙ ap length w; room = puts_length q ∙ lo }

  module _ (h p : List ℕ) (waits : settle on h ≡ More) where
    pub resume_takes : (k m d : ℕ) → settle on (window_of on h p) ≡ Settled k m d → length h ≤ d
    resume_takes k m d e = omega (arith, held_waits (settle on) (lawful on) h p k m d waits (sym (in_window on (h ++ p)) ∙ e))

    -- what is settled by d bytes of them
    front_of_lem : (d : ℕ) → length h ≤ d → d ≤ suc (cap_of on) → take d (window_of on h p) ≡ h ++ take (d - length h) p
    front_of_lem d l u =
        let q : d ≡ length h + (d - length h) = omega arith in
        take-take d (suc (cap_of on)) (h ++ p) u ∙ ap (λ (n : ℕ). take n (h ++ p)) q ∙ take-append-add h p (d - length h)

    pub resume_item : (k m d : ℕ) → settle on (window_of on h p) ≡ Settled k m d
        → feed (settle on) h p ≡ found (d - length h) (reading k (take m (take d (window_of on h p)))) (drop m (take d (window_of on h p)))
    resume_item k m d e =
        let a : settle on (h ++ p) ≡ Settled k m d = sym (in_window on (h ++ p)) ∙ e in
        feed_once (settle on) (lawful on) h p ∙ rw (a, front_of_lem d (resume_takes k m d e) (by_few on (h ++ p) k m d a))

    pub resume_nothing : settle on (window_of on h p) ≡ More
        → (feed (settle on) h p ≡ nothing_yet (window_of on h p)) × (length (window_of on h p) ≡ length h + length p)
    resume_nothing e =
        let a : settle on (h ++ p) ≡ More = sym (in_window on (h ++ p)) ∙ e in
        let l : length (h ++ p) ≤ suc (cap_of on) = omega (arith, waits_few on (h ++ p) a) in
        let b : window_of on h p ≡ h ++ p = take_all (suc (cap_of on)) (h ++ p) l in
        (feed_once (settle on) (lawful on) h p ∙ rw (a, b), rw b (length-append h p))
