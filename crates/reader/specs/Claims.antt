-- What a state holds, by what it claims.
use Rattle.std.specs.Prelude.{ℕ, zero, suc, ◌≤◌, ◌<◌, ◌≡◌, refl, Bool, true, false, List, [], ◌∷◌, length, take, leb}
use Rattle.std.proofs.Common.{ap, ◌∙◌, length-take, le-leb, leb-true, leb-false, arith}
use Rattle.std.proofs.lemmas.Bool.{lt-leb}
use Rattle.extent.specs.declared.Line.{Line}
use Rattle.extent.specs.declared.Line.TheVariants.{Request, Reply}
use Rattle.extent.specs.Line.{cap_of}
use Rattle.reader.specs.declared.Held.{Held}
use Rattle.reader.specs.Reader.{held_room, held_of, hold}
use Rattle.reader.specs.Arrays.{take_pad}

-- the store has room for either line
pub cap_fits : (on : Line) → cap_of on ≤ held_room
cap_fits Request = omega arith
cap_fits Reply = omega arith

-- the first bytes of a run, by their number
pub take_own : (n : ℕ) (l : List ℕ) → take (length (take n l)) l ≡ take n l
take_own zero l = refl
take_own (suc n) [] = refl
take_own (suc n) (b ∷ l) = ap (λ (x : List ℕ). b ∷ x) (take_own n l)

module _ (on : Line) (h : Held) where
  pub held_in : h.len ≤ cap_of on → held_of on h ≡ take h.len h.bytes
  unfolding held_of
  held_in l = simp (le-leb h.len (cap_of on) l)

  pub held_over : cap_of on < h.len → held_of on h ≡ []
  unfolding held_of
  held_over l = simp (lt-leb h.len (cap_of on) l)

  pub holds_in : length h.bytes ≡ held_room → h.len ≤ cap_of on → h.len ≡ length (held_of on h)
  holds_in e l = rw held_in (simp length-take (omega (arith, cap_fits on)))

  -- it holds no more than its line's reader can
  pub held_few : length (held_of on h) ≤ cap_of on
  held_few = go (leb h.len (cap_of on)) refl
    where
      go : (x : Bool) → leb h.len (cap_of on) ≡ x → length (held_of on h) ≤ cap_of on
      go true e = let l : h.len ≤ cap_of on = leb-true h.len (cap_of on) e in rw held_in (simp length-take (omega arith))
      go false e = let l : cap_of on < h.len = leb-false h.len (cap_of on) e in rw held_over (omega arith)

  -- they stand at the front of the store
  pub held_front : (n : ℕ) → n ≡ length (held_of on h) → take n h.bytes ≡ held_of on h
  held_front n q = go (leb h.len (cap_of on)) refl
    where
      go : (x : Bool) → leb h.len (cap_of on) ≡ x → take n h.bytes ≡ held_of on h
      go true e = let l : h.len ≤ cap_of on = leb-true h.len (cap_of on) e in rw (q, held_in) (take_own h.len h.bytes)
      go false e = let l : cap_of on < h.len = leb-false h.len (cap_of on) e in rw (q, held_over)

-- a state that a call leaves holds what was put into it
pub hold_holds : (on : Line) (l : List ℕ) → length l ≤ cap_of on → held_of on (hold l) ≡ l
hold_holds on l h = held_in on (hold l) h ∙ take_pad held_room l
