-- What is poured are the first items of the whole stream, whatever comes behind the bytes at hand; and of a closed stream with room
-- enough, all.
use Rattle.std.specs.Prelude.{ℕ, zero, suc, ◌-◌, ◌≤◌, ◌<◌, ◌≡◌, refl, Bool, true, false, length, take, drop, leb}
use Rattle.std.proofs.Common.{sym, ◌∙◌, length-append, length-drop, drop-drop, length-take-le, leb-true, leb-false, arith}
use mathlib.Core.List.{List, [], ◌∷◌, ◌++◌}
use Rattle.refusal.specs.Test.{clash}
use Rattle.stream.specs.Stream.{Item, reading, Position, nothing, stands, items, counts_of}
use Rattle.stream.specs.Items.{behind}
use Rattle.extent.specs.declared.Line.{Line}
use Rattle.line.specs.Rule.{item_at, settle}
use Rattle.line.specs.Says.{nothing_at, stands_at, items_end, items_at}
use Rattle.printed.specs.Text.{line_of, text_of}
use Rattle.items.specs.Pour.{ready, fitting, poured}
use Rattle.items.specs.Ready.{ready_next, ready_stops, items_ready}
use Rattle.items.specs.Pouring.{fitting_next, fitting_stops, fitting_none}

-- the bytes behind some items at their front
abbrev pub rest : List Item → List ℕ → List ℕ
rest is s = drop (counts_of is) s

pub rest_next : (k m : ℕ) (s : List ℕ) (is : List Item) → m ≤ length s → rest (reading k (take m s) ∷ is) s ≡ rest is (drop m s)
unfolding counts_of
rest_next k m s is h = rw (length-take-le m s h, drop-drop (counts_of is) m s)

-- items whose text has room all fit
pub fitting_all : (room : ℕ) (is : List Item) → length (text_of is) ≤ room → fitting room is ≡ is
unfolding text_of
fitting_all room [] h = fitting_none room
fitting_all room (i ∷ is) h =
    let l = length-append (line_of i) (text_of is) in
    fitting_next room i is (omega arith) ∙ behind (fitting_all (room - length (line_of i)) is (omega arith))

-- and what fits has room
pub fitting_most : (room : ℕ) (is : List Item) → length (text_of (fitting room is)) ≤ room
unfolding text_of fitting
fitting_most room [] = omega arith
fitting_most room (i ∷ is) = go (leb (length (line_of i)) room) refl (fitting_most (room - length (line_of i)) is)
  where
    go : (x : Bool) → leb (length (line_of i)) room ≡ x → length (text_of (fitting (room - length (line_of i)) is)) ≤ room - length (line_of i)
        → length (text_of (fitting room (i ∷ is))) ≤ room
    go true e l = rw e (omega (arith, leb-true (length (line_of i)) room e, length-append (line_of i) (text_of (fitting (room - length (line_of i)) is))))
    go false e l = rw e (omega arith)

module _ (on : Line) (closed : Bool) where
  -- the three ways that a pour can begin: with an item, with none that stands, with none whose line has room
  pub poured_cases : {P : Type 0} (room : ℕ) (s : List ℕ)
      → ((k m : ℕ) → item_at on closed s ≡ stands k m → length (line_of (reading k (take m s))) ≤ room
      → poured on closed room s ≡ reading k (take m s) ∷ poured on closed (room - length (line_of (reading k (take m s)))) (drop m s) → P)
      → (item_at on closed s ≡ nothing → poured on closed room s ≡ [] → P)
      → ((k m : ℕ) → item_at on closed s ≡ stands k m → room < length (line_of (reading k (take m s))) → poured on closed room s ≡ [] → P)
      → P
  poured_cases {P} room s some none full = go (item_at on closed s) refl
    where
      fit : (k m : ℕ) (x : Bool) → leb (length (line_of (reading k (take m s)))) room ≡ x → item_at on closed s ≡ stands k m → P
      fit k m true f e =
          let h = leb-true (length (line_of (reading k (take m s)))) room f in
          some k m e h (rw (ready_next on closed s k m e) (fitting_next room (reading k (take m s)) _ h))
      fit k m false f e =
          let h = leb-false (length (line_of (reading k (take m s)))) room f in
          full k m e h (rw (ready_next on closed s k m e) (fitting_stops room (reading k (take m s)) _ h))

      go : (x : Position) → item_at on closed s ≡ x → P
      go nothing e = none e (rw (ready_stops on closed s e) (fitting_none room))
      go (stands k m) e = fit k m (leb (length (line_of (reading k (take m s)))) room) refl e

  -- what is poured, and then the items of what is left: the items of the whole stream
  pub poured_items : (room : ℕ) (s t : List ℕ) → (closed ≡ true → t ≡ [])
      → items (settle on) (s ++ t) ≡ poured on closed room s ++ items (settle on) (rest (poured on closed room s) s ++ t)
  unfolding counts_of
  poured_items room s t last = go (suc (length s)) room s (omega arith)
    where
      none : (room : ℕ) (s : List ℕ) → poured on closed room s ≡ [] → items (settle on) (s ++ t) ≡ poured on closed room s ++ items (settle on) (rest (poured on closed room s) s ++ t)
      none room s e = rw e

      go : (n room : ℕ) (s : List ℕ) → length s < n → items (settle on) (s ++ t) ≡ poured on closed room s ++ items (settle on) (rest (poured on closed room s) s ++ t)
      go zero room s h = absurd (omega arith)
      go (suc n) room s h =
          poured_cases room s
          (λ k m e f q.
          let w = stands_at on closed s k m e in
          let left = room - length (line_of (reading k (take m s))) in
          items_ready on closed s t k m last e
          ∙ behind (go n left (drop m s) (simp length-drop (omega (arith, w.2, w.3))))
          ∙ rw (q, rest_next k m s (poured on closed left (drop m s)) w.3))
          (λ e q. none room s q) (λ k m e f q. none room s q)

-- of a closed stream all items are ready, and with room for their lines they are all poured
pub ready_closed : (on : Line) (s : List ℕ) → ready on true s ≡ items (settle on) s
ready_closed on s = go (suc (length s)) s (omega arith)
  where
    at : (n : ℕ) (s : List ℕ) (x : Position) → item_at on true s ≡ x → ((t : List ℕ) → length t < length s → ready on true t ≡ items (settle on) t)
        → ready on true s ≡ items (settle on) s
    at n [] nothing e again = ready_stops on true [] e ∙ sym (items_end on)
    at n (b ∷ s) nothing e again = clash (let z = (nothing_at on true (b ∷ s) e (omega arith)).0 in cc)
    at n s (stands k m) e again =
        let w = stands_at on true s k m e in
        ready_next on true s k m e
        ∙ behind (again (drop m s) (simp length-drop (omega (arith, w.2, w.3))))
        ∙ sym (items_at on s k m e)

    go : (n : ℕ) (s : List ℕ) → length s < n → ready on true s ≡ items (settle on) s
    go zero s h = absurd (omega arith)
    go (suc n) s h = at n s (item_at on true s) refl (λ t l. go n t (omega arith))

pub poured_closed : (on : Line) (room : ℕ) (s : List ℕ) → length (text_of (items (settle on) s)) ≤ room
    → poured on true room s ≡ items (settle on) s
poured_closed on room s h = rw (ready_closed on s) (fitting_all room (items (settle on) s) h)
