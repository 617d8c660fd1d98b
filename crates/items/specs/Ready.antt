-- The items that are ready, one after the other: they are the first of the whole stream's, whatever comes behind; and of a closed
-- stream they are all.
use Prim.Native.Nat.{ℕ, zero, suc, ◌≤◌, ◌<◌}
use Rattle.std.specs.Prelude.{◌≡◌, Bool, true, false, List, [], ◌∷◌, ◌++◌, length, take, drop}
use Rattle.std.proofs.Math.Path.{refl}
use Rattle.std.proofs.Common.{sym, ap, ◌∙◌, append-nil, length-drop, arith}
use Rattle.refusal.specs.Test.{clash}
use Rattle.stream.specs.Stream.{reading, Position, nothing, stands, at_close, Settling, More, Settled, position, item_number, item_size, items}
use Rattle.stream.specs.Items.{behind, items_front, items_next}
use Rattle.extent.specs.declared.Line.{Line}
use Rattle.line.specs.Rule.{item_at, settle}
use Rattle.line.specs.Laws.{lawful}
use Rattle.line.specs.Says.{item_at_lem, none_at, stands_at}
use Rattle.items.specs.Pour.{ready_up_to, ready}

module _ (on : Line) (closed : Bool) where
  -- where nothing stands there is no item, and else the one that stands is the first
  up_to_none : (n : ℕ) (s : List ℕ) → item_at on closed s ≡ nothing → ready_up_to on closed n s ≡ []
  unfolding ready_up_to
  up_to_none zero s e = refl
  up_to_none (suc n) s e = rw e

  up_to_next : (n : ℕ) (s : List ℕ) (k m : ℕ) → item_at on closed s ≡ stands k m → ready_up_to on closed (suc n) s ≡ reading k (take m s) ∷ ready_up_to on closed n (drop m s)
  unfolding ready_up_to
  up_to_next n s k m e = rw e

  -- how many items are looked for does not matter, where they are as many as bytes
  either : (n m : ℕ) (s : List ℕ) (x : Position) → item_at on closed s ≡ x
      → ((t : List ℕ) → length t < length s → ready_up_to on closed n t ≡ ready_up_to on closed m t) → ready_up_to on closed (suc n) s ≡ ready_up_to on closed (suc m) s
  either n m s nothing e again = up_to_none (suc n) s e ∙ sym (up_to_none (suc m) s e)
  either n m s (stands k z) e again =
      let w = stands_at on closed s k z e in
      up_to_next n s k z e ∙ behind (again (drop z s) (simp length-drop (omega (arith, w.2, w.3)))) ∙ sym (up_to_next m s k z e)

  enough : (n m : ℕ) (s : List ℕ) → length s ≤ n → length s ≤ m → ready_up_to on closed n s ≡ ready_up_to on closed m s
  enough zero zero s hn hm = refl
  enough zero (suc m) s hn hm = up_to_none zero s (none_at on closed s (omega arith)) ∙ sym (up_to_none (suc m) s (none_at on closed s (omega arith)))
  enough (suc n) zero s hn hm = up_to_none (suc n) s (none_at on closed s (omega arith)) ∙ sym (up_to_none zero s (none_at on closed s (omega arith)))
  enough (suc n) (suc m) s hn hm = either n m s (item_at on closed s) refl (λ t l. enough n m t (omega arith) (omega arith))

  pub ready_stops : (s : List ℕ) → item_at on closed s ≡ nothing → ready on closed s ≡ []
  ready_stops s e = up_to_none (length s) s e

  pub ready_next : (s : List ℕ) (k m : ℕ) → item_at on closed s ≡ stands k m → ready on closed s ≡ reading k (take m s) ∷ ready on closed (drop m s)
  ready_next [] k m e = absurd (let w = stands_at on closed [] k m e in omega (arith, w.2, w.3))
  ready_next (b ∷ s) k m e =
      let w = stands_at on closed (b ∷ s) k m e in
      let d = drop m (b ∷ s) in
      let l : length d ≤ length s = simp length-drop (omega (arith, w.2)) in
      up_to_next (length s) (b ∷ s) k m e ∙ behind (enough (length s) (length d) d l (omega arith))

  -- an item that stands is the next of the stream: what is settled stays settled, and a closed stream has nothing behind it
  pub items_ready : (s t : List ℕ) (k m : ℕ) → (closed ≡ true → t ≡ []) → item_at on closed s ≡ stands k m
      → items (settle on) (s ++ t) ≡ reading k (take m s) ∷ items (settle on) (drop m s ++ t)
  items_ready s t k m last e = rw (w.0, w.1) (go (settle on s) refl)
    where
      w : (k ≡ item_number (settle on s)) × (m ≡ item_size (settle on s)) × (1 ≤ m) × (m ≤ length s)
      w = stands_at on closed s k m e

      shut : (c : Bool) → closed ≡ c → settle on s ≡ More → closed ≡ true
      shut true q f = q
      shut false q f =
          let z : at_close closed (position (settle on s)) ≡ stands k m = sym (item_at_lem on closed s (omega (arith, w.2, w.3))) ∙ e in
          clash (let y : nothing ≡ stands k m = rw (q, f) at z in cc)

      alone : (l : List ℕ) → closed ≡ true → l ++ t ≡ l
      alone l c = rw (last c) (append-nil l)

      ends : (s : List ℕ) → closed ≡ true → 1 ≤ length s
          → items (settle on) (s ++ t) ≡ reading (item_number (settle on s)) (take (item_size (settle on s)) s) ∷ items (settle on) (drop (item_size (settle on s)) s ++ t)
      ends [] c h = absurd (omega arith)
      ends (b ∷ s) c h =
          ap (items (settle on)) (alone (b ∷ s) c)
          ∙ items_next (settle on) (lawful on) b s
          ∙ behind (ap (items (settle on)) (sym (alone (drop (item_size (settle on (b ∷ s))) (b ∷ s)) c)))

      go : (x : Settling) → settle on s ≡ x
          → items (settle on) (s ++ t) ≡ reading (item_number (settle on s)) (take (item_size (settle on s)) s) ∷ items (settle on) (drop (item_size (settle on s)) s ++ t)
      go More q = ends s (shut closed refl q) (omega (arith, w.2, w.3))
      go (Settled j n d) q = items_front (settle on) (lawful on) s t j n d q ∙ rw q
