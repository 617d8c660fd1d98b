-- A feeding call takes the fewest bytes that settle an item, and one look at the bytes held and the part tells which.
use Prim.Native.Nat.{ℕ, zero, suc, ◌+◌, ◌-◌, ◌≤◌, ◌<◌}
use Rattle.std.specs.Prelude.{◌≡◌, Bool, true, false, length, take, drop, ltb}
use Rattle.std.proofs.Math.Path.{refl}
use Rattle.std.proofs.Common.{sym, ap, ◌∙◌, length-append, ltb-true, ltb-false, zero-add, add-zero, arith}
use mathlib.Core.List.{List, [], ◌∷◌, ◌++◌, append_assoc, append-nil}
use Rattle.std.proofs.Math.Seq.{take-append-add, take-append_seam}
use Rattle.refusal.specs.Test.{clash}
use Rattle.stream.specs.Stream.{Settling, More, Settled}
use Rattle.stream.specs.Stream.{Item, reading, Fed, nothing_yet, found, feed_from, feed}
use Rattle.stream.specs.Lawful.{Lawful, prefix_waits, enough_settle, fewer_wait, not_more}

-- j is the fewest bytes of the part p that, behind the bytes h, settle an item: these do, no fewer do. It is the item i, and g is then held
pub record Fewest (settle : List ℕ → Settling) (h p : List ℕ) (j : ℕ) (i : Item) (g : List ℕ) : Type 0 where
  pub number : ℕ
  pub size : ℕ
  pub by : ℕ
  pub takes : j ≤ length p
  pub settles : settle (h ++ take j p) ≡ Settled number size by
  pub least : (c : ℕ) → c < j → settle (h ++ take c p) ≡ More
  pub gives : i ≡ reading number (take size (h ++ take j p))
  pub holds : g ≡ drop size (h ++ take j p)

-- what a feeding call answers, by what the rule says of the bytes held and the part behind them
abbrev pub fed_by : Settling → List ℕ → List ℕ → Fed
fed_by More h p = nothing_yet (h ++ p)
fed_by (Settled k m d) h p = let s = h ++ take (d - length h) p in found (d - length h) (reading k (take m s)) (drop m s)

module _ (settle : List ℕ → Settling) where
  -- where the bytes held settle an item, none are taken
  at_once : (h p g : List ℕ) (j j' : ℕ) (i : Item) (k m d : ℕ) → settle h ≡ Settled k m d
      → found j (reading k (take m h)) (drop m h) ≡ found j' i g → (c : ℕ) × (j' ≡ j + c) × Fewest settle h p c i g
  at_once h p g j j' i k m d s f = (
    0,
    (let e : j ≡ j' = cc in omega arith),
    record {
      number = k;
      size = m;
      by = d;
      takes = omega arith;
      settles = rw append-nil s;
      least = λ c l. absurd (omega arith);
      gives = rw append-nil (cc);
      holds = rw append-nil (cc);
    },
  )

  -- else one is taken, and the fewest of the others
  later : (h p g : List ℕ) (b j j' : ℕ) (i : Item) → settle h ≡ More
      → (c : ℕ) × (j' ≡ suc j + c) × Fewest settle (h ++ (b ∷ [])) p c i g → (c : ℕ) × (j' ≡ j + c) × Fewest settle h (b ∷ p) c i g
  later h p g b j j' i s w =
      let f = w.2 in (
        suc w.0,
        (let e = w.1 in omega arith),
        record {
          number = f.number;
          size = f.size;
          by = f.by;
          takes = omega arith;
          settles = rw append_assoc at f.settles;
          least = go;
          gives = rw append_assoc at f.gives;
          holds = rw append_assoc at f.holds;
        },
      )
    where
      go : (c : ℕ) → c < suc w.0 → settle (h ++ take c (b ∷ p)) ≡ More
      go zero l = rw append-nil s
      go (suc c) l = rw append_assoc at (w.2.least c (omega arith))

  found_from : (h p g : List ℕ) (j j' : ℕ) (i : Item) → feed_from settle j h p ≡ found j' i g
      → (c : ℕ) × (j' ≡ j + c) × Fewest settle h p c i g
  unfolding feed_from
  found_from h [] g j j' i e = go (settle h) refl
    where
      go : (x : Settling) → settle h ≡ x → (c : ℕ) × (j' ≡ j + c) × Fewest settle h [] c i g
      go More s =
          let f : nothing_yet h ≡ found j' i g = simp s at e in
          clash (cc)
      go (Settled k m d) s = at_once h [] g j j' i k m d s (simp s at e)
  found_from h (b ∷ p) g j j' i e = go (settle h) refl (found_from (h ++ (b ∷ [])) p g (suc j) j' i)
    where
      go : (x : Settling) → settle h ≡ x
          → (feed_from settle (suc j) (h ++ (b ∷ [])) p ≡ found j' i g → (c : ℕ) × (j' ≡ suc j + c) × Fewest settle (h ++ (b ∷ [])) p c i g)
          → (c : ℕ) × (j' ≡ j + c) × Fewest settle h (b ∷ p) c i g
      go More s rest = later h p g b j j' i s (rest (simp s at e))
      go (Settled k m d) s rest = at_once h (b ∷ p) g j j' i k m d s (simp s at e)

  -- a call answers an item exactly where some bytes of its part are the fewest that settle it
  pub found_fewest : {h p g : List ℕ} {j : ℕ} {i : Item} → feed settle h p ≡ found j i g → Fewest settle h p j i g
  found_fewest {h} {p} {g} {j} {i} e =
      let w = found_from h p g 0 j i e in
      let q : w.0 ≡ j = omega (arith, w.1) in
      rw q at w.2

  -- a call, case by case
  pub feed_settled : (h p : List ℕ) (j k m d : ℕ) → settle h ≡ Settled k m d
      → feed_from settle j h p ≡ found j (reading k (take m h)) (drop m h)
  unfolding feed_from
  feed_settled h [] j k m d e = simp e
  feed_settled h (b ∷ p) j k m d e = simp e

  feed_waits : (h p : List ℕ) (b j : ℕ) → settle h ≡ More → feed_from settle j h (b ∷ p) ≡ feed_from settle (suc j) (h ++ (b ∷ [])) p
  unfolding feed_from
  feed_waits h p b j e = simp e

  fewest_from : (h p g : List ℕ) (j c : ℕ) (i : Item) → Fewest settle h p c i g → feed_from settle j h p ≡ found (j + c) i g
  fewest_from h p g j zero i f =
      let s : settle h ≡ Settled f.number f.size f.by = rw append-nil at f.settles in
      let ei : i ≡ reading f.number (take f.size h) = rw append-nil at f.gives in
      let eg : g ≡ drop f.size h = rw append-nil at f.holds in
      feed_settled h p j f.number f.size f.by s ∙ rw (ei, eg, add-zero)
  fewest_from h [] g j (suc c) i f = absurd (omega (arith, f.takes))
  fewest_from h (b ∷ p) g j (suc c) i f =
      feed_waits h p b j (rw append-nil at (f.least 0 (omega arith)))
      ∙ fewest_from (h ++ (b ∷ [])) p g (suc j) c i rest
      ∙ ap (λ (n : ℕ). found n i g) (omega arith)
    where
      rest : Fewest settle (h ++ (b ∷ [])) p c i g
      rest =
          record {
            number = f.number;
            size = f.size;
            by = f.by;
            takes = omega (arith, f.takes);
            settles = rw append_assoc f.settles;
            least = λ a l. rw append_assoc (f.least (suc a) (omega arith));
            gives = rw append_assoc f.gives;
            holds = rw append_assoc f.holds;
          }

  pub fewest_found : {h p g : List ℕ} {j : ℕ} {i : Item} → Fewest settle h p j i g → feed settle h p ≡ found j i g
  fewest_found {h} {p} {g} {j} {i} f = rw zero-add at (fewest_from h p g 0 j i f)

  -- "nothing yet" exactly where no bytes of it settle one, and then all are held
  nothing_from : (h p : List ℕ) (j : ℕ) → ((c : ℕ) → settle (h ++ take c p) ≡ More) → feed_from settle j h p ≡ nothing_yet (h ++ p)
  unfolding feed_from
  nothing_from h [] j w = let e : settle h ≡ More = rw append-nil at (w 0) in rw (e, append-nil)
  nothing_from h (b ∷ p) j w =
      feed_waits h p b j (rw append-nil at (w 0))
      ∙ nothing_from (h ++ (b ∷ [])) p (suc j) (λ c. rw append_assoc (w (suc c)))
      ∙ rw append_assoc

  pub waits_nothing : (h p : List ℕ) → ((c : ℕ) → settle (h ++ take c p) ≡ More) → feed settle h p ≡ nothing_yet (h ++ p)
  waits_nothing h p w = nothing_from h p 0 w

-- the bytes held, and then some of the part
front_of_lem : (h p : List ℕ) (c : ℕ) → h ++ take c p ≡ take (length h + c) (h ++ p)
front_of_lem h p c = sym (take-append-add h p c)

module _ (settle : List ℕ → Settling) (law : Lawful settle) where
  -- as many bytes of the part as the rule says are the fewest
  by_fewest : (h p : List ℕ) (k m d : ℕ) → settle (h ++ p) ≡ Settled k m d
      → Fewest settle h p (d - length h) (reading k (take m (h ++ take (d - length h) p))) (drop m (h ++ take (d - length h) p))
  by_fewest h p k m d e =
      let l : d ≤ length h + length p = rw length-append at (law.there (h ++ p) k m d e) in
      record {
        number = k;
        size = m;
        by = d;
        takes = omega arith;
        settles = rw (front_of_lem h p (d - length h)) (enough_settle settle law (length h + (d - length h)) (h ++ p) k m d e (omega arith));
        least = λ c w. rw (front_of_lem h p c) (fewer_wait settle law (length h + c) (h ++ p) k m d e (omega arith));
        gives = refl;
        holds = refl;
      }

  -- one look at the bytes held and the part tells what a feeding call answers
  pub feed_once : (h p : List ℕ) → feed settle h p ≡ fed_by (settle (h ++ p)) h p
  feed_once h p = go (settle (h ++ p)) refl
    where
      go : (x : Settling) → settle (h ++ p) ≡ x → feed settle h p ≡ fed_by x h p
      go More e = waits_nothing settle h p (λ c. rw (front_of_lem h p c) (prefix_waits settle law (length h + c) (h ++ p) e))
      go (Settled k m d) e = fewest_found settle (by_fewest h p k m d e)

  -- where the bytes held settle nothing, the part is needed
  pub held_waits : (h p : List ℕ) (k m d : ℕ) → settle h ≡ More → settle (h ++ p) ≡ Settled k m d → length h < d
  held_waits h p k m d w e = go (ltb (length h) d) refl
    where
      go : (x : Bool) → ltb (length h) d ≡ x → length h < d
      go true t = ltb-true (length h) d t
      go false t =
          let l : d ≤ length h = ltb-false (length h) d t in
          let z : settle h ≡ Settled k m d = rw take-append_seam at (enough_settle settle law (length h) (h ++ p) k m d e l) in
          not_more (sym z ∙ w)
