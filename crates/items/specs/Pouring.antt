-- A pour on its way: what is poured already and what is left give the whole.
use Rattle.std.specs.Prelude.{ℕ, ◌+◌, ◌-◌, ◌≤◌, ◌<◌, ◌≡◌, refl, Bool, true, false, List, [], ◌∷◌, ◌++◌, length, take, drop}
use Rattle.std.proofs.Math.Path.{sym}
use Rattle.std.proofs.Common.{ap, ◌∙◌, append_assoc, append-nil, length-append, length-drop, take_at, drop-drop, length-take-le, le-leb, leb-true, leb-false, add-zero}
use Rattle.std.proofs.Math.Seq.{drop-append-add}
use Rattle.std.proofs.lemmas.Bool.{lt-leb}
use Rattle.std.proofs.Math.Nat.{sub-zero}
use native.Mathlib.Omega.{arith}
use Rattle.lent.specs.Puts.{fits, over, Puts}
use Rattle.lent.specs.Over.{puts_room}
use Rattle.stream.specs.Stream.{Item, reading, nothing, stands, counts_of}
use Rattle.extent.specs.declared.Line.{Line}
use Rattle.line.specs.Rule.{item_at}
use Rattle.line.specs.Says.{none_at, stands_at}
use Rattle.printed.specs.Text.{line_of, text_of}
use Rattle.printed.specs.Length.{line_some, text_append, text_one}
use Rattle.items.specs.declared.Poured.{Poured}
use Rattle.items.specs.Pour.{ready, fitting, poured, Pours}
use Rattle.items.specs.Ready.{ready_next, ready_stops}

-- one item more
pub counts_snoc : (is : List Item) (k : ℕ) (s : List ℕ) → counts_of (is ++ (reading k s ∷ [])) ≡ counts_of is + length s
unfolding counts_of
counts_snoc [] k s = omega arith
counts_snoc (reading j t ∷ is) k s = omega (arith, counts_snoc is k s)

text_snoc : (is : List Item) (i : Item) → text_of (is ++ (i ∷ [])) ≡ text_of is ++ line_of i
text_snoc is i = text_append is (i ∷ []) ∙ rw (text_one i)

-- a text behind another that stands at the start of a buffer
behind_text : (x t out : List ℕ) (w : ℕ) → w ≡ length x → over t (x ++ drop w out) w ≡ x ++ t ++ drop (w + length t) out
behind_text x t out w e = rw (e, take_at x (drop (length x) out) (length x) refl, drop-append-add x (drop (length x) out) (length t), drop-drop (length t) (length x) out)

-- the first of some items finds room, or none of them does
pub fitting_next : (room : ℕ) (i : Item) (is : List Item) → length (line_of i) ≤ room → fitting room (i ∷ is) ≡ i ∷ fitting (room - length (line_of i)) is
unfolding fitting
fitting_next room i is h = rw (le-leb (length (line_of i)) room h)

pub fitting_stops : (room : ℕ) (i : Item) (is : List Item) → room < length (line_of i) → fitting room (i ∷ is) ≡ []
unfolding fitting
fitting_stops room i is h = rw (lt-leb (length (line_of i)) room h)

pub fitting_none : (room : ℕ) → fitting room [] ≡ []
unfolding fitting
fitting_none room = refl

-- a pour that wrote nothing poured nothing
pub wrote_none : (p : List Item) {start : ℕ} {out out' : List ℕ} {r : Poured} → Pours p start out r out' → r.wrote ≡ 0 → p ≡ []
unfolding text_of
wrote_none [] w e = refl
wrote_none (i ∷ is) w e = absurd (omega (arith, w.wrote, line_some i, length-append (line_of i) (text_of is)))

-- the bytes s from place start on, poured over the buffer out₀, are read up to place at, and the text reaches place w of the buffer, which is out
pub record Pouring (on : Line) (closed : Bool) (s : List ℕ) (start : ℕ) (out₀ : List ℕ) (at w : ℕ) (out : List ℕ) : Type 0 where
  pub done : List Item
  pub left : poured on closed (length out₀) (drop start s) ≡ done ++ fitting (length out₀ - w) (ready on closed (drop at s))
  pub here : at ≡ start + counts_of done
  pub place : w ≡ length (text_of done)
  pub wrote : out ≡ text_of done ++ drop w out₀
  pub room : w ≤ length out₀

-- a text that moved the place had room, and one that did not had none
moved : {t out out' : List ℕ} {at r : ℕ} → 1 ≤ length t → Puts t out at r out' → (r ≡ at → ⊥) → at + length t ≤ length out
moved {t} {out} {out'} {at} {r} h p n = go (fits t out at) refl
  where
    go : (x : Bool) → fits t out at ≡ x → at + length t ≤ length out
    go true e = leb-true (at + length t) (length out) e
    go false e = absurd (n (p.says ∙ rw e))

stayed : {t out out' : List ℕ} {at r : ℕ} → 1 ≤ length t → Puts t out at r out' → r ≡ at → (length out < at + length t) × (out' ≡ out)
stayed {t} {out} {out'} {at} {r} h p n = go (fits t out at) refl
  where
    go : (x : Bool) → fits t out at ≡ x → (length out < at + length t) × (out' ≡ out)
    go true e = let q : r ≡ at + length t = p.says ∙ rw e in absurd (omega arith)
    go false e = (leb-false (at + length t) (length out) e, p.leaves ∙ rw e)

module _ {on : Line} {closed : Bool} {s : List ℕ} {start : ℕ} {out₀ : List ℕ} where
  pub pouring_starts : Pouring on closed s start out₀ start 0 out₀
  unfolding counts_of text_of
  pouring_starts = record { done = []; left = rw sub-zero; here = sym (add-zero start); place = refl; wrote = refl; room = omega arith }

  pub pouring_length : {at w : ℕ} {out : List ℕ} → Pouring on closed s start out₀ at w out → length out ≡ length out₀
  pouring_length p = ap length p.wrote ∙ simp (length-append, length-drop) (omega (arith, p.place, p.room))

  -- where nothing more is poured, the pour is over
  stops : {at w : ℕ} {out : List ℕ} → Pouring on closed s start out₀ at w out → fitting (length out₀ - w) (ready on closed (drop at s)) ≡ []
      → Pours (poured on closed (length out₀) (drop start s)) start out₀ (record { read = at; wrote = w }) out
  stops {at} {w} {out} p e =
      let q : poured on closed (length out₀) (drop start s) ≡ p.done = p.left ∙ rw (e, append-nil p.done) in
      record { read = rw q p.here; wrote = rw q p.place; leaves = rw (q, ← p.place) p.wrote }

  -- at the end of the bytes, and where no item stands
  pub stops_waiting : {at w : ℕ} {out : List ℕ} → Pouring on closed s start out₀ at w out → item_at on closed (drop at s) ≡ nothing
      → Pours (poured on closed (length out₀) (drop start s)) start out₀ (record { read = at; wrote = w }) out
  stops_waiting {at} {w} p e = stops p (rw (ready_stops on closed (drop at s) e) (fitting_none (length out₀ - w)))

  pub stops_end : {at w : ℕ} {out : List ℕ} → Pouring on closed s start out₀ at w out → length s ≤ at
      → Pours (poured on closed (length out₀) (drop start s)) start out₀ (record { read = at; wrote = w }) out
  stops_end {at} p h = stops_waiting p (none_at on closed (drop at s) (simp length-drop (omega arith)))

  -- the item that stands at a place, by its number k and its size m
  module _ {at w : ℕ} {out : List ℕ} (p : Pouring on closed s start out₀ at w out) (k m : ℕ) (e : item_at on closed (drop at s) ≡ stands k m) where
    abbrev item : Item
    item = reading k (take (at + m - at) (drop at s))

    part : at + m - at ≡ m
    part = omega arith

    first : ready on closed (drop at s) ≡ item ∷ ready on closed (drop (at + m) s)
    first = ready_next on closed (drop at s) k m e ∙ rw (part, drop-drop m at s)

    -- its line has no room
    pub stops_full : {out' : List ℕ} {r : ℕ} → Puts (line_of item) out w r out' → r ≡ w
        → Pours (poured on closed (length out₀) (drop start s)) start out₀ (record { read = at; wrote = w }) out'
    stops_full {out'} q n =
        let f = stayed (line_some item) q n in
        rw f.1 (stops p (rw first (fitting_stops (length out₀ - w) item _ (omega (arith, f.0, pouring_length p)))))

    -- or it has, and the pour goes on behind it
    pub goes_on_lem : {out' : List ℕ} {r : ℕ} → Puts (line_of item) out w r out' → (r ≡ w → ⊥) → Pouring on closed s start out₀ (at + m) r out'
    goes_on_lem {out'} {r} q n =
        let t = line_of item in
        let f : w + length t ≤ length out = moved (line_some item) q n in
        let a = puts_room {t = t} {out = out} {at = w} f q in
        let g : fitting (length out₀ - w) (item ∷ ready on closed (drop (at + m) s)) ≡ item ∷ fitting (length out₀ - w - length t) (ready on closed (drop (at + m) s)) =
        fitting_next (length out₀ - w) item _ (omega (arith, pouring_length p)) in
        let d : length out₀ - w - length t ≡ length out₀ - r = omega (arith, a.0) in
        let l : m ≤ length (drop at s) = (stands_at on closed (drop at s) k m e).3 in
        let b : length (take (at + m - at) (drop at s)) ≡ m = rw part (length-take-le m (drop at s) l) in
        record {
          done = p.done ++ (item ∷ []);
          left = p.left ∙ rw (first, g, d) (sym (append_assoc p.done (item ∷ []) _));
          here = omega (arith, counts_snoc p.done k (take (at + m - at) (drop at s)), p.here);
          place = omega (arith, ap length (text_snoc p.done item), length-append (text_of p.done) t, p.place, a.0);
          wrote = a.1 ∙ rw (p.wrote, text_snoc p.done item, a.0) (behind_text (text_of p.done) t out₀ w p.place);
          room = omega (arith, a.0, pouring_length p);
        }
