-- What "accepted" excludes, once: of any family of frames that meets demand 2. Of the record of demand 2 it takes that what is accepted is a
-- frame, and that the exclusive-or of each frame is 0.
use Rattle.std.specs.Prelude.{ℕ, ◌%◌, ◌<◌, ◌≡◌, refl, Bool, true, false, ◌&&◌, List, [], ◌∷◌, length, get_or, set, eqb}
use Rattle.std.proofs.Common.{sym, ap, ◌∙◌, eqb-true, ne_eqb}
use Rattle.std.proofs.Math.Bool.{and-true, and-false}
use Rattle.std.specs.Int.Bits.{bit_xor, xor_zero_l}
use Rattle.std.proofs.lemmas.Bool.{eqb-false}
use Rattle.refusal.specs.Test.{clash}
use Rattle.refusal.specs.Answer.{Answer, refused, full, is_full}
use Rattle.sum.specs.Bytes.{Bytes}
use Rattle.sum.specs.Sum.{sum_from, sum_of}
use Rattle.sum.specs.Sums.{sum_cons}
use Rattle.sum.specs.Xor.{xor_cancel, xor_none}
use Rattle.frame.specs.Demand2.{Demand2}
use Rattle.maps.specs.Bits.{bit_of_zero}
use Rattle.change.specs.Change.{mended, changed, times}
use Rattle.change.specs.Changes.{sum_changed, times_sum, changed_set, changed_two, mended_same}
use Rattle.change.specs.Excludes.{Beside}

-- the sum of one byte, and of two
sum_one : (m : ℕ) → sum_of (m ∷ []) ≡ m
unfolding sum_from
sum_one m = xor_zero_l m

sum_two : (m n : ℕ) → sum_of (m ∷ n ∷ []) ≡ bit_xor m n
sum_two m n = sum_cons m (n ∷ []) ∙ ap (bit_xor m) (sum_one n)

module _ {X Fields Reading : Type 0} {InRange : Fields → Type 0} {layout : Fields → List ℕ} {read : List ℕ → Answer Reading}
    {fields_of : Reading → List ℕ → Fields} {MayWrite : Fields → Type 0} {frame_of : Fields → Answer (List ℕ)}
    (said : X → Answer Reading) (law : Demand2 InRange layout read fields_of MayWrite frame_of) where
  -- what is accepted has exclusive-or 0
  accepted_sum : (d : List ℕ) → Bytes d → is_full (read d) ≡ true → sum_of d ≡ 0
  accepted_sum d bs t = go (read d) refl t
    where
      go : (v : Answer Reading) → read d ≡ v → is_full v ≡ true → sum_of d ≡ 0
      go (refused k) e t = clash (cc)
      go (full r) e t =
          let f = law.accepted_frame d r bs e in
          ap sum_of f.1 ∙ law.frame_sum (fields_of r d) f.0

  module _ (d d' : List ℕ) (x x' : X) (b : Beside said read d d' x x') where
    -- the sum of a changed datagram is that of what was changed
    pub sum_is : sum_of d' ≡ sum_of (changed d d')
    sum_is =
        let z : sum_of d ≡ 0 = accepted_sum d b.bytes (ap is_full (sym b.answer) ∙ b.taken) in
        sym (xor_zero_l (sum_of d')) ∙ ap (λ (s : ℕ). bit_xor s (sum_of d')) (sym z) ∙ sum_changed d d' b.long

    -- accepted exactly if that is 0, and nothing else is wrong
    pub by_sum : is_full (said x') ≡ (is_full (read (mended d')) && eqb (sum_of (changed d d')) 0)
    by_sum = ap is_full b.answer' ∙ rw (← sum_is) (go (eqb (sum_of d') 0) refl)
      where
        go : (t : Bool) → eqb (sum_of d') 0 ≡ t → is_full (read d') ≡ (is_full (read (mended d')) && t)
        go true e = rw (mended_same d' (eqb-true (sum_of d') 0 e)) (sym (and-true (is_full (read d'))))
        go false e = off (is_full (read d')) refl ∙ sym (and-false (is_full (read (mended d'))))
          where
            off : (u : Bool) → is_full (read d') ≡ u → u ≡ false
            off false g = refl
            off true g = absurd (eqb-false (sum_of d') 0 e (accepted_sum d' b.bytes' g))

    -- so refused where it is not
    refused_by_lem : (sum_of (changed d d') ≡ 0 → ⊥) → is_full (said x') ≡ false
    refused_by_lem o = by_sum ∙ rw (ne_eqb (sum_of (changed d d')) 0 o) (and-false (is_full (read (mended d'))))

    pub odd : (k : ℕ) → times k (changed d d') % 2 ≡ 1 → is_full (said x') ≡ false
    odd k e =
        refused_by_lem
        (λ z.
        let n : ◌≡◌ {A = ℕ} 0 1 = sym (bit_of_zero k) ∙ rw z at (times_sum k (changed d d') ∙ e) in
        clash n)

  pub one : (d : List ℕ) (i v : ℕ) (x x' : X) → i < length d → (get_or d i 0 ≡ v → ⊥) → Beside said read d (set d i v) x x' → is_full (said x') ≡ false
  one d i v x x' h o b =
      let e = changed_set d i v h o in
      refused_by_lem d (set d i v) x x' b (λ z. o (xor_cancel (get_or d i 0) v (sym (sum_one (bit_xor (get_or d i 0) v)) ∙ rw e at z)))

  pub two : (d : List ℕ) (i j v w : ℕ) (x x' : X) → i < j → j < length d → (get_or d i 0 ≡ v → ⊥) → (get_or d j 0 ≡ w → ⊥)
      → Beside said read d (set (set d i v) j w) x x'
      → is_full (said x') ≡ (is_full (read (mended (set (set d i v) j w))) && eqb (bit_xor (get_or d i 0) v) (bit_xor (get_or d j 0) w))
  two d i j v w x x' g h o p b =
      let m : ℕ = bit_xor (get_or d i 0) v in
      let n : ℕ = bit_xor (get_or d j 0) w in
      by_sum d (set (set d i v) j w) x x' b
      ∙ ap (λ (t : Bool). is_full (read (mended (set (set d i v) j w))) && t) (rw (changed_two d i j v w g h o p, sum_two m n) (xor_none m n))
