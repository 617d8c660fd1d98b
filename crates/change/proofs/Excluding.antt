-- THE LAW of what "accepted" excludes, from its parts in specs/Law.antt: of any family of frames that meets demand 2.
use Rattle.std.specs.Prelude.{ℕ, ◌%◌, ◌<◌, ◌≡◌, ◌&&◌, List, length, get_or, set}
use Rattle.std.proofs.Common.{sym, ◌∙◌, eq-eqb}
use Rattle.std.proofs.Math.Bool.{and-true}
use Rattle.std.specs.Int.Bits.{bit_xor}
use Rattle.std.proofs.lemmas.Nat.{xor_comm}
use Rattle.refusal.specs.Answer.{Answer, is_full}
use Rattle.frame.specs.Demand2.{Demand2}
use Rattle.order.specs.Order.{place_of}
use Rattle.change.specs.Change.{mended, changed, evenly}
use Rattle.change.specs.Changes.{changed_bytes, evenly_sum, burst_odd}
use Rattle.change.specs.Excludes.{Beside, Excludes}
use Rattle.change.specs.Law.{by_sum, odd, one, two}

module _ {X Fields Reading : Type 0} {InRange : Fields → Type 0} {layout : Fields → List ℕ} {read : List ℕ → Answer Reading}
    {fields_of : Reading → List ℕ → Fields} {MayWrite : Fields → Type 0} {frame_of : Fields → Answer (List ℕ)}
    (said : X → Answer Reading) (law : Demand2 InRange layout read fields_of MayWrite frame_of) where
  whole : (d d' : List ℕ) (x x' : X) → Beside said read d d' x x' → is_full (said x') ≡ (is_full (read (mended d')) && evenly 8 (changed d d'))
  whole d d' x x' b = by_sum said law d d' x x' b ∙ rw (evenly_sum (changed d d') (changed_bytes d d' b.bytes b.bytes'))

  exchanged : (d : List ℕ) (i j : ℕ) (x x' : X) → i < j → j < length d → (get_or d i 0 ≡ get_or d j 0 → ⊥)
      → Beside said read d (set (set d i (get_or d j 0)) j (get_or d i 0)) x x'
      → is_full (said x') ≡ is_full (read (mended (set (set d i (get_or d j 0)) j (get_or d i 0))))
  exchanged d i j x x' g h o b =
      let a : ℕ = get_or d i 0 in
      let c : ℕ = get_or d j 0 in
      two said law d i j c a x x' g h o (λ q. o (sym q)) b
      ∙ rw (eq-eqb (bit_xor a c) (bit_xor c a) (xor_comm a c)) (and-true (is_full (read (mended (set (set d i c) j a)))))

  -- THE LAW
  pub excludes : Excludes said read
  excludes =
      record {
        one_changed = one said law;
        odd_changed = λ d d' k x x' e b. odd said law d d' x x' b k e;
        burst_changed = λ o p d d' x x' w b. odd said law d d' x x' b (place_of o 8 (w.at % 8)) (burst_odd o p d d' b.long w);
        two_changed = two said law;
        two_exchanged = exchanged;
        any_changed = whole;
      }
