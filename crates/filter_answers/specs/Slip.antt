-- The slip of last March: a request that adds a filter, its mask handed over with the two bytes exchanged. The sum is the same and every argument is
-- within its range, so nothing complains; and it hides other types than it should, unless the two bytes are equal (document 01, "Slips we have
-- seen", with `mask_slip` of crate maps).
use Rattle.std.specs.Prelude.{ℕ, ◌+◌, ◌/◌, ◌%◌, ◌^◌, ◌<◌, ◌≡◌, refl, Bool, true, false, List, [], ◌∷◌, ◌++◌, ◌↔◌, eqb, Some}
use Rattle.std.proofs.Common.{sym, ap, ◌∙◌, le-leb, arith}
use mathlib.Core.Logic.Iff
use Rattle.std.specs.Int.Bits.{bit_xor}
use Rattle.std.proofs.lemmas.Nat.{xor_comm}
use Rattle.refusal.specs.Test.{clash}
use Rattle.refusal.specs.Answer.{refused, full, demand}
use Rattle.sum.specs.Bytes.{bytes_none, bytes_cons}
use Rattle.sum.specs.Sum.{sum_of, sum_from}
use Rattle.sum.specs.Xor.{xor_assoc}
use Rattle.order.specs.Order.{low_first, number_in, number_by}
use Rattle.order.specs.Numbers.{number_below}
use Rattle.maps.specs.Bit.{bit, lowest}
use Rattle.maps.specs.Bits.{bit_low, bit_high}
use Rattle.maps.specs.Slip.{mask_slip}
use Rattle.command.specs.Command.{shape_of, is_retired}
use Rattle.command.specs.declared.Rule.TheVariants.{Filter as rule·Filter}
use Rattle.ranges.specs.Arguments.{is_filtered, fits}
use Rattle.meaning.specs.Meaning.{pair, meaning_of}
use Rattle.request.specs.Reading.{basic_heard, read_basic, read_request}
use Rattle.filter_asked.specs.declared.Filter.{Filter}
use Rattle.filter_asked.specs.declared.Change.TheVariants.{Add as add}
use Rattle.filter_asked.specs.Asked.{change_heard, asked, is_named}
use Rattle.filter_asked.specs.Named.{named_one}
use Rattle.filter_plan.specs.Filters.{added, cleared, next, mask_at}
use Rattle.filter_plan.specs.Plan.{after, filters_in, left_of, checked, told_yes, told_hidden}
use Rattle.filter_since.specs.Trace.{since_by, since_of}

-- a mask of two bytes, and the same with them exchanged, is a number of 16 bits
pair_fits : (h l : ℕ) → h < 256 → l < 256 → pair h l < 65536
pair_fits h l p q = number_below 2 (h ∷ l ∷ []) refl (bytes_cons p (bytes_cons q bytes_none))

-- exchanged, it is the mask read low byte first
exchanged : (h l : ℕ) → pair l h ≡ number_in low_first 2 (h ∷ l ∷ [])
unfolding number_by
exchanged h l = refl

-- it names the same types exactly if the bytes are equal
pub swap_names : (h l : ℕ) → h < 256 → l < 256 → ((t : ℕ) → t < 16 → is_named (pair h l) t ≡ is_named (pair l h) t) ↔ (h ≡ l)
swap_names h l p q =
    Iff.trans (named_one (pair h l) (pair l h) (pair_fits h l p q) (pair_fits l h q p))
    ((λ e. (mask_slip h l p q).0 (e ∙ exchanged h l)), λ e. (mask_slip h l p q).1 e ∙ sym (exchanged h l))

-- and which it names: those that lie 8 below and 8 above the right ones
high_part : (h l : ℕ) → l < 256 → pair h l / 2 ^ 8 ≡ h
unfolding number_by
high_part h l q = omega arith

low_part : (h l : ℕ) → l < 256 → pair h l % 2 ^ 8 ≡ l
unfolding number_by
low_part h l q = omega arith

bit_above : (h l t : ℕ) → l < 256 → bit (pair h l) (8 + t) ≡ bit h t
bit_above h l t q = bit_high 8 (pair h l) t ∙ ap (λ (x : ℕ). bit x t) (high_part h l q)

bit_below : (h l t : ℕ) → l < 256 → t < 8 → bit (pair h l) t ≡ bit l t
bit_below h l t q g = bit_low 8 (pair h l) t g ∙ ap (λ (x : ℕ). bit x t) (low_part h l q)

pub swap_low : (h l t : ℕ) → h < 256 → l < 256 → t < 8 → is_named (pair l h) t ≡ is_named (pair h l) (8 + t)
swap_low h l t p q g = rw (le-leb t 15 (omega arith), le-leb (8 + t) 15 (omega arith), bit_below l h t p g, bit_above h l t q)

pub swap_high : (h l t : ℕ) → h < 256 → l < 256 → t < 8 → is_named (pair l h) (8 + t) ≡ is_named (pair h l) t
swap_high h l t p q g = rw (le-leb t 15 (omega arith), le-leb (8 + t) 15 (omega arith), bit_below h l t q g, bit_above l h t p)

-- a request that adds a filter, by its bytes
abbrev pub adding : ℕ → ℕ → ℕ → ℕ → ℕ → ℕ → List ℕ
adding s a i h l x = 0x04 ∷ s ∷ 0x31 ∷ a ∷ i ∷ h ∷ l ∷ x ∷ []

abbrev pub meant : ℕ → ℕ → ℕ → ℕ → Filter
meant a i h l = record { address = a; instance = i; mask = pair h l }

-- what it asks: 6 for its sum, then 7 for its address and instance; the mask is in no range
adds : (s a i h l x : ℕ) → asked (adding s a i h l x) ≡ demand (eqb (sum_of (adding s a i h l x)) 0) 6 (demand (is_filtered a i) 7 (full (add (meant a i h l))))
unfolding asked read_request read_basic shape_of meaning_of fits
adds s a i h l x = go (eqb (sum_of (adding s a i h l x)) 0) (is_filtered a i)
  where
    go : (t u : Bool) → change_heard (demand t 6 (demand u 7 (full (basic_heard rule·Filter s 0x31 a i h l)))) ≡ demand t 6 (demand u 7 (full (add (meant a i h l))))
    go true true = refl
    go true false = refl
    go false u = refl

same_sum : (s a i h l x : ℕ) → sum_of (adding s a i h l x) ≡ sum_of (adding s a i l h x)
unfolding sum_from
same_sum s a i h l x = ap (λ (y : ℕ). bit_xor y x) (turned (sum_of (0x04 ∷ s ∷ 0x31 ∷ a ∷ i ∷ [])) h l)
  where
    turned : (y m n : ℕ) → bit_xor (bit_xor y m) n ≡ bit_xor (bit_xor y n) m
    turned y m n = xor_assoc y m n ∙ ap (bit_xor y) (xor_comm m n) ∙ sym (xor_assoc y n m)

-- nothing complains: with the bytes exchanged it is refused with the same number, or adds the filter with its mask exchanged
pub swap_refused : (s a i h l x k : ℕ) → asked (adding s a i h l x) ≡ refused k → asked (adding s a i l h x) ≡ refused k
swap_refused s a i h l x k e =
    adds s a i l h x ∙ rw (← same_sum s a i h l x) (go (eqb (sum_of (adding s a i h l x)) 0) (is_filtered a i) (sym (adds s a i h l x) ∙ e))
  where
    go : (t u : Bool) → demand t 6 (demand u 7 (full (add (meant a i h l)))) ≡ refused k → demand t 6 (demand u 7 (full (add (meant a i l h)))) ≡ refused k
    go true true e = clash (cc)
    go true false e = e
    go false u e = e

pub swap_added : (s a i h l x : ℕ) → asked (adding s a i h l x) ≡ full (add (meant a i h l)) → asked (adding s a i l h x) ≡ full (add (meant a i l h))
swap_added s a i h l x e =
    adds s a i l h x ∙ rw (← same_sum s a i h l x) (go (eqb (sum_of (adding s a i h l x)) 0) (is_filtered a i) (sym (adds s a i h l x) ∙ e))
  where
    go : (t u : Bool) → demand t 6 (demand u 7 (full (add (meant a i h l)))) ≡ full (add (meant a i h l))
        → demand t 6 (demand u 7 (full (add (meant a i l h)))) ≡ full (add (meant a i l h))
    go true true e = refl
    go true false e = clash (cc)
    go false u e = clash (cc)

-- March: of the corridor, address 68 and instance 3, level and colour changes (3 and 8) were to be hidden. Its occupied events, its presses and its
-- holds are wanted
abbrev pub corridor : List ℕ
corridor = 68 ∷ 3 ∷ 6 ∷ 68 ∷ 3 ∷ 0 ∷ 68 ∷ 3 ∷ 1 ∷ []

-- some gear's level changes, the corridor's filter, and a neighbour's, of which one type is cleared again
abbrev plan_with : ℕ → ℕ → List ℕ
plan_with h l =
    (0x04 ∷ 0x00 ∷ 0x31 ∷ 0x0C ∷ 0xFF ∷ 0x00 ∷ 0x08 ∷ 0xCE ∷ [])
    ++ (0x04 ∷ 0x01 ∷ 0x31 ∷ 0x44 ∷ 0x03 ∷ h ∷ l ∷ 0x7A ∷ [])
    ++ (0x04 ∷ 0x02 ∷ 0x31 ∷ 0x44 ∷ 0x04 ∷ 0x01 ∷ 0x09 ∷ 0x7F ∷ [])
    ++ (0x04 ∷ 0x03 ∷ 0x33 ∷ 0x44 ∷ 0x04 ∷ 0x00 ∷ 0x01 ∷ 0x75 ∷ [])

abbrev pub planned : List ℕ
planned = plan_with 0x01 0x08

abbrev pub swapped : List ℕ
swapped = plan_with 0x08 0x01

-- as it was meant, the plan passes; with the two bytes swapped it hides the presses, since its second request
pub march : (checked planned corridor ≡ told_yes) × (checked swapped corridor ≡ told_hidden 1) × (since_of swapped 68 3 0 ≡ Some 1)
unfolding
    sum_from number_by shape_of is_retired fits meaning_of read_basic read_request asked bit lowest added cleared next mask_at after checked since_by
march = (refl, refl, refl)

-- the filters that it leaves: of the corridor 2049, the types 0 and 11, where 264 was meant, the types 3 and 8
pub march_left : filters_in (left_of swapped)
    ≡ record { address = 12; instance = 255; mask = 8 } ∷ record { address = 68; instance = 3; mask = 2049 } ∷ record { address = 68; instance = 4; mask = 264 } ∷ []
unfolding
    sum_from number_by shape_of is_retired fits meaning_of read_basic read_request asked added cleared next after
march_left = refl
