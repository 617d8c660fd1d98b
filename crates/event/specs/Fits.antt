-- What is known of a datagram and of fields that meet every demand, and of a datagram that was accepted.
use Prim.Native.Nat.{ℕ, suc, ◌+◌, ◌^◌, ◌≤◌, ◌<◌}
use Rattle.std.specs.Prelude.{◌≡◌, refl, Bool, true, false, not, List, [], ◌∷◌, ◌++◌, length, take, leb, ltb, eqb}
use Rattle.std.proofs.Common.{ap, ◌∙◌, arith}
use borrow.Author.Tests.{leb-true, eqb-true, le-leb, lt-leb, lt-ltb, eq-eqb, ne_eqb}
use Rattle.refusal.specs.Answer.{refused, full, demand, demand_elim, full_one}
use Rattle.lead.specs.Lead.{event_first, event_second, is_event, event_data}
use Rattle.sum.specs.Sum.{sum_of}
use Rattle.frame.specs.Frame.{byte}
use Rattle.order.specs.Big.{big_bytes}
use Rattle.event_type.specs.Types.{lacks}
use Rattle.event.specs.Layout.{width_of, event, target_at, type_at, count_at, data_at, least, mac_bytes, front, layout}
use Rattle.event.specs.Reading.{Told, event_in, read_event}
use Rattle.event.specs.Writing.{event_frame}
use Rattle.event.specs.declared.Layout.{Layout}
use Rattle.event.specs.declared.Layout.TheVariants.{Three, Two}
use Rattle.event.specs.declared.Mac.{Mac}

-- the target of either layout has two bytes or three
pub width_two_or_three : (l : Layout) → (2 ≤ width_of l) × (width_of l ≤ 3)
width_two_or_three Three = (omega arith, omega arith)
width_two_or_three Two = (omega arith, omega arith)

-- the places behind the target, counted from its end
pub count_place : (w : ℕ) (d : List ℕ) → byte (target_at + w + 1) d ≡ byte (count_at w) d
count_place w d = ap (λ (i : ℕ). byte i d) (omega arith)

pub data_place : (w : ℕ) (d : List ℕ) → byte (target_at + w + 2) d ≡ byte (data_at w) d
data_place w d = ap (λ (i : ℕ). byte i d) (omega arith)

-- a datagram that meets every demand
pub accepts : (w : ℕ) (d : List ℕ) (r : Told) → least w ≤ length d → is_event (byte 0 d) (byte 1 d) ≡ true → byte (count_at w) d ≤ event_data
    → length d ≡ byte (count_at w) d + least w → sum_of d ≡ 0 → lacks (byte (type_at w) d) (byte (count_at w) d) ≡ false → r ≡ event_in w d
    → full r ≡ read_event w d
unfolding read_event
accepts w d r h₁ h₂ h₄ h₅ h₆ h₇ e =
    let n : ℕ = byte (count_at w) d in
    rw (le-leb (least w) (length d) h₁, h₂, le-leb n event_data h₄, eq-eqb (length d) (n + least w) h₅, eq-eqb (sum_of d) 0 h₆, h₇, e)

-- and each refusal, where none before it applies
module _ (w : ℕ) (d : List ℕ) where
  pub refuses_1 : length d < least w → refused 1 ≡ read_event w d
  unfolding read_event
  refuses_1 h₁ = rw (lt-leb (least w) (length d) h₁)

  module _ (h₁ : least w ≤ length d) where
    pub refuses_2 : is_event (byte 0 d) (byte 1 d) ≡ false → refused 2 ≡ read_event w d
    unfolding read_event
    refuses_2 h₂ = rw (le-leb (least w) (length d) h₁, h₂)

    module _ (h₂ : is_event (byte 0 d) (byte 1 d) ≡ true) where
      pub refuses_4 : event_data < byte (count_at w) d → refused 4 ≡ read_event w d
      unfolding read_event
      refuses_4 h₄ = rw (le-leb (least w) (length d) h₁, h₂, lt-leb (byte (count_at w) d) event_data h₄)

      module _ (h₄ : byte (count_at w) d ≤ event_data) where
        pub refuses_5 : (length d ≡ byte (count_at w) d + least w → ⊥) → refused 5 ≡ read_event w d
        unfolding read_event
        refuses_5 h₅ =
            rw (le-leb (least w) (length d) h₁, h₂, le-leb (byte (count_at w) d) event_data h₄, ne_eqb (length d) (byte (count_at w) d + least w) h₅)

        module _ (h₅ : length d ≡ byte (count_at w) d + least w) where
          pub refuses_6 : (sum_of d ≡ 0 → ⊥) → refused 6 ≡ read_event w d
          unfolding read_event
          refuses_6 h₆ =
              let n : ℕ = byte (count_at w) d in
              rw (le-leb (least w) (length d) h₁, h₂, le-leb n event_data h₄, eq-eqb (length d) (n + least w) h₅, ne_eqb (sum_of d) 0 h₆)

          pub refuses_7 : sum_of d ≡ 0 → lacks (byte (type_at w) d) (byte (count_at w) d) ≡ true → refused 7 ≡ read_event w d
          unfolding read_event
          refuses_7 h₆ h₇ =
              let n : ℕ = byte (count_at w) d in
              rw (le-leb (least w) (length d) h₁, h₂, le-leb n event_data h₄, eq-eqb (length d) (n + least w) h₅, eq-eqb (sum_of d) 0 h₆, h₇)

-- an accepted event has its data
pub read_fits : (w : ℕ) (d : List ℕ) (r : Told) → read_event w d ≡ full r → (length d ≡ r.n + least w) × (r.n ≤ event_data)
unfolding read_event
read_fits w d r =
    demand_elim (leb (least w) (length d)) 1
    (λ h₁. demand_elim (is_event (byte 0 d) (byte 1 d)) 2
    (λ h₂. demand_elim (leb (byte (count_at w) d) event_data) 4
    (λ h₄. demand_elim (eqb (length d) (byte (count_at w) d + least w)) 5
    (λ h₅. demand_elim (eqb (sum_of d) 0) 6
    (λ h₆. demand_elim (not (lacks (byte (type_at w) d) (byte (count_at w) d))) 7
    (λ h₇ e.
    let z : byte (count_at w) d ≡ r.n = ap (λ (x : Told). x.n) (full_one e) in
    let l = eqb-true (length d) (byte (count_at w) d + least w) h₅ in
    let m = leb-true (byte (count_at w) d) event_data h₄ in
    (omega arith, omega arith)))))))

-- fields that meet every demand of the writer
pub frames : (w : ℕ) (m : Mac) (t k : ℕ) (l : List ℕ) → length l ≤ event_data → t < 256 ^ w → lacks k (length l) ≡ false
    → event_frame w m t k l ≡ full (layout w (event m t k l))
unfolding event_frame
frames w m t k l h₄ h₇ i = rw (le-leb (length l) event_data h₄, lt-ltb t (256 ^ w) h₇, i)

-- and an instance event without data, whatever its target
pub lacking : (w : ℕ) (m : Mac) (t k : ℕ) (l : List ℕ) → length l ≤ event_data → lacks k (length l) ≡ true → event_frame w m t k l ≡ refused 7
unfolding event_frame
lacking w m t k l h₄ i = rw (le-leb (length l) event_data h₄, i) (go (ltb t (256 ^ w)))
  where
    go : (b : Bool) → demand {A = List ℕ} b 7 (refused 7) ≡ refused 7
    go true = refl
    go false = refl

-- the bytes in front of the data are the eight of lead and MAC address, whatever the layout, and those behind them
pub front_put : (w : ℕ) (m : Mac) (t k n : ℕ) (l : List ℕ) → take (2 + w) l ≡ big_bytes w t ++ (k ∷ n ∷ [])
    → take (data_at w) ((event_first ∷ event_second ∷ mac_bytes m) ++ l) ≡ front w m t k n
front_put w m t k n l e =
    let i : data_at w ≡ suc (suc (suc (suc (suc (suc (suc (suc (2 + w)))))))) = omega arith in
    ap (λ (j : ℕ). take j ((event_first ∷ event_second ∷ mac_bytes m) ++ l)) i ∙ ap (λ (x : List ℕ). (event_first ∷ event_second ∷ mac_bytes m) ++ x) e
