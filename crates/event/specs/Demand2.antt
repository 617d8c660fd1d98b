-- Demand 2 for events, over the width of the target (crate frame says what it is).
use Rattle.std.specs.Prelude.{ℕ, ◌+◌, ◌^◌, ◌≤◌, ◌<◌, ◌≡◌, false, not, List, [], ◌∷◌, ◌++◌, take, drop, leb, ltb, eqb}
use Rattle.std.proofs.Math.Path.{refl, sym}
use Rattle.std.proofs.Common.{ap, ◌∙◌, append_assoc, length-append, length-take, length-drop, take_at, drop_at, leb-true, ltb-true, eqb-true, arith}
use Rattle.std.proofs.Math.ListN.{length}
use Rattle.std.proofs.Math.Seq.{take-append_seam}
use Rattle.std.proofs.lemmas.List.{get_or_at}
use Rattle.std.proofs.lemmas.Bool.{not-true}
use Rattle.refusal.specs.Test.{both_left, both_right}
use Rattle.refusal.specs.Answer.{Answer, full, demand_elim, full_one}
use Rattle.lead.specs.Lead.{event_first, event_second, is_event, event_data}
use Rattle.sum.specs.Bytes.{Bytes, bytes_none, bytes_cons, bytes_append, bytes_head, bytes_tail, bytes_take, bytes_drop}
use Rattle.sum.specs.Sum.{sum_of}
use Rattle.frame.specs.Demand2 as family
use Rattle.frame.specs.Demand2.{Demand2, demand2}
use Rattle.frame.specs.Frame.{byte, sealed, sealed_sum, sealed_bytes, listed, listed_take, length_listed, listed_append, opened}
use Rattle.order.specs.Order.{high_first, number_in}
use Rattle.order.specs.Big.{big_bytes}
use Rattle.order.specs.Numbers.{length_big, big_are_bytes, number_of_bytes, bytes_of_number, number_below}
use Rattle.event_type.specs.Types.{lacks}
use Rattle.event_type.specs.Laws.{number_kept}
use Rattle.event.specs.Layout.{width_of, Fields, event, InRange, event_fits, mac_bytes, front, head, layout}
use Rattle.event.specs.Layout.{target_at, type_at, count_at, data_at, least}
use Rattle.event.specs.Reading.{Told, mac_of, event_in, read_event, fields_of}
use Rattle.event.specs.Writing.{event_frame}
use Rattle.event.specs.Fits.{accepts, frames}
use Rattle.event.specs.declared.Layout.{Layout}
use Rattle.event.specs.declared.Mac.{Mac}

abbrev pub frame_of : ℕ → Fields → Answer (List ℕ)
frame_of w (event m t k l) = event_frame w m t k l

-- the datagram is accepted, and gives these fields
abbrev Reads : ℕ → List ℕ → Fields → Type 0
Reads w d f = family.Reads (InRange w) (layout w) (read_event w) (fields_of w) (InRange w) (frame_of w) d f

regroup : (a b c d : List ℕ) → ((a ++ b) ++ c) ++ d ≡ a ++ (b ++ (c ++ d))
regroup a b c d = simp append_assoc

-- each layout reads as its fields
module _ (w : ℕ) (m : Mac) (t k : ℕ) (l : List ℕ)
    (short : length l ≤ event_data) (small : t < 256 ^ w) (has : lacks k (length l) ≡ false) where
  x : List ℕ
  x = layout w (event m t k l)

  z : ℕ
  z = sum_of (head w (event m t k l))

  -- the bytes in start of the type
  start : List ℕ
  start = event_first ∷ event_second ∷ m.0 ∷ m.1 ∷ m.2 ∷ m.3 ∷ m.4 ∷ m.5 ∷ big_bytes w t

  start_long : length start ≡ type_at w
  unfolding start
  start_long = omega (arith, length_big w t)

  whole : x ≡ start ++ (k ∷ length l ∷ (l ++ (z ∷ [])))
  unfolding x z start
  whole = regroup start (k ∷ length l ∷ []) l (z ∷ [])

  at_type : byte (type_at w) x ≡ k
  at_type = rw whole (get_or_at start k (length l ∷ (l ++ (z ∷ []))) 0 (type_at w) start_long)

  at_count : byte (count_at w) x ≡ length l
  at_count =
      let n : length (start ++ (k ∷ [])) ≡ count_at w = simp length-append (omega (arith, start_long)) in
      rw (whole, ← append_assoc start (k ∷ []) (length l ∷ (l ++ (z ∷ []))))
      (get_or_at (start ++ (k ∷ [])) (length l) (l ++ (z ∷ [])) 0 (count_at w) n)

  at_data : take (length l) (drop (data_at w) x) ≡ l
  at_data =
      let n : length (start ++ (k ∷ length l ∷ [])) ≡ data_at w = simp length-append (omega (arith, start_long)) in
      let p : List ℕ = start ++ (k ∷ length l ∷ []) in
      rw (whole, ← append_assoc start (k ∷ length l ∷ []) (l ++ (z ∷ [])), drop_at p (l ++ (z ∷ [])) (data_at w) n)
      (take-append_seam l (z ∷ []))

  long : length x ≡ length l + least w
  long = rw whole (simp length-append (omega (arith, start_long)))

  at_target : listed target_at w x ≡ big_bytes w t
  unfolding start
  at_target =
      sym (listed_take target_at w x (omega (arith, long)))
      ∙ rw whole (take_at (big_bytes w t) (k ∷ length l ∷ (l ++ (z ∷ []))) w (length_big w t))

  event_reads : Reads w x (event m t k l)
  unfolding x
  event_reads =
      record {
        reading = event_in w x;
        accepted =
            sym
            (accepts w x (event_in w x) (omega (arith, long)) refl (rw at_count short) (rw at_count long)
            (sealed_sum (head w (event m t k l)))
            (rw (at_type, at_count) has) refl);
        fields = rw (at_count, at_target, number_kept (byte (type_at w) x), at_type, at_data, number_of_bytes w t small);
      }

-- what was written is read as its fields
read_written : (w : ℕ) (f : Fields) (d : List ℕ) → frame_of w f ≡ full d → Reads w d f
unfolding event_frame x
read_written w (event m t k l) d =
    demand_elim (leb (length l) event_data) 4
    (λ h₄. demand_elim (ltb t (256 ^ w)) 7
    (λ h₇. demand_elim (not (lacks k (length l))) 7
    (λ i e.
    let o : layout w (event m t k l) ≡ d = full_one e in
    rw o at (event_reads w m t k l (leb-true (length l) event_data h₄) (ltb-true t (256 ^ w) h₇) (not-true (lacks k (length l)) i)))))

-- in range: the frame is the layout
in_range_written : (w : ℕ) (f : Fields) → InRange w f → frame_of w f ≡ full (layout w f)
in_range_written w (event m t k l) (event_fits h₄ h₇ i a b) = frames w m t k l h₄ h₇ i

first_two : {a b : ℕ} {l : List ℕ} → a ≡ event_first → b ≡ event_second → ◌≡◌ {A = List ℕ} (a ∷ b ∷ l) (event_first ∷ event_second ∷ l)
first_two p q = cc

mac_bytes_lem : (d : List ℕ) → Bytes d → Bytes (mac_bytes (mac_of d))
mac_bytes_lem d bs =
    let w = bs.byte in
    bytes_cons (w 2) (bytes_cons (w 3) (bytes_cons (w 4) (bytes_cons (w 5) (bytes_cons (w 6) (bytes_cons (w 7) bytes_none)))))

-- the bytes of a datagram in front of its data, one by one
module _ (w : ℕ) (d : List ℕ) (bs : Bytes d) (z : byte 0 d ≡ event_first) (c : byte 1 d ≡ event_second) (room : data_at w ≤ length d) where
  target_bytes_lem : Bytes (listed target_at w d)
  target_bytes_lem = rw (listed_take target_at w d (omega arith)) at (bytes_take w (drop target_at d) (bytes_drop target_at d bs))

  target_back : big_bytes w (number_in high_first w (listed target_at w d)) ≡ listed target_at w d
  target_back = bytes_of_number w (listed target_at w d) (length_listed target_at w d) target_bytes_lem

  front_listed :
      listed 0 (data_at w) d ≡ front w (mac_of d) (number_in high_first w (listed target_at w d)) (byte (type_at w) d) (byte (count_at w) d)
  front_listed =
      let e : data_at w ≡ target_at + (w + 2) = omega arith in
      let g : List ℕ = listed target_at w d in
      let n : List ℕ = listed (type_at w) 2 d in
      ap (λ (n : ℕ). listed 0 n d) e
      ∙ listed_append 0 target_at (w + 2) d
      ∙ ap (λ (l : List ℕ). listed 0 target_at d ++ l) (listed_append target_at w 2 d)
      ∙ sym (append_assoc (listed 0 target_at d) g n)
      ∙ ap (λ (l : List ℕ). (listed 0 target_at d ++ l) ++ n) (sym target_back)
      ∙ first_two z c

-- an accepted datagram is a frame: the fields that it gives are in range, and it is their layout
accepted_frame : (w : ℕ) (d : List ℕ) (r : Told) → Bytes d → read_event w d ≡ full r
    → InRange w (fields_of w r d) × (d ≡ layout w (fields_of w r d))
unfolding read_event
accepted_frame w d r bs =
    demand_elim (leb (least w) (length d)) 1
    (λ h₁. demand_elim (is_event (byte 0 d) (byte 1 d)) 2
    (λ h₂. demand_elim (leb (byte (count_at w) d) event_data) 4
    (λ h₄. demand_elim (eqb (length d) (byte (count_at w) d + least w)) 5
    (λ h₅. demand_elim (eqb (sum_of d) 0) 6
    (λ h₆. demand_elim (not (lacks (byte (type_at w) d) (byte (count_at w) d))) 7
    (λ h₇ e.
    let k : ℕ = byte (type_at w) d in
    let n : ℕ = byte (count_at w) d in
    let t : ℕ = number_in high_first w (listed target_at w d) in
    let l : List ℕ = take n (drop (data_at w) d) in
    let long = eqb-true (length d) (n + least w) h₅ in
    let room : data_at w ≤ length d = omega arith in
    let z = eqb-true (byte 0 d) event_first (both_left (eqb (byte 0 d) event_first) (eqb (byte 1 d) event_second) h₂) in
    let c = eqb-true (byte 1 d) event_second (both_right (eqb (byte 0 d) event_first) (eqb (byte 1 d) event_second) h₂) in
    let size : length l ≡ n = simp (length-take, length-drop) (omega arith) in
    let short : length l ≤ event_data = omega (arith, leb-true n event_data h₄) in
    let small : t < 256 ^ w = number_below w (listed target_at w d) (length_listed target_at w d) (target_bytes_lem w d bs z c room) in
    let has : lacks k (length l) ≡ false = rw size (not-true (lacks k n) h₇) in
    let o : d ≡ layout w (event (mac_of d) t k l) =
    opened (data_at w) n d (omega arith) (eqb-true (sum_of d) 0 h₆)
    ∙ ap (λ (p : List ℕ). sealed (p ++ l)) (front_listed w d bs z c room ∙ ap (front w (mac_of d) t k) (sym size)) in
    let b : Bytes (k ∷ l) = bytes_cons (bs.byte (type_at w)) (bytes_take n (drop (data_at w) d) (bytes_drop (data_at w) d bs)) in
    rw (← full_one e, number_kept k) (event_fits short small has (mac_bytes_lem d bs) b, o)))))))

-- each frame is a run of bytes
frame_bytes : (w : ℕ) (f : Fields) → InRange w f → Bytes (layout w f)
frame_bytes w (event m t k l) (event_fits h₄ h₇ i a b) =
    sealed_bytes
    (bytes_append (front w m t k (length l))
    (bytes_append ((event_first ∷ event_second ∷ mac_bytes m) ++ big_bytes w t)
    (bytes_append (event_first ∷ event_second ∷ mac_bytes m) (bytes_cons (omega arith) (bytes_cons (omega arith) a)) (big_are_bytes w t))
    (bytes_cons (bytes_head b) (bytes_cons {b = length l} (omega arith) bytes_none)))
    (bytes_tail b))

-- whose exclusive-or is 0, and is accepted
frame_sum : (w : ℕ) (f : Fields) → InRange w f → sum_of (layout w f) ≡ 0
frame_sum w f i = sealed_sum (head w f)

frame_accepted : (w : ℕ) (f : Fields) → InRange w f → Reads w (layout w f) f
unfolding x
frame_accepted w (event m t k l) (event_fits h₄ h₇ i a b) = event_reads w m t k l h₄ h₇ i

-- DEMAND 2 FOR EVENTS, over the width of the target. Whatever is in range may be written
pub events : (w : ℕ) → Demand2 (InRange w) (layout w) (read_event w) (fields_of w) (InRange w) (frame_of w)
events w =
    demand2 (InRange w) (layout w) (read_event w) (fields_of w) (InRange w) (frame_of w)
    (accepted_frame w) (frame_bytes w) (frame_sum w) (frame_accepted w) (λ f i. i) (in_range_written w) (read_written w)

-- and so for each layout: document 02, W-206, "Demand 2 counts it with the published layouts from then on"
pub published : (l : Layout)
    → Demand2 (InRange (width_of l)) (layout (width_of l)) (read_event (width_of l)) (fields_of (width_of l)) (InRange (width_of l)) (frame_of (width_of l))
published l = events (width_of l)
