-- Demand 2 for requests (crate frame says what it is), over the profile. Document 02, W-203: "demand 2's writing half holds where the profile is
-- not chosen, and under it for the commands inside".
use Prim.Native.Nat.{ℕ, ◌-◌, ◌/◌, ◌%◌, ◌<◌}
use Rattle.std.specs.Prelude.{◌≡◌, Result, Bool, true, false, not, length, take, drop, leb, ltb, eqb}
use Rattle.std.proofs.Math.Path.{refl, sym}
use Rattle.std.proofs.Common.{ap, ◌∙◌, length-append, eqb-true, ltb-true, lt-ltb, arith}
use mathlib.Core.List.{List, [], ◌∷◌}
use Rattle.std.proofs.Math.Seq.{take-append_seam}
use Rattle.refusal.specs.Test.{clash, both_left, both_right}
use Rattle.refusal.specs.Answer.{full, demand, demand_elim, full_one}
use Rattle.sum.specs.Bytes.{Bytes, bytes_none, bytes_cons, bytes_head, bytes_tail, bytes_take, bytes_drop}
use Rattle.sum.specs.Sum.{sum_of}
use Rattle.frame.specs.Demand2 as family
use Rattle.frame.specs.Demand2.{Demand2, demand2}
use Rattle.frame.specs.Written.{Written}
use Rattle.refusal.specs.declared.Refusal.{Refusal}
use Rattle.frame.specs.Frame.{byte, sealed, sealed_sum, sealed_bytes, opened}
use Rattle.order.specs.Big.{big_bytes}
use Rattle.order.specs.Numbers.{number_of_bytes, bytes_of_number, number_below}
use Rattle.command.specs.declared.Rule.{Rule}
use Rattle.command.specs.declared.Shape.{Shape}
use Rattle.command.specs.declared.Shape.TheVariants.{Unknown, Basic, Unicast, Colour}
use Rattle.command.specs.Command.{shape_of, numbers_in, is_known, is_retired}
use Rattle.command.specs.Known.{unicast_only, colour_only, colour_shape, basic_known, unicast_known, colour_known, may_write_current, current_may_write}
use Rattle.command.specs.Colours.{widths_of, data_bytes, is_type}
use Rattle.command.specs.Listed.{type_bytes}
use Rattle.command.specs.Length.{colour_bytes, unicast_command, colour_command}
use Rattle.target.specs.declared.LineTarget.{LineTarget}
use Rattle.target.specs.Target.{is_lighting}
use Rattle.profile.specs.declared.Profile.{Profile}
use Rattle.profile.specs.declared.Profile.TheVariants.{Open}
use Rattle.profile.specs.Profile.{allows}
use Rattle.colour.specs.Colour.{Hue, hue, type_of, fitting, is_colour, data_in, hue_in, said_colour}
use Rattle.colour.specs.declared.Colour as Colour·enum
use Rattle.colour.specs.Laws.{laid_bytes, data_length, hue_back, data_back, hue_fits, Sized, said_colour_lem}
use Rattle.ranges.specs.Arguments.{fits}
use Rattle.meaning.specs.Meaning.{pair, meaning_of}
use Rattle.request.specs.Layout.{Fields, basic, unicast, colour, InRange, basic_fits, unicast_fits, colour_fits, command_in, Writable, head, layout}
use Rattle.request.specs.Said.{Heard, fields_of, command_of, mark_of}
use Rattle.request.specs.Reading.{basic_heard, unicast_heard, colour_heard, read_basic, read_unicast, colour_data, read_coloured, read_shape, read_request}
use Rattle.request.specs.Reads.{basic_accepts, unicast_accepts, shape_read}
use Rattle.request.specs.Coloured.{part_length, colour_accepts}
use Rattle.request.specs.Writing.{basic_of, colour_frame, writer_of, frame_of, handed_on}
use Rattle.request.proofs.Retired.{heard_fields, retired_read, retired_refused, written_current}

-- the frame of a colour request has the bytes of its type, and its colour data is that of its colour
colour_length : (s a l k : ℕ) (vs : List ℕ) → fitting (widths_of k) vs ≡ true → length (layout (colour s a l (hue k vs))) ≡ colour_bytes k
colour_length s a l k vs f = simp length-append (omega (arith, data_length k vs f))

colour_part : (s a l k : ℕ) (vs : List ℕ) → fitting (widths_of k) vs ≡ true
    → colour_data (layout (colour s a l (hue k vs))) ≡ data_in (hue k vs)
colour_part s a l k vs f =
    let x : List ℕ = layout (colour s a l (hue k vs)) in
    let n : length x - 1 - 6 ≡ length (data_in (hue k vs)) = omega (arith, colour_length s a l k vs f, data_length k vs f) in
    rw n (take-append_seam (data_in (hue k vs)) (sum_of (head (colour s a l (hue k vs))) ∷ []))

module _ (p : Profile) where
  -- the datagram is accepted, and gives these fields
  abbrev Reads : List ℕ → Fields → Type 0
  Reads d f = family.Reads InRange layout read_request (λ r x. fields_of r) (Writable p) (frame_of p) d f

  -- each layout reads as its fields
  basic_reads : (rule : Rule) (s k a b c d : ℕ) → shape_of k ≡ Basic rule → fits rule a b c d ≡ true
      → Reads (layout (basic s k a b c d)) (basic s k a b c d)
  basic_reads rule s k a b c d h f =
      let x : List ℕ = layout (basic s k a b c d) in
      record {
        reading = basic_heard rule s k a b c d;
        accepted =
            sym
            (shape_read x (Basic rule) (full (basic_heard rule s k a b c d)) (omega arith) refl (sym h)
            (basic_accepts rule x (is_retired k) (meaning_of rule a b c d) refl refl (sealed_sum (head (basic s k a b c d))) f refl));
        fields = refl;
      }

  unicast_reads : (s port i j k l : ℕ) → port < 65536 → Reads (layout (unicast s port i j k l)) (unicast s port i j k l)
  unfolding shape_of numbers_in
  unicast_reads s port i j k l n =
      let x : List ℕ = layout (unicast s port i j k l) in
      record {
        reading = unicast_heard s 0x40 port i j k l;
        accepted =
            sym
            (shape_read x Unicast (full (unicast_heard s 0x40 port i j k l)) (omega arith) refl refl
            (unicast_accepts x (is_retired 0x40) port refl refl refl (sealed_sum (head (unicast s port i j k l))) (sym (number_of_bytes 2 port n))));
        fields = refl;
      }

  -- ONCE OVER THE COLOUR TYPES
  colour_reads : (s a l : ℕ) (h : Hue) → is_lighting a ≡ true → is_colour h ≡ true → Reads (layout (colour s a l h)) (colour s a l h)
  colour_reads s a l (hue k vs) g c =
      let x : List ℕ = layout (colour s a l (hue k vs)) in
      let t : is_type k ≡ true = both_left (is_type k) (fitting (widths_of k) vs) c in
      let f : fitting (widths_of k) vs ≡ true = both_right (is_type k) (fitting (widths_of k) vs) c in
      let n : length x ≡ colour_bytes k = colour_length s a l k vs f in
      let u = type_bytes k t in
      record {
        reading = colour_heard s 0x0E a l (hue k vs);
        accepted =
            sym
            (shape_read x Colour (full (colour_heard s 0x0E a l (hue k vs))) (omega (arith, n, u.1)) refl (sym colour_shape)
            (colour_accepts x (hue k vs) t n (sealed_sum (head (colour s a l (hue k vs)))) g
            (ap (hue_in k) (colour_part s a l k vs f) ∙ hue_back k vs f)));
        fields = refl;
      }

  -- what was written is read as its fields
  read_written : (f : Fields) (x : List ℕ) → frame_of p f ≡ full x → Reads x f
  read_written (basic s k a b c d) x e = go (shape_of k) refl e
    where
      go : (h : Shape) → shape_of k ≡ h → basic_of p h s k (record { a = a; b = b; c = c; d = d }) ≡ full x → Reads x (basic s k a b c d)
      go Unknown h e = clash (cc)
      go Unicast h e = clash (cc)
      go Colour h e = clash (cc)
      go (Basic rule) h e =
          demand_elim (not (is_retired k)) 17
          (λ r. demand_elim (fits rule a b c d) 7
          (λ t. demand_elim (allows p k) 13
          (λ u q.
          let o : layout (basic s k a b c d) ≡ x = full_one q in
          rw o at (basic_reads rule s k a b c d h t))))
          e
  read_written (unicast s port i j k l) x e =
      demand_elim (ltb port 65536) 7
      (λ t. demand_elim (allows p unicast_command) 13
      (λ u q.
      let o : layout (unicast s port i j k l) ≡ x = full_one q in
      rw o at (unicast_reads s port i j k l (ltb-true port 65536 t))))
      e
  read_written (colour s a l (hue k vs)) x e =
      demand_elim (is_type k) 4
      (λ t. demand_elim (is_colour (hue k vs)) 7
      (λ c. demand_elim (is_lighting a) 7
      (λ g. demand_elim (allows p colour_command) 13
      (λ u q.
      let o : layout (colour s a l (hue k vs)) ≡ x = full_one q in
      rw o at (colour_reads s a l (hue k vs) g c)))))
      e

  -- what may be written is in range, and its frame is its layout
  may_written : (f : Fields) → Writable p f → frame_of p f ≡ full (layout f)
  may_written f w = go f w.0 (may_write_current (command_in f) w.1) w.2
    where
      go : (f : Fields) → InRange f → is_retired (command_in f) ≡ false → allows p (command_in f) ≡ true → frame_of p f ≡ full (layout f)
      go (basic s k a b c d) (basic_fits rule h t z) m u = rw (h, m, t, u)
      go (unicast s port i j k l) (unicast_fits n z) m u = rw (lt-ltb port 65536 n, u)
      go (colour s a l (hue k vs)) (colour_fits g c z) m u =
          rw (both_left (is_type k) (fitting (widths_of k) vs) c, both_right (is_type k) (fitting (widths_of k) vs) c, g, u)

  -- each frame is accepted
  frame_accepted : (f : Fields) → InRange f → Reads (layout f) f
  frame_accepted (basic s k a b c d) (basic_fits rule h t z) = basic_reads rule s k a b c d h t
  frame_accepted (unicast s port i j k l) (unicast_fits n z) = unicast_reads s port i j k l n
  frame_accepted (colour s a l h) (colour_fits g c z) = colour_reads s a l h g c

-- what a reading tells of its datagram
basic_frame_lem : (d : List ℕ) (rule : Rule) (r : Heard) → Bytes d → byte 0 d ≡ 0x04 → shape_of (byte 2 d) ≡ Basic rule
    → read_basic rule d ≡ full r → InRange (fields_of r) × (d ≡ layout (fields_of r))
unfolding read_basic
basic_frame_lem d rule r bs lead h =
    demand_elim (eqb (length d) 8) 5
    (λ l. demand_elim (eqb (sum_of d) 0) 6
    (λ z. demand_elim (fits rule (byte 3 d) (byte 4 d) (byte 5 d) (byte 6 d)) 7
    (λ t e.
    let w = bs.byte in
    let o : d ≡ layout (basic (byte 1 d) (byte 2 d) (byte 3 d) (byte 4 d) (byte 5 d) (byte 6 d)) =
    rw lead at (opened 7 0 d (eqb-true (length d) 8 l) (eqb-true (sum_of d) 0 z)) in
    let b : Bytes (byte 1 d ∷ byte 2 d ∷ byte 3 d ∷ byte 4 d ∷ byte 5 d ∷ byte 6 d ∷ []) =
    bytes_cons (w 1) (bytes_cons (w 2) (bytes_cons (w 3) (bytes_cons (w 4) (bytes_cons (w 5) (bytes_cons (w 6) bytes_none))))) in
    rw (← full_one e) (basic_fits rule h t b, o))))

unicast_frame_lem : (d : List ℕ) (r : Heard) → Bytes d → byte 0 d ≡ 0x04 → shape_of (byte 2 d) ≡ Unicast → read_unicast d ≡ full r
    → InRange (fields_of r) × (d ≡ layout (fields_of r))
unfolding read_unicast
unicast_frame_lem d r bs lead h =
    demand_elim (eqb (byte 3 d) 6) 4
    (λ six. demand_elim (eqb (length d) 11) 5
    (λ l. demand_elim (eqb (sum_of d) 0) 6
    (λ z e.
    let w = bs.byte in
    let port : ℕ = pair (byte 4 d) (byte 5 d) in
    let two : Bytes (byte 4 d ∷ byte 5 d ∷ []) = bytes_cons (w 4) (bytes_cons (w 5) bytes_none) in
    let p : port < 65536 = number_below 2 (byte 4 d ∷ byte 5 d ∷ []) refl two in
    let back : big_bytes 2 port ≡ byte 4 d ∷ byte 5 d ∷ [] = bytes_of_number 2 (byte 4 d ∷ byte 5 d ∷ []) refl two in
    let hi : byte 4 d ≡ port / 256 % 256 = cc in
    let lo : byte 5 d ≡ port % 256 = cc in
    let o : d ≡ layout (unicast (byte 1 d) port (byte 6 d) (byte 7 d) (byte 8 d) (byte 9 d)) =
    opened 10 0 d (eqb-true (length d) 11 l) (eqb-true (sum_of d) 0 z)
    ∙ ap sealed (same_head lead (unicast_only (byte 2 d) h) (eqb-true (byte 3 d) 6 six) hi lo) in
    let b : Bytes (byte 1 d ∷ byte 6 d ∷ byte 7 d ∷ byte 8 d ∷ byte 9 d ∷ []) =
    bytes_cons (w 1) (bytes_cons (w 6) (bytes_cons (w 7) (bytes_cons (w 8) (bytes_cons (w 9) bytes_none)))) in
    rw (← full_one e) (unicast_fits p b, o))))
  where
    same_head : {a s b c h l i j k m a' b' c' h' l' : ℕ} → a ≡ a' → b ≡ b' → c ≡ c' → h ≡ h' → l ≡ l'
        → ◌≡◌ {A = List ℕ} (a ∷ s ∷ b ∷ c ∷ h ∷ l ∷ i ∷ j ∷ k ∷ m ∷ []) (a' ∷ s ∷ b' ∷ c' ∷ h' ∷ l' ∷ i ∷ j ∷ k ∷ m ∷ [])
    same_head p q r s t = cc

colour_frame_lem : (d : List ℕ) (r : Heard) → Bytes d → byte 0 d ≡ 0x04 → shape_of (byte 2 d) ≡ Colour → read_coloured d ≡ full r
    → InRange (fields_of r) × (d ≡ layout (fields_of r))
unfolding read_coloured
colour_frame_lem d r bs lead h =
    demand_elim (is_type (byte 5 d)) 4
    (λ t. demand_elim (eqb (length d) (colour_bytes (byte 5 d))) 5
    (λ m. demand_elim (eqb (sum_of d) 0) 6
    (λ z. demand_elim (is_lighting (byte 3 d)) 7
    (λ g e.
    let w = bs.byte in
    let k : ℕ = byte 5 d in
    let x : Hue = hue_in k (colour_data d) in
    let l : length d ≡ colour_bytes k = eqb-true (length d) (colour_bytes k) m in
    let n : length d - 1 - 6 ≡ data_bytes k = omega (arith, l) in
    let p : length (colour_data d) ≡ data_bytes k = omega (arith, part_length d (omega (arith, l)), l) in
    let part : Bytes (colour_data d) = bytes_take (length d - 1 - 6) (drop 6 d) (bytes_drop 6 d bs) in
    let o : d ≡ layout (colour (byte 1 d) (byte 3 d) (byte 4 d) x) =
    opened 6 (data_bytes k) d l (eqb-true (sum_of d) 0 z)
    ∙ ap sealed (same_head lead (colour_only (byte 2 d) h) (ap (λ (m : ℕ). take m (drop 6 d)) (sym n) ∙ sym (data_back k (colour_data d) part p))) in
    let c : is_colour x ≡ true = rw (t, hue_fits k (colour_data d) part p) in
    let b : Bytes (byte 1 d ∷ byte 3 d ∷ byte 4 d ∷ []) = bytes_cons (w 1) (bytes_cons (w 3) (bytes_cons (w 4) bytes_none)) in
    rw (← full_one e) (colour_fits g c b, o)))))
  where
    same_head : {a s b i j k a' b' : ℕ} {p q : List ℕ} → a ≡ a' → b ≡ b' → p ≡ q
        → ◌≡◌ {A = List ℕ} (a ∷ s ∷ b ∷ i ∷ j ∷ k ∷ p) (a' ∷ s ∷ b' ∷ i ∷ j ∷ k ∷ q)
    same_head e f g = cc

-- an accepted datagram is a frame: the fields that it gives are in range, and it is their layout
accepted_frame : (d : List ℕ) (r : Heard) → Bytes d → read_request d ≡ full r → InRange (fields_of r) × (d ≡ layout (fields_of r))
unfolding read_request
accepted_frame d r bs =
    demand_elim (leb 8 (length d)) 1
    (λ l. demand_elim (eqb (byte 0 d) 0x04) 2
    (λ h. go (eqb-true (byte 0 d) 0x04 h) (shape_of (byte 2 d)) refl))
  where
    go : byte 0 d ≡ 0x04 → (x : Shape) → shape_of (byte 2 d) ≡ x → read_shape x d ≡ full r
        → InRange (fields_of r) × (d ≡ layout (fields_of r))
    go lead Unknown h e = clash (cc)
    go lead (Basic rule) h e = basic_frame_lem d rule r bs lead h e
    go lead Unicast h e = unicast_frame_lem d r bs lead h e
    go lead Colour h e = colour_frame_lem d r bs lead h e

-- each frame is a run of bytes
colour_head : (s a l : ℕ) (h : Hue) → is_colour h ≡ true → Bytes (s ∷ a ∷ l ∷ []) → Bytes (head (colour s a l h))
colour_head s a l (hue k vs) c b =
    let u = type_bytes k (both_left (is_type k) (fitting (widths_of k) vs) c) in
    bytes_cons (omega arith)
    (bytes_cons (bytes_head b)
    (bytes_cons (omega arith)
    (bytes_cons (bytes_head (bytes_tail b))
    (bytes_cons (bytes_head (bytes_tail (bytes_tail b)))
    (bytes_cons u.0 (laid_bytes (widths_of k) vs))))))

head_bytes : {f : Fields} → InRange f → Bytes (head f)
head_bytes (basic_fits rule h t b) = bytes_cons (omega arith) b
head_bytes (unicast_fits {s} {port} {i} {j} {k} {l} p b) =
    bytes_cons (omega arith)
    (bytes_cons (bytes_head b)
    (bytes_cons (omega arith)
    (bytes_cons (omega arith)
    (bytes_cons {b = port / 256 % 256} (omega arith)
    (bytes_cons {b = port % 256} (omega arith) (bytes_tail b))))))
head_bytes (colour_fits {s} {a} {l} {h} g c b) = colour_head s a l h c b

frame_bytes : (f : Fields) → InRange f → Bytes (layout f)
frame_bytes f i = sealed_bytes (head_bytes i)

-- whose exclusive-or is 0
frame_sum : (f : Fields) → InRange f → sum_of (layout f) ≡ 0
frame_sum f i = sealed_sum (head f)

-- DEMAND 2 FOR REQUESTS, ONCE OVER THE PROFILE
pub requests : (p : Profile) → Demand2 InRange layout read_request (λ r d. fields_of r) (Writable p) (frame_of p)
requests p =
    demand2 InRange layout read_request (λ r d. fields_of r) (Writable p) (frame_of p)
    accepted_frame frame_bytes frame_sum (frame_accepted p) (λ f w. w.0) (may_written p) (read_written p)

-- so what is written is read, and is not marked
pub written_unmarked : (p : Profile) (f : Fields) (x : List ℕ) → frame_of p f ≡ full x → (r : Heard) × (read_request x ≡ full r) × (mark_of r ≡ false)
written_unmarked p f x e =
    let w = (requests p).read_written f x e in
    let r = w.reading in
    let c : command_in f ≡ command_of r = ap command_in (sym w.fields) ∙ heard_fields x r w.accepted in
    (r, w.accepted, retired_read x r w.accepted ∙ ap is_retired (sym c) ∙ written_current p f x e)

-- what is in range has a known command, so it may be written unless that is retired or the profile does not allow it
in_range_known : (f : Fields) → InRange f → is_known (command_in f) ≡ true
in_range_known (basic s k a b c d) (basic_fits rule h t z) = basic_known k rule h
in_range_known (unicast s port i j k l) (unicast_fits n z) = unicast_known
in_range_known (colour s a l h) (colour_fits g c z) = colour_known

pub current_writable : (p : Profile) (f : Fields) → InRange f → is_retired (command_in f) ≡ false → allows p (command_in f) ≡ true → Writable p f
current_writable p f i m u = (i, current_may_write (command_in f) (in_range_known f i) m, u)

-- so a relay, which chooses no profile, hands on what it accepts, unless it is marked: the writer's frame for what was read is the datagram
-- itself, or 17
pub relay_frame : (d : List ℕ) (r : Heard) → Bytes d → read_request d ≡ full r → writer_of Open (fields_of r) ≡ handed_on (full r) d
relay_frame d r bs e = go (mark_of r) refl
  where
    asked : (f : Fields) → frame_of Open f ≡ full d → writer_of Open f ≡ full d
    asked (basic s k a b c d) q = q
    asked (unicast s port i j k l) q = demand_elim (ltb port 65536) 7 (λ t q. q) q
    asked (colour s a l h) q = demand_elim (is_type (type_of h)) 4 (λ t. demand_elim (is_colour h) 7 (λ c q. q)) q

    mark : mark_of r ≡ is_retired (command_in (fields_of r))
    mark = retired_read d r e ∙ ap is_retired (sym (heard_fields d r e))

    go : (m : Bool) → mark_of r ≡ m → writer_of Open (fields_of r) ≡ demand (not m) 17 (full d)
    go true u = retired_refused Open (fields_of r) (sym mark ∙ u)
    go false u =
        asked (fields_of r)
        ((requests Open).written_read d r bs e (current_writable Open (fields_of r) (accepted_frame d r bs e).0 (sym mark ∙ u) refl))

pub relays : (d : List ℕ) (r : Heard) {out p : List ℕ} {w : Result ℕ Refusal} → Bytes d → read_request d ≡ full r
    → Written (writer_of Open (fields_of r)) out w p → Written (handed_on (read_request d) d) out w p
relays d r bs e w = rw e (rw (relay_frame d r bs e) at w)

-- in writing no colour is refused for its type or its values: what is handed over is a colour
pub colour_handed : (p : Profile) (s : ℕ) (t : LineTarget) (l : ℕ) (c : Colour·enum.Colour) → Sized c
    → frame_of p (colour s t.0 l (said_colour c)) ≡ colour_frame p s t l (said_colour c)
colour_handed p s t l c h = go (said_colour c) (said_colour_lem c h)
  where
    go : (x : Hue) → is_colour x ≡ true → frame_of p (colour s t.0 l x) ≡ colour_frame p s t l x
    go (hue k vs) e = rw (both_left (is_type k) (fitting (widths_of k) vs) e, both_right (is_type k) (fitting (widths_of k) vs) e)
