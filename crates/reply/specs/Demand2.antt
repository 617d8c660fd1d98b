-- Demand 2 for replies (crate frame says what it is).
use Rattle.std.specs.Prelude.{ℕ, ◌+◌, ◌≤◌, ◌≡◌, true, List, [], ◌∷◌, length, take, drop, leb, eqb}
use Rattle.std.proofs.Common.{ap, length-take, length-drop, leb-true, eqb-true, eq-eqb, le-leb, arith}
use Rattle.std.proofs.Math.Seq.{take-append_seam}
use Rattle.refusal.specs.Answer.{Answer, full, demand_elim, full_one}
use Rattle.lead.specs.Lead.{is_reply, reply_data, reply_least}
use Rattle.sum.specs.Bytes.{Bytes, bytes_cons, bytes_head, bytes_tail, bytes_take, bytes_drop}
use Rattle.sum.specs.Sum.{sum_of}
use Rattle.frame.specs.Demand2 as family
use Rattle.frame.specs.Frame.{byte, sealed_sum, sealed_length, sealed_bytes, opened}
use Rattle.reply.specs.Layout.{Fields, reply, InRange, reply_fits, data_at, head, layout}
use Rattle.reply.specs.Reading.{read_reply, fields_of}
use Rattle.reply.specs.Writing.{reply_frame}
use Rattle.reply.specs.declared.Reply.{Reply}

abbrev pub frame_of : Fields → Answer (List ℕ)
frame_of (reply t s l) = reply_frame t s l

-- the datagram is accepted, and gives these fields
abbrev Reads : List ℕ → Fields → Type 0
Reads d f = family.Reads InRange layout read_reply fields_of InRange frame_of d f

-- each layout reads as its fields
reply_reads : (t s : ℕ) (l : List ℕ) → is_reply t ≡ true → length l ≤ reply_data → Reads (layout (reply t s l)) (reply t s l)
unfolding read_reply
reply_reads t s l h m =
    let x : List ℕ = layout (reply t s l) in
    let n : length x ≡ length l + reply_least = omega (arith, sealed_length (head (reply t s l))) in
    let four : reply_least ≤ length x = omega arith in
    let z : sum_of x ≡ 0 = sealed_sum (head (reply t s l)) in
    record {
      reading = record { kind = t; sequence = s; n = length l };
      accepted =
          rw (le-leb reply_least (length x) four, h, le-leb (length l) reply_data m, eq-eqb (length x) (length l + reply_least) n, eq-eqb (sum_of x) 0 z);
      fields = ap (reply t s) (take-append_seam l (sum_of (head (reply t s l)) ∷ []));
    }

-- what was written is read as its fields
pub read_written : (f : Fields) (x : List ℕ) → frame_of f ≡ full x → Reads x f
unfolding reply_frame
read_written (reply t s l) x =
    demand_elim (is_reply t) 2
    (λ h. demand_elim (leb (length l) reply_data) 4
    (λ m e. let o : layout (reply t s l) ≡ x = full_one e in rw o at (reply_reads t s l h (leb-true (length l) reply_data m))))

-- in range: the frame is the layout
pub in_range_written : (f : Fields) → InRange f → frame_of f ≡ full (layout f)
unfolding reply_frame
in_range_written (reply t s l) (reply_fits h m b) = rw (h, le-leb (length l) reply_data m)

-- an accepted datagram is a frame: the fields that it gives are in range, and it is their layout
pub accepted_frame : (d : List ℕ) (r : Reply) → Bytes d → read_reply d ≡ full r → InRange (fields_of r d) × (d ≡ layout (fields_of r d))
unfolding read_reply
accepted_frame d r bs =
    demand_elim (leb reply_least (length d)) 1
    (λ h₁. demand_elim (is_reply (byte 0 d)) 2
    (λ h₂. demand_elim (leb (byte 2 d) reply_data) 4
    (λ h₄. demand_elim (eqb (length d) (byte 2 d + reply_least)) 5
    (λ h₅. demand_elim (eqb (sum_of d) 0) 6
    (λ h₆ e.
    let n : ℕ = byte 2 d in
    let long = eqb-true (length d) (n + reply_least) h₅ in
    let l : List ℕ = take n (drop data_at d) in
    let size : length l ≡ n = simp (length-take, length-drop) (omega arith) in
    let o : d ≡ layout (reply (byte 0 d) (byte 1 d) l) = rw size (opened data_at n d (omega arith) (eqb-true (sum_of d) 0 h₆)) in
    let m = leb-true n reply_data h₄ in
    let part : Bytes l = bytes_take n (drop data_at d) (bytes_drop data_at d bs) in
    let b : Bytes (byte 0 d ∷ byte 1 d ∷ l) = bytes_cons (bs.byte 0) (bytes_cons (bs.byte 1) part) in
    let short : length l ≤ reply_data = omega arith in
    rw (← full_one e) (reply_fits h₂ short b, o))))))

-- each frame is a run of bytes
pub frame_bytes : (f : Fields) → InRange f → Bytes (layout f)
frame_bytes (reply t s l) (reply_fits h m b) =
    let rest = bytes_tail b in
    sealed_bytes (bytes_cons (bytes_head b) (bytes_cons (bytes_head rest) (bytes_cons {b = length l} (omega arith) (bytes_tail rest))))

-- whose exclusive-or is 0, and is accepted
pub frame_sum : (f : Fields) → InRange f → sum_of (layout f) ≡ 0
frame_sum f i = sealed_sum (head f)

pub frame_accepted : (f : Fields) → InRange f → Reads (layout f) f
frame_accepted (reply t s l) (reply_fits h m b) = reply_reads t s l h m
