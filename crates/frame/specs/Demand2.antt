-- Demand 2, for any family of frames: "A datagram is accepted exactly when it is a frame by the published layouts, the exclusive-or
-- rule and document 01's ranges. Reading a written frame gives its fields back; writing a frame that was read gives its bytes back,
-- where the buffer is long enough."
use Rattle.std.specs.Prelude.{ℕ, Result, Ok, ◌≤◌, ◌≡◌, List, ◌++◌, length, drop}
use Rattle.std.proofs.Common.{sym, ap, ◌∙◌}
use Rattle.refusal.specs.declared.Refusal.{Refusal}
use Rattle.refusal.specs.Answer.{Answer, full, full_one}
use Rattle.sum.specs.Bytes.{Bytes}
use Rattle.sum.specs.Sum.{sum_of}
use Rattle.frame.specs.Written.{Written, written_whole}

-- A family: its fields, which of them are in document 01's ranges, and the layout of their frame with its sum; what reading a datagram
-- answers, and the fields that a reading gives; which fields may be written, and the frame that the writer is to write for some
-- fields, or its refusal.
module _ {Fields Reading : Type 0} (InRange : Fields → Type 0) (layout : Fields → List ℕ) (read : List ℕ → Answer Reading)
    (fields_of : Reading → List ℕ → Fields) (MayWrite : Fields → Type 0) (frame_of : Fields → Answer (List ℕ)) where
  -- the datagram is accepted, and gives these fields
  pub record Reads (d : List ℕ) (f : Fields) : Type 0 where
    pub reading : Reading
    pub accepted : read d ≡ full reading
    pub fields : fields_of reading d ≡ f

  pub record Demand2 : Type 0 where
    -- THE READING HALF. What is accepted is a frame: its fields are in range, and it is their layout
    pub accepted_frame : (d : List ℕ) (r : Reading) → Bytes d → read d ≡ full r → InRange (fields_of r d) × (d ≡ layout (fields_of r d))
    -- and each frame is a run of bytes whose exclusive-or is 0, and is accepted
    pub frame_bytes : (f : Fields) → InRange f → Bytes (layout f)
    pub frame_sum : (f : Fields) → InRange f → sum_of (layout f) ≡ 0
    pub frame_accepted : (f : Fields) → InRange f → Reads (layout f) f
    -- a datagram is the frame of no other fields
    pub fields_one : (f g : Fields) → InRange f → InRange g → layout f ≡ layout g → f ≡ g
    -- THE WRITING HALF. What may be written is in range; the writer writes its layout, and what it writes is read as its fields
    pub may_in_range : (f : Fields) → MayWrite f → InRange f
    pub may_written : (f : Fields) → MayWrite f → frame_of f ≡ full (layout f)
    pub read_written : (f : Fields) (x : List ℕ) → frame_of f ≡ full x → Reads x f
    -- what was read and may be written is written again, byte for byte,
    pub written_read : (d : List ℕ) (r : Reading) → Bytes d → read d ≡ full r → MayWrite (fields_of r d) → frame_of (fields_of r d) ≡ full d
    -- "where the buffer is long enough": the answer is its length, and what lies behind it stays
    pub written_again : (d : List ℕ) (r : Reading) → Bytes d → read d ≡ full r → MayWrite (fields_of r d)
        → (out out' : List ℕ) (w : Result ℕ Refusal) → length d ≤ length out → Written (frame_of (fields_of r d)) out w out'
        → (w ≡ Ok (length d)) × (out' ≡ d ++ drop (length d) out)

  -- what a family owes for it: each half by itself
  module _ (accepted_frame : (d : List ℕ) (r : Reading) → Bytes d → read d ≡ full r → InRange (fields_of r d) × (d ≡ layout (fields_of r d)))
      (frame_bytes : (f : Fields) → InRange f → Bytes (layout f)) (frame_sum : (f : Fields) → InRange f → sum_of (layout f) ≡ 0)
      (frame_accepted : (f : Fields) → InRange f → Reads (layout f) f)
      (may_in_range : (f : Fields) → MayWrite f → InRange f) (may_written : (f : Fields) → MayWrite f → frame_of f ≡ full (layout f))
      (read_written : (f : Fields) (x : List ℕ) → frame_of f ≡ full x → Reads x f) where
    one : (f g : Fields) → InRange f → InRange g → layout f ≡ layout g → f ≡ g
    one f g i j e =
        let a = frame_accepted f i in
        let b : Reads (layout f) g = rw e (frame_accepted g j) in
        sym a.fields ∙ ap (λ (r : Reading). fields_of r (layout f)) (full_one (sym a.accepted ∙ b.accepted)) ∙ b.fields

    back : (d : List ℕ) (r : Reading) → Bytes d → read d ≡ full r → MayWrite (fields_of r d) → frame_of (fields_of r d) ≡ full d
    back d r bs e m = may_written (fields_of r d) m ∙ ap full (sym (accepted_frame d r bs e).1)

    pub demand2 : Demand2
    demand2 =
        record {
          accepted_frame = accepted_frame;
          frame_bytes = frame_bytes;
          frame_sum = frame_sum;
          frame_accepted = frame_accepted;
          fields_one = one;
          may_in_range = may_in_range;
          may_written = may_written;
          read_written = read_written;
          written_read = back;
          written_again = λ d r bs e m out out' w l p. written_whole (rw (back d r bs e m) at p) l;
        }
