-- Retired commands on the request line. Document 02, W-210: "Request lines and stored byte runs that contain it still read as before, marked as
-- retired"; "New requests with 0A are no longer written."
use Rattle.std.specs.Prelude.{ℕ, zero, suc, ◌≡◌, refl, Bool, false, List, [], ◌∷◌, ◌++◌, length, take, drop}
use Rattle.std.proofs.Common.{ap, ◌∙◌, arith}
use Rattle.refusal.specs.Test.{clash}
use Rattle.refusal.specs.Answer.{Answer, refused, full}
use Rattle.frame.specs.Frame.{byte}
use Rattle.command.specs.Command.{is_retired}
use Rattle.profile.specs.declared.Profile.{Profile}
use Rattle.request.specs.Layout.{Fields}
use Rattle.request.specs.Said.{Heard, mark_of}
use Rattle.request.specs.Reading.{read_request}
use Rattle.request.specs.Writing.{frame_of}
use Rattle.request.proofs.Retired.{heard_command, retired_read}
use Rattle.request.proofs.Demand2.{written_unmarked}
use Rattle.stream.specs.Stream.{Settling, More, Settled}
use Rattle.stream.specs.Stream.{Item, reading, item_number, item_size, whole, items_up_to, items}
use Rattle.stream.specs.Items.{behind, items_none}
use Rattle.extent.specs.declared.Line.TheVariants.{Request}
use Rattle.line.specs.Rule.{settle}
use Rattle.line.specs.Laws.{lawful}
use Rattle.line.specs.Finds.{frame_items}
use Rattle.agreement.specs.Verdict.{accepted, verdict, datagram}
use Rattle.agreement.specs.Agreement.{item_0, accepted_is_0}

-- the bytes are a request that is accepted, and it is marked or not
pub record Reads (l : List ℕ) (mark : Bool) : Type 0 where
  pub heard : Heard
  pub full_reading : read_request l ≡ full heard
  pub marked : mark_of heard ≡ mark

-- one that is accepted is marked exactly if its third byte, its command, is retired
pub accepted_marked : (l : List ℕ) → datagram Request l ≡ accepted → Reads l (is_retired (byte 2 l))
accepted_marked l = go (read_request l) refl
  where
    go : (x : Answer Heard) → read_request l ≡ x → verdict x ≡ accepted → Reads l (is_retired (byte 2 l))
    go (refused k) e v = clash (cc)
    go (full r) e v = record { heard = r; full_reading = e; marked = retired_read l r e ∙ ap is_retired (heard_command l r e) }

-- so an item 0 with 0A reads as marked, and every other as not
pub item_marked : (s : List ℕ) (m d : ℕ) → settle Request s ≡ Settled 0 m d → Reads (take m s) (is_retired (byte 2 (take m s)))
item_marked s m d e = accepted_marked (take m s) (item_0 Request s m d e)

-- of the items of any stream too
abbrev pub AllMarked : List Item → Type 0
AllMarked [] = Unit {0}
AllMarked (reading k l ∷ is) = (k ≡ 0 → Reads l (is_retired (byte 2 l))) × AllMarked is

pub items_marked : (s : List ℕ) → AllMarked (items (settle Request) s)
unfolding items_up_to
items_marked s = go (length s) s
  where
    one : (s : List ℕ) (x : Settling) → settle Request s ≡ x → item_number x ≡ 0
        → Reads (take (item_size x) s) (is_retired (byte 2 (take (item_size x) s)))
    one s More e z = absurd (omega arith)
    one s (Settled k m d) e z = item_marked s m d (rw z at e)

    go : (n : ℕ) (s : List ℕ) → AllMarked (items_up_to (settle Request) n s)
    go zero s = tt
    go (suc n) [] = tt
    go (suc n) (b ∷ s) = (one (b ∷ s) (settle Request (b ∷ s)) refl, go n (drop (item_size (settle Request (b ∷ s))) (b ∷ s)))

-- ANY RUN OF WRITERS' CALLS, each under a profile of its own: the frames of those that are not refused, in their order
pub data Call : Type 0 where
  call : Profile → Fields → Call

abbrev pub put : Answer (List ℕ) → List (List ℕ) → List (List ℕ)
put (refused k) xs = xs
put (full x) xs = x ∷ xs

abbrev pub frames : List Call → List (List ℕ)
frames [] = []
frames (call p f ∷ cs) = put (frame_of p f) (frames cs)

-- what such a run puts on a line reads as these frames, one after the other, and none of them is marked
abbrev pub wholes : List (List ℕ) → List Item
wholes [] = []
wholes (x ∷ xs) = reading 0 x ∷ wholes xs

abbrev pub NoneMarked : List (List ℕ) → Type 0
NoneMarked [] = Unit {0}
NoneMarked (x ∷ xs) = Reads x false × NoneMarked xs

pub unmarked : (p : Profile) (f : Fields) (x : List ℕ) → frame_of p f ≡ full x → Reads x false
unmarked p f x e =
    let w = written_unmarked p f x e in
    record { heard = w.0; full_reading = w.1; marked = w.2 }

pub run_unmarked : (cs : List Call) → NoneMarked (frames cs)
run_unmarked [] = tt
run_unmarked (call p f ∷ cs) = go (frame_of p f) refl (run_unmarked cs)
  where
    go : (v : Answer (List ℕ)) → frame_of p f ≡ v → NoneMarked (frames cs) → NoneMarked (put v (frames cs))
    go (refused k) e later = later
    go (full x) e later = (unmarked p f x e, later)

-- a frame that was written is the first item of what it is put in front of
pub written_first : (p : Profile) (f : Fields) (x s : List ℕ) → frame_of p f ≡ full x
    → items (settle Request) (x ++ s) ≡ reading 0 x ∷ items (settle Request) s
written_first p f x s e =
    let a : datagram Request x ≡ accepted = ap verdict (unmarked p f x e).full_reading in
    frame_items Request x s (accepted_is_0 Request x a)

pub run_items : (cs : List Call) → items (settle Request) (whole (frames cs)) ≡ wholes (frames cs)
unfolding whole
run_items [] = items_none (settle Request) (lawful Request)
run_items (call p f ∷ cs) = go (frame_of p f) refl (run_items cs)
  where
    go : (v : Answer (List ℕ)) → frame_of p f ≡ v → items (settle Request) (whole (frames cs)) ≡ wholes (frames cs)
        → items (settle Request) (whole (put v (frames cs))) ≡ wholes (put v (frames cs))
    go (refused k) e later = later
    go (full x) e later = written_first p f x (whole (frames cs)) e ∙ behind later
