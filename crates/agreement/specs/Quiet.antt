-- The check of a finished run, beside what is written and what is accepted. Document 02, W-203: "yes exactly if, read as a request line and closed,
-- it gives only items 0 and each is inside the profile."
use Rattle.std.specs.Prelude.{ℕ, ◌≡◌, refl, true, List, [], ◌∷◌, ◌++◌, eqb}
use Rattle.std.proofs.Common.{sym, ap, ◌∙◌, eqb-true}
use Rattle.refusal.specs.Test.{clash, both_left, both_right}
use Rattle.refusal.specs.Answer.{Answer, refused, full}
use Rattle.frame.specs.Frame.{byte}
use Rattle.profile.specs.declared.Profile.{Profile}
use Rattle.profile.specs.declared.Profile.TheVariants.{Quiet}
use Rattle.profile.specs.Profile.{is_inside}
use Rattle.request.specs.Layout.{Fields}
use Rattle.request.specs.Said.{Heard, command_of}
use Rattle.request.specs.Reading.{read_request}
use Rattle.request.specs.Writing.{frame_of}
use Rattle.request.proofs.Retired.{heard_command}
use Rattle.request.proofs.Profiled.{written_inside}
use Rattle.stream.specs.Stream.{Item, reading, whole, items, bytes_of}
use Rattle.stream.specs.Items.{items_none, items_bytes}
use Rattle.extent.specs.declared.Line.TheVariants.{Request}
use Rattle.line.specs.Rule.{settle}
use Rattle.line.specs.Laws.{lawful}
use Rattle.line.specs.Finds.{frame_items}
use Rattle.quiet_run.specs.Quiet.{is_quiet, all_quiet, quiet_run}
use Rattle.agreement.specs.Verdict.{accepted, verdict, datagram}
use Rattle.agreement.specs.Agreement.{AllAgree, items_agree, accepted_is_0}
use Rattle.agreement.specs.Retired.{Call, call, put, frames, written_first}

-- PUTTING A FRAME THAT WAS WRITTEN UNDER THE QUIET PROFILE IN FRONT OF A RUN CHANGES NOTHING
pub quiet_writes : (f : Fields) (x s : List ℕ) → frame_of Quiet f ≡ full x → quiet_run (x ++ s) ≡ quiet_run s
unfolding all_quiet
quiet_writes f x s e = ap all_quiet (written_first Quiet f x s e) ∙ rw (written_inside f x e)

-- so any run of the quiet writers' calls passes
abbrev pub AllUnder : Profile → List Call → Type 0
AllUnder p [] = Unit {0}
AllUnder p (call q f ∷ cs) = (q ≡ p) × AllUnder p cs

pub empty_quiet : quiet_run [] ≡ true
unfolding all_quiet
empty_quiet = rw (items_none (settle Request) (lawful Request))

pub run_quiet : (cs : List Call) → AllUnder Quiet cs → quiet_run (whole (frames cs)) ≡ true
unfolding whole
run_quiet [] h = empty_quiet
run_quiet (call p f ∷ cs) h = go (frame_of p f) refl (run_quiet cs h.1)
  where
    go : (v : Answer (List ℕ)) → frame_of p f ≡ v → quiet_run (whole (frames cs)) ≡ true → quiet_run (whole (put v (frames cs))) ≡ true
    go (refused k) e later = later
    go (full x) e later = quiet_writes f x (whole (frames cs)) (rw h.0 at e) ∙ later

-- A RUN PASSES EXACTLY IF IT IS A SEQUENCE OF ACCEPTED FRAMES THAT ARE INSIDE: of datagrams that the reader of requests accepts, each with a
-- command inside the profile
pub record Inside (x : List ℕ) : Type 0 where
  pub heard : Heard
  pub full_reading : read_request x ≡ full heard
  pub inside : is_inside (command_of heard) ≡ true

abbrev pub AllInside : List (List ℕ) → Type 0
AllInside [] = Unit {0}
AllInside (x ∷ xs) = Inside x × AllInside xs

pub inside_passes : (xs : List (List ℕ)) → AllInside xs → quiet_run (whole xs) ≡ true
unfolding whole all_quiet
inside_passes [] h = empty_quiet
inside_passes (x ∷ xs) h =
    let w = h.0 in
    let a : datagram Request x ≡ accepted = ap verdict w.full_reading in
    let i : is_inside (byte 2 x) ≡ true = rw (heard_command x w.heard w.full_reading) at w.inside in
    ap all_quiet (frame_items Request x (whole xs) (accepted_is_0 Request x a)) ∙ rw (i, inside_passes xs h.1)

-- the bytes of each item
abbrev pieces : List Item → List (List ℕ)
pieces [] = []
pieces (reading k l ∷ is) = l ∷ pieces is

pieces_whole : (is : List Item) → whole (pieces is) ≡ bytes_of is
unfolding whole bytes_of
pieces_whole [] = refl
pieces_whole (reading k l ∷ is) = ap (λ (t : List ℕ). l ++ t) (pieces_whole is)

accepted_inside : (l : List ℕ) → datagram Request l ≡ accepted → is_inside (byte 2 l) ≡ true → Inside l
accepted_inside l v i = go (read_request l) refl v
  where
    go : (x : Answer Heard) → read_request l ≡ x → verdict x ≡ accepted → Inside l
    go (refused k) e v = clash (cc)
    go (full r) e v = record { heard = r; full_reading = e; inside = rw (heard_command l r e) i }

pieces_inside : (is : List Item) → AllAgree Request is → all_quiet is ≡ true → AllInside (pieces is)
unfolding all_quiet
pieces_inside [] a q = tt
pieces_inside (reading k l ∷ is) a q =
    let t : is_quiet (reading k l) ≡ true = both_left (is_quiet (reading k l)) (all_quiet is) q in
    let z : k ≡ 0 = eqb-true k 0 (both_left (eqb k 0) (is_inside (byte 2 l)) t) in
    (accepted_inside l (a.0.right z) (both_right (eqb k 0) (is_inside (byte 2 l)) t), pieces_inside is a.1 (both_right (is_quiet (reading k l)) (all_quiet is) q))

pub passes_inside : (s : List ℕ) → quiet_run s ≡ true → (xs : List (List ℕ)) × (s ≡ whole xs) × AllInside xs
passes_inside s q =
    let is : List Item = items (settle Request) s in
    (pieces is, sym (pieces_whole is ∙ items_bytes (settle Request) (lawful Request) s), pieces_inside is (items_agree Request s) q)
