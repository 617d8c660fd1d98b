-- The answers by value, as the code has them, and that they say the texts of docs/BENCH.md.
use Rattle.std.specs.Prelude.{ℕ, ◌≡◌, refl, List, [], ◌∷◌, ◌++◌, Option, Some, None, Result, Ok, Err}
use Rattle.std.proofs.Common.{sym, ap, ◌∙◌, append-nil}
use Rattle.refusal.specs.Refusals.{number_of}
use Rattle.refusal.specs.declared.Refusal.{Refusal}
use Rattle.words.specs.Words.{before, word_in, text}
use Rattle.text.specs.Text.{decimal_of}
use Rattle.bench_say.specs.Pieces.{pieces_texts, piece_texts, three, byted}
use Rattle.bench_say.specs.declared.Pieces.{Pieces}
use Rattle.reply.specs.declared.Reply.{Reply}
use Rattle.reply.specs.declared.Code.{Code}
use Rattle.event_type.specs.declared.EventType.{EventType}
use Rattle.event_type.specs.declared.EventType.TheVariants.{ButtonPress, ButtonHold, AbsoluteInput, LevelChange, GroupLevelChange, SceneChange, IsOccupied, IsUnoccupied, ColourChanged, ProfileChanged, Other}
use Rattle.event.specs.declared.Event.{Event}
use Rattle.bench_datagrams.specs.declared.Read.{Read}
use Rattle.bench_datagrams.specs.declared.Read.TheVariants.{Reply as a·Reply, Code as a·Code, Event as an·Event, Kind as a·Kind}
use Rattle.bench_datagrams.specs.Datagrams.{reply_texts, named_texts, code_texts, kind_texts, instance_texts, event_texts, wrote_texts, read_texts}

abbrev pub names : List ℕ
names = text " type 0 BUTTON_PRESS, type 1 BUTTON_HOLD, type 2 ABSOLUTE_INPUT, type 3 LEVEL_CHANGE, type 4 GROUP_LEVEL_CHANGE, type 5 SCENE_CHANGE, type 6 IS_OCCUPIED, type 7 IS_UNOCCUPIED, type 8 COLOUR_CHANGED, type 9 PROFILE_CHANGED, type , OTHER,0 type , sequence , n ,0 code , name ,0 absent, target , instance , instance absent,0 count ,0"

abbrev pub reply_pieces : Result Reply Refusal → Pieces
reply_pieces (Ok a) = byted 0xC3 0 0xD2 a.sequence 0xE2 a.n a.kind
reply_pieces (Err k) = three 4 (number_of k) 0 0 0 0

abbrev pub named_pieces : ℕ → Option ℕ → Pieces
named_pieces c (Some n) = byted 0xF3 0 0x102 n 0 0 c
named_pieces c None = byted 0xF3 0 0 0 0 0 c

abbrev pub code_pieces : Result (Option Code) Refusal → Pieces
code_pieces (Ok (Some c)) = named_pieces c.code c.name
code_pieces (Ok None) = three 0x111 0 0 0 0 0
code_pieces (Err k) = three 4 (number_of k) 0 0 0 0

abbrev pub kind_pieces : ℕ → ℕ → EventType → Pieces
kind_pieces a x ButtonPress = three a x 0x01 0 0 0
kind_pieces a x ButtonHold = three a x 0x11 0 0 0
kind_pieces a x AbsoluteInput = three a x 0x21 0 0 0
kind_pieces a x LevelChange = three a x 0x31 0 0 0
kind_pieces a x GroupLevelChange = three a x 0x41 0 0 0
kind_pieces a x SceneChange = three a x 0x51 0 0 0
kind_pieces a x IsOccupied = three a x 0x61 0 0 0
kind_pieces a x IsUnoccupied = three a x 0x71 0 0 0
kind_pieces a x ColourChanged = three a x 0x81 0 0 0
kind_pieces a x ProfileChanged = three a x 0x91 0 0 0
kind_pieces a x (Other n) = three a x 0xA2 n 0xB1 0

abbrev pub instance_pieces : ℕ → Option ℕ → Pieces
instance_pieces n (Some k) = three 0xE2 n 0x132 k 0 0
instance_pieces n None = three 0xE2 n 0x141 0 0 0

abbrev pub refused_pieces : Result Event Refusal → Pieces
refused_pieces (Ok v) = three 0 0 0 0 0 0
refused_pieces (Err k) = three 4 (number_of k) 0 0 0 0

abbrev pub count_pieces : Result ℕ Refusal → Pieces
count_pieces (Ok n) = three 0x152 n 0 0 0 0
count_pieces (Err k) = three 4 (number_of k) 0 0 0 0

abbrev pub read_pieces : Read → Pieces
read_pieces (a·Reply d) = reply_pieces d
read_pieces (a·Code c) = code_pieces c
read_pieces (an·Event d) = refused_pieces d
read_pieces (a·Kind t) = kind_pieces 0x161 0 t

-- an event that is accepted; of one that is refused nothing
abbrev pub event_rest : Result Event Refusal → List (List ℕ)
event_rest (Ok v) = event_texts (Ok v)
event_rest (Err k) = []

reply_said : (d : Result Reply Refusal) → pieces_texts names (reply_pieces d) ≡ reply_texts d
unfolding before word_in
reply_said (Ok a) = refl
reply_said (Err k) = refl

named_said : (c : ℕ) (n : Option ℕ) → pieces_texts names (named_pieces c n) ≡ named_texts c n
unfolding before word_in
named_said c (Some n) = refl
named_said c None = refl

code_said : (c : Result (Option Code) Refusal) → pieces_texts names (code_pieces c) ≡ code_texts c
unfolding before word_in
code_said (Ok (Some c)) = named_said c.code c.name
code_said (Ok None) = refl
code_said (Err k) = refl

kind_said : (a x : ℕ) (t : EventType) → pieces_texts names (kind_pieces a x t) ≡ piece_texts names a x 0 ++ kind_texts t
unfolding before word_in
kind_said a x ButtonPress = refl
kind_said a x ButtonHold = refl
kind_said a x AbsoluteInput = refl
kind_said a x LevelChange = refl
kind_said a x GroupLevelChange = refl
kind_said a x SceneChange = refl
kind_said a x IsOccupied = refl
kind_said a x IsUnoccupied = refl
kind_said a x ColourChanged = refl
kind_said a x ProfileChanged = refl
kind_said a x (Other n) = refl

instance_said : (n : ℕ) (i : Option ℕ) → pieces_texts names (instance_pieces n i) ≡ text " n " ∷ decimal_of n ∷ instance_texts i
unfolding before word_in
instance_said n (Some k) = refl
instance_said n None = refl

count_said : (w : Result ℕ Refusal) → pieces_texts names (count_pieces w) ≡ wrote_texts w
unfolding before word_in
count_said (Ok n) = refl
count_said (Err k) = refl

target_said : (n : ℕ) → piece_texts names 0x122 n 0 ≡ text " target " ∷ decimal_of n ∷ []
unfolding before word_in
target_said n = refl

zero_said : piece_texts names 0x161 0 0 ≡ text "0" ∷ []
unfolding before word_in
zero_said = refl

-- what functions answer that have these by value
pub kind_of_lem : (n : ℕ) (t : EventType) {p : Pieces} → p ≡ kind_pieces 0x122 n t → pieces_texts names p ≡ text " target " ∷ decimal_of n ∷ kind_texts t
kind_of_lem n t {p} e = ap (pieces_texts names) e ∙ kind_said 0x122 n t ∙ ap (λ (y : List (List ℕ)). y ++ kind_texts t) (target_said n)

pub instance_of_lem : (n : ℕ) (i : Option ℕ) {p : Pieces} → p ≡ instance_pieces n i → pieces_texts names p ≡ text " n " ∷ decimal_of n ∷ instance_texts i
instance_of_lem n i {p} e = ap (pieces_texts names) e ∙ instance_said n i

pub count_of : (w : Result ℕ Refusal) {p : Pieces} → p ≡ count_pieces w → pieces_texts names p ≡ wrote_texts w
count_of w {p} e = ap (pieces_texts names) e ∙ count_said w

-- what stands behind an answer's pieces: an event
abbrev pub rest_of : Read → List (List ℕ)
rest_of (a·Reply d) = []
rest_of (a·Code c) = []
rest_of (an·Event d) = event_rest d
rest_of (a·Kind t) = []

event_said : (d : Result Event Refusal) → pieces_texts names (refused_pieces d) ++ event_rest d ≡ event_texts d
event_said (Ok v) = refl
event_said (Err k) = refl

read_said : (x : Read) → pieces_texts names (read_pieces x) ++ rest_of x ≡ read_texts x
read_said (a·Reply d) = append-nil (pieces_texts names (reply_pieces d)) ∙ reply_said d
read_said (a·Code c) = append-nil (pieces_texts names (code_pieces c)) ∙ code_said c
read_said (an·Event d) = event_said d
read_said (a·Kind t) =
    append-nil (pieces_texts names (kind_pieces 0x161 0 t)) ∙ kind_said 0x161 0 t ∙ ap (λ (y : List (List ℕ)). y ++ kind_texts t) zero_said

pub read_of : (x : Read) {p : Pieces} → p ≡ read_pieces x → pieces_texts names p ++ rest_of x ≡ read_texts x
read_of x {p} e = ap (λ (y : Pieces). pieces_texts names y ++ rest_of x) e ∙ read_said x

pub plain_of : (x : Read) {p : Pieces} → p ≡ read_pieces x → rest_of x ≡ [] → pieces_texts names p ≡ read_texts x
plain_of x {p} e r = sym (append-nil (pieces_texts names p)) ∙ ap (λ (y : List (List ℕ)). pieces_texts names p ++ y) (sym r) ∙ read_of x e
