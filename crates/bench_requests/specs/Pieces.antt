-- The answers of this family by value, as the code has them, and that they say the texts of docs/BENCH.md.
use Rattle.std.specs.Prelude.{ℕ, ◌≡◌, refl, Bool, true, false, List, [], ◌∷◌, ◌++◌, Result, Ok, Err}
use Rattle.std.proofs.Common.{sym, ap, ap₂, ◌∙◌, append-nil}
use Rattle.refusal.specs.Refusals.{number_of}
use Rattle.refusal.specs.declared.Refusal.{Refusal}
use Rattle.text.specs.Text.{decimal_of}
use Rattle.words.specs.Words.{before, word_in, text}
use Rattle.bench_say.specs.Pieces.{pieces_texts, piece_texts, three, byted}
use Rattle.bench_say.specs.declared.Pieces.{Pieces}
use Rattle.target.specs.declared.Target.{Target}
use Rattle.target.specs.declared.Target.TheVariants.{Gear as lit·Gear, Group as lit·Group, Broadcast, Nothing as lit·Nothing}
use Rattle.colour.specs.declared.Colour.{Colour}
use Rattle.colour.specs.declared.Colour.TheVariants.{Xy, Tc, Rgbwaf}
use Rattle.meaning.specs.declared.Meaning.{Meaning}
use Rattle.meaning.specs.declared.Meaning.TheVariants.{Nothing, Group, Emit, Timers, GroupScene, Channel, Filter, Query, Gear, Inhibit, Scene, Level, Lit, Target as asked}
use Rattle.request.specs.declared.Request.{Request}
use Rattle.bench_requests.specs.declared.Asked.{Asked}
use Rattle.bench_requests.specs.declared.Asked.TheVariants.{Reading as a·Reading, Target as a·Target}
use Rattle.bench_requests.specs.Requests.{lights_texts, meaning_texts, colour_texts, contents_texts, mark_texts, reading_texts, asked_texts}

abbrev pub names : List ℕ
names = text " nothing, group , emit , device , instance , scene , universe , channel , address , mask , start , gear , broadcast, no target, seconds , level ,0 sequence , command , port , ,0, target , xy , tc , rgbwaf , retired"

abbrev pub lights_pieces : ℕ → Target → ℕ → ℕ → Pieces
lights_pieces a (lit·Gear n) c z = three a 0 0xB2 n c z
lights_pieces a (lit·Group g) c z = three a 0 0x12 g.0 c z
lights_pieces a Broadcast c z = three a 0 0xC1 0 c z
lights_pieces a lit·Nothing c z = three a 0 0xD1 0 c z

abbrev pub meaning_pieces : Meaning → Pieces
meaning_pieces Nothing = three 0x01 0 0 0 0 0
meaning_pieces (Group g) = three 0x12 g.0 0 0 0 0
meaning_pieces (Emit a) = three 0x22 a 0 0 0 0
meaning_pieces (Timers d i) = three 0x32 d.0 0x42 i 0 0
meaning_pieces (GroupScene g s) = three 0x12 g.0 0x52 s 0 0
meaning_pieces (Channel u n) = three 0x62 u 0x72 n 0 0
meaning_pieces (Filter a i m) = three 0x82 a 0x42 i 0x92 m
meaning_pieces (Query a s i) = three 0x82 a 0xA2 s 0x42 i
meaning_pieces (Gear a) = three 0xB2 a 0 0 0 0
meaning_pieces (Inhibit l n) = lights_pieces 0 l 0xE2 n
meaning_pieces (Scene l s) = lights_pieces 0 l 0x52 s
meaning_pieces (Level l n) = lights_pieces 0 l 0xF2 n
meaning_pieces (Lit l) = lights_pieces 0 l 0 0
meaning_pieces (asked l) = lights_pieces 0 l 0 0

-- the first three channels of a colour, and those behind them
abbrev pub first_pieces : Colour → Pieces
first_pieces (Xy x y) = three 0x162 x 0x132 y 0 0
first_pieces (Tc t) = three 0x172 t 0 0 0 0
first_pieces (Rgbwaf red green blue white amber free) = three 0x182 red 0x132 green 0x132 blue

abbrev pub last_pieces : Colour → Pieces
last_pieces (Xy x y) = three 0 0 0 0 0 0
last_pieces (Tc t) = three 0 0 0 0 0 0
last_pieces (Rgbwaf red green blue white amber free) = three 0x132 white 0x132 amber 0x132 free

abbrev pub mark_pieces : Bool → Pieces
mark_pieces true = three 0x191 0 0 0 0 0
mark_pieces false = three 0 0 0 0 0 0

abbrev pub head_pieces : Result Request Refusal → Pieces
head_pieces (Ok q) = byted 0x102 q.sequence 0x113 0 0 0 q.command
head_pieces (Err k) = three 4 (number_of k) 0 0 0 0

abbrev pub asked_pieces : Asked → Pieces
asked_pieces (a·Reading r) = head_pieces r
asked_pieces (a·Target l) = lights_pieces 0x141 l 0 0

-- what stands behind an answer's pieces: the contents of a request that is accepted, and its mark
abbrev pub reading_rest : Result Request Refusal → List (List ℕ)
reading_rest (Ok q) = contents_texts q.contents ++ mark_texts q.retired
reading_rest (Err k) = []

abbrev pub rest_of : Asked → List (List ℕ)
rest_of (a·Reading r) = reading_rest r
rest_of (a·Target l) = []

lights_alone : (l : Target) → pieces_texts names (lights_pieces 0 l 0 0) ≡ lights_texts l
unfolding before word_in
lights_alone (lit·Gear n) = refl
lights_alone (lit·Group g) = refl
lights_alone Broadcast = refl
lights_alone lit·Nothing = refl

lights_then : (l : Target) (c z : ℕ) → pieces_texts names (lights_pieces 0 l c z) ≡ lights_texts l ++ piece_texts names c z 0
unfolding before word_in
lights_then (lit·Gear n) c z = refl
lights_then (lit·Group g) c z = refl
lights_then Broadcast c z = refl
lights_then lit·Nothing c z = refl

lights_behind : (l : Target) → pieces_texts names (lights_pieces 0x141 l 0 0) ≡ text "0" ∷ lights_texts l
unfolding before word_in
lights_behind (lit·Gear n) = refl
lights_behind (lit·Group g) = refl
lights_behind Broadcast = refl
lights_behind lit·Nothing = refl

meaning_said : (m : Meaning) → pieces_texts names (meaning_pieces m) ≡ meaning_texts m
unfolding before word_in
meaning_said Nothing = refl
meaning_said (Group g) = refl
meaning_said (Emit a) = refl
meaning_said (Timers d i) = refl
meaning_said (GroupScene g s) = refl
meaning_said (Channel u n) = refl
meaning_said (Filter a i m) = refl
meaning_said (Query a s i) = refl
meaning_said (Gear a) = refl
meaning_said (Inhibit l n) = lights_then l 0xE2 n
meaning_said (Scene l s) = lights_then l 0x52 s
meaning_said (Level l n) = lights_then l 0xF2 n
meaning_said (Lit l) = lights_alone l
meaning_said (asked l) = lights_alone l

colour_said : (c : Colour) → pieces_texts names (first_pieces c) ++ pieces_texts names (last_pieces c) ≡ colour_texts c
unfolding before word_in
colour_said (Xy x y) = refl
colour_said (Tc t) = refl
colour_said (Rgbwaf red green blue white amber free) = refl

mark_said : (m : Bool) → pieces_texts names (mark_pieces m) ≡ mark_texts m
unfolding before word_in
mark_said true = refl
mark_said false = refl

reading_said : (r : Result Request Refusal) → pieces_texts names (head_pieces r) ++ reading_rest r ≡ reading_texts r
unfolding before word_in
reading_said (Ok q) = refl
reading_said (Err k) = refl

asked_said : (a : Asked) → pieces_texts names (asked_pieces a) ++ rest_of a ≡ asked_texts a
asked_said (a·Reading r) = reading_said r
asked_said (a·Target l) = append-nil (pieces_texts names (lights_pieces 0x141 l 0 0)) ∙ lights_behind l

-- what functions answer that have these by value
pub meaning_of_lem : (m : Meaning) {p : Pieces} → p ≡ meaning_pieces m → pieces_texts names p ≡ meaning_texts m
meaning_of_lem m {p} e = ap (pieces_texts names) e ∙ meaning_said m

pub level_of : (l : Target) (n : ℕ) {p : Pieces} → p ≡ lights_pieces 0 l 0xF2 n
    → pieces_texts names p ≡ lights_texts l ++ (text " level " ∷ decimal_of n ∷ [])
unfolding before word_in
level_of l n {p} e = ap (pieces_texts names) e ∙ lights_then l 0xF2 n

pub colour_of : (c : Colour) {p q : Pieces} → p ≡ first_pieces c → q ≡ last_pieces c → pieces_texts names p ++ pieces_texts names q ≡ colour_texts c
colour_of c {p} {q} e f = ap₂ (λ (x y : Pieces). pieces_texts names x ++ pieces_texts names y) e f ∙ colour_said c

pub mark_of : (m : Bool) {p : Pieces} → p ≡ mark_pieces m → pieces_texts names p ≡ mark_texts m
mark_of m {p} e = ap (pieces_texts names) e ∙ mark_said m

pub asked_of : (a : Asked) {p : Pieces} → p ≡ asked_pieces a → pieces_texts names p ++ rest_of a ≡ asked_texts a
asked_of a {p} e = ap (λ (y : Pieces). pieces_texts names y ++ rest_of a) e ∙ asked_said a

pub plain_of : (a : Asked) {p : Pieces} → p ≡ asked_pieces a → rest_of a ≡ [] → pieces_texts names p ≡ asked_texts a
plain_of a {p} e r = sym (append-nil (pieces_texts names p)) ∙ ap (λ (y : List (List ℕ)). pieces_texts names p ++ y) (sym r) ∙ asked_of a e
