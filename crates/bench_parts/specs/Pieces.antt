-- The answers by value, as the code has them, and that they say the texts of docs/BENCH.md.
use Rattle.std.specs.Prelude.{ℕ, ◌≡◌, refl, Bool, true, false, List, Option, Some, None, Result, Ok, Err}
use Rattle.std.proofs.Common.{ap, ◌∙◌}
use Rattle.refusal.specs.Refusals.{number_of}
use Rattle.refusal.specs.declared.Refusal.{Refusal}
use Rattle.words.specs.Words.{before, word_in, text}
use Rattle.bench_say.specs.Pieces.{pieces_texts, three, byted}
use Rattle.bench_say.specs.declared.Pieces.{Pieces}
use Rattle.command.specs.declared.Rule.{Rule}
use Rattle.command.specs.declared.Rule.TheVariants.{Group, Emit, Bare, Timers, GroupScene, Channel, Filter, Query, Gear, Inhibit, Scene, Level, Lights, Address, Status}
use Rattle.command.specs.declared.Shape.{Shape}
use Rattle.command.specs.declared.Shape.TheVariants.{Unknown, Basic, Unicast, Colour}
use Rattle.table.specs.declared.Entry.{Entry}
use Rattle.target.specs.declared.LineTarget.{LineTarget}
use Rattle.target.specs.declared.Device.{Device}
use Rattle.bench_parts.specs.declared.Fit.{Fit}
use Rattle.bench_parts.specs.declared.Fit.TheVariants.{Fits, Outside, NoRule}
use Rattle.bench_parts.specs.declared.Part.{Part}
use Rattle.bench_parts.specs.declared.Part.TheVariants.{Sum, Known, Shape as a·Shape, Fit as a·Fit, Inside, Quiet, Entry as a·Entry, Name as a·Name, OnLine as a·OnLine, Device as a·Device, Number as a·Number}
use Rattle.bench_parts.specs.Parts.{known_texts, rule_texts, shape_texts, fit_texts, inside_texts, quiet_texts, entry_texts, name_texts, line_texts, device_texts, number_texts, part_texts}

abbrev pub names : List ℕ
names = text "0 sum ,0 known,0 unknown,0 unicast,0 basic group,0 basic emit,0 basic bare,0 basic timers,0 basic group_scene,0 basic channel,0 basic filter,0 basic query,0 basic gear,0 basic inhibit,0 basic scene,0 basic level,0 basic lights,0 basic address,0 basic status,0 fits,0 outside,0 no rule,0 name ,0 none,0 target ,0 device ,0 number ,0 colour,0 inside,0 yes,0 no,0 shape , rule "

abbrev pub known_kind : Bool → ℕ
known_kind true = 0x11
known_kind false = 0x21

abbrev pub rule_kind : Rule → ℕ
rule_kind Group = 0x41
rule_kind Emit = 0x51
rule_kind Bare = 0x61
rule_kind Timers = 0x71
rule_kind GroupScene = 0x81
rule_kind Channel = 0x91
rule_kind Filter = 0xA1
rule_kind Query = 0xB1
rule_kind Gear = 0xC1
rule_kind Inhibit = 0xD1
rule_kind Scene = 0xE1
rule_kind Level = 0xF1
rule_kind Lights = 0x101
rule_kind Address = 0x111
rule_kind Status = 0x121

abbrev pub shape_kind : Shape → ℕ
shape_kind Unknown = 0x21
shape_kind (Basic k) = rule_kind k
shape_kind Unicast = 0x31
shape_kind Colour = 0x1B1

abbrev pub fit_kind : Fit → ℕ
fit_kind Fits = 0x131
fit_kind Outside = 0x141
fit_kind NoRule = 0x151

abbrev pub inside_kind : Bool → ℕ
inside_kind true = 0x1C1
inside_kind false = 0x141

abbrev pub quiet_kind : Bool → ℕ
quiet_kind true = 0x1D1
quiet_kind false = 0x1E1

abbrev pub entry_pieces : Entry → Pieces
entry_pieces e = three 0x1F2 e.shape 0x202 e.rule 0 0

abbrev pub name_pieces : Option ℕ → Pieces
name_pieces (Some n) = three 0x162 n 0 0 0 0
name_pieces None = three 0x171 0 0 0 0 0

-- a number behind the name of a kind, or a refusal
abbrev pub numbered_pieces : ℕ → Result ℕ Refusal → Pieces
numbered_pieces k (Ok n) = three k n 0 0 0 0
numbered_pieces k (Err r) = three 4 (number_of r) 0 0 0 0

abbrev pub line_pieces : Result LineTarget Refusal → Pieces
line_pieces (Ok t) = three 0x182 t.0 0 0 0 0
line_pieces (Err k) = three 4 (number_of k) 0 0 0 0

abbrev pub device_pieces : Result Device Refusal → Pieces
device_pieces (Ok d) = three 0x192 d.0 0 0 0 0
device_pieces (Err k) = three 4 (number_of k) 0 0 0 0

abbrev pub part_pieces : Part → Pieces
part_pieces (Sum b) = byted 0x03 0 0 0 0 0 b
part_pieces (Known k) = three (known_kind k) 0 0 0 0 0
part_pieces (a·Shape s) = three (shape_kind s) 0 0 0 0 0
part_pieces (a·Fit f) = three (fit_kind f) 0 0 0 0 0
part_pieces (Inside b) = three (inside_kind b) 0 0 0 0 0
part_pieces (Quiet b) = three (quiet_kind b) 0 0 0 0 0
part_pieces (a·Entry e) = entry_pieces e
part_pieces (a·Name n) = name_pieces n
part_pieces (a·OnLine t) = line_pieces t
part_pieces (a·Device d) = device_pieces d
part_pieces (a·Number n) = numbered_pieces 0x1A2 n

known_said : (k : Bool) → pieces_texts names (three (known_kind k) 0 0 0 0 0) ≡ known_texts k
unfolding before word_in
known_said true = refl
known_said false = refl

rule_said : (k : Rule) → pieces_texts names (three (rule_kind k) 0 0 0 0 0) ≡ rule_texts k
unfolding before word_in
rule_said Group = refl
rule_said Emit = refl
rule_said Bare = refl
rule_said Timers = refl
rule_said GroupScene = refl
rule_said Channel = refl
rule_said Filter = refl
rule_said Query = refl
rule_said Gear = refl
rule_said Inhibit = refl
rule_said Scene = refl
rule_said Level = refl
rule_said Lights = refl
rule_said Address = refl
rule_said Status = refl

shape_said : (s : Shape) → pieces_texts names (three (shape_kind s) 0 0 0 0 0) ≡ shape_texts s
unfolding before word_in
shape_said Unknown = refl
shape_said (Basic k) = rule_said k
shape_said Unicast = refl
shape_said Colour = refl

fit_said : (f : Fit) → pieces_texts names (three (fit_kind f) 0 0 0 0 0) ≡ fit_texts f
unfolding before word_in
fit_said Fits = refl
fit_said Outside = refl
fit_said NoRule = refl

inside_said : (b : Bool) → pieces_texts names (three (inside_kind b) 0 0 0 0 0) ≡ inside_texts b
unfolding before word_in
inside_said true = refl
inside_said false = refl

quiet_said : (b : Bool) → pieces_texts names (three (quiet_kind b) 0 0 0 0 0) ≡ quiet_texts b
unfolding before word_in
quiet_said true = refl
quiet_said false = refl

entry_said : (e : Entry) → pieces_texts names (entry_pieces e) ≡ entry_texts e
unfolding before word_in
entry_said e = refl

name_said : (n : Option ℕ) → pieces_texts names (name_pieces n) ≡ name_texts n
unfolding before word_in
name_said (Some n) = refl
name_said None = refl

line_said : (t : Result LineTarget Refusal) → pieces_texts names (line_pieces t) ≡ line_texts t
unfolding before word_in
line_said (Ok t) = refl
line_said (Err k) = refl

device_said : (d : Result Device Refusal) → pieces_texts names (device_pieces d) ≡ device_texts d
unfolding before word_in
device_said (Ok d) = refl
device_said (Err k) = refl

number_said : (n : Result ℕ Refusal) → pieces_texts names (numbered_pieces 0x1A2 n) ≡ number_texts n
unfolding before word_in
number_said (Ok n) = refl
number_said (Err k) = refl

pub part_said : (p : Part) → pieces_texts names (part_pieces p) ≡ part_texts p
unfolding before word_in
part_said (Sum b) = refl
part_said (Known k) = known_said k
part_said (a·Shape s) = shape_said s
part_said (a·Fit f) = fit_said f
part_said (Inside b) = inside_said b
part_said (Quiet b) = quiet_said b
part_said (a·Entry e) = entry_said e
part_said (a·Name n) = name_said n
part_said (a·OnLine t) = line_said t
part_said (a·Device d) = device_said d
part_said (a·Number n) = number_said n

-- what a function answers that has these by value
pub part_of : (p : Part) {x : Pieces} → x ≡ part_pieces p → pieces_texts names x ≡ part_texts p
part_of p {x} e = ap (pieces_texts names) e ∙ part_said p
