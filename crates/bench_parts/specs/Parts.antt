-- docs/BENCH.md, "Parts of datagrams", and of "Lines" the call `quiet`: the answers, case by case.
use Rattle.std.specs.Prelude.{ℕ, Bool, true, false, List, [], ◌∷◌, Option, Some, None, Result, Ok, Err}
use Rattle.refusal.specs.Refusals.{number_of}
use Rattle.refusal.specs.declared.Refusal.{Refusal}
use Rattle.text.specs.Text.{decimal_of, hex_of}
use Rattle.words.specs.Words.{text}
use Rattle.command.specs.declared.Rule.{Rule}
use Rattle.command.specs.declared.Rule.TheVariants.{Group, Emit, Bare, Timers, GroupScene, Channel, Filter, Query, Gear, Inhibit, Scene, Level, Lights, Address, Status}
use Rattle.command.specs.declared.Shape.{Shape}
use Rattle.command.specs.declared.Shape.TheVariants.{Unknown, Basic, Unicast, Colour}
use Rattle.table.specs.declared.Entry.{Entry}
use Rattle.target.specs.declared.LineTarget.{LineTarget}
use Rattle.target.specs.declared.Device.{Device}
use Rattle.bench_parts.specs.declared.Fit.{Fit}
use Rattle.bench_parts.specs.declared.Fit.TheVariants.{Fits, Outside, NoRule}
use Rattle.bench_parts.specs.declared.Part.{Part}
use Rattle.bench_parts.specs.declared.Part.TheVariants.{Sum, Known, Shape as a·Shape, Fit as a·Fit, Inside, Quiet, Entry as a·Entry, Name as a·Name, OnLine as a·OnLine, Device as a·Device, Number as a·Number}

-- "`known` or `unknown`"
abbrev pub known_texts : Bool → List (List ℕ)
known_texts true = text "0 known" ∷ []
known_texts false = text "0 unknown" ∷ []

-- "`unknown`, `unicast`, `colour`, or `basic` and the rule"
abbrev pub rule_texts : Rule → List (List ℕ)
rule_texts Group = text "0 basic group" ∷ []
rule_texts Emit = text "0 basic emit" ∷ []
rule_texts Bare = text "0 basic bare" ∷ []
rule_texts Timers = text "0 basic timers" ∷ []
rule_texts GroupScene = text "0 basic group_scene" ∷ []
rule_texts Channel = text "0 basic channel" ∷ []
rule_texts Filter = text "0 basic filter" ∷ []
rule_texts Query = text "0 basic query" ∷ []
rule_texts Gear = text "0 basic gear" ∷ []
rule_texts Inhibit = text "0 basic inhibit" ∷ []
rule_texts Scene = text "0 basic scene" ∷ []
rule_texts Level = text "0 basic level" ∷ []
rule_texts Lights = text "0 basic lights" ∷ []
rule_texts Address = text "0 basic address" ∷ []
rule_texts Status = text "0 basic status" ∷ []

abbrev pub shape_texts : Shape → List (List ℕ)
shape_texts Unknown = text "0 unknown" ∷ []
shape_texts (Basic k) = rule_texts k
shape_texts Unicast = text "0 unicast" ∷ []
shape_texts Colour = text "0 colour" ∷ []

-- "`fits` or `outside` where the command has the basic shape, else `no rule`"
abbrev pub fit_texts : Fit → List (List ℕ)
fit_texts Fits = text "0 fits" ∷ []
fit_texts Outside = text "0 outside" ∷ []
fit_texts NoRule = text "0 no rule" ∷ []

-- "`inside` or `outside`", and "`yes` .. else `no`"
abbrev pub inside_texts : Bool → List (List ℕ)
inside_texts true = text "0 inside" ∷ []
inside_texts false = text "0 outside" ∷ []

abbrev pub quiet_texts : Bool → List (List ℕ)
quiet_texts true = text "0 yes" ∷ []
quiet_texts false = text "0 no" ∷ []

-- "`shape N rule N`"
abbrev pub entry_texts : Entry → List (List ℕ)
entry_texts e = text "0 shape " ∷ decimal_of e.shape ∷ text " rule " ∷ decimal_of e.rule ∷ []

-- "`name N` or `none`"
abbrev pub name_texts : Option ℕ → List (List ℕ)
name_texts (Some n) = text "0 name " ∷ decimal_of n ∷ []
name_texts None = text "0 none" ∷ []

-- "`target N`"
abbrev pub line_texts : Result LineTarget Refusal → List (List ℕ)
line_texts (Ok t) = text "0 target " ∷ decimal_of t.0 ∷ []
line_texts (Err k) = decimal_of (number_of k) ∷ []

-- "`device N`"
abbrev pub device_texts : Result Device Refusal → List (List ℕ)
device_texts (Ok d) = text "0 device " ∷ decimal_of d.0 ∷ []
device_texts (Err k) = decimal_of (number_of k) ∷ []

-- "`number N`"
abbrev pub number_texts : Result ℕ Refusal → List (List ℕ)
number_texts (Ok n) = text "0 number " ∷ decimal_of n ∷ []
number_texts (Err k) = decimal_of (number_of k) ∷ []

-- the answer of a call: `sum NN`, or as above
abbrev pub part_texts : Part → List (List ℕ)
part_texts (Sum b) = text "0 sum " ∷ hex_of b ∷ []
part_texts (Known k) = known_texts k
part_texts (a·Shape s) = shape_texts s
part_texts (a·Fit f) = fit_texts f
part_texts (Inside b) = inside_texts b
part_texts (Quiet b) = quiet_texts b
part_texts (a·Entry e) = entry_texts e
part_texts (a·Name n) = name_texts n
part_texts (a·OnLine t) = line_texts t
part_texts (a·Device d) = device_texts d
part_texts (a·Number n) = number_texts n
