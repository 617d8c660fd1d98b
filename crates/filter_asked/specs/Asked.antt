-- Document 02, W-212: what a plan's request asks of the filters. "Refusals: 1 to 7 for a plan's request, 18 for a command other than 31 or 33, ..
-- in that order."
use Rattle.std.specs.Prelude.{ℕ, Bool, ◌&&◌, List, eqb, leb}
use Rattle.refusal.specs.Test.{pick}
use Rattle.refusal.specs.Answer.{Answer, refused, full}
use Rattle.maps.specs.Bit.{bit}
use Rattle.meaning.specs.Meaning.{Sense, bare, group, emit, timers, group_scene, channel, filter, query, gear, inhibit, scene, level, lit, target}
use Rattle.request.specs.Said.{Inside, arguments, address, coloured, Heard, heard}
use Rattle.request.specs.Reading.{read_request}
use Rattle.filter_asked.specs.declared.Filter.{Filter}
use Rattle.filter_asked.specs.declared.Change.{Change}
use Rattle.filter_asked.specs.declared.Change.TheVariants.{Add as add, Clear as clear}

-- what a command asks whose arguments mean this: 31 adds, 33 clears an address, an instance, a mask; what means no filter is no 31 and no 33
abbrev pub change_by : ℕ → Filter → Answer Change
change_by c f = pick (eqb c 0x31) (full (add f)) (pick (eqb c 0x33) (full (clear f)) (refused 18))

abbrev pub change_in : ℕ → Sense → Answer Change
change_in c (filter a i m) = change_by c (record { address = a; instance = i; mask = m })
change_in c bare = refused 18
change_in c (group g) = refused 18
change_in c (emit b) = refused 18
change_in c (timers v i) = refused 18
change_in c (group_scene g s) = refused 18
change_in c (channel u n) = refused 18
change_in c (query a s i) = refused 18
change_in c (gear a) = refused 18
change_in c (inhibit t s) = refused 18
change_in c (scene t s) = refused 18
change_in c (level t l) = refused 18
change_in c (lit t) = refused 18
change_in c (target t) = refused 18

abbrev pub change_inside : ℕ → Inside → Answer Change
change_inside c (arguments i j k l m) = change_in c m
change_inside c (address port i j k l) = refused 18
change_inside c (coloured a t l h) = refused 18

abbrev pub change_heard : Answer Heard → Answer Change
change_heard (refused k) = refused k
change_heard (full (heard s c r x)) = change_inside c x

-- of a plan's request, by its bytes
unfoldable pub asked : List ℕ → Answer Change
asked d = change_heard (read_request d)

-- whether a mask names a type: "its type's bit stands"; "types above 15 never are" hidden
abbrev pub is_named : ℕ → ℕ → Bool
is_named mask t = leb t 15 && eqb (bit mask t) 1
