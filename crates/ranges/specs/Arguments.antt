-- Document 01, "Requests and their argument ranges", as document 02 mends it (W-201): the table of ranges, one line for each rule, over the
-- argument places A, B, C, D.
use Rattle.std.specs.Prelude.{ℕ, Bool, ◌&&◌, ◌||◌, leb, eqb}
use Rattle.std.specs.Int.Bits.{bit_or}
use Rattle.target.specs.Target.{is_gear, is_group, is_gear_or_group, is_lighting, is_status_broadcast, is_device}
use Rattle.command.specs.declared.Rule.{Rule}
use Rattle.command.specs.declared.Rule.TheVariants.{Group, Emit, Bare, Timers, GroupScene, Channel, Filter, Query, Gear, Inhibit, Scene, Level, Lights, Address, Status}

-- "Every argument place not named is 0."
abbrev pub unnamed : ℕ → Bool
unnamed x = eqb x 0

-- W-201: "A1 takes D 0–15; 1B keeps 0–12". DALI has sixteen scenes; the source lets those up to 12 have a label.
abbrev pub last_dali_scene : ℕ
last_dali_scene = 15

abbrev pub last_labelled_scene : ℕ
last_labelled_scene = 12

-- "instance 0–31", "B start 0–63"
abbrev pub last_instance : ℕ
last_instance = 31

abbrev pub last_start : ℕ
last_start = 63

abbrev pub is_dali_scene : ℕ → Bool
is_dali_scene x = leb x last_dali_scene

abbrev pub is_labelled_scene : ℕ → Bool
is_labelled_scene x = leb x last_labelled_scene

abbrev pub is_instance : ℕ → Bool
is_instance x = leb x last_instance

-- "A has no bits outside C3"
abbrev pub emit_bits : ℕ
emit_bits = 0xC3

abbrev pub is_emit : ℕ → Bool
is_emit x = eqb (bit_or x emit_bits) emit_bits

-- "B = 255", "D is 255", "A .. or 255": no instance, or no address, is meant
abbrev pub is_any : ℕ → Bool
is_any x = eqb x 255

-- 31 and 33: "A 0–63 with B = 255, or A 64–127 with B 0–31"
abbrev pub is_filtered : ℕ → ℕ → Bool
is_filtered a b = (is_gear a && is_any b) || (is_device a && is_instance b)

-- 32: "A 0–127 or 255"; "D is 255 where A is 0–63 or 255, and 0–31 or 255 where A is 64–127"
abbrev pub is_queried : ℕ → ℕ → Bool
is_queried a d = ((is_gear a || is_any a) && is_any d) || (is_device a && (is_instance d || is_any d))

-- the arguments A, B, C, D are within the ranges of a rule
unfoldable pub fits : Rule → ℕ → ℕ → ℕ → ℕ → Bool
fits Group a b c d = is_group a && unnamed b && unnamed c && unnamed d
fits Emit a b c d = is_emit a && unnamed b && unnamed c && unnamed d
fits Bare a b c d = unnamed a && unnamed b && unnamed c && unnamed d
fits Timers a b c d = is_device a && unnamed b && unnamed c && is_instance d
fits GroupScene a b c d = is_group a && is_labelled_scene b && unnamed c && unnamed d
fits Channel a b c d = unnamed a
fits Filter a b c d = is_filtered a b
fits Query a b c d = leb b last_start && unnamed c && is_queried a d
fits Gear a b c d = is_gear a && unnamed b && unnamed c && unnamed d
fits Inhibit a b c d = is_lighting a && unnamed b
fits Scene a b c d = is_lighting a && unnamed b && unnamed c && is_dali_scene d
fits Level a b c d = is_lighting a && unnamed b && unnamed c
fits Lights a b c d = is_lighting a && unnamed b && unnamed c && unnamed d
fits Address a b c d = is_gear_or_group a && unnamed b && unnamed c && unnamed d
fits Status a b c d = (is_gear_or_group a || is_status_broadcast a) && unnamed b && unnamed c && unnamed d
