-- The meaning of arguments leaves no choice, and the typed ways into them say what they are given.
use Rattle.std.specs.Prelude.{ℕ, ◌<◌, ◌≡◌, refl}
use Rattle.std.proofs.Common.{sym, ap, ◌∙◌}
use Rattle.order.specs.Numbers.{number_of_bytes}
use Rattle.target.specs.declared.LineTarget.{LineTarget}
use Rattle.target.specs.declared.Group as group·struct
use Rattle.target.specs.declared.Device.{Device}
use Rattle.target.specs.Target.{lights_of, status_of}
use Rattle.target.specs.Laws.{target_of, target_back}
use Rattle.command.specs.declared.Rule.{Rule}
use Rattle.command.specs.declared.Rule.TheVariants.{Group, Timers, GroupScene, Inhibit, Scene, Level, Lights, Address, Status}
use Rattle.meaning.specs.declared.Arguments.{Arguments}
use Rattle.meaning.specs.declared.Meaning.{Meaning}
use Rattle.meaning.specs.declared.Meaning.TheVariants.{Nothing, Lit, Target, Group as of·Group, Emit as of·Emit, Timers as of·Timers, GroupScene as of·GroupScene, Channel as of·Channel, Filter as of·Filter, Query as of·Query, Gear as of·Gear, Inhibit as of·Inhibit, Scene as of·Scene, Level as of·Level}
use Rattle.meaning.specs.Meaning.{Sense, bare, group, emit, timers, group_scene, channel, filter, query, gear, inhibit, scene, level, lit, target, meaning_of, said_meaning}
use Rattle.meaning.specs.Ways.{group_bytes, timers_bytes, group_scene_bytes, inhibit_bytes, last_bytes, target_bytes}

-- the case that says a sense
abbrev pub meaning_by : Sense → Meaning
meaning_by bare = Nothing
meaning_by (group g) = of·Group (record { 0 = g })
meaning_by (emit a) = of·Emit a
meaning_by (timers v i) = of·Timers (record { 0 = v }) i
meaning_by (group_scene g s) = of·GroupScene (record { 0 = g }) s
meaning_by (channel u n) = of·Channel u n
meaning_by (filter a i m) = of·Filter a i m
meaning_by (query a s i) = of·Query a s i
meaning_by (gear a) = of·Gear a
meaning_by (inhibit t n) = of·Inhibit (target_of t) n
meaning_by (scene t s) = of·Scene (target_of t) s
meaning_by (level t l) = of·Level (target_of t) l
meaning_by (lit t) = Lit (target_of t)
meaning_by (target t) = Target (target_of t)

pub meaning_back : (x : Meaning) → meaning_by (said_meaning x) ≡ x
meaning_back Nothing = refl
meaning_back (of·Group g) = refl
meaning_back (of·Emit a) = refl
meaning_back (of·Timers v i) = refl
meaning_back (of·GroupScene g s) = refl
meaning_back (of·Channel u n) = refl
meaning_back (of·Filter a i m) = refl
meaning_back (of·Query a s i) = refl
meaning_back (of·Gear a) = refl
meaning_back (of·Inhibit t n) = rw (target_back t)
meaning_back (of·Scene t s) = rw (target_back t)
meaning_back (of·Level t l) = rw (target_back t)
meaning_back (Lit t) = rw (target_back t)
meaning_back (Target t) = rw (target_back t)

pub meaning_one : (x y : Meaning) → said_meaning x ≡ said_meaning y → x ≡ y
meaning_one x y e = sym (meaning_back x) ∙ ap meaning_by e ∙ meaning_back y

-- what four bytes mean
abbrev pub meant : Rule → Arguments → Sense
meant rule x = meaning_of rule x.a x.b x.c x.d

-- what a typed way puts is what is read back
pub group_meant : (g : group·struct.Group) → meant Group (group_bytes g) ≡ group g.0
unfolding meaning_of
group_meant g = refl

pub timers_meant : (v : Device) (i : ℕ) → meant Timers (timers_bytes v i) ≡ timers v.0 i
unfolding meaning_of
timers_meant v i = refl

pub group_scene_meant : (g : group·struct.Group) (s : ℕ) → meant GroupScene (group_scene_bytes g s) ≡ group_scene g.0 s
unfolding meaning_of
group_scene_meant g s = refl

pub inhibit_meant : (t : LineTarget) (n : ℕ) → n < 65536 → meant Inhibit (inhibit_bytes t n) ≡ inhibit (lights_of t) n
unfolding meaning_of
inhibit_meant t n h = ap (inhibit (lights_of t)) (number_of_bytes 2 n h)

pub scene_meant : (t : LineTarget) (s : ℕ) → meant Scene (last_bytes t s) ≡ scene (lights_of t) s
unfolding meaning_of
scene_meant t s = refl

pub level_meant : (t : LineTarget) (l : ℕ) → meant Level (last_bytes t l) ≡ level (lights_of t) l
unfolding meaning_of
level_meant t l = refl

pub lights_meant : (t : LineTarget) → meant Lights (target_bytes t) ≡ lit (lights_of t)
unfolding meaning_of
lights_meant t = refl

pub address_meant : (t : LineTarget) → meant Address (target_bytes t) ≡ target (lights_of t)
unfolding meaning_of
address_meant t = refl

pub status_meant : (t : LineTarget) → meant Status (target_bytes t) ≡ target (status_of t)
unfolding meaning_of
status_meant t = refl
