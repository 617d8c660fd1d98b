-- What the table judges of the arguments that a typed way puts: its typed values alone, since each place not named is 0.
use Rattle.std.specs.Prelude.{ℕ, ◌≡◌, Bool, true, ◌&&◌, ◌||◌}
use Rattle.std.proofs.Common.{◌∙◌}
use Rattle.std.proofs.Math.Bool.{and-true}
use Rattle.target.specs.declared.LineTarget.{LineTarget}
use Rattle.target.specs.declared.Group as group·struct
use Rattle.target.specs.declared.Device.{Device}
use Rattle.target.specs.Target.{is_group, is_device, is_lighting, is_gear_or_group, is_status_broadcast}
use Rattle.command.specs.declared.Rule.{Rule}
use Rattle.command.specs.declared.Rule.TheVariants.{Group, Timers, GroupScene, Inhibit, Scene, Level, Lights, Address, Status}
use Rattle.ranges.specs.Arguments.{is_dali_scene, is_labelled_scene, is_instance, fits}
use Rattle.ranges.specs.Places.{alone, with_last, with_next}
use Rattle.meaning.specs.declared.Arguments.{Arguments}
use Rattle.meaning.specs.Ways.{group_bytes, timers_bytes, group_scene_bytes, inhibit_bytes, last_bytes, target_bytes}

-- the four bytes are within the ranges of a rule
abbrev pub fitting : Rule → Arguments → Bool
fitting rule x = fits rule x.a x.b x.c x.d

pub group_judged : (g : group·struct.Group) → fitting Group (group_bytes g) ≡ is_group g.0
unfolding fits
group_judged g = alone (is_group g.0)

pub timers_judged : (v : Device) (i : ℕ) → fitting Timers (timers_bytes v i) ≡ is_device v.0 && is_instance i
unfolding fits
timers_judged v i = with_last (is_device v.0) (is_instance i)

pub group_scene_judged : (g : group·struct.Group) (s : ℕ) → fitting GroupScene (group_scene_bytes g s) ≡ is_group g.0 && is_labelled_scene s
unfolding fits
group_scene_judged g s = with_next (is_group g.0) (is_labelled_scene s)

pub inhibit_judged : (t : LineTarget) (n : ℕ) → fitting Inhibit (inhibit_bytes t n) ≡ is_lighting t.0
unfolding fits
inhibit_judged t n = and-true (is_lighting t.0)

pub scene_judged : (t : LineTarget) (s : ℕ) → fitting Scene (last_bytes t s) ≡ is_lighting t.0 && is_dali_scene s
unfolding fits
scene_judged t s = with_last (is_lighting t.0) (is_dali_scene s)

pub level_judged : (t : LineTarget) (l : ℕ) → fitting Level (last_bytes t l) ≡ is_lighting t.0
unfolding fits
level_judged t l = and-true (is_lighting t.0 && true) ∙ and-true (is_lighting t.0)

pub lights_judged : (t : LineTarget) → fitting Lights (target_bytes t) ≡ is_lighting t.0
unfolding fits
lights_judged t = alone (is_lighting t.0)

pub address_judged : (t : LineTarget) → fitting Address (target_bytes t) ≡ is_gear_or_group t.0
unfolding fits
address_judged t = alone (is_gear_or_group t.0)

pub status_judged : (t : LineTarget) → fitting Status (target_bytes t) ≡ is_gear_or_group t.0 || is_status_broadcast t.0
unfolding fits
status_judged t = alone (is_gear_or_group t.0 || is_status_broadcast t.0)
