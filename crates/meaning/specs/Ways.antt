-- The four argument bytes that say a line target, a group number or a device address, by the places of document 01's table. "Every
-- argument place not named is 0." Nothing is judged here: the writer refuses with 7.
use Rattle.std.specs.Prelude.{ℕ, get_or}
use Rattle.order.specs.Big.{big_bytes}
use Rattle.target.specs.declared.LineTarget.{LineTarget}
use Rattle.target.specs.declared.Group.{Group}
use Rattle.target.specs.declared.Device.{Device}
use Rattle.meaning.specs.declared.Arguments.{Arguments}

-- 01, 1A: "A group"
abbrev pub group_bytes : Group → Arguments
group_bytes g = record { a = g.0; b = 0; c = 0; d = 0 }

-- 0C: "A 64–127, D instance"
abbrev pub timers_bytes : Device → ℕ → Arguments
timers_bytes v instance = record { a = v.0; b = 0; c = 0; d = instance }

-- 1B: "A group, B scene"
abbrev pub group_scene_bytes : Group → ℕ → Arguments
group_scene_bytes g scene = record { a = g.0; b = scene; c = 0; d = 0 }

-- A0: "lighting target in A; C, D seconds any, high byte first"
abbrev pub inhibit_bytes : LineTarget → ℕ → Arguments
inhibit_bytes t seconds = record { a = t.0; b = 0; c = get_or (big_bytes 2 seconds) 0 0; d = get_or (big_bytes 2 seconds) 1 0 }

-- A1, A2: "lighting target in A; D scene", "D any"
abbrev pub last_bytes : LineTarget → ℕ → Arguments
last_bytes t n = record { a = t.0; b = 0; c = 0; d = n }

-- A3 to AB, AD, AE: a target in A
abbrev pub target_bytes : LineTarget → Arguments
target_bytes t = record { a = t.0; b = 0; c = 0; d = 0 }
