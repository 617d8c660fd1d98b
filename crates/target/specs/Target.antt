-- Document 01, "Requests and their argument ranges": "Lighting target: 0–63 gear, 64–79 group number + 64, 127 or 255 broadcast."
-- "Source 002 keeps three numbers apart: a gear or group target on the line, a bare group number 0–15, and a control device
-- address, its own number + 64." "there are 16 groups and 64 devices, so 79 and 127 end the ranges."
use Rattle.std.specs.Prelude.{ℕ, ◌+◌, ◌-◌, Bool, ◌&&◌, ◌||◌, leb, eqb}
use Rattle.refusal.specs.Test.{pick}
use Rattle.refusal.specs.Answer.{Answer, full, demand}
use Rattle.target.specs.declared.LineTarget.{LineTarget}
use Rattle.target.specs.declared.Group as group·struct
use Rattle.target.specs.declared.Device.{Device}
use Rattle.target.specs.declared.Target.{Target}
use Rattle.target.specs.declared.Target.TheVariants.{Gear, Group, Broadcast, Nothing}

-- the last gear, and the last group by its bare number
abbrev pub last_gear : ℕ
last_gear = 63

abbrev pub last_group : ℕ
last_group = 15

-- the last device by its own number
abbrev pub last_number : ℕ
last_number = 63

-- what is added to the number of a group on the line, and of a device; where each ends
abbrev pub base : ℕ
base = 64

abbrev pub last_target : ℕ
last_target = 79

abbrev pub last_device : ℕ
last_device = 127

abbrev pub is_gear : ℕ → Bool
is_gear a = leb a last_gear

abbrev pub is_group : ℕ → Bool
is_group g = leb g last_group

abbrev pub is_gear_or_group : ℕ → Bool
is_gear_or_group a = leb a last_target

abbrev pub is_broadcast : ℕ → Bool
is_broadcast a = eqb a 127 || eqb a 255

-- source 002, DALI_QUERY_CONTROL_GEAR_STATUS: "81 can be used for broadcast status"
abbrev pub is_status_broadcast : ℕ → Bool
is_status_broadcast a = eqb a 81

abbrev pub is_lighting : ℕ → Bool
is_lighting a = is_gear_or_group a || is_broadcast a

abbrev pub is_device : ℕ → Bool
is_device a = leb base a && leb a last_device

-- what a target names: gear by its address, a group by its number, all of them; or it is no target
pub data Aim : Type 0 where
  gear : ℕ → Aim
  group : ℕ → Aim
  broadcast : Aim
  no_target : Aim

-- where b says which numbers are broadcast
abbrev pub aimed : Bool → ℕ → Aim
aimed b t = pick (is_gear t) (gear t) (pick (is_gear_or_group t) (group (t - base)) (pick b broadcast no_target))

-- the target of a lighting command, and that of a query of gear status
abbrev pub lights_of : LineTarget → Aim
lights_of t = aimed (is_broadcast t.0) t.0

abbrev pub status_of : LineTarget → Aim
status_of t = aimed (is_status_broadcast t.0) t.0

-- a group on the line is its number + 64; 7 is an argument outside the table
abbrev pub line_of : group·struct.Group → Answer LineTarget
line_of g = demand (is_group g.0) 7 (full (record { 0 = g.0 + base }))

-- a device's address is its own number + 64
abbrev pub device_of : ℕ → Answer Device
device_of n = demand (leb n last_number) 7 (full (record { 0 = n + base }))

abbrev pub device_number : Device → Answer ℕ
device_number a = demand (is_device a.0) 7 (full (a.0 - base))

-- document 01's number and values for each case of an answer
abbrev pub said_target : Target → Aim
said_target (Gear n) = gear n
said_target (Group g) = group g.0
said_target Broadcast = broadcast
said_target Nothing = no_target
