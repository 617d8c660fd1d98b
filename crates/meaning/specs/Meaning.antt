-- Document 01, "Requests and their argument ranges": what the arguments A, B, C, D mean under each rule.
use Rattle.std.specs.Prelude.{ℕ, [], ◌∷◌}
use Rattle.order.specs.Order.{high_first, number_in}
use Rattle.target.specs.Target.{Aim, lights_of, status_of, said_target}
use Rattle.command.specs.declared.Rule.{Rule}
use Rattle.command.specs.declared.Rule.TheVariants.{Group, Emit, Bare, Timers, GroupScene, Channel, Filter, Query, Gear, Inhibit, Scene, Level, Lights, Address, Status}
use Rattle.meaning.specs.declared.Meaning.{Meaning}
use Rattle.meaning.specs.declared.Meaning.TheVariants.{Nothing, Lit, Target, Group as of·Group, Emit as of·Emit, Timers as of·Timers, GroupScene as of·GroupScene, Channel as of·Channel, Filter as of·Filter, Query as of·Query, Gear as of·Gear, Inhibit as of·Inhibit, Scene as of·Scene, Level as of·Level}

-- what some arguments mean
pub data Sense : Type 0 where
  -- no argument
  bare : Sense
  -- a group's number
  group : ℕ → Sense
  -- event emit: its bits
  emit : ℕ → Sense
  -- a device's address, an instance
  timers : ℕ → ℕ → Sense
  -- a group's number, a scene
  group_scene : ℕ → ℕ → Sense
  -- a universe, a channel
  channel : ℕ → ℕ → Sense
  -- an address, an instance, a mask
  filter : ℕ → ℕ → ℕ → Sense
  -- an address, a start, an instance
  query : ℕ → ℕ → ℕ → Sense
  -- a gear's address
  gear : ℕ → Sense
  -- what is lit, and seconds, a scene, a level, or nothing more
  inhibit : Aim → ℕ → Sense
  scene : Aim → ℕ → Sense
  level : Aim → ℕ → Sense
  lit : Aim → Sense
  -- the target that is asked about
  target : Aim → Sense

-- "high byte first"
abbrev pub pair : ℕ → ℕ → ℕ
pair c d = number_in high_first 2 (c ∷ d ∷ [])

unfoldable pub meaning_of : Rule → ℕ → ℕ → ℕ → ℕ → Sense
meaning_of Group a b c d = group a
meaning_of Emit a b c d = emit a
meaning_of Bare a b c d = bare
meaning_of Timers a b c d = timers a d
meaning_of GroupScene a b c d = group_scene a b
meaning_of Channel a b c d = channel b (pair c d)
meaning_of Filter a b c d = filter a b (pair c d)
meaning_of Query a b c d = query a b d
meaning_of Gear a b c d = gear a
meaning_of Inhibit a b c d = inhibit (lights_of (record { 0 = a })) (pair c d)
meaning_of Scene a b c d = scene (lights_of (record { 0 = a })) d
meaning_of Level a b c d = level (lights_of (record { 0 = a })) d
meaning_of Lights a b c d = lit (lights_of (record { 0 = a }))
meaning_of Address a b c d = target (lights_of (record { 0 = a }))
meaning_of Status a b c d = target (status_of (record { 0 = a }))

-- document 01's values for each case of a meaning
abbrev pub said_meaning : Meaning → Sense
said_meaning Nothing = bare
said_meaning (of·Group g) = group g.0
said_meaning (of·Emit a) = emit a
said_meaning (of·Timers v i) = timers v.0 i
said_meaning (of·GroupScene g s) = group_scene g.0 s
said_meaning (of·Channel u n) = channel u n
said_meaning (of·Filter a i m) = filter a i m
said_meaning (of·Query a s i) = query a s i
said_meaning (of·Gear a) = gear a
said_meaning (of·Inhibit t n) = inhibit (said_target t) n
said_meaning (of·Scene t s) = scene (said_target t) s
said_meaning (of·Level t l) = level (said_target t) l
said_meaning (Lit t) = lit (said_target t)
said_meaning (Target t) = target (said_target t)
