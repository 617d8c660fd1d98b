-- Document 01, "Requests and their argument ranges", with document 02, W-202: the known command numbers, and "each other number is unknown".
-- Document 02, W-210: "Retire the old scene list."
use Rattle.std.specs.Prelude.{ℕ, ◌≡◌, Bool, true, false, not, ◌&&◌, List, [], ◌∷◌, leb, eqb, get_or}
use Rattle.refusal.specs.Test.{pick}
use Rattle.command.specs.declared.Rule.TheVariants.{Group, Emit, Bare, Timers, GroupScene, Channel, Filter, Query, Gear, Inhibit, Scene, Level, Lights, Address, Status}
use Rattle.command.specs.declared.Command.{Command}
use Rattle.command.specs.declared.Shape.{Shape}
use Rattle.command.specs.declared.Shape.TheVariants.{Unknown, Basic, Unicast, Colour}

-- What is said of a command: the number of its frame's shape, 0 none, 1 a basic request, 2 the frame of request 40, 3 a colour request; and the
-- number of its argument rule, 0 for none.
pub data Numbers : Type 0 where
  shape_rule : ℕ → ℕ → Numbers

-- a line of the table: the commands from one to another, the number of their shape and that of their rule
pub data Row : Type 0 where
  row : ℕ → ℕ → ℕ → ℕ → Row

-- what the first line says that has the command
abbrev pub find : ℕ → List Row → Numbers
find c [] = shape_rule 0 0
find c (row lo hi s r ∷ rows) = let other = find c rows in pick (leb lo c) (pick (leb c hi) (shape_rule s r) other) other

-- the table, in the order of document 01; the one dynamic request and the colour request at the end
abbrev pub rows : List Row
rows =
    -- 01 group label, 1A scenes of a group: "A group 0–15"
    row 0x01 0x01 1 1
    ∷ row 0x1A 0x1A 1 1
    -- 08 event emit
    ∷ row 0x08 0x08 1 2
    -- 09, 0A, 0B, 1C, 1D, 41: "none"
    ∷ row 0x09 0x0B 1 3
    ∷ row 0x1C 0x1D 1 3
    ∷ row 0x41 0x41 1 3
    -- 0C occupancy timers
    ∷ row 0x0C 0x0C 1 4
    -- 1B scene label
    ∷ row 0x1B 0x1B 1 5
    -- 20 DMX label
    ∷ row 0x20 0x20 1 6
    -- 31 add, 33 clear filter
    ∷ row 0x31 0x31 1 7
    ∷ row 0x33 0x33 1 7
    -- 32 query filters
    ∷ row 0x32 0x32 1 8
    -- 34 colour, AC gear type
    ∷ row 0x34 0x34 1 9
    ∷ row 0xAC 0xAC 1 9
    -- A0 inhibit, A1 scene, A2 arc level
    ∷ row 0xA0 0xA0 1 10
    ∷ row 0xA1 0xA1 1 11
    ∷ row 0xA2 0xA2 1 12
    -- A3 to A9
    ∷ row 0xA3 0xA9 1 13
    -- AA, AD, AE
    ∷ row 0xAA 0xAA 1 14
    ∷ row 0xAD 0xAE 1 14
    -- AB gear status
    ∷ row 0xAB 0xAB 1 15
    -- 40
    ∷ row 0x40 0x40 2 16
    -- W-202: source 002, "For the DALI Colour command this is 0x0E."
    ∷ row 0x0E 0x0E 3 17
    ∷ []

-- what the table says of a command
unfoldable pub numbers_in : ℕ → Numbers
numbers_in c = find c rows

-- the numbers of each case of a shape: that of its frame, and that of its rule
abbrev pub shape_no : Shape → ℕ
shape_no Unknown = 0
shape_no (Basic rule) = 1
shape_no Unicast = 2
shape_no Colour = 3

abbrev pub rule_no : Shape → ℕ
rule_no Unknown = 0
rule_no (Basic Group) = 1
rule_no (Basic Emit) = 2
rule_no (Basic Bare) = 3
rule_no (Basic Timers) = 4
rule_no (Basic GroupScene) = 5
rule_no (Basic Channel) = 6
rule_no (Basic Filter) = 7
rule_no (Basic Query) = 8
rule_no (Basic Gear) = 9
rule_no (Basic Inhibit) = 10
rule_no (Basic Scene) = 11
rule_no (Basic Level) = 12
rule_no (Basic Lights) = 13
rule_no (Basic Address) = 14
rule_no (Basic Status) = 15
rule_no Unicast = 16
rule_no Colour = 17

abbrev pub numbers_of : Shape → Numbers
numbers_of x = shape_rule (shape_no x) (rule_no x)

-- the shape that has some numbers, and that of a command: crates above go by it
abbrev pub shapes : List Shape
shapes =
    Unknown ∷ Basic Group ∷ Basic Emit ∷ Basic Bare ∷ Basic Timers ∷ Basic GroupScene ∷ Basic Channel ∷ Basic Filter ∷ Basic Query
    ∷ Basic Gear ∷ Basic Inhibit ∷ Basic Scene ∷ Basic Level ∷ Basic Lights ∷ Basic Address ∷ Basic Status ∷ Unicast
    ∷ Colour ∷ []

abbrev pub shape_by : Numbers → Shape
shape_by (shape_rule s r) = get_or shapes r Unknown

unfoldable pub shape_of : ℕ → Shape
shape_of c = shape_by (find c rows)

-- a command is known where its frame has a shape
abbrev pub has_frame : Shape → Bool
has_frame Unknown = false
has_frame (Basic rule) = true
has_frame Unicast = true
has_frame Colour = true

abbrev pub is_known : ℕ → Bool
is_known c = has_frame (shape_of c)

-- W-210: "The source calls 0A legacy": it is known and read as before, and marked
abbrev pub retired_command : ℕ
retired_command = 0x0A

unfoldable pub is_retired : ℕ → Bool
is_retired c = eqb c retired_command

-- "New requests with 0A are no longer written": the commands that may be asked, and those that may be written
unfoldable pub may_ask : ℕ → Bool
may_ask c = is_known c && not (is_retired c)

unfoldable pub may_write : ℕ → Bool
may_write c = is_known c && not (is_retired c)

-- all that is decided of a command: its numbers and its mark
pub record Decided (c : ℕ) (x : Command) : Type 0 where
  pub numbers : numbers_of x.0 ≡ numbers_in c
  pub mark : x.1 ≡ is_retired c
