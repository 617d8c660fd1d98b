-- Document 02, W-209: "for each command number its frame shape and a number for its argument rule".
use Rattle.std.specs.Prelude.{ℕ, ◌/◌, ◌%◌}
use Rattle.command.specs.Command.{Numbers, shape_rule}
use Rattle.table.specs.declared.Entry.{Entry}

-- what an entry says, in the numbers of crate command
abbrev pub numbers_at : Entry → Numbers
numbers_at x = shape_rule x.shape x.rule

-- what the digits of one number say: 113 is shape 1 and rule 13
abbrev pub numbers_by : ℕ → Numbers
numbers_by x = shape_rule (x / 100) (x % 100)
