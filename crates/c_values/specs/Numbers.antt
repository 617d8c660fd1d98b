-- Numbers as a program in C is handed them: a refusal by its number and 0, or 0 and the number; and those of an entry of the table of commands.
use Rattle.std.specs.Prelude.{ℕ}
use Rattle.refusal.specs.Answer.{Answer, refused, full}
use Rattle.command.specs.Command.{Numbers, shape_rule}
use Rattle.target.specs.declared.LineTarget.{LineTarget}
use Rattle.target.specs.declared.Device.{Device}
use Rattle.c_values.specs.declared.WickNumber.{WickNumber}
use Rattle.c_values.specs.declared.WickEntry.{WickEntry}

abbrev pub number_out : Answer ℕ → WickNumber
number_out (refused k) = record { refusal = k; number = 0 }
number_out (full n) = record { refusal = 0; number = n }

-- the byte of a target on the line, and of a control device
abbrev pub line_out : Answer LineTarget → WickNumber
line_out (refused k) = number_out (refused k)
line_out (full t) = number_out (full t.0)

abbrev pub device_out : Answer Device → WickNumber
device_out (refused k) = number_out (refused k)
device_out (full v) = number_out (full v.0)

-- shape and rule of a command
abbrev pub entry_out : Numbers → WickEntry
entry_out (shape_rule s r) = record { shape = s; rule = r }
