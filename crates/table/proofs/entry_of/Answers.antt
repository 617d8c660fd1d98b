use Prim.Native.Nat.{◌/◌, ◌%◌}
use borrow.Author.Rules.{rules}
use Rattle.table.specs.Agrees.{digit}
use Rattle.table.proofs.entry_of.Goals as goal

pub overflow_cast-result : goal.overflow_cast-result
overflow_cast-result c = let h = digit c.args.command (c.cell-x.result / 100) (c.cell-x.result % 100) c.cell-x.ensures in search (h, rules)
