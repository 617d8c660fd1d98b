use Rattle.table.proofs.cell.Reads as reads
use Rattle.table.proofs.cell.Lts as lts
use Rattle.table.specs.Agrees.{is_right, is_table, entry_right}
use Rattle.command.specs.Command.{numbers_in}
use Rattle.std.proofs.Common.{refl, rules}
use Rattle.table.proofs.cell.Goals as goal

pub returns : goal.returns
unfolding is_table is_right numbers_in
returns c = entry_right (lts.m6 reads.Pre reads.Post c.before.before c.result-1.given).1.1.0.now c.args.command refl (search rules)
