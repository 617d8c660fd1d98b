use borrow.Author.Rules.{rules}
use Rattle.names.specs.Places.{name_text_lem, none_put}
use Rattle.names.proofs.put.Goals as goal

pub returns-in-Some : goal.returns-in-Some
returns-in-Some c = rw (name_text_lem c.args.kind c.args.number c.in-Some.k c.in-Some.ensures.told) c.of_row.ensures

pub returns-in-None : goal.returns-in-None
returns-in-None c = rw (name_text_lem c.args.kind c.args.number 83 c.in-None.ensures.told) (none_put c.args.out.now c.args.at 83 (search rules))
