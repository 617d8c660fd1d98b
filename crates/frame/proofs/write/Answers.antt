use borrow.Author.Rules.{rules}
use Rattle.frame.specs.Written.{writes}
use Rattle.frame.proofs.write.Goals as goal

pub returns : goal.returns
returns c =
    let a = c.args in
    writes a.head.now a.«data».now a.out.now _ _ _ _ _ (search rules) c.word.ensures c.word-2.ensures c.xor-x.ensures
