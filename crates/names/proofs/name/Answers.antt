use borrow.Author.Rules.{rules}
use Rattle.frame.specs.Written.{refuses, passes}
use Rattle.words.specs.Words.{word_in}
use Rattle.names.specs.Places.{names, name_found, name_none, name_some, front_written, front_refused}
use Rattle.names.proofs.name.Goals as goal

pub returns-in_default : goal.returns-in_default
returns-in_default c =
    let a = c.args in
    refuses a.out.now (name_none a.kind a.number 83 c.in_default.ensures.told (search rules))

pub returns-then-n-eq0 : goal.returns-then-n-eq0
returns-then-n-eq0 c =
    let a = c.args in
    let p = c.in-Some in
    let w = c.of_row-n in
    passes (name_found a.kind a.number p.k p.ensures.told p.ensures.within) (front_refused (word_in 32 p.k names) a.out.now w.new.out w.result (name_some p.k p.ensures.within) w.ensures c.if-n-eq0.true)

pub returns : goal.returns
returns c =
    let a = c.args in
    let p = c.in-Some in
    let w = c.of_row-n in
    passes (name_found a.kind a.number p.k p.ensures.told p.ensures.within) (front_written (word_in 32 p.k names) a.out.now w.new.out w.result (name_some p.k p.ensures.within) w.ensures c.if-n-eq0.false)
