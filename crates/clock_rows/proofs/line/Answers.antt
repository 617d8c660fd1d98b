use Rattle.std.proofs.Common.{refl, sym, ◌∙◌, length, eqb-true}
use Rattle.std.proofs.lemmas.Bool.{eqb-false}
use Rattle.clock_rows.specs.Lines.{passed, row_puts, told_puts}
use Rattle.clock_rows.specs.Rows.{answered}
use Rattle.clock_rows.proofs.line.Goals as goal

pub returns-then-is_empty : goal.returns-then-is_empty
returns-then-is_empty c =
    let a = c.args in
    passed a.midnight a.l.now a.next a.n a.out.now a.at a.err.now (eqb-true (length a.l.now) 0 (sym c.is_empty.ensures ∙ c.if-is_empty.true))

pub answer-c-requires : goal.answer-c-requires
unfolding answered
answer-c-requires c = rw c.given_of-g.ensures at c.runs-run.ensures

pub returns : goal.returns
unfolding answered
returns c =
    let a = c.args in
    let h = eqb-false (length a.l.now) 0 (sym c.is_empty.ensures ∙ c.if-is_empty.false) in
    let e = rw c.given_of-g.ensures at c.runs-run.ensures in
    record {
      next = refl;
      row = row_puts a.midnight a.n a.l.now h e c.decimal-a.ensures c.word-b.ensures c.answer-c.ensures;
      told = told_puts a.midnight a.n a.l.now h e c.told.ensures;
    }
