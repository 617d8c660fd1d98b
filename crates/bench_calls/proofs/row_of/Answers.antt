use mathlib.Core.Path.{sym, ◌∙◌}
use lib.ListN.{get_or-eq_default}
use Rattle.bench_words.specs.Words.{words_from, words_at}
use Rattle.bench_calls.specs.Table.{table}
use Rattle.bench_calls.specs.Rows.{numbers_of, row_found}
use Rattle.bench_calls.proofs.row_of.Goals as goal

pub returns-then-k-lt94 : goal.returns-then-k-lt94
unfolding words_at words_from
returns-then-k-lt94 c = sym (row_found c.args.name.now c.place-k.result c.place-k.ensures)

pub returns-else-k-lt94 : goal.returns-else-k-lt94
unfolding words_at words_from
returns-else-k-lt94 c =
    let k = c.place-k.result in
    sym (row_found c.args.name.now k c.place-k.ensures ∙ get_or-eq_default (numbers_of table) 0 c.if-k-lt94.false)
