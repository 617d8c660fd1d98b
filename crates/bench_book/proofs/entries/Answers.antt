use Prim.Native.Nat.{◌+◌, ◌-◌}
use borrow.Author.Rules.{rules}
use Rattle.lent.specs.Behind.{rest_less, rest_none}
use Rattle.bench_book.specs.Pages.{entries_texts}
use Rattle.bench_book.specs.Turns.{entries_turn, entries_done}
use Rattle.bench_book.proofs.entries.Goals as goal

pub loop-i-preserved : goal.loop-i-preserved
loop-i-preserved c =
    let l = c.loop-i in
    let a = c.args in
    let s = a.asked.now in
    let ts = a.ticks.now in (
      search rules,
      search rules,
      rest_less (entries_texts (256 - (l.i + 1)) (l.i + 1) s ts) (rw (entries_turn s ts l.i (search rules)) at l.invariant.2) c.entry-e.ensures,
    )

pub returns : goal.returns
returns c =
    let l = c.loop-i in
    let a = c.args in
    rest_none (entries_done a.asked.now a.ticks.now l.i (search rules)) l.invariant.2
