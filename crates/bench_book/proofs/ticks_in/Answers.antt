use lib.ListN.{length-set}
use borrow.Author.Rules.{rules}
use Rattle.bench_words.specs.Words.{made_by}
use Rattle.bench_words.specs.Places.{made_turn}
use Rattle.bench_book.specs.Pages.{tick_in}
use Rattle.bench_book.proofs.ticks_in.Goals as goal

pub loop-i-init : goal.loop-i-init
unfolding made_by
loop-i-init c = search rules

pub loop-i-preserved : goal.loop-i-preserved
loop-i-preserved c =
    let l = c.loop-i in
    let s = c.args.s.now in
    (search rules, simp length-set l.invariant.1, rw c.tick_in.ensures (made_turn (tick_in s) l.i l.ticks (search rules) l.invariant.2))
