use lib.ListN.{length-set}
use borrow.Author.Rules.{rules}
use Rattle.bench_words.specs.Words.{made_by, byte_in}
use Rattle.bench_words.specs.Places.{made_turn}
use Rattle.bench_lines.proofs.handed.Goals as goal

pub loop-i-init : goal.loop-i-init
unfolding made_by
loop-i-init c = search rules

pub loop-i-preserved : goal.loop-i-preserved
loop-i-preserved c =
    let l = c.loop-i in
    let s = c.args.s.now in
    (search rules, simp length-set l.invariant.1, rw c.byte_at.ensures (made_turn (byte_in s) l.i l.bytes (search rules) l.invariant.2))
