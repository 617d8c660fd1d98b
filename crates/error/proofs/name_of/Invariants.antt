use Rattle.std.specs.Prelude.{◌≡◌}
use Rattle.std.proofs.Common.{drop}
use Rattle.error.specs.Error.{look, name_of}
use Rattle.error.proofs.name_of.Given as goal

abbrev pub invariant-loop-c : goal.invariant-loop-c
invariant-loop-c l = look (drop l.c-index l.c-items) l.code ≡ name_of l.code
