use Rattle.std.proofs.Common.{ap}
use Rattle.by_parts.specs.declared.Stage.TheVariants.{Refused}
use Rattle.by_parts.specs.Numbered.{refusal_is}
use Rattle.c_seasons.proofs.refused.Goals as goal

pub returns : goal.returns
returns c = ap Refused (refusal_is _ _ c.from.ensures)
