-- Document 02, W-206: "the least event length in 1 is 13 for this layout". Of the other it stays 14.
use Rattle.std.specs.Prelude.{ℕ, ◌<◌, ◌≡◌, refl, List, length}
use Rattle.std.proofs.Common.{sym}
use Rattle.refusal.specs.Answer.{refused}
use Rattle.event.specs.Layout.{width_of, least}
use Rattle.event.specs.Reading.{read_event}
use Rattle.event.specs.Fits.{refuses_1}
use Rattle.event.specs.declared.Layout.{Layout}
use Rattle.event.specs.declared.Layout.TheVariants.{Three, Two}

pub least_two : least (width_of Two) ≡ 13
least_two = refl

pub least_three : least (width_of Three) ≡ 14
least_three = refl

-- whatever is shorter is 1
pub shorter : (l : Layout) (d : List ℕ) → length d < least (width_of l) → read_event (width_of l) d ≡ refused 1
shorter l d h = sym (refuses_1 (width_of l) d h)
