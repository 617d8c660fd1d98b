-- A good reply inside a damaged one is found. (The items of the small program's input stand in crate cases.)
use Rattle.std.specs.Prelude.{◌≡◌, refl, [], ◌∷◌}
use Rattle.sum.specs.Sum.{sum_from}
use Rattle.stream.specs.Stream.{reading, items_up_to, items}
use Rattle.extent.specs.declared.Line.TheVariants.{Reply}
use Rattle.line.specs.Rule.{settle}

-- the reply A0 00 00 A0 inside one of eight bytes with a wrong sum
pub worked_inside : items (settle Reply) (0xA1 ∷ 0x00 ∷ 0x04 ∷ 0xA0 ∷ 0x00 ∷ 0x00 ∷ 0xA0 ∷ 0xFF ∷ [])
    ≡ reading 6 (0xA1 ∷ [])
    ∷ reading 2 (0x00 ∷ [])
    ∷ reading 2 (0x04 ∷ [])
    ∷ reading 0 (0xA0 ∷ 0x00 ∷ 0x00 ∷ 0xA0 ∷ [])
    ∷ reading 2 (0xFF ∷ [])
    ∷ []
unfolding items_up_to settle sum_from
worked_inside = refl
