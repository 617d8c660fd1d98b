-- Document 02, W-201: "A1 takes D 0–15; 1B keeps 0–12". What the two ranges come to at their ends.
use Rattle.std.specs.Prelude.{ℕ, ◌≡◌, refl, false}
use Rattle.std.proofs.Common.{◌∙◌}
use Rattle.std.proofs.Math.Bool.{and-false}
use Rattle.target.specs.Target.{is_group, is_lighting}
use Rattle.command.specs.declared.Rule.TheVariants.{GroupScene, Scene}
use Rattle.command.specs.declared.Shape.TheVariants.{Basic}
use Rattle.command.specs.Command.{shape_of}
use Rattle.ranges.specs.Arguments.{fits}
use Rattle.ranges.specs.Places.{alone, with_last, with_next}

-- the rules of A1 and 1B
pub scene_rule : shape_of 0xA1 ≡ Basic Scene
unfolding shape_of
scene_rule = refl

pub label_rule : shape_of 0x1B ≡ Basic GroupScene
unfolding shape_of
label_rule = refl

-- scene 15 of A1 is in range for every lighting target and for nothing else, scene 16 for none
pub scene_15 : (a : ℕ) → fits Scene a 0 0 15 ≡ is_lighting a
unfolding fits
scene_15 a = alone (is_lighting a)

pub scene_16 : (a : ℕ) → fits Scene a 0 0 16 ≡ false
unfolding fits
scene_16 a = with_last (is_lighting a) false ∙ and-false (is_lighting a)

-- scene 12 of 1B is in range for every group and for nothing else, scene 13 for none
pub label_12 : (a : ℕ) → fits GroupScene a 12 0 0 ≡ is_group a
unfolding fits
label_12 a = alone (is_group a)

pub label_13 : (a : ℕ) → fits GroupScene a 13 0 0 ≡ false
unfolding fits
label_13 a = with_next (is_group a) false ∙ and-false (is_group a)
