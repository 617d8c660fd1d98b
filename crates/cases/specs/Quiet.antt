-- Document 02, W-203: the quiet profile. Which commands are written under it, in which order they are refused, and which finished runs pass.
use Rattle.std.specs.Prelude.{ℕ, ◌≡◌, refl, true, false, List, [], ◌∷◌, ◌++◌}
use Rattle.refusal.specs.Answer.{refused, full}
use Rattle.sum.specs.Sum.{sum_from}
use Rattle.command.specs.Command.{shape_of, is_retired}
use Rattle.profile.specs.declared.Profile.TheVariants.{Open, Quiet}
use Rattle.profile.specs.Profile.{is_barred, is_inside}
use Rattle.colour.specs.Colour.{hue}
use Rattle.ranges.specs.Arguments.{fits}
use Rattle.request.specs.Layout.{basic, unicast, colour}
use Rattle.request.specs.Writing.{writer_of}
use Rattle.stream.specs.Stream.{items_up_to, items}
use Rattle.extent.specs.declared.Line.TheVariants.{Request}
use Rattle.line.specs.Rule.{settle}
use Rattle.quiet_run.specs.Quiet.{all_quiet, quiet_run, none, loud, first_loud}
use Rattle.cases.specs.Retired.{groups, scene_list, with_argument, wrong_sum}

-- the filters of device 64, and its scene 5 called on gear 0
abbrev pub filters : List ℕ
filters = 0x04 ∷ 0x01 ∷ 0x32 ∷ 0x40 ∷ 0x00 ∷ 0x00 ∷ 0xFF ∷ 0x88 ∷ []

abbrev pub scene : List ℕ
scene = 0x04 ∷ 0x02 ∷ 0xA1 ∷ 0x00 ∷ 0x00 ∷ 0x00 ∷ 0x05 ∷ 0xA2 ∷ []

-- IN WRITING: a query is written; what switches is 13 under the profile and written without it; 3, 17 and 7 come first
pub quiet_written : (writer_of Quiet (basic 0 0x09 0 0 0 0) ≡ full groups) × (writer_of Quiet (basic 1 0x32 0x40 0 0 0xFF) ≡ full filters)
    × (writer_of Quiet (basic 2 0xA1 0 0 0 5) ≡ refused 13) × (writer_of Open (basic 2 0xA1 0 0 0 5) ≡ full scene)
    × (writer_of Quiet (basic 2 0xA1 0 0 0 16) ≡ refused 7) × (writer_of Quiet (basic 0 0x0A 9 9 9 9) ≡ refused 17)
    × (writer_of Quiet (basic 0 0x0D 9 9 9 9) ≡ refused 3) × (writer_of Quiet (basic 0 0x40 0 0 0 0) ≡ refused 3)
    × (writer_of Quiet (unicast 0 0 0 0 0 0) ≡ refused 13)
    × (writer_of Quiet (colour 0 127 254 (hue 0x20 (370 ∷ []))) ≡ refused 13) × (writer_of Quiet (colour 0 128 254 (hue 0x20 (370 ∷ []))) ≡ refused 7)
unfolding sum_from shape_of is_retired fits is_inside is_barred
quiet_written = (refl, refl, refl, refl, refl, refl, refl, refl, refl, refl, refl)

-- OF A FINISHED RUN: no byte passes, and queries one behind the other, 0A too; one that switches does not, nor noise, a wrong sum, an argument
-- outside its range, a frame cut short
pub quiet_told : (quiet_run [] ≡ true) × (quiet_run (groups ++ filters ++ scene_list) ≡ true) × (quiet_run (groups ++ scene) ≡ false)
    × (quiet_run (groups ++ (0x00 ∷ []) ++ filters) ≡ false) × (quiet_run (groups ++ wrong_sum) ≡ false) × (quiet_run (with_argument ++ groups) ≡ false)
    × (quiet_run (groups ++ (0x04 ∷ 0x01 ∷ [])) ≡ false)
unfolding sum_from shape_of fits settle items_up_to all_quiet is_inside is_barred
quiet_told = (refl, refl, refl, refl, refl, refl, refl)

-- and the first that does not is told with its place, its number and how many bytes it has
pub loud_told : (first_loud 0 (items (settle Request) (groups ++ filters)) ≡ none) × (first_loud 0 (items (settle Request) (groups ++ scene ++ wrong_sum)) ≡ loud 8 0 8)
    × (first_loud 0 (items (settle Request) (groups ++ filters ++ (0x04 ∷ []))) ≡ loud 16 1 1) × (first_loud 0 (items (settle Request) (0x00 ∷ groups)) ≡ loud 0 2 1)
unfolding sum_from shape_of fits settle items_up_to first_loud is_inside is_barred
loud_told = (refl, refl, refl, refl)
