-- Document 02, W-201: "A1 takes D 0–15; 1B keeps 0–12." At the ends of both ranges, as datagrams and as items of the request line.
use Rattle.std.specs.Prelude.{ℕ, refl, false, List, [], ◌∷◌, ◌++◌}
use Rattle.refusal.specs.Answer.{refused, full}
use Rattle.sum.specs.Sum.{sum_from}
use Rattle.order.specs.Order.{number_by}
use Rattle.target.specs.Target.{group, broadcast}
use Rattle.command.specs.Command.{shape_of, is_retired}
use Rattle.ranges.specs.Arguments.{fits}
use Rattle.meaning.specs.Meaning.{group_scene, scene, meaning_of}
use Rattle.request.specs.Said.{heard, arguments}
use Rattle.request.specs.Reading.{read_basic, read_request}
use Rattle.stream.specs.Stream.{reading, items_up_to}
use Rattle.line.specs.Rule.{settle}
use Rattle.cases.specs.Cases.{Case, request, request_line, AllHold}

-- scenes 12, 15 and 16 called everywhere, scene 15 called on group 15; the labels of scenes 12 and 13 of group 2
abbrev pub call12 : List ℕ
call12 = 0x04 ∷ 0x00 ∷ 0xA1 ∷ 0xFF ∷ 0x00 ∷ 0x00 ∷ 0x0C ∷ 0x56 ∷ []

abbrev pub call15 : List ℕ
call15 = 0x04 ∷ 0x00 ∷ 0xA1 ∷ 0xFF ∷ 0x00 ∷ 0x00 ∷ 0x0F ∷ 0x55 ∷ []

abbrev pub call16 : List ℕ
call16 = 0x04 ∷ 0x00 ∷ 0xA1 ∷ 0xFF ∷ 0x00 ∷ 0x00 ∷ 0x10 ∷ 0x4A ∷ []

abbrev pub group15 : List ℕ
group15 = 0x04 ∷ 0x00 ∷ 0xA1 ∷ 0x4F ∷ 0x00 ∷ 0x00 ∷ 0x0F ∷ 0xE5 ∷ []

abbrev pub label12 : List ℕ
label12 = 0x04 ∷ 0x00 ∷ 0x1B ∷ 0x02 ∷ 0x0C ∷ 0x00 ∷ 0x00 ∷ 0x11 ∷ []

abbrev pub label13 : List ℕ
label13 = 0x04 ∷ 0x00 ∷ 0x1B ∷ 0x02 ∷ 0x0D ∷ 0x00 ∷ 0x00 ∷ 0x10 ∷ []

abbrev pub scene_cases : List Case
scene_cases =
    request call12 (full (heard 0 0xA1 false (arguments 255 0 0 12 (scene broadcast 12))))
    ∷ request call15 (full (heard 0 0xA1 false (arguments 255 0 0 15 (scene broadcast 15))))
    ∷ request call16 (refused 7)
    ∷ request group15 (full (heard 0 0xA1 false (arguments 79 0 0 15 (scene (group 15) 15))))
    ∷ request label12 (full (heard 0 0x1B false (arguments 2 12 0 0 (group_scene 2 12))))
    ∷ request label13 (refused 7)
    ∷ request_line (call12 ++ call15 ++ call16 ++ group15 ++ label12 ++ label13)
    (reading 0 call12 ∷ reading 0 call15 ∷ reading 7 call16 ∷ reading 0 group15 ∷ reading 0 label12 ∷ reading 7 label13 ∷ [])
    ∷ []

-- THE CLAIM
pub scenes_told : AllHold scene_cases
unfolding
    sum_from number_by shape_of is_retired fits meaning_of read_basic read_request settle items_up_to
scenes_told =
    (refl, (refl, (refl, (refl, (refl, (refl, (refl, tt)))))))
