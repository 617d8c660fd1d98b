-- Document 02, W-210: the old scene list 0A. It reads as before, and is marked; as a new request it is written no more.
use Rattle.std.specs.Prelude.{ℕ, ◌≡◌, refl, true, false, List, [], ◌∷◌, ◌++◌}
use Rattle.refusal.specs.Answer.{refused, full}
use Rattle.sum.specs.Sum.{sum_from}
use Rattle.order.specs.Order.{number_by}
use Rattle.command.specs.Command.{shape_of, is_retired}
use Rattle.profile.specs.declared.Profile.TheVariants.{Open}
use Rattle.ranges.specs.Arguments.{fits}
use Rattle.meaning.specs.Meaning.{bare, meaning_of}
use Rattle.request.specs.Layout.{basic}
use Rattle.request.specs.Said.{heard, arguments}
use Rattle.request.specs.Reading.{read_basic, read_request}
use Rattle.request.specs.Writing.{writer_of}
use Rattle.stream.specs.Stream.{reading, items_up_to}
use Rattle.line.specs.Rule.{settle}
use Rattle.cases.specs.Cases.{Case, request, request_line, AllHold}

-- groups, scenes and profiles; scenes with an argument, and with a wrong sum
abbrev pub groups : List ℕ
groups = 0x04 ∷ 0x00 ∷ 0x09 ∷ 0x00 ∷ 0x00 ∷ 0x00 ∷ 0x00 ∷ 0x0D ∷ []

abbrev pub scene_list : List ℕ
scene_list = 0x04 ∷ 0x00 ∷ 0x0A ∷ 0x00 ∷ 0x00 ∷ 0x00 ∷ 0x00 ∷ 0x0E ∷ []

abbrev pub profiles : List ℕ
profiles = 0x04 ∷ 0x00 ∷ 0x0B ∷ 0x00 ∷ 0x00 ∷ 0x00 ∷ 0x00 ∷ 0x0F ∷ []

abbrev pub with_argument : List ℕ
with_argument = 0x04 ∷ 0x00 ∷ 0x0A ∷ 0x00 ∷ 0x00 ∷ 0x00 ∷ 0x01 ∷ 0x0F ∷ []

abbrev pub wrong_sum : List ℕ
wrong_sum = 0x04 ∷ 0x00 ∷ 0x0A ∷ 0x00 ∷ 0x00 ∷ 0x00 ∷ 0x00 ∷ 0x0F ∷ []

abbrev pub retired_cases : List Case
retired_cases =
    request groups (full (heard 0 0x09 false (arguments 0 0 0 0 bare)))
    ∷ request scene_list (full (heard 0 0x0A true (arguments 0 0 0 0 bare)))
    ∷ request profiles (full (heard 0 0x0B false (arguments 0 0 0 0 bare)))
    -- 17 is for writing and asking only
    ∷ request with_argument (refused 7)
    ∷ request wrong_sum (refused 6)
    ∷ request (scene_list ++ (0x00 ∷ [])) (refused 5)
    ∷ request_line (groups ++ scene_list ++ with_argument ++ wrong_sum)
    (reading 0 groups ∷ reading 0 scene_list ∷ reading 7 with_argument ∷ reading 6 (0x04 ∷ [])
    ∷ reading 2 (0x00 ∷ []) ∷ reading 2 (0x0A ∷ []) ∷ reading 2 (0x00 ∷ []) ∷ reading 2 (0x00 ∷ [])
    ∷ reading 2 (0x00 ∷ []) ∷ reading 2 (0x00 ∷ []) ∷ reading 2 (0x0F ∷ []) ∷ [])
    ∷ []

-- THE CLAIM
pub retired_told : AllHold retired_cases
unfolding
    sum_from number_by shape_of is_retired fits meaning_of read_basic read_request settle items_up_to
retired_told =
    (refl, (refl, (refl, (refl, (refl, (refl, (refl, tt)))))))

-- in writing, where no profile is chosen: 17 for 0A, whatever its arguments are; its neighbours are written; 3 comes first
pub retired_written : (writer_of Open (basic 0 0x0A 0 0 0 0) ≡ refused 17) × (writer_of Open (basic 0 0x0A 9 9 9 9) ≡ refused 17)
    × (writer_of Open (basic 0 0x09 0 0 0 0) ≡ full groups) × (writer_of Open (basic 0 0x0B 0 0 0 0) ≡ full profiles)
    × (writer_of Open (basic 0 0x09 9 9 9 9) ≡ refused 7) × (writer_of Open (basic 0 0x0D 9 9 9 9) ≡ refused 3)
unfolding sum_from shape_of is_retired fits
retired_written = (refl, refl, refl, refl, refl, refl)
