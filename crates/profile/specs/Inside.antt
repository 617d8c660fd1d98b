-- Which commands are inside the quiet profile.
use Rattle.std.specs.Prelude.{ℕ, ◌<◌, ◌≡◌, refl, Bool, true, false, not, ◌&&◌, List, [], ◌∷◌, length}
use Rattle.refusal.specs.Test.{both_left}
use Rattle.command.specs.Command.{shape_of, numbers_in, is_known}
use Rattle.command.specs.Count.{count_below}
use Rattle.command.specs.Known.{known_byte}
use Rattle.profile.specs.Profile.{is_barred, is_inside}

-- 18 of the 256 numbers
pub inside_count : count_below is_inside 256 ≡ 18
unfolding is_inside is_barred shape_of count_below
inside_count = refl

-- "only commands that query": these 18, by source 002's names, in the order of their numbers
abbrev pub queries : List ℕ
queries =
    -- QUERY_GROUP_LABEL, QUERY_GROUP_NUMBERS, QUERY_SCENE_NUMBERS, QUERY_PROFILE_NUMBERS, QUERY_OCCUPANCY_INSTANCE_TIMERS
    0x01 ∷ 0x09 ∷ 0x0A ∷ 0x0B ∷ 0x0C
    -- QUERY_SCENE_NUMBERS_FOR_GROUP, QUERY_SCENE_LABEL_FOR_GROUP, QUERY_CONTROLLER_VERSION_NUMBER, QUERY_CONTROL_GEAR_DALI_ADDRESSES
    ∷ 0x1A ∷ 0x1B ∷ 0x1C ∷ 0x1D
    -- QUERY_DMX_DEVICE_LABEL_BY_NUMBER, QUERY_DALI_TPI_EVENT_FILTERS, QUERY_DALI_COLOUR, QUERY_TPI_EVENT_UNICAST_ADDRESS
    ∷ 0x20 ∷ 0x32 ∷ 0x34 ∷ 0x41
    -- DALI_QUERY_LEVEL, .. _CONTROL_GEAR_STATUS, .. _CG_TYPE, .. _LAST_SCENE, .. _LAST_SCENE_IS_CURRENT
    ∷ 0xAA ∷ 0xAB ∷ 0xAC ∷ 0xAD ∷ 0xAE ∷ []

abbrev are_inside : List ℕ → Bool
are_inside [] = true
are_inside (c ∷ cs) = is_inside c && are_inside cs

pub inside_queries : (are_inside queries ≡ true) × (length queries ≡ 18)
unfolding is_inside is_barred shape_of
inside_queries = (refl, refl)

-- what is inside is known, so it is a byte
pub inside_known : (c : ℕ) → is_inside c ≡ true → is_known c ≡ true
unfolding is_inside
inside_known c e = both_left (is_known c) (not (is_barred c)) e

pub inside_byte : (c : ℕ) → is_inside c ≡ true → c < 256
inside_byte c e = known_byte c (inside_known c e)

-- request 40 and colour requests are outside, so their writers write nothing under the profile; 0A is inside, retired or not
pub unicast_outside : is_inside 0x40 ≡ false
unfolding is_inside is_barred shape_of numbers_in
unicast_outside = refl

pub colour_outside : is_inside 0x0E ≡ false
unfolding is_inside is_barred shape_of numbers_in
colour_outside = refl

pub retired_inside : is_inside 0x0A ≡ true
unfolding is_inside is_barred shape_of numbers_in
retired_inside = refl
