-- Names of numbers as text: of refusals ours, by document 01's table and document 02's requests; of the rest source 002's own, in its order
-- ("Commands", "TPI Advanced Response", "Error Codes", "TPI Event Types"), less the ERROR_ and _EVENT that it puts to most of a kind.
use Rattle.std.specs.Prelude.{ℕ, ◌+◌, ◌*◌, List, [], ◌∷◌, eqb}
use Prim.Native.String.{String}
use Rattle.refusal.specs.Test.{pick}
use Rattle.refusal.specs.Answer.{Answer, refused, full}
use Rattle.words.specs.Words.{text}

-- a kind and a number of it, as digits of one hexadecimal number, and the name
pub data Row : Type 0 where
  row : ℕ → String → Row

abbrev pub table : List Row
table =
    -- 0: refusals
    row 0x0_00 "OK"
    ∷ row 0x0_01 "TOO_SHORT"
    ∷ row 0x0_02 "BAD_LEAD"
    ∷ row 0x0_03 "UNKNOWN_COMMAND"
    ∷ row 0x0_04 "BAD_LENGTH_BYTE"
    ∷ row 0x0_05 "BAD_LENGTH"
    ∷ row 0x0_06 "BAD_SUM"
    ∷ row 0x0_07 "BAD_ARGUMENT"
    ∷ row 0x0_08 "NO_ROOM"
    ∷ row 0x0_09 "NO_NUMBER_FREE"
    ∷ row 0x0_0A "NOT_AWAITED"
    ∷ row 0x0_0B "BAD_DATA_SIZE"
    ∷ row 0x0_0C "NONE_THERE"
    ∷ row 0x0_0D "OUTSIDE_PROFILE"
    ∷ row 0x0_0E "UNKNOWN_VERSION"
    ∷ row 0x0_0F "BAD_RECORD"
    ∷ row 0x0_10 "EARLIER_TIME"
    ∷ row 0x0_11 "RETIRED"
    ∷ row 0x0_12 "NOT_A_FILTER"
    ∷ row 0x0_13 "FILTERS_FULL"
    ∷ row 0x0_14 "NOT_RISING"
    ∷ row 0x0_15 "NOT_A_CLOCK"
    ∷ row 0x0_16 "OUT_OF_RANGE"
    -- 1: commands
    ∷ row 0x1_01 "QUERY_GROUP_LABEL"
    ∷ row 0x1_08 "ENABLE_TPI_EVENT_EMIT"
    ∷ row 0x1_09 "QUERY_GROUP_NUMBERS"
    ∷ row 0x1_0A "QUERY_SCENE_NUMBERS"
    ∷ row 0x1_0B "QUERY_PROFILE_NUMBERS"
    ∷ row 0x1_0C "QUERY_OCCUPANCY_INSTANCE_TIMERS"
    ∷ row 0x1_0E "DALI_COLOUR"
    ∷ row 0x1_1A "QUERY_SCENE_NUMBERS_FOR_GROUP"
    ∷ row 0x1_1B "QUERY_SCENE_LABEL_FOR_GROUP"
    ∷ row 0x1_1C "QUERY_CONTROLLER_VERSION_NUMBER"
    ∷ row 0x1_1D "QUERY_CONTROL_GEAR_DALI_ADDRESSES"
    ∷ row 0x1_20 "QUERY_DMX_DEVICE_LABEL_BY_NUMBER"
    ∷ row 0x1_31 "DALI_ADD_TPI_EVENT_FILTER"
    ∷ row 0x1_32 "QUERY_DALI_TPI_EVENT_FILTERS"
    ∷ row 0x1_33 "DALI_CLEAR_TPI_EVENT_FILTERS"
    ∷ row 0x1_34 "QUERY_DALI_COLOUR"
    ∷ row 0x1_40 "SET_TPI_EVENT_UNICAST_ADDRESS"
    ∷ row 0x1_41 "QUERY_TPI_EVENT_UNICAST_ADDRESS"
    ∷ row 0x1_A0 "DALI_INHIBIT"
    ∷ row 0x1_A1 "DALI_SCENE"
    ∷ row 0x1_A2 "DALI_ARC_LEVEL"
    ∷ row 0x1_A3 "DALI_ON_STEP_UP"
    ∷ row 0x1_A4 "DALI_STEP_DOWN_OFF"
    ∷ row 0x1_A5 "DALI_UP"
    ∷ row 0x1_A6 "DALI_DOWN"
    ∷ row 0x1_A7 "DALI_RECALL_MAX"
    ∷ row 0x1_A8 "DALI_RECALL_MIN"
    ∷ row 0x1_A9 "DALI_OFF"
    ∷ row 0x1_AA "DALI_QUERY_LEVEL"
    ∷ row 0x1_AB "DALI_QUERY_CONTROL_GEAR_STATUS"
    ∷ row 0x1_AC "DALI_QUERY_CG_TYPE"
    ∷ row 0x1_AD "DALI_QUERY_LAST_SCENE"
    ∷ row 0x1_AE "DALI_QUERY_LAST_SCENE_IS_CURRENT"
    -- 2: types of replies
    ∷ row 0x2_A0 "OK"
    ∷ row 0x2_A1 "ANSWER"
    ∷ row 0x2_A2 "NO_ANSWER"
    ∷ row 0x2_A3 "ERROR"
    -- 3: error codes
    ∷ row 0x3_01 "CHECKSUM"
    ∷ row 0x3_02 "SHORT_CIRCUIT"
    ∷ row 0x3_03 "RECEIVE_ERROR"
    ∷ row 0x3_04 "UNKNOWN_CMD"
    ∷ row 0x3_B0 "PAID_FEATURE"
    ∷ row 0x3_B1 "INVALID_ARGS"
    ∷ row 0x3_B2 "CMD_REFUSED"
    ∷ row 0x3_B3 "QUEUE_FAILURE"
    ∷ row 0x3_B4 "RESPONSE_UNAVAIL"
    ∷ row 0x3_B5 "OTHER_DALI_ERROR"
    ∷ row 0x3_B6 "MAX_LIMIT"
    ∷ row 0x3_B7 "UNEXPECTED_RESULT"
    ∷ row 0x3_B8 "UNKNOWN_TARGET"
    -- 4: types of events
    ∷ row 0x4_00 "BUTTON_PRESS"
    ∷ row 0x4_01 "BUTTON_HOLD"
    ∷ row 0x4_02 "ABSOLUTE_INPUT"
    ∷ row 0x4_03 "LEVEL_CHANGE"
    ∷ row 0x4_04 "GROUP_LEVEL_CHANGE"
    ∷ row 0x4_05 "SCENE_CHANGE"
    ∷ row 0x4_06 "IS_OCCUPIED"
    ∷ row 0x4_07 "IS_UNOCCUPIED"
    ∷ row 0x4_08 "COLOUR_CHANGED"
    ∷ row 0x4_09 "PROFILE_CHANGED"
    ∷ []

-- the name of a number: 7 where it has none
unfoldable pub name_in : List Row → ℕ → Answer (List ℕ)
name_in [] key = refused 7
name_in (row k s ∷ rows) key = pick (eqb k key) (full (text s)) (name_in rows key)

unfoldable pub name_of : ℕ → ℕ → Answer (List ℕ)
name_of kind number = name_in table (kind * 256 + number)

-- the bytes of a name, none where there is none
abbrev pub named : Answer (List ℕ) → List ℕ
named (refused k) = []
named (full s) = s

unfoldable pub name_text : ℕ → ℕ → List ℕ
name_text kind number = named (name_of kind number)
