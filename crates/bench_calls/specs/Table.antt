-- docs/BENCH.md: the calls, in its order, with the groups that each takes.
use Rattle.std.specs.Prelude.{ℕ, suc, Bool, true, false, List, [], ◌∷◌, ◌++◌, eqb}
use Prim.Native.String.{String}
use Rattle.refusal.specs.Test.{pick}
use Rattle.words.specs.Words.{text}

-- a call's name, and as digits of one hexadecimal number: its own number (2 digits), how many groups it takes (1), how many bytes the
-- first has at least (3) and at most (3), and how many the second (3) and the third (3) have at most. FFF is any: no line names so many bytes
pub data Row : Type 0 where
  row : String → ℕ → Row

abbrev pub table : List Row
table =
    -- Datagrams
    row "request" 0x10_1_000_FFF_FFF_FFF
    ∷ row "write_basic" 0x70_2_006_006_FFF_FFF
    ∷ row "write_unicast" 0x71_2_007_007_FFF_FFF
    ∷ row "write_colour_xy" 0x77_2_007_007_FFF_FFF
    ∷ row "write_colour_tc" 0x78_2_005_005_FFF_FFF
    ∷ row "write_colour_rgbwaf" 0x79_2_009_009_FFF_FFF
    ∷ row "write_basic_quiet" 0x7A_2_006_006_FFF_FFF
    ∷ row "write_unicast_quiet" 0x7B_2_007_007_FFF_FFF
    ∷ row "write_colour_xy_quiet" 0x7C_2_007_007_FFF_FFF
    ∷ row "write_colour_tc_quiet" 0x7D_2_005_005_FFF_FFF
    ∷ row "write_colour_rgbwaf_quiet" 0x7E_2_009_009_FFF_FFF
    ∷ row "reply" 0x90_1_000_FFF_FFF_FFF
    ∷ row "reply_data" 0xA0_1_000_FFF_FFF_FFF
    ∷ row "error_code" 0x91_1_000_FFF_FFF_FFF
    ∷ row "write_reply" 0x80_3_002_002_FFF_FFF
    ∷ row "event" 0x92_1_000_FFF_FFF_FFF
    ∷ row "event_data" 0xA1_1_000_FFF_FFF_FFF
    ∷ row "write_event" 0x81_3_00B_00B_FFF_FFF
    ∷ row "event_two" 0x94_1_000_FFF_FFF_FFF
    ∷ row "event_two_data" 0xA2_1_000_FFF_FFF_FFF
    ∷ row "write_event_two" 0x83_3_00B_00B_FFF_FFF
    ∷ row "relay_request" 0x72_2_000_FFF_FFF_FFF
    ∷ row "relay_reply" 0x73_2_000_FFF_FFF_FFF
    ∷ row "relay_event" 0x74_2_000_FFF_FFF_FFF
    ∷ row "relay_event_two" 0x76_2_000_FFF_FFF_FFF
    -- Parts of datagrams
    ∷ row "sum" 0x20_1_000_FFF_FFF_FFF
    ∷ row "frame" 0x82_3_000_FFF_FFF_FFF
    ∷ row "known" 0x21_1_001_001_FFF_FFF
    ∷ row "shape" 0x22_1_001_001_FFF_FFF
    ∷ row "fits" 0x23_1_005_005_FFF_FFF
    ∷ row "inside" 0x28_1_001_001_FFF_FFF
    ∷ row "table" 0x2A_1_001_001_FFF_FFF
    ∷ row "error_name" 0x24_1_001_001_FFF_FFF
    ∷ row "event_type" 0x93_1_001_001_FFF_FFF
    ∷ row "group_target" 0x25_1_001_001_FFF_FFF
    ∷ row "lights" 0x11_1_001_001_FFF_FFF
    ∷ row "status" 0x12_1_001_001_FFF_FFF
    ∷ row "device" 0x26_1_001_001_FFF_FFF
    ∷ row "device_number" 0x27_1_001_001_FFF_FFF
    ∷ row "name" 0x75_2_002_002_FFF_FFF
    -- Reply data
    ∷ row "high_first" 0x30_1_002_002_FFF_FFF
    ∷ row "mask" 0x31_1_000_FFF_FFF_FFF
    ∷ row "count_types" 0x32_1_002_002_FFF_FFF
    ∷ row "lowest_type" 0x33_1_002_002_FFF_FFF
    ∷ row "scenes" 0x34_1_000_FFF_FFF_FFF
    ∷ row "gear" 0x35_1_000_FFF_FFF_FFF
    ∷ row "count_gear" 0x36_1_008_008_FFF_FFF
    ∷ row "lowest_gear" 0x37_1_008_008_FFF_FFF
    ∷ row "types" 0x38_1_000_FFF_FFF_FFF
    ∷ row "filters" 0x39_1_000_FFF_FFF_FFF
    ∷ row "filter" 0x3A_2_008_008_FFF_FFF
    -- The book of unanswered requests
    ∷ row "book_fresh" 0x40_1_000_000_FFF_FFF
    ∷ row "book_set" 0x41_3_001_001_100_400
    ∷ row "ask" 0x42_1_005_005_FFF_FFF
    ∷ row "answer" 0x43_1_001_001_FFF_FFF
    ∷ row "give_up" 0x45_1_008_008_FFF_FFF
    ∷ row "book_show" 0x44_1_000_000_FFF_FFF
    -- Lines: the request line, the reply line
    ∷ row "fresh_request" 0x50_1_000_000_FFF_FFF
    ∷ row "hold_request" 0x51_2_008_008_043_FFF
    ∷ row "feed_request" 0x52_1_000_FFF_FFF_FFF
    ∷ row "close_request" 0x53_1_000_000_FFF_FFF
    ∷ row "show_request" 0x54_1_000_000_FFF_FFF
    ∷ row "settle_request" 0x55_1_000_FFF_FFF_FFF
    ∷ row "item_request" 0x56_2_001_001_FFF_FFF
    ∷ row "fresh_reply" 0x60_1_000_000_FFF_FFF
    ∷ row "hold_reply" 0x61_2_008_008_043_FFF
    ∷ row "feed_reply" 0x62_1_000_FFF_FFF_FFF
    ∷ row "close_reply" 0x63_1_000_000_FFF_FFF
    ∷ row "show_reply" 0x64_1_000_000_FFF_FFF
    ∷ row "settle_reply" 0x65_1_000_FFF_FFF_FFF
    ∷ row "item_reply" 0x66_2_001_001_FFF_FFF
    ∷ row "quiet" 0x29_1_000_FFF_FFF_FFF
    -- The capture
    ∷ row "capture_set" 0xC0_2_008_008_514_FFF
    ∷ row "summary_set" 0xC1_1_03A_03A_FFF_FFF
    ∷ row "mark_set" 0xC2_1_00D_00D_FFF_FFF
    ∷ row "capture_empty" 0xC3_1_001_001_FFF_FFF
    ∷ row "capture_append" 0xC4_2_004_004_FFF_FFF
    ∷ row "capture_append_at" 0xC5_2_004_004_FFF_FFF
    ∷ row "capture_run" 0xCB_2_004_004_FFF_FFF
    ∷ row "capture_run_at" 0xCC_2_004_004_FFF_FFF
    ∷ row "capture_open" 0xC6_1_000_000_FFF_FFF
    ∷ row "capture_count" 0xC7_1_000_000_FFF_FFF
    ∷ row "capture_prefix" 0xC8_1_000_000_FFF_FFF
    ∷ row "capture_record" 0xC9_1_008_008_FFF_FFF
    ∷ row "capture_show" 0xCA_1_000_000_FFF_FFF
    -- Seasons
    ∷ row "seasons" 0xD0_1_017_017_FFF_FFF
    ∷ row "seasons_begin" 0xD1_1_017_017_FFF_FFF
    ∷ row "seasons_part" 0xD2_1_000_FFF_FFF_FFF
    ∷ row "seasons_end" 0xD3_1_000_000_FFF_FFF
    -- A filter plan
    ∷ row "plan" 0xE0_2_000_FFF_FFF_FFF
    -- Clocks
    ∷ row "clock" 0xF0_2_001_001_FFF_FFF
    ∷ row "clock_runs" 0xF1_2_006_006_FFF_FFF
    ∷ row "write_clock" 0x7F_2_00B_00B_FFF_FFF
    -- Help
    ∷ row "help" 0xB0_1_000_000_FFF_FFF
    ∷ []

-- whether two runs are the same
unfoldable pub same_as : List ℕ → List ℕ → Bool
same_as [] [] = true
same_as [] (y ∷ t) = false
same_as (x ∷ s) [] = false
same_as (x ∷ s) (y ∷ t) = pick (eqb x y) (same_as s t) false

-- the number of the first row that has this name, or 0
unfoldable pub row_in : List Row → List ℕ → ℕ
row_in [] name = 0
row_in (row s n ∷ rows) name = pick (same_as (text s) name) n (row_in rows name)

unfoldable pub row_of : List ℕ → ℕ
row_of name = row_in table name

-- the place of the first of some names that is this one, or how many there are
unfoldable pub place_in : List ℕ → List (List ℕ) → ℕ
place_in name [] = 0
place_in name (w ∷ ws) = pick (same_as w name) 0 (suc (place_in name ws))

-- "the names of all calls, in the order of this page", with a blank between two
abbrev pub named_from : String → List Row → List ℕ
named_from s [] = text s
named_from s (row t n ∷ rows) = text s ++ (32 ∷ named_from t rows)

abbrev pub names_in : List Row → List ℕ
names_in [] = []
names_in (row s n ∷ rows) = named_from s rows

abbrev pub help_texts : List (List ℕ)
help_texts = text "0 calls " ∷ names_in table ∷ []
