-- Worked texts, by computation: a good one gives the worked setting of document 01, and bad ones say where and what.
use mathlib.Core.Path.{◌≡◌, refl}
use mathlib.Core.List.{◌++◌}
use Prim.Native.String.{String}
use Rattle.std.specs.Prelude.{Some, None, Ok, Err}
use Rattle.rules.specs.Listing.{text}
use Rattle.rules.specs.Worked.{worked, packet_lane}
use Rattle.rules.specs.Tests as tests
use Rattle.rules.specs.Settings.{zone, ranges_ok, channel_ok, channels_agree, channels_ok, kind_ok, lane_ok, lanes_differ, lanes_ok, setting_ok, no_setting}
use Rattle.rules.specs.Refusals.{channel_at, lane_at}
use Rattle.setting_text.specs.declared.Wanted.TheVariants as want
use Rattle.setting_text.specs.declared.Fact.TheVariants as fact
use Rattle.setting_text.specs.declared.Says.TheVariants as say
use Rattle.setting_text.specs.declared.Finding.TheVariants as finds
use Rattle.setting_text.specs.Texts.{until, full, lines, said, words, first, others, digits, is_number, value, number_of}
use Rattle.setting_text.specs.Table.{item, frame_lines, part_lines, channel_line, lane_head, packets_end, access_end, table, place, turned, step, follow, through, heard}
use Rattle.setting_text.specs.Facts.{nothing, take_line, gather, zoneless, parsed}

-- "F 32, I 0, no check, spacecraft 42, bit 0": with a comment, blanks, a leading zero and a carriage return.
abbrev facts : String
facts = "# worked frames\nframe length 0032\n spacecraft\t42\r\nsource\ninsert 0 # none\n\ncheck no\n"

-- "Channel 3 service 0, n 1, no OCF, map 5, packet lane 0, longest 64."
abbrev lists : String
lists = "channel 3 service 0 count 1 ocf no\nlane channel 3 service 0 map 5 packets longest 64"

-- The text of document 01's worked setting; the last line needs no line feed.
pub good : parsed (text facts ++ text lists) ≡ Ok (worked packet_lane)
unfolding text tests.all tests.every tests.first worked zone ranges_ok channel_ok channels_agree channels_ok kind_ok lane_ok lanes_differ lanes_ok setting_ok no_setting channel_at lane_at until full lines said words first others digits is_number value number_of item frame_lines part_lines channel_line lane_head packets_end access_end table place turned step follow through heard nothing take_line gather zoneless parsed
good = refl

-- A frame length of 31, and words after a line's last.
pub short-frame : parsed (text "\nframe length 31") ≡ Err (finds.Line 2 (record { word = Some 2; wanted = (want.Number 32 4096) }))
unfolding text tests.all tests.every tests.first worked zone ranges_ok channel_ok channels_agree channels_ok kind_ok lane_ok lanes_differ lanes_ok setting_ok no_setting channel_at lane_at until full lines said words first others digits is_number value number_of item frame_lines part_lines channel_line lane_head packets_end access_end table place turned step follow through heard nothing take_line gather zoneless parsed
short-frame = refl

pub words_left : parsed (text "frame length 32 33") ≡ Err (finds.Line 1 (record { word = Some 3; wanted = want.End }))
unfolding text tests.all tests.every tests.first worked zone ranges_ok channel_ok channels_agree channels_ok kind_ok lane_ok lanes_differ lanes_ok setting_ok no_setting channel_at lane_at until full lines said words first others digits is_number value number_of item frame_lines part_lines channel_line lane_head packets_end access_end table place turned step follow through heard nothing take_line gather zoneless parsed
words_left = refl

-- Two lanes of one channel and map.
pub second_lane : parsed (text lists ++ text "\nlane channel 3 service 0 map 5 access 4 longest 9")
    ≡ Err (finds.Line 3 (record { word = None; wanted = want.NewMap }))
unfolding text tests.all tests.every tests.first worked zone ranges_ok channel_ok channels_agree channels_ok kind_ok lane_ok lanes_differ lanes_ok setting_ok no_setting channel_at lane_at until full lines said words first others digits is_number value number_of item frame_lines part_lines channel_line lane_head packets_end access_end table place turned step follow through heard nothing take_line gather zoneless parsed
second_lane = refl

-- A text without its lists, and one without its facts.
pub no-channel : parsed (text facts) ≡ Err (finds.Lacks say.Channel)
unfolding text tests.all tests.every tests.first worked zone ranges_ok channel_ok channels_agree channels_ok kind_ok lane_ok lanes_differ lanes_ok setting_ok no_setting channel_at lane_at until full lines said words first others digits is_number value number_of item frame_lines part_lines channel_line lane_head packets_end access_end table place turned step follow through heard nothing take_line gather zoneless parsed
no-channel = refl

pub no_length : parsed (text lists) ≡ Err (finds.Lacks (say.Fact fact.Length))
unfolding text tests.all tests.every tests.first worked zone ranges_ok channel_ok channels_agree channels_ok kind_ok lane_ok lanes_differ lanes_ok setting_ok no_setting channel_at lane_at until full lines said words first others digits is_number value number_of item frame_lines part_lines channel_line lane_head packets_end access_end table place turned step follow through heard nothing take_line gather zoneless parsed
no_length = refl

-- A frame of 32 octets has no room for an insert zone of 64: virtual channel 3, service 0, has no zone.
pub no_zone : parsed (text "frame length 32\nspacecraft 0\ndestination\ninsert 64\ncheck yes\n" ++ text lists) ≡ Err (finds.Zone 3 0)
unfolding text tests.all tests.every tests.first worked zone ranges_ok channel_ok channels_agree channels_ok kind_ok lane_ok lanes_differ lanes_ok setting_ok no_setting channel_at lane_at until full lines said words first others digits is_number value number_of item frame_lines part_lines channel_line lane_head packets_end access_end table place turned step follow through heard nothing take_line gather zoneless parsed
no_zone = refl
