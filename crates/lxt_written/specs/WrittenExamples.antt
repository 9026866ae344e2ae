-- Worked examples of paper 02, Ask 5, byte for byte, as one table under one statement; and inputs that are refused.
use Rattle.std.specs.Prelude.{ℕ, refl, List, [], ◌∷◌, ◌++◌, length, get_or, replicate, set, ℤ, pos, negsuc}
use Rattle.std.proofs.Math.Seq.{slice}
use Rattle.lxt_format.specs.Everything.{everything}
use Rattle.lxt_format.specs.Traces.{spelled}
use Rattle.lxt_format.specs.Examples.{Row, row, Holds}
use Rattle.lxt_written.specs.Input.{trace_of, kind_of_code, part, facility_of, change_of, facility_row_allowed, change_row_allowed, rows_allowed}
use Rattle.lxt_written.specs.WrittenChanges.{big_endian, code_of, can_hold, lowest_of_least, least, command_for, packed_codes, pack}
use Rattle.lxt_written.specs.WrittenChanges.{packed_symbols, data_for, fewest_bytes, change_bytes, last_of, lay_at, lay_from, laid, changes_bytes}
use Rattle.lxt_written.specs.WrittenFile.{shared, name_bytes, names_from, names_of, names_body, flags_for, msb_for, lsb_for, geometry_bytes, geometry_body, sync_body}
use Rattle.lxt_written.specs.WrittenFile.{new_times_after, entries_of, deltas_from, first_time_of, last_time_of, times_body, signed_byte}
use Rattle.lxt_written.specs.WrittenFile.{any_real, sections_of, places_from, places_of, item_bytes, list_bytes, file_of}
use Rattle.lxt_written.specs.Writing.{no_zero, name_allowed, facts_for, facility_allowed, is_symbol, is_bit, value_allowed}
use Rattle.lxt_written.specs.Writing.{value_of_allowed, changes_allowed, trace_allowed, input_allowed, write_refusal, write_asked, write_buffer}

-- ---- every definition of the writer open, with those of paper 01

-- the input
unfoldable input_open : Unit {0}
unfolding kind_of_code part facility_of change_of facility_row_allowed change_row_allowed rows_allowed
input_open = tt

-- the changes
unfoldable changes_open : Unit {0}
unfolding big_endian code_of can_hold lowest_of_least least command_for packed_codes pack packed_symbols data_for fewest_bytes change_bytes last_of lay_at lay_from laid changes_bytes
changes_open = tt

-- the sections 03, 04 and 02
unfoldable tables_open : Unit {0}
unfolding shared name_bytes names_from names_of names_body flags_for msb_for lsb_for geometry_bytes geometry_body sync_body
tables_open = tt

-- the others, and the file
unfoldable file_open : Unit {0}
unfolding new_times_after entries_of deltas_from first_time_of last_time_of times_body signed_byte any_real sections_of places_from places_of item_bytes list_bytes file_of
file_open = tt

-- the refusals and the call
unfoldable call_open : Unit {0}
unfolding no_zero name_allowed facts_for facility_allowed is_symbol is_bit value_allowed value_of_allowed changes_allowed trace_allowed input_allowed write_refusal write_asked write_buffer
call_open = tt

unfoldable writer_open : Unit {0}
unfolding everything input_open changes_open tables_open file_open call_open
writer_open = tt

-- ---- inputs

-- an input, as it is lent
record Lent : Type 0 where
  facilities : List (List ℕ)
  names : List ℕ
  changes : List (List ℕ)
  values : List ℕ
  initial : ℕ
  timescale : ℤ

-- what is in the buffer afterwards, and the refusal
abbrev buffer_of : Lent → List ℕ → List ℕ
buffer_of i out = write_buffer i.facilities i.names i.changes i.values i.initial i.timescale out

abbrev refusal_of : Lent → ℕ → ℕ
refusal_of i room = write_refusal i.facilities i.names i.changes i.values i.initial i.timescale room

-- E1: a bits 0 0; initial 3, timescale -9; (0, time 0, "1"), (0, 5, "0")
abbrev input1 : Lent
input1 =
    record {
      facilities = (0 ∷ 1 ∷ 0 ∷ 0 ∷ 0 ∷ []) ∷ [];
      names = spelled 1 0x61;
      changes = (0 ∷ 0 ∷ 0 ∷ 1 ∷ []) ∷ (0 ∷ 5 ∷ 1 ∷ 1 ∷ []) ∷ [];
      values = spelled 2 0x3130;
      initial = 3;
      timescale = negsuc 8;
    }

-- E2: nothing; initial 0, timescale 0
abbrev input2 : Lent
input2 =
    record {
      facilities = [];
      names = [];
      changes = [];
      values = [];
      initial = 0;
      timescale = pos 0;
    }

-- E3: "" bits 2 0; at time 9 "010", "0ZX", "0HX", "XXX", "---"
abbrev input3 : Lent
input3 =
    record {
      facilities = (0 ∷ 0 ∷ 0 ∷ 2 ∷ 0 ∷ []) ∷ [];
      names = [];
      changes = (0 ∷ 9 ∷ 0 ∷ 3 ∷ []) ∷ (0 ∷ 9 ∷ 3 ∷ 3 ∷ []) ∷ (0 ∷ 9 ∷ 6 ∷ 3 ∷ []) ∷ (0 ∷ 9 ∷ 9 ∷ 3 ∷ []) ∷ (0 ∷ 9 ∷ 12 ∷ 3 ∷ []) ∷ [];
      values = spelled 15 0x303130305A583048585858582D2D2D;
      initial = 3;
      timescale = negsuc 8;
    }

-- E4: an integer given with 7, -7; all 0 and all 1 at 1, "1" 0^30 "1" at 2
abbrev input4 : Lent
input4 =
    record {
      facilities = (0 ∷ 1 ∷ 1 ∷ 7 ∷ 4294967289 ∷ []) ∷ [];
      names = spelled 1 0x69;
      changes = (0 ∷ 1 ∷ 0 ∷ 32 ∷ []) ∷ (0 ∷ 1 ∷ 32 ∷ 32 ∷ []) ∷ (0 ∷ 2 ∷ 63 ∷ 32 ∷ []) ∷ [];
      values = replicate 32 0x30 ++ replicate 32 0x31 ++ replicate 30 0x30 ++ (0x31 ∷ []);
      initial = 3;
      timescale = negsuc 8;
    }

-- E5: a real: 3.14159, a NaN 7FF0000000000001, -0
abbrev input5 : Lent
input5 =
    record {
      facilities = (0 ∷ 1 ∷ 2 ∷ 5 ∷ 6 ∷ []) ∷ [];
      names = spelled 1 0x72;
      changes = (0 ∷ 0 ∷ 0 ∷ 8 ∷ []) ∷ (0 ∷ 0 ∷ 8 ∷ 8 ∷ []) ∷ (0 ∷ 1 ∷ 16 ∷ 8 ∷ []) ∷ [];
      values = spelled 20 0x6E861BF0F9210940010000000000F07F00000000 ++ spelled 4 0x00000080;
      initial = 3;
      timescale = negsuc 8;
    }

-- E6: texts alpha, apple, application, zero; (3, 4, "hi"), (0, 4, "")
abbrev input6 : Lent
input6 =
    record {
      facilities = (0 ∷ 5 ∷ 3 ∷ 0 ∷ 0 ∷ []) ∷ (5 ∷ 5 ∷ 3 ∷ 1 ∷ 1 ∷ []) ∷ (10 ∷ 11 ∷ 3 ∷ 0 ∷ 0 ∷ []) ∷ (21 ∷ 4 ∷ 3 ∷ 0 ∷ 0 ∷ []) ∷ [];
      names = spelled 20 0x616C7068616170706C656170706C69636174696F ++ spelled 5 0x6E7A65726F;
      changes = (3 ∷ 4 ∷ 0 ∷ 2 ∷ []) ∷ (0 ∷ 4 ∷ 2 ∷ 0 ∷ []) ∷ [];
      values = spelled 2 0x6869;
      initial = 3;
      timescale = negsuc 8;
    }

-- E7: "ck" and "ck" bits 1 0; (0, 0, "0"), (1, 0, "0Z"), (0, 1, "1"), (1, 4294967295, "01"), where the first is of width 1
abbrev input7 : Lent
input7 =
    record {
      facilities = (0 ∷ 2 ∷ 0 ∷ 0 ∷ 0 ∷ []) ∷ (0 ∷ 2 ∷ 0 ∷ 1 ∷ 0 ∷ []) ∷ [];
      names = spelled 2 0x636B;
      changes = (0 ∷ 0 ∷ 0 ∷ 1 ∷ []) ∷ (1 ∷ 0 ∷ 0 ∷ 2 ∷ []) ∷ (0 ∷ 1 ∷ 3 ∷ 1 ∷ []) ∷ (1 ∷ 4294967295 ∷ 2 ∷ 2 ∷ []) ∷ [];
      values = spelled 4 0x305A3031;
      initial = 3;
      timescale = negsuc 8;
    }

-- the file that an input means
abbrev file_bytes : Lent → List ℕ
file_bytes i = file_of (trace_of i.facilities i.names i.changes i.values i.initial i.timescale)

-- ---- the examples, and what is refused

-- all bytes of E1 and of E2
abbrev bytes1 : List ℕ
bytes1 =
    spelled 20 0x0138000404020300000000010000000200006100
    ++ spelled 20 0x0000000000000000000000000000000000000006
    ++ spelled 20 0x0000000200000000000000050000000400000002
    ++ spelled 20 0x0000000000000005F70300000000040100000024
    ++ spelled 20 0x0200000008030000001404000000440500000028
    ++ spelled 7 0x060000004507B4

abbrev bytes2 : List ℕ
bytes2 =
    spelled 20 0x0138000400000000000000000000000000000000
    ++ spelled 20 0x0000000000000000000004010000000C02000000
    ++ spelled 20 0x04030000000C0400000018050000000C06000000
    ++ spelled 3 0x1907B4

pub written : List Row
written =
    row 1 (file_bytes input1) bytes1
    ∷ row 1 (length (file_bytes input1)) (107)
    ∷ row 2 (file_bytes input2) bytes2
    ∷ row 2 (length (file_bytes input2)) (63)
    ∷ row 3 (slice 4 18 (file_bytes input3)) (spelled 14 0x00024001012C0201043006020B00)
    ∷ row 3 (slice 49 69 (file_bytes input3)) (spelled 20 0x0000000100000009000000090000000400000009)
    ∷ row 3 (length (file_bytes input3)) (108)
    ∷ row 4 (slice 4 14 (file_bytes input4)) (spelled 10 0x03020400000080000001)
    ∷ row 4 (slice 26 42 (file_bytes input4)) (spelled 16 0x000000000000001F0000000000000001)
    ∷ row 4 (length (file_bytes input4)) (113)
    ∷ row 5 (slice 4 34 (file_bytes input5)) (spelled 20 0x00026E861BF0F92109400008010000000000F07F ++ spelled 10 0x00080000000000000080)
    ∷ row 5 (slice 96 104 (file_bytes input5)) (spelled 8 0x6E861BF0F9210940)
    ∷ row 5 (slice 140 146 (file_bytes input5)) (spelled 6 0x0000006008B4)
    ∷ row 5 (length (file_bytes input5)) (146)
    ∷ row 6 (slice 4 12 (file_bytes input6)) (spelled 8 0x0002686900000700)
    ∷ row 6 (slice 12 52 (file_bytes input6)) (spelled 20 0x000000040000001D0000616C7068610000017070 ++ spelled 20 0x6C6500000469636174696F6E0000007A65726F00)
    ∷ row 6 (length (file_bytes input6)) (191)
    ∷ row 7 (slice 4 14 (file_bytes input7)) (spelled 10 0x03020104200403000340)
    ∷ row 7 (slice 70 106 (file_bytes input7)) (spelled 20 0x0000000300000000FFFFFFFF0000000400000005 ++ spelled 16 0x000000020000000000000001FFFFFFFE)
    ∷ row 7 (length (file_bytes input7)) (145)
    ∷ []

pub examples : Holds written
unfolding writer_open spelled written
examples =
    (refl, (refl, (refl, (refl, (refl, (refl, (refl, (refl, (refl, (refl, (refl, (refl, (refl, (refl, (refl, (refl, (refl, (refl, (refl, (refl, tt))))))))))))))))))))

-- E1 with one part of it changed
abbrev with : List (List ℕ) → List ℕ → List (List ℕ) → List ℕ → ℕ → ℤ → Lent
with facilities names changes values initial timescale =
    record { facilities = facilities; names = names; changes = changes; values = values; initial = initial; timescale = timescale }

-- the parts of E1
abbrev facility1 : List (List ℕ)
facility1 = input1.facilities

abbrev changes1 : List (List ℕ)
changes1 = input1.changes

abbrev a : List ℕ
a = input1.names

abbrev values1 : List ℕ
values1 = input1.values

-- a table with the number at place j of row i made x
abbrev at : List (List ℕ) → ℕ → ℕ → ℕ → List (List ℕ)
at table i j x = set table i (set (get_or table i []) j x)

-- E1 with a fault, 24, against what is just allowed, 25 for a buffer of 4 bytes
pub refusals : List Row
refusals =
    row 1 (refusal_of (with facility1 a changes1 values1 3 (pos 3)) 4) (24)
    ∷ row 1 (refusal_of (with facility1 a changes1 values1 3 (negsuc 21)) 4) (24)
    ∷ row 1 (refusal_of (with facility1 a changes1 values1 3 (pos 2)) 4) (25)
    ∷ row 1 (refusal_of (with facility1 a changes1 values1 3 (negsuc 20)) 4) (25)
    ∷ row 2 (refusal_of (with facility1 a changes1 values1 9 (negsuc 8)) 4) (24)
    ∷ row 2 (refusal_of (with facility1 a changes1 values1 8 (negsuc 8)) 4) (25)
    ∷ row 3 (refusal_of (with facility1 a (at changes1 0 0 1) values1 3 (negsuc 8)) 4) (24)
    ∷ row 4 (refusal_of (with facility1 a (at changes1 0 3 2) values1 3 (negsuc 8)) 4) (24)
    ∷ row 4 (refusal_of (with facility1 a (at changes1 0 3 0) values1 3 (negsuc 8)) 4) (24)
    ∷ row 5 (refusal_of (with facility1 a changes1 (spelled 2 0x3178) 3 (negsuc 8)) 4) (24)
    ∷ row 5 (refusal_of (with facility1 a changes1 (spelled 2 0x312D) 3 (negsuc 8)) 4) (25)
    ∷ row 6 (refusal_of (with facility1 a (at (at changes1 0 1 5) 1 1 4) values1 3 (negsuc 8)) 4) (24)
    ∷ row 6 (refusal_of (with facility1 a (at changes1 0 1 5) values1 3 (negsuc 8)) 4) (25)
    ∷ row 7 (refusal_of (with facility1 (spelled 1 0) changes1 values1 3 (negsuc 8)) 4) (24)
    ∷ row 7 (refusal_of (with (at facility1 0 1 2) a changes1 values1 3 (negsuc 8)) 4) (24)
    ∷ row 7 (refusal_of (with (at facility1 0 0 1) a changes1 values1 3 (negsuc 8)) 4) (24)
    ∷ row 8 (refusal_of (with (at facility1 0 2 4) a changes1 values1 3 (negsuc 8)) 4) (24)
    ∷ row 8 (refusal_of (with (at facility1 0 2 4294967295) a changes1 values1 3 (negsuc 8)) 4) (24)
    ∷ row 8 (refusal_of (with facility1 a (at changes1 1 2 2) values1 3 (negsuc 8)) 4) (24)
    ∷ row 9 (refusal_of (with ((0 ∷ 1 ∷ 0 ∷ 4096 ∷ 0 ∷ []) ∷ []) a [] values1 3 (negsuc 8)) 4) (24)
    ∷ row 9 (refusal_of (with ((0 ∷ 1 ∷ 0 ∷ 4095 ∷ 0 ∷ []) ∷ []) a [] values1 3 (negsuc 8)) 4) (25)
    ∷ row 9 (refusal_of (with ((0 ∷ 1 ∷ 0 ∷ 2147483647 ∷ 2147483648 ∷ []) ∷ []) a [] values1 3 (negsuc 8)) 4) (24)
    ∷ []

pub refusals_hold : Holds refusals
unfolding writer_open spelled refusals
refusals_hold =
    (refl, (refl, (refl, (refl, (refl, (refl, (refl, (refl, (refl, (refl, (refl, (refl, (refl, (refl, (refl, (refl, (refl, (refl, (refl, (refl, (refl, (refl, tt))))))))))))))))))))))

-- 25 and the buffer, and values of the other kinds that are not allowed
pub others : List Row
others =
    row 10 (refusal_of input1 106) (25)
    ∷ row 10 (refusal_of input1 107) (0)
    ∷ row 10 (buffer_of input1 (replicate 106 0xFF)) (replicate 106 0xFF)
    ∷ row 10 (buffer_of input1 (replicate 110 0xFF)) (file_bytes input1 ++ replicate 3 0xFF)
    ∷ row 11 (refusal_of (with input6.facilities input6.names input6.changes (spelled 2 0x6800) 3 (negsuc 8)) 4) (24)
    ∷ row 12 (refusal_of (with input5.facilities input5.names (at input5.changes 0 3 7) input5.values 3 (negsuc 8)) 4) (24)
    ∷ row 13 (refusal_of (with input4.facilities input4.names input4.changes (set input4.values 3 0x5A) 3 (negsuc 8)) 4) (24)
    ∷ []

pub others_hold : Holds others
unfolding writer_open spelled others
others_hold = (refl, (refl, (refl, (refl, (refl, (refl, (refl, tt)))))))
