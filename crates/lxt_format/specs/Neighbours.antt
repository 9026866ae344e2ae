-- That each rule does something: for each refusal number files and questions on either side of the rule, and the answers of a trace with every kind.
use Rattle.std.specs.Prelude.{ℕ, ◌+◌, ◌≡◌, refl, true, false, List, [], ◌∷◌, ◌++◌, map, set, take, drop, replicate, ℤ, pos, negsuc}
use Rattle.std.specs.Float.{binary64}
use Rattle.std.specs.Float.Ieee.{of_bits}
use Rattle.lxt_format.specs.Limits.{longest_file}
use Rattle.lxt_format.specs.Basics.{◌unless◌, Answer, given, refused, range}
use Rattle.lxt_format.specs.Sections.{length_allowed, starts_right, ends_right, listing_of, nothing_compressed, times_once, sections_present, bodies_inside, count_allowed, facility_count}
use Rattle.lxt_format.specs.Names.{name_of}
use Rattle.lxt_format.specs.Changes.{previous_of}
use Rattle.lxt_format.specs.Values.{symbol_of}
use Rattle.lxt_format.specs.Judge.{tables_refusal_by, tables_refusal, judge, all_changes, end_at, file_refusal}
use Rattle.lxt_format.specs.Walk.{full_list}
use Rattle.lxt_format.specs.Answers.{Shown, bits_of, real_of, text_of, nothing, Timed}
use Rattle.lxt_format.specs.Questions.{facts_asked, root_asked, name_asked, name_part, name_buffer, before_asked, change_asked, change_buffer, value_asked, value_buffer, start_asked, start_record, carry_asked, carry_record, carry_output}
use Rattle.lxt_format.specs.Everything.{everything}
use Rattle.lxt_format.specs.Traces.{spelled, with16, with32, facilities_named}
use Rattle.lxt_format.specs.Traces.{trace, version, oldest_delta, newest_command, newest_delta, name_memory, name_prefix, name_zero, rows, msb, lsb, flags, sync_entry}
use Rattle.lxt_format.specs.Traces.{entries, first_of_times, last_of_times, position_delta0, position_delta1, time_delta0, time_delta1, changes_value, sync_value, names_value, geometry_value, times_value, last_byte}
use Rattle.lxt_format.specs.Traces.{mixed, command5, delta5, data5, command8, delta8, command14, command24, data29, command37, entries_of_mixed, sync_of_mixed, rows_of_mixed, msb_of_mixed, lsb_of_mixed, flags_of_mixed, timescale_byte, initial_byte, real_test, test_value}
use Rattle.lxt_format.specs.Examples.{Row, row, Holds, pair}
use Rattle.lxt_format.specs.declared.Summary.{Summary}
use Rattle.lxt_format.specs.declared.Pair.{Pair}
use Rattle.lxt_format.specs.declared.Kind.TheVariants.{Bits, Integer, Real, Text}

-- the small trace with one more item of the section list, next to the last byte
end_item : ℕ → List ℕ
unfolding trace spelled
end_item x = take last_byte trace ++ spelled 5 x ++ (0xB4 ∷ [])

-- a file with END at 68 with one more item, next to END
nearer_end : ℕ → List ℕ → List ℕ
unfolding spelled
nearer_end x s = take changes_value s ++ spelled 5 x ++ drop changes_value s

-- a trace without facilities, END at 24, with its times at o
abbrev times_at : ℕ → List ℕ
times_at o = with32 (facilities_named 0 0 []) 45 o

-- the trace `mixed` with its real test past END, in two more items of the section list
test_past_end : List ℕ
unfolding mixed spelled
test_past_end = with32 (take 243 mixed ++ spelled 10 0x6E861BF040F921090020 ++ drop 243 mixed) (test_value + 10) 243

-- the prefix length and the zero around a name of k bytes
abbrev long_name : ℕ → List ℕ
long_name k = spelled 2 0 ++ replicate k 0x61 ++ (0 ∷ [])

-- the trace `mixed` in which no root has a change
quiet : List ℕ
unfolding mixed spelled
quiet = with32 (with32 (with32 (with32 mixed (sync_of_mixed 0) 0) (sync_of_mixed 1) 0) (sync_of_mixed 2) 0) (sync_of_mixed 3) 0

-- the trace `mixed` in which facility 2 is a text too, with its newest change at o
two_texts : ℕ → List ℕ
unfolding mixed spelled
two_texts o = with32 (with32 mixed (flags_of_mixed 2) 4) (sync_of_mixed 2) o

-- what judging the trace `mixed` answers with that timescale and initial symbol
abbrev judged : ℤ → ℕ → Answer Summary
judged scale code = given (record { facilities = 6; changes = 5; end = 242; timescale = scale; initial = code; clean = true })

-- a change that is read, with clean padding, and one that is refused
abbrev read : ℕ → Shown → Timed
read time value = record { time = pos time; value = given value; clean = true }

abbrev unread : ℕ → Timed
unread refusal = record { time = pos 0; value = refused refusal; clean = false }

-- a record of the trace `mixed` in which the facilities 2 and 3 have pending offsets
abbrev pending_at : ℕ → ℕ → List Pair
pending_at o p = pair 0 0 ∷ pair 1 0 ∷ pair 2 o ∷ pair 3 p ∷ pair 4 0 ∷ pair 5 0 ∷ []

-- a record of the trace `mixed` in which the alias 4 has the pending offset o
abbrev pending : ℕ → List Pair
pending o = pair 0 0 ∷ pair 1 0 ∷ pair 2 0 ∷ pair 3 0 ∷ pair 4 o ∷ pair 5 0 ∷ []

-- the refusal that a row is about, a file or a question, and the refusal or the answer that it gets
pub neighbours : List Row
neighbours =
    row 1 (file_refusal (spelled 5 0x01380004B4)) 1
    ∷ row 1 (file_refusal (spelled 6 0x0138000400B4)) 7
    ∷ row 1 longest_file 16777216
    ∷ row 2 (file_refusal (set trace 0 0)) 2
    ∷ row 2 (file_refusal (set trace 1 0x39)) 2
    ∷ row 2 (file_refusal (with16 trace version 5)) 2
    ∷ row 2 (file_refusal (with16 trace version 0x0104)) 2
    ∷ row 2 (file_refusal (with16 trace version 0)) 0
    ∷ row 3 (file_refusal (set trace last_byte 0xB5)) 3
    ∷ row 3 (file_refusal trace) 0
    ∷ row 4 (file_refusal (spelled 6 0x0138000407B4)) 4
    ∷ row 4 (file_refusal (spelled 10 0x01380004000000FF07B4)) 4
    ∷ row 4 (file_refusal (spelled 10 0x01380000000000FF07B4)) 4
    ∷ row 4 (file_refusal (spelled 11 0x0138000400000000FF07B4)) 7
    ∷ row 5 (file_refusal (end_item 0x0000000112)) 5
    ∷ row 5 (file_refusal (end_item 0x000000010A)) 5
    ∷ row 5 (file_refusal (end_item 0x000000000A)) 0
    ∷ row 5 (file_refusal (end_item 0x0000000113)) 0
    ∷ row 5 (file_refusal (nearer_end 0x000000000A (end_item 0x000000010A))) 0
    ∷ row 5 (file_refusal (nearer_end 0x000000010A (end_item 0x000000000A))) 5
    ∷ row 6 (file_refusal (end_item 0x0000000109)) 6
    ∷ row 6 (file_refusal (end_item 0x0000000009)) 0
    ∷ row 6 (file_refusal (nearer_end 0x0000000009 (end_item 0x0000000109))) 0
    ∷ row 7 (file_refusal (with32 trace changes_value 0)) 7
    ∷ row 7 (file_refusal (with32 trace sync_value 0)) 7
    ∷ row 7 (file_refusal (with32 trace names_value 0)) 7
    ∷ row 7 (file_refusal (with32 trace geometry_value 0)) 7
    ∷ row 7 (file_refusal (with32 trace times_value 0)) 7
    ∷ row 7 (file_refusal (nearer_end 0x0000000001 trace)) 7
    ∷ row 8 (file_refusal (with32 trace changes_value 3)) 8
    ∷ row 8 (file_refusal (with32 trace changes_value 69)) 8
    ∷ row 8 (file_refusal (with32 (with32 trace changes_value 68) sync_entry 0)) 0
    ∷ row 8 (file_refusal (with32 trace changes_value 68)) 15
    ∷ row 8 (file_refusal (with32 trace sync_value 65)) 8
    ∷ row 8 (file_refusal (with32 trace sync_value 64)) 0
    ∷ row 8 (file_refusal (with32 trace sync_value 3)) 8
    ∷ row 8 (file_refusal (with32 trace names_value 61)) 8
    ∷ row 8 (file_refusal (with32 trace names_value 60)) 0
    ∷ row 8 (file_refusal (with32 trace geometry_value 53)) 8
    ∷ row 8 (file_refusal (with32 trace geometry_value 52)) 11
    ∷ row 8 (file_refusal (with32 trace times_value 41)) 8
    ∷ row 8 (file_refusal (times_at 13)) 8
    ∷ row 8 (file_refusal (times_at 12)) 0
    ∷ row 8 (file_refusal (end_item 0x0000004405)) 8
    ∷ row 8 (file_refusal (end_item 0x0000004305)) 0
    ∷ row 8 (file_refusal (end_item 0x0000004407)) 8
    ∷ row 8 (file_refusal (end_item 0x0000000307)) 8
    ∷ row 8 (file_refusal (end_item 0x0000004307)) 0
    ∷ row 8 (file_refusal (end_item 0x0000FF0008)) 0
    ∷ row 9 (9 unless count_allowed 4096) 0
    ∷ row 9 (9 unless count_allowed 4097) 9
    ∷ row 10 (file_refusal (with32 trace name_memory 1)) 10
    ∷ row 10 (file_refusal (with16 trace name_prefix 1)) 10
    ∷ row 10 (file_refusal (set trace name_zero 0x61)) 10
    ∷ row 10 (file_refusal (with32 (set trace name_zero 0x61) name_memory 3)) 0
    ∷ row 10 (file_refusal (with32 trace name_memory 200)) 0
    ∷ row 10 (file_refusal (facilities_named 0 0 [])) 0
    ∷ row 10 (file_refusal (facilities_named 1 9 (0 ∷ []))) 10
    ∷ row 10 (file_refusal (facilities_named 1 9 (0 ∷ 0 ∷ []))) 10
    ∷ row 10 (file_refusal (facilities_named 1 9 (0 ∷ 0 ∷ 0 ∷ []))) 0
    ∷ row 10 (file_refusal (facilities_named 1 9 (0 ∷ 0 ∷ 0x61 ∷ []))) 10
    ∷ row 10 (file_refusal (facilities_named 1 2000 (long_name 1023))) 0
    ∷ row 10 (file_refusal (facilities_named 1 2000 (long_name 1024))) 10
    ∷ row 11 (file_refusal (with32 trace rows 1)) 11
    ∷ row 11 (file_refusal (with32 trace flags 3)) 11
    ∷ row 11 (file_refusal (with32 trace flags 16)) 11
    ∷ row 11 (file_refusal (with32 (with32 trace sync_entry 0) msb 4096)) 11
    ∷ row 11 (file_refusal (with32 (with32 trace sync_entry 0) msb 4095)) 0
    ∷ row 11 (file_refusal (with32 (with32 (with32 trace sync_entry 0) msb 0xFFFFFFFF) lsb 4095)) 11
    ∷ row 11 (file_refusal (with32 (with32 (with32 trace sync_entry 0) msb 0xFFFFFFFF) lsb 4094)) 0
    ∷ row 11 (file_refusal (with32 (with32 trace flags 1) msb 4096)) 0
    ∷ row 11 (file_refusal (with32 trace flags 4)) 17
    ∷ row 12 (file_refusal (with32 trace flags 8)) 12
    ∷ row 12 (file_refusal (with32 (with32 trace flags 8) rows 1)) 12
    ∷ row 12 (file_refusal mixed) 0
    ∷ row 12 (file_refusal (with32 mixed (rows_of_mixed 4) 6)) 12
    ∷ row 12 (file_refusal (with32 mixed (rows_of_mixed 5) 4)) 12
    ∷ row 12 (file_refusal (with32 mixed (rows_of_mixed 5) 2)) 0
    ∷ row 13 (file_refusal (with32 trace entries 0)) 13
    ∷ row 13 (file_refusal (with32 (with32 trace entries 0) sync_entry 0)) 0
    ∷ row 13 (file_refusal (with32 quiet entries_of_mixed 0)) 0
    ∷ row 13 (file_refusal (with32 trace position_delta0 3)) 13
    ∷ row 13 (file_refusal (with32 trace position_delta0 5)) 0
    ∷ row 13 (file_refusal (with32 trace position_delta1 0)) 0
    ∷ row 13 (file_refusal (with32 trace position_delta1 64)) 13
    ∷ row 13 (file_refusal (with32 trace position_delta1 63)) 0
    ∷ row 13 (file_refusal (with32 trace time_delta1 0)) 0
    ∷ row 13 (file_refusal (with32 trace last_of_times 4)) 13
    ∷ row 13 (file_refusal (with32 trace first_of_times 1)) 13
    ∷ row 13 (file_refusal (with32 (with32 trace time_delta0 1) last_of_times 6)) 0
    ∷ row 13 (file_refusal (with32 trace position_delta1 0xFFFFFFFF)) 13
    ∷ row 14 (file_refusal (set mixed real_test 0x87)) 14
    ∷ row 14 (file_refusal (set (set mixed (real_test + 1) 0x6E) (real_test + 2) 0x1B)) 0
    ∷ row 14 (file_refusal (with32 mixed test_value 0)) 14
    ∷ row 14 (file_refusal (with32 mixed test_value 235)) 14
    ∷ row 14 (file_refusal (with32 mixed test_value 3)) 14
    ∷ row 14 (file_refusal test_past_end) 14
    ∷ row 14 (file_refusal (with32 (with32 mixed (flags_of_mixed 2) 4) test_value 0)) 0
    ∷ row 15 (file_refusal (with32 trace sync_entry 3)) 15
    ∷ row 15 (file_refusal (with32 trace sync_entry 67)) 15
    ∷ row 15 (file_refusal (with32 (with32 (with32 trace time_delta1 0x033A) last_of_times 0x033A) sync_entry 66)) 0
    ∷ row 15 (file_refusal (with32 trace sync_entry 68)) 15
    ∷ row 15 (file_refusal (set trace newest_delta 3)) 15
    ∷ row 15 (file_refusal (set mixed delta5 2)) 15
    ∷ row 15 (file_refusal (set mixed delta8 2)) 15
    ∷ row 15 (file_refusal (set (set mixed delta5 2) command37 5)) 15
    ∷ row 15 (file_refusal (set trace oldest_delta 1)) 15
    ∷ row 15 (previous_of (replicate 0x1000 0 ++ spelled 4 0x20000210) 0x1000) 0x0DEE
    ∷ row 15 (previous_of (replicate 0x1000 0 ++ spelled 5 0x3000000210) 0x1000) 0x0DEE
    ∷ row 16 (file_refusal (set trace newest_command 0x43)) 16
    ∷ row 16 (file_refusal (set trace newest_command 0x40)) 16
    ∷ row 16 (file_refusal (set trace newest_command 0x83)) 16
    ∷ row 16 (file_refusal (with32 (with32 (with32 trace time_delta1 0x45) last_of_times 0x45) sync_entry 67)) 16
    ∷ row 16 (file_refusal (set trace newest_command 0x0C)) 16
    ∷ row 16 (file_refusal (set trace newest_command 0x0B)) 0
    ∷ row 16 (file_refusal (set mixed data5 0xB5)) 0
    ∷ row 16 (file_refusal (set mixed data5 0xB8)) 0
    ∷ row 16 (file_refusal (set mixed command5 0)) 0
    ∷ row 16 (file_refusal (set (set mixed command5 0) data5 0xA0)) 0
    ∷ row 16 (file_refusal (set (set mixed data5 0xB5) delta5 2)) 15
    ∷ row 16 (file_refusal (with32 (set mixed data29 0x90) (sync_of_mixed 1) 3)) 16
    ∷ row 16 (file_refusal (set mixed data29 0x90)) 16
    ∷ row 16 (file_refusal (set mixed data29 0x8F)) 0
    ∷ row 16 (file_refusal (set mixed data29 0x70)) 0
    ∷ row 16 (file_refusal (set (set mixed data29 0x90) delta5 2)) 16
    ∷ row 16 (file_refusal (set mixed command8 1)) 16
    ∷ row 16 (file_refusal (set mixed command8 2)) 16
    ∷ row 16 (file_refusal (set mixed command37 5)) 16
    ∷ row 16 (file_refusal (set mixed command37 3)) 0
    ∷ row 16 (file_refusal (set mixed command14 0x0F)) 0
    ∷ row 16 (file_refusal (with32 (set mixed command14 0x3F) (command14 + 1) 12)) 17
    ∷ row 16 (file_refusal (set mixed command14 0x4F)) 16
    ∷ row 16 (file_refusal (set mixed command24 0x0F)) 0
    ∷ row 16 (file_refusal (set mixed command24 0x4F)) 16
    ∷ row 17 (file_refusal (with32 trace sync_entry 7)) 17
    ∷ row 17 (file_refusal (with32 mixed (sync_of_mixed 4) 0)) 0
    ∷ row 17 (map (end_at mixed) (all_changes mixed)) (34 ∷ 8 ∷ 39 ∷ 14 ∷ 24 ∷ 37 ∷ 29 ∷ [])
    ∷ row 17 (file_refusal (two_texts 24)) 17
    ∷ row 17 (file_refusal (two_texts 14)) 0
    ∷ row 18 (root_asked trace 0) (given 0)
    ∷ row 18 (root_asked trace 1) (refused 18)
    ∷ row 19 (before_asked trace 0 6) (given 4)
    ∷ row 19 (before_asked trace 0 4) (given 0)
    ∷ row 19 (before_asked trace 0 5) (refused 19)
    ∷ row 19 (before_asked trace 0 0) (refused 19)
    ∷ row 19 (before_asked mixed 4 29) (given 5)
    ∷ row 20 (carry_asked trace (pair 0 6 ∷ []) 1 2) (given (1, false))
    ∷ row 20 (carry_asked trace (pair 1 6 ∷ []) 1 2) (refused 20)
    ∷ row 20 (carry_asked trace (pair 0 3 ∷ []) 1 2) (refused 20)
    ∷ row 20 (carry_asked trace (pair 0 5 ∷ []) 1 2) (given (1, true))
    ∷ row 20 (carry_asked trace (pair 0 68 ∷ []) 1 2) (refused 20)
    ∷ row 20 (carry_asked (set trace oldest_delta 1) (pair 0 6 ∷ []) 1 2) (refused 20)
    ∷ row 20 (carry_asked mixed (pending 0) 0 0) (given (0, true))
    ∷ row 20 (carry_asked mixed (pending 29) 0 0) (refused 20)
    ∷ row 21 (name_asked trace 0 1023) (given 1)
    ∷ row 21 (name_asked trace 0 1022) (refused 21)
    ∷ row 21 (value_asked trace 0 (pos 0) 1).value (given (bits_of 1))
    ∷ row 21 (value_asked trace 0 (pos 0) 0).value (refused 21)
    ∷ row 21 (change_asked trace 0 6 0) (unread 21)
    ∷ row 21 (change_asked trace 0 5 0) (unread 19)
    ∷ row 21 (carry_asked trace [] 0 0) (refused 21)
    ∷ row 21 (carry_asked trace (pair 0 6 ∷ []) 1 1) (refused 21)
    ∷ row 21 (carry_asked trace (pair 1 6 ∷ []) 1 1) (refused 20)
    ∷ row 21 (start_asked trace (1 ∷ []) 0) (refused 21)
    ∷ row 21 (start_asked trace [] 0) (refused 21)
    ∷ row 21 (start_asked (set trace oldest_delta 1) [] 0) (refused 15)
    ∷ row 22 (start_asked trace (1 ∷ []) 1) (given tt)
    ∷ row 22 (start_asked trace [] 1) (refused 22)
    ∷ row 22 (start_asked trace (1 ∷ 1 ∷ []) 1) (refused 22)
    ∷ []

pub neighbours_hold : Holds neighbours
unfolding everything trace mixed spelled end_item nearer_end test_past_end quiet two_texts neighbours
neighbours_hold =
    (refl, (refl, (refl, (refl, (refl, (refl, (refl, (refl, (refl, (refl, (refl, (refl, (refl, (refl, (refl, (refl, (refl, (refl, (refl, (refl, (refl, (refl, (refl, (refl, (refl, (refl, (refl, (refl, (refl, (refl, (refl, (refl, (refl, (refl, (refl, (refl, (refl, (refl, (refl, (refl, (refl, (refl, (refl, (refl, (refl, (refl, (refl, (refl, (refl, (refl, (refl, (refl, (refl, (refl, (refl, (refl, (refl, (refl, (refl, (refl, (refl, (refl, (refl, (refl, (refl, (refl, (refl, (refl, (refl, (refl, (refl, (refl, (refl, (refl, (refl, (refl, (refl, (refl, (refl, (refl, (refl, (refl, (refl, (refl, (refl, (refl, (refl, (refl, (refl, (refl, (refl, (refl, (refl, (refl, (refl, (refl, (refl, (refl, (refl, (refl, (refl, (refl, (refl, (refl, (refl, (refl, (refl, (refl, (refl, (refl, (refl, (refl, (refl, (refl, (refl, (refl, (refl, (refl, (refl, (refl, (refl, (refl, (refl, (refl, (refl, (refl, (refl, (refl, (refl, (refl, (refl, (refl, (refl, (refl, (refl, (refl, (refl, (refl, (refl, (refl, (refl, (refl, (refl, (refl, (refl, (refl, (refl, (refl, (refl, (refl, (refl, (refl, (refl, (refl, (refl, (refl, (refl, (refl, (refl, (refl, (refl, (refl, (refl, (refl, (refl, (refl, (refl, (refl, (refl, tt)))))))))))))))))))))))))))))))))))))))))))))))))))))))))))))))))))))))))))))))))))))))))))))))))))))))))))))))))))))))))))))))))))))))))))))))))))))))))))))))))))))))))

-- refusal 9 of a whole file. Such a file has 65,000 bytes and more, so this is said of any, by what it keeps, and not computed
pub too_many : (s : List ℕ) → length_allowed s ≡ true → starts_right s ≡ true → ends_right s ≡ true → (listing_of s).listed ≡ true → nothing_compressed s ≡ true
    → times_once s ≡ true → sections_present s ≡ true → bodies_inside s ≡ true → facility_count s ≡ 4097 → file_refusal s ≡ 9
unfolding file_refusal tables_refusal tables_refusal_by count_allowed
too_many s a b c d e f g h n = rw (a, b, c, d, e, f, g, h, n)

-- the answers of the trace `mixed`
pub answers : List Row
answers =
    row 1 (judge mixed) (judged (negsuc 11) 1)
    ∷ row 1 (judge (set mixed timescale_byte 0xEB)) (judged (negsuc 20) 1)
    ∷ row 1 (judge (set mixed timescale_byte 0xEA)) (judged (negsuc 8) 1)
    ∷ row 1 (judge (set mixed timescale_byte 0x02)) (judged (pos 2) 1)
    ∷ row 1 (judge (set mixed timescale_byte 0x03)) (judged (negsuc 8) 1)
    ∷ row 1 (judge (set mixed initial_byte 8)) (judged (negsuc 11) 8)
    ∷ row 1 (judge (set mixed initial_byte 9)) (judged (negsuc 11) 3)
    ∷ row 1 (judge (end_item 0x0000000B05)) (given (record { facilities = 1; changes = 4; end = 68; timescale = pos 1; initial = 3; clean = true }))
    ∷ row 1 (judge (end_item 0x0000000B07)) (given (record { facilities = 1; changes = 4; end = 68; timescale = negsuc 8; initial = 1; clean = true }))
    ∷ row 2 (map (name_of mixed) (range 0 6)) (spelled 3 0x636C6B ∷ spelled 5 0x636F756E74 ∷ spelled 4 0x766F6C74 ∷ spelled 3 0x6D7367 ∷ spelled 4 0x636C6B32 ∷ spelled 4 0x636C6B33 ∷ [])
    ∷ row 3 (map (root_asked mixed) (range 0 6)) (map given (0 ∷ 1 ∷ 2 ∷ 3 ∷ 0 ∷ 0 ∷ []))
    ∷ row 4 (facts_asked mixed 4) (given (record { width = 3; msb = pos 2; lsb = pos 0; kind = Bits }))
    ∷ row 4 (facts_asked mixed 1) (given (record { width = 32; msb = pos 31; lsb = pos 0; kind = Integer }))
    ∷ row 4 (facts_asked mixed 2) (given (record { width = 0; msb = pos 0; lsb = pos 0; kind = Real }))
    ∷ row 4 (facts_asked mixed 3) (given (record { width = 0; msb = pos 0; lsb = pos 0; kind = Text }))
    ∷ row 4 (facts_asked (with32 (with32 (with32 mixed (flags_of_mixed 1) 0) (msb_of_mixed 1) 9) (lsb_of_mixed 1) 2) 1) (given (record { width = 8; msb = pos 9; lsb = pos 2; kind = Bits }))
    ∷ row 4 (facts_asked (with32 trace lsb 0xFFFFFFFF) 0) (given (record { width = 2; msb = pos 0; lsb = negsuc 0; kind = Bits }))
    ∷ row 4 (facts_asked (with32 (with32 trace msb 0x7FFFFFFF) lsb 0x7FFFFFFE) 0) (given (record { width = 2; msb = pos 2147483647; lsb = pos 2147483646; kind = Bits }))
    ∷ row 4 (facts_asked (with32 (with32 trace msb 0x80000000) lsb 0x80000000) 0) (given (record { width = 1; msb = negsuc 2147483647; lsb = negsuc 2147483647; kind = Bits }))
    ∷ row 5 (change_asked mixed 4 29 3) (read 10 (bits_of 3))
    ∷ row 5 (change_buffer mixed 4 29 (replicate 4 0xFF)) (spelled 4 0x48552DFF)
    ∷ row 5 (change_buffer mixed 0 5 (replicate 3 0xFF)) (spelled 3 0x5A5831)
    ∷ row 5 (change_buffer mixed 0 5 (replicate 2 0xFF)) (replicate 2 0xFF)
    ∷ row 5 (map symbol_of (range 0 9)) (spelled 9 0x30315A584855574C2D)
    ∷ row 6 (change_asked mixed 2 14 0) (read 10 (real_of (of_bits binary64 0x3FF8000000010203) 0x3FF8000000010203))
    ∷ row 7 (change_asked mixed 3 24 0) (read 10 (text_of 26 2))
    ∷ row 7 (change_asked mixed 3 34 0) (read 20 (text_of 36 0))
    ∷ row 8 (value_asked mixed 3 (pos 9) 0).value (given nothing)
    ∷ row 8 (value_asked mixed 2 (pos 9) 0).value (given nothing)
    ∷ row 8 (value_asked mixed 4 (pos 20) 3).value (given (bits_of 3))
    ∷ row 8 (value_buffer mixed 1 (pos 9) (replicate 33 0xFF)) (replicate 32 0x31 ++ (0xFF ∷ []))
    ∷ row 8 (value_buffer (set mixed initial_byte 2) 1 (pos 9) (replicate 33 0xFF)) (replicate 32 0x5A ++ (0xFF ∷ []))
    ∷ row 8 (value_buffer mixed 0 (pos 9) (replicate 4 0xFF)) (spelled 4 0x313131FF)
    ∷ row 8 (value_buffer mixed 5 (pos 4294967295) (replicate 4 0xFF)) (spelled 4 0x48552DFF)
    ∷ row 9 (value_buffer mixed 1 (pos 19) (replicate 33 0xFF)) (spelled 33 0x3030303030303030303030303030303030303030303030313030303030303130FF)
    ∷ row 9 (value_buffer mixed 1 (pos 20) (replicate 33 0xFF)) (replicate 32 0x31 ++ (0xFF ∷ []))
    ∷ row 9 (value_buffer mixed 1 (pos 20) (replicate 31 0xFF)) (replicate 31 0xFF)
    ∷ row 10 (full_list mixed (replicate 6 1)) (pair 1 37 ∷ pair 3 34 ∷ pair 0 29 ∷ pair 3 24 ∷ pair 2 14 ∷ pair 1 8 ∷ pair 0 5 ∷ [])
    ∷ row 10 (full_list mixed (0 ∷ 0 ∷ 0 ∷ 0 ∷ 9 ∷ 0 ∷ [])) (pair 0 29 ∷ pair 0 5 ∷ [])
    ∷ row 10 (full_list (two_texts 24) (0 ∷ 0 ∷ 1 ∷ 1 ∷ 0 ∷ 0 ∷ [])) (pair 3 34 ∷ pair 2 24 ∷ pair 3 24 ∷ [])
    ∷ row 10 (carry_output mixed (pending_at 14 14) 1 (replicate 3 0xFF)) (2 ∷ 14 ∷ 0xFF ∷ [])
    ∷ row 10 (carry_asked mixed (pending_at 14 14) 2 4) (given (2, true))
    ∷ row 10 (carry_record mixed (pending_at 14 34) 1 2) (pending_at 14 24)
    ∷ row 10 (carry_record mixed (pending_at 14 34) 1 1) (pending_at 14 34)
    ∷ row 10 (carry_output mixed (pending_at 14 34) 1 (0xFF ∷ [])) (0xFF ∷ [])
    ∷ row 11 (start_record mixed (0 ∷ 0 ∷ 1 ∷ 0 ∷ 1 ∷ 1 ∷ []) (replicate 7 (pair 9 9))) (pair 0 29 ∷ pair 1 0 ∷ pair 2 14 ∷ pair 3 0 ∷ pair 4 0 ∷ pair 5 0 ∷ pair 9 9 ∷ [])
    ∷ row 11 (start_record mixed (0 ∷ []) (replicate 7 (pair 9 9))) (replicate 7 (pair 9 9))
    ∷ row 12 (name_buffer mixed 5 (replicate 1025 0xFF)) (spelled 4 0x636C6B33 ++ replicate 1019 0 ++ (0xFF ∷ 0xFF ∷ []))
    ∷ row 12 (name_buffer mixed 6 (replicate 1025 0xFF)) (replicate 1025 0xFF)
    ∷ row 12 (name_part mixed 5 1023) (spelled 4 0x636C6B33)
    ∷ row 12 (name_part mixed 5 1022) []
    ∷ []

pub answers_hold : Holds answers
unfolding everything trace mixed spelled end_item two_texts answers
answers_hold =
    (refl, (refl, (refl, (refl, (refl, (refl, (refl, (refl, (refl, (refl, (refl, (refl, (refl, (refl, (refl, (refl, (refl, (refl, (refl, (refl, (refl, (refl, (refl, (refl, (refl, (refl, (refl, (refl, (refl, (refl, (refl, (refl, (refl, (refl, (refl, (refl, (refl, (refl, (refl, (refl, (refl, (refl, (refl, (refl, (refl, (refl, (refl, (refl, (refl, (refl, (refl, tt)))))))))))))))))))))))))))))))))))))))))))))))))))
