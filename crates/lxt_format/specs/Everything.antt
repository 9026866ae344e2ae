-- Every definition open, for the examples: they hold by computing.
use Rattle.lxt_format.specs.Basics.{range, all, any, select, joined, total, first_fault}
use Rattle.lxt_format.specs.Bytes.{number_at, u16_at, u32_at, numbers_at, signed, to_zero}
use Rattle.lxt_format.specs.Sections.{length_allowed, starts_right, ends_right, list_from, listing_of, value_in, section_of, present, end_of, changes_from, facility_count, wide_times, times_at, time_count, nothing_compressed, times_once, sections_present, body_size, body_inside, bodies_inside, count_allowed, timescale_allowed, timescale_of, initial_of}
use Rattle.lxt_format.specs.Names.{names_in, memory_of, name_table, names_allowed, names_size, name_of}
use Rattle.lxt_format.specs.Geometry.{rows_of, msb_of, lsb_of, flags_of, is_alias, flags_allowed, kind_of_flags, width_between, geometry_allowed, geometries_allowed, facts_by, own_facts, root_within, root_of, aliases_allowed, roots_of, facts_of, sync_of}
use Rattle.lxt_format.specs.Times.{first_time, last_time, positions_at, position_deltas, time_delta_bytes, time_deltas, sums_by, positions_of, times_of, table_allowed, times_allowed, time_from, time_of}
use Rattle.lxt_format.specs.Reals.{place_of, test_bytes, is_reordering, byte_order, is_real, has_real, real_test_allowed, bits_in_order, real_bits, real_of}
use Rattle.lxt_format.specs.Changes.{command_of, delta_size, delta_of, data_at, previous_of, command_allowed, symbol_size, packed_size, digits, unpack, codes_at, codes_allowed, unused_bits, padding_clean, data_size, data_allowed, clean_at, change_end, previous_allowed, fault_at, chain_within, chain_of, chain_fault, chain_clean}
use Rattle.lxt_format.specs.Values.{symbol_of, symbols_at, content_by, content_of, latest_at, change_at, visited_in, visited_at, initial_by, content_at, source_of, source_by, text_at}
use Rattle.lxt_format.specs.Judge.{tables_refusal_by, tables_refusal, fault_from, chains_refusal, changes_of, all_changes, end_at, apart, pairwise, changes_apart, file_refusal, clean_from, all_clean, summary_of, judge}
use Rattle.lxt_format.specs.ShortTimes.{short_sections_present, short_count, short_size, short_bodies_inside, short_positions, short_times, short_table_allowed, short_times_allowed, short_time_of, short_latest_at, short_tables_refusal, short_refusal}
use Rattle.lxt_format.specs.RisingTimes.{rising_table_allowed, rising_times_allowed, rising_tables_refusal, rising_refusal}
use Rattle.lxt_format.specs.Walk.{asks, insert, sort, full_list, all_asked, start_offsets, numbered, with_offsets, offsets_of, pair_allowed, record_allowed, top, step, handed_out, offsets_after, flat}
use Rattle.lxt_format.specs.Questions.{facility_refusal, facts_asked, root_asked, name_refusal, name_asked, name_part, holding_name, name_buffer, chain_asked, change_refusal, before_asked, written, holding_bits, reading_refusal, change_asked, change_buffer, value_refusal, value_asked, value_buffer, text_asked, part_by, text_part, place_by, widths_of, column_refusal, column_bits, record_of, record_by, column_records, column_visited, column_asked, column_buffer, column_output, start_refusal, start_asked, start_record, carry_refusal, carry_pairs, carry_offsets, carry_asked, carry_record, carry_output}
use Rattle.lxt_format.specs.Stray.{whole_size, in_body, in_change, stray_at, stray_bytes, stray_asked}

unfoldable pub everything : Unit {0}
unfolding range all any select joined total first_fault number_at u16_at u32_at numbers_at signed to_zero length_allowed starts_right ends_right list_from listing_of value_in section_of present end_of changes_from facility_count wide_times times_at time_count nothing_compressed times_once sections_present body_size body_inside bodies_inside count_allowed timescale_allowed timescale_of initial_of names_in memory_of name_table names_allowed names_size name_of rows_of msb_of lsb_of flags_of is_alias flags_allowed kind_of_flags width_between geometry_allowed geometries_allowed facts_by own_facts root_within root_of aliases_allowed roots_of facts_of sync_of first_time last_time positions_at position_deltas time_delta_bytes time_deltas sums_by positions_of times_of table_allowed times_allowed time_from time_of place_of test_bytes is_reordering byte_order is_real has_real real_test_allowed bits_in_order real_bits real_of command_of delta_size delta_of data_at previous_of command_allowed symbol_size packed_size digits unpack codes_at codes_allowed unused_bits padding_clean data_size data_allowed clean_at change_end previous_allowed fault_at chain_within chain_of chain_fault chain_clean symbol_of symbols_at content_by content_of latest_at change_at visited_in visited_at initial_by content_at source_of source_by text_at tables_refusal_by tables_refusal fault_from chains_refusal changes_of all_changes end_at apart pairwise changes_apart file_refusal clean_from all_clean summary_of judge short_sections_present short_count short_size short_bodies_inside short_positions short_times short_table_allowed short_times_allowed short_time_of short_latest_at short_tables_refusal short_refusal rising_table_allowed rising_times_allowed rising_tables_refusal rising_refusal asks insert sort full_list all_asked start_offsets numbered with_offsets offsets_of pair_allowed record_allowed top step handed_out offsets_after flat facility_refusal facts_asked root_asked name_refusal name_asked name_part holding_name name_buffer chain_asked change_refusal before_asked written holding_bits reading_refusal change_asked change_buffer value_refusal value_asked value_buffer text_asked part_by text_part place_by widths_of column_refusal column_bits record_of record_by column_records column_visited column_asked column_buffer column_output start_refusal start_asked start_record carry_refusal carry_pairs carry_offsets carry_asked carry_record carry_output whole_size in_body in_change stray_at stray_bytes stray_asked
everything = tt
