-- "Each limit is named once, with the thing it limits: file 6 to 16,777,216 bytes; facilities 0 to 4,096; name 0 to 1,023 bytes; width 1 to 4,096 bits."
use Rattle.std.specs.Prelude.{ℕ, ℤ, pos, negsuc}

abbrev pub shortest_file : ℕ
shortest_file = 6

abbrev pub longest_file : ℕ
longest_file = 16777216

-- "a trace of at most 65,536 bytes": of the small program
abbrev pub longest_printed : ℕ
longest_printed = 65536

abbrev pub most_facilities : ℕ
most_facilities = 4096

abbrev pub longest_name : ℕ
longest_name = 1023

abbrev pub widest_facility : ℕ
widest_facility = 4096

-- paper 02, Ask 4: "up to 4,096 facility numbers", a limit of the list alone
abbrev pub longest_column : ℕ
longest_column = 4096

-- paper 02, Ask 1: "All times become signed 64-bit numbers", from -2 ^ 63 to 2 ^ 63 - 1
abbrev pub least_time : ℤ
least_time = negsuc 9223372036854775807

abbrev pub greatest_time : ℤ
greatest_time = pos 9223372036854775807
