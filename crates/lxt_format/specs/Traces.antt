-- The traces that the examples are computed on, and where in them stands what the examples change.
use Rattle.std.specs.Prelude.{ℕ, ◌+◌, ◌*◌, List, ◌++◌, take, drop, replicate}
use Rattle.lxt_format.specs.Changes.{digits}

-- k bytes, written as one number
unfoldable pub spelled : ℕ → ℕ → List ℕ
unfolding digits
spelled k x = digits 8 k x

-- a file in which the 16-bit number at o is x, and one in which the 32-bit number at o is x
abbrev pub with16 : List ℕ → ℕ → ℕ → List ℕ
with16 s o x = take o s ++ spelled 2 x ++ drop (o + 2) s

abbrev pub with32 : List ℕ → ℕ → ℕ → List ℕ
with32 s o x = take o s ++ spelled 4 x ++ drop (o + 4) s

-- ---- a whole small trace

-- "A whole small trace": 95 bytes, T = 68, C = 4
unfoldable pub trace : List ℕ
unfolding spelled
trace =
    spelled 4 0x01380004
    ++ spelled 2 0x0402
    ++ spelled 2 0x0300
    ++ spelled 12 0x000000010000000200006100
    ++ spelled 16 0
    ++ spelled 4 0x00000006
    ++ spelled 28 0x00000002000000000000000500000004000000020000000000000005
    ++ spelled 1 0x00
    ++ spelled 5 0x0000000401
    ++ spelled 5 0x0000002402
    ++ spelled 5 0x0000000803
    ++ spelled 5 0x0000001404
    ++ spelled 5 0x0000002806
    ++ spelled 1 0xB4

-- its places: the version,
abbrev pub version : ℕ
version = 2

-- the delta of its oldest change, the command byte and the delta of its newest,
abbrev pub oldest_delta : ℕ
oldest_delta = 5

abbrev pub newest_command : ℕ
newest_command = 6

abbrev pub newest_delta : ℕ
newest_delta = 7

-- M, the prefix length and the zero of its name,
abbrev pub name_memory : ℕ
name_memory = 12

abbrev pub name_prefix : ℕ
name_prefix = 16

abbrev pub name_zero : ℕ
name_zero = 19

-- its geometry and its sync entry,
abbrev pub rows : ℕ
rows = 20

abbrev pub msb : ℕ
msb = 24

abbrev pub lsb : ℕ
lsb = 28

abbrev pub flags : ℕ
flags = 32

abbrev pub sync_entry : ℕ
sync_entry = 36

-- the head of its times, and its deltas,
abbrev pub entries : ℕ
entries = 40

abbrev pub first_of_times : ℕ
first_of_times = 44

abbrev pub last_of_times : ℕ
last_of_times = 48

abbrev pub position_delta0 : ℕ
position_delta0 = 52

abbrev pub position_delta1 : ℕ
position_delta1 = 56

abbrev pub time_delta0 : ℕ
time_delta0 = 60

abbrev pub time_delta1 : ℕ
time_delta1 = 64

-- its END, the values of its section list, and its last byte
abbrev pub end_of_trace : ℕ
end_of_trace = 68

abbrev pub changes_value : ℕ
changes_value = 69

abbrev pub sync_value : ℕ
sync_value = 74

abbrev pub names_value : ℕ
names_value = 79

abbrev pub geometry_value : ℕ
geometry_value = 84

abbrev pub times_value : ℕ
times_value = 89

abbrev pub last_byte : ℕ
last_byte = 94

-- ---- n facilities of 1 bit without changes: their names, with the memory M, stand last before END

abbrev pub facilities_named : ℕ → ℕ → List ℕ → List ℕ
facilities_named n M names =
    spelled 4 0x01380004
    -- times, sync and geometry
    ++ replicate 12 0
    ++ replicate (4 * n) 0
    ++ replicate (16 * n) 0
    ++ spelled 4 n
    ++ spelled 4 M
    ++ names
    -- END
    ++ spelled 1 0x00
    ++ spelled 5 0x0000000401
    ++ spelled 5 0x0000001002
    ++ spelled 4 (16 + 20 * n)
    ++ spelled 1 0x03
    ++ spelled 4 (16 + 4 * n)
    ++ spelled 1 0x04
    ++ spelled 5 0x0000000406
    ++ spelled 1 0xB4

-- ---- the trace of the worked examples of requests

-- Facilities 0 a bits 3, 1 r real, 2 s text, 3 b alias of 0, 4 i integer without changes. T = 198, C = 4, initial symbol Z. Each line of a section begins
-- at the offset that its comment names.
unfoldable pub requested : List ℕ
unfolding spelled
requested =
    spelled 4 0x01380004
    -- 4: facility 0, 011
    ++ spelled 3 0x000260
    -- 7: facility 2, "hi"
    ++ spelled 5 0x0005686900
    -- 12: facility 1, 1.5
    ++ spelled 10 0x000A000000000000F83F
    -- 22: facility 0, 2 bits a symbol, ZX1
    ++ spelled 3 0x0110B4
    -- 25: names
    ++ spelled 8 0x000000050000000A
    ++ spelled 20 0x0000610000007200000073000000620000006900
    -- 53: geometry
    ++ spelled 16 0x00000000000000020000000000000000
    ++ spelled 16 0x00000000000000000000000000000002
    ++ spelled 16 0x00000000000000000000000000000004
    ++ spelled 16 0x00000000000000000000000000000008
    ++ spelled 16 0x000000000000001F0000000000000001
    -- 133: sync
    ++ spelled 20 0x000000160000000C000000070000000000000000
    -- 153: times: 4 is at 10, 7 at 20, 22 at 30
    ++ spelled 12 0x000000030000000A0000001E
    ++ spelled 12 0x00000004000000030000000F
    ++ spelled 12 0x0000000A0000000A0000000A
    -- 189: initial symbol Z
    ++ spelled 1 0x02
    -- 190: real test
    ++ spelled 8 0x6E861BF0F9210940
    -- 198: END
    ++ spelled 1 0x00
    ++ spelled 5 0x0000000401
    ++ spelled 5 0x0000008502
    ++ spelled 5 0x0000001903
    ++ spelled 5 0x0000003504
    ++ spelled 5 0x0000009906
    ++ spelled 5 0x000000BD07
    ++ spelled 5 0x000000BE08
    ++ spelled 1 0xB4

-- ---- a trace with more

-- A trace with every kind, an alias of an alias, a reordered real, C above 4, sections in another order, tags that are skipped and a tag that is met
-- twice. T = 242. Each line of a section begins at the offset that its comment names.
unfoldable pub mixed : List ℕ
unfolding spelled
mixed =
    -- frame, version 0
    spelled 4 0x01380000
    -- unused: C is 5
    ++ spelled 1 0xFF
    -- 5: facility 0, 2 bits a symbol, ZX1
    ++ spelled 3 0x0103B4
    -- 8: facility 1, 1 bit a symbol, 258
    ++ spelled 6 0x000600000102
    -- 14: facility 2
    ++ spelled 10 0x070C020103000000F83F
    -- 24: facility 3, "hi"
    ++ spelled 5 0x0016686900
    -- 29: facility 0, two delta bytes, 4 bits a symbol, HU-
    ++ spelled 5 0x1200164580
    -- 34: facility 3, an empty text
    ++ spelled 3 0x000800
    -- 37: facility 1, all 1
    ++ spelled 2 0x041B
    -- 39: times: 14 is at 10, 30 at 20
    ++ spelled 4 0x00000002
    ++ spelled 4 0x0000000A
    ++ spelled 4 0x00000014
    ++ spelled 4 0x0000000E
    ++ spelled 4 0x00000010
    ++ spelled 4 0x0000000A
    ++ spelled 4 0x0000000A
    -- 67: sync
    ++ spelled 4 0x0000001D
    ++ spelled 4 0x00000025
    ++ spelled 4 0x0000000E
    ++ spelled 4 0x00000022
    ++ spelled 4 0x00000007
    ++ spelled 4 0x00000000
    -- 91: geometry
    ++ spelled 16 0x00000000000000020000000000000000
    ++ spelled 16 0x00000000000000000000000000000001
    ++ spelled 16 0x00000000000000000000000000000002
    ++ spelled 16 0x00000000000000000000000000000004
    ++ spelled 16 0x00000005000000000000000000000008
    ++ spelled 16 0x00000000000000090000000900000028
    -- 187: names: clk, count, volt, msg, clk2, clk3
    ++ spelled 8 0x000000060000001D
    ++ spelled 6 0x0000636C6B00
    ++ spelled 7 0x00016F756E7400
    ++ spelled 7 0x0000766F6C7400
    ++ spelled 6 0x00006D736700
    ++ spelled 7 0x0000636C6B3200
    ++ spelled 4 0x00033300
    -- 232: timescale -12
    ++ spelled 1 0xF4
    -- 233: initial symbol 1
    ++ spelled 1 0x01
    -- 234: real test
    ++ spelled 8 0x861B6EF0F9210940
    -- 242: END
    ++ spelled 1 0x00
    ++ spelled 5 0x0000000501
    ++ spelled 5 0x0000004302
    ++ spelled 5 0x000000BB03
    ++ spelled 5 0x0000005B04
    ++ spelled 5 0x000000E805
    ++ spelled 5 0x0000002706
    ++ spelled 5 0x000000E907
    ++ spelled 5 0x000000EA08
    ++ spelled 5 0x0000004D20
    ++ spelled 5 0x0000005813
    ++ spelled 5 0x0000006314
    ++ spelled 5 0x0000000401
    -- last byte
    ++ spelled 1 0xB4

-- its places: of the changes at 5 and 8 the command byte and the delta,
abbrev pub command5 : ℕ
command5 = 5

abbrev pub delta5 : ℕ
delta5 = 6

abbrev pub command8 : ℕ
command8 = 8

abbrev pub delta8 : ℕ
delta8 = 9

-- the command bytes of the changes at 14, 24 and 37,
abbrev pub command14 : ℕ
command14 = 14

abbrev pub command24 : ℕ
command24 = 24

abbrev pub command37 : ℕ
command37 = 37

-- the first data byte of the change at 8, and the last of the changes at 5 and 29,
abbrev pub data8 : ℕ
data8 = 10

abbrev pub data5 : ℕ
data5 = 7

abbrev pub data29 : ℕ
data29 = 33

-- the count of time entries,
abbrev pub entries_of_mixed : ℕ
entries_of_mixed = 39

-- of facility f the sync entry and the geometry,
abbrev pub sync_of_mixed : ℕ → ℕ
sync_of_mixed f = 67 + 4 * f

abbrev pub rows_of_mixed : ℕ → ℕ
rows_of_mixed f = 91 + 16 * f

abbrev pub msb_of_mixed : ℕ → ℕ
msb_of_mixed f = 91 + 16 * f + 4

abbrev pub lsb_of_mixed : ℕ → ℕ
lsb_of_mixed f = 91 + 16 * f + 8

abbrev pub flags_of_mixed : ℕ → ℕ
flags_of_mixed f = 91 + 16 * f + 12

-- the bodies of one byte, the real test, and where its section list has the value of the test
abbrev pub timescale_byte : ℕ
timescale_byte = 232

abbrev pub initial_byte : ℕ
initial_byte = 233

abbrev pub real_test : ℕ
real_test = 234

abbrev pub test_value : ℕ
test_value = 278
