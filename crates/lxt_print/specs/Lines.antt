-- Paper 01, "A small program": the lines that it prints, as ASCII bytes. "Fields are joined by one space", and each line ends in one line feed.
use Rattle.std.specs.Prelude.{ℕ, zero, suc, ◌+◌, ◌/◌, ◌%◌, List, [], ◌∷◌, ◌++◌, length, take, drop, ℤ, pos, negsuc, leb, ltb, eqb, if◌then◌else◌}
use Rattle.lxt_format.specs.Limits.{longest_printed}
use Rattle.lxt_format.specs.Basics.{◌unless◌, ◌or_else◌, range, joined}
use Rattle.lxt_format.specs.Sections.{facility_count}
use Rattle.lxt_format.specs.Names.{name_of}
use Rattle.lxt_format.specs.Geometry.{is_alias, root_of, own_facts}
use Rattle.lxt_format.specs.Times.{time_of}
use Rattle.lxt_format.specs.Changes.{digits}
use Rattle.lxt_format.specs.Values.{Content, bits, real, text, not_driven, content_of}
use Rattle.lxt_format.specs.Judge.{file_refusal}
use Rattle.lxt_format.specs.Walk.{full_list, all_asked}
use Rattle.lxt_format.specs.declared.Kind.{Kind}
use Rattle.lxt_format.specs.declared.Kind.TheVariants.{Bits, Integer, Real, Text}
use Rattle.lxt_format.specs.declared.Pair.{Pair}

-- ---- numbers as text

-- a 64-bit number in decimal: at most twenty digits
unfoldable pub decimal_within : ℕ → ℕ → List ℕ
decimal_within zero n = []
decimal_within (suc k) n = (if ltb n 10 then [] else decimal_within k (n / 10)) ++ ((48 + n % 10) ∷ [])

unfoldable pub decimal : ℕ → List ℕ
decimal n = decimal_within 20 n

-- paper 02, Ask 1: times are signed; a negative one has "-" before its digits
unfoldable pub signed_decimal : ℤ → List ℕ
signed_decimal (pos n) = decimal n
signed_decimal (negsuc n) = 0x2D ∷ decimal (suc n)

-- "lower-case hexadecimal digits"
unfoldable pub hex_digit : ℕ → ℕ
hex_digit d = if ltb d 10 then 48 + d else 87 + d

-- "two a byte"
unfoldable pub hex_byte : ℕ → List ℕ
hex_byte b = hex_digit (b / 16) ∷ hex_digit (b % 16) ∷ []

unfoldable pub hex_bytes : List ℕ → List ℕ
hex_bytes bytes = joined hex_byte bytes

-- ---- the lines

abbrev pub space : List ℕ
space = 0x20 ∷ []

abbrev pub newline : List ℕ
newline = 0x0A ∷ []

-- words, spelled as one number each
unfoldable pub facility_word : List ℕ
unfolding digits
facility_word = digits 8 8 0x666163696C697479

unfoldable pub change_word : List ℕ
unfolding digits
change_word = digits 8 6 0x6368616E6765

unfoldable pub done_word : List ℕ
unfolding digits
done_word = digits 8 4 0x646F6E65

unfoldable pub refused_word : List ℕ
unfolding digits
refused_word = digits 8 7 0x72656675736564

unfoldable pub alias_word : List ℕ
unfolding digits
alias_word = digits 8 5 0x616C696173

-- "Kinds are bits, integer, real, text"
unfoldable pub kind_word : Kind → List ℕ
unfolding digits
kind_word Bits = digits 8 4 0x62697473
kind_word Integer = digits 8 7 0x696E7465676572
kind_word Real = digits 8 4 0x7265616C
kind_word Text = digits 8 4 0x74657874

-- "facility 0 a bits 1" (number, name, kind, width); "an alias prints "alias", then its root's number"
unfoldable pub facility_line : List ℕ → ℕ → List ℕ
facility_line s f =
    let kind : List ℕ = if is_alias s f then alias_word else kind_word (own_facts s f).kind in
    let number : ℕ = if is_alias s f then root_of s f else (own_facts s f).width in
    facility_word ++ space ++ decimal f ++ space ++ name_of s f ++ space ++ kind ++ space ++ decimal number ++ newline

-- "Reals are 16 lower-case hexadecimal digits, highest byte first, texts two a byte."
unfoldable pub value_text : List ℕ → Content → List ℕ
unfolding digits
value_text s (bits symbols) = symbols
value_text s (real x b) = hex_bytes (digits 8 8 b)
value_text s (text start size) = hex_bytes (take size (drop start s))
value_text s not_driven = []

-- "change 0 6 5 0" (number, offset, time, value)
unfoldable pub change_line : List ℕ → Pair → List ℕ
change_line s p =
    change_word ++ space ++ decimal p.number ++ space ++ decimal p.offset ++ space ++ signed_decimal (time_of s p.offset) ++ space
    ++ value_text s (content_of s p.number p.offset)
    ++ newline

-- "done 2" (changes printed)
unfoldable pub done_line : ℕ → List ℕ
done_line count = done_word ++ space ++ decimal count ++ newline

-- "Otherwise it prints only "refused" and the number"
unfoldable pub refused_line : ℕ → List ℕ
refused_line k = refused_word ++ space ++ decimal k ++ newline

-- ---- the whole

-- "prints facilities, then changes in walk order with all asked for"; "done" counts them
unfoldable pub accepted_text : List ℕ → List ℕ
accepted_text s =
    joined (facility_line s) (range 0 (facility_count s))
    ++ joined (change_line s) (full_list s (all_asked s))
    ++ done_line (length (full_list s (all_asked s)))

-- "a trace of at most 65,536 bytes"; "longer input is 1"
unfoldable pub print_refusal : List ℕ → ℕ
print_refusal s = 1 unless leb (length s) longest_printed or_else file_refusal s

unfoldable pub printed : List ℕ → List ℕ
printed s = if eqb (print_refusal s) 0 then accepted_text s else refused_line (print_refusal s)
