use Rattle.lxt_print.proofs.LineLaws.{put_is, bits_word, integer_word, real_word, text_word}
use borrow.Author.Rules.{rules}
use Rattle.lxt_print.proofs.lines.put_kind.Goals as goal

pub returns-in-Bits : goal.returns-in-Bits
returns-in-Bits c = (put_is (bits_word _ c.in-Bits.is) c.put_bytes.ensures, search rules)

pub returns-in-Integer : goal.returns-in-Integer
returns-in-Integer c = (put_is (integer_word _ c.in-Integer.is) c.put_bytes-in-Integer.ensures, search rules)

pub returns-in-Real : goal.returns-in-Real
returns-in-Real c = (put_is (real_word _ c.in-Real.is) c.put_bytes-in-Real.ensures, search rules)

pub returns-in-Text : goal.returns-in-Text
returns-in-Text c = (put_is (text_word _ c.in-Text.is) c.put_bytes-in-Text.ensures, search rules)
