use Rattle.lxt_pack.proofs.SymbolLaws.{same_is, bits_are, four_are, nine_are}
use mathlib.Core.Path.{refl, sym, ◌∙◌}
use Rattle.lxt_pack.proofs.symbols.command_of_symbols.Goals as goal

pub returns-then-seen : goal.returns-then-seen
returns-then-seen c =
    let seen = c.look-seen.ensures in
    let same = sym seen.0 ∙ c.if-seen.true in
    same_is _ c.requires.1 same c.requires.0 _ _ refl c.code_of.ensures.0

pub returns-then-seen-2 : goal.returns-then-seen-2
returns-then-seen-2 c =
    let seen = c.look-seen.ensures in
    bits_are _ c.requires.1 (sym seen.0 ∙ c.if-seen.false) (sym seen.1 ∙ c.if-seen-2.true)

pub returns-then-all_of_four : goal.returns-then-all_of_four
returns-then-all_of_four c =
    let seen = c.look-seen.ensures in
    let mixed = sym seen.0 ∙ c.if-seen.false in
    let more = sym seen.1 ∙ c.if-seen-2.false in
    four_are _ c.requires.1 mixed more (sym c.all_of_four.ensures ∙ c.if-all_of_four.true)

pub returns : goal.returns
returns c =
    let seen = c.look-seen.ensures in
    let mixed = sym seen.0 ∙ c.if-seen.false in
    let more = sym seen.1 ∙ c.if-seen-2.false in
    nine_are _ c.requires.1 mixed more (sym c.all_of_four.ensures ∙ c.if-all_of_four.false)
