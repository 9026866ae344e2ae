use Rattle.lxt_chains.proofs.PassLaws.{head_inside, no_bits, bits_head, bits_far, bits_few, bits_data, codes_judge}
use Rattle.lxt_chains.proofs.groups.bits_pass.Goals as goal

pub returns-then-width-eq0 : goal.returns-then-width-eq0
returns-then-width-eq0 c = no_bits _ _ c.requires.0 _ _ _ c.requires.1.0 c.if-width-eq0.true

pub returns-then-not-head_keeps : goal.returns-then-not-head_keeps
returns-then-not-head_keeps c = bits_head _ _ c.requires.0 _ _ _ c.requires.1.0 c.if-width-eq0.false _ c.head_keeps.ensures c.if-not-head_keeps.true

pub symbols_fit-requires : goal.symbols_fit-requires
symbols_fit-requires c = (c.requires.1.1, head_inside _ _ c.requires.0 _ _ _ c.head_keeps.ensures c.if-not-head_keeps.false)

pub returns-then-not-symbols_fit : goal.returns-then-not-symbols_fit
returns-then-not-symbols_fit c = bits_far _ _ c.requires.0 _ _ _ c.requires.1.0 c.if-width-eq0.false _ c.head_keeps.ensures c.if-not-head_keeps.false _ c.symbols_fit.ensures c.if-not-symbols_fit.true

pub bounds-file-o : goal.bounds-file-o
bounds-file-o c = head_inside _ _ c.requires.0 _ _ _ c.head_keeps.ensures c.if-not-head_keeps.false

pub returns-then-size_of-ne4 : goal.returns-then-size_of-ne4
returns-then-size_of-ne4 c = bits_few _ _ c.requires.0 _ _ _ c.requires.1.0 c.if-width-eq0.false _ c.head_keeps.ensures c.if-not-head_keeps.false _ c.symbols_fit.ensures c.if-not-symbols_fit.false _ c.size_of.ensures.0 c.if-size_of-ne4.true

pub data_at-requires : goal.data_at-requires
data_at-requires c = head_inside _ _ c.requires.0 _ _ _ c.head_keeps.ensures c.if-not-head_keeps.false

pub codes_allowed-requires : goal.codes_allowed-requires
codes_allowed-requires c = (c.requires.1.0, bits_data _ _ c.requires.0 _ _ _ c.requires.1.0 c.if-width-eq0.false _ c.head_keeps.ensures c.if-not-head_keeps.false _ c.symbols_fit.ensures c.if-not-symbols_fit.false _ c.size_of.ensures.0 c.if-size_of-ne4.false _ c.data_at.ensures.0 c.requires.1.1)

pub returns : goal.returns
returns c = codes_judge _ _ c.requires.0 _ _ _ c.requires.1.0 c.if-width-eq0.false _ c.head_keeps.ensures c.if-not-head_keeps.false _ c.symbols_fit.ensures c.if-not-symbols_fit.false _ c.size_of.ensures.0 c.if-size_of-ne4.false _ c.data_at.ensures.0 _ c.codes_allowed.ensures
