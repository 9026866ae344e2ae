use Rattle.lxt_reader.proofs.TextWays.{size_small, text_is}
use Rattle.lxt_reader.proofs.texts.text_of.Goals as goal

pub overflow_cast-result-2 : goal.overflow_cast-result-2
overflow_cast-result-2 c = record { fits = size_small _ _ _ c.requires _ _ c.data_at-start.ensures.0 c.length-length.ensures.0 }

pub returns : goal.returns
returns c = text_is _ _ _ c.requires _ _ c.data_at-start.ensures.0 c.length-length.ensures.0
