use Rattle.lxt_facilities.proofs.NameLaws.{name_put}
use Rattle.lxt_facilities.proofs.names.put_name.Goals as goal

pub returns : goal.returns
returns c = name_put _ _ _ _ _ _ c.requires.0 c.requires.2 c.requires.3 c.number.ensures c.copy.ensures c.number-2.ensures
