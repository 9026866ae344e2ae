use borrow.Author.Rules.{rules}
use Rattle.lxt_sections.proofs.ListLaws.{put_out}
use Rattle.lxt_sections.proofs.put.Goals as goal

pub returns-else-tag-lt-TAGS : goal.returns-else-tag-lt-TAGS
returns-else-tag-lt-TAGS c = search (put_out, rules)
