use Rattle.lxt_sections.proofs.FrameLaws.{frame-ways, six}
use borrow.Author.Tests.{not-false}
use Rattle.lxt_sections.proofs.frame.Goals as goal

pub returns-then-not-length_is_allowed : goal.returns-then-not-length_is_allowed
returns-then-not-length_is_allowed c = search frame-ways

pub starts_right-requires : goal.starts_right-requires
starts_right-requires c = search (six, not-false)

pub returns-then-not-starts_right : goal.returns-then-not-starts_right
returns-then-not-starts_right c = search frame-ways

pub ends_right-requires : goal.ends_right-requires
ends_right-requires c = search (six, not-false)

pub returns-then-not-ends_right : goal.returns-then-not-ends_right
returns-then-not-ends_right c = search frame-ways

pub returns : goal.returns
returns c = search frame-ways
