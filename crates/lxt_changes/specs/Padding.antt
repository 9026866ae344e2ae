-- What looking at the padding of a change asks of the file.
use Rattle.std.specs.Prelude.{ℕ, ◌+◌, ◌≤◌, ◌<◌, ◌≡◌, true, List, length}
use Rattle.lxt_format.specs.Changes.{command_of, data_at, symbol_size, packed_size}
use Rattle.lxt_format.specs.declared.Kind.{Kind}
use Rattle.lxt_changes.specs.Faults.{symbolic}

-- the change at o starts in the file, and its symbols, where it has any, lie in it
pub record Inside (s : List ℕ) (kind : Kind) (width o : ℕ) : Type 0 where
  pub starts : o < length s
  pub symbols : symbolic kind ≡ true → data_at s o + packed_size (symbol_size (command_of s o)) width ≤ length s
