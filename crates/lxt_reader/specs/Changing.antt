-- What is known of the chain of a facility that was asked about, in an accepted file.
use Rattle.std.specs.Prelude.{ℕ, List}
use Rattle.lxt_format.specs.Geometry.{root_of, sync_of, facts_of}
use Rattle.lxt_tables.specs.Stage.{tables_of}
use Rattle.lxt_reader.specs.declared.changes.Chain.{Chain}

-- where the chain of its root starts, the root's facts, and the tables
unfoldable pub chain_at : List ℕ → ℕ → Chain
chain_at s f = record { start = sync_of s (root_of s f); facts = facts_of s f; tables = tables_of s }
