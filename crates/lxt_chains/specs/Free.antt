-- Bytes of a file that lie in none of some parts of it, and in no change.
use Rattle.std.specs.Prelude.{ℕ, ◌+◌, ◌-◌, ◌≤◌, ◌<◌, ◌≡◌, not, List, [], ◌∷◌, length, get_or}
use Rattle.lxt_format.specs.Basics.{range, select}
use Rattle.lxt_format.specs.Judge.{end_at}
use Rattle.lxt_format.specs.declared.Pair.{Pair}
use Rattle.lxt_tables.specs.Parts.{in_parts}

-- how many bytes from offset `from` up to `to` lie in no part
unfoldable pub free_between : List ℕ → ℕ → ℕ → ℕ
free_between parts from to = length (select (λ o. not (in_parts o parts)) (range from (to - from)))

-- how many bytes from offset 4 up to a bound lie in no part and in none of the changes l, which lie below the bound by falling offset and share no byte:
-- those between each change and the one above it, and those below the lowest
unfoldable pub free_around : List ℕ → List ℕ → ℕ → List Pair → ℕ
free_around s parts bound [] = free_between parts 4 bound
free_around s parts bound (p ∷ l) = free_between parts (end_at s p) bound + free_around s parts p.offset l

-- parts in order
pub record Ordered (parts : List ℕ) : Type 0 where
  pub rising : (i j : ℕ) → i ≤ j → j < length parts → get_or parts i 0 ≤ get_or parts j 0

-- the same bytes in order
pub record Sorts (before after : List ℕ) : Type 0 where
  pub ordered : Ordered after
  pub same : (o : ℕ) → in_parts o after ≡ in_parts o before
