-- Parts of a file as numbers: where a part starts, times 2 ^ 32, and where it ends. So parts in the order of their numbers are in the order of their starts.
use Rattle.std.specs.Prelude.{ℕ, ◌+◌, ◌*◌, ◌/◌, ◌%◌, ◌≡◌, Bool, ◌&&◌, List, ltb, leb, if◌then◌else◌}
use Rattle.lxt_format.specs.Basics.{any}
use Rattle.lxt_format.specs.Sections.{inside}
use Rattle.lxt_format.specs.Stray.{body_tags, in_body}

-- the part of `size` bytes from `start` on where it lies between offset 4 and T; else an empty one
unfoldable pub part_of : ℕ → ℕ → ℕ → ℕ
part_of T start size = if inside T start size then start * 4294967296 + (start + size) else 0

unfoldable pub part_start : ℕ → ℕ
part_start x = x / 4294967296

unfoldable pub part_end : ℕ → ℕ
part_end x = x % 4294967296

-- the byte at o lies in a part, and in one of several
unfoldable pub in_part : ℕ → ℕ → Bool
in_part o x = leb (part_start x) o && ltb o (part_end x)

unfoldable pub in_parts : ℕ → List ℕ → Bool
in_parts o parts = any (in_part o) parts

-- parts that have just the bytes of the bodies of a file's sections
pub record Bodies (s parts : List ℕ) : Type 0 where
  pub cover : (o : ℕ) → in_parts o parts ≡ any (in_body s o) body_tags
