-- What reading a value asks.
use Rattle.std.specs.Prelude.{ℕ, ◌+◌, ◌≤◌, ◌<◌, List, length}
use Rattle.std.proofs.Math.Seq.{slice}
use Rattle.lxt_format.specs.Bytes.{to_zero}
use Rattle.lxt_format.specs.Changes.{data_at}

-- the length of the text of the change at o, which ends before `end`
abbrev pub text_length : List ℕ → ℕ → ℕ → ℕ
text_length s end o = to_zero (slice (data_at s o) end s)

-- the change starts in the file, and its text has a place of 32 bits there
pub record TextThere (s : List ℕ) (end o : ℕ) : Type 0 where
  pub start : o < length s
  pub within : end ≤ length s
  pub small : data_at s o + text_length s end o < 4294967296
