-- Times as the code holds them: with a bias of 2 ^ 63, as numbers from 0 on in the same order. Definitions of times are in integers.
use Rattle.std.specs.Prelude.{ℕ, suc, ◌+◌, ◌-◌, List, map, ℤ, pos, negsuc, if◌then◌else◌}
use Rattle.std.proofs.Math.Dec.{ltb}
use Rattle.lxt_format.specs.Times.{times_of}

-- 2 ^ 63
abbrev pub bias : ℕ
bias = 9223372036854775808

-- a time that fits 64 bits, with the bias; and back
abbrev pub biased : ℤ → ℕ
biased (pos n) = bias + n
biased (negsuc n) = bias - suc n

abbrev pub unbiased : ℕ → ℤ
unbiased x = if ltb x bias then negsuc (bias - suc x) else pos (x - bias)

-- the bytes of a time, with the bias
abbrev pub biased_bytes : ℕ → ℕ
biased_bytes x = if ltb x bias then bias + x else x - bias

-- the times of a file, with the bias
abbrev pub biased_times : List ℕ → List ℕ
biased_times s = map biased (times_of s)
