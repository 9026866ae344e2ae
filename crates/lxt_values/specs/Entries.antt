-- What is known of an entry of the time table.
use Rattle.std.specs.Prelude.{ℕ, ◌<◌, ◌≡◌, List, get_or}
use Rattle.lxt_format.specs.Sections.{time_count}
use Rattle.lxt_format.specs.Times.{positions_of}
use Rattle.lxt_format.specs.BiasedTimes.{bias, biased_times}

-- its position, and its time with the bias
pub record EntryAt (s : List ℕ) (number position time : ℕ) : Type 0 where
  pub within : number < time_count s
  pub position_is : position ≡ get_or (positions_of s) number 0
  pub time_is : time ≡ get_or (biased_times s) number 0

-- an entry after which all lie above the offset o
pub record Latest (s : List ℕ) (o number position time : ℕ) : Type 0 where
  pub here : EntryAt s number position time
  pub later : (j : ℕ) → number < j → j < time_count s → o < get_or (positions_of s) j 0

-- an entry from which the time of a change at o is looked for, down the table; where the table is empty, time 0 with the bias
pub record From (s : List ℕ) (o number position time : ℕ) : Type 0 where
  pub latest : 0 < time_count s → Latest s o number position time
  pub empty : time_count s ≡ 0 → (number ≡ 0) × (time ≡ bias)

-- one from which that of every change is
pub record Last (s : List ℕ) (number position time : ℕ) : Type 0 where
  pub from : (o : ℕ) → From s o number position time
