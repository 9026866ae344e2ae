-- Laws of the names of facilities in an accepted file, one after the other.
use Prim.Native.Nat.{ℕ, suc, ◌+◌, ◌≤◌, ◌<◌}
use native.Mathlib.Omega.{arith}
use native.Mathlib.Nat.{zero-add}
use mathlib.Core.Path.{◌≡◌, sym, ◌∙◌}
use mathlib.Core.List.{List}
use lib.ListN.{length, take}
use lib.Seq.{length-take-le}
use Rattle.lxt_format.specs.Bytes.{u32_at}
use Rattle.lxt_format.specs.Sections.{section_of}
use Rattle.lxt_format.specs.Names.{names_allowed, name_table, name_of}
use Rattle.lxt_tables.specs.declared.Tables.{Tables}
use Rattle.lxt_values.specs.Names.{Coming, Read}
use Rattle.lxt_values.specs.declared.names.NamesLeft.{NamesLeft}
use Rattle.lxt_values.proofs.NameLaws.{table_coming}
use Rattle.lxt_print.specs.Placing.{Opened, NamesAt}
use Rattle.lxt_print.proofs.LineLaws.{opened_known}

module _ (s : List ℕ) (t : Tables) (w : Opened s t) where
  -- no name is read yet
  pub names_begun : (name : List ℕ) → 1023 ≤ length name → NamesAt s t 0 (record { left = t.facilities; at = t.names + 8; before = 0 }) name
  names_begun name room =
      let k = opened_known s t w in
      record {
        rest =
            table_coming s (t.names + 8) t.end t.facilities (u32_at s (section_of s 0x03 + 4)) name k.names_high (omega (arith, k.end_high))
            (unfold names_allowed name_table in rw (k.names, k.end, k.facilities) k.passed.names) room;
        count = omega arith;
        names = λ j. (unfold name_of name_table in rw (k.names, k.end, k.facilities, zero-add));
      }

  module _ (f : ℕ) (c : NamesLeft) (name : List ℕ) (v : NamesAt s t f c name) where
    pub next_asks : f < t.facilities → Coming s t.end c.left c.at c.before name × (0 < c.left)
    next_asks h = (v.rest, omega (arith, v.count))

    module _ (c' : NamesLeft) (name' : List ℕ) (r : Read s t.end c.left c.at c.before name c'.left c'.at c'.before name') where
      pub name_small : c'.before ≤ length name'
      name_small = omega (arith, r.rest.small, r.rest.room)

      pub name_length : c'.before ≡ length (take c'.before name')
      name_length = sym (length-take-le c'.before name' name_small)

      pub name_here_lem : take c'.before name' ≡ name_of s f
      name_here_lem = let e : f + 0 ≡ f = omega arith in r.name ∙ rw e at (v.names 0)

      pub names_next : NamesAt s t (f + 1) c' name'
      names_next = record {
        rest = r.rest;
        count = omega (arith, r.count, v.count);
        names = λ j. let e : f + suc j ≡ f + 1 + j = omega arith in r.others j ∙ rw e at (v.names (suc j));
      }
