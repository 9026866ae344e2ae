use mathlib.Core.Path.{◌∙◌}
use native.Mathlib.Omega.{arith}
use Rattle.lxt_print.proofs.TextLaws.{word_bytes}
use Rattle.lxt_print.proofs.LineLaws.{geometry_there}
use Rattle.lxt_print.proofs.ValueLaws.{facts_asks, read_asks, text_part_lem, value_bits, value_real, value_text_lem, value_none}
use Rattle.lxt_print.proofs.lines.put_value.Goals as goal

pub geometry-requires : goal.geometry-requires
geometry-requires c = geometry_there _ _ c.requires.0 _ c.requires.1.0

pub own_facts-facts-requires : goal.own_facts-facts-requires
own_facts-facts-requires c =
    let all = facts_asks _ _ c.requires.0 _ c.requires.1.0 _ c.requires.1.1.0 in
    let g = c.geometry.ensures in
    record { inside = rw g.place.1 all.0; f_value = rw g.same_file all.1.0; f_value_2 = rw g.same_file all.1.1 }

pub read-value-requires : goal.read-value-requires
read-value-requires c = read_asks _ _ c.requires.0 _ c.requires.1.0 _ c.requires.1.1.0 _ (rw c.geometry.ensures.same_file at c.own_facts-facts.ensures) c.args.out.now _ c.requires.1.1.1

pub slice_bounds-put_hex-end-in-Text : goal.slice_bounds-put_hex-end-in-Text
slice_bounds-put_hex-end-in-Text c = text_part_lem _ _ c.requires.0 _ c.requires.1.0 _ c.requires.1.1.0 _ (rw c.geometry.ensures.same_file at c.own_facts-facts.ensures) c.args.out.now _ c.requires.1.1.1 _ _ c.read-value.ensures.0 c.read-value.ensures.1 _ _ c.in-Text.is

pub put_hex-requires-in-Text : goal.put_hex-requires-in-Text
put_hex-requires-in-Text c = omega (arith, text_part_lem _ _ c.requires.0 _ c.requires.1.0 _ c.requires.1.1.0 _ (rw c.geometry.ensures.same_file at c.own_facts-facts.ensures) c.args.out.now _ c.requires.1.1.1 _ _ c.read-value.ensures.0 c.read-value.ensures.1 _ _ c.in-Text.is)

pub returns-in-Bits : goal.returns-in-Bits
returns-in-Bits c = value_bits _ _ c.requires.0 _ c.requires.1.0 _ c.requires.1.1.0 _ (rw c.geometry.ensures.same_file at c.own_facts-facts.ensures) _ _ c.requires.1.1.1 _ _ c.read-value.ensures.0 c.read-value.ensures.1 _ c.in-Bits.is

pub returns-in-Real : goal.returns-in-Real
returns-in-Real c =
    let pre = c.requires in
    let facts = rw c.geometry.ensures.same_file at c.own_facts-facts.ensures in
    let read = c.read-value.ensures in
    let put = c.put_hex.ensures in
    value_real _ _ pre.0 _ pre.1.0 _ pre.1.1.0 _ facts _ _ pre.1.1.1 _ _ read.0 read.1 _ _ c.in-Real.is _ (c.to_be_bytes.ensures ∙ word_bytes _) _ _ put.0 put.1

pub returns-in-Text : goal.returns-in-Text
returns-in-Text c = value_text_lem _ _ c.requires.0 _ c.requires.1.0 _ c.requires.1.1.0 _ (rw c.geometry.ensures.same_file at c.own_facts-facts.ensures) _ _ c.requires.1.1.1 _ _ c.read-value.ensures.0 c.read-value.ensures.1 _ _ c.in-Text.is _ _ c.put_hex-in-Text.ensures.0 c.put_hex-in-Text.ensures.1

pub returns-in-NotDriven : goal.returns-in-NotDriven
returns-in-NotDriven c = value_none _ _ c.requires.0 _ c.requires.1.0 _ c.requires.1.1.0 _ (rw c.geometry.ensures.same_file at c.own_facts-facts.ensures) _ _ c.requires.1.1.1 _ _ c.read-value.ensures.0 c.read-value.ensures.1 c.in-NotDriven.is
