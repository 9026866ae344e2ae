use mathlib.Core.Path.{sym, ◌∙◌}
use Rattle.lxt_print.proofs.LineLaws.{put_more, put_is, geometry_there, own_asks, alias_end, facts_end}
use borrow.Author.Rules.{rules}
use Rattle.lxt_print.proofs.lines.put_shape.Goals as goal

pub geometry-geometry-requires : goal.geometry-geometry-requires
geometry-geometry-requires c = geometry_there _ _ c.requires.0 _ c.requires.1.0

pub returns-then-is_alias : goal.returns-then-is_alias
returns-then-is_alias c = (put_is (alias_end _ _ _ (rw c.geometry-geometry.ensures.same_file at c.is_alias.ensures) c.if-is_alias.true _ (rw c.geometry-geometry.ensures.same_file at c.root.ensures)) (put_more c.put_bytes-p.ensures (rw c.from.ensures at c.put_decimal.ensures.0)), search rules)

pub own_facts-facts-requires : goal.own_facts-facts-requires
own_facts-facts-requires c =
    let all = own_asks _ _ c.requires.0 _ c.requires.1.0 (sym (rw c.geometry-geometry.ensures.same_file at c.is_alias.ensures) ∙ c.if-is_alias.false) in
    let g = c.geometry-geometry.ensures in
    record { inside = rw g.place.1 all.0; f_value = rw g.same_file all.1.0; f_value_2 = rw g.same_file all.1.1 }

pub returns : goal.returns
returns c =
    let kind = put_more c.put_kind-q.ensures.0 c.put_bytes-r.ensures in
    (put_is (facts_end _ _ _ (rw c.geometry-geometry.ensures.same_file at c.is_alias.ensures) c.if-is_alias.false _ (rw c.geometry-geometry.ensures.same_file at c.own_facts-facts.ensures)) (put_more kind (rw c.from-2.ensures at c.put_decimal-2.ensures.0)), search rules)
