use Rattle.std.proofs.Common.{◌≡◌, length}
use Rattle.lxt_print.specs.Left.{left_text, Sound}
use Rattle.lxt_dump.proofs.print.Given as goal

abbrev pub invariant-loop-filled : goal.invariant-loop-filled
invariant-loop-filled g l =
    Sound l.file l.left l.name l.nodes l.line
    × (length l.name ≡ length l.initial.name)
    × (length l.nodes ≡ length l.initial.nodes)
    × (length l.line ≡ length l.initial.line)
    × (length l.out ≡ length l.initial.out)

abbrev pub decreases-loop-filled : goal.decreases-loop-filled
decreases-loop-filled g l = length (left_text l.file l.left l.nodes l.line)
