use Rattle.std.proofs.Common.{ℕ, ◌∷◌, sym, ap, ◌∙◌}
use Rattle.dwarf_expr.specs.Decode.{placed, others_behind, operators_from}
use Rattle.dwarf_expr.proofs.Turns.{is_next, none_next, byte_inside}
use Rattle.dwarf_expr.proofs.decode.next_operator.Goals as goal

pub returns-in_default-clause-next : goal.returns-in_default-clause-next
returns-in_default-clause-next c = none_next c.args.reader.now c.args.reader.now c.in_default.field-0.at c.in_default.ensures.item

pub returns-clause-next : goal.returns-clause-next
returns-clause-next c n =
    is_next c.args.reader.now c.byte.new.self c.begun.new.reader c.in-Ok.opcode c.begun.result c.in-Ok.ensures.item c.begun.ensures.begins n
    ∙ ap (λ (at : ℕ). placed at c.in-Ok.opcode c.begun.result ∷ others_behind c.begun.result (operators_from n c.begun.new.reader)) (sym c.at-at.ensures.is)

pub returns-clause-inside : goal.returns-clause-inside
returns-clause-inside c = byte_inside c.args.reader.now c.byte.new.self c.in-Ok.opcode c.in-Ok.ensures.item
