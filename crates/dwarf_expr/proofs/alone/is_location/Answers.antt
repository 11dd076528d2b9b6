use Rattle.std.proofs.Common.{◌≡◌, Bool, true, false, sym, ap, ◌∙◌}
use Rattle.std.specs.Prelude.{◌==◌, ◌&&◌}
use Rattle.dwarf_expr.specs.Meaning.{is_location}
use Rattle.dwarf_expr.specs.Decode.{operators}
use Rattle.dwarf_expr.proofs.LocationLaws.{first_alone, none_alone}
use Rattle.dwarf_expr.proofs.alone.is_location.Goals as goal

pub returns-then-is_last : goal.returns-then-is_last
returns-then-is_last c =
    ap (λ (b : Bool). b && c.in-Some.first.opcode == 0xed) (sym c.if-is_last.true)
    ∙ first_alone c.args.expr.now c.new-reader.result c.next_operator.new.reader c.in-Some.first c.is_last.result c.new-reader.ensures c.in-Some.ensures.next c.in-Some.ensures.inside c.in-Some.ensures.moves c.is_last.ensures

pub returns-else-is_last : goal.returns-else-is_last
returns-else-is_last c =
    c.if-is_last.false
    ∙ ap (λ (b : Bool). b && c.in-Some.first.opcode == 0xed) (sym c.if-is_last.false)
    ∙ first_alone c.args.expr.now c.new-reader.result c.next_operator.new.reader c.in-Some.first c.is_last.result c.new-reader.ensures c.in-Some.ensures.next c.in-Some.ensures.inside c.in-Some.ensures.moves c.is_last.ensures

pub returns-in-None : goal.returns-in-None
returns-in-None c = none_alone c.args.expr.now c.new-reader.result c.next_operator.new.reader c.new-reader.ensures c.in-None.ensures.next
