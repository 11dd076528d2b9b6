use Rattle.std.proofs.Common.{◌≡◌, ℕ, suc, ◌-◌, ◌≤◌, true, length, sym, ap, ◌∙◌, arith}
use Rattle.wasm_bytes.specs.Place.{Place, Moves}
use Rattle.dwarf_expr.specs.Decode.{operators_from, operators}
use Rattle.dwarf_expr.specs.Named.{names_operand_from}
use Rattle.dwarf_expr.specs.inner.Steps.{is_known}
use Rattle.dwarf_expr.proofs.Turns.{none_left}
use Rattle.dwarf_expr.proofs.NamedLaws.{named_here, named_behind, none_named, moved}
use Rattle.dwarf_expr.proofs.named.names_operand_from.Goals as goal

pub operators-init : goal.operators-init
unfolding operators
operators-init c = record {
  so_far = (
    length c.args.expr.now,
    omega (arith, ap (λ (p : Place). length p.block) c.new-reader.ensures),
    ap (λ (p : Place). names_operand_from c.args.least (operators_from (length c.args.expr.now) p)) (sym c.new-reader.ensures),
  );
  block = ap (λ (p : Place). p.block) c.new-reader.ensures;
}

pub next_operator-requires : goal.next_operator-requires
next_operator-requires c = record { short = omega (arith, ap length c.operators.invariant.block, c.requires.short) }

pub returns-then-is_operand_from : goal.returns-then-is_operand_from
returns-then-is_operand_from c =
    let s = c.operators.invariant.so_far in
    let n : s.0 ≡ suc (s.0 - 1) = omega (arith, s.1, c.in-Some.ensures.inside) in
    sym (s.2 ∙ ap (λ (k : ℕ). names_operand_from c.args.least (operators_from k c.operators.reader)) n ∙ ap (names_operand_from c.args.least) (c.in-Some.ensures.next (s.0 - 1))
    ∙ named_here c.args.least c.in-Some.placed (operators_from (s.0 - 1) c.next_operator.new.reader) (sym c.is_operand_from.ensures ∙ c.if-is_operand_from.true))

pub returns-then-not-is_known : goal.returns-then-not-is_known
returns-then-not-is_known c =
    let s = c.operators.invariant.so_far in
    let n : s.0 ≡ suc (s.0 - 1) = omega (arith, s.1, c.in-Some.ensures.inside) in
    sym (s.2 ∙ ap (λ (k : ℕ). names_operand_from c.args.least (operators_from k c.operators.reader)) n ∙ ap (names_operand_from c.args.least) (c.in-Some.ensures.next (s.0 - 1))
    ∙ none_named c.args.least c.in-Some.placed (operators_from (s.0 - 1) c.next_operator.new.reader) (sym c.is_operand_from.ensures ∙ c.if-is_operand_from.false) (sym c.is_known.ensures ∙ c.if-not-is_known.true))

pub operators-preserved : goal.operators-preserved
operators-preserved c =
    let s = c.operators.invariant.so_far in
    let n : s.0 ≡ suc (s.0 - 1) = omega (arith, s.1, c.in-Some.ensures.inside) in
    let known : is_known c.in-Some.placed.begun ≡ true = sym c.is_known.ensures ∙ c.if-not-is_known.false in
    let m : Moves c.operators.reader c.next_operator.new.reader = moved c.in-Some.placed.begun (Moves c.operators.reader c.next_operator.new.reader) known c.in-Some.ensures.moves in
    record {
      so_far = (
        s.0 - 1,
        omega (arith, s.1, m.0, ap length m.1, c.in-Some.ensures.inside),
        s.2 ∙ ap (λ (k : ℕ). names_operand_from c.args.least (operators_from k c.operators.reader)) n ∙ ap (names_operand_from c.args.least) (c.in-Some.ensures.next (s.0 - 1))
            ∙ named_behind c.args.least c.in-Some.placed (operators_from (s.0 - 1) c.next_operator.new.reader) (sym c.is_operand_from.ensures ∙ c.if-is_operand_from.false) known,
      );
      block = m.1 ∙ c.operators.invariant.block;
    }

pub returns : goal.returns
returns c =
    let s = c.operators.invariant.so_far in
    sym (s.2 ∙ ap (names_operand_from c.args.least) (none_left c.operators.reader c.next_operator.new.reader s.0 c.in_default.ensures.next))
