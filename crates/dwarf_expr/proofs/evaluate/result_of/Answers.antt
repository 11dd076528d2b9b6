use Rattle.std.proofs.Common.{◌≡◌, ℕ, suc, ◌-◌, ◌≤◌, [], Result, Err, length, sym, ap, ◌∙◌, arith}
use Rattle.std.proofs.lemmas.Result.{err_from_is_err_and}
use Rattle.wasm_bytes.specs.Place.{Place, Moves}
use Rattle.dwarf_expr.specs.declared.answer.Eval.{Eval}
use Rattle.dwarf_expr.specs.declared.progress.Progress.{Progress}
use Rattle.dwarf_expr.specs.declared.progress.Part.TheVariants as part
use Rattle.dwarf_expr.specs.Decode.{operators_from, operators}
use Rattle.dwarf_expr.specs.inner.Steps.{is_end, progress, continued}
use Rattle.dwarf_expr.proofs.Turns.{turn_fails, turn_on, turn_ends, if_advanced, if_known}
use Rattle.dwarf_expr.proofs.evaluate.result_of.Goals as goal

pub operators-init : goal.operators-init
unfolding operators
operators-init c = record {
  so_far = (
    length c.args.expr.now,
    omega (arith, ap (λ (p : Place). length p.block) c.new-reader.ensures),
    ap (λ (p : Place). continued c.args.view.now c.args.base (length c.args.expr.now) (operators_from (length c.args.expr.now) p) (progress [] part.Empty [])) (sym c.new-reader.ensures)
        ∙ ap (λ (s : Progress). continued c.args.view.now c.args.base (length c.args.expr.now) (operators_from (length c.args.expr.now) c.new-reader.result) s) (sym c.new-progress.ensures),
  );
  block = ap (λ (p : Place). p.block) c.new-reader.ensures;
}

pub next_operator-requires : goal.next_operator-requires
next_operator-requires c = record { short = omega (arith, ap length c.operators.invariant.block, c.requires.short) }

-- the operator is known, where it was applied
moved : (c : goal.In_ok-advance) → Moves c.operators.reader c.next_operator.new.reader
moved c = if_advanced c.args.view.now c.args.base c.in-Some.placed c.ends_part-is_last.result c.operators.progress c.advance.new.self (Moves c.operators.reader c.next_operator.new.reader) (c.in_ok-advance.ensures {u = tt}) c.in-Some.ensures.moves

pub operators-smaller : goal.operators-smaller
operators-smaller c =
    let m : Moves c.operators.reader c.next_operator.new.reader = moved c in
    omega (arith, m.0, ap length m.1, c.in-Some.ensures.inside)

pub operators-preserved : goal.operators-preserved
operators-preserved c =
    let s = c.operators.invariant.so_far in
    let m : Moves c.operators.reader c.next_operator.new.reader = moved c in
    let n : s.0 ≡ suc (s.0 - 1) = omega (arith, s.1, c.in-Some.ensures.inside) in
    let left : length c.next_operator.new.reader.block - c.next_operator.new.reader.at ≤ s.0 - 1 = omega (arith, s.1, m.0, ap length m.1, c.in-Some.ensures.inside) in
    let last = if_known c.in-Some.placed.begun (Moves c.operators.reader c.next_operator.new.reader) (c.ends_part-is_last.result ≡ is_end (operators_from (s.0 - 1) c.next_operator.new.reader)) (λ (k : Moves c.operators.reader c.next_operator.new.reader). c.ends_part-is_last.ensures (s.0 - 1) left) c.in-Some.ensures.moves in
    record {
      so_far = (
        s.0 - 1,
        left,
        s.2
            ∙ ap (λ (k : ℕ). continued c.args.view.now c.args.base (length c.args.expr.now) (operators_from k c.operators.reader) c.operators.progress) n
            ∙ turn_on c.args.view.now c.args.base (length c.args.expr.now) (s.0 - 1) c.operators.reader c.next_operator.new.reader c.in-Some.placed c.ends_part-is_last.result c.operators.progress c.advance.new.self c.in-Some.ensures.next last (c.in_ok-advance.ensures {u = tt}),
      );
      block = m.1 ∙ c.operators.invariant.block;
    }

pub returns-in_err-advance : goal.returns-in_err-advance
returns-in_err-advance c =
    let p = err_from_is_err_and c.from_residual.result c.from_residual.ensures.1 in
    let s = c.operators.invariant.so_far in
    let n : s.0 ≡ suc (s.0 - 1) = omega (arith, s.1, c.in-Some.ensures.inside) in
    let last = if_known c.in-Some.placed.begun (Moves c.operators.reader c.next_operator.new.reader) (c.ends_part-is_last.result ≡ is_end (operators_from (s.0 - 1) c.next_operator.new.reader)) (λ (k : Moves c.operators.reader c.next_operator.new.reader). c.ends_part-is_last.ensures (s.0 - 1) (omega (arith, s.1, k.0, ap length k.1, c.in-Some.ensures.inside))) c.in-Some.ensures.moves in
    p.1
    ∙ ap (λ (e : Eval). let r : Result Eval Eval = Err e in r) p.2
    ∙ sym (turn_fails c.args.view.now c.args.base (length c.args.expr.now) (s.0 - 1) c.operators.reader c.next_operator.new.reader c.in-Some.placed c.ends_part-is_last.result c.operators.progress c.in_err-advance.field-0.0 c.in-Some.ensures.next last c.in_err-advance.ensures)
    ∙ sym (ap (λ (k : ℕ). continued c.args.view.now c.args.base (length c.args.expr.now) (operators_from k c.operators.reader) c.operators.progress) n)
    ∙ sym s.2

pub returns : goal.returns
returns c =
    let s = c.operators.invariant.so_far in
    c.complete.ensures
    ∙ sym (turn_ends c.args.view.now c.args.base (length c.args.expr.now) s.0 c.operators.reader c.next_operator.new.reader c.operators.progress c.in_default.ensures.next)
    ∙ sym s.2
