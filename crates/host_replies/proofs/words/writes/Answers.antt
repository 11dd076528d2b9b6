use Rattle.std.proofs.Common.{[], refl, arith}
use Rattle.std.proofs.lemmas.Result.{err_from_is_err_and}
use Rattle.std.specs.Prelude.{◌==◌}
use Rattle.host_replies.proofs.Lines.{some_parts, write_added, gap_passed, last_added, write_fails}
use Rattle.host_replies.proofs.words.writes.Goals as goal

pub returns-in_err-write_word : goal.returns-in_err-write_word
returns-in_err-write_word c =
    let p = err_from_is_err_and c.from_residual.result c.from_residual.ensures.1 in
    rw (p.1, p.2) (write_fails _ c.loop-behind.writes c.first_part.result.0.now [] _ c.in_err-write_word.field-0.0 c.loop-behind.invariant (rw c.in_default.is at c.first_part.ensures.parts) (λ none. refl) c.in_err-write_word.ensures)

pub returns-in_default : goal.returns-in_default
returns-in_default c =
    rw c.in_ok-push.ensures.ok (last_added _ c.loop-behind.writes c.first_part.result.0.now _ c.in_ok-write_word.field-0 c.loop-behind.invariant (rw c.in_default.is at c.first_part.ensures.parts) c.in_ok-write_word.ensures)

pub returns-in_err-write_word-2 : goal.returns-in_err-write_word-2
returns-in_err-write_word-2 c =
    let p = err_from_is_err_and c.from_residual-in_err-write_word-2.result c.from_residual-in_err-write_word-2.ensures.1 in
    rw (p.1, p.2) (write_fails _ c.loop-behind.writes c.first_part.result.0.now _ _ c.in_err-write_word-2.field-0.0 c.loop-behind.invariant (rw c.in-Some.is at c.first_part.ensures.parts) (λ none. absurd (grind (arith, none))) c.in_err-write_word-2.ensures)

pub loop-behind-preserved-in_ok-push-2 : goal.loop-behind-preserved-in_ok-push-2
loop-behind-preserved-in_ok-push-2 c =
    rw c.in_ok-push-2.ensures.ok (write_added _ c.loop-behind.writes c.first_part.result.0.now _ _ c.in_ok-write_word-2.field-0 c.loop-behind.invariant (rw c.in-Some.is at c.first_part.ensures.parts) (λ none. absurd (grind (arith, none))) c.in_ok-write_word-2.ensures)

pub loop-behind-preserved : goal.loop-behind-preserved
loop-behind-preserved c =
    gap_passed _ c.loop-behind.writes c.first_part.result.0.now _ _ c.loop-behind.invariant (rw c.in-Some.is at c.first_part.ensures.parts) (grind arith) (some_parts (λ b. b == 32) c.in-Some.behind.now)
