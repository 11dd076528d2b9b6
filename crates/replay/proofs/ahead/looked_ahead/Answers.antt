use Rattle.std.proofs.Common.{◌+◌, arith}
use Rattle.std.specs.Prelude.{true}
use Rattle.replay.proofs.Moving.{goes_on, found_next, looks_on, there_is}
use Rattle.replay.proofs.ahead.looked_ahead.Goals as goal

pub advance-requires : goal.advance-requires
advance-requires c =
    let x = c.args.recorded.now in
    let i = c.steps.invariant in
    let lt = c.steps-test.true in
    let fits = c.ranges.end.fits in
    record { waits = (c.steps.step, goes_on x c.steps.step c.args.end i.stands.0 c.steps.ahead i.stands.1 c.requires.end lt, omega (arith, lt, fits)) }

pub returns-then-is_in-clause-next : goal.returns-then-is_in-clause-next
returns-then-is_in-clause-next c =
    let x = c.args.recorded.now in
    let i = c.steps.invariant in
    let lt = c.steps-test.true in
    let w = goes_on x c.steps.step c.args.end i.stands.0 c.steps.ahead i.stands.1 c.requires.end lt in
    found_next x c.args.function c.args.offset c.args.from c.steps.step c.args.end i.above (omega (arith, lt)) i.none
    (there_is x (c.steps.step + 1) c.in_ok-_answer._answer c.advance.new.self c.args.function c.args.offset true (c.in_ok-_answer.ensures.came c.steps.step w) c.if-is_in.ensures)

pub steps-preserved-else-is_in : goal.steps-preserved-else-is_in
steps-preserved-else-is_in c =
    let x = c.args.recorded.now in
    let i = c.steps.invariant in
    let w = goes_on x c.steps.step c.args.end i.stands.0 c.steps.ahead i.stands.1 c.requires.end c.steps-test.true in
    looks_on x c.args.function c.args.offset c.args.from c.args.end c.steps.step c.in_ok-_answer._answer c.advance.new.self i.above c.steps-test.true i.none (c.in_ok-_answer.ensures.came c.steps.step w) c.if-is_in.ensures

pub steps-preserved-else-is_in-2 : goal.steps-preserved-else-is_in-2
steps-preserved-else-is_in-2 c =
    let x = c.args.recorded.now in
    let i = c.steps.invariant in
    let w = goes_on x c.steps.step c.args.end i.stands.0 c.steps.ahead i.stands.1 c.requires.end c.steps-test.true in
    looks_on x c.args.function c.args.offset c.args.from c.args.end c.steps.step c.in_ok-_answer._answer c.advance.new.self i.above c.steps-test.true i.none (c.in_ok-_answer.ensures.came c.steps.step w) c.if-is_in.ensures

pub steps-preserved : goal.steps-preserved
steps-preserved c =
    let x = c.args.recorded.now in
    let i = c.steps.invariant in
    let w = goes_on x c.steps.step c.args.end i.stands.0 c.steps.ahead i.stands.1 c.requires.end c.steps-test.true in
    looks_on x c.args.function c.args.offset c.args.from c.args.end c.steps.step c.in_ok-_answer._answer c.advance.new.self i.above c.steps-test.true i.none (c.in_ok-_answer.ensures.came c.steps.step w) c.if-is_in.ensures
