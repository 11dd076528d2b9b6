use Rattle.std.proofs.Common.{◌≢◌, ℕ, ◌+◌, ◌-◌, sym, ap, ◌∙◌}
use Rattle.std.specs.Prelude.{min}
use Rattle.replay.proofs.Pieces.{ends_here, spent_here, goes_on, shrinks, within_fuel}
use Rattle.replay.proofs.passing.to_end.Goals as goal

pub returns-then-not-is_spent : goal.returns-then-not-is_spent
returns-then-not-is_spent c =
    let x = c.args.recorded.now in
    ends_here x c.args.every c.pieces.made c.min-piece.result c.keep.new.self c.pieces.point c.advance.new.self c.in_ok-outcome.outcome c.pieces.invariant.within
    (c.min-piece.ensures ∙ ap (λ (f : ℕ). min c.keep.new.self.spacing (f - c.pieces.made)) c.fuel.ensures)
    (c.in_ok-keep.ensures x c.args.every c.pieces.made c.pieces.invariant.due c.pieces.invariant.waits) c.pieces.invariant.waits (c.in_ok-outcome.ensures.came c.pieces.made c.pieces.invariant.waits)
    c.steps-end.result c.steps-end.ensures (c.is_spent.ensures.ended c.if-not-is_spent.true)

pub returns-then-made-fuel : goal.returns-then-made-fuel
returns-then-made-fuel c =
    let x = c.args.recorded.now in
    spent_here x c.args.every c.pieces.made c.min-piece.result c.keep.new.self c.pieces.point c.advance.new.self c.in_ok-outcome.outcome c.pieces.invariant.within
    (c.min-piece.ensures ∙ ap (λ (f : ℕ). min c.keep.new.self.spacing (f - c.pieces.made)) c.fuel.ensures)
    (c.in_ok-keep.ensures x c.args.every c.pieces.made c.pieces.invariant.due c.pieces.invariant.waits) c.pieces.invariant.waits (c.in_ok-outcome.ensures.came c.pieces.made c.pieces.invariant.waits)
    (c.is_spent.ensures.spent c.if-not-is_spent.false) (c.if-made-fuel.true ∙ c.fuel-in-pieces.ensures)

pub pieces-smaller : goal.pieces-smaller
pieces-smaller c =
    let x = c.args.recorded.now in
    let more : c.pieces.made + c.min-piece.result ≢ x.fuel = λ e. c.if-made-fuel.false (e ∙ sym c.fuel-in-pieces.ensures) in
    shrinks x c.args.every c.pieces.made c.min-piece.result c.keep.new.self c.pieces.point c.advance.new.self c.in_ok-outcome.outcome c.pieces.invariant.within
    (c.min-piece.ensures ∙ ap (λ (f : ℕ). min c.keep.new.self.spacing (f - c.pieces.made)) c.fuel.ensures)
    (c.in_ok-keep.ensures x c.args.every c.pieces.made c.pieces.invariant.due c.pieces.invariant.waits) c.pieces.invariant.waits (c.in_ok-outcome.ensures.came c.pieces.made c.pieces.invariant.waits) more

pub pieces-preserved : goal.pieces-preserved
pieces-preserved c =
    let x = c.args.recorded.now in
    let more : c.pieces.made + c.min-piece.result ≢ x.fuel = λ e. c.if-made-fuel.false (e ∙ sym c.fuel-in-pieces.ensures) in
    let on = goes_on x c.args.every c.pieces.made c.min-piece.result c.keep.new.self c.pieces.point c.advance.new.self c.in_ok-outcome.outcome c.pieces.invariant.within
    (c.min-piece.ensures ∙ ap (λ (f : ℕ). min c.keep.new.self.spacing (f - c.pieces.made)) c.fuel.ensures)
    (c.in_ok-keep.ensures x c.args.every c.pieces.made c.pieces.invariant.due c.pieces.invariant.waits) c.pieces.invariant.waits (c.in_ok-outcome.ensures.came c.pieces.made c.pieces.invariant.waits) (c.is_spent.ensures.spent c.if-not-is_spent.false) more in
    record {
      waits = on.0;
      due = on.1;
      within = within_fuel x c.args.every c.pieces.made c.min-piece.result c.keep.new.self c.pieces.point c.advance.new.self c.in_ok-outcome.outcome c.pieces.invariant.within
          (c.min-piece.ensures ∙ ap (λ (f : ℕ). min c.keep.new.self.spacing (f - c.pieces.made)) c.fuel.ensures)
          (c.in_ok-keep.ensures x c.args.every c.pieces.made c.pieces.invariant.due c.pieces.invariant.waits) c.pieces.invariant.waits (c.in_ok-outcome.ensures.came c.pieces.made c.pieces.invariant.waits);
    }
