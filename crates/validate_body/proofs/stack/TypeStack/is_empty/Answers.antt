use Rattle.std.proofs.Common.{sym, ◌∙◌}
use Rattle.validate_body.proofs.StackLaws.{no_frames, some_frames}
use Rattle.validate_body.proofs.stack.TypeStack.is_empty.Goals as goal

pub returns-then-len-eq0 : goal.returns-then-len-eq0
returns-then-len-eq0 c = rw (← c.self.view_is) (sym (no_frames c.self.inside.types c.self.inside.controls (sym c.len.ensures ∙ c.if-len-eq0.true)))

pub returns : goal.returns
returns c = rw (← c.self.view_is) (sym (some_frames c.self.inside.types c.self.inside.controls (λ e. c.if-len-eq0.false (c.len.ensures ∙ e))))
