use Rattle.std.proofs.Common.{sym, ◌∙◌, ap}
use Rattle.validate_body.specs.calls.Frames.{any_free}
use Rattle.validate_body.proofs.StackLaws.{height_is}
use Rattle.validate_body.proofs.stack.TypeStack.height.Goals as goal

pub returns : goal.returns
returns c = rw (c.len.ensures, ← c.self.view_is) (height_is c.self.inside.types c.self.inside.controls c.self.invariant (ap any_free c.self.view_is ∙ sym c.is_dead.ensures ∙ c.if-is_dead.false))
