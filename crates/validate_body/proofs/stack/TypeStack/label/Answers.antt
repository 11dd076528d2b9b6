use Rattle.std.proofs.Common.{refl}
use Rattle.validate_body.proofs.StackLaws.{labels_are}
use Rattle.validate_body.proofs.stack.TypeStack.label.Goals as goal

pub returns-in-Loop : goal.returns-in-Loop
returns-in-Loop c = rw (← c.self.view_is, labels_are c.self.inside.types c.self.inside.controls c.args.n, ← c.peek.ensures, c.in-Some.is, c.in-Loop.is) refl

pub returns-in-Plain : goal.returns-in-Plain
returns-in-Plain c = rw (← c.self.view_is, labels_are c.self.inside.types c.self.inside.controls c.args.n, ← c.peek.ensures, c.in-Some.is, c.in-Plain.is) refl

pub returns-in-Then : goal.returns-in-Then
returns-in-Then c = rw (← c.self.view_is, labels_are c.self.inside.types c.self.inside.controls c.args.n, ← c.peek.ensures, c.in-Some.is, c.in-Then.is) refl

pub returns-in-None : goal.returns-in-None
returns-in-None c = rw (← c.self.view_is, labels_are c.self.inside.types c.self.inside.controls c.args.n, ← c.peek.ensures, c.in-None.is) refl
