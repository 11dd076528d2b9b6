use Rattle.std.proofs.Common.{◌≡◌, ◌≤◌, length}
use denote.Text.{Utf8}
use denote.Shadow.{shadow}
use Rattle.replay_command.specs.ReplayText.{commands_in}
use Rattle.replay_command.specs.inner.Steps.{BeginsWithLook, LookedThrough}
use Rattle.replay_command.proofs.looking.push_looks.Given as goal

abbrev pub invariant-loop-behind : goal.invariant-loop-behind
invariant-loop-behind l = record {
  text : shadow (Utf8 l.rest);
  subject : l.session.subject ≡ l.fn.session.subject;
  looks : BeginsWithLook l.rest;
  so_far : LookedThrough l.fn.session.subject l.fn.session.chosen l.fn.out (commands_in l.commands) (commands_in l.rest) l.session.chosen l.out;
  within : length l.rest ≤ length l.commands;
}

abbrev pub decreases-loop-behind : goal.decreases-loop-behind
decreases-loop-behind l = length l.rest
