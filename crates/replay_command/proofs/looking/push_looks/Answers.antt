use Rattle.std.proofs.Common.{[], arith, rules}
use Rattle.replay_command.specs.ReplayText.{commands_in}
use Rattle.replay_command.proofs.Looks.{looked_more}
use Rattle.replay_command.proofs.looking.push_looks.Goals as goal

pub returns-in_default-clause-looked : goal.returns-in_default-clause-looked
returns-in_default-clause-looked c =
    let begins = rw c.in_default.is at c.first_command.ensures.commands in
    looked_more c.args.session.now.subject c.args.session.now.chosen c.args.out.now (commands_in c.args.commands.now) (commands_in c.loop-behind.rest.now) [] c.loop-behind.session c.push_command.new.session c.loop-behind.out c.first_command.result.0.now c.push_command.new.out
    c.loop-behind.invariant.subject begins (c.loop-behind.invariant.looks _ _ begins) c.loop-behind.invariant.so_far c.in_ok-push_command.ensures

pub returns-then-not-begins_with_look-clause-looked : goal.returns-then-not-begins_with_look-clause-looked
returns-then-not-begins_with_look-clause-looked c =
    let begins = rw c.in-Some.is at c.first_command.ensures.commands in
    looked_more c.args.session.now.subject c.args.session.now.chosen c.args.out.now (commands_in c.args.commands.now) (commands_in c.loop-behind.rest.now) (commands_in c.in-Some.behind.now) c.loop-behind.session c.push_command.new.session c.loop-behind.out c.first_command.result.0.now c.push_command.new.out
    c.loop-behind.invariant.subject begins (c.loop-behind.invariant.looks _ _ begins) c.loop-behind.invariant.so_far c.in_ok-push_command.ensures

pub loop-behind-preserved : goal.loop-behind-preserved
loop-behind-preserved c =
    let begins = rw c.in-Some.is at c.first_command.ensures.commands in
    let shorter = rw c.in-Some.is at c.first_command.ensures.shorter in
    record {
      text = search rules;
      subject = search rules;
      looks = c.begins_with_look.ensures (search rules);
      so_far = looked_more c.args.session.now.subject c.args.session.now.chosen c.args.out.now (commands_in c.args.commands.now) (commands_in c.loop-behind.rest.now) (commands_in c.in-Some.behind.now) c.loop-behind.session c.push_command.new.session c.loop-behind.out c.first_command.result.0.now c.push_command.new.out
          c.loop-behind.invariant.subject begins (c.loop-behind.invariant.looks _ _ begins) c.loop-behind.invariant.so_far c.in_ok-push_command.ensures;
      within = omega (arith, shorter, c.loop-behind.invariant.within);
    }
