use Rattle.std.proofs.Common.{◌∷◌, reverse, refl, sym, ◌∙◌}
use Rattle.std.proofs.lemmas.List.{length-reverse}
use Rattle.wasm_syntax.specs.Machine.{step}
use Rattle.machine_hosted.proofs.TurnLaws.{told_goes, told_lacks}
use Rattle.machine_hosted.proofs.turn.after_told.Goals as goal

pub returns-in-Ok-clause-turned : goal.returns-in-Ok-clause-turned
returns-in-Ok-clause-turned c = λ used_up engine codes import args k kept at some.
    told_goes engine codes c.args.call import c.args.ftype.now args c.args.m.now k used_up at kept some c.finish_call.new.m
    (c.in-Ok.ensures engine codes k (step engine k) c.args.m.now at.calls k.world (kept ∷ k.collected) (reverse args) at.below refl at.calls.stands.shares at.operands
    (length-reverse args ∙ at.count ∙ sym c.len.ensures))

pub returns-in-Err-clause-turned : goal.returns-in-Err-clause-turned
returns-in-Err-clause-turned c = λ used_up engine codes import args k kept at some.
    told_lacks engine codes c.args.call import c.args.ftype.now args c.args.m.now k used_up at kept some c.finish_call.new.m
