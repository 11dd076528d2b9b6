use Rattle.std.proofs.Common.{length, sym, ap, ◌∙◌}
use Rattle.wasm_syntax.specs.declared.parts.FuncType.{FuncType}
use Rattle.wasm_syntax.specs.Machine.{step, result_of}
use Rattle.machine_hosted.specs.declared.reply.Replied.TheVariants.{Done, Misfit, NoMemory}
use Rattle.machine_hosted.proofs.TurnLaws.{reply_turns, not_collected}
use Rattle.machine_hosted.proofs.turn.after_reply.Goals as goal

pub returns-in-Done-clause-turned : goal.returns-in-Done-clause-turned
returns-in-Done-clause-turned c = λ used_up engine codes import args k left at none replies.
    reply_turns engine codes c.args.call import c.args.ftype.now args c.args.m.now k used_up at c.args.reply left none replies c.serve.new.m Done
    (c.in-Done.ensures engine codes k (step engine k) left at.calls (ap (λ (t : FuncType). length t.params) at.type_is ∙ sym c.len-count.ensures) (ap result_of at.type_is ∙ sym c.result_type.ensures) replies (not_collected engine codes c.args.call import c.args.ftype.now args c.args.m.now k used_up at none))

pub returns-in-Misfit-clause-turned : goal.returns-in-Misfit-clause-turned
returns-in-Misfit-clause-turned c = λ used_up engine codes import args k left at none replies.
    reply_turns engine codes c.args.call import c.args.ftype.now args c.args.m.now k used_up at c.args.reply left none replies c.serve.new.m Misfit
    (c.in-Misfit.ensures engine codes k (step engine k) left at.calls (ap (λ (t : FuncType). length t.params) at.type_is ∙ sym c.len-count.ensures) (ap result_of at.type_is ∙ sym c.result_type.ensures) replies (not_collected engine codes c.args.call import c.args.ftype.now args c.args.m.now k used_up at none))

pub returns-in-NoMemory-clause-turned : goal.returns-in-NoMemory-clause-turned
returns-in-NoMemory-clause-turned c = λ used_up engine codes import args k left at none replies.
    reply_turns engine codes c.args.call import c.args.ftype.now args c.args.m.now k used_up at c.args.reply left none replies c.serve.new.m NoMemory
    (c.in-NoMemory.ensures engine codes k (step engine k) left at.calls (ap (λ (t : FuncType). length t.params) at.type_is ∙ sym c.len-count.ensures) (ap result_of at.type_is ∙ sym c.result_type.ensures) replies (not_collected engine codes c.args.call import c.args.ftype.now args c.args.m.now k used_up at none))
