use Rattle.replay_command.proofs.Answered.{at_start, starts_told, fault_told}
use Rattle.replay_command.proofs.answering.on_replies.Goals as goal

pub told-requires-clause-starts : goal.told-requires-clause-starts
told-requires-clause-starts c =
    at_start c.args.source.now c.as_str.result.now c.as_slice.result.now c.args.replies.now c.depth_of.result c.args.words.now.fuel c.spacing.result c.in-Ok.replayer c.depth_of.ensures.fits c.in-Ok.ensures

pub returns-in-Ok-clause-value : goal.returns-in-Ok-clause-value
returns-in-Ok-clause-value c =
    starts_told c.args.words.now c.args.bytes.now c.as_str-in-Ok.result.now c.args.source.now c.args.replies.now c.as_str.result.now c.as_slice.result.now c.depth_of.result c.spacing.result c.in-Ok.replayer c.told.result
    c.as_str.ensures.value c.as_slice.ensures c.depth_of.ensures.value c.as_str-in-Ok.ensures.value c.in-Ok.ensures c.told.ensures.value

pub returns-in-Err-clause-value : goal.returns-in-Err-clause-value
returns-in-Err-clause-value c =
    fault_told c.args.words.now c.args.bytes.now c.args.source.now c.args.replies.now c.as_str.result.now c.as_slice.result.now c.depth_of.result c.spacing.result c.in-Err.fault c.not_started.result
    c.as_str.ensures.value c.as_slice.ensures c.depth_of.ensures.value c.in-Err.ensures c.not_started.ensures.value
