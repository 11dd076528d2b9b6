use Rattle.std.proofs.Common.{◌≡◌, ℕ, List, ◌∙◌, All, take, arith, subst}
use Rattle.std.proofs.lemmas.List.Elements.{All-map}
use Rattle.wasm_syntax.specs.declared.host.Served.{Served}
use Rattle.host_replies.specs.Record.{IsReplyTyped}
use Rattle.run_command.proofs.Fitting.{one_reply_more, one_typed_more}
use Rattle.run_command.proofs.recording.record_of.Goals as goal

pub loop-index-preserved : goal.loop-index-preserved
loop-index-preserved g c = record {
  text = c.in_ok-push_reply.ensures.text ∙ one_reply_more c.args.hosts.now.served c.loop-index.index c.reply.result.now c.loop-index.text c.reply.ensures c.loop-index.invariant.text;
  typed = one_typed_more c.args.hosts.now.served c.loop-index.index c.reply.result.now c.reply.ensures (omega (arith, c.requires)) c.loop-index.invariant.typed c.in_ok-push_reply.ensures.typed;
}

pub returns-clause-typed : goal.returns-clause-typed
returns-clause-typed g c =
    let all : c.loop-index.index ≡ c.args.count = omega arith in
    All-map IsReplyTyped (λ (s : List ℕ × Served). s.1.reply) (take c.args.count c.args.hosts.now.served)
    (subst (λ n. All (λ (s : List ℕ × Served). IsReplyTyped s.1.reply) (take n c.args.hosts.now.served)) all c.loop-index.invariant.typed)
