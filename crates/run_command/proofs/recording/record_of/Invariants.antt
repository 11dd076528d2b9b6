use Rattle.std.proofs.Common.{◌≡◌, List, ℕ, All, map, take}
use Rattle.wasm_syntax.specs.declared.host.Served.{Served}
use Rattle.host_replies.specs.Record.{IsReplyTyped, record_text}
use Rattle.run_command.proofs.recording.record_of.Given as goal

abbrev pub invariant-loop-index : goal.invariant-loop-index
invariant-loop-index g l = record {
  text : l.text ≡ record_text (map (λ (s : List ℕ × Served). s.1.reply) (take l.index l.hosts.served));
  typed : All (λ (s : List ℕ × Served). IsReplyTyped s.1.reply) (take l.index l.hosts.served);
}
