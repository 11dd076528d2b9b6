use Rattle.std.proofs.Common.{◌≡◌, ◌-◌, ℕ, List, sym, ap, ◌∙◌}
use Rattle.causes.specs.Counts.{Rose}
use Rattle.wasm_syntax.specs.declared.module.ModuleParts.{ModuleParts as Module}
use Rattle.std.specs.Prelude.{slice_get}
use Rattle.wasm_syntax.specs.Module.{function_export}
use Rattle.machine_hosted.specs.calls.Answers.{HasCause}
use Rattle.machine_hosted.specs.declared.answer.RunEnd.TheVariants.{NoMemory}
use Rattle.wasm_machine.proofs.StandingLaws.{of_same}
use Rattle.run_session.specs.Telling.{tells}
use Rattle.run_session.specs.Invocations.{invocation_of, depth_of}
use Rattle.run_session.specs.calls.Sessions.{ends_badly}
use Rattle.run_session.proofs.Tellings.{behaves}
use Rattle.run_session.proofs.Invocations.{kept_badly}
use Rattle.run_session.proofs.Ones.{result_made, result_stopped, ends_all, ends_some}
use Rattle.run_session.proofs.session.run_one.Goals as goal

pub invoke-requires-clause-knows : goal.invoke-requires-clause-knows
invoke-requires-clause-knows g c = λ f i e. ap (λ l. slice_get l f) c.requires.imports ∙ e

pub returns-clause-made : goal.returns-clause-made
returns-clause-made g c = λ deliver is_delivery p is_of.
    let came = c.in-Ok.ensures.came in
    result_made (tells c.args.words.now.collect deliver) p c.args.words.now.collect (g.H.HostSide.collecting c.args.hosts.now) (depth_of c.args.words.now) c.depth_of.result c.args.words.now.dump c.args.words.now.name (g.H.HostSide.used_up c.invoke.new.hosts) c.args.instance.now c.invoke.new.self
    (invocation_of c.args.invocation.now) c.as_slice-args.result.now came.0 c.args.words.now.fuel c.saturating_sub-left.result c.in-Ok.end c.collected.result.now
    (g.H.HostSide.calls c.args.hosts.now) (g.H.HostSide.calls c.invoke.new.hosts) (g.F.Files.told c.args.files.now) (g.F.Files.told c.end_turn.new.files)
    (of_same c.args.instance.now c.invoke.new.self p c.invoke.ensures.module_ is_of) c.invoke.ensures.prepared c.as_slice-args.ensures (c.saturating_sub-left.ensures ∙ ap (λ n. c.args.words.now.fuel - n) c.steps.ensures) c.requires.collecting c.depth_of.ensures
    (ap (λ (m : Module). function_export m c.args.invocation.now.entry) is_of.of_module ∙ ap (λ (n : List ℕ). function_export c.args.instance.now.module_ n) (sym c.as_str-entry.ensures.value) ∙ came.1)
    c.requires.collected c.collected.ensures (came.2 p is_of)
    c.end_turn.result c.saturating_sub-calls.result c.given-before.result c.given.result c.args.lines.now c.end_turn.new.lines
    c.in-Ok.ensures.due (ap ends_badly came.3 ∙ kept_badly came.0 c.as_slice-args.result.now c.depth_of.result (g.H.HostSide.collecting c.args.hosts.now) c.in-Ok.end) c.given-before.ensures c.given.ensures c.saturating_sub-calls.ensures
    c.end_turn.ensures.memory (c.end_turn.ensures.added deliver is_delivery)

pub returns-clause-stops : goal.returns-clause-stops
returns-clause-stops g c = λ deliver is_delivery p rest is_of begun.
    let came = c.in-Ok.ensures.came in
    result_stopped (tells c.args.words.now.collect deliver) p c.args.words.now.collect (g.H.HostSide.collecting c.args.hosts.now) (depth_of c.args.words.now) c.depth_of.result c.args.words.now.dump c.args.words.now.name (g.H.HostSide.used_up c.invoke.new.hosts) c.args.instance.now c.invoke.new.self
    (invocation_of c.args.invocation.now) c.as_slice-args.result.now came.0 c.args.words.now.fuel c.saturating_sub-left.result c.in-Ok.end c.collected.result.now
    (g.H.HostSide.calls c.args.hosts.now) (g.H.HostSide.calls c.invoke.new.hosts) (g.F.Files.told c.args.files.now) (g.F.Files.told c.end_turn.new.files)
    (of_same c.args.instance.now c.invoke.new.self p c.invoke.ensures.module_ is_of) c.invoke.ensures.prepared c.as_slice-args.ensures (c.saturating_sub-left.ensures ∙ ap (λ n. c.args.words.now.fuel - n) c.steps.ensures) c.requires.collecting c.depth_of.ensures
    (ap (λ (m : Module). function_export m c.args.invocation.now.entry) is_of.of_module ∙ ap (λ (n : List ℕ). function_export c.args.instance.now.module_ n) (sym c.as_str-entry.ensures.value) ∙ came.1)
    c.requires.collected c.collected.ensures (came.2 p is_of)
    c.end_turn.result (Rose (g.F.Files.faults c.args.files.now) (g.F.Files.faults c.end_turn.new.files)) rest c.args.lines.now.traps (behaves c.args.words.now.collect deliver) begun
    (c.end_turn.ensures.part deliver is_delivery) c.end_turn.ensures.memory (c.end_turn.ensures.dumped deliver is_delivery) c.end_turn.ensures.refused

pub returns-clause-memory : goal.returns-clause-memory
returns-clause-memory g c = ends_some c.end_turn.result c.in-Ok.end (λ a. a ≡ NoMemory → ⊥) c.end_turn.ensures.ends c.end_turn.ensures.memory

pub returns-clause-cause : goal.returns-clause-cause
returns-clause-cause g c =
    ends_all c.end_turn.result c.in-Ok.end (λ a. HasCause a (g.H.HostSide.fault_count c.args.hosts.now) (g.H.HostSide.fault_count c.invoke.new.hosts)) c.end_turn.ensures.ends
    c.in-Ok.ensures.cause
