use Rattle.std.proofs.Common.{◌≡◌, ◌∙◌, sym, ap, subst}
use Rattle.std.specs.Prelude.{true, false, Some, slice_get}
use Rattle.wasm_syntax.specs.declared.module.ModuleParts.{ModuleParts as Module}
use Rattle.wasm_syntax.specs.Machine.{host_call}
use Rattle.host_devices.specs.declared.host.HostAnswer.{HostAnswer}
use Rattle.host_devices.specs.calls.HostSides as sides
use Rattle.host_devices.specs.calls.HostSides.{told, Answers}
use Rattle.machine_hosted.specs.inner.Turns.{end_of}
use Rattle.machine_hosted.proofs.HeardLaws.{typed, few, grew_told, grew_reply, told_meets, reply_meets, silent_meets, failed_meets, replied_cause}
use Rattle.machine_hosted.proofs.turn.serve_import.Goals as goal

pub call_host-answer-requires-clause-there : goal.call_host-answer-requires-clause-there
call_host-answer-requires-clause-there g c =
    c.requires.knows _ _ (ap (λ (m : Module). slice_get m.imports c.args.call.function) (sym c.parts-source.ensures.value) ∙ sym c.in-Some.ensures.value)

pub call_host-answer-requires-clause-served : goal.call_host-answer-requires-clause-served
call_host-answer-requires-clause-served g c =
    let a : slice_get c.args.runner.now.source.now.imports c.args.call.function ≡ Some c.in-Some.import.now = ap (λ (m : Module). slice_get m.imports c.args.call.function) (sym c.parts-source.ensures.value) ∙ sym c.in-Some.ensures.value in
    let b : slice_get c.args.runner.now.source.now.types c.in-Some.import.now.ftype ≡ Some c.in-Some-get.ftype.now = ap (λ (m : Module). slice_get m.types c.in-Some.import.now.ftype) (sym c.parts-source.ensures.value) ∙ sym c.in-Some-get.ensures.value in
    c.requires.calling.setting.serves c.args.call.function c.in-Some.import.now c.in-Some-get.ftype.now a b

pub call_host-answer-requires-clause-types : goal.call_host-answer-requires-clause-types
call_host-answer-requires-clause-types g c =
    let source = c.args.runner.now.source.now in
    let import = c.in-Some.import.now in
    let type = c.in-Some-get.ftype.now in
    let args = c.in-Ok.args in
    let a : slice_get c.args.runner.now.source.now.imports c.args.call.function ≡ Some c.in-Some.import.now = ap (λ (m : Module). slice_get m.imports c.args.call.function) (sym c.parts-source.ensures.value) ∙ sym c.in-Some.ensures.value in
    let b : slice_get c.args.runner.now.source.now.types c.in-Some.import.now.ftype ≡ Some c.in-Some-get.ftype.now = ap (λ (m : Module). slice_get m.types c.in-Some.import.now.ftype) (sym c.parts-source.ensures.value) ∙ sym c.in-Some-get.ensures.value in
    typed source c.args.call c.args.m.now (g.H.HostSide.collecting c.args.hosts.now) (g.H.HostSide.serving c.args.hosts.now) import type args a b (λ M codes k s h others below o n. c.in-Ok.ensures M codes k s h others below o (n ∙ sym c.len.ensures)) c.requires.calling

pub call_host-answer-requires-clause-results : goal.call_host-answer-requires-clause-results
call_host-answer-requires-clause-results g c =
    let source = c.args.runner.now.source.now in
    let import = c.in-Some.import.now in
    let type = c.in-Some-get.ftype.now in
    let args = c.in-Ok.args in
    let a : slice_get c.args.runner.now.source.now.imports c.args.call.function ≡ Some c.in-Some.import.now = ap (λ (m : Module). slice_get m.imports c.args.call.function) (sym c.parts-source.ensures.value) ∙ sym c.in-Some.ensures.value in
    let b : slice_get c.args.runner.now.source.now.types c.in-Some.import.now.ftype ≡ Some c.in-Some-get.ftype.now = ap (λ (m : Module). slice_get m.types c.in-Some.import.now.ftype) (sym c.parts-source.ensures.value) ∙ sym c.in-Some-get.ensures.value in
    few source c.args.call c.args.m.now (g.H.HostSide.collecting c.args.hosts.now) (g.H.HostSide.serving c.args.hosts.now) import type args a b (λ M codes k s h others below o n. c.in-Ok.ensures M codes k s h others below o (n ∙ sym c.len.ensures)) c.requires.calling

pub returns-then-told-clause-turned : goal.returns-then-told-clause-turned
returns-then-told-clause-turned g c = λ k.
    let source = c.args.runner.now.source.now in
    let import = c.in-Some.import.now in
    let type = c.in-Some-get.ftype.now in
    let args = c.in-Ok.args in
    let a : slice_get c.args.runner.now.source.now.imports c.args.call.function ≡ Some c.in-Some.import.now = ap (λ (m : Module). slice_get m.imports c.args.call.function) (sym c.parts-source.ensures.value) ∙ sym c.in-Some.ensures.value in
    let b : slice_get c.args.runner.now.source.now.types c.in-Some.import.now.ftype ≡ Some c.in-Some-get.ftype.now = ap (λ (m : Module). slice_get m.types c.in-Some.import.now.ftype) (sym c.parts-source.ensures.value) ∙ sym c.in-Some-get.ensures.value in
    told_meets source c.args.call c.args.m.now (g.H.HostSide.collecting c.args.hosts.now) (g.H.HostSide.serving c.args.hosts.now) import type args a b (λ M codes k s h others below o n. c.in-Ok.ensures M codes k s h others below o (n ∙ sym c.len.ensures)) k (g.H.HostSide.used_up c.call_host-answer.new.hosts) c.after_told.result c.after_told.new.m (g.H.HostSide.calls c.args.hosts.now) (g.H.HostSide.calls c.call_host-answer.new.hosts)
    (grew_told (told (g.H.HostSide.collecting c.args.hosts.now) import (host_call c.args.call.function import type args)) c.call_host-answer.result.told (host_call c.args.call.function import type args) c.in-Replied.reply (g.H.HostSide.calls c.args.hosts.now) (g.H.HostSide.calls c.call_host-answer.new.hosts) c.call_host-answer.ensures.told c.if-told.true (subst (λ (x : HostAnswer). Answers (told (g.H.HostSide.collecting c.args.hosts.now) import (host_call c.args.call.function import type args)) (host_call c.args.call.function import type args) x (g.H.HostSide.calls c.args.hosts.now) (g.H.HostSide.calls c.call_host-answer.new.hosts)) c.in-Replied.is c.call_host-answer.ensures.calls))
    (λ used_up M codes i us there kept at some. c.after_told.ensures.turned used_up M codes i us there kept at some)

pub returns-then-told-clause-cause : goal.returns-then-told-clause-cause
returns-then-told-clause-cause g c = replied_cause (end_of c.after_told.result) (g.H.HostSide.fault_count c.args.hosts.now) (g.H.HostSide.fault_count c.call_host-answer.new.hosts) c.after_told.ensures.replied

pub returns-else-told-clause-turned : goal.returns-else-told-clause-turned
returns-else-told-clause-turned g c = λ k.
    let source = c.args.runner.now.source.now in
    let import = c.in-Some.import.now in
    let type = c.in-Some-get.ftype.now in
    let args = c.in-Ok.args in
    let a : slice_get c.args.runner.now.source.now.imports c.args.call.function ≡ Some c.in-Some.import.now = ap (λ (m : Module). slice_get m.imports c.args.call.function) (sym c.parts-source.ensures.value) ∙ sym c.in-Some.ensures.value in
    let b : slice_get c.args.runner.now.source.now.types c.in-Some.import.now.ftype ≡ Some c.in-Some-get.ftype.now = ap (λ (m : Module). slice_get m.types c.in-Some.import.now.ftype) (sym c.parts-source.ensures.value) ∙ sym c.in-Some-get.ensures.value in
    reply_meets source c.args.call c.args.m.now (g.H.HostSide.collecting c.args.hosts.now) (g.H.HostSide.serving c.args.hosts.now) import type args a b (λ M codes k s h others below o n. c.in-Ok.ensures M codes k s h others below o (n ∙ sym c.len.ensures)) k (g.H.HostSide.used_up c.call_host-answer.new.hosts) c.after_reply.result c.after_reply.new.m (g.H.HostSide.calls c.args.hosts.now) (g.H.HostSide.calls c.call_host-answer.new.hosts) c.in-Replied.reply
    (grew_reply (told (g.H.HostSide.collecting c.args.hosts.now) import (host_call c.args.call.function import type args)) c.call_host-answer.result.told (host_call c.args.call.function import type args) c.in-Replied.reply (g.H.HostSide.calls c.args.hosts.now) (g.H.HostSide.calls c.call_host-answer.new.hosts) c.call_host-answer.ensures.told c.if-told.false (subst (λ (x : HostAnswer). Answers (told (g.H.HostSide.collecting c.args.hosts.now) import (host_call c.args.call.function import type args)) (host_call c.args.call.function import type args) x (g.H.HostSide.calls c.args.hosts.now) (g.H.HostSide.calls c.call_host-answer.new.hosts)) c.in-Replied.is c.call_host-answer.ensures.calls))
    (λ used_up M codes i us there left at none replies. c.after_reply.ensures.turned used_up M codes i us there left at none replies)

pub returns-else-told-clause-cause : goal.returns-else-told-clause-cause
returns-else-told-clause-cause g c = replied_cause (end_of c.after_reply.result) (g.H.HostSide.fault_count c.args.hosts.now) (g.H.HostSide.fault_count c.call_host-answer.new.hosts) c.after_reply.ensures.replied

pub returns-in-NoReply-clause-turned : goal.returns-in-NoReply-clause-turned
returns-in-NoReply-clause-turned g c = λ k.
    let source = c.args.runner.now.source.now in
    let import = c.in-Some.import.now in
    let type = c.in-Some-get.ftype.now in
    let args = c.in-Ok.args in
    let a : slice_get c.args.runner.now.source.now.imports c.args.call.function ≡ Some c.in-Some.import.now = ap (λ (m : Module). slice_get m.imports c.args.call.function) (sym c.parts-source.ensures.value) ∙ sym c.in-Some.ensures.value in
    let b : slice_get c.args.runner.now.source.now.types c.in-Some.import.now.ftype ≡ Some c.in-Some-get.ftype.now = ap (λ (m : Module). slice_get m.types c.in-Some.import.now.ftype) (sym c.parts-source.ensures.value) ∙ sym c.in-Some-get.ensures.value in
    let empty = subst (λ (x : HostAnswer). sides.IsExhausted (g.H.HostSide.used_up c.args.hosts.now import) x) c.in-NoReply.is c.call_host-answer.ensures.exhausted in
    let keeps = subst (λ (x : HostAnswer). sides.KeepsUse x (g.H.HostSide.used_up c.args.hosts.now) (g.H.HostSide.used_up c.call_host-answer.new.hosts)) c.in-NoReply.is c.call_host-answer.ensures.used in
    let none_left : g.H.HostSide.used_up c.call_host-answer.new.hosts c.in-Some.import.now ≡ true = keeps c.in-Some.import.now ∙ empty in
    silent_meets source c.args.call c.args.m.now (g.H.HostSide.collecting c.args.hosts.now) (g.H.HostSide.serving c.args.hosts.now) import type args a b (λ M codes k s h others below o n. c.in-Ok.ensures M codes k s h others below o (n ∙ sym c.len.ensures)) k (g.H.HostSide.used_up c.call_host-answer.new.hosts) (g.H.HostSide.calls c.args.hosts.now) (g.H.HostSide.calls c.call_host-answer.new.hosts) none_left (subst (λ (x : HostAnswer). Answers (told (g.H.HostSide.collecting c.args.hosts.now) import (host_call c.args.call.function import type args)) (host_call c.args.call.function import type args) x (g.H.HostSide.calls c.args.hosts.now) (g.H.HostSide.calls c.call_host-answer.new.hosts)) c.in-NoReply.is c.call_host-answer.ensures.calls)

pub returns-in-Failed-clause-turned : goal.returns-in-Failed-clause-turned
returns-in-Failed-clause-turned g c = λ k.
    let source = c.args.runner.now.source.now in
    let import = c.in-Some.import.now in
    let type = c.in-Some-get.ftype.now in
    let args = c.in-Ok.args in
    let a : slice_get c.args.runner.now.source.now.imports c.args.call.function ≡ Some c.in-Some.import.now = ap (λ (m : Module). slice_get m.imports c.args.call.function) (sym c.parts-source.ensures.value) ∙ sym c.in-Some.ensures.value in
    let b : slice_get c.args.runner.now.source.now.types c.in-Some.import.now.ftype ≡ Some c.in-Some-get.ftype.now = ap (λ (m : Module). slice_get m.types c.in-Some.import.now.ftype) (sym c.parts-source.ensures.value) ∙ sym c.in-Some-get.ensures.value in
    let some = subst (λ (x : HostAnswer). sides.IsExhausted (g.H.HostSide.used_up c.args.hosts.now import) x) c.in-Failed.is c.call_host-answer.ensures.exhausted in
    let keeps = subst (λ (x : HostAnswer). sides.KeepsUse x (g.H.HostSide.used_up c.args.hosts.now) (g.H.HostSide.used_up c.call_host-answer.new.hosts)) c.in-Failed.is c.call_host-answer.ensures.used in
    let some_left : g.H.HostSide.used_up c.call_host-answer.new.hosts c.in-Some.import.now ≡ false = keeps c.in-Some.import.now ∙ some in
    let cause = subst (λ (x : HostAnswer). sides.HasCause import x (g.H.HostSide.fault_count c.args.hosts.now) (g.H.HostSide.fault_count c.call_host-answer.new.hosts)) c.in-Failed.is c.call_host-answer.ensures.cause in
    failed_meets source c.args.call c.args.m.now (g.H.HostSide.collecting c.args.hosts.now) (g.H.HostSide.serving c.args.hosts.now) import type args a b (λ M codes k s h others below o n. c.in-Ok.ensures M codes k s h others below o (n ∙ sym c.len.ensures)) k (g.H.HostSide.used_up c.call_host-answer.new.hosts) c.in-Failed.name (g.H.HostSide.calls c.args.hosts.now) (g.H.HostSide.calls c.call_host-answer.new.hosts) cause.0 some_left (subst (λ (x : HostAnswer). Answers (told (g.H.HostSide.collecting c.args.hosts.now) import (host_call c.args.call.function import type args)) (host_call c.args.call.function import type args) x (g.H.HostSide.calls c.args.hosts.now) (g.H.HostSide.calls c.call_host-answer.new.hosts)) c.in-Failed.is c.call_host-answer.ensures.calls)
