use Rattle.std.proofs.Common.{◌≡◌, ℕ, List, sym, ap, subst, ◌∙◌}
use Rattle.wasm_syntax.specs.declared.module.ModuleParts.{ModuleParts as Module}
use Rattle.dump_match.specs.States.{KeptState}
use Rattle.debug_frames.specs.Information.{SourceInformation, information}
use Rattle.debugger.specs.Subject.{Subject, subject_on}
use Rattle.debugger.specs.calls.Sitting.{sitting}
use Rattle.replay_command.specs.ReplayText.{commands_in}
use Rattle.replay_command.specs.inner.Steps.{Seat, choosing, left_in}
use Rattle.replay_command.proofs.Turns.{looks_at, took_looks}
use Rattle.replay_command.proofs.looking.Viewer.look_at.Goals as goal

pub matched-matched-requires : goal.matched-matched-requires
matched-matched-requires c = subst (λ (v : Seat). KeptState v.module_ c.args.dump.now) (sym c.self.view_is) c.requires.kept

pub returns-in-Ok-clause-took : goal.returns-in-Ok-clause-took
returns-in-Ok-clause-took c = λ r of_module shows.
    let m = c.matched-matched.result in
    let known : SourceInformation = information c.self.inside.bytes.now m.module_.customs in
    let at : Subject = subject_on known m.module_ m.dump in
    let after : Seat = record { module_ = c.self.inside.source.now; bytes = c.self.inside.bytes.now; chosen = c.chosen-self-inside.result } in
    let first = c.self.view_is in
    let looked_at : c.self.inside.source.now ≡ c.args.self.now.module_ = ap (λ (v : Seat). v.module_) first in
    let read_from : c.self.inside.bytes.now ≡ c.args.self.now.bytes = ap (λ (v : Seat). v.bytes) first in
    let of : m.module_ ≡ c.args.self.now.module_ = c.matched-matched.ensures.module_ ∙ looked_at in
    let known_is : known ≡ information c.args.self.now.bytes c.args.self.now.module_.customs =
    ap (λ (b : List ℕ). information b m.module_.customs) read_from ∙ ap (λ (k : Module). information c.args.self.now.bytes k.customs) of in
    took_looks r c.args.self.now after c.args.dump.now c.in_ok-session.session at c.args.out.now c.push_looks.new.out (commands_in c.args.commands.now) (left_in c.in-Ok.rest) c.push_looks.new.session.chosen
    (ap (λ v. choosing v c.chosen-self-inside.result) first) c.chosen-self-inside.ensures shows (c.in_ok-session.ensures ∙ ap (λ i. sitting at i) (ap (λ (v : Seat). v.chosen) first))
    (looks_at r.recording c.args.self.now.bytes c.args.self.now.module_ c.args.dump.now known m of_module known_is of c.matched-matched.ensures.dump)
    c.in-Ok.ensures.looked
