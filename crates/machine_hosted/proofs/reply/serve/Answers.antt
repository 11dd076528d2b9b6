use Rattle.std.proofs.Common.{◌≡◌, reverse, refl, sym, ap, ◌∙◌}
use Rattle.std.proofs.lemmas.List.{length-reverse}
use Rattle.std.specs.Prelude.{true, Some, option_map}
use Rattle.wasm_syntax.specs.Host.{fits_type, after_writes}
use Rattle.wasm_syntax.specs.Machine.{result_of}
use Rattle.machine_hosted.proofs.MeetLaws.{world_with, served_all}
use Rattle.machine_hosted.proofs.reply.serve.Goals as goal

pub returns-in-Ok : goal.returns-in-Ok
returns-in-Ok c = λ engine codes k s left h n r replies unheard.
    let memory = option_map (λ m. m.memory) c.make_writes.new.shared.memory in
    let w = c.in-Done.ensures k.world h.stands.shares.holds in
    let fits : fits_type (result_of h.type) c.args.reply.now.value ≡ true = ap (λ t. fits_type t c.args.reply.now.value) r ∙ sym c.fits_result.ensures ∙ c.if-not-fits_result.false in
    let wrote : after_writes k.world.memory c.args.reply.now.writes ≡ Some memory = ap (after_writes k.world.memory) (sym c.as_slice.ensures) ∙ w.0 in
    served_all engine codes k c.args.call s c.args.m.now h c.args.reply.now left replies unheard c.finish_call.new.m memory fits wrote
    (λ args below t. c.in-Ok.ensures engine codes k s c.args.m.now h (world_with engine codes k c.args.call s c.args.m.now h c.args.reply.now left replies unheard memory args) k.collected (reverse args) below refl
    (record { holds = record { globals = h.stands.shares.holds.globals ∙ sym w.1; memory = refl }; table = h.stands.shares.table })
    t.operands (length-reverse args ∙ t.count ∙ n))
