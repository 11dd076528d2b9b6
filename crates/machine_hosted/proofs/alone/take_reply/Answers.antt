use Rattle.std.proofs.Common.{◌≡◌, refl, sym, ap, ◌∙◌}
use Rattle.std.specs.Prelude.{true, if◌then◌else◌, None}
use Rattle.wasm_syntax.specs.Host.{fits_type, after_writes}
use Rattle.machine_hosted.proofs.alone.take_reply.Goals as goal

pub returns-in-Done : goal.returns-in-Done
returns-in-Done c = λ w h.
    let t = c.in-Done.ensures w h in
    let fits : fits_type c.args.wanted c.args.reply.value ≡ true = sym c.fits_result.ensures ∙ c.if-not-fits_result.false in
    (refl, ap (λ b. if b then after_writes w.memory c.args.reply.writes else None) fits ∙ ap (after_writes w.memory) (sym c.as_slice.ensures) ∙ t.0, t.1)

pub returns-in-Misfit : goal.returns-in-Misfit
returns-in-Misfit c = λ w h.
    let t = c.in-Misfit.ensures w h in
    let fits : fits_type c.args.wanted c.args.reply.value ≡ true = sym c.fits_result.ensures ∙ c.if-not-fits_result.false in
    (refl, ap (λ b. if b then after_writes w.memory c.args.reply.writes else None) fits ∙ ap (after_writes w.memory) (sym c.as_slice.ensures) ∙ t.0, t.1)
