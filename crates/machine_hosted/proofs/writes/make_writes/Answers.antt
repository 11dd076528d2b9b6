use Rattle.std.proofs.Common.{refl, ap, ◌∙◌}
use Rattle.std.specs.Prelude.{option_map}
use Rattle.machine_hosted.proofs.WriteLaws.{without_memory}
use Rattle.machine_hosted.proofs.writes.make_writes.Goals as goal

pub returns-else-is_empty : goal.returns-else-is_empty
returns-else-is_empty c = λ w h. (without_memory w.memory c.args.writes.now (h.memory ∙ ap (option_map (λ m. m.memory)) c.in-None.is) c.if-is_empty.ensures, refl)
