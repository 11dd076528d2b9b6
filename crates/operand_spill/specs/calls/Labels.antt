-- Open labels as they are kept.
use Rattle.rewrite_bodies.specs.calls.Typed.{Info, in_block, in_loop, in_body}
use Rattle.operand_spill.specs.declared.labels.Label.{Label}
use Rattle.operand_spill.specs.declared.labels.Label.TheVariants as kept

abbrev pub info : Label → Info
info (kept.Block t) = in_block t
info (kept.Loop t) = in_loop t
info (kept.Body t) = in_body t
