-- Locals that are worked out, as they are kept.
use Rattle.std.specs.Prelude.{List, map}
use Rattle.rewrite_bodies.specs.calls.Slots.{Derivation}
use Rattle.rewrite_code.specs.declared.derivation.Derivation.{Derivation as Kept}

abbrev pub derivation : Kept → Derivation
derivation d = record { made = d.made; instruction = d.instruction; left = d.left; right = d.right }

abbrev pub each_derivation : List Kept → List Derivation
each_derivation ds = map derivation ds
