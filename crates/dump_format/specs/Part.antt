-- The names of the parts of a dump that may stand only once.
use Rattle.std.specs.Prelude.{ℕ, List, codes}
use Rattle.dump_format.specs.declared.fault.DumpPart.{DumpPart}
use Rattle.dump_format.specs.declared.fault.DumpPart.TheVariants.{Core, CoreModules, CoreInstances, CoreStack, Memory}

abbrev pub part_name : DumpPart → List ℕ
part_name Core = codes "core"
part_name CoreModules = codes "coremodules"
part_name CoreInstances = codes "coreinstances"
part_name CoreStack = codes "corestack"
part_name Memory = codes "memory"
