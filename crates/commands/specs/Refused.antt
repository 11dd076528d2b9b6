-- Why a dump is refused.
use Rattle.std.specs.Prelude.{ℕ, List, [], ◌++◌, codes}
use Rattle.std.specs.Fmt.{decimal}
use Rattle.dump_format.specs.declared.fault.DumpFault.{DumpFault}
use Rattle.dump_format.specs.declared.fault.DumpFault.TheVariants.{NoMemory, Malformed, FloatValue, Several, Limit}
use Rattle.dump_format.specs.Part.{part_name}
use Rattle.commands.specs.Texts.{ended, over_limit}
use Rattle.commands.specs.declared.outcome.Outcome.{Outcome}
use Rattle.commands.specs.declared.status.Status.TheVariants as status

abbrev pub bad_dump : List ℕ → Outcome
bad_dump cause = ended status.BadDump (codes "bad dump: " ++ cause ++ codes "\n")

-- the bytes spell no dump, or one that is not taken
abbrev pub refused : DumpFault → Outcome
refused (Malformed at) = bad_dump (codes "malformed at " ++ decimal at)
refused (FloatValue at) = bad_dump (codes "float value at " ++ decimal at)
refused (Several part) = bad_dump (codes "several " ++ part_name part)
refused (Limit what count) = over_limit what count
refused NoMemory = ended status.NoMemory []
