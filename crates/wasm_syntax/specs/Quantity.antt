-- The counted quantities of an input: the greatest number of each that is taken, and its name in texts.
use Rattle.std.specs.Prelude.{ℕ, List, codes}
use Rattle.wasm_syntax.specs.declared.quantity.Quantity.{Quantity}
use Rattle.wasm_syntax.specs.declared.quantity.Quantity.TheVariants.{ModuleBytes, DumpBytes, RepliesBytes, Locals, Nesting, Table, Memory, Height, DumpPages, DumpFrames, InstrumentLocals, InstrumentParameters, InstrumentHeight, InstrumentNesting, Weight}

abbrev pub greatest : Quantity → ℕ
greatest ModuleBytes = 134217728
greatest DumpBytes = 536870912
greatest RepliesBytes = 16777216
greatest Locals = 16384
greatest Nesting = 1024
greatest Table = 65536
greatest Memory = 4096
greatest Height = 4096
greatest DumpPages = 4096
greatest DumpFrames = 65536
greatest InstrumentLocals = 10000
greatest InstrumentParameters = 1000
greatest InstrumentHeight = 1000
greatest InstrumentNesting = 1000
greatest Weight = 134217728

abbrev pub name : Quantity → List ℕ
name ModuleBytes = codes "module bytes"
name DumpBytes = codes "dump bytes"
name RepliesBytes = codes "replies bytes"
name Locals = codes "locals"
name Nesting = codes "nesting"
name Table = codes "table"
name Memory = codes "memory"
name Height = codes "height"
name DumpPages = codes "dump pages"
name DumpFrames = codes "dump frames"
name InstrumentLocals = codes "instrument locals"
name InstrumentParameters = codes "instrument parameters"
name InstrumentHeight = codes "instrument height"
name InstrumentNesting = codes "instrument nesting"
name Weight = codes "weight"
