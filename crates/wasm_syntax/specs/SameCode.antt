-- What is left of a module without places, lengths and custom sections: the code itself.
use Rattle.std.specs.Prelude.{[], map}
use Rattle.wasm_syntax.specs.declared.instruction.Op.{Op}
use Rattle.wasm_syntax.specs.declared.parts.Body.{Body}
use Rattle.wasm_syntax.specs.declared.parts.Global.{Global}
use Rattle.wasm_syntax.specs.declared.parts.ElementSeg.{ElementSeg}
use Rattle.wasm_syntax.specs.declared.parts.DataSeg.{DataSeg}
use Rattle.wasm_syntax.specs.declared.module.ModuleParts.{ModuleParts}

abbrev pub op_code : Op → Op
op_code o = record { at = 0; len = 0; code = o.code }

abbrev pub body_code : Body → Body
body_code b = record { groups = b.groups; ops = map op_code b.ops; targets = b.targets; start = 0 }

abbrev pub global_code : Global → Global
global_code g = record { vtype = g.vtype; mutable = g.mutable; init = body_code g.init }

abbrev pub element_code : ElementSeg → ElementSeg
element_code e = record { table = e.table; offset = body_code e.offset; functions = e.functions }

abbrev pub segment_code : DataSeg → DataSeg
segment_code s = record { memory = s.memory; offset = body_code s.offset; bytes = s.bytes }

abbrev pub code_alone : ModuleParts → ModuleParts
code_alone m = record m {
  globals = map global_code m.globals;
  elements = map element_code m.elements;
  segments = map segment_code m.segments;
  bodies = map body_code m.bodies;
  customs = [];
  plain_bytes = 0;
}
