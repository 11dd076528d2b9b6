-- A module is the one of the definition, part by part.
use Rattle.std.proofs.Common.{◌≡◌, ℕ, List, [], ◌∷◌, replicate, None}
use Rattle.std.specs.Prelude.{codes}
use Rattle.wasm_syntax.specs.declared.value.ValType.TheVariants.{I32}
use Rattle.wasm_syntax.specs.declared.parts.Import.{Import}
use Rattle.wasm_syntax.specs.declared.parts.ExportKind.TheVariants as kinds
use Rattle.wasm_syntax.specs.declared.parts.Export.{Export}
use Rattle.wasm_syntax.specs.declared.parts.FuncType.{FuncType}
use Rattle.wasm_syntax.specs.declared.parts.Limits.{Limits}
use Rattle.wasm_syntax.specs.declared.parts.Global.{Global}
use Rattle.wasm_syntax.specs.declared.parts.ElementSeg.{ElementSeg}
use Rattle.wasm_syntax.specs.declared.parts.DataSeg.{DataSeg}
use Rattle.wasm_syntax.specs.declared.parts.Body.{Body}
use Rattle.wasm_syntax.specs.declared.parts.Custom.{Custom}
use Rattle.wasm_syntax.specs.declared.module.ModuleParts.{ModuleParts as Module}
use Rattle.selftest_command.specs.Selftest.{bodies, selftest}

module _ (n : ℕ) (ts : List FuncType) (is : List Import) (fs : List ℕ) (tables memories : List Limits) (gs : List Global) (es : List Export) (elements : List ElementSeg) (ss : List DataSeg) (bs : List Body) (cs : List Custom) where
  abbrev together : Module
  together = record {
    types = ts;
    imports = is;
    functions = fs;
    tables = tables;
    memories = memories;
    globals = gs;
    exports = es;
    start = None;
    elements = elements;
    segments = ss;
    bodies = bs;
    customs = cs;
    plain_bytes = 0;
  }

  pub put_together : ts ≡ record { params = I32 ∷ I32 ∷ []; results = I32 ∷ [] } ∷ [] → is ≡ [] → fs ≡ replicate n 0 → tables ≡ [] → memories ≡ record { min = 1; max = None } ∷ [] → gs ≡ [] → es ≡ record { name = codes "main"; kind = kinds.Function; index = 0 } ∷ [] → elements ≡ [] → ss ≡ [] → bs ≡ bodies n n → cs ≡ [] → together ≡ selftest n
  unfolding selftest
  put_together a b c d e f g h k l m =
      λ i. record {
        types = a i;
        imports = b i;
        functions = c i;
        tables = d i;
        memories = e i;
        globals = f i;
        exports = g i;
        start = None;
        elements = h i;
        segments = k i;
        bodies = l i;
        customs = m i;
        plain_bytes = 0;
      }
