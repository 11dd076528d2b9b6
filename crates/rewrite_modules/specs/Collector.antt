-- What a rewritten module imports from the collector's module, and the name under which it exports its memory.
use Rattle.std.specs.Prelude.{ℕ, List, [], ◌∷◌, codes}
use Rattle.wasm_syntax.specs.declared.parts.ExportKind.TheVariants as kinds
use Rattle.wasm_syntax.specs.declared.parts.Import.{Import}
use Rattle.wasm_syntax.specs.declared.parts.Export.{Export}

-- an import of the collector's module, with its type
abbrev pub collector_import : List ℕ → ℕ → Import
collector_import name t = record { «module» = codes "coredump"; name = name; ftype = t }

-- where there is a memory
abbrev pub memory_export : {A : Type 0} → List A → List Export
memory_export [] = []
memory_export (l ∷ ls) = record { name = codes "coredump.memory"; kind = kinds.Memory; index = 0 } ∷ []
