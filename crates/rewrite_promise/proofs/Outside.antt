-- What those outside see does not hang on offsets, lengths and custom sections.
use Rattle.std.proofs.Common.{◌≡◌, ℕ, List, [], ◌∷◌, ◌++◌, length, map, sym, ap, ◌∙◌, subst}
use Rattle.std.specs.Prelude.{take}
use Rattle.std.proofs.lemmas.List.{length-map, map-append}
use Rattle.std.proofs.Math.Seq.{take-append_seam}
use Rattle.wasm_syntax.specs.declared.module.ModuleParts.{ModuleParts as Module}
use Rattle.wasm_syntax.specs.Module.{Program}
use Rattle.wasm_syntax.specs.SameCode.{global_code, segment_code, code_alone}
use Rattle.rewrite_modules.specs.calls.Instrument.{flag_global, length_global, new_module}
use Rattle.rewrite_modules.specs.Interface.{KeepsInterface, KeepsTable}
use Rattle.rewrite_modules.proofs.Interface.{interface, table_kept}
use Rattle.rewrite_modules.proofs.BareRuns.{table_bare}
use Rattle.wasm_syntax.specs.Run.{start_table}
use Rattle.rewrite_promise.specs.Outside.{KeepsOutside}

bare_kept : (m n : Module) → KeepsInterface m n → KeepsInterface (code_alone m) (code_alone n)
bare_kept m n k = record {
  imports = k.imports;
  types = k.types;
  takes_i32 = k.takes_i32;
  takes_i64 = k.takes_i64;
  takes_frame = k.takes_frame;
  exports = k.exports;
  indices = k.indices;
  memories = k.memories;
  segments = ap (map segment_code) k.segments;
}

front_mapped : {A B : Type 0} (f : A → B) (xs ys : List A) → take (length xs) (map f (xs ++ ys)) ≡ map f xs
front_mapped f xs ys =
    ap (take (length xs)) (map-append f xs ys) ∙ ap (λ (n : ℕ). take n (map f xs ++ map f ys)) (sym (length-map xs f)) ∙ take-append_seam (map f xs) (map f ys)

globals_first : (p : Program) → take (length p.module_.globals) (map global_code (new_module p).globals) ≡ map global_code p.module_.globals
globals_first p = front_mapped global_code p.module_.globals (flag_global ∷ length_global p.module_ ∷ [])

-- the table of a module that is the same but for offsets and lengths
pub table_same : {m : Module} (n other : Module) → code_alone n ≡ code_alone other → KeepsTable m n → KeepsTable m other
table_same n other e k = record {
  tables = sym (ap (λ (z : Module). z.tables) e) ∙ k.tables;
  entries = sym (table_bare other) ∙ ap (λ (z : Module). start_table z) (sym e) ∙ table_bare n ∙ k.entries;
}

pub outside : (p : Program) (other : Module) → code_alone (new_module p) ≡ code_alone other → KeepsOutside p.module_ other
outside p other e = record {
  interface = subst (KeepsInterface (code_alone p.module_)) e (bare_kept p.module_ (new_module p) (interface p));
  table = table_same (new_module p) other e (table_kept p);
  globals = ap (λ (z : Module). take (length p.module_.globals) z.globals) (sym e) ∙ globals_first p;
}
