-- The interface of the rewritten module.
use Rattle.std.specs.Prelude.{◌≡◌, ℕ, zero, suc, ◌+◌, Bool, true, false, if◌then◌else◌, List, [], ◌∷◌, ◌++◌, map, length, slice_get, nat_lt, Some, refl}
use Rattle.std.proofs.Common.{arith, ap, ◌∙◌}
use Rattle.std.proofs.lemmas.List.{map-append}
use Rattle.std.proofs.Math.Seq.{take-append_seam}
use Rattle.wasm_syntax.specs.declared.parts.Export.{Export}
use Rattle.wasm_syntax.specs.declared.module.ModuleParts.{ModuleParts as Module}
use Rattle.wasm_syntax.specs.Module.{Program, is_function}
use Rattle.rewrite_bodies.specs.Numbering.{wraps, import_count}
use Rattle.rewrite_modules.specs.Collector.{memory_export}
use Rattle.rewrite_modules.specs.calls.Instrument.{new_exports, new_index, new_module}
use Rattle.rewrite_modules.specs.Interface.{named, KeepsInterface, KeepsTable}
use Rattle.rewrite_modules.proofs.Links.{get_right}
use Rattle.rewrite_modules.proofs.Start.{table_start}
use Rattle.pm_text.proofs.Lists.{get_front}

names_kept : (m : Module) (k : ℕ) (es : List Export) → map named (new_exports m k es) ≡ map named es
names_kept m k [] = refl
names_kept m k (e ∷ es) = ap (λ z. named e ∷ z) (names_kept m (k + length (wraps m e)) es)

no_wrapper : (q : Bool) (fs : List ℕ) → q ≡ false → (if q then fs else []) ≡ []
no_wrapper false fs e = refl
no_wrapper true fs e = absurd (cc)

first_kept : (m : Module) (k : ℕ) (e : Export) → is_function e.kind ≡ false → Some (record { name = e.name; kind = e.kind; index = new_index m k (wraps m e) e.index }) ≡ Some e
first_kept m k e f = ap (λ fs. Some (record { name = e.name; kind = e.kind; index = new_index m k fs e.index })) (no_wrapper (is_function e.kind) (if nat_lt e.index (import_count m) then [] else e.index ∷ []) f)

index_kept : (m : Module) (k : ℕ) (es : List Export) (i : ℕ) (e : Export) → slice_get es i ≡ Some e → is_function e.kind ≡ false → slice_get (new_exports m k es) i ≡ Some e
index_kept m k [] i e at f = absurd (cc)
index_kept m k (x ∷ es) zero e at f = let z : x ≡ e = cc in rw z (first_kept m k e f)
index_kept m k (x ∷ es) (suc i) e at f = index_kept m (k + length (wraps m x)) es i e at f

pub table_kept : (p : Program) → KeepsTable p.module_ (new_module p)
table_kept p = record { tables = refl; entries = table_start p }

pub interface : (p : Program) → KeepsInterface p.module_ (new_module p)
interface p =
    let m = p.module_ in
    record {
      imports = refl;
      types = take-append_seam m.types _;
      takes_i32 = get_right m.types _ 0 (length m.types) (omega arith);
      takes_i64 = get_right m.types _ 1 (length m.types + 1) refl;
      takes_frame = get_right m.types _ 2 (length m.types + 2) refl;
      exports = map-append named (new_exports m 0 m.exports) (memory_export m.memories) ∙ ap (λ z. z ++ map named (memory_export m.memories)) (names_kept m 0 m.exports);
      indices = λ i e at f. get_front (new_exports m 0 m.exports) (memory_export m.memories) i e (index_kept m 0 m.exports i e at f);
      memories = refl;
      segments = refl;
    }
