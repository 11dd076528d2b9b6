-- What the module of a self-test is rewritten to imports nothing but from the collector.
use Rattle.std.proofs.Common.{◌≡◌, ℕ, ◌+◌, List, [], ◌∷◌, ◌++◌, map, length, slice_get, Option, Some, ap, ◌∙◌}
use Rattle.std.specs.Prelude.{codes}
use Rattle.wasm_syntax.specs.declared.value.ValType.TheVariants.{I32, I64}
use Rattle.wasm_syntax.specs.declared.parts.FuncType.{FuncType}
use Rattle.wasm_syntax.specs.declared.parts.Import.{Import}
use Rattle.wasm_syntax.specs.declared.module.ModuleParts.{ModuleParts as Module}
use Rattle.wasm_syntax.specs.Run.{first_false}
use Rattle.wasm_machine.specs.calls.Entries.{serves_type, is_served}
use Rattle.rewrite_bodies.specs.Numbering.{value_type, frame_type}
use Rattle.rewrite_modules.specs.Collector.{collector_import}
use Rattle.rewrite_promise.specs.Admitted.{Admits}
use Rattle.selftest_command.specs.Selftest.{selftest}
use Rattle.selftest_command.specs.inner.Steps.{collected_alone, IsCollected, IsTaken, IsSelftest}

abbrev collectors : ℕ → List Import
collectors k = collector_import (codes "value_i32") k ∷ collector_import (codes "value_i64") (k + 1) ∷ collector_import (codes "frame") (k + 2) ∷ []

-- whether the collector's imports are served with these types
abbrev tested : ℕ → (one two three : Option FuncType) → Option ℕ
tested k one two three =
    first_false 0 (
    serves_type collected_alone (collector_import (codes "value_i32") k) one
    ∷ serves_type collected_alone (collector_import (codes "value_i64") (k + 1)) two ∷ serves_type collected_alone (collector_import (codes "frame") (k + 2)) three ∷ []
    )

served_all : (m : Module) (k : ℕ) → m.imports ≡ collectors k → slice_get m.types k ≡ Some (value_type I32) → slice_get m.types (k + 1) ≡ Some (value_type I64) → slice_get m.types (k + 2) ≡ Some frame_type → IsCollected m
served_all m k are one two three =
    ap (λ is. first_false 0 (map (is_served collected_alone m) is)) are
    ∙ ap (λ o. tested k o (slice_get m.types (k + 1)) (slice_get m.types (k + 2))) one
    ∙ ap (λ o. tested k (Some (value_type I32)) o (slice_get m.types (k + 2))) two
    ∙ ap (λ o. tested k (Some (value_type I32)) (Some (value_type I64)) o) three

pub no_imports : (n : ℕ) (m : Module) → IsSelftest n m → m.imports ≡ []
unfolding selftest
no_imports n m s = ap (λ (x : Module). x.imports) s.same

pub taken : (n : ℕ) (m : Module) (bytes : List ℕ) → IsSelftest n m → Admits m bytes → IsTaken bytes
taken n m bytes s a =
    let x = a.outside.interface in
    record {
      decoded = a.decoded;
      is = a.is;
      valid = a.valid;
      low = a.low;
      collected = served_all a.decoded (length m.types) (x.imports ∙ ap (λ is. is ++ collectors (length m.types)) (no_imports n m s)) x.takes_i32 x.takes_i64 x.takes_frame;
    }
