-- From what rewriting answers to what the command needs.
use Rattle.std.proofs.Common.{◌≡◌, ℕ, List, refl, sym, subst, arith, Option, Some, None}
use Rattle.wasm_syntax.specs.declared.module.ModuleParts.{ModuleParts as Module}
use Rattle.wasm_syntax.specs.Valid.{Valid}
use Rattle.wasm_bytes.specs.Laws.{IsBytes}
use Rattle.wasm_encode.specs.Encoding.{encoding}
use Rattle.wasm_encode.specs.calls.SameModule.{SpellsSame}
use Rattle.index_map.specs.declared.limits.Excess.{Excess}
use Rattle.index_map.specs.Limits.{first_excess}
use Rattle.index_map.proofs.WithinLimits.{kept}
use Rattle.rewrite_promise.specs.calls.Promise.{Promised}
use Rattle.rewrite_promise.specs.Admitted.{Admits}
use Rattle.rewrite_promise.proofs.Admitted.{spelled}
use Rattle.instrument.specs.Refusal.{OwnHeights, import_taken, export_taken, at_import, at_export, at_limit, refusal}
use Rattle.instrument_command.specs.calls.Steps.{Rewrites}

-- where there is no cause to refuse a module, no quantity passes
no_excess : (import_ export : Option ℕ) (excess : Option Excess) → at_import import_ (at_export export (at_limit excess)) ≡ None → excess ≡ None
no_excess None None None is = refl
no_excess None None (Some x) is = absurd cc
no_excess None (Some i) excess is = absurd cc
no_excess (Some i) export excess is = absurd cc

pub rewrites : (m other : Module) (heights : List (List ℕ)) → Valid m → OwnHeights m heights → refusal m heights ≡ None → Promised m other → Rewrites m other
rewrites m other heights valid own none promised = record {
  valid = valid;
  heights = heights;
  heights_are = own.are;
  no_cause = none;
  light = kept m heights valid own.are (omega (arith, own.as_many)) (no_excess (import_taken m) (export_taken m) (first_excess m heights) none);
  promised = promised;
}

-- what is written of the other module is admitted
pub admitted : (m other : Module) (bytes : List ℕ) → Rewrites m other → bytes ≡ encoding other → SpellsSame other bytes → IsBytes bytes → Admits m bytes
admitted m other bytes r exact same are = subst (Admits m) (sym exact) (spelled m other r.light r.promised (subst (SpellsSame other) exact same) (subst IsBytes exact are))
