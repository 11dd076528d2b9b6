-- A step that calls an import, unless it is stuck.
use Rattle.std.proofs.Common.{◌≡◌, ◌≢◌, ℕ, ◌-◌, List, ◌++◌, length, reverse, refl, sym, ap, ◌∙◌, arith}
use Rattle.std.proofs.lemmas.Bool.Decides.{nat_tests}
use Rattle.std.proofs.lemmas.List.{reverse-reverse, length-reverse}
use Rattle.std.proofs.lemmas.Option.{slice_get_within}
use Rattle.std.specs.Prelude.{Bool, true, false, nat_lt, if◌then◌else◌, Some, option_map, slice_get}
use Rattle.wasm_syntax.specs.declared.value.Value.{Value}
use Rattle.wasm_syntax.specs.declared.parts.Import.{Import}
use Rattle.wasm_syntax.specs.declared.parts.FuncType.{FuncType}
use Rattle.wasm_syntax.specs.Numbers.{types}
use Rattle.wasm_syntax.specs.Module.{Program, imported, imported_at, defined_at, function_at, same_types, option_then}
use Rattle.wasm_syntax.specs.Host.{answer}
use Rattle.wasm_syntax.specs.Machine as steps
use Rattle.wasm_syntax.specs.Machine.{Engine, Config, Cut, short, parts, cut, step, host, host_call}
use Rattle.machine_steps.proofs.CallLaws.{cut_parts}
use Rattle.machine_code.specs.declared.code.Code.{Code}
use Rattle.machine_steps.specs.declared.machine.Machine.{Machine}
use Rattle.machine_steps.specs.declared.machine.ImportCall.{ImportCall}
use Rattle.machine_steps.specs.calls.Meets.{CallsImport}
use Rattle.machine_hosted.specs.inner.Turns.{AtCall}
use Rattle.wasm_syntax.proofs.Types.{same_types_are}

-- a function whose index is that of an import
pub imported_is : (p : Program) (f : ℕ) (i : Import) (type : FuncType) → slice_get p.module_.imports f ≡ Some i → slice_get p.module_.types i.ftype ≡ Some type → function_at p f ≡ Some (imported i type)
imported_is p f i type a b =
    let lt = slice_get_within p.module_.imports f i a in
    let test : nat_lt f (length p.module_.imports) ≡ true = grind (arith, nat_tests) in
    ap (λ b. if b then imported_at p.module_ f else defined_at p (f - length p.module_.imports)) test
    ∙ ap (λ o. option_then o (λ i. option_map (imported i) (slice_get p.module_.types i.ftype))) a
    ∙ ap (option_map (imported i)) b

-- the arguments of the call, and its step
pub record Called (M : Engine) (codes : List Code) (call : ImportCall) (m : Machine) (c : Config) (h : CallsImport M codes c call (step M c) m) : Type 0 where
  pub args : List Value
  pub below : List Value
  pub operands : h.operands ≡ reverse args ++ below
  pub count : length args ≡ length h.type.params
  pub typed : types args ≡ h.type.params
  pub step_is : step M c ≡ host M (answer M.collects M.program.module_ (host_call call.function h.import h.type args) c.world) (host_call call.function h.import h.type args) below h.rest h.frame h.label h.outer h.callers c.world c.collected

module _ (M : Engine) (codes : List Code) (call : ImportCall) (m : Machine) (c : Config) (h : CallsImport M codes c call (step M c) m) (safe : step M c ≢ steps.stuck) where
  calls_it : step M c ≡ steps.calls M (Some (imported h.import h.type)) call.function h.operands h.at h.rest h.frame h.label h.outer h.callers c.world c.collected
  calls_it = h.step ∙ ap (λ f. steps.calls M f call.function h.operands h.at h.rest h.frame h.label h.outer h.callers c.world c.collected) h.is

  by_cut : (k : Cut) → cut (length h.type.params) h.operands ≡ k → step M c ≡ steps.calls_on M (imported h.import h.type) call.function k h.at h.rest h.frame h.label h.outer h.callers c.world c.collected
  by_cut k e = calls_it ∙ ap (λ k. steps.calls_on M (imported h.import h.type) call.function k h.at h.rest h.frame h.label h.outer h.callers c.world c.collected) e

  by_types : (vs below : List Value) → cut (length h.type.params) h.operands ≡ parts vs below → (b : Bool) → same_types (types (reverse vs)) h.type.params ≡ b →
      step M c ≡ steps.applied_if M b (imported h.import h.type) call.function (reverse vs) below h.at h.rest h.frame h.label h.outer h.callers c.world c.collected
  by_types vs below e b t = by_cut (parts vs below) e ∙ ap (λ b. steps.applied_if M b (imported h.import h.type) call.function (reverse vs) below h.at h.rest h.frame h.label h.outer h.callers c.world c.collected) t

  typed_call : (vs below : List Value) → cut (length h.type.params) h.operands ≡ parts vs below → (b : Bool) → same_types (types (reverse vs)) h.type.params ≡ b → Called M codes call m c h
  typed_call vs below e false t = absurd (safe (by_types vs below e false t))
  typed_call vs below e true t =
      let p = cut_parts (length h.type.params) h.operands vs below e in
      record {
        args = reverse vs;
        below = below;
        operands = p.0 ∙ ap (λ l. l ++ below) (sym (reverse-reverse vs));
        count = length-reverse vs ∙ p.1;
        typed = same_types_are (types (reverse vs)) h.type.params t;
        step_is = by_types vs below e true t;
      }

  cut_call : (k : Cut) → cut (length h.type.params) h.operands ≡ k → Called M codes call m c h
  cut_call short e = absurd (safe (by_cut short e))
  cut_call (parts vs below) e = typed_call vs below e (same_types (types (reverse vs)) h.type.params) refl

  pub called : Called M codes call m c h
  called = cut_call (cut (length h.type.params) h.operands) refl

  -- by the import and the arguments that were read
  pub at_call : (i : Import) (type : FuncType) (args : List Value) → function_at M.program call.function ≡ Some (imported i type) → args ≡ called.args → AtCall M codes call i type args m c
  at_call i type args is same =
      let both : Some (imported h.import h.type) ≡ Some (imported i type) = sym h.is ∙ is in
      let i_is : h.import ≡ i = cc in
      let t_is : h.type ≡ type = cc in
      record {
        calls = h;
        import_is = i_is;
        type_is = t_is;
        count = ap length same ∙ called.count ∙ ap (λ (t : FuncType). length t.params) t_is;
        typed = ap types same ∙ called.typed ∙ ap (λ (t : FuncType). t.params) t_is;
        below = called.below;
        operands = called.operands ∙ ap (λ l. reverse l ++ called.below) (sym same);
        step_is = called.step_is
            ∙ ap (λ l. host M (answer M.collects M.program.module_ (host_call call.function h.import h.type l) c.world) (host_call call.function h.import h.type l) called.below h.rest h.frame h.label h.outer h.callers c.world c.collected) (sym same)
            ∙ ap (λ j. host M (answer M.collects M.program.module_ (host_call call.function j h.type args) c.world) (host_call call.function j h.type args) called.below h.rest h.frame h.label h.outer h.callers c.world c.collected) i_is
            ∙ ap (λ t. host M (answer M.collects M.program.module_ (host_call call.function i t args) c.world) (host_call call.function i t args) called.below h.rest h.frame h.label h.outer h.callers c.world c.collected) t_is;
      }
