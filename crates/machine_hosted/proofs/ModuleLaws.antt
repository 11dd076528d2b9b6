-- Functions of valid modules.
use Rattle.std.proofs.Common.{◌≡◌, ℕ, ◌+◌, ◌-◌, ◌<◌, ◌≤◌, List, [], map, length, refl, sym, ap, subst, ◌∙◌, arith}
use Rattle.std.proofs.lemmas.Bool.Decides.{nat_tests}
use Rattle.std.specs.Prelude.{true, nat_lt, if◌then◌else◌, Option, Some, None, IfSome, option_map, slice_get}
use Rattle.wasm_syntax.specs.declared.value.Value.{Value}
use Rattle.wasm_syntax.specs.declared.parts.FuncType.{FuncType}
use Rattle.wasm_syntax.specs.declared.parts.Import.{Import}
use Rattle.wasm_syntax.specs.declared.parts.Body.{Body}
use Rattle.wasm_syntax.specs.declared.module.ModuleParts.{ModuleParts as Module}
use Rattle.wasm_syntax.specs.Tree.{Tree}
use Rattle.wasm_syntax.specs.Module.{Program, IsProgram, Function, imported, defined, imported_at, defined_at, function_at, type_at, option_then}
use Rattle.wasm_syntax.specs.declared.place.Place.TheVariants as places
use Rattle.wasm_syntax.specs.Valid.{Valid, StartFine}
use Rattle.wasm_syntax.specs.Machine.{function_type}
use Rattle.machine_code.specs.declared.prepared.Prepared.{Prepared}
use Rattle.wasm_laws.proofs.Lists.{get_front, get_map}
use Rattle.wasm_laws.proofs.Validity.{startable}
use Rattle.wasm_laws.proofs.Safe.{Typed}
use Rattle.machine_hosted.specs.calls.Safe.{ValidProgram}
use Rattle.machine_hosted.specs.calls.Settings.{Sound, Takes}
use Rattle.machine_steps.proofs.CallLaws.{function_is, no_import}
use Rattle.std.proofs.lemmas.Option.{slice_get_within}

pub valid_program : (p : Program) (m : Module) (prepared : Prepared) → Sound m prepared → p.module_ ≡ m → IsProgram p → ValidProgram p
valid_program p m prepared s e w = record {
  writes = w;
  paired = subst (λ (x : Module). length x.bodies ≡ length x.functions) (sym e) s.whole.as_many;
  valid = subst Valid (sym e) s.valid;
}

-- the program of a module
abbrev pub program_of : (m : Module) (prepared : Prepared) → Sound m prepared → Program
program_of m prepared s = record { module_ = m; trees = s.whole.trees }

pub typed_of : (p : Program) → ValidProgram p → Typed p
typed_of p v = let s = startable p v.writes v.paired v.valid in s.typed

-- ---- imported functions

pub import_type : (m : Module) (f : ℕ) (i : Import) → slice_get m.imports f ≡ Some i → type_at m f ≡ slice_get m.types i.ftype
import_type m f i e =
    let lt : f < length m.imports = slice_get_within m.imports f i e in
    let within : f < length (map (λ i. i.ftype) m.imports) = slice_get_within (map (λ i. i.ftype) m.imports) f i.ftype (get_map (λ i. i.ftype) m.imports f ∙ ap (option_map (λ i. i.ftype)) e) in
    ap (λ o. option_then o (λ t. slice_get m.types t)) (get_front (map (λ i. i.ftype) m.imports) m.functions f within ∙ get_map (λ i. i.ftype) m.imports f ∙ ap (option_map (λ i. i.ftype)) e)

pub function_imported : (p : Program) (f : ℕ) (i : Import) (type : FuncType) → slice_get p.module_.imports f ≡ Some i → type_at p.module_ f ≡ Some type → function_at p f ≡ Some (imported i type)
function_imported p f i type e t =
    let lt : f < length p.module_.imports = slice_get_within p.module_.imports f i e in
    let test : nat_lt f (length p.module_.imports) ≡ true = grind (arith, nat_tests, lt) in
    ap (λ b. if b then imported_at p.module_ f else defined_at p (f - length p.module_.imports)) test
    ∙ ap (λ o. option_then o (λ i. option_map (imported i) (slice_get p.module_.types i.ftype))) e
    ∙ ap (option_map (imported i)) (sym (import_type p.module_ f i e) ∙ t)

-- ---- defined functions

pub record IsDefined (p : Program) (i : ℕ) (type : FuncType) : Type 0 where
  pub body : Body
  pub tree : Tree
  pub at : defined_at p i ≡ Some (defined body tree type)
  pub function : function_at p (length p.module_.imports + i) ≡ Some (defined body tree type)

pub is_defined : (p : Program) (i : ℕ) (type : FuncType) → ValidProgram p → type_at p.module_ (length p.module_.imports + i) ≡ Some type → IsDefined p i type
is_defined p i type v t = let fn = (typed_of p v).functions (length p.module_.imports + i) type t in by_function fn.0 fn.1 fn.2
  where
    by_function : (fn : Function) → function_at p (length p.module_.imports + i) ≡ Some fn → function_type fn ≡ type → IsDefined p i type
    by_function (imported x u) at ty = absurd (no_import p i x u (sym (function_is p i) ∙ at))
    by_function (defined body tree u) at ty =
        let same : function_at p (length p.module_.imports + i) ≡ Some (defined body tree type) = at ∙ ap (λ (z : FuncType). Some (defined body tree z)) ty in
        record { body = body; tree = tree; at = sym (function_is p i) ∙ same; function = same }

pub function_there : (p : Program) (m : Module) (prepared : Prepared) (f : ℕ) (args : List Value) → Sound m prepared → p.module_ ≡ m → IsProgram p → Takes m f args → (fn : Function) × (function_at p f ≡ Some fn)
function_there p m prepared f args s e w t =
    let fn = (typed_of p (valid_program p m prepared s e w)).functions f t.0 (subst (λ (x : Module). type_at x f ≡ Some t.0) (sym e) t.1) in
    (fn.0, fn.1)

-- at most one result
pub few_results : (p : Program) (f : ℕ) (type : FuncType) → ValidProgram p → type_at p.module_ f ≡ Some type → length type.results ≤ 1
few_results p f type v t =
    let fn = (typed_of p v).functions f type t in
    subst (λ (x : FuncType). length x.results ≤ 1) fn.2 ((typed_of p v).few f fn.0 fn.1)

-- ---- the start function

-- the start function of a valid module takes no arguments
pub takes_start : (m : Module) (due : Option ℕ) → Valid m → ((f : ℕ) → due ≡ Some f → m.start ≡ Some f) → IfSome due (λ f. Takes m f [])
takes_start m None v h = tt
takes_start m (Some f) v h = (record { params = []; results = [] }, subst (λ o. IfSome o (StartFine m)) (h f refl) (v places.Start), refl)
