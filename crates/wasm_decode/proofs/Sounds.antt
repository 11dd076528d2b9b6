-- What is decoded is a module within the limits.
use Rattle.std.proofs.Common.{◌≡◌, ℕ, zero, suc, ◌+◌, ◌^◌, ◌<◌, ◌≤◌, Bool, true, false, List, [], ◌∷◌, length, Option, Some, None, Result, Ok, Err, refl, sym, ap, subst, ◌∙◌, arith}
use Rattle.std.specs.Prelude.{map, nat_lt, slice_get, IfOk, IsUtf8, if◌then◌else◌}
use Rattle.std.specs.List.{AllByRecursion}
use Rattle.std.proofs.lemmas.Bool.{ltb-false}
use Rattle.wasm_syntax.specs.declared.quantity.Quantity.{Quantity}
use Rattle.wasm_syntax.specs.declared.quantity.Quantity.TheVariants.{Locals, Nesting, Table, Memory}
use Rattle.wasm_syntax.specs.declared.parts.FuncType.{FuncType}
use Rattle.wasm_syntax.specs.declared.parts.Import.{Import}
use Rattle.wasm_syntax.specs.declared.parts.Limits.{Limits}
use Rattle.wasm_syntax.specs.declared.parts.Body.{Body}
use Rattle.wasm_syntax.specs.declared.parts.Global.{Global}
use Rattle.wasm_syntax.specs.declared.parts.Export.{Export}
use Rattle.wasm_syntax.specs.declared.parts.ElementSeg.{ElementSeg}
use Rattle.wasm_syntax.specs.declared.parts.DataSeg.{DataSeg}
use Rattle.wasm_syntax.specs.declared.parts.Custom.{Custom}
use Rattle.wasm_syntax.specs.declared.module.ModuleParts.{ModuleParts}
use Rattle.wasm_syntax.specs.Quantity.{greatest}
use Rattle.wasm_syntax.specs.Tree.{Tree}
use Rattle.wasm_syntax.specs.Module.{AllWrite, InOrder, IsExpression, IsModule, type_at, option_then}
use Rattle.wasm_syntax.specs.Sizes.{local_count, nesting, ShortBody, ShortType, ShortElement, ShortData, ShortLists, WithinLimits}
use Rattle.wasm_bytes.specs.Laws.{IsBytes}
use Rattle.wasm_bytes.specs.Reading.{whole}
use Rattle.wasm_format.specs.declared.module.Imported.{Imported}
use Rattle.wasm_format.specs.declared.module.Imported.TheVariants as imported
use Rattle.wasm_format.specs.declared.module.SpelledModule.{SpelledModule}
use Rattle.wasm_format.specs.Sections.{module_item}
use Rattle.wasm_format.proofs.ExactSections.{module_found}
use Rattle.wasm_decode.proofs.SoundForm.{SoundName, SoundType, SoundImport}
use Rattle.wasm_decode.proofs.SoundCode.{SoundBody, SoundConstant, SoundElement, SoundData}
use Rattle.wasm_decode.proofs.SoundSections.{Sound, module_sound}
use Rattle.wasm_decode.specs.declared.fault.DecodeFault.{DecodeFault}
use Rattle.wasm_decode.specs.declared.fault.DecodeFault.TheVariants.{Limit}
use Rattle.wasm_decode.specs.Decode.{functions_of, module_of, all_locals, first_over, too_much}
use Rattle.wasm_decode.specs.calls.Meaning.{IsModuleOf, Exactly}
use Rattle.wasm_decode.specs.inner.Fit.{FewLocals, Fit}
use Rattle.pm_text.proofs.Lists.{get_behind}
use Rattle.std.proofs.lemmas.List.{length-map}
use Rattle.wasm_bytes.specs.Refusals.{◌orelse◌}

weaker : {A : Type 0} (P Q : A → Type 0) → ((x : A) → P x → Q x) → (xs : List A) → AllByRecursion P xs → AllByRecursion Q xs
weaker P Q f [] h = tt
weaker P Q f (x ∷ xs) h = (f x h.0, weaker P Q f xs h.1)

-- no more than an input has bytes
abbrev size : ℕ
size = 134217728

-- ---- imports

pub imports_few : (xs : List Imported) → length (functions_of xs) ≤ length xs
imports_few [] = omega arith
imports_few (imported.Function i ∷ xs) = omega (arith, imports_few xs)
imports_few (imported.Table ∷ xs) = omega (arith, imports_few xs)
imports_few (imported.Memory ∷ xs) = omega (arith, imports_few xs)
imports_few (imported.Global ∷ xs) = omega (arith, imports_few xs)

imports_all : (n : ℕ) (P : Import → Type 0) → ((i : Import) → SoundName n i.«module» → SoundName n i.name → P i) → (xs : List Imported) → AllByRecursion (SoundImport n) xs → AllByRecursion P (functions_of xs)
imports_all n P f [] h = tt
imports_all n P f (imported.Function i ∷ xs) h = (f i h.0.0 h.0.1, imports_all n P f xs h.1)
imports_all n P f (imported.Table ∷ xs) h = imports_all n P f xs h.1
imports_all n P f (imported.Memory ∷ xs) h = imports_all n P f xs h.1
imports_all n P f (imported.Global ∷ xs) h = imports_all n P f xs h.1

-- ---- a module

bodies_write : (n : ℕ) (bodies : List Body) → AllByRecursion (SoundBody n) bodies → (trees : List Tree) × AllWrite bodies trees
bodies_write n [] h = ([], tt)
bodies_write n (body ∷ bodies) h =
    let rest = bodies_write n bodies h.1 in
    (h.0.tree ∷ rest.0, (h.0.writes, rest.1))

pub module_is : (n : ℕ) (s : SpelledModule) → Sound n n s → length s.parts.bodies ≡ length s.parts.functions → IsModule (module_of s)
unfolding module_of
module_is n s h same =
    let trees = bodies_write n s.parts.bodies h.9.all in
    record {
      trees = trees.0;
      write = trees.1;
      in_order = weaker (SoundBody n) InOrder (λ b x. x.in_order) s.parts.bodies h.9.all;
      as_many = same;
      globals = weaker (λ (g : Global). SoundConstant n g.init) (λ (g : Global). IsExpression g.init) (λ g x. x.is) s.parts.globals h.6.all;
      elements = weaker (SoundElement n) (λ (e : ElementSeg). IsExpression e.offset) (λ e x. x.offset.is) s.parts.elements h.8.all;
      segments = weaker (SoundData n) (λ (d : DataSeg). IsExpression d.offset) (λ d x. x.offset.is) s.parts.segments h.10.all;
      import_modules = imports_all n (λ i. IsUtf8 i.«module») (λ i a b. a.utf8) s.imports h.1.all;
      import_names = imports_all n (λ i. IsUtf8 i.name) (λ i a b. b.utf8) s.imports h.1.all;
      export_names = weaker (λ (e : Export). SoundName n e.name) (λ (e : Export). IsUtf8 e.name) (λ e x. x.utf8) s.parts.exports h.7.all;
      custom_names = weaker (λ (c : Custom). SoundName n c.name) (λ (c : Custom). IsUtf8 c.name) (λ c x. x.utf8) s.parts.customs h.11;
    }

-- ---- short lists

constant_short : (n : ℕ) (body : Body) → n ≤ size → SoundConstant n body → ShortBody body
constant_short n body few h = record {
  groups = omega (arith, ap length h.is.no_locals);
  ops = omega (arith, few, h.few_ops);
  targets = omega (arith, few, h.few_targets);
}

body_short : (n : ℕ) (body : Body) → n ≤ size → SoundBody n body → ShortBody body
body_short n body few h = record {
  groups = omega (arith, few, h.locals.few);
  ops = omega (arith, few, h.few_ops);
  targets = omega (arith, few, h.few_targets);
}

type_short : (n : ℕ) (type : FuncType) → n ≤ size → SoundType n type → ShortType type
type_short n type few h = record { params = omega (arith, few, h.params); results = omega (arith, few, h.results) }

lists_short : (n : ℕ) (s : SpelledModule) → n ≤ size → Sound n n s → length s.parts.bodies ≡ length s.parts.functions → ShortLists (module_of s)
unfolding module_of
lists_short n s few h same = record {
  types = omega (arith, few, h.0.few);
  each_type = weaker (SoundType n) ShortType (λ t x. type_short n t few x) s.parts.types h.0.all;
  functions = omega (arith, few, h.1.few, imports_few s.imports, h.3);
  import_modules = imports_all n (λ i. length i.«module» < 2 ^ 32) (λ i a b. omega (arith, few, a.few)) s.imports h.1.all;
  import_names = imports_all n (λ i. length i.name < 2 ^ 32) (λ i a b. omega (arith, few, b.few)) s.imports h.1.all;
  tables = omega (arith, few, h.4);
  memories = omega (arith, few, h.5);
  globals = omega (arith, few, h.6.few);
  each_global = weaker (λ (g : Global). SoundConstant n g.init) (λ (g : Global). ShortBody g.init) (λ g x. constant_short n g.init few x) s.parts.globals h.6.all;
  exports = omega (arith, few, h.7.few);
  export_names = weaker (λ (e : Export). SoundName n e.name) (λ (e : Export). length e.name < 2 ^ 32) (λ e x. omega (arith, few, x.few)) s.parts.exports h.7.all;
  elements = omega (arith, few, h.8.few);
  each_element = weaker (SoundElement n) ShortElement (λ e x. record { offset = constant_short n e.offset few x.offset; functions = omega (arith, few, x.functions) }) s.parts.elements h.8.all;
  segments = omega (arith, few, h.10.few);
  each_segment = weaker (SoundData n) ShortData (λ d x. record { offset = constant_short n d.offset few x.offset; bytes = omega (arith, few, x.bytes) }) s.parts.segments h.10.all;
  bodies = omega (arith, few, h.9.few);
  each_body = weaker (SoundBody n) ShortBody (λ b x. body_short n b few x) s.parts.bodies h.9.all;
  customs = omega (arith, few, h.12);
  custom_names = weaker (λ (c : Custom). SoundName n c.name) (λ (c : Custom). length c.name < 2 ^ 32) (λ c x. omega (arith, few, x.few)) s.parts.customs h.11;
}

pub spelled_fits : (n : ℕ) (s : SpelledModule) → n ≤ size → Sound n n s → length s.parts.bodies ≡ length s.parts.functions → Fit s
spelled_fits n s few h same = record {
  imports = omega (arith, few, h.1.few);
  types = weaker (SoundType n) ShortType (λ t x. type_short n t few x) s.parts.types h.0.all;
  few = weaker (SoundBody n) FewLocals (λ b x. x.locals.counted) s.parts.bodies h.9.all;
  same = sym same;
}

-- ---- quantities

none_over : (what : Quantity) (ns : List ℕ) → first_over what ns ≡ None → AllByRecursion (λ n. n ≤ greatest what) ns
none_over what [] h = tt
none_over what (n ∷ ns) h = by (nat_lt (greatest what) n) refl h (none_over what ns) where
  by : (b : Bool) → nat_lt (greatest what) n ≡ b → (if b then Some (Limit what n) else first_over what ns) ≡ None → (first_over what ns ≡ None → AllByRecursion (λ n. n ≤ greatest what) ns) → AllByRecursion (λ n. n ≤ greatest what) (n ∷ ns)
  by true m e rest = absurd cc
  by false m e rest = (ltb-false (greatest what) n m, rest e)

or_none : (a b : Option DecodeFault) → (a orelse b) ≡ None → (a ≡ None) × (b ≡ None)
or_none None b h = (refl, h)
or_none (Some e) b h = absurd cc

mapped_all : {A : Type 0} (f : A → ℕ) (P : ℕ → Type 0) (xs : List A) → AllByRecursion P (map f xs) → AllByRecursion (λ x. P (f x)) xs
mapped_all f P [] h = tt
mapped_all f P (x ∷ xs) h = (h.0, mapped_all f P xs h.1)

unfoldable pub AtMost : List FuncType → List ℕ → ℕ → Body → Type 0
AtMost types functions i body = local_count (option_then (slice_get functions i) (λ t. slice_get types t)) body ≤ greatest Locals

locals_within : (types : List FuncType) (functions : List ℕ) (bodies : List Body) (i : ℕ) (body : Body) → length bodies ≡ length functions → AllByRecursion (λ n. n ≤ greatest Locals) (all_locals types functions bodies) → slice_get bodies i ≡ Some body → AtMost types functions i body
unfolding AtMost
locals_within types functions [] i body same h e = absurd cc
locals_within types [] (b ∷ bodies) i body same h e = absurd (omega (arith, same))
locals_within types (t ∷ functions) (b ∷ bodies) zero body same h e =
    let is : b ≡ body = cc in
    subst (λ (x : Body). local_count (slice_get types t) x ≤ greatest Locals) is h.0
locals_within types (t ∷ functions) (b ∷ bodies) (suc i) body same h e = locals_within types functions bodies i body (omega (arith, same)) h.1 e

pub type_behind : (m : ModuleParts) (i : ℕ) → type_at m (length m.imports + i) ≡ option_then (slice_get m.functions i) (λ t. slice_get m.types t)
type_behind m i =
    let ftypes = map (λ (x : Import). x.ftype) m.imports in
    let same : length m.imports + i ≡ length ftypes + i = omega (arith, length-map m.imports (λ (x : Import). x.ftype)) in
    ap (λ (k : ℕ). type_at m k) same ∙ ap (λ (o : Option ℕ). option_then o (λ t. slice_get m.types t)) (get_behind ftypes m.functions i)

within : (m : ModuleParts) → ShortLists m → length m.bodies ≡ length m.functions → too_much m ≡ None → WithinLimits m
unfolding too_much AtMost
within m lists same h =
    let a = or_none (first_over Locals (all_locals m.types m.functions m.bodies)) _ h in
    let b = or_none (first_over Nesting (map nesting m.bodies)) _ a.1 in
    let c = or_none (first_over Table (map (λ (l : Limits). l.min) m.tables)) _ b.1 in
    record {
      short = lists;
      locals = λ i body e. subst (λ (o : Option FuncType). local_count o body ≤ greatest Locals) (sym (type_behind m i)) (locals_within m.types m.functions m.bodies i body same (none_over Locals (all_locals m.types m.functions m.bodies) a.0) e);
      nested = mapped_all nesting (λ n. n ≤ greatest Nesting) m.bodies (none_over Nesting (map nesting m.bodies) b.0);
      tables = mapped_all (λ (l : Limits). l.min) (λ n. n ≤ greatest Table) m.tables (none_over Table (map (λ (l : Limits). l.min) m.tables) c.0);
      memories = mapped_all (λ (l : Limits). l.min) (λ n. n ≤ greatest Memory) m.memories (none_over Memory (map (λ (l : Limits). l.min) m.memories) c.1);
    }

pub decoded_within : (bytes : List ℕ) (m : ModuleParts) → IsModuleOf bytes m → WithinLimits m
unfolding module_of
decoded_within bytes m d =
    let s = d.0 in
    let h = module_sound s bytes d.1.1 in
    subst WithinLimits d.4 (within (module_of s) (lists_short (length bytes) s d.1.0 h.0 h.1) h.1 d.3)

pub ok_within : (bytes : List ℕ) (result : Result ModuleParts DecodeFault) → ((m : ModuleParts) → Exactly result (Ok m) (IsModuleOf bytes m)) → IfOk result WithinLimits
ok_within bytes (Ok m) found = decoded_within bytes m ((found m).only refl)
ok_within bytes (Err e) found = tt

-- ---- what is read of the bytes

pub read_fits : (bytes : List ℕ) (s : SpelledModule) → IsBytes bytes → length bytes ≤ size → whole module_item bytes ≡ Ok s → Fit s
read_fits bytes s fits few read =
    let h = module_sound s bytes (module_found bytes s fits read) in
    spelled_fits (length bytes) s few h.0 h.1

pub read_module : (bytes : List ℕ) (s : SpelledModule) → IsBytes bytes → whole module_item bytes ≡ Ok s → IsModule (module_of s)
read_module bytes s fits read =
    let h = module_sound s bytes (module_found bytes s fits read) in
    module_is (length bytes) s h.0 h.1
