-- The rewritten module is valid.
use Rattle.std.proofs.Common.{◌≡◌, ◌≢◌, ℕ, zero, suc, ◌+◌, ◌-◌, ◌<◌, ◌≤◌, nat_lt, List, [], ◌∷◌, ◌++◌, length, map, Option, Some, None, Bool, true, false, if◌then◌else◌, refl, sym, ap, ◌∙◌, subst, arith, slice_get, option_map, unwrap_or, length-append, ltb-true, ◌*◌, ◌^◌, leb-true, le-ltb, true≢false, codes, ◌⊎◌, inl, inr}
use Rattle.std.specs.Prelude.{IfSome, bytes_eq, flat_map}
use Rattle.std.specs.List.{AllByRecursion}
use Rattle.std.proofs.lemmas.Bool.{ltb-false}
use Rattle.std.proofs.lemmas.List.{length-map}
use Rattle.std.proofs.lemmas.Slice.Eq.{bytes_eq-Decides}
use Rattle.std.proofs.lemmas.Option.{slice_get-map, slice_get_within}
use Rattle.wasm_syntax.specs.declared.value.ValType.{ValType}
use Rattle.wasm_syntax.specs.declared.value.ValType.TheVariants.{I32}
use Rattle.wasm_syntax.specs.declared.instruction.Instr.{Instr}
use Rattle.wasm_syntax.specs.declared.parts.FuncType.{FuncType}
use Rattle.wasm_syntax.specs.declared.parts.Body.{Body}
use Rattle.wasm_syntax.specs.declared.parts.Export.{Export}
use Rattle.wasm_syntax.specs.declared.parts.ExportKind.{ExportKind}
use Rattle.wasm_syntax.specs.declared.parts.ExportKind.TheVariants as kinds
use Rattle.wasm_syntax.specs.declared.parts.Limits.{Limits}
use Rattle.wasm_syntax.specs.declared.parts.ElementSeg.{ElementSeg}
use Rattle.wasm_syntax.specs.declared.module.ModuleParts.{ModuleParts as Module}
use Rattle.wasm_syntax.specs.declared.place.Place.TheVariants as places
use Rattle.wasm_syntax.specs.Tree.{Tree}
use Rattle.wasm_syntax.specs.Module.{Program, IsProgram, defined, function_at, function_types, type_at, option_then, is_function}
use Rattle.wasm_syntax.specs.Run.{table_min, element_at}
use Rattle.wasm_syntax.specs.Valid.{Valid, There, AtIndex, defined_index, FuncTypeFine, ImportFine, DeclarationFine, LimitsFine, TableFine, GlobalFine, ConstBody, ConstTypes, ExportFine, StartFine, ElementFine, DataFine, BodyFine, index_space}
use Rattle.rewrite_bodies.specs.Numbering.{import_count, mapped, wraps, start_wraps, export_wrapped, is_in, place_in, element_functions, defines, table_functions, can_double, doubles, table_wraps, named_wrapped, wrapped, wrapper_base, shown, helped}
use Rattle.rewrite_bodies.proofs.Doubled.{AllTrue, and_left, and_right, limits_double}
use Rattle.rewrite_bodies.specs.calls.Guards.{helper, helper_type}
use Rattle.wasm_laws.proofs.Lists.{all_of, at_of, there_at, all_append, all_map}
use Rattle.wasm_laws.proofs.Safe.{Typed}
use Rattle.wasm_laws.proofs.Validity.{typed_functions, has_type, start_type}
use Rattle.rewrite_modules.specs.Collector.{memory_export}
use Rattle.rewrite_modules.specs.calls.Instrument.{each, flag_global, length_global, number_init, shown_element, inner_offset, inner_element, shown_elements, new_module, instrument, new_body, new_index, new_exports, new_start, wrapper_type}
use Rattle.rewrite_modules.specs.Interface.{doubled}
use Rattle.rewrite_modules.specs.calls.FlatCode.{body_of}
use Rattle.rewrite_modules.specs.calls.Wrappers.{wrapper}
use Rattle.rewrite_modules.proofs.Links.{get_right, length-each, Ready, is_defined, parts_of, type_is_of, function_type_kept, wrapper_there}
use Rattle.rewrite_modules.proofs.ValidBodies.{tables_many, wrapper_typed, helper_typed, rewritten_typed}
use Rattle.rewrite_modules.proofs.WrittenOut.{tree_at}
use Rattle.rewrite_modules.proofs.BareValid.{all_as}
use Rattle.rewrite_modules.proofs.Listed.{place_inside, table_has, defines_both, all_distinct, listed}
use Rattle.pm_text.proofs.Lists.{some_is, get_front}
use Rattle.wasm_syntax.proofs.Classes.{Constant, holds_value, reads_global, not_constant, constant_of}

-- ---- lists

there_all : {A : Type 0} (P : A → Type 0) (xs : List A) (i : ℕ) → AllByRecursion P xs → There xs i P
there_all P [] i a = tt
there_all P (x ∷ xs) zero a = a.0
there_all P (x ∷ xs) (suc i) a = there_all P xs i a.1

all_right : {A : Type 0} (P : A → Type 0) (xs ys : List A) → AllByRecursion P (xs ++ ys) → AllByRecursion P ys
all_right P [] ys a = a
all_right P (x ∷ xs) ys a = all_right P xs ys a.1

pub all_any : {A : Type 0} (P : A → Type 0) (xs : List A) → ((x : A) → P x) → AllByRecursion P xs
all_any P [] h = tt
all_any P (x ∷ xs) h = (h x, all_any P xs h)

if_some : {A : Type 0} (P : A → Type 0) (o : Option A) → ((x : A) → P x) → IfSome o P
if_some P None h = tt
if_some P (Some x) h = h x

-- each element has a property of its index, which counts from k on
abbrev pub From : {A : Type 0} → (ℕ → A → Type 0) → ℕ → List A → Type 0
From P k [] = Unit {0}
From P k (x ∷ xs) = P k x × From P (suc k) xs

pub there_from : {A : Type 0} (P : ℕ → A → Type 0) (k : ℕ) (xs : List A) (i n : ℕ) → n ≡ k + i → From P k xs → There xs i (P n)
there_from P k [] i n e h = tt
there_from P k (x ∷ xs) zero n e h = let z : n ≡ k = omega (arith, e) in subst (λ n. P n x) (sym z) h.0
there_from P k (x ∷ xs) (suc i) n e h = there_from P (suc k) xs i n (omega (arith, e)) h.1

from_append : {A : Type 0} (P : ℕ → A → Type 0) (k n : ℕ) (xs ys : List A) → n ≡ k + length xs → From P k xs → From P n ys → From P k (xs ++ ys)
from_append P k n [] ys e h g = let z : n ≡ k = omega (arith, e) in subst (λ n. From P n ys) z g
from_append P k n (x ∷ xs) ys e h g = (h.0, from_append P (suc k) n xs ys (omega (arith, e)) h.1 g)

from_map : {A B : Type 0} (P : ℕ → B → Type 0) (go : A → B) (k : ℕ) (xs : List A) → ((i : ℕ) (x : A) → slice_get xs i ≡ Some x → P (k + i) (go x)) → From P k (map go xs)
from_map P go k [] h = tt
from_map P go k (x ∷ xs) h =
    let z : k + 0 ≡ k = omega arith in
    (subst (λ n. P n (go x)) z (h zero x refl), from_map P go (suc k) xs (λ i y e. let z : k + suc i ≡ suc k + i = omega arith in subst (λ n. P n (go y)) z (h (suc i) y e)))

from_each : {A B : Type 0} (P : ℕ → B → Type 0) (go : ℕ → B) (k n : ℕ) (xs : List A) → ((i : ℕ) → i < length xs → P (k + i) (go (n + i))) → From P k (each go n xs)
from_each P go k n [] h = tt
from_each P go k n (x ∷ xs) h =
    let z : k + 0 ≡ k = omega arith in
    let y : n + 0 ≡ n = omega arith in (
      subst (λ a. P a (go n)) z (subst (λ b. P (k + 0) (go b)) y (h zero (omega arith))),
      from_each P go (suc k) (suc n) xs (λ i lt. let z : k + suc i ≡ suc k + i = omega arith in let y : n + suc i ≡ suc n + i = omega arith in subst (λ a. P a (go (suc n + i))) z (subst (λ b. P (k + suc i) (go b)) y (h (suc i) (omega (arith, lt))))),
    )

unwrap_less : (o : Option ℕ) (n : ℕ) → IfSome o (λ t. t < n) → 0 < n → unwrap_or o 0 < n
unwrap_less None n h lt = lt
unwrap_less (Some t) n h lt = h

pub type_inside : (m : Module) (f : ℕ) (type : FuncType) → type_at m f ≡ Some type → f < length (function_types m)
type_inside m f type e = inside (slice_get (function_types m) f) refl e
  where
    inside : (o : Option ℕ) → slice_get (function_types m) f ≡ o → option_then o (λ t. slice_get m.types t) ≡ Some type → f < length (function_types m)
    inside None q e = absurd (cc)
    inside (Some t) q e = slice_get_within (function_types m) f t q

-- ---- exports

-- an export of the new module, from one of the old
pub record NewExport (m : Module) (k : ℕ) (es : List Export) (i : ℕ) (e : Export) : Type 0 where
  pub old : Export
  pub at : slice_get es i ≡ Some old
  pub name : e.name ≡ old.name
  pub kind : e.kind ≡ old.kind
  pub before : ℕ
  pub index : e.index ≡ new_index m before (wraps m old) old.index
  pub room : before + length (wraps m old) ≤ k + length (flat_map (wraps m) es)

new_export_at : (m : Module) (k : ℕ) (es : List Export) (i : ℕ) (e : Export) → slice_get (new_exports m k es) i ≡ Some e → NewExport m k es i e
new_export_at m k [] i e at = absurd (cc)
new_export_at m k (x ∷ es) zero e at =
    let z = some_is at in
    record { old = x; at = refl; name = sym (ap (λ q. q.name) z); kind = sym (ap (λ q. q.kind) z); before = k; index = sym (ap (λ q. q.index) z); room = omega (arith, length-append (wraps m x) (flat_map (wraps m) es)) }
new_export_at m k (x ∷ es) (suc i) e at =
    let r = new_export_at m (k + length (wraps m x)) es i e at in
    record { old = r.old; at = r.at; name = r.name; kind = r.kind; before = r.before; index = r.index; room = omega (arith, r.room, length-append (wraps m x) (flat_map (wraps m) es)) }

length-new_exports : (m : Module) (k : ℕ) (es : List Export) → length (new_exports m k es) ≡ length es
length-new_exports m k [] = refl
length-new_exports m k (e ∷ es) = ap suc (length-new_exports m (k + length (wraps m e)) es)

-- an element of two lists is one of the first, or one of the second behind it
pub record Split {A : Type 0} (xs ys : List A) (i : ℕ) (x : A) : Type 0 where
  pub second : ℕ
  pub number : i ≡ length xs + second
  pub at : slice_get ys second ≡ Some x

split_at : {A : Type 0} (xs ys : List A) (i : ℕ) (x : A) → slice_get (xs ++ ys) i ≡ Some x → (slice_get xs i ≡ Some x) ⊎ Split xs ys i x
split_at [] ys i x e = inr (record { second = i; number = omega arith; at = e })
split_at (y ∷ xs) ys zero x e = inl e
split_at (y ∷ xs) ys (suc i) x e = elim (split_at xs ys i x e) [ inl a ↦ inl a | inr s ↦ inr (record { second = s.second; number = omega (arith, s.number); at = s.at }) ]

module _ (p : Program) (ready : Ready p) (valid : Valid p.module_) (typed : Typed p) (whole : IsProgram p) (free : AllByRecursion (λ e. bytes_eq e.name (codes "coredump.memory") ≡ false) p.module_.exports) where
  abbrev m : Module
  m = p.module_

  abbrev m' : Module
  m' = new_module p

  abbrev ic : ℕ
  ic = import_count m

  abbrev nt : ℕ
  nt = length m.types

  types_many : length m'.types ≡ nt + 4
  types_many = length-append m.types _

  more_types : (t : ℕ) → t < nt → t < length m'.types
  more_types t lt = omega (arith, lt, types_many)

  imports_many : length m'.imports ≡ ic + 3
  imports_many = length-append m.imports _

  -- ---- types, imports and declarations

  types_fine : AllByRecursion FuncTypeFine m'.types
  types_fine = all_append FuncTypeFine m.types _ (all_of FuncTypeFine m.types (λ i. valid (places.TypeAt i))) (omega arith, (omega arith, (omega arith, (omega arith, tt))))

  imports_fine : AllByRecursion (ImportFine m') m'.imports
  imports_fine =
      all_append (ImportFine m') m.imports _ (all_as (ImportFine m) (ImportFine m') m.imports (λ i lt. more_types i.ftype lt) (all_of (ImportFine m) m.imports (λ i. valid (places.ImportAt i))))
      (omega (arith, types_many), (omega (arith, types_many), (omega (arith, types_many), tt)))

  all_types : AllByRecursion (λ t. t < nt) (function_types m)
  all_types = typed_functions m valid

  declarations_fine : AllByRecursion (DeclarationFine m') m'.functions
  declarations_fine =
      all_append (DeclarationFine m') m.functions _
      (all_as (λ t. t < nt) (DeclarationFine m') m.functions (λ t lt. more_types t lt) (all_right (λ t. t < nt) (map (λ i. i.ftype) m.imports) m.functions all_types))
      (all_append (DeclarationFine m') (map (wrapper_type m) (wrapped m)) _
      (all_map (DeclarationFine m') (wrapper_type m) (wrapped m) (all_any (λ f. wrapper_type m f < length m'.types) (wrapped m) (λ f. unwrap_less (slice_get (function_types m) f) (length m'.types) (there_all (λ t. t < length m'.types) (function_types m) f (all_as (λ t. t < nt) (λ t. t < length m'.types) (function_types m) (λ t lt. more_types t lt) all_types)) (omega (arith, types_many)))))
      (all_map (DeclarationFine m') (λ u. nt + 3) (helped p) (all_any (λ u. nt + 3 < length m'.types) (helped p) (λ u. omega (arith, types_many)))))

  globals_fine : AllByRecursion GlobalFine m'.globals
  globals_fine = all_append GlobalFine m.globals _ (all_of GlobalFine m.globals (λ i. valid (places.GlobalAt i))) ((_, refl, refl), ((_, refl, refl), tt))

  -- ---- segments

  const_kept : (i : Instr) (t : ValType) → Constant i → ConstTypes m.globals i t → ConstTypes m'.globals i t
  const_kept i t (holds_value v) h = h
  const_kept i t (reads_global x) h = (h.0, get_front m.globals _ x h.0 h.1, h.2, h.3)
  const_kept i t (not_constant none never) h = absurd (never m.globals t h)

  body_kept : (b : Body) (t : ValType) → ConstBody m.globals b t → ConstBody m'.globals b t
  body_kept b t h = (h.0, h.1, const_kept h.0 t (constant_of h.0) h.2)

  mapped_inside : (f : ℕ) → f < length (function_types m) → mapped m f < length (function_types m')
  mapped_inside f lt = let t = has_type m valid f lt in type_inside m' (mapped m f) t.0 (function_type_kept p ready f t.0 t.1)

  all_mapped : (fs : List ℕ) → AtIndex fs (λ _ f. f < length (function_types m)) → AtIndex (map (mapped m) fs) (λ _ f. f < length (function_types m'))
  all_mapped [] h i f e = absurd (cc)
  all_mapped (g ∷ fs) h zero f e = subst (λ x. x < length (function_types m')) (some_is e) (mapped_inside g (h zero g refl))
  all_mapped (g ∷ fs) h (suc i) f e = all_mapped fs (λ j k q. h (suc j) k q) i f e

  data_fine : AllByRecursion (DataFine m') m'.segments
  data_fine = all_as (DataFine m) (DataFine m') m.segments (λ s h. (h.0, body_kept s.offset I32 h.1)) (all_of (DataFine m) m.segments (λ i. valid (places.DataAt i)))

  -- ---- exports and the start function

  functions_many : length (function_types m') ≡ ic + 3 + length m.functions + length (wrapped m) + length (helped p)
  functions_many = omega (arith, length-append (map (λ i. i.ftype) m'.imports) m'.functions, length-map m'.imports (λ i. i.ftype), imports_many, length-append m.functions (map (wrapper_type m) (wrapped m) ++ map (λ u. nt + 3) (helped p)), length-append (map (wrapper_type m) (wrapped m)) (map (λ u. nt + 3) (helped p)), length-map (wrapped m) (wrapper_type m), length-map (helped p) (λ (u : ℕ). nt + 3))

  -- the wrappers of the table are among all
  wraps_many : doubles m ≡ true → length (named_wrapped m) + length (table_functions m) ≤ length (wrapped m)
  wraps_many d =
      let own : length (table_wraps m) ≡ length (table_functions m) = ap (λ q. length (if q then table_functions m else [])) d in
      omega (arith, own, length-append (named_wrapped m) (table_wraps m))

  -- ---- tables

  -- twice the limits of a table
  doubled_fine : (l : Limits) → can_double l ≡ true → LimitsFine (2 ^ 32) l → LimitsFine (2 ^ 32) (doubled l)
  doubled_fine l can h = (omega (arith, leb-true (2 * l.min) 65536 (and_left _ _ can)), by l.max (ltb-true (2 * unwrap_or l.max 0) (2 ^ 32) (and_right _ _ can)) h.1)
    where
      by : (o : Option ℕ) → 2 * unwrap_or o 0 < 2 ^ 32 → IfSome o (λ max. (max ≤ 2 ^ 32) × (l.min ≤ max)) → IfSome (option_map (λ n. 2 * n) o) (λ max. (max ≤ 2 ^ 32) × (2 * l.min ≤ max))
      by None lt k = tt
      by (Some n) lt k = (omega (arith, lt), omega (arith, k.1))

  twice_fine : (ls : List Limits) (i k : ℕ) → AllTrue (map can_double ls) → There ls i (TableFine k) → There (map doubled ls) i (TableFine k)
  twice_fine [] i k can h = tt
  twice_fine (l ∷ ls) zero k can h = (h.0, doubled_fine l can.0 h.1)
  twice_fine (l ∷ ls) (suc i) k can h = twice_fine ls i k can.1 h

  table_fine : (i : ℕ) → There m'.tables i (TableFine i)
  table_fine i = by (doubles m) refl
    where
      by : (q : Bool) → doubles m ≡ q → There (if q then map doubled m.tables else m.tables) i (TableFine i)
      by false d = valid (places.TableAt i)
      by true d = twice_fine m.tables i i (limits_double m d) (valid (places.TableAt i))

  -- ---- the segments of the table

  -- what a host sees in place of a function of the table
  shown_inside : doubles m ≡ true → (f : ℕ) → f < length (function_types m) → is_in f (element_functions m) ≡ true → shown m f < length (function_types m')
  shown_inside d f lt listed = by (nat_lt f ic) refl
    where
      by : (q : Bool) → nat_lt f ic ≡ q → (if q then f else wrapper_base m + (length (named_wrapped m) + place_in f (table_functions m))) < length (function_types m')
      by true q = omega (arith, ltb-true f ic q, functions_many)
      by false q =
          let place = place_inside f (table_functions m) (table_has m f q listed) in
          omega (arith, place, wraps_many d, functions_many)

  all_shown : doubles m ≡ true → (fs : List ℕ) → AtIndex fs (λ _ f. f < length (function_types m)) → AllByRecursion (λ f. is_in f (element_functions m) ≡ true) fs → AtIndex (map (shown m) fs) (λ _ f. f < length (function_types m'))
  all_shown d [] h l i f e = absurd (cc)
  all_shown d (g ∷ fs) h l zero f e = subst (λ x. x < length (function_types m')) (some_is e) (shown_inside d g (h zero g refl) l.0)
  all_shown d (g ∷ fs) h l (suc i) f e = all_shown d fs (λ j k q. h (suc j) k q) l.1 i f e

  all_old : AllByRecursion (ElementFine m) m.elements
  all_old = all_of (ElementFine m) m.elements (λ i. valid (places.ElementAt i))

  inner_fine : AllByRecursion (ElementFine m') (map (inner_element m) m.elements)
  inner_fine = all_map (ElementFine m') (inner_element m) m.elements (all_as (ElementFine m) _ m.elements (λ e h. (omega (arith, h.0, tables_many p), offset_fine e h.1, all_mapped e.functions h.2)) all_old)
    where
      offset_fine : (e : ElementSeg) → ConstBody m.globals e.offset I32 → ConstBody m'.globals (inner_offset m e) I32
      offset_fine e h = by (doubles m)
        where
          by : (q : Bool) → ConstBody m'.globals (if q then number_init (element_at m e + table_min m.tables) else e.offset) I32
          by false = body_kept e.offset I32 h
          by true = (_, refl, refl)

  shown_fine : AllByRecursion (ElementFine m') (shown_elements m)
  shown_fine = by (doubles m) refl
    where
      each_shown : doubles m ≡ true → (es : List ElementSeg) → AllByRecursion (ElementFine m) es → AllByRecursion (λ e. AllByRecursion (λ f. is_in f (element_functions m) ≡ true) e.functions) es → AllByRecursion (ElementFine m') (map (shown_element m) es)
      each_shown d [] h l = tt
      each_shown d (e ∷ es) h l = ((omega (arith, h.0.0, tables_many p), body_kept e.offset I32 h.0.1, all_shown d e.functions h.0.2 l.0), each_shown d es h.1 l.1)

      by : (q : Bool) → doubles m ≡ q → AllByRecursion (ElementFine m') (if q then map (shown_element m) m.elements else [])
      by false d = tt
      by true d = each_shown d m.elements all_old (listed m)

  elements_fine : AllByRecursion (ElementFine m') m'.elements
  elements_fine = all_append (ElementFine m') (shown_elements m) (map (inner_element m) m.elements) shown_fine inner_fine

  wrapped_many : length (export_wrapped m) ≤ length (wrapped m)
  wrapped_many = omega (arith, length-append (named_wrapped m) (table_wraps m), length-append (export_wrapped m) (start_wraps m m.start))

  old_many : length (function_types m) ≡ ic + length m.functions
  old_many = omega (arith, length-append (map (λ i. i.ftype) m.imports) m.functions, length-map m.imports (λ i. i.ftype))

  -- an export of this kind and index has a place, where it had one
  space_kept : (e : Export) (k : ℕ) → e.index < index_space m e.kind → k + length (wraps m e) ≤ length (wrapped m) → new_index m k (wraps m e) e.index < index_space m' e.kind
  space_kept e k lt room = by_kind e.kind e.index lt room
    where
      by_test : (q : Bool) (index : ℕ) → index < length (function_types m) → k + length (if q then [] else index ∷ []) ≤ length (wrapped m) → (q ≡ true → index < ic) → new_index m k (if q then [] else index ∷ []) index < length (function_types m')
      by_test true index lt room low = omega (arith, low refl, functions_many)
      by_test false index lt room low = omega (arith, room, functions_many)

      by_kind : (kind : ExportKind) (index : ℕ) → index < index_space m kind → k + length (if is_function kind then (if nat_lt index ic then [] else index ∷ []) else []) ≤ length (wrapped m) → new_index m k (if is_function kind then (if nat_lt index ic then [] else index ∷ []) else []) index < index_space m' kind
      by_kind kinds.Function index lt room = by_test (nat_lt index ic) index lt room (λ q. ltb-true index ic q)
      by_kind kinds.Table index lt room = omega (arith, lt, tables_many p)
      by_kind kinds.Memory index lt room = lt
      by_kind kinds.Global index lt room = omega (arith, lt, length-append m.globals (flag_global ∷ length_global m ∷ []))

  export_fine : (i : ℕ) (e : Export) → slice_get m.exports i ≡ Some e → ExportFine m i e
  export_fine i e at = there_at (ExportFine m i) m.exports i e (valid (places.ExportAt i)) at

  -- the name of the memory is none of the others
  not_taken : (name : List ℕ) → bytes_eq name (codes "coredump.memory") ≡ false → codes "coredump.memory" ≢ name
  not_taken name q e = absurd (let z : bytes_eq name name ≡ false = subst (λ x. bytes_eq name x ≡ false) e q in true≢false (sym ((bytes_eq-Decides name name).1 refl) ∙ z))

  exports_fine : (i : ℕ) (e : Export) → slice_get m'.exports i ≡ Some e → ExportFine m' i e
  exports_fine i e at = elim (split_at (new_exports m 0 m.exports) (memory_export m.memories) i e at) [
    | inl a ↦ old_fine i e (new_export_at m 0 m.exports i e a)
    | inr s ↦ memory_fine m.memories refl i e s
  ]
    where
      old_of : (j : ℕ) (f : Export) (i : ℕ) → j < i → i ≤ length m.exports → slice_get m'.exports j ≡ Some f → NewExport m 0 m.exports j f
      old_of j f i lt le at = elim (split_at (new_exports m 0 m.exports) (memory_export m.memories) j f at) [
        | inl a ↦ new_export_at m 0 m.exports j f a
        | inr s ↦ absurd (omega (arith, s.number, length-new_exports m 0 m.exports, lt, le))
      ]

      old_fine : (i : ℕ) (e : Export) → NewExport m 0 m.exports i e → ExportFine m' i e
      old_fine i e n =
          let fine = export_fine i n.old n.at in
          let within = slice_get_within m.exports i n.old n.at in
          let lt : new_index m n.before (wraps m n.old) n.old.index < index_space m' n.old.kind = space_kept n.old n.before fine.0 (omega (arith, n.room, wrapped_many)) in (
            subst (λ x. x < index_space m' e.kind) (sym n.index) (subst (λ k. new_index m n.before (wraps m n.old) n.old.index < index_space m' k) (sym n.kind) lt),
            λ j f lt at same. let o = old_of j f i lt (omega (arith, within)) at in fine.1 j o.old lt o.at (sym o.name ∙ same ∙ n.name),
          )

      memory_fine : (ls : List Limits) → m.memories ≡ ls → (i : ℕ) (e : Export) → Split (new_exports m 0 m.exports) (memory_export ls) i e → ExportFine m' i e
      memory_fine [] q i e s = absurd (let z : slice_get [] s.second ≡ Some e = s.at in cc)
      memory_fine (l ∷ ls) q i e s = by_second s.second s.number s.at
        where
          by_second : (n : ℕ) → i ≡ length (new_exports m 0 m.exports) + n → slice_get (memory_export (l ∷ ls)) n ≡ Some e → ExportFine m' i e
          by_second zero num at1 =
              let z = some_is at1 in
              let here : i ≤ length m.exports = omega (arith, num, length-new_exports m 0 m.exports) in
              let lt : 0 < length m'.memories = subst (λ x. 0 < length x) (sym q) (omega arith) in
              (subst (λ x. x.index < index_space m' x.kind) z lt, λ j f lt at same. let o = old_of j f i lt here at in not_taken o.old.name (at_of (λ e. bytes_eq e.name (codes "coredump.memory") ≡ false) m.exports j o.old free o.at) (ap (λ x. x.name) z ∙ sym same ∙ o.name))
          by_second (suc n) num at1 = absurd (let y : slice_get [] n ≡ Some e = at1 in cc)

  start_fine : (s : Option ℕ) → m.start ≡ s → IfSome (new_start m s) (StartFine m')
  start_fine None e = tt
  start_fine (Some f) e = by_test (nat_lt f ic) refl
    where
      old : type_at m f ≡ Some (record { params = []; results = [] })
      old = start_type m valid f e

      by_test : (q : Bool) → nat_lt f ic ≡ q → StartFine m' (new_index m (length (export_wrapped m)) (if q then [] else f ∷ []) f)
      by_test true q = let z : mapped m f ≡ f = rw q refl in subst (λ x. type_at m' x ≡ Some (record { params = []; results = [] })) z (function_type_kept p ready f _ old)
      by_test false q =
          let ws : start_wraps m m.start ≡ f ∷ [] = ap (start_wraps m) e ∙ ap (λ b. if b then [] else f ∷ []) q in
          let at : slice_get (wrapped m) (length (export_wrapped m)) ≡ Some f = get_front (named_wrapped m) (table_wraps m) (length (export_wrapped m)) f (get_right (export_wrapped m) (start_wraps m m.start) 0 (length (export_wrapped m)) (omega arith) ∙ ap (λ x. slice_get x 0) ws) in
          let fn = wrapper_there p ready (length (export_wrapped m)) f _ at old in
          type_is_of (instrument p) (wrapper_base m + length (export_wrapped m)) _ fn

  -- ---- bodies

  -- each function that the module defines
  defined_there : (i : ℕ) → i < length m.bodies → (b : Body) × (tree : Tree) × (type : FuncType) × (function_at p (ic + i) ≡ Some (defined b tree type))
  defined_there i lt =
      let inside : ic + i < length (function_types m) = omega (arith, lt, ready.bodies, old_many) in
      let t = has_type m valid (ic + i) inside in
      let fn = typed.functions (ic + i) t.0 t.1 in
      elim (parts_of p (ic + i) fn.0 fn.1) [
        | inl a ↦ absurd (let z : ic + i < ic = ltb-true (ic + i) ic a.3.low in omega (arith, z))
        | inr a ↦ (a.0, a.1, a.2, fn.1 ∙ ap Some a.3)
      ]

  abbrev pub HasType : ℕ → Type 0
  HasType f = (type : FuncType) × (type_at m f ≡ Some type)

  export_types : (es : List Export) → AllByRecursion (λ e. e.index < index_space m e.kind) es → AllByRecursion HasType (flat_map (wraps m) es)
  export_types [] h = tt
  export_types (e ∷ es) h = all_append HasType (wraps m e) (flat_map (wraps m) es) (by_kind e.kind e.index h.0) (export_types es h.1)
    where
      by_test : (q : Bool) (index : ℕ) → index < length (function_types m) → AllByRecursion HasType (if q then [] else index ∷ [])
      by_test true index lt = tt
      by_test false index lt = (has_type m valid index lt, tt)

      by_kind : (kind : ExportKind) (index : ℕ) → index < index_space m kind → AllByRecursion HasType (if is_function kind then (if nat_lt index ic then [] else index ∷ []) else [])
      by_kind kinds.Function index lt = by_test (nat_lt index ic) index lt
      by_kind kinds.Table index lt = tt
      by_kind kinds.Memory index lt = tt
      by_kind kinds.Global index lt = tt

  start_types : (s : Option ℕ) → m.start ≡ s → AllByRecursion HasType (start_wraps m s)
  start_types None e = tt
  start_types (Some f) e = by_test (nat_lt f ic)
    where
      by_test : (q : Bool) → AllByRecursion HasType (if q then [] else f ∷ [])
      by_test true = tt
      by_test false = ((_, start_type m valid f e), tt)

  exports_inside : (i : ℕ) (o : Option Export) → IfSome o (ExportFine m i) → IfSome o (λ e. e.index < index_space m e.kind)
  exports_inside i None h = tt
  exports_inside i (Some e) h = h.0

  pub wrapped_types : AllByRecursion HasType (wrapped m)
  wrapped_types =
      all_append HasType (named_wrapped m) (table_wraps m)
      (all_append HasType (export_wrapped m) (start_wraps m m.start)
      (export_types m.exports (all_of (λ e. e.index < index_space m e.kind) m.exports (λ i. exports_inside i (slice_get m.exports i) (valid (places.ExportAt i))))) (start_types m.start refl))
      table_types
    where
      inside : (es : List ElementSeg) → AllByRecursion (ElementFine m) es → AllByRecursion HasType (flat_map (defines m) (flat_map (λ e. e.functions) es))
      inside [] h = tt
      inside (e ∷ es) h = all_both e.functions (flat_map (λ e. e.functions) es) (own e.functions h.0.2) (inside es h.1)
        where
          one : (q : Bool) (f : ℕ) → f < length (function_types m) → AllByRecursion HasType (if q then [] else f ∷ [])
          one true f lt = tt
          one false f lt = (has_type m valid f lt, tt)

          own : (fs : List ℕ) → AtIndex fs (λ _ f. f < length (function_types m)) → AllByRecursion HasType (flat_map (defines m) fs)
          own [] k = tt
          own (f ∷ fs) k = all_append HasType (defines m f) (flat_map (defines m) fs) (one (nat_lt f ic) f (k zero f refl)) (own fs (λ j x q. k (suc j) x q))

          all_both : (xs ys : List ℕ) → AllByRecursion HasType (flat_map (defines m) xs) → AllByRecursion HasType (flat_map (defines m) ys) → AllByRecursion HasType (flat_map (defines m) (xs ++ ys))
          all_both xs ys a b = subst (AllByRecursion HasType) (sym (defines_both m xs ys)) (all_append HasType (flat_map (defines m) xs) (flat_map (defines m) ys) a b)

      by : (q : Bool) → AllByRecursion HasType (if q then table_functions m else [])
      by false = tt
      by true = all_distinct HasType (flat_map (defines m) (element_functions m)) (inside m.elements all_old)

      table_types : AllByRecursion HasType (table_wraps m)
      table_types = by (doubles m)

  abbrev nf : ℕ
  nf = length m.functions

  abbrev nw : ℕ
  nw = length (wrapped m)

  bodies_many : length (each (λ f. new_body p f (function_at p f)) ic m.bodies) ≡ nf
  bodies_many = length-each _ ic m.bodies ∙ ready.bodies

  -- each body of the new module, with its index and the type of its function
  module _ (P : ℕ → Body → Type 0) where
    abbrev OfRewritten : Type 0
    OfRewritten = (i : ℕ) (b : Body) (tree : Tree) (type : FuncType) → function_at p (ic + i) ≡ Some (defined b tree type) → type_at m' (ic + 3 + i) ≡ Some type → P i (new_body p (ic + i) (Some (defined b tree type)))

    abbrev OfWrappers : Type 0
    OfWrappers = (i f : ℕ) (type : FuncType) → type_at m' (ic + 3 + i) ≡ Some type → type_at m f ≡ Some type → P i (body_of [] (wrapper m f))

    abbrev OfHelpers : Type 0
    OfHelpers = (i t : ℕ) → type_at m' (ic + 3 + i) ≡ Some helper_type → P i (body_of [] (helper m t))

    rewritten_there : OfRewritten → From P 0 (each (λ f. new_body p f (function_at p f)) ic m.bodies)
    rewritten_there h = from_each P (λ f. new_body p f (function_at p f)) 0 ic m.bodies (λ i lt.
        let d = defined_there i lt in
        let ty : type_at m (ic + i) ≡ Some d.2 = type_is_of p (ic + i) (defined d.0 d.1 d.2) d.3 in
        let high : nat_lt (ic + i) ic ≡ false = le-ltb (ic + i) ic (omega arith) in
        let z : mapped m (ic + i) ≡ ic + 3 + i = (let y : 3 + (ic + i) ≡ ic + 3 + i = omega arith in ap (λ b. if b then ic + i else 3 + (ic + i)) high ∙ y) in
        let new : type_at m' (ic + 3 + i) ≡ Some d.2 = subst (λ x. type_at m' x ≡ Some d.2) z (function_type_kept p ready (ic + i) d.2 ty) in
        let one : P i (new_body p (ic + i) (function_at p (ic + i))) = subst (λ q. P i (new_body p (ic + i) q)) (sym d.3) (h i d.0 d.1 d.2 d.3 new) in
        let n : i ≡ 0 + i = omega arith in
        subst (λ j. P j (new_body p (ic + i) (function_at p (ic + i)))) n one)

    wrappers_there : OfWrappers → From P nf (map (λ f. body_of [] (wrapper m f)) (wrapped m))
    wrappers_there h = from_map P (λ f. body_of [] (wrapper m f)) nf (wrapped m) (λ j f at.
        let ty = at_of HasType (wrapped m) j f wrapped_types at in
        let z : wrapper_base m + j ≡ ic + 3 + (nf + j) = omega arith in
        let new : type_at m' (wrapper_base m + j) ≡ Some ty.0 = type_is_of (instrument p) (wrapper_base m + j) _ (wrapper_there p ready j f ty.0 at ty.1) in
        h (nf + j) f ty.0 (subst (λ x. type_at m' x ≡ Some ty.0) z new) ty.1)

    helpers_there : OfHelpers → From P (nf + nw) (map (λ u. body_of [] (helper m u)) (helped p))
    helpers_there h = from_map P (λ u. body_of [] (helper m u)) (nf + nw) (helped p) (λ i t at.
        let number = nf + (nw + i) in
        let z : ic + 3 + (nf + nw + i) ≡ length (map (λ i. i.ftype) m'.imports) + number = omega (arith, length-map m'.imports (λ i. i.ftype), imports_many) in
        let fn : slice_get m'.functions number ≡ Some (nt + 3) = get_right m.functions _ (nw + i) number refl ∙ get_right (map (wrapper_type m) (wrapped m)) _ i (nw + i) (ap (λ z. z + i) (sym (length-map (wrapped m) (wrapper_type m)))) ∙ slice_get-map (λ (u : ℕ). nt + 3) (helped p) i ∙ ap (option_map (λ u. nt + 3)) at in
        let ft : slice_get (function_types m') (ic + 3 + (nf + nw + i)) ≡ Some (nt + 3) = get_right (map (λ i. i.ftype) m'.imports) m'.functions number (ic + 3 + (nf + nw + i)) z ∙ fn in
        h (nf + nw + i) t (ap (λ o. option_then o (λ t. slice_get m'.types t)) ft ∙ get_right m.types _ 3 (nt + 3) refl))

    pub new_bodies : OfRewritten → OfWrappers → OfHelpers → From P 0 m'.bodies
    new_bodies r w h =
        from_append P 0 nf (each (λ f. new_body p f (function_at p f)) ic m.bodies) _ (omega (arith, bodies_many)) (rewritten_there r)
        (from_append P nf (nf + nw) (map (λ f. body_of [] (wrapper m f)) (wrapped m)) _ (ap (λ z. nf + z) (sym (length-map (wrapped m) (λ f. body_of [] (wrapper m f))))) (wrappers_there w) (helpers_there h))

  abbrev FineAt : ℕ → Body → Type 0
  FineAt i b = BodyFine m' (ic + 3 + i) b

  bodies_fine : From FineAt 0 m'.bodies
  bodies_fine =
      new_bodies FineAt
      (λ i b tree type at ty. let d = is_defined p (ic + i) b tree type at in (type, ty, rewritten_typed p ready typed (ic + i) b tree type at (tree_at m.bodies p.trees d.number tree whole d.tree_is)))
      (λ i f type ty old. (type, ty, wrapper_typed p ready typed f type old))
      (λ i t ty. (helper_type, ty, helper_typed p ready typed t))

  function_fine : (f : ℕ) (q : Bool) → nat_lt f (length m'.imports) ≡ q → IfSome (if q then None else Some (f - length m'.imports)) (λ i. There m'.bodies i (BodyFine m' f))
  function_fine f true e = tt
  function_fine f false e =
      let ge = ltb-false f (length m'.imports) e in
      let i = f - length m'.imports in
      let z : ic + 3 + i ≡ f = omega (arith, ge, imports_many) in
      let there : There m'.bodies i (FineAt i) = there_from FineAt 0 m'.bodies i i (omega arith) bodies_fine in
      subst (λ x. There m'.bodies i (BodyFine m' x)) z there

  export_there : (i : ℕ) (o : Option Export) → slice_get m'.exports i ≡ o → IfSome o (ExportFine m' i)
  export_there i None e = tt
  export_there i (Some x) e = exports_fine i x e

  pub new_valid : Valid (new_module p)
  new_valid (places.TypeAt i) = there_all FuncTypeFine m'.types i types_fine
  new_valid (places.ImportAt i) = there_all (ImportFine m') m'.imports i imports_fine
  new_valid (places.Declaration f) = if_some (λ i. There m'.functions i (DeclarationFine m')) (defined_index m' f) (λ i. there_all (DeclarationFine m') m'.functions i declarations_fine)
  new_valid (places.TableAt i) = table_fine i
  new_valid (places.MemoryAt i) = valid (places.MemoryAt i)
  new_valid (places.GlobalAt i) = there_all GlobalFine m'.globals i globals_fine
  new_valid (places.ExportAt i) = export_there i (slice_get m'.exports i) refl
  new_valid places.Start = start_fine m.start refl
  new_valid (places.ElementAt i) = there_all (ElementFine m') m'.elements i elements_fine
  new_valid (places.DataAt i) = there_all (DataFine m') m'.segments i data_fine
  new_valid (places.Function f offset) = function_fine f (nat_lt f (length m'.imports)) refl
