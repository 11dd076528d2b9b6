-- Validity and sizes do not hang on offsets, lengths and custom sections.
use Rattle.std.proofs.Common.{◌≡◌, ℕ, zero, suc, ◌+◌, ◌<◌, ◌≤◌, List, [], ◌∷◌, ◌++◌, length, map, reverse, Option, Some, None, refl, sym, ap, ◌∙◌, subst, slice_get, option_map, option_to_list}
use Rattle.std.specs.Prelude.{IfSome}
use Rattle.std.specs.List.{AllByRecursion}
use Rattle.std.proofs.lemmas.List.{length-map}
use Rattle.std.proofs.lemmas.Option.{slice_get-map}
use Rattle.wasm_syntax.specs.declared.value.ValType.{ValType}
use Rattle.wasm_syntax.specs.declared.instruction.Instr.{Instr}
use Rattle.wasm_syntax.specs.declared.instruction.Basic.{Basic}
use Rattle.wasm_syntax.specs.declared.instruction.Op.{Op}
use Rattle.wasm_syntax.specs.declared.parts.Body.{Body}
use Rattle.wasm_syntax.specs.declared.parts.Global.{Global}
use Rattle.wasm_syntax.specs.declared.parts.Export.{Export}
use Rattle.wasm_syntax.specs.declared.parts.ExportKind.{ExportKind}
use Rattle.wasm_syntax.specs.declared.parts.ExportKind.TheVariants as kinds
use Rattle.wasm_syntax.specs.declared.module.ModuleParts.{ModuleParts as Module}
use Rattle.wasm_syntax.specs.declared.place.Place.TheVariants as places
use Rattle.wasm_syntax.specs.Tree.{Jump, Unreachable, Br, BrIf, BrTable, Return, Call, CallIndirect, Nodes, stop, basic, jump, block, loop, choose, Tree, Writes}
use Rattle.wasm_syntax.specs.Module.{IsModule, type_at, option_then}
use Rattle.wasm_syntax.specs.Typing.{Context, Arrow, ◌⇒◌, arrow, set_global, BasicTypes, JumpTypes, Types, body_context}
use Rattle.wasm_syntax.specs.Valid.{Valid, There, GlobalFine, ConstBody, ConstTypes, ExportFine, ElementFine, DataFine, BodyFine, index_space, defined_index}
use Rattle.wasm_syntax.specs.Sizes.{nesting, deepest, local_count}
use Rattle.wasm_laws.proofs.Unique.{one_tree}
use Rattle.wasm_laws.proofs.Lists.{all_map}
use Rattle.rewrite_modules.specs.calls.Bare.{bare_nodes, bare_tree}
use Rattle.wasm_syntax.specs.SameCode.{op_code, body_code, global_code, element_code, segment_code, code_alone}
use Rattle.rewrite_modules.specs.calls.LowSizes.{LowSizes}
use Rattle.rewrite_modules.proofs.ValidBodies.{typed_bare, bare_typed}
use Rattle.rewrite_modules.proofs.WrittenOut.{bare_writes}
use Rattle.wasm_syntax.proofs.Bodies.{tree_of}
use Rattle.wasm_syntax.proofs.Types.{map_found}
use Rattle.wasm_syntax.specs.calls.Classes.{TypeSource, DropsAny, SelectsAny, FromLocal, IntoLocal, TeesLocal, FromGlobal, IntoGlobal, OverMemory, OfItself, type_source, source_arrow}
use Rattle.wasm_syntax.proofs.Classes.{arrow_is, Constant, holds_value, reads_global, not_constant, constant_of}

-- ---- lists

there_map : {A B : Type 0} (P : A → Type 0) (Q : B → Type 0) (go : A → B) (xs : List A) (i : ℕ) → ((x : A) → P x → Q (go x)) → There xs i P → There (map go xs) i Q
there_map P Q go [] i h t = tt
there_map P Q go (x ∷ xs) zero h t = h x t
there_map P Q go (x ∷ xs) (suc i) h t = there_map P Q go xs i h t

there_back : {A B : Type 0} (P : A → Type 0) (Q : B → Type 0) (go : A → B) (xs : List A) (i : ℕ) → ((x : A) → slice_get xs i ≡ Some x → Q (go x) → P x) → There (map go xs) i Q → There xs i P
there_back P Q go [] i h t = tt
there_back P Q go (x ∷ xs) zero h t = h x refl t
there_back P Q go (x ∷ xs) (suc i) h t = there_back P Q go xs i h t

all_back : {A B : Type 0} (P : A → Type 0) (Q : B → Type 0) (go : A → B) (xs : List A) → ((x : A) → Q (go x) → P x) → AllByRecursion Q (map go xs) → AllByRecursion P xs
all_back P Q go [] h a = tt
all_back P Q go (x ∷ xs) h a = (h x a.0, all_back P Q go xs h a.1)

pub all_as : {A : Type 0} (P Q : A → Type 0) (xs : List A) → ((x : A) → P x → Q x) → AllByRecursion P xs → AllByRecursion Q xs
all_as P Q [] h a = tt
all_as P Q (x ∷ xs) h a = (h x a.0, all_as P Q xs h a.1)

codes_bare : (ops : List Op) → map (λ o. o.code) (map op_code ops) ≡ map (λ o. o.code) ops
codes_bare [] = refl
codes_bare (o ∷ ops) = ap (λ z. o.code ∷ z) (codes_bare ops)

-- ---- constant expressions

const_bare : (gs : List Global) (i : Instr) (t : ValType) → Constant i → ConstTypes gs i t → ConstTypes (map global_code gs) i t
const_bare gs i t (holds_value v) h = h
const_bare gs i t (reads_global x) h = (global_code h.0, slice_get-map global_code gs x ∙ ap (option_map global_code) h.1, h.2, h.3)
const_bare gs i t (not_constant none never) h = absurd (never gs t h)

bare_const : (gs : List Global) (i : Instr) (t : ValType) → Constant i → ConstTypes (map global_code gs) i t → ConstTypes gs i t
bare_const gs i t (holds_value v) h = h
bare_const gs i t (reads_global x) h =
    let f = map_found (slice_get gs x) global_code h.0 (sym (slice_get-map global_code gs x) ∙ h.1) in
    (f.0, f.1, ap (λ g. g.mutable) f.2 ∙ h.2, ap (λ g. g.vtype) f.2 ∙ h.3)
bare_const gs i t (not_constant none never) h = absurd (never (map global_code gs) t h)

body_bare : (gs : List Global) (b : Body) (t : ValType) → ConstBody gs b t → ConstBody (map global_code gs) (body_code b) t
body_bare gs b t h = (h.0, codes_bare b.ops ∙ h.1, const_bare gs h.0 t (constant_of h.0) h.2)

bare_body_ : (gs : List Global) (b : Body) (t : ValType) → ConstBody (map global_code gs) (body_code b) t → ConstBody gs b t
bare_body_ gs b t h = (h.0, sym (codes_bare b.ops) ∙ h.1, bare_const gs h.0 t (constant_of h.0) h.2)

-- ---- typing in the module without offsets

module _ (m : Module) where
  abbrev m0 : Module
  m0 = code_alone m

  abbrev at : Module → List ValType → List (List ValType) → List ValType → Context
  at k locals labels returns = record { module_ = k; locals = locals; labels = labels; returns = returns }

  global_found : (x : ℕ) (f : Global → Option Arrow) → ((g : Global) → f (global_code g) ≡ f g) → option_then (slice_get (map global_code m.globals) x) f ≡ option_then (slice_get m.globals x) f
  global_found x f h = by (slice_get m.globals x) (slice_get-map global_code m.globals x)
    where
      by : (o : Option Global) → slice_get (map global_code m.globals) x ≡ option_map global_code o → option_then (slice_get (map global_code m.globals) x) f ≡ option_then o f
      by None e = ap (λ o. option_then o f) e
      by (Some g) e = ap (λ o. option_then o f) e ∙ h g

  global_mapped : (x : ℕ) → option_map (λ g. [] ⇒ g.vtype ∷ []) (slice_get (map global_code m.globals) x) ≡ option_map (λ g. [] ⇒ g.vtype ∷ []) (slice_get m.globals x)
  global_mapped x = by (slice_get m.globals x) (slice_get-map global_code m.globals x)
    where
      by : (o : Option Global) → slice_get (map global_code m.globals) x ≡ option_map global_code o → option_map (λ g. [] ⇒ g.vtype ∷ []) (slice_get (map global_code m.globals) x) ≡ option_map (λ g. [] ⇒ g.vtype ∷ []) o
      by None e = ap (option_map (λ g. [] ⇒ g.vtype ∷ [])) e
      by (Some g) e = ap (option_map (λ g. [] ⇒ g.vtype ∷ [])) e

  module _ (locals : List ValType) (returns : List ValType) where
    arrow_bare : (labels : List (List ValType)) (t : ValType) (i : Basic) → arrow (at m0 locals labels returns) t i ≡ arrow (at m locals labels returns) t i
    arrow_bare labels t i = arrow_is (at m0 locals labels returns) t i ∙ by_kind (type_source i) ∙ sym (arrow_is (at m locals labels returns) t i)
      where
        by_kind : (k : TypeSource) → source_arrow (at m0 locals labels returns) t k ≡ source_arrow (at m locals labels returns) t k
        by_kind (FromGlobal x) = global_mapped x
        by_kind (IntoGlobal x) = global_found x set_global (λ g. refl)
        by_kind DropsAny = refl
        by_kind SelectsAny = refl
        by_kind (FromLocal x) = refl
        by_kind (IntoLocal x) = refl
        by_kind (TeesLocal x) = refl
        by_kind (OverMemory fits ts given) = refl
        by_kind (OfItself ts given) = refl

    pub basic_to : (labels : List (List ValType)) (i : Basic) (before after : List ValType) → BasicTypes (at m locals labels returns) i before after → BasicTypes (at m0 locals labels returns) i before after
    basic_to labels i before after h = record { any = h.any; arrow_is = h.arrow_is; has = arrow_bare labels h.any i ∙ h.has; above = h.above }

    pub basic_from : (labels : List (List ValType)) (i : Basic) (before after : List ValType) → BasicTypes (at m0 locals labels returns) i before after → BasicTypes (at m locals labels returns) i before after
    basic_from labels i before after h = record { any = h.any; arrow_is = h.arrow_is; has = sym (arrow_bare labels h.any i) ∙ h.has; above = h.above }

    pub jump_to : (labels : List (List ValType)) (j : Jump) (before after : List ValType) → JumpTypes (at m locals labels returns) j before after → JumpTypes (at m0 locals labels returns) j before after
    jump_to labels Unreachable before after h = h
    jump_to labels (Br l) before after h = h
    jump_to labels (BrIf l) before after h = h
    jump_to labels (BrTable ts d) before after h = h
    jump_to labels Return before after h = h
    jump_to labels (Call f) before after h = h
    jump_to labels (CallIndirect t) before after h = h

    pub jump_from : (labels : List (List ValType)) (j : Jump) (before after : List ValType) → JumpTypes (at m0 locals labels returns) j before after → JumpTypes (at m locals labels returns) j before after
    jump_from labels Unreachable before after h = h
    jump_from labels (Br l) before after h = h
    jump_from labels (BrIf l) before after h = h
    jump_from labels (BrTable ts d) before after h = h
    jump_from labels Return before after h = h
    jump_from labels (Call f) before after h = h
    jump_from labels (CallIndirect t) before after h = h

    types_to : (nodes : Nodes) (labels : List (List ValType)) (before after : List ValType) → Types (at m locals labels returns) nodes before after → Types (at m0 locals labels returns) nodes before after
    types_to stop labels before after h = h
    types_to (basic o i rest) labels before after h = (h.0, basic_to labels i before h.0 h.1, types_to rest labels h.0 after h.2)
    types_to (jump o j rest) labels before after h = (h.0, jump_to labels j before h.0 h.1, types_to rest labels h.0 after h.2)
    types_to (block o t inner end rest) labels before after h = (types_to inner (option_to_list t ∷ labels) [] (option_to_list t) h.0, types_to rest labels (option_to_list t ++ before) after h.1)
    types_to (loop o t inner end rest) labels before after h = (types_to inner ([] ∷ labels) [] (option_to_list t) h.0, types_to rest labels (option_to_list t ++ before) after h.1)
    types_to (choose o t x ea y end rest) labels before after h =
        (types_to x (option_to_list t ∷ labels) [] (option_to_list t) h.0, types_to y (option_to_list t ∷ labels) [] (option_to_list t) h.1, h.2, h.3, types_to rest labels (option_to_list t ++ h.2) after h.4)

    types_from : (nodes : Nodes) (labels : List (List ValType)) (before after : List ValType) → Types (at m0 locals labels returns) nodes before after → Types (at m locals labels returns) nodes before after
    types_from stop labels before after h = h
    types_from (basic o i rest) labels before after h = (h.0, basic_from labels i before h.0 h.1, types_from rest labels h.0 after h.2)
    types_from (jump o j rest) labels before after h = (h.0, jump_from labels j before h.0 h.1, types_from rest labels h.0 after h.2)
    types_from (block o t inner end rest) labels before after h = (types_from inner (option_to_list t ∷ labels) [] (option_to_list t) h.0, types_from rest labels (option_to_list t ++ before) after h.1)
    types_from (loop o t inner end rest) labels before after h = (types_from inner ([] ∷ labels) [] (option_to_list t) h.0, types_from rest labels (option_to_list t ++ before) after h.1)
    types_from (choose o t x ea y end rest) labels before after h =
        (types_from x (option_to_list t ∷ labels) [] (option_to_list t) h.0, types_from y (option_to_list t ∷ labels) [] (option_to_list t) h.1, h.2, h.3, types_from rest labels (option_to_list t ++ h.2) after h.4)

  -- ---- places

  space_to : (e : Export) → e.index < index_space m e.kind → e.index < index_space m0 e.kind
  space_to e h = by e.kind h
    where
      by : (kind : ExportKind) → e.index < index_space m kind → e.index < index_space m0 kind
      by kinds.Function h = h
      by kinds.Table h = h
      by kinds.Memory h = h
      by kinds.Global h = subst (λ n. e.index < n) (sym (length-map m.globals global_code)) h

  space_from : (e : Export) → e.index < index_space m0 e.kind → e.index < index_space m e.kind
  space_from e h = by e.kind h
    where
      by : (kind : ExportKind) → e.index < index_space m0 kind → e.index < index_space m kind
      by kinds.Function h = h
      by kinds.Table h = h
      by kinds.Memory h = h
      by kinds.Global h = subst (λ n. e.index < n) (length-map m.globals global_code) h

  there_mono : {A : Type 0} (P Q : A → Type 0) (xs : List A) (i : ℕ) → ((x : A) → P x → Q x) → There xs i P → There xs i Q
  there_mono P Q [] i h t = tt
  there_mono P Q (x ∷ xs) zero h t = h x t
  there_mono P Q (x ∷ xs) (suc i) h t = there_mono P Q xs i h t

  if_mono : (o : Option ℕ) (P Q : ℕ → Type 0) → ((i : ℕ) → P i → Q i) → IfSome o P → IfSome o Q
  if_mono None P Q h t = tt
  if_mono (Some i) P Q h t = h i t

  bodies_to : (f : ℕ) (b : Body) → BodyFine m f b → BodyFine m0 f (body_code b)
  bodies_to f b h =
      let type = h.0 in
      let ib = h.2 in
      let locals = (body_context m type b).locals in
      let returns = reverse type.results in (
        type,
        h.1,
        record {
          tree = bare_tree ib.tree;
          writes = bare_writes b ib.tree ib.writes;
          typed = types_to locals returns (bare_nodes ib.tree.nodes) (returns ∷ []) [] returns (typed_bare ib.tree.nodes (body_context m type b) [] returns ib.typed);
        },
      )

  bodies_from : (f : ℕ) (b : Body) (tree : Tree) → Writes b.targets b.ops tree → BodyFine m0 f (body_code b) → BodyFine m f b
  bodies_from f b tree w h =
      let type = h.0 in
      let ib = h.2 in
      let locals = (body_context m type b).locals in
      let returns = reverse type.results in
      let same : ib.tree ≡ bare_tree tree = one_tree _ ib.tree (bare_tree tree) ib.writes (bare_writes b tree w) in
      let typed : Types (body_context m0 type b) (bare_nodes tree.nodes) [] returns = subst (λ x. Types (body_context m0 type b) x.nodes [] returns) same ib.typed in
      (type, h.1, record { tree = tree; writes = w; typed = bare_typed tree.nodes (body_context m type b) [] returns (types_from locals returns (bare_nodes tree.nodes) (returns ∷ []) [] returns typed) })

  pub valid_to : Valid m → Valid m0
  valid_to v (places.TypeAt i) = v (places.TypeAt i)
  valid_to v (places.ImportAt i) = v (places.ImportAt i)
  valid_to v (places.Declaration f) = v (places.Declaration f)
  valid_to v (places.TableAt i) = v (places.TableAt i)
  valid_to v (places.MemoryAt i) = v (places.MemoryAt i)
  valid_to v (places.GlobalAt i) = there_map GlobalFine GlobalFine global_code m.globals i (λ g h. body_bare [] g.init g.vtype h) (v (places.GlobalAt i))
  valid_to v (places.ExportAt i) = there_mono (ExportFine m i) (ExportFine m0 i) m.exports i (λ e h. (space_to e h.0, h.1)) (v (places.ExportAt i))
  valid_to v places.Start = v places.Start
  valid_to v (places.ElementAt i) = there_map (ElementFine m) (ElementFine m0) element_code m.elements i (λ e h. (h.0, body_bare m.globals e.offset _ h.1, h.2)) (v (places.ElementAt i))
  valid_to v (places.DataAt i) = there_map (DataFine m) (DataFine m0) segment_code m.segments i (λ s h. (h.0, body_bare m.globals s.offset _ h.1)) (v (places.DataAt i))
  valid_to v (places.Function f o) = if_mono (defined_index m f) (λ i. There m.bodies i (BodyFine m f)) (λ i. There (map body_code m.bodies) i (BodyFine m0 f)) (λ i t. there_map (BodyFine m f) (BodyFine m0 f) body_code m.bodies i (bodies_to f) t) (v (places.Function f o))

  pub valid_from : IsModule m → Valid m0 → Valid m
  valid_from whole v (places.TypeAt i) = v (places.TypeAt i)
  valid_from whole v (places.ImportAt i) = v (places.ImportAt i)
  valid_from whole v (places.Declaration f) = v (places.Declaration f)
  valid_from whole v (places.TableAt i) = v (places.TableAt i)
  valid_from whole v (places.MemoryAt i) = v (places.MemoryAt i)
  valid_from whole v (places.GlobalAt i) = there_back GlobalFine GlobalFine global_code m.globals i (λ g at h. bare_body_ [] g.init g.vtype h) (v (places.GlobalAt i))
  valid_from whole v (places.ExportAt i) = there_mono (ExportFine m0 i) (ExportFine m i) m.exports i (λ e h. (space_from e h.0, h.1)) (v (places.ExportAt i))
  valid_from whole v places.Start = v places.Start
  valid_from whole v (places.ElementAt i) = there_back (ElementFine m) (ElementFine m0) element_code m.elements i (λ e at h. (h.0, bare_body_ m.globals e.offset _ h.1, h.2)) (v (places.ElementAt i))
  valid_from whole v (places.DataAt i) = there_back (DataFine m) (DataFine m0) segment_code m.segments i (λ s at h. (h.0, bare_body_ m.globals s.offset _ h.1)) (v (places.DataAt i))
  valid_from whole v (places.Function f o) =
      if_mono (defined_index m f) (λ i. There (map body_code m.bodies) i (BodyFine m0 f)) (λ i. There m.bodies i (BodyFine m f))
      (λ i t. there_back (BodyFine m f) (BodyFine m0 f) body_code m.bodies i (λ b at h. let w = tree_of m.bodies whole.trees i b whole.write at in bodies_from f b w.0 w.1 h) t) (v (places.Function f o))

  nesting_bare : (b : Body) → nesting (body_code b) ≡ nesting b
  nesting_bare b = ap (λ z. deepest 0 z) (codes_bare b.ops)

  pub sizes_from : LowSizes m0 → LowSizes m
  sizes_from s = record {
    locals = λ i b e. s.locals i (body_code b) (slice_get-map body_code m.bodies i ∙ ap (option_map body_code) e);
    nested = all_back (λ b. nesting b ≤ 1024) (λ b. nesting b ≤ 1024) body_code m.bodies (λ b h. subst (λ n. n ≤ 1024) (nesting_bare b) h) s.nested;
    tables = s.tables;
    memories = s.memories;
  }

  pub sizes_to : LowSizes m → LowSizes m0
  sizes_to s = record {
    locals = λ i b e.
        let f = map_found (slice_get m.bodies i) body_code b (sym (slice_get-map body_code m.bodies i) ∙ e) in
        subst (λ z. local_count (type_at m (length m.imports + i)) z ≤ 16384) f.2 (s.locals i f.0 f.1);
    nested = all_map (λ b. nesting b ≤ 1024) body_code m.bodies (all_as (λ b. nesting b ≤ 1024) (λ b. nesting (body_code b) ≤ 1024) m.bodies (λ b h. subst (λ n. n ≤ 1024) (sym (nesting_bare b)) h) s.nested);
    tables = s.tables;
    memories = s.memories;
  }

-- a module that differs in these alone is valid too, and within the limits
pub same_valid : (a b : Module) → code_alone a ≡ code_alone b → IsModule b → Valid a → Valid b
same_valid a b e whole v = valid_from b whole (subst Valid e (valid_to a v))

pub same_sizes : (a b : Module) → code_alone a ≡ code_alone b → LowSizes a → LowSizes b
same_sizes a b e s = sizes_from b (subst LowSizes e (sizes_to a s))
