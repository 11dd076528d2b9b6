-- What the rewritten module has for each part of the original, and what each step comes to.
use Rattle.std.specs.Prelude.{◌≡◌, ℕ, suc, ◌+◌, ◌*◌, ◌≤◌, List, [], ◌∷◌, ◌++◌, length, Some, None, true, false, slice_get, ◌⊎◌, nat_lt}
use Rattle.wasm_syntax.specs.declared.value.ValType.{ValType}
use Rattle.wasm_syntax.specs.declared.value.Value.{Value}
use Rattle.wasm_syntax.specs.Numbers.{type_of}
use Rattle.wasm_syntax.specs.Host.{World, told, answer, collector_of}
use Rattle.wasm_syntax.specs.Machine.{Config, config, Engine, Stepped, next, ends, traps, no_reply, bad_reply, stuck, exactly, host_call, function_type}
use Rattle.rewrite_bodies.specs.calls.Slots.{added, greatest, ctx_of}
use Rattle.rewrite_bodies.specs.calls.Pieces.{call, tree_of}
use Rattle.wasm_syntax.specs.declared.value.Value.TheVariants as values
use Rattle.wasm_syntax.specs.declared.parts.FuncType.{FuncType}
use Rattle.wasm_syntax.specs.Module.{type_at, defined, function_at, declared_locals, imported, Function}
use Rattle.rewrite_bodies.specs.Numbering.{mapped, place_in, helper_base, helped, value_import, frame_import, value_type, frame_type, import_count}
use Rattle.wasm_syntax.specs.declared.host.CollectorCall.TheVariants as collector_calls
use Rattle.dump_write.specs.Collected.{value_call}
use Rattle.wasm_syntax.specs.declared.parts.Body.{Body}
use Rattle.wasm_syntax.specs.Tree.{Tree}
use Rattle.rewrite_bodies.specs.calls.Rewrite.{body}
use Rattle.wasm_syntax.specs.declared.parts.Import.{Import}
use Rattle.wasm_syntax.specs.declared.module.ModuleParts.{ModuleParts as Module}
use Rattle.rewrite_bodies.specs.calls.Guards.{helper_type, helper}
use Rattle.rewrite_bodies.specs.calls.Steps.{Gets, To}
use Rattle.rewrite_bodies.specs.calls.Agreement.{Wit, Has, Room, WorldFits, FitsConfig, Wrap, w_frame, flagged, image, zero_vs, last_of}
use Rattle.rewrite_bodies.specs.calls.Telling.{tell_frames}

-- the collector's imports of the new module
pub record Speaks (M' : Engine) (m : Module) : Type 0 where
  pub collects : M'.collects ≡ true
  pub value_imported : ValType → Import
  pub values_ : (t : ValType) → function_at M'.program (value_import m t) ≡ Some (imported (value_imported t) (value_type t))
  pub tells : (v : Value) (w : World) → answer true M'.program.module_ (host_call (value_import m (type_of v)) (value_imported (type_of v)) (value_type (type_of v)) (v ∷ [])) w ≡ told (value_call v)
  pub frame_imported : Import
  pub frames_ : function_at M'.program (frame_import m) ≡ Some (imported frame_imported frame_type)
  pub closes : (k f o n : ℕ) (w : World) → answer true M'.program.module_ (host_call (frame_import m) frame_imported frame_type (values.I32 k ∷ values.I32 f ∷ values.I32 o ∷ values.I32 n ∷ [])) w ≡ told (collector_calls.Frame k f o n)

-- what the rewritten module has for a function
pub record Linked (M M' : Engine) (E : ℕ) (gl : List ValType) (f : ℕ) (b : Body) (tree : Tree) (type : FuncType) : Type 0 where
  pub slots : ℕ
  pub small : 4 * length (type.params ++ declared_locals b.groups) + 4 * slots + 80 ≤ E
  pub narrow : length (type.params ++ declared_locals b.groups) + slots ≤ (greatest M.program).0 + (greatest M.program).1
  pub room : Room (ctx_of M.program f b type slots) [] tree.nodes
  pub new : Body
  pub locals : declared_locals new.groups ≡ declared_locals b.groups ++ added slots
  pub target : function_at M'.program (mapped M.program.module_ f) ≡ Some (defined new (tree_of (body (ctx_of M.program f b type slots) tree.nodes)) type)

-- the target of the whole step
abbrev pub After : Engine → Engine → ℕ → List ValType → Wrap → Config → Stepped → Type 0
After M M' E gl W t (next c) = (ws : List Wit) × FitsConfig M E gl W.result c ws × To M' 1 E t (image M W c ws)
After M M' E gl W t (ends g vs co) = (exactly W.result vs ≡ Some vs) × WorldFits M gl g × To M' 1 E t (config (w_frame W (vs ++ []) ∷ []) (flagged M g (values.I32 0)) co)
After M M' E gl W t (traps k c) = (k ≡ 8) ⊎ WorldFits M gl c.world × To M' 1 (length c.frames * E) t (config (w_frame W (zero_vs (last_of c.frames) ++ []) ∷ []) (flagged M c.world (values.I32 1)) (tell_frames k c.frames c.collected))
After M M' E gl W t (no_reply call c) = WorldFits M gl c.world × (c' : Config) × (c'.world ≡ flagged M c.world (values.I32 0)) × (c'.collected ≡ c.collected) × Gets M' 1 E t (no_reply call c')
After M M' E gl W t (bad_reply call r c) = WorldFits M gl c.world × (c' : Config) × (c'.world ≡ flagged M c.world (values.I32 0)) × (c'.collected ≡ c.collected) × Gets M' 1 E t (bad_reply call r c')
After M M' E gl W t stuck = Unit {0}

-- an import stays in its place, and is no collector's
pub record ImportLinked (M M' : Engine) (f : ℕ) (i : Import) (type : FuncType) : Type 0 where
  pub target : function_at M'.program (mapped M.program.module_ f) ≡ Some (imported i type)
  pub same : mapped M.program.module_ f ≡ f
  pub direct : nat_lt f (import_count M.program.module_) ≡ true
  pub unheard : (args : List Value) → collector_of M'.program.module_ (host_call f i type args) ≡ None

-- a type that is asked for has its helper
pub record HelperLinked (M M' : Engine) (t : ℕ) : Type 0 where
  pub new : Body
  pub locals : declared_locals new.groups ≡ []
  pub target : function_at M'.program (helper_base M.program.module_ + place_in t (helped M.program)) ≡ Some (defined new (tree_of (helper M.program.module_ t)) helper_type)

-- the new module stands for the old one
pub record Stands (M M' : Engine) (E : ℕ) (gl : List ValType) : Type 0 where
  pub quiet : M.collects ≡ false
  pub deeper : M'.depth ≡ suc (suc M.depth)
  pub speaks : Speaks M' M.program.module_
  pub type_is : (f : ℕ) (fn : Function) → function_at M.program f ≡ Some fn → type_at M.program.module_ f ≡ Some (function_type fn)
  pub functions : (f : ℕ) (b : Body) (tree : Tree) (type : FuncType) → function_at M.program f ≡ Some (defined b tree type) → Linked M M' E gl f b tree type
  pub imports : (f : ℕ) (i : Import) (type : FuncType) → function_at M.program f ≡ Some (imported i type) → ImportLinked M M' f i type
  pub undirect : (f : ℕ) (b : Body) (tree : Tree) (type : FuncType) → function_at M.program f ≡ Some (defined b tree type) → nat_lt f (import_count M.program.module_) ≡ false
  pub helpers : (t : ℕ) → Has t (helped M.program) → HelperLinked M M' t
  pub entry_types : (t : ℕ) (type : FuncType) → slice_get M.program.module_.types t ≡ Some type → slice_get M'.program.module_.types t ≡ Some type
  pub function_types_ : (f : ℕ) (type : FuncType) → type_at M.program.module_ f ≡ Some type → type_at M'.program.module_ (mapped M.program.module_ f) ≡ Some type
