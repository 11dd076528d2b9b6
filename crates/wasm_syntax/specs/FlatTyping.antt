-- The typing of flat code: a step for each instruction between lists of open blocks, in which every type is known. It derives the same
-- bodies as the typing over trees.
use Rattle.std.specs.Prelude.{◌≡◌, ℕ, Bool, true, false, List, [], ◌∷◌, ◌++◌, map, take, reverse, Option, None, option_to_list}
use Rattle.wasm_syntax.specs.declared.blocks.BlockKind.{BlockKind}
use Rattle.wasm_syntax.specs.declared.blocks.BlockKind.TheVariants.{Loop, Then}
use Rattle.wasm_syntax.specs.declared.blocks.BlockKind.TheVariants as kinds
use Rattle.wasm_syntax.specs.declared.value.ValType.{ValType}
use Rattle.wasm_syntax.specs.declared.value.ValType.TheVariants.{I32}
use Rattle.wasm_syntax.specs.declared.parts.FuncType.{FuncType}
use Rattle.wasm_syntax.specs.declared.parts.Body.{Body}
use Rattle.wasm_syntax.specs.declared.module.ModuleParts.{ModuleParts as Module}
use Rattle.wasm_syntax.specs.Tree.{Jump, Unreachable, Br, BrIf, BrTable, Return, Call, CallIndirect, Item, Plain, Goes, Opens, OpensLoop, OpensIf, Else, End, Placed, code_of}
use Rattle.wasm_syntax.specs.Typing.{Context, BasicTypes, JumpTypes, body_context}

-- an open block: what opened it, what it gives, and the types of its own operands, the topmost first
pub record OpenBlock : Type 0 where
  pub kind : BlockKind
  pub result : Option ValType
  pub types : List ValType

abbrev pub opened : BlockKind → Option ValType → List ValType → OpenBlock
opened kind result types = record { kind = kind; result = result; types = types }

-- what a branch to the block takes
abbrev pub label_of : BlockKind → Option ValType → Option ValType
label_of kinds.Plain result = result
label_of Loop result = None
label_of Then result = result

abbrev pub label_types : OpenBlock → List ValType
label_types b = option_to_list (label_of b.kind b.result)

-- the context inside the blocks, the innermost first
abbrev pub inside : Context → List OpenBlock → Context
inside c bs = record c { labels = map label_types bs }

-- with these types on top of the innermost block's
abbrev pub given : List ValType → List OpenBlock → List OpenBlock
given ts [] = []
given ts (b ∷ bs) = opened b.kind b.result (ts ++ b.types) ∷ bs

-- an `if` without `else` gives nothing
abbrev pub MayEnd : BlockKind → Option ValType → Type 0
MayEnd Then t = t ≡ None
MayEnd _ t = Unit {0}

-- an instruction leads from these open blocks to those
abbrev pub FlatStep : Context → List OpenBlock → Item → List OpenBlock → Type 0
FlatStep c [] i after = ⊥
FlatStep c (b ∷ bs) (Plain i) after = (types : List ValType) × BasicTypes (inside c (b ∷ bs)) i b.types types × (after ≡ opened b.kind b.result types ∷ bs)
FlatStep c (b ∷ bs) (Goes j) after = (types : List ValType) × JumpTypes (inside c (b ∷ bs)) j b.types types × (after ≡ opened b.kind b.result types ∷ bs)
FlatStep c (b ∷ bs) (Opens t) after = after ≡ opened kinds.Plain t [] ∷ b ∷ bs
FlatStep c (b ∷ bs) (OpensLoop t) after = after ≡ opened Loop t [] ∷ b ∷ bs
FlatStep c (b ∷ bs) (OpensIf t) after =
    (below : List ValType) × (b.types ≡ I32 ∷ below) × (after ≡ opened Then t [] ∷ opened b.kind b.result below ∷ bs)
FlatStep c (b ∷ bs) Else after = (b.kind ≡ Then) × (b.types ≡ option_to_list b.result) × (after ≡ opened kinds.Plain b.result [] ∷ bs)
FlatStep c (b ∷ bs) End after = (b.types ≡ option_to_list b.result) × MayEnd b.kind b.result × (after ≡ given (option_to_list b.result) bs)

-- the instructions one after the other
abbrev pub FlatTypes : Context → List OpenBlock → List Placed → List OpenBlock → Type 0
FlatTypes c before [] after = before ≡ after
FlatTypes c before (p ∷ ps) after = (between : List OpenBlock) × FlatStep c before p.code between × FlatTypes c between ps after

-- a body of a function that gives at most one value stands in a block of its own
abbrev pub body_block : Option ValType → List OpenBlock
body_block result = opened kinds.Plain result [] ∷ []

-- ---- dead code: what follows an unconditional transfer in its sequence, with all blocks in it, and the `else` or `end` behind it

abbrev pub dead_behind_jump : Bool → Jump → Bool
dead_behind_jump dead Unreachable = true
dead_behind_jump dead (Br n) = true
dead_behind_jump dead (BrIf n) = dead
dead_behind_jump dead (BrTable targets default) = true
dead_behind_jump dead Return = true
dead_behind_jump dead (Call f) = dead
dead_behind_jump dead (CallIndirect t) = dead

-- for each open block whether its sequence is dead here, the innermost first
abbrev pub dead_next : List Bool → Item → List Bool
dead_next [] i = []
dead_next (d ∷ ds) (Plain i) = d ∷ ds
dead_next (d ∷ ds) (Goes j) = dead_behind_jump d j ∷ ds
dead_next (d ∷ ds) Else = false ∷ ds
dead_next (d ∷ ds) End = ds
dead_next (d ∷ ds) opening = false ∷ d ∷ ds

abbrev pub dead_behind : List Bool → List Placed → List Bool
dead_behind ds [] = ds
dead_behind ds (p ∷ ps) = dead_behind (dead_next ds p.code) ps

-- no open block is dead
abbrev pub AllLive : List Bool → Type 0
AllLive [] = Unit {0}
AllLive (d ∷ ds) = (d ≡ false) × AllLive ds

-- the i-th instruction of the code is live; `else` and `end` count
abbrev pub IsLive : List Placed → ℕ → Type 0
IsLive code i = AllLive (dead_behind (false ∷ []) (take i code))

-- an instruction other than `else` and `end`
abbrev pub BeginsNode : Item → Type 0
BeginsNode (Plain i) = Unit {0}
BeginsNode (Goes j) = Unit {0}
BeginsNode (Opens t) = Unit {0}
BeginsNode (OpensLoop t) = Unit {0}
BeginsNode (OpensIf t) = Unit {0}
BeginsNode Else = ⊥
BeginsNode End = ⊥

-- the types of the operands of all open blocks, the topmost first
abbrev pub all_types : List OpenBlock → List ValType
all_types [] = []
all_types (b ∷ bs) = b.types ++ all_types bs

-- the operand types before the i-th instruction of a function's body, bottom first, where it is live
pub record TypesBefore (m : Module) (type : FuncType) (body : Body) (i : ℕ) (types : List ValType) : Type 0 where
  pub result : Option ValType
  pub gives : reverse type.results ≡ option_to_list result
  pub blocks : List OpenBlock
  pub leads : FlatTypes (body_context m type body) (body_block result) (take i (code_of body.targets body.ops)) blocks
  pub live : IsLive (code_of body.targets body.ops) i
  pub types_are : types ≡ reverse (all_types blocks)
