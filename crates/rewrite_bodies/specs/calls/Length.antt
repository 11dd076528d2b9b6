-- The bytes that code takes in its shortest encoding (Core 5.4), and what the weight of a module gives for them.
use Rattle.std.specs.Prelude.{◌≡◌, ℕ, ◌+◌, ◌*◌, ◌^◌, ◌≤◌, List, [], ◌∷◌, length, slice_get, Option, Some, None, option_to_list}
use Rattle.wasm_leb.specs.Writing.{unsigned_bytes}
use Rattle.wasm_syntax.specs.declared.instruction.Basic.{Basic}
use Rattle.wasm_syntax.specs.declared.parts.FuncType.{FuncType}
use Rattle.wasm_syntax.specs.Tree.{Jump, Unreachable, Br, BrIf, BrTable, Return, Call, CallIndirect, Nodes, stop, basic, jump, block, loop, choose, IsTree}
use Rattle.wasm_syntax.specs.Typing.{Types}
use Rattle.wasm_format.specs.Encoding.{basic_bytes, labels_bytes}
use Rattle.rewrite_bodies.specs.Numbering.{import_count}
use Rattle.rewrite_bodies.specs.calls.Slots.{Place, Ctx, less, grown, under, after_plain, behind_jump}
use Rattle.rewrite_bodies.specs.calls.Rewrite.{body}
use Rattle.rewrite_bodies.specs.calls.Agreement.{Room}
use Rattle.rewrite_bodies.specs.calls.Typed.{in_body, original}
use Rattle.rewrite_bodies.specs.Numbering.{extra}
use Rattle.wasm_syntax.specs.declared.instruction.Instr.TheVariants as instrs

-- ---- lengths of encodings

abbrev pub basic_length : Basic → ℕ
basic_length i = length (basic_bytes i)

abbrev pub jump_length : Jump → ℕ
jump_length Unreachable = 1
jump_length (Br l) = 1 + length (unsigned_bytes l)
jump_length (BrIf l) = 1 + length (unsigned_bytes l)
jump_length (BrTable ts d) = length (labels_bytes (length ts) ts d)
jump_length Return = 1
jump_length (Call f) = 1 + length (unsigned_bytes f)
jump_length (CallIndirect t) = 2 + length (unsigned_bytes t)

abbrev pub else_length : Option ℕ → ℕ
else_length None = 0
else_length (Some at) = 1

-- of nodes, with each `end` and `else` of the blocks in them
abbrev pub code_length : Nodes → ℕ
code_length stop = 0
code_length (basic at i rest) = basic_length i + code_length rest
code_length (jump at j rest) = jump_length j + code_length rest
code_length (block at t inner end rest) = 3 + code_length inner + code_length rest
code_length (loop at t inner end rest) = 3 + code_length inner + code_length rest
code_length (choose at t a else_at b end rest) = 3 + else_length else_at + code_length a + code_length b + code_length rest

-- ---- what the weight gives

-- to an instruction with its encoded length, at this height
abbrev pub node_weight : ℕ → ℕ → ℕ
node_weight bytes height = 192 + 8 * bytes + 16 * height

abbrev pub long_guard : Basic → ℕ
long_guard i = extra (instrs.Basic i)

-- an `if` without `else` has one `end`
abbrev pub weight_else : Option ℕ → ℕ → ℕ
weight_else None n = 0
weight_else (Some at) n = n

-- to the live instructions of nodes, each with the `end` or `else` behind its sequence
abbrev pub live_weight : Ctx → List Place → Nodes → ℕ
live_weight C es stop = node_weight 1 (length es)
live_weight C es (basic at i rest) = node_weight (basic_length i) (length es) + long_guard i + live_weight C (after_plain C es i) rest
live_weight C es (jump at j rest) = node_weight (jump_length j) (length es) + behind_jump C j es (λ es'. live_weight C es' rest)
live_weight C es (block at t inner end rest) = node_weight 2 (length es) + live_weight C (under es) inner + live_weight C (grown t (under es)) rest
live_weight C es (loop at t inner end rest) = node_weight 2 (length es) + live_weight C (under es) inner + live_weight C (grown t (under es)) rest
live_weight C es (choose at t a else_at b end rest) =
    let left = under (less 1 es) in node_weight 2 (length es) + live_weight C left a + weight_else else_at (live_weight C left b) + live_weight C (grown t left) rest

-- the numbers of locals, and of the collector's imports, take at most four bytes
pub record FewNumbers (C : Ctx) : Type 0 where
  pub locals : length C.locals + (2 * C.slots + 5) ≤ 2 ^ 28
  pub imports : import_count C.source + 3 ≤ 2 ^ 28

-- each type gives at most one result, as in each valid module
abbrev pub FewResults : Ctx → Type 0
FewResults C = (t : ℕ) (type : FuncType) → slice_get C.source.types t ≡ Some type → length type.results ≤ 1

-- The rewriting of a well-typed body takes at most the bytes that the weight gives to its live instructions and to its function.
abbrev pub BodyShort : Ctx → Type 0
BodyShort C =
    (nodes : Nodes) → FewNumbers C → FewResults C → IsTree nodes → Room C [] nodes → Types (original C (in_body C.result ∷ [])) nodes [] (option_to_list C.result) →
    code_length (body C nodes) ≤ live_weight C [] nodes + (192 + 16 * length C.locals)
