-- Where the operands are before each instruction of a body, by its index in the flat code; `else` and `end` count. None stands for dead code,
-- which is what follows an unconditional transfer in its list, up to the end of the list and with it.
use Rattle.std.specs.Prelude.{ℕ, zero, suc, List, [], length, reverse, slice_get, Option, Some, None}
use Rattle.wasm_syntax.specs.declared.value.Value.{Value}
use Rattle.wasm_syntax.specs.declared.parts.FuncType.{FuncType}
use Rattle.wasm_syntax.specs.Tree.{Jump, Unreachable, Br, BrIf, BrTable, Return, Call, CallIndirect, Nodes, stop, basic, jump, block, loop, choose}
use Rattle.wasm_syntax.specs.Machine.{result_of}
use Rattle.wasm_syntax.specs.Module.{type_at}
use Rattle.rewrite_bodies.specs.calls.Slots.{Place, Spilled, Known, Copied, Ctx, less, grown, under, after_plain}

-- before an instruction, and then behind it
abbrev pub first_then : Option (List Place) → (ℕ → Option (List Place)) → ℕ → Option (List Place)
first_then here behind zero = here
first_then here behind (suc k) = behind k

-- in dead nodes, and then behind the end of their list
abbrev pub dead : Nodes → (ℕ → Option (List Place)) → ℕ → Option (List Place)
dead stop behind = first_then None behind
dead (basic at i rest) behind = first_then None (dead rest behind)
dead (jump at j rest) behind = first_then None (dead rest behind)
dead (block at t inner end rest) behind = first_then None (dead inner (dead rest behind))
dead (loop at t inner end rest) behind = first_then None (dead inner (dead rest behind))
dead (choose at t a None b end rest) behind = first_then None (dead a (dead rest behind))
dead (choose at t a (Some else_at) b end rest) behind = first_then None (dead a (dead b (dead rest behind)))

-- behind a call of a function of this type
abbrev pub after_call : Option FuncType → List Place → (List Place → ℕ → Option (List Place)) → (ℕ → Option (List Place)) → ℕ → Option (List Place)
after_call None es go over = over
after_call (Some type) es go over = go (grown (result_of type) (less (length type.params) es))

-- behind a jump: where the next instruction is run, or dead
abbrev pub after_jump : Ctx → Jump → List Place → (List Place → ℕ → Option (List Place)) → (ℕ → Option (List Place)) → ℕ → Option (List Place)
after_jump C Unreachable es go over = over
after_jump C (Br l) es go over = over
after_jump C (BrIf l) es go over = go (less 1 es)
after_jump C (BrTable ts d) es go over = over
after_jump C Return es go over = over
after_jump C (Call f) es go over = after_call (type_at C.source f) es go over
after_jump C (CallIndirect t) es go over = after_call (slice_get C.source.types t) (less 1 es) go over

-- in live nodes over these places, and then behind the end of their list
abbrev pub live : Ctx → List Place → Nodes → (ℕ → Option (List Place)) → ℕ → Option (List Place)
live C es stop behind = first_then (Some es) behind
live C es (basic at i rest) behind = first_then (Some es) (live C (after_plain C es i) rest behind)
live C es (jump at j rest) behind = first_then (Some es) (after_jump C j es (λ left. live C left rest behind) (dead rest behind))
live C es (block at t inner end rest) behind = first_then (Some es) (live C (under es) inner (live C (grown t (under es)) rest behind))
live C es (loop at t inner end rest) behind = first_then (Some es) (live C (under es) inner (live C (grown t (under es)) rest behind))
live C es (choose at t a None b end rest) behind = let left = under (less 1 es) in first_then (Some es) (live C left a (live C (grown t left) rest behind))
live C es (choose at t a (Some else_at) b end rest) behind =
    let left = under (less 1 es) in first_then (Some es) (live C left a (live C left b (live C (grown t left) rest behind)))

-- before the instruction of this index of a body
abbrev pub before : Ctx → Nodes → ℕ → Option (List Place)
before C nodes = live C [] nodes (λ k. None)

-- the value of the operand with so many others below it, where a constant instruction pushed it
abbrev pub constant_of : Option Place → Option Value
constant_of None = None
constant_of (Some (Spilled t)) = None
constant_of (Some (Known v)) = Some v
constant_of (Some (Copied t x)) = None

abbrev pub known_among : Option (List Place) → ℕ → Option Value
known_among None n = None
known_among (Some es) n = constant_of (slice_get (reverse es) n)
