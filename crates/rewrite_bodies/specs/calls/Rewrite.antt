-- The rewriting of a body: its instructions as they stand, on the same operands, each of which is somewhere besides; guards, which read from
-- there; and unwinding through a flag. Code is written in front of the code that goes on behind it.
use Rattle.std.specs.Prelude.{ℕ, zero, suc, pred, ◌+◌, ◌==◌, if◌then◌else◌, nat_lt, List, [], ◌∷◌, length, slice_get, Option, Some, None, option_map, Bool, true, false}
use Rattle.wasm_syntax.specs.declared.value.ValType.{ValType}
use Rattle.wasm_syntax.specs.declared.instruction.Basic.{Basic}
use Rattle.wasm_syntax.specs.declared.value.ValType.TheVariants.{I32}
use Rattle.int_ops.specs.declared.operators.Binary.TheVariants.{Add, Or}
use Rattle.wasm_syntax.specs.declared.instruction.Basic.TheVariants.{LocalGet, LocalSet, GlobalGet, GlobalSet, MemoryGrow, Eqz, Binary}
use Rattle.wasm_syntax.specs.declared.parts.FuncType.{FuncType}
use Rattle.wasm_syntax.specs.Tree.{Jump, Unreachable, Br, BrIf, Return, Call, CallIndirect, Nodes, stop, basic, jump, block, loop, choose}
use Rattle.wasm_syntax.specs.Module.{type_at}
use Rattle.wasm_syntax.specs.Effect.{takes}
use Rattle.wasm_syntax.specs.Run.{table_min}
use Rattle.wasm_syntax.specs.Machine.{result_of, zero_of}
use Rattle.rewrite_bodies.specs.Numbering.{import_count, mapped, value_import, frame_import, flag_of, place_in, doubles}
use Rattle.rewrite_bodies.specs.calls.Slots.{Place, Spilled, place_type, Ctx, kind_at, offset_at, measured, less, grown, under, result_place, after_plain, Landing, Derivation, local_written}
use Rattle.rewrite_bodies.specs.calls.Pieces.{get, set, const, i32, call, if_any, fetch, load, keep, store, reload, spill, drops}
use Rattle.rewrite_bodies.specs.calls.Guards.{measure, set_both, renew_both, guard, kind}
use Rattle.rewrite_bodies.specs.calls.Facts.{needs}
use Rattle.rewrite_bodies.specs.calls.Landings.{number_of, number_in, part_of, landing_of, landing_behind, with_landings}

-- ---- handing over

abbrev pub hand_value : Ctx → ValType → Nodes → Nodes
hand_value C t k = call (value_import C.source t) k

-- all operands, the lowest first
abbrev pub hand : Ctx → List Place → Nodes → Nodes
hand C [] k = k
hand C (e ∷ es) k = hand C es (fetch C e (length es) (hand_value C (place_type e) k))

-- so many operands on top, the lowest first
abbrev pub hand_top : Ctx → ℕ → List Place → Nodes → Nodes
hand_top C zero es k = k
hand_top C (suc m) [] k = k
hand_top C (suc m) (e ∷ es) k = hand_top C m es (fetch C e (length es) (hand_value C (place_type e) k))

-- out of an arm inside so many labels of the original, which stand in those of the landings
abbrev pub to_exit : Ctx → ℕ → Nodes
to_exit C d = jump 0 (Br (suc (d + length C.landings))) stop

-- the offset is set, the operands are handed over, and the code goes to the exit
abbrev pub unwind : Ctx → ℕ → List Place → ℕ → Nodes
unwind C d es o = const (i32 o) (set C (offset_at C) (hand C es (to_exit C d)))

-- the kind on the stack is kept
abbrev pub unwind_kind : Ctx → ℕ → List Place → ℕ → Nodes
unwind_kind C d es o = set C (kind_at C) (unwind C d es o)

-- where the number on the stack is not 0, the code unwinds with the kind that this piece pushes
abbrev pub tested : Ctx → ℕ → List Place → ℕ → (Nodes → Nodes) → Nodes → Nodes
tested C d es o says_kind k = if_any (says_kind (unwind_kind C d es o)) k

-- where this code leaves another number than 0, the frame is handed over: at the landing of this number, to which the topmost operand comes
-- along where the landing takes it, or where there is none, in place, with the kind that a second piece pushes
abbrev pub checked : Option ℕ → Ctx → ℕ → List Place → ℕ → (Nodes → Nodes) → (Nodes → Nodes) → Nodes → Nodes
checked None C d es o test says_kind k = test (tested C d es o says_kind k)
checked (Some n) C d es o test says_kind k = const (i32 o) (set C (offset_at C) (test (jump 0 (BrIf (d + n)) k)))

abbrev pub guarded : Bool → Ctx → ℕ → List Place → ℕ → Basic → Nodes → Nodes
guarded false C d es o i k = k
guarded true C d es o i k = checked (number_in C.landings (landing_of (part_of C.locals o) i es)) C d es o (guard C i es) (kind C i es) k

abbrev pub get_flag : Ctx → Nodes → Nodes
get_flag C k = basic 0 (GlobalGet (flag_of C.source)) k

abbrev pub test_flag : Ctx → ℕ → List Place → ℕ → Nodes → Nodes
test_flag C d es o k = checked (number_of (landing_behind (part_of C.locals o) es) C.landings) C d es o (get_flag C) (const (i32 0)) k

-- ---- what is kept

abbrev pub any : ℕ → Bool
any zero = false
any (suc n) = true

-- how many operands the first of these nodes takes, where it is a basic instruction without a guard
abbrev pub at_once : Ctx → Nodes → ℕ
at_once C stop = 0
at_once C (basic o i rest) = if needs C o i then 0 else takes i
at_once C (jump o j rest) = 0
at_once C (block o t inner end rest) = 0
at_once C (loop o t inner end rest) = 0
at_once C (choose o t a else_at b end rest) = 0

-- what an instruction takes; where it takes none, one less than what is taken at once behind it, since it may push one
abbrev pub or_behind : ℕ → ℕ → ℕ
or_behind zero behind = pred behind
or_behind (suc n) behind = suc n

-- How many of the topmost operands are taken before the frame can be handed over: these may be on the stack alone. At most one instruction is
-- passed over. Where a list of nodes ends, its operands go where the block goes on.
abbrev pub spare : Ctx → Nodes → ℕ
spare C stop = 1
spare C (basic o i rest) = if needs C o i then 0 else or_behind (takes i) (at_once C rest)
spare C (jump o Unreachable rest) = 0
spare C (jump o (Call f) rest) = 0
spare C (jump o (CallIndirect t) rest) = 0
spare C (jump o j rest) = 1
spare C (block o t inner end rest) = 0
spare C (loop o t inner end rest) = 0
spare C (choose o t a else_at b end rest) = 1

-- the topmost operand is on the stack alone
abbrev pub passes : Ctx → Nodes → Bool
passes C nodes = any (spare C nodes)

-- ---- basic instructions

-- copies of the local that an instruction writes go to their slots
abbrev pub free_at : Ctx → Option ℕ → List Place → Nodes → Nodes
free_at C None es k = k
free_at C (Some x) es k = spill C (λ y. x == y) es k

abbrev pub free : Ctx → Basic → List Place → Nodes → Nodes
free C i es k = free_at C (local_written i) es k

-- the instruction that changes the length of the memory, and what stands behind it
abbrev pub grows : Basic → Bool
grows MemoryGrow = true
grows i = false

abbrev pub lengthened : Bool → Ctx → Nodes → Nodes
lengthened false C k = k
lengthened true C k = set_both C k

-- in front of code to which the topmost operand passes, or not
abbrev pub plain : Ctx → ℕ → List Place → ℕ → Basic → Bool → (List Place → Nodes) → Nodes
plain C d es o i passing go =
    guarded (needs C o i) C d es o i
    (free C i (less (takes i) es) (basic 0 i (lengthened (grows i) C (keep passing C (result_place C es i) (less (takes i) es) (go (after_plain C es i))))))

-- ---- control

-- a result has come, and the code goes on
abbrev pub with_result : Ctx → Option ValType → List Place → Bool → (List Place → Nodes) → Nodes
with_result C r es passing go = keep passing C (option_map Spilled r) es (go (grown r es))

abbrev pub after_call : Ctx → ℕ → Option ValType → List Place → ℕ → Bool → (List Place → Nodes) → Nodes
after_call C d r es o passing go = with_result C r es passing (λ es'. test_flag C d es o (measure (measured C) C (go es')))

-- the function may have made the memory longer; a call of an import cannot come back with the flag up, but its host may have made it longer
abbrev pub after_direct : Bool → Ctx → ℕ → Option ValType → List Place → ℕ → Bool → (List Place → Nodes) → Nodes
after_direct true C d r es o passing go = with_result C r es passing (λ es'. renew_both C (go es'))
after_direct false C d r es o passing go = after_call C d r es o passing go

abbrev pub call_code : Ctx → ℕ → List Place → ℕ → ℕ → Option FuncType → Bool → (List Place → Nodes) → Nodes
call_code C d es o f None passing go = stop
call_code C d es o f (Some type) passing go =
    call (mapped C.source f) (after_direct (nat_lt f (import_count C.source)) C d (result_of type) (less (length type.params) es) o passing go)

abbrev pub helper_of : Ctx → ℕ → ℕ
helper_of C t = C.base + place_in t C.helpers

-- the operands left, and then these others where the guard gave a kind
abbrev pub hand_left : Ctx → ℕ → List Place → Nodes → Nodes
hand_left C d es others = hand C es (get C (kind_at C) (if_any others (to_exit C d)))

-- where the guard gave a kind, or the flag is up
abbrev pub test_both : Ctx → ℕ → List Place → ℕ → Nodes → Nodes → Nodes
test_both C d es o others k =
    get C (kind_at C) (basic 0 (GlobalGet (flag_of C.source)) (basic 0 (Binary I32 Or)
    (if_any (const (i32 o) (set C (offset_at C) (hand_left C d es others))) k)))

-- the index of an entry is moved behind the entries that a host sees; the guard says that it is less than the length of the table
abbrev pub past_shown : Bool → Ctx → Nodes → Nodes
past_shown false C k = k
past_shown true C k = const (i32 (table_min C.source.tables)) (basic 0 (Binary I32 Add) k)

-- where the guard gave no kind, the call is made inside an arm, on operands that are fetched; behind it, one piece of code hands over the
-- operands left, and those of the call are dropped; the function may have been an import
abbrev pub indirect_code : Ctx → ℕ → List Place → ℕ → ℕ → Option FuncType → (List Place → Nodes) → Nodes
indirect_code C d es o t None go = stop
indirect_code C d [] o t (Some type) go = stop
indirect_code C d (i ∷ es) o t (Some type) go =
    let n = length type.params in
    let left = less n es in
    let r = result_of type in
    fetch C i (length es) (call (helper_of C t) (set C (kind_at C) (get C (kind_at C) (basic 0 (Eqz I32)
    (if_any (load C (suc n) (i ∷ es) (past_shown (doubles C.source) C (jump 0 (CallIndirect t) (store C r left stop))))
    (test_both C d left o (hand_top C (suc n) (i ∷ es) stop) (drops (suc n) (renew_both C (reload C r left (go (grown r left)))))))))))

abbrev pub control : Ctx → ℕ → List Place → ℕ → Jump → Bool → (List Place → Nodes) → Nodes
control C d es o Unreachable passing go = const (i32 1) (tested C d es o (const (i32 1)) (jump 0 Unreachable stop))
control C d es o (BrIf l) passing go = jump 0 (BrIf l) (go (less 1 es))
control C d es o (Call f) passing go = call_code C d es o f (type_at C.source f) passing go
control C d es o (CallIndirect t) passing go = indirect_code C d es o t (slice_get C.source.types t) go
control C d es o j passing go = jump 0 j stop

-- ---- the nodes, inside so many labels

-- copies of locals go to their slots before a block
abbrev pub rewrite : Ctx → ℕ → List Place → Nodes → Nodes
rewrite C d es stop = stop
rewrite C d es (basic o i rest) = plain C d es o i (passes C rest) (λ es'. rewrite C d es' rest)
rewrite C d es (jump o j rest) = control C d es o j (passes C rest) (λ es'. rewrite C d es' rest)
rewrite C d es (block o t inner end rest) =
    spill C (λ x. true) es (block 0 t (rewrite C (suc d) (under es) inner) 0 (with_result C t (under es) (passes C rest) (λ es'. rewrite C d es' rest)))
rewrite C d es (loop o t inner end rest) =
    spill C (λ x. true) es (loop 0 t (rewrite C (suc d) (under es) inner) 0 (with_result C t (under es) (passes C rest) (λ es'. rewrite C d es' rest)))
rewrite C d es (choose o t a else_at b end rest) =
    let left = under (less 1 es) in
    spill C (λ x. true) (less 1 es)
    (choose 0 t (rewrite C (suc d) left a) (option_map (λ at. 0) else_at) (rewrite C (suc d) left b) 0 (with_result C t left (passes C rest) (λ es'. rewrite C d es' rest)))

-- ---- the exit

-- the locals are handed over, from x on
abbrev pub hand_locals : Ctx → ℕ → List ValType → Nodes → Nodes
hand_locals C x [] k = k
hand_locals C x (t ∷ ts) k = basic 0 (LocalGet x) (hand_value C t (hand_locals C (suc x) ts k))

abbrev pub zero_result : Option ValType → Nodes → Nodes
zero_result None k = k
zero_result (Some t) k = const (zero_of t) k

abbrev pub raise_flag : Ctx → Nodes → Nodes
raise_flag C k = const (i32 1) (basic 0 (GlobalSet (flag_of C.source)) k)

-- these locals are worked out of others, in the order in which they were
abbrev pub worked_out : List Derivation → Nodes → Nodes
worked_out [] k = k
worked_out (d ∷ ds) k =
    basic 0 (LocalGet d.left) (basic 0 (LocalGet d.right) (basic 0 d.instruction (basic 0 (LocalSet d.made) (worked_out ds k))))

-- behind the exit block
abbrev pub exit_code : Ctx → Nodes
exit_code C =
    worked_out C.derivations (hand_locals C 0 C.locals (get C (kind_at C) (const (i32 C.index) (get C (offset_at C) (const (i32 (length C.locals)) (call (frame_import C.source)
    (raise_flag C (zero_result C.result (jump 0 Return stop)))))))))

-- ---- the landings

-- the operand that came along
abbrev pub hand_carried : Ctx → Option ValType → Nodes → Nodes
hand_carried C None k = k
hand_carried C (Some t) k = hand_value C t k

-- behind the block of a landing, in those of so many others
abbrev pub landing_code : Ctx → ℕ → Landing → Nodes
landing_code C n x = const (i32 x.kind) (set C (kind_at C) (hand C x.places (hand_carried C x.carried (jump 0 (Br n) stop))))

-- the blocks of landings around this code, that of the first one innermost
abbrev pub nested : Ctx → List Landing → Nodes → Nodes
nested C [] inner = inner
nested C (x ∷ xs) inner = nested C xs (block 0 x.carried inner 0 (landing_code C (length xs) x))

-- ---- the body

-- the body stands in one block, that in those of its landings, and these in the exit block
abbrev pub blocks : Ctx → Nodes → Nodes
blocks C nodes = block 0 None (nested C C.landings (block 0 C.result (rewrite C 1 [] nodes) 0 (jump 0 Return stop))) 0 (exit_code C)

-- in front of them the length of the memory is read
abbrev pub laid : Ctx → Nodes → Nodes
laid C nodes = measure (measured C) C (blocks C nodes)

abbrev pub body : Ctx → Nodes → Nodes
body C nodes = laid (with_landings C nodes) nodes
