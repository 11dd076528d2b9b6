-- Worked runs of small modules, by computation.
use Rattle.std.specs.Prelude.{◌≡◌, ℕ, ◌-◌, ◌^◌, List, [], ◌∷◌, map, length, take, drop, reverse, Option, Some, option_map, false, codes, refl}
use Rattle.int_ops.specs.Integers.{binary, div_s, rem_s}
use Rattle.wasm_syntax.specs.declared.value.ValType.TheVariants.{I32}
use Rattle.wasm_syntax.specs.declared.value.Value.{Value}
use Rattle.wasm_syntax.specs.declared.value.Value.TheVariants as values
use Rattle.wasm_syntax.specs.declared.host.HostCall.{HostCall}
use Rattle.wasm_syntax.specs.declared.host.Reply.{Reply}
use Rattle.wasm_syntax.specs.declared.module.ModuleParts.{ModuleParts as Module}
use Rattle.wasm_syntax.specs.Machine.{Frame, offset_of, operands}
use Rattle.wasm_syntax.specs.Run.{Ran, Outcome, finished, trapped, lacks_reply, misfits, running, not_started, no_export, bad_arguments, Invocation, run}
use Rattle.wasm_laws.proofs.RowModules.{program_of, divides, remains, loads_word, nested, branches, calls_table, calls_padded, recurs, asks, starts, grows, extends_8, extends_16, fills, fills_none, copies, counts}

-- ---- what is shown of a run

abbrev i32 : ℕ → Value
i32 n = values.I32 n

abbrev call : List ℕ → List Value → Invocation
call name args = record { name = name; args = args }

abbrev f : List Value → Invocation
f args = call (codes "f") args

-- one invocation of `f` on one i32
abbrev on : Module → ℕ → List Ran
on m n = run (program_of m) false (f (i32 n ∷ []) ∷ []) [] 1000 100

abbrev outcomes : List Ran → List Outcome
outcomes rs = map (λ r. r.outcome) rs

record Shown : Type 0 where
  function : ℕ
  offset : ℕ
  locals : List Value
  operands : List Value

abbrev shown : ℕ → ℕ → List Value → List Value → Shown
shown function offset locals operands = record { function = function; offset = offset; locals = locals; operands = operands }

-- the innermost frame at its next instruction, each other at its call; operands bottom first
abbrev frames_of : List Frame → List Shown
frames_of [] = []
frames_of (x ∷ xs) = shown x.function (offset_of x.labels) x.locals (reverse (operands x)) ∷ map (λ y. shown y.function y.call y.locals (reverse (operands y))) xs

abbrev frames : List Ran → List (Option (List Shown))
frames rs = map (λ r. option_map (λ c. frames_of c.frames) r.last) rs

abbrev host_calls : List Ran → List ℕ
host_calls rs = map (λ r. length r.served) rs

abbrev globals : List Ran → List (Option (List Value))
globals rs = map (λ r. option_map (λ c. c.world.globals) r.last) rs

-- ---- arithmetic

abbrev div : Module → ℕ → ℕ → ℕ → List Ran
div m a b n = run (program_of m) false (call (codes "div") (i32 a ∷ i32 b ∷ []) ∷ []) [] 1000 n

divide_by_zero : outcomes (div divides 7 0 100) ≡ trapped 2 ∷ []
unfolding binary div_s rem_s
divide_by_zero = refl

divide_by_zero_frames : frames (div divides 7 0 100) ≡ Some (shown 0 5 (i32 7 ∷ i32 0 ∷ []) (i32 7 ∷ i32 0 ∷ []) ∷ []) ∷ []
unfolding binary div_s rem_s
divide_by_zero_frames = refl

divide_by_zero_calls : host_calls (div divides 7 0 100) ≡ 0 ∷ []
unfolding binary div_s rem_s
divide_by_zero_calls = refl

overflow : outcomes (div divides (2 ^ 31) (2 ^ 32 - 1) 100) ≡ trapped 3 ∷ []
unfolding binary div_s rem_s
overflow = refl

overflow_frames : frames (div divides (2 ^ 31) (2 ^ 32 - 1) 100) ≡ Some (shown 0 5 (i32 (2 ^ 31) ∷ i32 (2 ^ 32 - 1) ∷ []) (i32 (2 ^ 31) ∷ i32 (2 ^ 32 - 1) ∷ []) ∷ []) ∷ []
unfolding binary div_s rem_s
overflow_frames = refl

remainder : outcomes (div remains (2 ^ 31) (2 ^ 32 - 1) 100) ≡ finished (Some (i32 0)) ∷ []
unfolding binary div_s rem_s
remainder = refl

-- ---- steps and arguments

four_steps : outcomes (div divides 8 2 4) ≡ finished (Some (i32 4)) ∷ []
unfolding binary div_s rem_s
four_steps = refl

three_steps : outcomes (div divides 8 2 3) ≡ running ∷ []
unfolding binary div_s rem_s
three_steps = refl

steps_left : map (λ r. r.left) (div divides 8 2 1000000000000) ≡ (1000000000000 - 4) ∷ []
unfolding binary div_s rem_s
steps_left = refl

few_arguments : outcomes (run (program_of divides) false (call (codes "div") (i32 8 ∷ []) ∷ []) [] 1000 100) ≡ not_started bad_arguments ∷ []
unfolding binary div_s rem_s
few_arguments = refl

no_such_export : outcomes (run (program_of divides) false (call (codes "main") [] ∷ []) [] 1000 100) ≡ not_started no_export ∷ []
unfolding binary div_s rem_s
no_such_export = refl

-- ---- memory

load_last : outcomes (on loads_word 65532) ≡ finished (Some (i32 0)) ∷ []
unfolding binary div_s rem_s
load_last = refl

load_past : outcomes (on loads_word 65533) ≡ trapped 4 ∷ []
unfolding binary div_s rem_s
load_past = refl

load_past_frames : frames (on loads_word 65533) ≡ Some (shown 0 3 (i32 65533 ∷ []) (i32 65533 ∷ []) ∷ []) ∷ []
unfolding binary div_s rem_s
load_past_frames = refl

grow_to_most : outcomes (on grows 4095) ≡ finished (Some (i32 1)) ∷ []
unfolding binary div_s rem_s
grow_to_most = refl

grow_past : outcomes (on grows 4096) ≡ finished (Some (i32 (2 ^ 32 - 1))) ∷ []
unfolding binary div_s rem_s
grow_past = refl

fill_last : outcomes (on fills 65532) ≡ finished (Some (i32 117901063)) ∷ []
unfolding binary div_s rem_s
fill_last = refl

fill_past : outcomes (on fills 65533) ≡ trapped 4 ∷ []
unfolding binary div_s rem_s
fill_past = refl

fill_past_frames : frames (on fills 65533) ≡ Some (shown 0 7 (i32 65533 ∷ []) (i32 65533 ∷ i32 7 ∷ i32 4 ∷ []) ∷ []) ∷ []
unfolding binary div_s rem_s
fill_past_frames = refl

fill_none_at_end : outcomes (on fills_none 65536) ≡ finished (Some (i32 0)) ∷ []
unfolding binary div_s rem_s
fill_none_at_end = refl

fill_none_past : outcomes (on fills_none 65537) ≡ trapped 4 ∷ []
unfolding binary div_s rem_s
fill_none_past = refl

fill_none_past_frames : map (λ o. option_map (map (λ x. x.offset)) o) (frames (on fills_none 65537)) ≡ Some (7 ∷ []) ∷ []
unfolding binary div_s rem_s
fill_none_past_frames = refl

copy_onto_itself : outcomes (on copies 0) ≡ finished (Some (i32 67305985)) ∷ []
unfolding binary div_s rem_s
copy_onto_itself = refl

-- ---- sign extensions

extend_8 : outcomes (on extends_8 255) ≡ finished (Some (i32 (2 ^ 32 - 1))) ∷ []
unfolding binary div_s rem_s
extend_8 = refl

extend_16 : outcomes (on extends_16 32768) ≡ finished (Some (i32 (2 ^ 32 - 32768))) ∷ []
unfolding binary div_s rem_s
extend_16 = refl

-- ---- blocks and branches

inside_three_blocks : frames (run (program_of nested) false (f [] ∷ []) [] 1000 100) ≡ Some (shown 0 13 [] (i32 1 ∷ i32 2 ∷ i32 3 ∷ []) ∷ []) ∷ []
unfolding binary div_s rem_s
inside_three_blocks = refl

inside_three_blocks_kind : outcomes (run (program_of nested) false (f [] ∷ []) [] 1000 100) ≡ trapped 1 ∷ []
unfolding binary div_s rem_s
inside_three_blocks_kind = refl

branch_0 : frames (on branches 0) ≡ Some (shown 0 27 (i32 0 ∷ []) (i32 10 ∷ i32 57 ∷ []) ∷ []) ∷ []
unfolding binary div_s rem_s
branch_0 = refl

branch_1 : frames (on branches 1) ≡ Some (shown 0 27 (i32 1 ∷ []) (i32 10 ∷ i32 27 ∷ []) ∷ []) ∷ []
unfolding binary div_s rem_s
branch_1 = refl

branch_default : frames (on branches 5) ≡ Some (shown 0 27 (i32 5 ∷ []) (i32 10 ∷ i32 7 ∷ []) ∷ []) ∷ []
unfolding binary div_s rem_s
branch_default = refl

branch_kinds : outcomes (on branches 0) ≡ trapped 1 ∷ []
unfolding binary div_s rem_s
branch_kinds = refl

-- ---- calls

table_0 : outcomes (on calls_table 0) ≡ finished (Some (i32 42)) ∷ []
unfolding binary div_s rem_s
table_0 = refl

table_past : outcomes (on calls_table 5) ≡ trapped 5 ∷ []
unfolding binary div_s rem_s
table_past = refl

table_empty : outcomes (on calls_table 2) ≡ trapped 6 ∷ []
unfolding binary div_s rem_s
table_empty = refl

table_other_type : outcomes (on calls_table 1) ≡ trapped 7 ∷ []
unfolding binary div_s rem_s
table_other_type = refl

table_frames : frames (on calls_table 5) ≡ Some (shown 1 3 (i32 5 ∷ []) (i32 5 ∷ []) ∷ []) ∷ []
unfolding binary div_s rem_s
table_frames = refl

padded_0 : outcomes (on calls_padded 0) ≡ finished (Some (i32 42)) ∷ []
unfolding binary div_s rem_s
padded_0 = refl

padded_past : outcomes (on calls_padded 5) ≡ trapped 5 ∷ []
unfolding binary div_s rem_s
padded_past = refl

padded_empty : outcomes (on calls_padded 2) ≡ trapped 6 ∷ []
unfolding binary div_s rem_s
padded_empty = refl

padded_other_type : outcomes (on calls_padded 1) ≡ trapped 7 ∷ []
unfolding binary div_s rem_s
padded_other_type = refl

padded_frames : frames (on calls_padded 5) ≡ frames (on calls_table 5)
unfolding binary div_s rem_s
padded_frames = refl

-- at a depth of three frames
abbrev deep : List ℕ → List Ran
deep ns = run (program_of recurs) false (map (λ n. f (i32 n ∷ [])) ns) [] 3 1000

recursion_ends : outcomes (deep (2 ∷ [])) ≡ trapped 5 ∷ []
unfolding binary div_s rem_s
recursion_ends = refl

recursion_frames : frames (deep (2 ∷ [])) ≡ Some (shown 0 8 (i32 0 ∷ []) (i32 9 ∷ []) ∷ shown 0 17 (i32 1 ∷ []) [] ∷ shown 0 17 (i32 2 ∷ []) [] ∷ []) ∷ []
unfolding binary div_s rem_s
recursion_frames = refl

too_deep : outcomes (deep (3 ∷ [])) ≡ trapped 8 ∷ []
unfolding binary div_s rem_s
too_deep = refl

too_deep_frames : frames (deep (3 ∷ [])) ≡ Some (shown 0 17 (i32 1 ∷ []) (i32 0 ∷ []) ∷ shown 0 17 (i32 2 ∷ []) [] ∷ shown 0 17 (i32 3 ∷ []) [] ∷ []) ∷ []
unfolding binary div_s rem_s
too_deep_frames = refl

-- ---- host calls

abbrev asked : List Reply → List Ran
asked replies = run (program_of asks) false (f [] ∷ []) replies 1000 100

abbrev read_call : HostCall
read_call = record { import = 0; name = codes "read"; args = i32 16 ∷ []; result = Some I32 }

abbrev nine : Reply
nine = record { value = Some (i32 9); writes = record { at = 16; bytes = 1 ∷ 2 ∷ 3 ∷ 4 ∷ [] } ∷ [] }

abbrev wide : Reply
wide = record { value = Some (values.I64 9); writes = [] }

reply_taken : outcomes (asked (nine ∷ [])) ≡ trapped 1 ∷ []
unfolding binary div_s rem_s
reply_taken = refl

reply_taken_frames : frames (asked (nine ∷ [])) ≡ Some (shown 1 5 [] (i32 9 ∷ []) ∷ []) ∷ []
unfolding binary div_s rem_s
reply_taken_frames = refl

reply_taken_calls : map (λ r. r.served) (asked (nine ∷ [])) ≡ (record { call = read_call; reply = nine } ∷ []) ∷ []
unfolding binary div_s rem_s
reply_taken_calls = refl

reply_written : map (λ r. option_map (λ c. option_map (λ m. take 6 (drop 15 m.bytes)) c.world.memory) r.last) (asked (nine ∷ [])) ≡ Some (Some (0 ∷ 1 ∷ 2 ∷ 3 ∷ 4 ∷ 0 ∷ [])) ∷ []
unfolding binary div_s rem_s
reply_written = refl

no_reply_left : outcomes (asked []) ≡ lacks_reply read_call ∷ []
unfolding binary div_s rem_s
no_reply_left = refl

reply_of_other_type : outcomes (asked (wide ∷ [])) ≡ misfits read_call wide ∷ []
unfolding binary div_s rem_s
reply_of_other_type = refl

-- ---- a start function

start_traps : outcomes (run (program_of starts) false (f [] ∷ []) [] 1000 100) ≡ trapped 1 ∷ []
unfolding binary div_s rem_s
start_traps = refl

start_traps_frames : frames (run (program_of starts) false (f [] ∷ []) [] 1000 100) ≡ Some (shown 0 1 [] [] ∷ []) ∷ []
unfolding binary div_s rem_s
start_traps_frames = refl

-- and ends the list
start_traps_list : outcomes (run (program_of starts) false (f [] ∷ f [] ∷ []) [] 1000 100) ≡ trapped 1 ∷ []
unfolding binary div_s rem_s
start_traps_list = refl

-- ---- lists of invocations

two_divisions : outcomes (run (program_of divides) false (call (codes "div") (i32 7 ∷ i32 0 ∷ []) ∷ call (codes "div") (i32 8 ∷ i32 2 ∷ []) ∷ []) [] 1000 100) ≡ trapped 2 ∷ finished (Some (i32 4)) ∷ []
unfolding binary div_s rem_s
two_divisions = refl

abbrev twice : List Ran
twice = run (program_of counts) false (f [] ∷ f [] ∷ []) [] 1000 100

counted : outcomes twice ≡ trapped 1 ∷ trapped 1 ∷ []
unfolding binary div_s rem_s
counted = refl

counted_frames : frames twice ≡ Some (shown 0 8 [] [] ∷ []) ∷ Some (shown 0 8 [] [] ∷ []) ∷ []
unfolding binary div_s rem_s
counted_frames = refl

counted_globals : globals twice ≡ Some (i32 1 ∷ []) ∷ Some (i32 2 ∷ []) ∷ []
unfolding binary div_s rem_s
counted_globals = refl

deep_first : outcomes (deep (3 ∷ 2 ∷ [])) ≡ trapped 8 ∷ []
unfolding binary div_s rem_s
deep_first = refl

deep_last : outcomes (deep (2 ∷ 3 ∷ [])) ≡ trapped 5 ∷ trapped 8 ∷ []
unfolding binary div_s rem_s
deep_last = refl
