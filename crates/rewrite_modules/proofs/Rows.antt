-- Worked runs of rewritten modules, by computation: what the rewriting of a module hands over at a trap.
use Rattle.std.specs.Prelude.{◌≡◌, ℕ, ◌-◌, ◌^◌, List, [], ◌∷◌, map, Some, true, codes, refl}
use Rattle.int_ops.specs.Integers.{binary, compare, div_s, rem_s}
use Rattle.wasm_syntax.specs.declared.value.Value.{Value}
use Rattle.wasm_syntax.specs.declared.value.Value.TheVariants as values
use Rattle.wasm_syntax.specs.declared.module.ModuleParts.{ModuleParts as Module}
use Rattle.wasm_syntax.specs.declared.host.Reply.{Reply}
use Rattle.wasm_syntax.specs.declared.host.CollectorCall.{CollectorCall}
use Rattle.wasm_syntax.specs.declared.host.CollectorCall.TheVariants.{ValueI32, Frame}
use Rattle.wasm_syntax.specs.Run.{Outcome, finished, trapped, Ran, Invocation, run}
use Rattle.wasm_laws.proofs.RowModules.{program_of, divides, loads_word, nested, branches, calls_table, recurs, asks, fills, fills_none, copies, counts}
use Rattle.rewrite_modules.specs.calls.Instrument.{instrument}

abbrev call : List ℕ → List Value → Invocation
call name args = record { name = name; args = args }

abbrev i32s : List ℕ → List Value
i32s ns = map (λ n. values.I32 n) ns

-- the rewritten module, with these lists of arguments
abbrev other : Module → List ℕ → List (List ℕ) → List Reply → ℕ → List Ran
other m name args replies d = run (instrument (program_of m)) true (map (λ a. call name (i32s a)) args) replies d 1000

abbrev f : Module → List (List ℕ) → List Ran
f m args = other m (codes "f") args [] 1002

abbrev outcomes : List Ran → List Outcome
outcomes rs = map (λ r. r.outcome) rs

abbrev calls : List Ran → List (List CollectorCall)
calls rs = map (λ r. r.collected) rs

-- ---- arithmetic, and a list of two invocations

two_divisions : outcomes (other divides (codes "div") ((7 ∷ 0 ∷ []) ∷ (8 ∷ 2 ∷ []) ∷ []) [] 1002) ≡ trapped 1 ∷ finished (Some (values.I32 4)) ∷ []
unfolding binary compare div_s rem_s
two_divisions = refl

division_by_zero : calls (other divides (codes "div") ((7 ∷ 0 ∷ []) ∷ (8 ∷ 2 ∷ []) ∷ []) [] 1002) ≡ (ValueI32 7 ∷ ValueI32 0 ∷ ValueI32 7 ∷ ValueI32 0 ∷ Frame 2 0 5 2 ∷ Frame 255 0 0 0 ∷ []) ∷ [] ∷ []
unfolding binary compare div_s rem_s
division_by_zero = refl

overflow : calls (other divides (codes "div") (((2 ^ 31) ∷ (2 ^ 32 - 1) ∷ []) ∷ []) [] 1002) ≡ (ValueI32 (2 ^ 31) ∷ ValueI32 (2 ^ 32 - 1) ∷ ValueI32 (2 ^ 31) ∷ ValueI32 (2 ^ 32 - 1) ∷ Frame 3 0 5 2 ∷ Frame 255 0 0 0 ∷ []) ∷ []
unfolding binary compare div_s rem_s
overflow = refl

-- ---- memory

load_last : outcomes (f loads_word ((65532 ∷ []) ∷ [])) ≡ finished (Some (values.I32 0)) ∷ []
unfolding binary compare div_s rem_s
load_last = refl

load_past : calls (f loads_word ((65533 ∷ []) ∷ [])) ≡ (ValueI32 65533 ∷ ValueI32 65533 ∷ Frame 4 0 3 1 ∷ Frame 255 0 0 0 ∷ []) ∷ []
unfolding binary compare div_s rem_s
load_past = refl

fill_last : outcomes (f fills ((65532 ∷ []) ∷ [])) ≡ finished (Some (values.I32 117901063)) ∷ []
unfolding binary compare div_s rem_s
fill_last = refl

fill_past : calls (f fills ((65533 ∷ []) ∷ [])) ≡ (ValueI32 65533 ∷ ValueI32 7 ∷ ValueI32 4 ∷ ValueI32 65533 ∷ Frame 4 0 7 1 ∷ Frame 255 0 0 0 ∷ []) ∷ []
unfolding binary compare div_s rem_s
fill_past = refl

fill_none : outcomes (f fills_none ((65536 ∷ []) ∷ [])) ≡ finished (Some (values.I32 0)) ∷ []
unfolding binary compare div_s rem_s
fill_none = refl

fill_none_past : calls (f fills_none ((65537 ∷ []) ∷ [])) ≡ (ValueI32 65537 ∷ ValueI32 7 ∷ ValueI32 0 ∷ ValueI32 65537 ∷ Frame 4 0 7 1 ∷ Frame 255 0 0 0 ∷ []) ∷ []
unfolding binary compare div_s rem_s
fill_none_past = refl

copy_onto_itself : outcomes (f copies ((0 ∷ []) ∷ [])) ≡ finished (Some (values.I32 67305985)) ∷ []
unfolding binary compare div_s rem_s
copy_onto_itself = refl

-- ---- blocks and branches

inside_three_blocks : calls (f nested ([] ∷ [])) ≡ (ValueI32 1 ∷ ValueI32 2 ∷ ValueI32 3 ∷ Frame 1 0 13 0 ∷ Frame 255 0 0 0 ∷ []) ∷ []
unfolding binary compare div_s rem_s
inside_three_blocks = refl

branch_0 : calls (f branches ((0 ∷ []) ∷ [])) ≡ (ValueI32 10 ∷ ValueI32 57 ∷ ValueI32 0 ∷ Frame 1 0 27 1 ∷ Frame 255 0 0 0 ∷ []) ∷ []
unfolding binary compare div_s rem_s
branch_0 = refl

branch_default : calls (f branches ((5 ∷ []) ∷ [])) ≡ (ValueI32 10 ∷ ValueI32 7 ∷ ValueI32 5 ∷ Frame 1 0 27 1 ∷ Frame 255 0 0 0 ∷ []) ∷ []
unfolding binary compare div_s rem_s
branch_default = refl

-- ---- calls

table_0 : outcomes (f calls_table ((0 ∷ []) ∷ [])) ≡ finished (Some (values.I32 42)) ∷ []
unfolding binary compare div_s rem_s
table_0 = refl

table_past : calls (f calls_table ((5 ∷ []) ∷ [])) ≡ (ValueI32 5 ∷ ValueI32 5 ∷ Frame 5 1 3 1 ∷ Frame 255 0 0 0 ∷ []) ∷ []
unfolding binary compare div_s rem_s
table_past = refl

table_empty : calls (f calls_table ((2 ∷ []) ∷ [])) ≡ (ValueI32 2 ∷ ValueI32 2 ∷ Frame 6 1 3 1 ∷ Frame 255 0 0 0 ∷ []) ∷ []
unfolding binary compare div_s rem_s
table_empty = refl

table_other_type : calls (f calls_table ((1 ∷ []) ∷ [])) ≡ (ValueI32 1 ∷ ValueI32 1 ∷ Frame 7 1 3 1 ∷ Frame 255 0 0 0 ∷ []) ∷ []
unfolding binary compare div_s rem_s
table_other_type = refl

recursion : calls (other recurs (codes "f") ((2 ∷ []) ∷ []) [] 5) ≡ (ValueI32 9 ∷ ValueI32 0 ∷ Frame 5 0 8 1 ∷ ValueI32 1 ∷ Frame 0 0 17 1 ∷ ValueI32 2 ∷ Frame 0 0 17 1 ∷ Frame 255 0 0 0 ∷ []) ∷ []
unfolding binary compare div_s rem_s
recursion = refl

-- ---- host calls and globals

abbrev nine : Reply
nine = record { value = Some (values.I32 9); writes = record { at = 16; bytes = 1 ∷ 2 ∷ 3 ∷ 4 ∷ [] } ∷ [] }

behind_a_host_call : calls (other asks (codes "f") ([] ∷ []) (nine ∷ []) 1002) ≡ (ValueI32 9 ∷ Frame 1 1 5 0 ∷ Frame 255 0 0 0 ∷ []) ∷ []
unfolding binary compare div_s rem_s
behind_a_host_call = refl

counted : calls (f counts ([] ∷ [] ∷ [])) ≡ (Frame 1 0 8 0 ∷ ValueI32 1 ∷ Frame 255 0 0 1 ∷ []) ∷ (Frame 1 0 8 0 ∷ ValueI32 2 ∷ Frame 255 0 0 1 ∷ []) ∷ []
unfolding binary compare div_s rem_s
counted = refl
