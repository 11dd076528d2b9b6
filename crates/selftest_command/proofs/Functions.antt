-- The functions of a self-test are well typed.
use Rattle.std.proofs.Common.{◌≡◌, ℕ, zero, suc, ◌+◌, ◌*◌, ◌/◌, ◌%◌, ◌<◌, Bool, true, false, nat_lt, List, [], ◌∷◌, ◌++◌, length, replicate, slice_get, if◌then◌else◌, Some, None, option_map, refl, ap, ◌∙◌, ltb-true, arith}
use Rattle.std.specs.List.{flat_map, range_with_len}
use Rattle.int_ops.specs.declared.operators.Binary.{Binary as Operation}
use Rattle.int_ops.specs.declared.operators.Binary.TheVariants as ops
use Rattle.wasm_syntax.specs.declared.value.ValType.{ValType}
use Rattle.wasm_syntax.specs.declared.value.ValType.TheVariants.{I32}
use Rattle.wasm_syntax.specs.declared.value.Value.TheVariants as values
use Rattle.wasm_syntax.specs.declared.instruction.Store.TheVariants as stores
use Rattle.wasm_syntax.specs.declared.instruction.Basic.TheVariants as basics
use Rattle.wasm_syntax.specs.declared.instruction.Jump.TheVariants as jumps
use Rattle.wasm_syntax.specs.declared.instruction.Instr.{Instr}
use Rattle.wasm_syntax.specs.declared.instruction.Instr.TheVariants as instr
use Rattle.wasm_syntax.specs.declared.parts.FuncType.{FuncType}
use Rattle.wasm_syntax.specs.declared.parts.Limits.{Limits}
use Rattle.wasm_syntax.specs.declared.parts.Body.{Body}
use Rattle.wasm_syntax.specs.Access.{store_bits}
use Rattle.wasm_syntax.specs.Module.{InOrder, type_at}
use Rattle.wasm_syntax.specs.Tree.{Tree, Writes, code_of}
use Rattle.wasm_syntax.specs.Typing.{Context, ◌⇒◌, BasicTypes, IsBody, body_context, if_any, only_if, aligned}
use Rattle.selftest_command.specs.Selftest.{number, constant, local_get, add, mix, odd, mixed, beginning, mixing, ending, function_code, body_of, selftest}
use Rattle.selftest_command.proofs.Lines.{line, Moves, AllMove, move_append, line_types, line_is_tree, line_out, ascends, no_targets}

abbrev pub two_to_one : FuncType
two_to_one = record { params = I32 ∷ I32 ∷ []; results = I32 ∷ [] }

abbrev two : List ValType
two = I32 ∷ I32 ∷ []

-- ---- instructions

module _ (c : Context) (locals : c.locals ≡ two) (l : Limits) (memories : c.module_.memories ≡ l ∷ []) where
  get_moves : (x : ℕ) (s : List ValType) → slice_get two x ≡ Some I32 → BasicTypes c (basics.LocalGet x) s (I32 ∷ s)
  get_moves x s e = record {
    any = I32;
    arrow_is = [] ⇒ I32 ∷ [];
    has = ap (λ ls. option_map (λ u. [] ⇒ u ∷ []) (slice_get ls x)) locals ∙ ap (option_map (λ u. [] ⇒ u ∷ [])) e;
    above = record { below = s; takes = refl; gives = refl };
  }

  store_moves : (s : List ValType) → BasicTypes c (basics.Store (stores.Full I32) 2 0) (I32 ∷ I32 ∷ s) s
  store_moves s = record {
    any = I32;
    arrow_is = I32 ∷ I32 ∷ [] ⇒ [];
    has = ap (λ ms. if_any ms (only_if (aligned 2 (store_bits (stores.Full I32))) (Some (I32 ∷ I32 ∷ [] ⇒ [])))) memories;
    above = record { below = s; takes = refl; gives = refl };
  }

  const_moves : (v : ℕ) (s : List ValType) → BasicTypes c (basics.Const (values.I32 v)) s (I32 ∷ s)
  const_moves v s = record { any = I32; arrow_is = [] ⇒ I32 ∷ []; has = refl; above = record { below = s; takes = refl; gives = refl } }

  binary_moves : (op : Operation) (s : List ValType) → BasicTypes c (basics.Binary I32 op) (I32 ∷ I32 ∷ s) (I32 ∷ s)
  binary_moves op s = record { any = I32; arrow_is = I32 ∷ I32 ∷ [] ⇒ I32 ∷ []; has = refl; above = record { below = s; takes = refl; gives = refl } }

  mix_moves : (k : ℕ) (s : List ValType) → Moves c (mix k) (I32 ∷ I32 ∷ s) (I32 ∷ s)
  mix_moves zero s = binary_moves ops.Add s
  mix_moves (suc zero) s = binary_moves ops.Xor s
  mix_moves (suc (suc zero)) s = binary_moves ops.Mul s
  mix_moves (suc (suc (suc k))) s = binary_moves ops.Sub s

  beginning_moves : (i : ℕ) → AllMove c (beginning i) [] two
  beginning_moves i = (I32 ∷ [], const_moves (4 * i) [], (two, get_moves 0 (I32 ∷ []) refl, ([], store_moves [], (I32 ∷ [], get_moves 1 [] refl, (two, get_moves 0 (I32 ∷ []) refl, refl)))))

  mixed_moves : (r : ℕ) → AllMove c (mixed r) two two
  mixed_moves r = (I32 ∷ two, const_moves (odd r) two, (two, mix_moves (r / 65536 % 4) (I32 ∷ []), refl))

  mixing_moves : (n : ℕ) (ks : List ℕ) → AllMove c (flat_map (λ k. mixed (number n k)) ks) two two
  mixing_moves n [] = refl
  mixing_moves n (k ∷ ks) = move_append c (mixed (number n k)) (flat_map (λ k. mixed (number n k)) ks) two two two (mixed_moves (number n k)) (mixing_moves n ks)

  -- the next function has the type
  module _ (n : ℕ) (next_is : (f : ℕ) → f < n → type_at c.module_ f ≡ Some two_to_one) where
    ending_moves : (i : ℕ) → AllMove c (ending n i) two (I32 ∷ [])
    ending_moves i = by_test (nat_lt (i + 1) n) refl
      where
        by_test : (q : Bool) → nat_lt (i + 1) n ≡ q → AllMove c (if q then local_get 1 ∷ instr.Jump (jumps.Call (i + 1)) ∷ add ∷ [] else constant 0 ∷ instr.Basic (basics.Binary I32 ops.DivU) ∷ add ∷ []) two (I32 ∷ [])
        by_test true e =
            (I32 ∷ two, get_moves 1 two refl, (two, (two_to_one, next_is (i + 1) (ltb-true (i + 1) n e), record { below = I32 ∷ []; takes = refl; gives = refl }), (I32 ∷ [], binary_moves ops.Add [], refl)))
        by_test false e = (I32 ∷ two, const_moves 0 two, (two, binary_moves ops.DivU (I32 ∷ []), (I32 ∷ [], binary_moves ops.Add [], refl)))

    -- all but the last `end`
    abbrev front : ℕ → List Instr
    front i = beginning i ++ mixing n (16 * i + 1) ++ ending n i

    pub front_moves : (i : ℕ) → AllMove c (front i) [] (I32 ∷ [])
    front_moves i =
        move_append c (beginning i ++ mixing n (16 * i + 1)) (ending n i) [] two (I32 ∷ [])
        (move_append c (beginning i) (mixing n (16 * i + 1)) [] two two (beginning_moves i) (mixing_moves n (range_with_len (16 * i + 1) 16))) (ending_moves i)

-- ---- functions of the module

pub get_replicate : (n f : ℕ) → f < n → slice_get {X = ℕ} (replicate n 0) f ≡ Some 0
get_replicate zero f h = absurd (omega (arith, h))
get_replicate (suc n) zero h = refl
get_replicate (suc n) (suc f) h = get_replicate n f (omega (arith, h))

module _ (n : ℕ) where
  pub type_there : (f : ℕ) → f < n → type_at (selftest n) f ≡ Some two_to_one
  unfolding selftest
  type_there f h = rw (get_replicate n f h) refl

  abbrev pub front_of : ℕ → List Instr
  front_of i = beginning i ++ mixing n (16 * i + 1) ++ ending n i

  abbrev pub body_at : ℕ → Body
  body_at i = body_of (function_code n i)

  abbrev ctx : ℕ → Context
  ctx i = body_context (selftest n) two_to_one (body_at i)

  moves_at : (i : ℕ) → AllMove (ctx i) (front_of i) [] (I32 ∷ [])
  unfolding selftest
  moves_at i = front_moves (body_context (selftest n) two_to_one (body_at i)) refl (record { min = 1; max = None }) refl n type_there i

  abbrev pub tree_at : ℕ → Tree
  tree_at i = record { nodes = line 0 (front_of i); end = 0 + length (front_of i) }

  pub writes_at : (i : ℕ) → Writes [] (body_at i).ops (tree_at i)
  unfolding function_code
  writes_at i = record { arms = line_is_tree 0 (front_of i); out = line_out (ctx i) 0 (front_of i) [] (I32 ∷ []) (moves_at i) }

  pub body_typed : (i : ℕ) → IsBody (selftest n) two_to_one (body_at i) (code_of [] (body_at i).ops)
  body_typed i = record { tree = tree_at i; writes = writes_at i; typed = line_types (ctx i) 0 (front_of i) [] (I32 ∷ []) (moves_at i) }

  pub body_in_order : (i : ℕ) → InOrder (body_at i)
  unfolding function_code
  body_in_order i = record { offsets = ascends 0 (function_code n i); targets = no_targets (ctx i) 0 (front_of i) [] (I32 ∷ []) (moves_at i) }
