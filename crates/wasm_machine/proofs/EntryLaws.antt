-- Entries, their arguments and the imports of their module.
use Rattle.std.proofs.Common.{◌≡◌, ℕ, zero, suc, List, [], ◌∷◌, map, refl, sym, ap, subst, ◌∙◌}
use Rattle.std.specs.Prelude.{Bool, true, false, slice_get, Option, Some, None, option_map}
use Rattle.wasm_syntax.specs.declared.value.ValType.{ValType}
use Rattle.wasm_syntax.specs.declared.value.ValType.TheVariants.{I32, I64}
use Rattle.wasm_syntax.specs.declared.value.Value.{Value}
use Rattle.wasm_syntax.specs.declared.parts.Import.{Import}
use Rattle.wasm_syntax.specs.declared.parts.FuncType.{FuncType}
use Rattle.wasm_syntax.specs.declared.module.ModuleParts.{ModuleParts as Module}
use Rattle.wasm_syntax.specs.Numbers.{types}
use Rattle.wasm_syntax.specs.Module.{same_types, type_at, function_export}
use Rattle.wasm_syntax.specs.Run.{cause_of_entry, if_fits, first_false}
use Rattle.machine_hosted.specs.calls.Settings.{Takes, ServesAll}
use Rattle.wasm_machine.specs.declared.entries.EntryFault.{EntryFault}
use Rattle.wasm_machine.specs.calls.Entries.{serves_type, is_served, first_unserved, unserved, fault_or, entry_fault}

-- ---- types of arguments

same_list : (ts us : List ValType) → same_types ts us ≡ true → us ≡ ts
same_list [] [] e = refl
same_list [] (u ∷ us) e = absurd (cc)
same_list (t ∷ ts) [] e = absurd (cc)
same_list (I32 ∷ ts) (I32 ∷ us) e = ap (λ z. I32 ∷ z) (same_list ts us e)
same_list (I32 ∷ ts) (I64 ∷ us) e = absurd (cc)
same_list (I64 ∷ ts) (I32 ∷ us) e = absurd (cc)
same_list (I64 ∷ ts) (I64 ∷ us) e = ap (λ z. I64 ∷ z) (same_list ts us e)

-- ---- no fault

-- the arguments are those of the function, and there is no other fault
takes_else : (m : Module) (f : ℕ) (args : List Value) (other : Option EntryFault) → fault_or (cause_of_entry m (Some f) args) other ≡ None → Takes m f args × (other ≡ None)
takes_else m f args other e = by_type (type_at m f) refl e
  where
    by_test : (type : FuncType) (b : Bool) → type_at m f ≡ Some type → same_types type.params (types args) ≡ b → fault_or (if_fits (Some b)) other ≡ None → Takes m f args × (other ≡ None)
    by_test type true at t e = ((type, at, same_list type.params (types args) t), e)
    by_test type false at t e = absurd (cc)

    by_type : (o : Option FuncType) → type_at m f ≡ o → fault_or (if_fits (option_map (λ type. same_types type.params (types args)) o)) other ≡ None → Takes m f args × (other ≡ None)
    by_type None at e = absurd (cc)
    by_type (Some type) at e = by_test type (same_types type.params (types args)) at refl e

none_unserved : (o : Option ℕ) → unserved o ≡ None → o ≡ None
none_unserved None e = refl
none_unserved (Some i) e = absurd (cc)

all_true : {A : Type 0} (test : A → Bool) (xs : List A) (n k : ℕ) (x : A) → first_false n (map test xs) ≡ None → slice_get xs k ≡ Some x → test x ≡ true
all_true test [] n k x e at = absurd (cc)
all_true {A = A} test (y ∷ ys) n k x e at = by_test (test y) refl e (λ j rest there. all_true test ys (suc n) j x rest there) k at
  where
    at_place : test y ≡ true → first_false (suc n) (map test ys) ≡ None → ((j : ℕ) → first_false (suc n) (map test ys) ≡ None → slice_get ys j ≡ Some x → test x ≡ true) → (k : ℕ) → slice_get (y ∷ ys) k ≡ Some x → test x ≡ true
    at_place t e others zero at = let same : y ≡ x = cc in subst (λ (z : A). test z ≡ true) same t
    at_place t e others (suc k) at = others k e at

    by_test : (b : Bool) → test y ≡ b → first_false n (b ∷ map test ys) ≡ None → ((j : ℕ) → first_false (suc n) (map test ys) ≡ None → slice_get ys j ≡ Some x → test x ≡ true) → (k : ℕ) → slice_get (y ∷ ys) k ≡ Some x → test x ≡ true
    by_test true t e others k at = at_place t e others k at
    by_test false t e others k at = absurd (cc)

all_served : (serving : Import → FuncType → Bool) (m : Module) → first_unserved serving m ≡ None → ServesAll serving m
all_served serving m e = λ f i type at typed. sym (ap (λ (o : Option FuncType). serves_type serving i o) typed) ∙ all_true (is_served serving m) m.imports 0 f i e at

-- an entry without a fault is the function that it names, which takes its arguments, and all imports are served
pub without_fault : (serving : Import → FuncType → Bool) (m : Module) (name : List ℕ) (args : List Value) (f : ℕ) → function_export m name ≡ Some f → entry_fault serving m name args ≡ None → Takes m f args × ServesAll serving m
without_fault serving m name args f at e =
    let k = takes_else m f args (unserved (first_unserved serving m)) (ap (λ (o : Option ℕ). fault_or (cause_of_entry m o args) (unserved (first_unserved serving m))) (sym at) ∙ e) in
    (k.0, all_served serving m (none_unserved (first_unserved serving m) k.1))
