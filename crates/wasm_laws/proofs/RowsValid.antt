-- A module that is valid, and one whose first invalid place is an instruction.
use Rattle.std.proofs.Common.{◌≡◌, ℕ, zero, suc, ◌-◌, ◌<◌, inl, inr, Bool, true, false, nat_lt, if◌then◌else◌, List, [], ◌∷◌, ◌++◌, reverse, Option, Some, None, refl, sym, ap, subst, ◌∙◌, arith, ltb-true}
use Rattle.std.specs.Prelude.{IfSome, codes}
use lib.Utf8.{encode}
use Rattle.wasm_syntax.specs.declared.value.ValType.{ValType}
use Rattle.wasm_syntax.specs.declared.value.ValType.TheVariants.{I32, I64}
use Rattle.int_ops.specs.declared.operators.Binary.TheVariants.{Add, DivS}
use Rattle.wasm_syntax.specs.declared.instruction.Basic.TheVariants.{LocalGet, Binary}
use Rattle.wasm_syntax.specs.declared.parts.FuncType.{FuncType}
use Rattle.wasm_syntax.specs.declared.parts.Body.{Body}
use Rattle.wasm_syntax.specs.declared.place.Place.{Place}
use Rattle.wasm_syntax.specs.declared.place.Place.TheVariants.{TypeAt, ImportAt, Declaration, TableAt, MemoryAt, GlobalAt, ExportAt, Start, ElementAt, DataAt, Function}
use Rattle.wasm_syntax.specs.declared.module.ModuleParts.{ModuleParts as Module}
use Rattle.wasm_syntax.specs.Tree.{Unreachable, Plain, End, Nodes, stop, basic, jump, Tree, Placed, placed, code_of}
use Rattle.wasm_syntax.specs.Typing.{Types, body_context, IsBody, BeginsBody, closing, ◌⇒◌}
use Rattle.wasm_syntax.specs.Valid.{There, Fine, Valid, Before, FirstInvalid, BodyFine, defined_index}
use Rattle.wasm_laws.proofs.Progress.{head}
use Rattle.wasm_laws.proofs.Unique.{one_tree}
use Rattle.wasm_syntax.specs.declared.host.Reply.{Reply}
use Rattle.wasm_syntax.specs.Module.{IsModule}
use Rattle.wasm_syntax.specs.Run.{Invocation, run}
use Rattle.wasm_laws.specs.calls.Runs.{NoneStuck}
use Rattle.wasm_laws.proofs.Never.{never_stuck}
use Rattle.wasm_laws.proofs.Validity.{startable}
use Rattle.wasm_laws.proofs.RowModules.{program_of, divides, divides_trees, adds_wide}
use Rattle.pm_text.proofs.Lists.{some_is}

abbrev two_one : FuncType
two_one = record { params = I32 ∷ I32 ∷ []; results = I32 ∷ [] }

abbrev first_body : Module → Body
first_body m = of m.bodies
  where
    of : List Body → Body
    of [] = record { groups = []; ops = []; targets = []; start = 0 }
    of (b ∷ bs) = b

abbrev gets : Nodes → Nodes
gets rest = basic 1 (LocalGet 0) (basic 3 (LocalGet 1) rest)

-- both get two i32s
divides_gets : (rest : Nodes) → Types (body_context divides two_one (first_body divides)) rest (I32 ∷ I32 ∷ []) (I32 ∷ []) → Types (body_context divides two_one (first_body divides)) (gets rest) [] (I32 ∷ [])
divides_gets rest h = (
  I32 ∷ [],
  record { any = I32; arrow_is = [] ⇒ I32 ∷ []; has = refl; above = record { below = []; takes = refl; gives = refl } },
  (
    I32 ∷ I32 ∷ [],
    record { any = I32; arrow_is = [] ⇒ I32 ∷ []; has = refl; above = record { below = I32 ∷ []; takes = refl; gives = refl } },
    h,
  ),
)

adds_gets : (rest : Nodes) → Types (body_context adds_wide two_one (first_body adds_wide)) rest (I32 ∷ I32 ∷ []) (I32 ∷ []) → Types (body_context adds_wide two_one (first_body adds_wide)) (gets rest) [] (I32 ∷ [])
adds_gets rest h = (
  I32 ∷ [],
  record { any = I32; arrow_is = [] ⇒ I32 ∷ []; has = refl; above = record { below = []; takes = refl; gives = refl } },
  (
    I32 ∷ I32 ∷ [],
    record { any = I32; arrow_is = [] ⇒ I32 ∷ []; has = refl; above = record { below = I32 ∷ []; takes = refl; gives = refl } },
    h,
  ),
)

-- ---- places without imports

index_is : (m : Module) (f : ℕ) → m.imports ≡ [] → defined_index m f ≡ Some f
index_is m f e = rw e (by_test (nat_lt f 0) refl)
  where
    by_test : (b : Bool) → nat_lt f 0 ≡ b → (if b then None else Some (f - 0)) ≡ Some f
    by_test true t = absurd (omega (arith, ltb-true f 0 t))
    by_test false t = let z : f - 0 ≡ f = omega arith in ap Some z

each_index : {A : Type 0} (xs : List A) (P : A → Type 0) → ((i : ℕ) → There xs i P) → (o : Option ℕ) → IfSome o (λ i. There xs i P)
each_index xs P h None = tt
each_index xs P h (Some i) = h i

-- ---- D is valid

divides_body : IsBody divides two_one (first_body divides) (code_of (first_body divides).targets (first_body divides).ops)
divides_body = record {
  tree = record { nodes = gets (basic 5 (Binary I32 DivS) stop); end = 6 };
  writes = record { arms = tt; out = refl };
  typed = divides_gets (basic 5 (Binary I32 DivS) stop) (I32 ∷ [], record { any = I32; arrow_is = I32 ∷ I32 ∷ [] ⇒ I32 ∷ []; has = refl; above = record { below = []; takes = refl; gives = refl } }, refl);
}

pub divides_valid : Valid divides
divides_valid (TypeAt zero) = omega arith
divides_valid (TypeAt (suc i)) = tt
divides_valid (ImportAt i) = tt
divides_valid (Declaration f) = each_index divides.functions (λ t. t < 1) (λ i. declared i) (defined_index divides f)
  where
    declared : (i : ℕ) → There (0 ∷ []) i (λ t. t < 1)
    declared zero = omega arith
    declared (suc i) = tt
divides_valid (TableAt i) = tt
divides_valid (MemoryAt i) = tt
divides_valid (GlobalAt i) = tt
divides_valid (ExportAt zero) = (omega arith, λ j f lt. absurd (omega (arith, lt)))
divides_valid (ExportAt (suc i)) = tt
divides_valid Start = tt
divides_valid (ElementAt i) = tt
divides_valid (DataAt i) = tt
divides_valid (Function zero offset) = (two_one, refl, divides_body)
divides_valid (Function (suc f) offset) = subst (λ o. IfSome o (λ i. There divides.bodies i (BodyFine divides (suc f)))) (sym (index_is divides (suc f) refl)) tt

-- ---- with `i64.add` its first invalid place is that instruction

abbrev code : List Placed
code = code_of (first_body adds_wide).targets (first_body adds_wide).ops

abbrev before : List Placed
before = placed 1 (Plain (LocalGet 0)) ∷ placed 3 (Plain (LocalGet 1)) ∷ []

begins : BeginsBody adds_wide two_one (first_body adds_wide) before
begins = record {
  tree = record { nodes = gets (jump 0 Unreachable stop); end = 0 };
  writes = record { arms = tt; out = refl };
  typed = adds_gets (jump 0 Unreachable stop) (I32 ∷ [], tt, refl);
}

abbrev IsI32 : ValType → Type 0
IsI32 I32 = Unit {0}
IsI32 I64 = ⊥

-- no types fit two i32s under an addition of i64s
wrong : (rest : Nodes) (start after : List ValType) → Types (body_context adds_wide two_one (first_body adds_wide)) (gets (basic 5 (Binary I64 Add) rest)) start after → ⊥
wrong rest start after h =
    let top : h.2.0 ≡ I32 ∷ h.2.1.above.below = h.2.1.above.gives ∙ ap (λ a. a.gives ++ h.2.1.above.below) (sym (some_is h.2.1.has)) in
    let add : h.2.0 ≡ I64 ∷ I64 ∷ h.2.2.1.above.below = h.2.2.1.above.takes ∙ ap (λ a. a.takes ++ h.2.2.1.above.below) (sym (some_is h.2.2.1.has)) in
    subst IsI32 (ap head (sym top ∙ add)) tt

begins_no_more : BeginsBody adds_wide two_one (first_body adds_wide) (before ++ placed 5 (Plain (Binary I64 Add)) ∷ []) → ⊥
begins_no_more h =
    let t : Tree = record { nodes = gets (basic 5 (Binary I64 Add) (jump 0 Unreachable stop)); end = 0 } in
    let e : h.tree ≡ t = one_tree (closing (before ++ placed 5 (Plain (Binary I64 Add)) ∷ [])) h.tree t h.writes (record { arms = tt; out = refl }) in
    wrong (jump 0 Unreachable stop) [] (I32 ∷ []) (subst (λ t. Types (body_context adds_wide two_one (first_body adds_wide)) t.nodes [] (I32 ∷ [])) e h.typed)

not_body : BodyFine adds_wide 0 (first_body adds_wide) → ⊥
not_body h =
    let t : Tree = record { nodes = gets (basic 5 (Binary I64 Add) stop); end = 6 } in
    let e : h.2.tree ≡ t = one_tree code h.2.tree t h.2.writes (record { arms = tt; out = refl }) in
    let k : h.0 ≡ two_one = some_is (sym h.1) in
    let typed : Types (body_context adds_wide two_one (first_body adds_wide)) h.2.tree.nodes [] (I32 ∷ []) = subst (λ u. Types (body_context adds_wide u (first_body adds_wide)) h.2.tree.nodes [] (reverse u.results)) k h.2.typed in
    wrong stop [] (I32 ∷ []) (subst (λ t. Types (body_context adds_wide two_one (first_body adds_wide)) t.nodes [] (I32 ∷ [])) e typed)

earlier : (other : Place) → Before other (Function 0 5) → Fine adds_wide other
earlier (TypeAt zero) b = omega arith
earlier (TypeAt (suc i)) b = tt
earlier (ImportAt i) b = tt
earlier (Declaration f) b = each_index adds_wide.functions (λ t. t < 1) (λ i. declared i) (defined_index adds_wide f)
  where
    declared : (i : ℕ) → There (0 ∷ []) i (λ t. t < 1)
    declared zero = omega arith
    declared (suc i) = tt
earlier (TableAt i) b = tt
earlier (MemoryAt i) b = tt
earlier (GlobalAt i) b = tt
earlier (ExportAt zero) b = (omega arith, λ j f lt. absurd (omega (arith, lt)))
earlier (ExportAt (suc i)) b = tt
earlier Start b = tt
earlier (ElementAt i) b = tt
earlier (DataAt i) b = tt
earlier (Function f offset) (inl lt) = absurd (omega (arith, lt))
earlier (Function f offset) (inr same) = absurd (omega (arith, same.1))

adds_wide_invalid : FirstInvalid adds_wide (Function 0 5)
adds_wide_invalid = record {
  not_fine = not_body;
  earlier = earlier;
  offset = (
    two_one,
    first_body adds_wide,
    refl,
    refl,
    record { before = before; code = Plain (Binary I64 Add); after = placed 6 End ∷ []; splits = refl; begins = begins; wrong = begins_no_more },
  );
}

-- ---- and both are what the type of a module keeps

divides_kept : IsModule divides
unfolding encode
divides_kept = record {
  trees = (program_of divides).trees;
  write = divides_trees;
  in_order = (record { offsets = (omega arith, (omega arith, (omega arith, (omega arith, tt)))); targets = refl }, tt);
  as_many = refl;
  globals = tt;
  elements = tt;
  segments = tt;
  import_modules = tt;
  import_names = tt;
  export_names = ((codes "div", (refl, refl)), tt);
  custom_names = tt;
}

-- so no run of it gets stuck
divides_never_stuck : (collecting : Bool) (invocations : List Invocation) (replies : List Reply) (depth n : ℕ) → NoneStuck (run (program_of divides) collecting invocations replies depth n)
divides_never_stuck collecting invocations replies depth n = never_stuck (program_of divides) (startable (program_of divides) divides_trees refl divides_valid) collecting invocations replies depth n
