-- Lemmas of the code that goes through a body.
use Rattle.std.proofs.Common.{◌≡◌, ℕ, zero, suc, ◌+◌, ◌≤◌, List, [], ◌∷◌, ◌++◌, length, take, drop, reverse, refl, sym, ap, ◌∙◌, arith}
use Rattle.std.specs.Prelude.{Option, Some, None, slice_get, option_to_list}
use Rattle.wasm_syntax.specs.declared.value.ValType.{ValType}
use Rattle.wasm_syntax.specs.declared.value.ValType.TheVariants.{I32}
use Rattle.wasm_syntax.specs.declared.instruction.Basic.{Basic}
use Rattle.wasm_syntax.specs.declared.instruction.Op.{Op}
use Rattle.wasm_syntax.specs.declared.parts.FuncType.{FuncType}
use Rattle.wasm_syntax.specs.declared.parts.Body.{Body}
use Rattle.wasm_syntax.specs.declared.module.ModuleParts.{ModuleParts as Module}
use Rattle.wasm_syntax.specs.Module.{option_then}
use Rattle.wasm_syntax.specs.Tree.{placed, code_of, item_of, Tree, Writes}
use Rattle.wasm_syntax.specs.Typing.{Context, arrow, body_context, IsBody}
use Rattle.wasm_syntax.specs.Valid.{FirstWrong}
use Rattle.validate_body.specs.calls.Frames.{Frame}
use Rattle.validate_body.specs.calls.Algorithm.{apply, step_basic, step, run, start}
use Rattle.std.proofs.Common.{◌-◌, ◌<◌, get_or, drop-cons}
use Rattle.std.specs.Prelude.{◌&&◌}
use Rattle.wasm_syntax.specs.declared.instruction.Instr.{Instr}
use Rattle.wasm_syntax.specs.Module.{declared_locals}
use Rattle.validate_body.specs.calls.Frames.{label}
use Rattle.validate_body.specs.calls.Algorithm.{is_label, targets_fit}
use Rattle.validate_body.specs.inner.Steps.{HasShape, context_of}
use Rattle.std.proofs.Common.{subst}
use Rattle.validate_body.proofs.Same.{run_append, wrong_there, went}
use Rattle.wasm_laws.proofs.FlatBodies.{Gives}
use Rattle.validate_body.proofs.Arrows.{Steps, drops, selects, by_arrow, steps_of}

is_as : (c : Context) (fs : List Frame) (i : Basic) → Steps i → HasShape i → step_basic c fs i ≡ option_then (arrow c I32 i) (apply fs)
is_as c fs i drops h = absurd (h.0 refl)
is_as c fs i selects h = absurd (h.1 refl)
is_as c fs i (by_arrow one goes) h = goes c fs

pub basic_is : (c : Context) (fs : List Frame) (i : Basic) → HasShape i → step_basic c fs i ≡ option_then (arrow c I32 i) (apply fs)
basic_is c fs i h = is_as c fs i (steps_of i) h

-- ---- the first instructions, and the next one

pub take_next : (ts : List ℕ) (ops : List Op) (n : ℕ) (o : Op) → slice_get ops n ≡ Some o → code_of ts (take (n + 1) ops) ≡ code_of ts (take n ops) ++ placed o.at (item_of ts o.code) ∷ []
take_next ts [] n o e = absurd (cc)
take_next ts (p ∷ ps) zero o e = let q : p ≡ o = cc in ap (λ z. placed z.at (item_of ts z.code) ∷ []) q
take_next ts (p ∷ ps) (suc n) o e = let s : suc n + 1 ≡ suc (n + 1) = omega arith in rw s (ap (λ z. placed p.at (item_of ts p.code) ∷ z) (take_next ts ps n o e))

pub split_at : (ts : List ℕ) (ops : List Op) (n : ℕ) (o : Op) → slice_get ops n ≡ Some o → code_of ts ops ≡ code_of ts (take n ops) ++ placed o.at (item_of ts o.code) ∷ code_of ts (drop (n + 1) ops)
split_at ts [] n o e = absurd (cc)
split_at ts (p ∷ ps) zero o e = let q : p ≡ o = cc in ap (λ z. placed z.at (item_of ts z.code) ∷ code_of ts ps) q
split_at ts (p ∷ ps) (suc n) o e = let s : suc n + 1 ≡ suc (n + 1) = omega arith in rw s (ap (λ z. placed p.at (item_of ts p.code) ∷ z) (split_at ts ps n o e))

pub take_whole : (ops : List Op) (n : ℕ) → length ops ≤ n → take n ops ≡ ops
take_whole [] zero le = refl
take_whole [] (suc n) le = refl
take_whole (p ∷ ps) zero le = absurd (omega arith)
take_whole (p ∷ ps) (suc n) le = ap (λ z. p ∷ z) (take_whole ps n (omega arith))

pub run_next : (c : Context) (ts : List ℕ) (ops : List Op) (n : ℕ) (o : Op) (first fs new : List Frame) → slice_get ops n ≡ Some o → run c first (code_of ts (take n ops)) ≡ Some fs → step c fs (item_of ts o.code) ≡ Some new → run c first (code_of ts (take (n + 1) ops)) ≡ Some new
run_next c ts ops n o first fs new e r s =
    ap (λ z. run c first z) (take_next ts ops n o e)
    ∙ run_append c (code_of ts (take n ops)) (placed o.at (item_of ts o.code) ∷ []) first fs r
    ∙ ap (λ z. option_then z (λ gs. run c gs [])) s

pub wrong_next : (m : Module) (type : FuncType) (body : Body) (result : Option ValType) (n : ℕ) (o : Op) (fs : List Frame) → Gives type result → slice_get body.ops n ≡ Some o → run (body_context m type body) (start result) (code_of body.targets (take n body.ops)) ≡ Some fs → step (body_context m type body) fs (item_of body.targets o.code) ≡ None → FirstWrong m type body o.at
wrong_next m type body result n o fs g e r s =
    wrong_there m type body result (code_of body.targets (take n body.ops)) (placed o.at (item_of body.targets o.code)) (code_of body.targets (drop (n + 1) body.ops)) fs g (split_at body.targets body.ops n o e) r s

pub all_went : (m : Module) (type : FuncType) (body : Body) (result : Option ValType) (tree : Tree) (n : ℕ) (fs : List Frame) → Gives type result → Writes body.targets body.ops tree → length body.ops ≤ n → run (body_context m type body) (start result) (code_of body.targets (take n body.ops)) ≡ Some fs → IsBody m type body (code_of body.targets body.ops)
all_went m type body result tree n fs g w le r =
    went m type body result tree (code_of body.targets body.ops) fs g w (ap (λ z. run (body_context m type body) (start result) (code_of body.targets z)) (sym (take_whole body.ops n le)) ∙ r)

-- ---- the result of a function type

pub first_gives : (results : List ValType) → length results ≤ 1 → reverse results ≡ option_to_list (slice_get results 0)
first_gives [] le = refl
first_gives (t ∷ []) le = refl
first_gives (t ∷ u ∷ ts) le = absurd (omega arith)

-- ---- a body's own context

pub in_body : (m : Module) (type : FuncType) (body : Body) (fs : List Frame) (i : Instr) (locals results : List ValType) (targets : List ℕ) (new : Option (List Frame)) → locals ≡ type.params ++ declared_locals body.groups → results ≡ type.results → targets ≡ body.targets →
    step (context_of m locals results) fs (item_of targets i) ≡ new → step (body_context m type body) fs (item_of body.targets i) ≡ new
in_body m type body fs i locals results targets new e f g h =
    subst (λ x. step (body_context m type body) fs (item_of x i) ≡ new) g
    (subst (λ x. step (context_of m (type.params ++ declared_locals body.groups) x) fs (item_of targets i) ≡ new) f (subst (λ x. step (context_of m x results) fs (item_of targets i) ≡ new) e h))

-- ---- the targets of a `br_table`

pub target_next : (fs : List Frame) (t : Option ValType) (ts : List ℕ) (k n : ℕ) → k < length ts → 0 < n → targets_fit fs t (take n (drop k ts)) ≡ (is_label t (label fs (get_or ts k 0)) && targets_fit fs t (take (n - 1) (drop (k + 1) ts)))
target_next fs t ts k n h p =
    let e : n ≡ suc (n - 1) = omega (arith, p) in
    let q : suc k ≡ k + 1 = omega arith in
    ap (λ z. targets_fit fs t (take n z)) (drop-cons ts k 0 h)
    ∙ ap (λ j. targets_fit fs t (take j (get_or ts k 0 ∷ drop (suc k) ts))) e
    ∙ ap (λ j. is_label t (label fs (get_or ts k 0)) && targets_fit fs t (take (n - 1) (drop j ts))) q
