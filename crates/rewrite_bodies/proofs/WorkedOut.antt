-- Where a frame is left, locals are worked out again: each has the value already that it is set to.
use Rattle.std.proofs.Common.{◌≡◌, ℕ, zero, suc, ◌*◌, ◌≤◌, List, [], ◌∷◌, ◌++◌, length, Option, Some, None, true, refl, sym, ap, subst, arith, slice_get, slice_set}
use Rattle.wasm_syntax.specs.declared.value.Value.{Value}
use Rattle.wasm_syntax.specs.declared.instruction.Basic.{Basic}
use Rattle.wasm_syntax.specs.declared.instruction.Basic.TheVariants.{Nop, Drop, Select, LocalGet, LocalSet, LocalTee, GlobalGet, GlobalSet, Load, Store, MemorySize, MemoryGrow, MemoryCopy, MemoryFill, Const, Eqz, Unary, Compare, Binary, Convert, Extend32, Extend64}
use Rattle.wasm_syntax.specs.declared.value.ValType.{ValType}
use Rattle.wasm_syntax.specs.declared.host.CollectorCall.{CollectorCall}
use Rattle.wasm_syntax.specs.Tree.{Nodes, stop, basic, jump, block, loop, choose}
use Rattle.wasm_syntax.specs.declared.module.ModuleParts.{ModuleParts as Module}
use Rattle.wasm_syntax.specs.Module.{Program, Function, imported, defined, function_at}
use Rattle.wasm_syntax.specs.Host.{World}
use Rattle.wasm_syntax.specs.Effect.{takes, effect, gives}
use Rattle.wasm_syntax.specs.Machine.{Kind, Label, Frame, Engine, parts, cut}
use Rattle.rewrite_bodies.specs.calls.Slots.{Derivation, Ctx}
use Rattle.rewrite_bodies.specs.calls.Derived.{can_leave, Derived, AllDerived, DerivedAt, derived_of, offsets_at, offsets_of}
use Rattle.rewrite_bodies.specs.calls.Facts.{exposed_in, needs}
use Rattle.rewrite_bodies.specs.calls.Known.{nodes_of, nodes_in}
use Rattle.rewrite_bodies.specs.calls.Rewrite.{worked_out}
use Rattle.rewrite_bodies.specs.calls.Steps.{To, Shell, st}
use Rattle.rewrite_bodies.specs.calls.Agreement.{Doing, Wit, FitsFrame}
use Rattle.rewrite_bodies.proofs.Run.{get_own, still, seq, weaken, get_to, put_to}
use Rattle.rewrite_bodies.proofs.Parts.{step_plain}
use Rattle.rewrite_bodies.proofs.DerivedSteps.{all_derived_basic, all_derived_jump}

-- the locals that are worked out where this function is left have their values, and there are not many of them
pub record Ready (C : Ctx) (l : List Value) : Type 0 where
  pub derived : AllDerived l C.derivations
  pub few : 3 * length C.derivations ≤ length C.locals

pub frame_ready : {M : Engine} {E : ℕ} {gl : List ValType} {a : Doing} {F : Frame} {w : Wit} → FitsFrame M E gl a F w → AllDerived F.locals (derived_of M.program F.function) → Ready w.ctx F.locals
frame_ready {F = F} f h = record { derived = subst (AllDerived F.locals) (sym f.derivations) h; few = f.few }

set_same : (l : List Value) (x : ℕ) (v : Value) → slice_get l x ≡ Some v → slice_set l x v ≡ l
set_same [] x v e = refl
set_same (w ∷ l) zero v e = let z : v ≡ w = cc in ap (λ q. q ∷ l) z
set_same (w ∷ l) (suc x) v e = ap (λ q. w ∷ q) (set_same l x v e)

-- what works on two operands takes two
two_taken : (i : Basic) (w w' : World) (l l' ws : List Value) (a b : Value) → effect i w l (b ∷ a ∷ []) ≡ gives w' l' ws → takes i ≡ 2
two_taken Nop w w' l l' ws a b e = absurd (cc)
two_taken Drop w w' l l' ws a b e = absurd (cc)
two_taken Select w w' l l' ws a b e = absurd (cc)
two_taken (LocalGet x) w w' l l' ws a b e = absurd (cc)
two_taken (LocalSet x) w w' l l' ws a b e = absurd (cc)
two_taken (LocalTee x) w w' l l' ws a b e = absurd (cc)
two_taken (GlobalGet x) w w' l l' ws a b e = absurd (cc)
two_taken (GlobalSet x) w w' l l' ws a b e = absurd (cc)
two_taken (Load t align o) w w' l l' ws a b e = absurd (cc)
two_taken (Store t align o) w w' l l' ws a b e = refl
two_taken MemorySize w w' l l' ws a b e = absurd (cc)
two_taken MemoryGrow w w' l l' ws a b e = absurd (cc)
two_taken MemoryCopy w w' l l' ws a b e = absurd (cc)
two_taken MemoryFill w w' l l' ws a b e = absurd (cc)
two_taken (Const v) w w' l l' ws a b e = absurd (cc)
two_taken (Eqz t) w w' l l' ws a b e = absurd (cc)
two_taken (Unary t op) w w' l l' ws a b e = absurd (cc)
two_taken (Compare t op) w w' l l' ws a b e = refl
two_taken (Binary t op) w w' l l' ws a b e = refl
two_taken (Convert k) w w' l l' ws a b e = absurd (cc)
two_taken (Extend32 k) w w' l l' ws a b e = absurd (cc)
two_taken (Extend64 k) w w' l l' ws a b e = absurd (cc)

module _ (M' : Engine) where
  pub worked_to : {X : Shell} {g : World} {co : List CollectorCall} (l ex : List Value) (ds : List Derivation) (k : Nodes) → AllDerived l ds → To M' 0 (4 * length ds) (st X (l ++ ex) [] (worked_out ds k) g co) (st X (l ++ ex) [] k g co)
  worked_to l ex [] k h = weaken M' (still M' _) (omega arith) (omega arith)
  worked_to {X = X} {g = g} {co = co} l ex (d ∷ ds) k h =
      let v : Derived l d = h.0 in
      let tl = l ++ ex in
      let both : List Value = v.right ∷ v.left ∷ [] in
      let k4 = worked_out ds k in
      let two : cut (takes d.instruction) both ≡ parts both [] = ap (λ n. cut n both) (two_taken d.instruction g g tl tl (v.made ∷ []) v.left v.right (v.works g tl)) in
      let at : slice_get tl d.made ≡ Some v.made = get_own l ex d.made v.made v.at_made in
      let s4 : To M' 1 1 (st X tl (v.made ∷ []) (basic 0 (LocalSet d.made) k4) g co) (st X tl [] k4 g co) =
      subst (λ z. To M' 1 1 (st X tl (v.made ∷ []) (basic 0 (LocalSet d.made) k4) g co) (st X z [] k4 g co)) (set_same tl d.made v.made at) (put_to M' d.made v.made v.made at refl) in
      weaken M'
      (seq M' (get_to M' d.left v.left (get_own l ex d.left v.left v.at_left))
      (seq M' (get_to M' d.right v.right (get_own l ex d.right v.right v.at_right))
      (seq M' (step_plain M' d.instruction both [] tl g (v.made ∷ []) (v.made ∷ []) two (v.works g tl) refl) (seq M' s4 (worked_to l ex ds k h.1)))))
      (omega arith) (omega arith)

-- ---- at a node

-- an instruction at which the frame can be left stands where all that is worked out is there
abbrev pub LeftHere : Ctx → List Value → Nodes → Type 0
LeftHere C l (basic o i rest) = needs C o i ≡ true → Ready C l
LeftHere C l (jump o j rest) = Ready C l
LeftHere C l stop = Unit {0}
LeftHere C l (block o t inner en rest) = Unit {0}
LeftHere C l (loop o t inner en rest) = Unit {0}
LeftHere C l (choose o t a ea b en rest) = Unit {0}

pub left_here : (C : Ctx) (os : List ℕ) (ds : List Derivation) (l ops : List Value) (nodes : Nodes) (kd : Kind) (Ls : List Label) → C.exposed ≡ os → (AllDerived l ds → Ready C l) → DerivedAt os ds l ops nodes kd Ls → LeftHere C l nodes
left_here C os ds l ops stop kd Ls same ready h = tt
left_here C os ds l ops (basic o i rest) kd Ls same ready h = λ n. ready (all_derived_basic os ds l ops o i rest kd Ls (subst (λ z. can_leave z o i ≡ true) same n) h)
left_here C os ds l ops (jump o j rest) kd Ls same ready h = ready (all_derived_jump os ds l ops o j rest kd Ls h)
left_here C os ds l ops (block o t inner en rest) kd Ls same ready h = tt
left_here C os ds l ops (loop o t inner en rest) kd Ls same ready h = tt
left_here C os ds l ops (choose o t a ea b en rest) kd Ls same ready h = tt

offsets_at_is : (m : Module) (o : Option Function) → exposed_in m.memories (nodes_of o) ≡ offsets_at m o
offsets_at_is m None = refl
offsets_at_is m (Some (imported i type)) = refl
offsets_at_is m (Some (defined b tree type)) = refl

-- the offsets of the instructions that need a guard
pub offsets_is : (p : Program) (f : ℕ) → exposed_in p.module_.memories (nodes_in p f) ≡ offsets_of p f
offsets_is p f = offsets_at_is p.module_ (function_at p f)
