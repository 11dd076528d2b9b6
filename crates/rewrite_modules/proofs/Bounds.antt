-- The slots suffice.
use Rattle.std.proofs.Common.{◌≡◌, ℕ, ◌==◌, ◌≤◌, List, ◌∷◌, length, Option, Some, None, refl, subst, arith, slice_get, option_map}
use Rattle.std.proofs.lemmas.List.{length-map}
use Rattle.wasm_syntax.specs.declared.value.ValType.{ValType}
use Rattle.wasm_syntax.specs.declared.instruction.Basic.{Basic}
use Rattle.wasm_syntax.specs.declared.parts.FuncType.{FuncType}
use Rattle.wasm_syntax.specs.Tree.{Unreachable, Br, BrIf, BrTable, Return, Call, CallIndirect, Nodes, stop, basic, jump, block, loop, choose}
use Rattle.wasm_syntax.specs.Module.{type_at}
use Rattle.wasm_syntax.specs.Effect.{takes}
use Rattle.wasm_syntax.specs.Machine.{result_of}
use Rattle.rewrite_bodies.specs.calls.Slots.{Place, Spilled, place_type, Ctx, less, pushed, grown, uncopied, under, result_type, result_place, freed, after_plain, behind_call, peak, freed_at, local_written}
use Rattle.rewrite_bodies.specs.calls.Agreement.{FitsIn, Has, Room_call, Room}
use Rattle.rewrite_bodies.proofs.Sim.{room_height}
use Rattle.rewrite_bodies.proofs.TypedNodes.{result_is}
use Rattle.rewrite_bodies.specs.calls.Offsets.{SmallOffset}
use Rattle.rewrite_bodies.proofs.Risks.{result_alike}

fits_of : (C : Ctx) (a : Option ValType) (es : List Place) (code : Nodes) → Room C (grown a es) code → FitsIn C a es
fits_of C None es code r = tt
fits_of C (Some t) es code r = omega (arith, room_height C (Spilled t ∷ es) code r)

freed_length : (i : Basic) (es : List Place) → length (freed i es) ≡ length es
freed_length i es = by_local (local_written i)
  where
    by_local : (o : Option ℕ) → length (freed_at o es) ≡ length es
    by_local None = refl
    by_local (Some x) = length-map es (uncopied (λ y. x == y))

fits_plain : (C : Ctx) (i : Basic) (q : Option Place) (es : List Place) (code : Nodes) → Room C (pushed q (freed i es)) code → FitsIn C (option_map place_type q) es
fits_plain C i None es code r = tt
fits_plain C i (Some p) es code r = omega (arith, room_height C (p ∷ freed i es) code r, freed_length i es)

-- the offsets are small, and the types that are asked for have helpers
abbrev pub Static : List ℕ → Nodes → Type 0
Static hs stop = Unit {0}
Static hs (basic o i rest) = SmallOffset i × Static hs rest
Static hs (jump o (CallIndirect t) rest) = Has t hs × Static hs rest
Static hs (jump o j rest) = Static hs rest
Static hs (block o t inner en rest) = Static hs inner × Static hs rest
Static hs (loop o t inner en rest) = Static hs inner × Static hs rest
Static hs (choose o t a ea b en rest) = Static hs a × Static hs b × Static hs rest

abbrev pub with_slots : Ctx → ℕ → Ctx
with_slots C n = record { source = C.source; base = C.base; helpers = C.helpers; locals = C.locals; slots = n; index = C.index; result = C.result; landings = C.landings; exposed = C.exposed; derivations = C.derivations }

module _ (C : Ctx) (n : ℕ) where
  abbrev D : Ctx
  D = with_slots C n

  room_call : (q : Option FuncType) (es : List Place) (rest : Nodes) → ((es' : List Place) → peak C es' rest ≤ n → Room D es' rest) → behind_call q es (λ es'. peak C es' rest) ≤ n → Room_call D q es (λ es'. Room D es' rest)
  room_call None es rest ih h = tt
  room_call (Some type) es rest ih h = let r = ih (grown (result_of type) (less (length type.params) es)) h in (fits_of D (result_of type) (less (length type.params) es) rest r, r)

  same_type_ : (es : List Place) (i : Basic) → result_type D es i ≡ result_type C es i
  same_type_ es i = result_alike D C es i refl refl

  pub room_of : (nodes : Nodes) (es : List Place) → Static C.helpers nodes → peak C es nodes ≤ n → Room D es nodes
  room_of stop es s h = h
  room_of (basic o i rest) es s h =
      let r = room_of rest (after_plain C es i) s.1 (omega (arith, h)) in
      let left = less (takes i) es in
      let f : FitsIn D (result_type C es i) left = subst (λ q. FitsIn D q left) (result_is C es i) (fits_plain D i (result_place C es i) left rest r) in
      rw same_type_ (omega (arith, h), s.0, f, r)
  room_of (jump o Unreachable rest) es s h = (omega (arith, h), tt)
  room_of (jump o (Br l) rest) es s h = (omega (arith, h), tt)
  room_of (jump o (BrIf l) rest) es s h = (omega (arith, h), room_of rest (less 1 es) s (omega (arith, h)))
  room_of (jump o (BrTable ts d) rest) es s h = (omega (arith, h), tt)
  room_of (jump o Return rest) es s h = (omega (arith, h), tt)
  room_of (jump o (Call f) rest) es s h = (omega (arith, h), room_call (type_at C.source f) es rest (λ es' q. room_of rest es' s q) (omega (arith, h)))
  room_of (jump o (CallIndirect t) rest) es s h = (omega (arith, h), (s.0, room_call (slice_get C.source.types t) (less 1 es) rest (λ es' q. room_of rest es' s.1 q) (omega (arith, h))))
  room_of (block o a inner en rest) es s h =
      let r = room_of rest (grown a (under es)) s.1 (omega (arith, h)) in
      (omega (arith, h), room_of inner (under es) s.0 (omega (arith, h)), fits_of D a (under es) rest r, r)
  room_of (loop o a inner en rest) es s h =
      let r = room_of rest (grown a (under es)) s.1 (omega (arith, h)) in
      (omega (arith, h), room_of inner (under es) s.0 (omega (arith, h)), fits_of D a (under es) rest r, r)
  room_of (choose o a x ea y en rest) es s h =
      let left = under (less 1 es) in
      let r = room_of rest (grown a left) s.2 (omega (arith, h)) in
      (omega (arith, h), room_of x left s.0 (omega (arith, h)), room_of y left s.1 (omega (arith, h)), fits_of D a left rest r, r)
