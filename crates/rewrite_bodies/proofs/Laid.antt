-- A body with its landings: how it is entered, how many landings there are, and that nothing else of the function changes with them.
use Rattle.std.proofs.Common.{◌≡◌, ℕ, ◌≤◌, nat_lt, List, [], ◌∷◌, length, Option, Some, None, Bool, true, false, refl, sym, ap, subst, arith, slice_get, length-append, ◌++◌}
use Rattle.std.proofs.lemmas.Bool.{ltb-true}
use Rattle.wasm_syntax.specs.declared.value.ValType.{ValType}
use Rattle.wasm_syntax.specs.declared.value.Value.{Value}
use Rattle.wasm_syntax.specs.declared.value.Value.TheVariants as values
use Rattle.wasm_syntax.specs.Numbers.{types}
use Rattle.wasm_syntax.specs.declared.instruction.Basic.{Basic}
use Rattle.wasm_syntax.specs.declared.parts.FuncType.{FuncType}
use Rattle.wasm_syntax.specs.Tree.{Jump, Unreachable, Br, BrIf, BrTable, Return, Call, CallIndirect, Nodes, stop, basic, jump, block, loop, choose}
use Rattle.wasm_syntax.specs.Module.{type_at}
use Rattle.wasm_syntax.specs.Host.{World}
use Rattle.wasm_syntax.specs.declared.host.CollectorCall.{CollectorCall}
use Rattle.wasm_syntax.specs.Effect.{takes}
use Rattle.wasm_syntax.specs.Machine.{Frame, leaves, returns, label, frame, config, Engine, result_of}
use Rattle.rewrite_bodies.specs.Numbering.{import_count, flag_of}
use Rattle.rewrite_bodies.specs.calls.Slots.{Place, Landing, Derivation, Ctx, less, pushed, grown, under, result_type, freed, after_plain, added, measured}
use Rattle.rewrite_bodies.specs.calls.Landings.{number_of, landing_behind, most_landings, at_end, unless_there, with_some, landing_call, landings_call, landings_jump, landings_from, landed, landing_at, part_of}
use Rattle.rewrite_bodies.specs.calls.Rewrite.{rewrite, landing_code, nested, exit_code, blocks, laid}
use Rattle.rewrite_bodies.specs.calls.Agreement.{l_labels, FitsIn, Room_call, Room_jump, Room, told_length, flagged}
use Rattle.rewrite_bodies.specs.calls.Steps.{To, Shell}
use Rattle.rewrite_bodies.proofs.Run.{still, one_step, seq, weaken}
use Rattle.rewrite_bodies.proofs.Told.{remeasured}
use Rattle.rewrite_bodies.proofs.Measures.{measure_to}
use Rattle.rewrite_bodies.proofs.Landed.{first_kind, l_below, l_head}
use Rattle.rewrite_bodies.proofs.Risks.{treated, result_alike, place_alike}

-- ---- not many

few_end : (b : Bool) (x : Landing) (xs : List Landing) → nat_lt (length xs) most_landings ≡ b → length xs ≤ most_landings → length (at_end b x xs) ≤ most_landings
few_end false x xs e le = le
few_end true x xs e le = omega (arith, length-append xs (x ∷ []), ltb-true (length xs) most_landings e)

few_unless : (q : Option ℕ) (x : Landing) (xs : List Landing) → length xs ≤ most_landings → length (unless_there q x xs) ≤ most_landings
few_unless None x xs le = few_end (nat_lt (length xs) most_landings) x xs refl le
few_unless (Some n) x xs le = le

few_some : (o : Option Landing) (xs : List Landing) → length xs ≤ most_landings → length (with_some o xs) ≤ most_landings
few_some None xs le = le
few_some (Some x) xs le = few_unless (number_of x xs) x xs le

few_call : (p : ℕ) (b : Bool) (es : List Place) (xs : List Landing) → length xs ≤ most_landings → length (landing_call p b es xs) ≤ most_landings
few_call p true es xs le = le
few_call p false es xs le = few_unless (number_of (landing_behind p es) xs) (landing_behind p es) xs le

few_called : (p : ℕ) (b : Bool) (o : Option FuncType) (es : List Place) (xs : List Landing) (go : List Place → List Landing → List Landing) → ((es' : List Place) (xs' : List Landing) → length xs' ≤ most_landings → length (go es' xs') ≤ most_landings) → length xs ≤ most_landings → length (landings_call p b o es xs go) ≤ most_landings
few_called p b None es xs go h le = le
few_called p b (Some type) es xs go h le = h (grown (result_of type) (less (length type.params) es)) (landing_call p b (less (length type.params) es) xs) (few_call p b (less (length type.params) es) xs le)

few_jump : (C : Ctx) (p : ℕ) (j : Jump) (es : List Place) (xs : List Landing) (go : List Place → List Landing → List Landing) → ((es' : List Place) (xs' : List Landing) → length xs' ≤ most_landings → length (go es' xs') ≤ most_landings) → length xs ≤ most_landings → length (landings_jump C p j es xs go) ≤ most_landings
few_jump C p Unreachable es xs go h le = le
few_jump C p (Br l) es xs go h le = le
few_jump C p (BrIf l) es xs go h le = h (less 1 es) xs le
few_jump C p (BrTable ts d) es xs go h le = le
few_jump C p Return es xs go h le = le
few_jump C p (Call f) es xs go h le = few_called p (nat_lt f (import_count C.source)) (type_at C.source f) es xs go h le
few_jump C p (CallIndirect t) es xs go h le = few_called p true (slice_get C.source.types t) (less 1 es) xs go h le

pub few_landings : (C : Ctx) (es : List Place) (nodes : Nodes) (xs : List Landing) → length xs ≤ most_landings → length (landings_from C es nodes xs) ≤ most_landings
few_landings C es stop xs le = le
few_landings C es (basic o i rest) xs le = few_landings C (after_plain C es i) rest (with_some (landing_at C o i es) xs) (few_some (landing_at C o i es) xs le)
few_landings C es (jump o j rest) xs le = few_jump C (part_of C.locals o) j es xs (λ es' xs'. landings_from C es' rest xs') (λ es' xs' le'. few_landings C es' rest xs' le') le
few_landings C es (block o t inner end rest) xs le = few_landings C (grown t (under es)) rest (landings_from C (under es) inner xs) (few_landings C (under es) inner xs le)
few_landings C es (loop o t inner end rest) xs le = few_landings C (grown t (under es)) rest (landings_from C (under es) inner xs) (few_landings C (under es) inner xs le)
few_landings C es (choose o t a ea b end rest) xs le =
    few_landings C (grown t (under (less 1 es))) rest (landings_from C (under (less 1 es)) b (landings_from C (under (less 1 es)) a xs)) (few_landings C (under (less 1 es)) b (landings_from C (under (less 1 es)) a xs) (few_landings C (under (less 1 es)) a xs le))

-- ---- the same room

module _ (C : Ctx) (os : List ℕ) (xs : List Landing) (ds : List Derivation) where
  abbrev D : Ctx
  D = landed C os xs ds

  pub same_at : (es : List Place) (i : Basic) → (result_type C es i ≡ result_type D es i) × (after_plain C es i ≡ after_plain D es i)
  same_at es i = (result_alike C D es i refl refl, ap (λ (p : Option Place). pushed p (freed i (less (takes i) es))) (place_alike C D es i (treated i) refl refl))

  fits_landed : (a : Option ValType) (es : List Place) → FitsIn C a es → FitsIn D a es
  fits_landed None es h = tt
  fits_landed (Some t) es h = h

  room_call : (o : Option FuncType) (es : List Place) (go go' : List Place → Type 0) → ((es' : List Place) → go es' → go' es') → Room_call C o es go → Room_call D o es go'
  room_call None es go go' f h = tt
  room_call (Some type) es go go' f h = (fits_landed (result_of type) (less (length type.params) es) h.0, f (grown (result_of type) (less (length type.params) es)) h.1)

  room_jump : (j : Jump) (es : List Place) (go go' : List Place → Type 0) → ((es' : List Place) → go es' → go' es') → Room_jump C j es go → Room_jump D j es go'
  room_jump Unreachable es go go' f h = tt
  room_jump (Br l) es go go' f h = tt
  room_jump (BrIf l) es go go' f h = f (less 1 es) h
  room_jump (BrTable ts d) es go go' f h = tt
  room_jump Return es go go' f h = tt
  room_jump (Call g) es go go' f h = room_call (type_at C.source g) es go go' f h
  room_jump (CallIndirect t) es go go' f h = (h.0, room_call (slice_get C.source.types t) (less 1 es) go go' f h.1)

  pub room_landed : (es : List Place) (nodes : Nodes) → Room C es nodes → Room D es nodes
  room_landed es stop h = h
  room_landed es (basic o i rest) h =
      let s = same_at es i in
      (h.0, h.1, subst (λ z. FitsIn D z (less (takes i) es)) s.0 (fits_landed (result_type C es i) (less (takes i) es) h.2), subst (λ z. Room D z rest) s.1 (room_landed (after_plain C es i) rest h.3))
  room_landed es (jump o j rest) h = (h.0, room_jump j es (λ es'. Room C es' rest) (λ es'. Room D es' rest) (λ es' r. room_landed es' rest r) h.1)
  room_landed es (block o t inner end rest) h = (h.0, room_landed (under es) inner h.1, fits_landed t (under es) h.2, room_landed (grown t (under es)) rest h.3)
  room_landed es (loop o t inner end rest) h = (h.0, room_landed (under es) inner h.1, fits_landed t (under es) h.2, room_landed (grown t (under es)) rest h.3)
  room_landed es (choose o t a ea b end rest) h =
      (h.0, room_landed (under (less 1 es)) a h.1, room_landed (under (less 1 es)) b h.2, fits_landed t (under (less 1 es)) h.3, room_landed (grown t (under (less 1 es))) rest h.4)

-- ---- into the blocks

module _ (M' : Engine) (f : ℕ) (r : Option ValType) (tl : List Value) (FR : List Frame) (g : World) (co : List CollectorCall) where
  pub nested_to : (C : Ctx) (xs : List Landing) (inner : Nodes) → To M' (length xs) (length xs) (config (frame f r 0 tl (label [] (nested C xs inner) 0 (leaves None) ∷ label [] (exit_code C) 0 (returns C.result) ∷ []) ∷ FR) g co) (config (frame f r 0 tl (label [] inner 0 (first_kind xs) ∷ l_below C xs) ∷ FR) g co)
  nested_to C [] inner = still M' _
  nested_to C (x ∷ xs) inner =
      let k = landing_code C (length xs) x in
      let s1 = nested_to C xs (block 0 x.carried inner 0 k) in
      let s2 : To M' 1 1 (config (frame f r 0 tl (label [] (block 0 x.carried inner 0 k) 0 (first_kind xs) ∷ l_below C xs) ∷ FR) g co) (config (frame f r 0 tl (label [] inner 0 (leaves x.carried) ∷ label [] k 0 (first_kind xs) ∷ l_below C xs) ∷ FR) g co) = one_step M' _ _ refl in
      subst (λ z. To M' (length (x ∷ xs)) (length (x ∷ xs)) (config (frame f r 0 tl (label [] (nested C (x ∷ xs) inner) 0 (leaves None) ∷ label [] (exit_code C) 0 (returns C.result) ∷ []) ∷ FR) g co) (config (frame f r 0 tl (label [] inner 0 (leaves x.carried) ∷ z) ∷ FR) g co)) (sym (l_head C k xs)) (weaken M' (seq M' s1 s2) (omega arith) (omega arith))

  pub into_body : (C : Ctx) (nodes : Nodes) → length C.landings ≤ most_landings → To M' 0 25 (config (frame f r 0 tl (label [] (blocks C nodes) 0 (returns C.result) ∷ []) ∷ FR) g co) (config (frame f r 0 tl (label [] (rewrite C 1 [] nodes) 0 (leaves C.result) ∷ l_labels C (jump 0 Return stop) C.landings) ∷ FR) g co)
  into_body C nodes few =
      let ret = jump 0 Return stop in
      let xs = C.landings in
      let inner = block 0 C.result (rewrite C 1 [] nodes) 0 ret in
      let s1 : To M' 1 1 (config (frame f r 0 tl (label [] (blocks C nodes) 0 (returns C.result) ∷ []) ∷ FR) g co) (config (frame f r 0 tl (label [] (nested C xs inner) 0 (leaves None) ∷ label [] (exit_code C) 0 (returns C.result) ∷ []) ∷ FR) g co) = one_step M' _ _ refl in
      let s2 = nested_to C xs inner in
      let s3 : To M' 1 1 (config (frame f r 0 tl (label [] inner 0 (first_kind xs) ∷ l_below C xs) ∷ FR) g co) (config (frame f r 0 tl (label [] (rewrite C 1 [] nodes) 0 (leaves C.result) ∷ label [] ret 0 (first_kind xs) ∷ l_below C xs) ∷ FR) g co) = one_step M' _ _ refl in
      subst (λ z. To M' 0 25 (config (frame f r 0 tl (label [] (blocks C nodes) 0 (returns C.result) ∷ []) ∷ FR) g co) (config (frame f r 0 tl (label [] (rewrite C 1 [] nodes) 0 (leaves C.result) ∷ z) ∷ FR) g co)) (sym (l_head C ret xs)) (weaken M' (seq M' s1 (seq M' s2 s3)) (omega arith) (omega (arith, few)))

-- into a function: the length of the memory is read in front
pub into_function : (M' M : Engine) (f : ℕ) (r : Option ValType) (FR : List Frame) (g : World) (co : List CollectorCall) (C : Ctx) (l ex : List Value) (nodes : Nodes) → length C.locals ≡ length l → types ex ≡ added C.slots → flag_of C.source ≡ length g.globals → length C.landings ≤ most_landings →
    To M' 0 27 (config (frame f r 0 (l ++ ex) (label [] (laid C nodes) 0 (returns C.result) ∷ []) ∷ FR) (flagged M g (values.I32 0)) co)
    (config (frame f r 0 (l ++ remeasured (measured C) C (told_length g.memory) ex) (label [] (rewrite C 1 [] nodes) 0 (leaves C.result) ∷ l_labels C (jump 0 Return stop) C.landings) ∷ FR) (flagged M g (values.I32 0)) co)
into_function M' M f r FR g co C l ex nodes size room fl few =
    let X : Shell = record { idx = f; result = r; kind = returns C.result; below = []; frames = FR } in
    let s1 = measure_to M' M C X l ex [] (blocks C nodes) g co (values.I32 0) size room fl (measured C) in
    let s2 = into_body M' f r (l ++ remeasured (measured C) C (told_length g.memory) ex) FR (flagged M g (values.I32 0)) co C nodes few in
    weaken M' (seq M' s1 s2) (omega arith) (omega arith)
