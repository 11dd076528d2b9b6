-- One invocation by its wrapper.
use Rattle.rewrite_bodies.specs.calls.Landings.{landings_from, with_landings, landed}
use Rattle.rewrite_bodies.proofs.Laid.{few_landings, room_landed, into_function}
use Rattle.std.proofs.Common.{◌≡◌, ℕ, zero, suc, ◌+◌, ◌*◌, ◌<◌, ◌≤◌, List, [], ◌∷◌, ◌++◌, length, reverse, Option, Some, true, nat_lt, refl, sym, ap, ap₂, ◌∙◌, subst, subst₂, arith, append_assoc, append-nil, length-append, ◌⊎◌, inl, inr, slice_get, lt-ltb, mul-le-mul_right}
use Rattle.wasm_syntax.specs.declared.value.ValType.{ValType}
use Rattle.wasm_syntax.specs.declared.value.Value.{Value}
use Rattle.wasm_syntax.specs.declared.value.Value.TheVariants as values
use Rattle.wasm_syntax.specs.declared.instruction.Basic.TheVariants.{GlobalGet, GlobalSet}
use Rattle.wasm_syntax.specs.declared.parts.FuncType.{FuncType}
use Rattle.wasm_syntax.specs.declared.parts.Body.{Body}
use Rattle.wasm_syntax.specs.Numbers.{type_of, types}
use Rattle.wasm_syntax.specs.Tree.{Unreachable, Nodes, stop, basic, jump, Tree}
use Rattle.wasm_syntax.specs.declared.module.ModuleParts.{ModuleParts as Module}
use Rattle.wasm_syntax.specs.Module.{defined, function_at, declared_locals, same_types}
use Rattle.wasm_syntax.specs.Host.{World}
use Rattle.wasm_syntax.specs.declared.host.CollectorCall.{CollectorCall}
use Rattle.wasm_syntax.specs.declared.host.CollectorCall.TheVariants as collector_calls
use Rattle.wasm_syntax.specs.Machine.{returns, Config, label, frame, config, Engine, Stepped, next, ends, traps, no_reply, bad_reply, stuck, parts, cut, exactly, zeros, result_of, entered, step}
use Rattle.rewrite_bodies.specs.calls.Slots.{Ctx, added, ctx_of, measured}
use Rattle.rewrite_bodies.specs.Numbering.{mapped, frame_import, flag_of, global_types}
use Rattle.rewrite_bodies.specs.calls.Pieces.{const, i32, call, if_any, tree_of}
use Rattle.rewrite_bodies.specs.calls.Rewrite.{spare, body}
use Rattle.rewrite_bodies.specs.calls.Guards.{renew}
use Rattle.std.proofs.lemmas.List.{length-map, reverse-append, reverse-reverse, length-reverse}
use Rattle.rewrite_bodies.specs.calls.Steps.{went, run, Gets, To, Shell, st}
use Rattle.rewrite_bodies.proofs.Run.{still, one_step, seq, weaken, push_to, get_to}
use Rattle.rewrite_bodies.specs.calls.Agreement.{Wit, told_length, WorldFits, FitsConfig, Wrap, w_frame, zero_vs, last_of, flagged, image}
use Rattle.rewrite_bodies.proofs.Parts.{step_plain}
use Rattle.rewrite_bodies.proofs.Passing.{loosened}
use Rattle.dump_write.specs.Collected.{value_call}
use Rattle.rewrite_bodies.specs.calls.Telling.{tell_locals, tell_frames, collected}
use Rattle.rewrite_bodies.specs.calls.Standing.{Linked, Speaks, Stands}
use Rattle.rewrite_bodies.proofs.Sim.{len_of, wit, armed, if_zero_to, if_up_to}
use Rattle.rewrite_bodies.proofs.Told.{remeasured, types_told, has_told}
use Rattle.rewrite_bodies.proofs.Measures.{get_first, put_first, renew_to}
use Rattle.rewrite_bodies.proofs.Unwind.{value_to, entry_to, get_middle}
use Rattle.rewrite_bodies.proofs.Calls.{types-locals, new_locals}
use Rattle.wasm_syntax.specs.Run.{Ended, ended, run_on, run_steps}
use Rattle.rewrite_modules.specs.calls.Wrappers.{get_all, tell_globals, end_of_dump, after_wrapped, wrapper_nodes}
use Rattle.rewrite_modules.proofs.Runs.{ReachS, AllMade, run_sim}
use Rattle.wasm_laws.proofs.Progress.{zero_types}
use Rattle.wasm_syntax.proofs.Types.{same_types_refl}
use Rattle.rewrite_bodies.specs.calls.Facts.{exposed_in}
use Rattle.rewrite_bodies.specs.calls.Known.{nodes_of}
use Rattle.rewrite_bodies.proofs.KnownSteps.{begins_known}
use Rattle.rewrite_bodies.specs.calls.Derived.{derived_at}
use Rattle.rewrite_bodies.proofs.DerivedLaws.{derived_few}
use Rattle.rewrite_bodies.proofs.DerivedSteps.{derived_begins}

-- ---- runs by exact steps, and by steps left

abbrev pub Over : Stepped → Type 0
Over (next c) = ⊥
Over stuck = ⊥
Over (ends w vs co) = Unit {0}
Over (traps k c) = Unit {0}
Over (no_reply call c) = Unit {0}
Over (bad_reply call r c) = Unit {0}

module _ (M : Engine) where
  over_on : (k extra : ℕ) (q r : Stepped) → went M (run M k) k q ≡ r → Over r → ((c : Config) → run M k c ≡ r → run_steps M (k + extra) c ≡ ended r extra) → run_on M (run_steps M (k + extra)) (k + extra) q ≡ ended r extra
  over_on k extra (next c) r e o ih = ih c e
  over_on zero extra (ends w vs co) r e o ih = let z : 0 + extra ≡ extra = omega arith in ap₂ (λ a b. ended a b) e z
  over_on (suc k) extra (ends w vs co) r e o ih = absurd (subst Over (sym e) o)
  over_on zero extra (traps j c) r e o ih = let z : 0 + extra ≡ extra = omega arith in ap₂ (λ a b. ended a b) e z
  over_on (suc k) extra (traps j c) r e o ih = absurd (subst Over (sym e) o)
  over_on zero extra (no_reply cl c) r e o ih = let z : 0 + extra ≡ extra = omega arith in ap₂ (λ a b. ended a b) e z
  over_on (suc k) extra (no_reply cl c) r e o ih = absurd (subst Over (sym e) o)
  over_on zero extra (bad_reply cl rp c) r e o ih = let z : 0 + extra ≡ extra = omega arith in ap₂ (λ a b. ended a b) e z
  over_on (suc k) extra (bad_reply cl rp c) r e o ih = absurd (subst Over (sym e) o)
  over_on zero extra stuck r e o ih = let z : 0 + extra ≡ extra = omega arith in ap₂ (λ a b. ended a b) e z
  over_on (suc k) extra stuck r e o ih = absurd (subst Over (sym e) o)

  pub over : (k extra : ℕ) (c : Config) (r : Stepped) → run M k c ≡ r → Over r → run_steps M (k + extra) c ≡ ended r extra
  over zero extra c r e o = absurd (subst Over (sym e) o)
  over (suc k) extra c r e o =
      let z : suc k + extra ≡ suc (k + extra) = omega arith in
      ap (λ n. run_steps M n c) z ∙ over_on k extra (step M c) r e o (λ d h. over k extra d r h o)

  still_on : (k : ℕ) (q : Stepped) (c' : Config) → went M (run M k) k q ≡ next c' → ((c : Config) → run M k c ≡ next c' → run_steps M k c ≡ ended (next c') 0) → run_on M (run_steps M k) k q ≡ ended (next c') 0
  still_on k (next c) c' e ih = ih c e
  still_on zero (ends w vs co) c' e ih = absurd (cc)
  still_on (suc k) (ends w vs co) c' e ih = absurd (cc)
  still_on zero (traps j c) c' e ih = absurd (cc)
  still_on (suc k) (traps j c) c' e ih = absurd (cc)
  still_on zero (no_reply cl c) c' e ih = absurd (cc)
  still_on (suc k) (no_reply cl c) c' e ih = absurd (cc)
  still_on zero (bad_reply cl rp c) c' e ih = absurd (cc)
  still_on (suc k) (bad_reply cl rp c) c' e ih = absurd (cc)
  still_on zero stuck c' e ih = absurd (cc)
  still_on (suc k) stuck c' e ih = absurd (cc)

  pub still_going : (k : ℕ) (c c' : Config) → run M k c ≡ next c' → run_steps M k c ≡ ended (next c') 0
  still_going zero c c' e = ap (λ z. ended z 0) e
  still_going (suc k) c c' e = still_on k (step M c) c' e (λ d h. still_going k d c' h)

-- ---- a wrapper

cut_whole : (m : ℕ) (vs : List Value) → length vs ≡ m → cut m vs ≡ parts vs []
cut_whole zero [] e = refl
cut_whole zero (v ∷ vs) e = absurd (omega arith)
cut_whole (suc m) [] e = absurd (omega arith)
cut_whole (suc m) (v ∷ vs) e = let z : length vs ≡ m = omega arith in rw (cut_whole m vs z) refl

get_here : (done todo : List Value) (v : Value) → slice_get (done ++ v ∷ todo) (length done) ≡ Some v
get_here [] todo v = refl
get_here (u ∷ done) todo v = get_here done todo v

back_on : List Value → List Value → List Value
back_on [] acc = acc
back_on (v ∷ vs) acc = back_on vs (v ∷ acc)

back_is : (vs acc : List Value) → back_on vs acc ≡ reverse vs ++ acc
unfolding back_on
back_is [] acc = refl
back_is (v ∷ vs) acc = back_is vs (v ∷ acc) ∙ sym (append_assoc (reverse vs) (v ∷ []) acc) ∙ ap (λ z. z ++ acc) (sym (reverse-append (v ∷ []) vs))

module _ (M' : Engine) where
  gets_to : {X : Shell} {g : World} {co : List CollectorCall} (todo done acc : List Value) (k : Nodes) → To M' 0 (length todo) (st X (done ++ todo) acc (get_all (length done) (length todo) k) g co) (st X (done ++ todo) (back_on todo acc) k g co)
  unfolding back_on
  gets_to [] done acc k = weaken M' (still M' _) (omega arith) (omega arith)
  gets_to {X = X} {g = g} {co = co} (v ∷ todo) done acc k =
      let n : length (done ++ v ∷ []) ≡ suc (length done) = omega (arith, length-append done (v ∷ [])) in
      let rest : To M' 0 (length todo) (st X (done ++ v ∷ todo) (v ∷ acc) (get_all (suc (length done)) (length todo) k) g co) (st X (done ++ v ∷ todo) (back_on todo (v ∷ acc)) k g co) =
      rw (append_assoc done (v ∷ []) todo, n) at (gets_to {X = X} {g = g} {co = co} todo (done ++ v ∷ []) (v ∷ acc) k) in
      weaken M' (seq M' (get_to M' (length done) v (get_here done todo v)) (seq M' {y = st X (done ++ v ∷ todo) (v ∷ acc) (get_all (suc (length done)) (length todo) k) g co} (still M' _) rest)) (omega arith) (omega arith)

  module _ (m : Module) (sp : Speaks M' m) where
    globals_to : {X : Shell} {tl : List Value} {co : List CollectorCall} (G : World) (todo done bs : List Value) (k : Nodes) → G.globals ≡ (done ++ todo) ++ bs → To M' 0 (2 * length todo) (st X tl [] (tell_globals m (length done) (types todo) k) G co) (st X tl [] k G (tell_locals todo co))
    globals_to G [] done bs k e = weaken M' (still M' _) (omega arith) (omega arith)
    globals_to {X = X} {tl = tl} {co = co} G (v ∷ todo) done bs k e =
        let n : length (done ++ v ∷ []) ≡ suc (length done) = omega (arith, length-append done (v ∷ [])) in
        let rest : To M' 0 (2 * length todo) (st X tl [] (tell_globals m (suc (length done)) (types todo) k) G (value_call v ∷ co)) (st X tl [] k G (tell_locals todo (value_call v ∷ co))) =
        rw n at (globals_to {X = X} {tl = tl} {co = value_call v ∷ co} G todo (done ++ v ∷ []) bs k (e ∙ ap (λ z. z ++ bs) (sym (append_assoc done (v ∷ []) todo)))) in
        weaken M' (seq M' (step_plain M' (GlobalGet (length done)) [] [] tl G (v ∷ []) (v ∷ []) refl (rw (e, get_middle done todo bs v) refl) refl) (seq M' (value_to M' m sp (type_of v) v refl) rest)) (omega arith) (omega arith)

module _ (M M' : Engine) (E : ℕ) (gl : List ValType) (S : Stands M M' E gl) (gm : gl ≡ global_types M.program.module_) where
  abbrev pub m : Module
  m = M.program.module_

  pub flag_at : (g : World) → WorldFits M gl g → flag_of m ≡ length g.globals
  flag_at g wf = sym (length-map m.globals (λ g. g.vtype)) ∙ len_of g.globals (global_types m) (wf.globals ∙ gm)

  -- the wrapper's end at a trap, with the flag down
  pub trap_end : (W : Wrap) (zs : List Value) (g : World) (co : List CollectorCall) → W.rest ≡ after_wrapped m → WorldFits M gl g → (c : Config) × (c.world ≡ flagged M g (values.I32 0)) × (c.collected ≡ collector_calls.Frame 255 0 0 (length g.globals) ∷ tell_locals g.globals co) × Gets M' 1 (2 * length gl + 17) (config (w_frame W zs ∷ []) (flagged M g (values.I32 1)) co) (traps 1 c)
  trap_end W zs g co wr wf =
      let X : Shell = record { idx = W.idx; result = W.result; kind = returns W.result; below = []; frames = [] } in
      let X1 = armed X stop zs in
      let g1 = flagged M g (values.I32 1) in
      let n = length m.globals in
      let bytes = values.I64 (told_length g.memory) ∷ [] in
      let fl = flag_at g wf in
      let ty = wf.globals ∙ gm in
      let g0 = flagged M g (values.I32 0) in
      let k5 = basic 0 (GlobalSet (flag_of m)) (jump 0 Unreachable stop) in
      let k4 = call (frame_import m) (const (i32 0) k5) in
      let k3 = const (i32 255) (const (i32 0) (const (i32 0) (const (i32 n) k4))) in
      let co1 = tell_locals g.globals co in
      let s1 : To M' 1 1 (st X W.locals zs (after_wrapped m) g1 co) (st X W.locals (values.I32 1 ∷ zs) (if_any (end_of_dump m) stop) g1 co) = step_plain M' (GlobalGet (flag_of m)) [] zs W.locals g1 (values.I32 1 ∷ []) (values.I32 1 ∷ zs) refl (rw (get_first g.globals (flag_of m) (values.I32 1) bytes fl) refl) refl in
      let s3 : To M' 0 (2 * length g.globals) (st X1 W.locals [] (end_of_dump m) g1 co) (st X1 W.locals [] k3 g1 co1) =
      subst (λ z. To M' 0 (2 * length g.globals) (st X1 W.locals [] (tell_globals m 0 z k3) g1 co) (st X1 W.locals [] k3 g1 co1)) ty (globals_to M' m S.speaks g1 g.globals [] (values.I32 1 ∷ bytes) k3 refl) in
      let co2 = collector_calls.Frame 255 0 0 n ∷ co1 in
      let last = st X1 W.locals [] (jump 0 Unreachable stop) g0 co2 in
      let s4 : To M' 5 5 (st X1 W.locals [] k3 g1 co1) (st X1 W.locals [] (const (i32 0) k5) g1 co2) = seq M' (push_to M' (values.I32 255)) (seq M' (push_to M' (values.I32 0)) (seq M' (push_to M' (values.I32 0)) (seq M' (push_to M' (values.I32 n)) (entry_to M' m S.speaks 255 0 0 n)))) in
      let s5 : To M' 1 1 (st X1 W.locals [] (const (i32 0) k5) g1 co2) (st X1 W.locals (values.I32 0 ∷ []) k5 g1 co2) = push_to M' (values.I32 0) in
      let s6 : To M' 1 1 (st X1 W.locals (values.I32 0 ∷ []) k5 g1 co2) last = step_plain M' (GlobalSet (flag_of m)) (values.I32 0 ∷ []) [] W.locals g0 [] [] refl (rw (get_first g.globals (flag_of m) (values.I32 1) bytes fl, put_first g.globals (flag_of m) (values.I32 1) (values.I32 0) bytes fl) refl) refl in
      let s7 : Gets M' 1 1 last (traps 1 last) = one_step M' _ _ refl in
      let lg : length g.globals ≡ length gl = sym (len_of g.globals gl wf.globals) in
      (last, refl, ap (λ z. collector_calls.Frame 255 0 0 z ∷ co1) fl, rw wr (weaken M' (seq M' s1 (seq M' (if_up_to M' 0) (seq M' s3 (seq M' s4 (seq M' s5 (seq M' s6 s7)))))) (omega arith) (omega (arith, lg))))

  -- and where the run has ended
  pub good_end : (W : Wrap) (vs : List Value) (g : World) (co : List CollectorCall) → W.rest ≡ after_wrapped m → WorldFits M gl g → exactly W.result vs ≡ Some vs → Gets M' 1 4 (config (w_frame W (vs ++ []) ∷ []) (flagged M g (values.I32 0)) co) (ends (flagged M g (values.I32 0)) vs co)
  good_end W vs g co wr wf x =
      let X : Shell = record { idx = W.idx; result = W.result; kind = returns W.result; below = []; frames = [] } in
      let g0 = flagged M g (values.I32 0) in
      let s1 : To M' 1 1 (st X W.locals vs (after_wrapped m) g0 co) (st X W.locals (values.I32 0 ∷ vs) (if_any (end_of_dump m) stop) g0 co) = step_plain M' (GlobalGet (flag_of m)) [] vs W.locals g0 (values.I32 0 ∷ []) (values.I32 0 ∷ vs) refl (rw (get_first g.globals (flag_of m) (values.I32 0) (values.I64 (told_length g.memory) ∷ []) (flag_at g wf)) refl) refl in
      let s3 : Gets M' 1 1 (st X W.locals vs stop g0 co) (ends g0 vs co) = one_step M' _ _ (rw x refl) in
      rw (wr, append-nil) (weaken M' (seq M' s1 (seq M' (if_zero_to M') s3)) (omega arith) (omega arith))

  -- how the new module's run stands for the old one's: with any flag that it leaves, but with the flag down where it trapped
  abbrev pub Stood : (ℕ → Ended) → ℕ → Stepped → Type 0
  Stood go made (next c) = (n : ℕ) × (made ≤ n) × (n ≤ (made + 1) * E) × (c' : Config) × (go n ≡ ended (next c') 0) × (up : ℕ) × (c'.world ≡ flagged M c.world (values.I32 up)) × (c'.collected ≡ []) × WorldFits M gl c.world
  Stood go made (ends w vs co) = (n : ℕ) × (made ≤ n) × (n ≤ (made + 1) * E) × (up : ℕ) × ((extra : ℕ) → go (n + extra) ≡ ended (ends (flagged M w (values.I32 up)) vs []) extra) × WorldFits M gl w × (co ≡ [])
  Stood go made (traps j c) = (j ≡ 8) ⊎ (n : ℕ) × (made ≤ n) × (n ≤ (2 * made + 2) * E) × (c' : Config) × ((extra : ℕ) → go (n + extra) ≡ ended (traps 1 c') extra) × (c'.world ≡ flagged M c.world (values.I32 0)) × (c'.collected ≡ collected j c) × (c.collected ≡ []) × WorldFits M gl c.world × (wr : Option ValType) × (ws : List Wit) × FitsConfig M E gl wr c ws × (length c.frames ≤ M.depth) × (1 ≤ j) × (j ≤ 8)
  Stood go made (no_reply call c) = (n : ℕ) × (made ≤ n) × (n ≤ (made + 1) * E) × (c' : Config) × ((extra : ℕ) → go (n + extra) ≡ ended (no_reply call c') extra) × (up : ℕ) × (c'.world ≡ flagged M c.world (values.I32 up)) × (c'.collected ≡ []) × WorldFits M gl c.world
  Stood go made (bad_reply call r c) = (n : ℕ) × (made ≤ n) × (n ≤ (made + 1) * E) × (c' : Config) × ((extra : ℕ) → go (n + extra) ≡ ended (bad_reply call r c') extra) × (up : ℕ) × (c'.world ≡ flagged M c.world (values.I32 up)) × (c'.collected ≡ []) × WorldFits M gl c.world
  Stood go made stuck = Unit {0}

  -- ---- one invocation, from any worlds that agree but for the flag

  module _ (deep : 0 < M.depth) (f : ℕ) (b : Body) (tree : Tree) (type : FuncType) (at : function_at M.program f ≡ Some (defined b tree type)) (args : List Value) (ty : types args ≡ type.params) (g : World) (wf : WorldFits M gl g) (up : ℕ) (wi : ℕ) (wb : Body) (none : declared_locals wb.groups ≡ []) (roomy : 4 * length type.params + 2 * length gl + 60 ≤ E) where
    abbrev pub k : Linked M M' E gl f b tree type
    k = S.functions f b tree type at

    abbrev pub C : Ctx
    C = ctx_of M.program f b type k.slots

    abbrev pub W : Wrap
    W = record { idx = wi; result = result_of type; locals = args; rest = after_wrapped m }

    -- with its landings
    abbrev pub D : Ctx
    D = with_landings C tree.nodes

    abbrev pub w0 : Wit
    w0 = wit D (remeasured (measured D) D (told_length g.memory) (zeros (added k.slots))) ([] ∷ [])

    abbrev pub wtree : Tree
    wtree = tree_of (wrapper_nodes m f (length type.params))

    abbrev pub source : Config
    source = config (entered f b tree type args ∷ []) g []

    abbrev pub target : Config
    target = config (entered wi wb wtree type args ∷ []) (flagged M g (values.I32 up)) []

    pub fits : FitsConfig M E gl W.result source (w0 ∷ [])
    fits = (wf, (record { size = types-locals args type.params (declared_locals b.groups) ty; room = types_told (measured D) D (told_length g.memory) (zeros (added k.slots)) (zero_types (added k.slots)) ∙ zero_types (added k.slots); idx = refl; result = refl; funcs = refl; base = refl; helpers = refl; flag = sym gm; small = k.small; exposed = ap (λ q. exposed_in m.memories (nodes_of q)) (sym at); derivations = ap (derived_at m f) (sym at); few = derived_few m f C.locals tree.nodes; narrow = k.narrow; labels = (loosened D (spare D tree.nodes) (args ++ zeros (declared_locals b.groups)) w0.ex [] [] [] tt, has_told D (told_length g.memory) (zeros (added k.slots)) (zero_types (added k.slots)), room_landed C (exposed_in m.memories tree.nodes) (landings_from (landed C (exposed_in m.memories tree.nodes) [] []) [] tree.nodes []) D.derivations [] tree.nodes k.room, refl, tt); no_kind = tt }, refl), begins_known M f b tree type args g [] at wf.least, derived_begins M f b tree type args g [] at (sym (len_of args type.params ty)))

    pub begin : To M' 1 (length type.params + 38) target (image M W source (w0 ∷ []))
    begin =
        let X : Shell = record { idx = wi; result = result_of type; kind = returns (result_of type); below = []; frames = [] } in
        let n = length type.params in
        let gu = flagged M g (values.I32 up) in
        let g0 = flagged M g (values.I32 0) in
        let kc = call (mapped m f) (after_wrapped m) in
        let kg = get_all 0 (length type.params) kc in
        let bytes = values.I64 (told_length g.memory) ∷ [] in
        let ex = zeros (added k.slots) in
        let len : n ≡ length args = len_of args type.params ty in
        let fl = flag_at g wf in
        let noted : entered wi wb wtree type args ≡ frame wi (result_of type) 0 args (label [] wtree.nodes 0 (returns (result_of type)) ∷ []) = ap (λ z. frame wi (result_of type) 0 z (label [] wtree.nodes 0 (returns (result_of type)) ∷ [])) (ap (λ z. args ++ zeros z) none ∙ append-nil args) in
        let s1 : To M' 1 1 (st X args [] wtree.nodes gu []) (st X args (values.I32 0 ∷ []) (basic 0 (GlobalSet (flag_of m)) (renew m kg)) gu []) = push_to M' (values.I32 0) in
        let s2 : To M' 1 1 (st X args (values.I32 0 ∷ []) (basic 0 (GlobalSet (flag_of m)) (renew m kg)) gu []) (st X args [] (renew m kg) g0 []) = step_plain M' (GlobalSet (flag_of m)) (values.I32 0 ∷ []) [] args g0 [] [] refl (rw (get_first g.globals (flag_of m) (values.I32 up) bytes fl, put_first g.globals (flag_of m) (values.I32 up) (values.I32 0) bytes fl) refl) refl in
        let s2b : To M' 0 7 (st X args [] (renew m kg) g0 []) (st X args [] kg g0 []) = renew_to M' M m X args [] kg g [] (values.I32 0) fl m.memories wf.least wf.memory in
        let s3 : To M' 0 n (st X args [] (get_all 0 n kc) g0 []) (st X args (reverse args) kc g0 []) =
        subst₂ (λ n a. To M' 0 n (st X args [] (get_all 0 n kc) g0 []) (st X args a kc g0 [])) (sym len) (back_is args [] ∙ append-nil (reverse args)) (gets_to M' args [] [] kc) in
        let caller = frame wi (result_of type) 0 args (label [] (after_wrapped m) 0 (returns (result_of type)) ∷ []) in
        let mid = config (frame (mapped m f) (result_of type) 0 ((args ++ zeros (declared_locals b.groups)) ++ ex) (label [] (body C tree.nodes) 0 (returns (result_of type)) ∷ []) ∷ caller ∷ []) g0 [] in
        let depth : nat_lt 1 M'.depth ≡ true = rw S.deeper (lt-ltb 1 (suc (suc M.depth)) (omega arith)) in
        let whole : cut n (reverse args) ≡ parts (reverse args) [] = cut_whole n (reverse args) (length-reverse args ∙ sym len) in
        let twice = reverse-reverse args in
        let tys : same_types (types args) type.params ≡ true = ap (λ z. same_types z type.params) ty ∙ same_types_refl type.params in
        let locals : args ++ zeros (declared_locals k.new.groups) ≡ (args ++ zeros (declared_locals b.groups)) ++ ex = new_locals args (declared_locals k.new.groups) (declared_locals b.groups) (added k.slots) k.locals in
        let s4 : To M' 1 1 (st X args (reverse args) kc g0 []) mid = one_step M' _ _ (rw (k.target, whole, twice, tys, depth, locals) refl) in
        let own = args ++ zeros (declared_locals b.groups) in
        let size : length D.locals ≡ length own = len_of own D.locals (types-locals args type.params (declared_locals b.groups) ty) in
        let s5 : To M' 0 27 mid (image M W source (w0 ∷ [])) = into_function M' M (mapped m f) (result_of type) (caller ∷ []) g [] D own ex tree.nodes size (zero_types (added k.slots)) fl (few_landings (landed C (exposed_in m.memories tree.nodes) [] []) [] tree.nodes [] (omega arith)) in
        subst (λ z. To M' 1 (length type.params + 38) (config (z ∷ []) gu []) (image M W source (w0 ∷ []))) (sym noted) (weaken M' (seq M' s1 (seq M' s2 (seq M' s2b (seq M' s3 (seq M' s4 s5))))) (omega arith) (omega arith))

    abbrev pub target_run : ℕ → Ended
    target_run n = run_steps M' n target

    stood : (made : ℕ) (r : Stepped) → ReachS M M' E gl W (image M W source (w0 ∷ [])) 1 made [] r → Stood target_run made r
    stood made (next c) h =
        let z = seq M' begin h.4 in
        (z.count, omega (arith, z.low), omega (arith, z.high, roomy), image M W c h.0, still_going M' z.count target (image M W c h.0) z.goes, 0, refl, h.3, h.1.0)
    stood made (ends w vs co) h =
        let z = seq M' begin (seq M' h.3 (good_end W vs w co refl h.1 h.0)) in
        (z.count, omega (arith, z.low), omega (arith, z.high, roomy), 0, (λ extra. over M' z.count extra target (ends (flagged M w (values.I32 0)) vs co) z.goes tt ∙ ap (λ q. ended (ends (flagged M w (values.I32 0)) vs q) extra) h.2), h.1, h.2)
    stood made (traps j c) (inl e) = inl e
    stood made (traps j c) (inr h) =
        let e = trap_end W (zero_vs (last_of c.frames) ++ []) c.world (tell_frames j c.frames c.collected) refl h.1 in
        let z = seq M' begin (seq M' h.4 e.3) in
        let few : (made + length c.frames) * E ≤ (2 * made + 1) * E = mul-le-mul_right E (omega (arith, h.3)) in
        inr (z.count, omega (arith, z.low), omega (arith, z.high, few, roomy), e.0, (λ extra. over M' z.count extra target (traps 1 e.0) z.goes tt), e.1, e.2, h.2, h.1, W.result, h.0.0, h.0.1, h.0.2, h.0.3, h.0.4)
    stood made (no_reply call c) h =
        let z = seq M' begin h.5 in
        (z.count, omega (arith, z.low), omega (arith, z.high, roomy), h.2, (λ extra. over M' z.count extra target (no_reply call h.2) z.goes tt), 0, h.3, h.4 ∙ h.1, h.0)
    stood made (bad_reply call rp c) h =
        let z = seq M' begin h.5 in
        (z.count, omega (arith, z.low), omega (arith, z.high, roomy), h.2, (λ extra. over M' z.count extra target (bad_reply call rp h.2) z.goes tt), 0, h.3, h.4 ∙ h.1, h.0)
    stood made stuck h = tt

    -- one invocation, for any number of steps
    pub invocation : (n : ℕ) → (made : ℕ) × (n ≡ made + (run_steps M n source).left) × Stood target_run made (run_steps M n source).what × AllMade M M' E gl W (run_steps M n source)
    invocation n =
        let r = run_sim M M' E gl W S n source (w0 ∷ []) fits (omega (arith, deep)) in
        (r.made, r.in_all, stood r.made (run_steps M n source).what r.reach, r.all_made)
