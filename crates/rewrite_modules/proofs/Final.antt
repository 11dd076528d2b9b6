-- Whole invocations of the rewritten module.
use Rattle.std.proofs.Common.{◌≡◌, ℕ, zero, suc, ◌+◌, ◌-◌, ◌*◌, ◌<◌, ◌≤◌, List, [], ◌∷◌, ◌++◌, length, reverse, Option, Some, None, Bool, true, false, refl, sym, ap, ◌∙◌, subst, arith, length-append, inl, inr, ◌≢◌, slice_get, option_map, take, unwrap_or, mul-le-mul_right, true≢false, mul-le-mul_left, add-mul}
use Rattle.wasm_syntax.specs.declared.value.ValType.{ValType}
use Rattle.wasm_syntax.specs.declared.value.Value.{Value}
use Rattle.wasm_syntax.specs.declared.value.Value.TheVariants as values
use Rattle.wasm_syntax.specs.declared.parts.FuncType.{FuncType}
use Rattle.wasm_syntax.specs.declared.parts.Body.{Body}
use Rattle.wasm_syntax.specs.declared.parts.Import.{Import}
use Rattle.wasm_syntax.specs.Numbers.{types}
use Rattle.wasm_syntax.specs.Tree.{stop, Tree}
use Rattle.wasm_syntax.specs.declared.module.ModuleParts.{ModuleParts as Module}
use Rattle.wasm_syntax.specs.Module.{Program, Function, imported, defined, function_at, type_at, declared_locals, function_export}
use Rattle.wasm_syntax.specs.Host.{World, Answer, replied, told, silent, misfit, answer, told_or, served_by}
use Rattle.wasm_syntax.specs.declared.host.HostCall.{HostCall}
use Rattle.wasm_syntax.specs.declared.host.Reply.{Reply}
use Rattle.wasm_syntax.specs.declared.host.CollectorCall.{CollectorCall}
use Rattle.wasm_syntax.specs.Machine.{Frame, Config, config, Engine, Stepped, next, ends, traps, no_reply, bad_reply, stuck, result_of, entered, host_call}
use Rattle.rewrite_bodies.specs.calls.Guards.{first_table}
use Rattle.rewrite_bodies.specs.Numbering.{is_in, element_functions, mapped, global_types, wrapped, wrapper_base}
use Rattle.rewrite_bodies.specs.calls.Pieces.{call, tree_of}
use Rattle.std.proofs.lemmas.List.{length-map}
use Rattle.rewrite_bodies.specs.calls.Known.{HasLeast}
use Rattle.rewrite_bodies.specs.calls.Agreement.{Wit, MemoryFits, byte_count, told_length, WorldFits, FitsTop, FitsConfig, Wrap, flagged}
use Rattle.rewrite_bodies.specs.calls.Telling.{collected}
use Rattle.rewrite_bodies.proofs.Sim.{len_of}
use Rattle.rewrite_bodies.specs.calls.Standing.{Stands}
use Rattle.rewrite_bodies.proofs.Calls.{AnswerRel, served_rel}
use Rattle.wasm_syntax.specs.Run.{Ended, ended, run_steps, run_function, run_alone, host_alone, engine, globals_at_start, start_memory, start_table, start_world, cause_of_segments, got_stuck, Ran, ran_to, run_entry, go_on, invoked}
use Rattle.rewrite_modules.specs.calls.Wrappers.{wrapper_nodes, wrapper}
use Rattle.rewrite_modules.specs.calls.FlatCode.{body_of}
use Rattle.rewrite_modules.specs.calls.Instrument.{memory_min, new_module, instrument}
use Rattle.rewrite_bodies.specs.calls.Slots.{greatest}
use Rattle.wasm_syntax.specs.Run as runs_
use Rattle.wasm_syntax.specs.Sizes.{parameter_count}
use Rattle.rewrite_modules.proofs.Links.{Ready, half, stands, wrapper_there, type_is_of, function_type_kept, sizes_fit, import_linked, is_defined, import_of}
use Rattle.rewrite_modules.proofs.Shown.{whole_is, dump_is, few_calls}
use Rattle.dump_write.specs.ImageBytes.{bytes_of}
use Rattle.rewrite_modules.specs.Simulates.{memory_of, SameState, Alike}
use Rattle.rewrite_modules.proofs.Followed.{Followed, Untrapped, no_trap, lowered}
use Rattle.rewrite_modules.proofs.Whole.{Stood, invocation, flag_at}
use Rattle.rewrite_modules.proofs.Runs.{AllMade}
use Rattle.rewrite_modules.proofs.Start.{Outside}
use Rattle.std.proofs.Math.Seq.{take-append_seam}

-- what is asked of the old program besides: validation and the limits give it
pub record Fits (p : Program) : Type 0 where
  pub ready : Ready p
  pub globals : types (globals_at_start p.module_) ≡ global_types p.module_
  pub memory : cause_of_segments p.module_ ≡ None → MemoryFits (start_memory p.module_)
  pub least : cause_of_segments p.module_ ≡ None → HasLeast p.module_.memories (start_memory p.module_)
  pub measured : cause_of_segments p.module_ ≡ None → byte_count (start_memory p.module_) ≡ 65536 * memory_min p.module_.memories
  pub table : cause_of_segments p.module_ ≡ None → start_table p.module_ ≡ first_table p.module_
  pub exported : (name : List ℕ) (f : ℕ) → function_export p.module_ name ≡ Some f → (type : FuncType) × (type_at p.module_ f ≡ Some type)
  pub listed : (f : ℕ) → is_in f (element_functions p.module_) ≡ true → (type : FuncType) × (type_at p.module_ f ≡ Some type)
  pub start : (s : ℕ) → p.module_.start ≡ Some s → type_at p.module_ s ≡ Some (record { params = []; results = [] })
  pub few_locals : (greatest p).0 ≤ 10000
  pub few_heights : (greatest p).1 ≤ 1000
  pub few_globals : length p.module_.globals ≤ 20000000

some_same : {a b : FuncType} → Some a ≡ Some b → a ≡ b
some_same {a} e = ap (λ o. unwrap_or o a) e

module _ (p : Program) (fit : Fits p) (d : ℕ) (deep : 0 < d) (low : d ≤ 10000) where
  abbrev pub m : Module
  m = p.module_

  abbrev pub M : Engine
  M = engine p false d

  abbrev pub M' : Engine
  M' = engine (instrument p) true (d + 2)

  abbrev pub E : ℕ
  E = half p fit.ready

  abbrev pub gl : List ValType
  gl = global_types m

  abbrev pub S : Stands M M' E gl
  S = stands p fit.ready d

  abbrev pub St : (ℕ → Ended) → ℕ → Stepped → Type 0
  St go made s = Stood M M' E gl S refl go made s

  -- a function, or its wrapper
  abbrev pub Part : ℕ → ℕ → List Value → World → ℕ → ℕ → Ended → Type 0
  Part f f' args w up n e = (made : ℕ) × (n ≡ made + e.left) × St (λ k. run_function M' k f' (function_at (instrument p) f') args (flagged M w (values.I32 up)) []) made e.what × AllMade M M' E gl (record { idx = 0; result = None; locals = []; rest = stop }) e

  abbrev Alone : HostCall → World → ℕ → (ℕ → Ended) → Answer → Type 0
  Alone call w up go A = St go 1 (host_alone A call w [])

  alone_by : (call : HostCall) (w : World) (up : ℕ) (go : ℕ → Ended) (A A' : Answer) (r : Option ValType) → WorldFits M gl w → AnswerRel M gl r (values.I32 up) A A' → ((extra : ℕ) → go (suc extra) ≡ ended (host_alone A' call (flagged M w (values.I32 up)) []) extra) → Alone call w up go A
  alone_by call w up go (replied w' v) A' r wf h eq =
      (1, omega arith, omega arith, up, (λ extra. let z : 1 + extra ≡ suc extra = omega arith in ap go z ∙ eq extra ∙ ap (λ a. ended (host_alone a call (flagged M w (values.I32 up)) []) extra) h.0), h.1, refl)
  alone_by call w up go (told k) A' r wf h eq = absurd h
  alone_by call w up go silent A' r wf h eq =
      (1, omega arith, omega arith, config [] (flagged M w (values.I32 up)) [], (λ extra. let z : 1 + extra ≡ suc extra = omega arith in ap go z ∙ eq extra ∙ ap (λ a. ended (host_alone a call (flagged M w (values.I32 up)) []) extra) h), up, refl, refl, wf)
  alone_by call w up go (misfit reply) A' r wf h eq =
      (1, omega arith, omega arith, config [] (flagged M w (values.I32 up)) [], (λ extra. let z : 1 + extra ≡ suc extra = omega arith in ap go z ∙ eq extra ∙ ap (λ a. ended (host_alone a call (flagged M w (values.I32 up)) []) extra) h), up, refl, refl, wf)

  alone_made : (A : Answer) (call : HostCall) (w : World) (n : ℕ) → AllMade M M' E gl (record { idx = 0; result = None; locals = []; rest = stop }) (ended (host_alone A call w []) n)
  alone_made (replied w' v) call w n = tt
  alone_made (told k) call w n = tt
  alone_made silent call w n = tt
  alone_made (misfit reply) call w n = tt

  -- an import, called with no frame
  part_import : (f : ℕ) (i : Import) (type : FuncType) (args : List Value) (w : World) (up n : ℕ) → function_at p f ≡ Some (imported i type) → function_at (instrument p) f ≡ Some (imported i type) → WorldFits M gl w → Part f f args w up n (run_alone M n (host_call f i type args) w [])
  part_import f i type args w up zero at at' wf = (0, omega arith, (0, omega arith, omega arith, config [] (flagged M w (values.I32 up)) [], rw at' refl, up, refl, refl, wf), refl)
  part_import f i type args w up (suc n) at at' wf =
      let call_ = host_call f i type args in
      let k = S.imports f i type at in
      let g1 = flagged M w (values.I32 up) in
      let heard : answer true (new_module p) call_ g1 ≡ served_by call_ g1 w.replies = ap (λ z. told_or z call_ g1) (k.unheard args) in
      let go = λ (k : ℕ). run_function M' k f (function_at (instrument p) f) args g1 [] in
      let eq = λ (extra : ℕ). ap (λ o. run_function M' (suc extra) f o args g1 []) at' ∙ ap (λ a. ended (host_alone a call_ g1 []) extra) heard in
      (1, omega arith, alone_by call_ w up go (served_by call_ w w.replies) (served_by call_ g1 w.replies) (result_of type) wf (served_rel M gl (values.I32 up) call_ w wf w.replies) eq, alone_made (served_by call_ w w.replies) call_ w n)

  -- a defined function, by its wrapper
  part_defined : (f j : ℕ) (b : Body) (tree : Tree) (type : FuncType) (args : List Value) (w : World) (up n : ℕ) → function_at p f ≡ Some (defined b tree type) → slice_get (wrapped m) j ≡ Some f → types args ≡ type.params → WorldFits M gl w → Part f (wrapper_base m + j) args w up n (run_steps M n (config (entered f b tree type args ∷ []) w []))
  part_defined f j b tree type args w up n at there ty wf =
      let h = is_defined p f b tree type at in
      let tf = type_is_of p f (defined b tree type) at in
      let z = sizes_fit p fit.ready f b tree type h at in
      let few : length type.params ≤ length (type.params ++ declared_locals b.groups) = omega (arith, length-append type.params (declared_locals b.groups)) in
      let roomy : 4 * length type.params + 2 * length gl + 60 ≤ E = omega (arith, z.0, few, length-map m.globals (λ g. g.vtype)) in
      let wb = body_of [] (wrapper m f) in
      let x = invocation M M' E gl S refl deep f b tree type at args ty w wf up (wrapper_base m + j) wb refl roomy n in
      let wt : function_at (instrument p) (wrapper_base m + j) ≡ Some (defined wb (tree_of (wrapper_nodes m f (length type.params))) type) = wrapper_there p fit.ready j f type there tf ∙ ap (λ o. Some (defined wb (tree_of (wrapper_nodes m f (parameter_count o))) type)) tf in
      (x.0, x.1, subst (λ o. St (λ k. run_function M' k (wrapper_base m + j) o args (flagged M w (values.I32 up)) []) x.0 (run_steps M n (config (entered f b tree type args ∷ []) w [])).what) (sym wt) x.2, x.3)

  pub part : (f f' : ℕ) (type : FuncType) (args : List Value) (w : World) (up n : ℕ) (q : Option Function) → function_at p f ≡ q → Outside m f f' → type_at m f ≡ Some type → types args ≡ type.params → WorldFits M gl w → Part f f' args w up n (run_function M n f q args w [])
  part f f' type args w up n None at out tf ty wf = (0, omega arith, tt, tt)
  part f f' type args w up n (Some (imported i type')) at (inl out) tf ty wf =
      let k = import_linked p fit.ready d f i type' at in
      rw out.0 (part_import f i type' args w up n at (ap (function_at (instrument p)) (sym k.same) ∙ k.target) wf)
  part f f' type args w up n (Some (imported i type')) at (inr out) tf ty wf = absurd (true≢false (sym (import_of p f i type' at).low ∙ out.3))
  part f f' type args w up n (Some (defined b tree type')) at (inl out) tf ty wf = absurd (true≢false (sym out.1 ∙ (is_defined p f b tree type' at).high))
  part f f' type args w up n (Some (defined b tree type')) at (inr out) tf ty wf =
      let same : type ≡ type' = some_same (sym tf ∙ type_is_of p f (defined b tree type') at) in
      rw out.1 (part_defined f out.0 b tree type' args w up n at out.2 (ty ∙ ap (λ t. t.params) same) wf)

  -- ---- from a part to its outcome

  fits_in : (made n left : ℕ) → n ≡ made + left → made + 1 ≤ 2 * n + 2
  fits_in made n left e = omega (arith, e)

  fits_twice : (made n left : ℕ) → n ≡ made + left → 2 * made + 2 ≤ 2 * n + 2
  fits_twice made n left e = omega (arith, e)

  at_least : (n : ℕ) → n ≤ (2 * n + 2) * E
  at_least n = let z : (2 * n + 2) * 1 ≤ (2 * n + 2) * E = mul-le-mul_left (2 * n + 2) one in omega (arith, z)
    where
      one : 1 ≤ E
      one = omega arith

  seven : (j : ℕ) → j ≤ 8 → (j ≡ 8 → ⊥) → j ≤ 7
  seven j le ne = omega (arith, le, ne)

  pub world_alike : (c c' : Config) (up : ℕ) → c'.world ≡ flagged M c.world (values.I32 up) → SameState (Some c) (Some c')
  world_alike c c' up e = (ap (λ w. w.memory) e, ap (λ w. take (length c.world.globals) w.globals) e ∙ take-append_seam c.world.globals (values.I32 up ∷ values.I64 (told_length c.world.memory) ∷ []))

  frames_some : (g : World) (wr : Option ValType) (Fs : List Frame) (ws : List Wit) → FitsTop M E gl g wr Fs ws → 0 < length Fs
  frames_some g wr [] ws h = absurd h
  frames_some g wr (F ∷ Fs) ws h = omega arith

  pub trap_alike : (q : Bool) (j : ℕ) (c c' : Config) (left left' : ℕ) → c'.world ≡ flagged M c.world (values.I32 0) → c'.collected ≡ collected j c → c.collected ≡ [] → WorldFits M gl c.world → (wr : Option ValType) (ws : List Wit) → FitsConfig M E gl wr c ws → length c.frames ≤ d → 1 ≤ j → j ≤ 8 → (j ≡ 8 → ⊥) → Followed (length m.globals) (ran_to q (traps j c) left) (ran_to q (traps 1 c') left')
  trap_alike q j c c' left left' we ce e wf wr ws h sh j1 j8 n8 =
      let j7 : j ≤ 7 = seven j j8 n8 in
      let lg : length c.world.globals ≤ 20000000 = omega (arith, fit.few_globals, len_of c.world.globals gl wf.globals, length-map m.globals (λ g. g.vtype)) in
      let some = frames_some c.world wr c.frames ws h.1 in
      let col : reverse c'.collected ≡ reverse (collected j c) = ap reverse ce in
      let few = subst (λ z. length z ≤ 134217728) (sym col) (few_calls M E gl wr j c ws h e (omega (arith, sh, low)) fit.few_locals fit.few_heights lg) in
      let same = λ (name : List ℕ). dump_is j c e (reverse c'.collected) col j1 j7 few some (memory_of c') name (ap (λ w. option_map (λ k. k.bytes) w.memory) we) in
      record {
        alike = record {
          begun = refl;
          host_calls = ap (λ w. reverse w.served) we;
          ends = record {
            trapped_too = refl;
            whole = whole_is j c e (reverse c'.collected) col j1 j7 few some;
            kind = refl;
            dump = λ name l. same name;
            bytes = λ name l. ap bytes_of (same name);
          };
          state = world_alike c c' 0 we;
        };
        down = lowered M (length m.globals) q 1 c c' left' (flag_at M M' E gl S refl c.world wf) we;
      }

  -- one that did not trap
  pub untrapped : (q : Bool) (one : Ran) (s : Stepped) (left : ℕ) → Untrapped s → Alike one (ran_to q s left) → Followed (length m.globals) one (ran_to q s left)
  untrapped q one s left u a = record { alike = a; down = no_trap (length m.globals) q s left u }

  -- so many steps of the other suffice, and it ends alike
  abbrev pub EndsSo : Bool → ℕ → Stepped → ℕ → (ℕ → Ended) → Type 0
  EndsSo q n s left go = (k : ℕ) × (n ≤ k) × (k ≤ (2 * n + 2) * E) × Followed (length m.globals) (ran_to q s left) (ran_to q (go k).what (go k).left)

  pub ends_so : (q : Bool) (n made left : ℕ) (s : Stepped) (go : ℕ → Ended) → n ≡ made + left → AllMade M M' E gl (record { idx = 0; result = None; locals = []; rest = stop }) (ended s left) → St go made s → (ran_to q s left).outcome ≢ runs_.trapped 8 → (ran_to q s left).outcome ≢ got_stuck → EndsSo q n s left go
  ends_so q n made left (next c) go nm all h n8 ns =
      let le : h.0 ≤ (2 * n + 2) * E = omega (arith, h.2, nm, mul-le-mul_right E (fits_in made n left nm)) in
      (h.0, omega (arith, h.1, nm, all), le, rw h.4 (untrapped q (ran_to q (next c) left) (next h.3) 0 tt (record { begun = refl; host_calls = ap (λ w. reverse w.served) h.6; ends = (refl, ap reverse h.7); state = world_alike c h.3 h.5 h.6 })))
  ends_so q n made left (ends w vs co) go nm all h n8 ns =
      let extra = n - h.0 in
      let le : h.0 + extra ≤ (2 * n + 2) * E = omega (arith, h.2, nm, mul-le-mul_right E (fits_in made n left nm), at_least n) in
      (h.0 + extra, omega arith, le, rw (h.4 extra) (untrapped q (ran_to q (ends w vs co) left) (ends (flagged M w (values.I32 h.3)) vs []) extra tt (record { begun = refl; host_calls = refl; ends = (refl, refl); state = world_alike (config [] w co) (config [] (flagged M w (values.I32 h.3)) []) h.3 refl })))
  ends_so q n made left (traps j c) go nm all (inl e) n8 ns = absurd (n8 (ap runs_.trapped e))
  ends_so q n made left (traps j c) go nm all (inr h) n8 ns =
      let extra = n - h.0 in
      let le : h.0 + extra ≤ (2 * n + 2) * E = omega (arith, h.2, nm, mul-le-mul_right E (fits_twice made n left nm), at_least n) in
      let c' = h.3 in
      (h.0 + extra, omega arith, le, rw (h.4 extra) (trap_alike q j c c' left extra h.5 h.6 h.7 h.8 h.9 h.10 h.11 h.12 h.13 h.14 (λ e. n8 (ap runs_.trapped e))))
  ends_so q n made left (no_reply call c) go nm all h n8 ns =
      let extra = n - h.0 in
      let le : h.0 + extra ≤ (2 * n + 2) * E = omega (arith, h.2, nm, mul-le-mul_right E (fits_in made n left nm), at_least n) in
      (h.0 + extra, omega arith, le, rw (h.4 extra) (untrapped q (ran_to q (no_reply call c) left) (no_reply call h.3) extra tt (record { begun = refl; host_calls = ap (λ w. reverse w.served) h.6; ends = (refl, ap reverse h.7); state = world_alike c h.3 h.5 h.6 })))
  ends_so q n made left (bad_reply call r c) go nm all h n8 ns =
      let extra = n - h.0 in
      let le : h.0 + extra ≤ (2 * n + 2) * E = omega (arith, h.2, nm, mul-le-mul_right E (fits_in made n left nm), at_least n) in
      (h.0 + extra, omega arith, le, rw (h.4 extra) (untrapped q (ran_to q (bad_reply call r c) left) (bad_reply call r h.3) extra tt (record { begun = refl; host_calls = ap (λ w. reverse w.served) h.6; ends = (refl, ap reverse h.7); state = world_alike c h.3 h.5 h.6 })))
  ends_so q n made left stuck go nm all h n8 ns = absurd (ns refl)

  -- ---- the start function, and then the entry

  abbrev W0 : Wrap
  W0 = record { idx = 0; result = None; locals = []; rest = stop }

  abbrev pub go1 : ℕ → List Value → World → ℕ → ℕ → Ended
  go1 f' args w up k = run_function M' k f' (function_at (instrument p) f') args (flagged M w (values.I32 up)) []

  -- the entry alone
  abbrev Entry_so : ℕ → ℕ → List Value → World → ℕ → ℕ → Type 0
  Entry_so f f' args w up n = (run_entry M n f args w []).outcome ≢ runs_.trapped 8 → (run_entry M n f args w []).outcome ≢ got_stuck → (k : ℕ) × (n ≤ k) × (k ≤ (2 * n + 2) * E) × Followed (length m.globals) (run_entry M n f args w []) (run_entry M' k f' args (flagged M w (values.I32 up)) [])

  entry_so : (f f' : ℕ) (type : FuncType) (args : List Value) (w : World) (up n : ℕ) → Outside m f f' → type_at m f ≡ Some type → types args ≡ type.params → WorldFits M gl w → Entry_so f f' args w up n
  entry_so f f' type args w up n out tf ty wf n8 ns =
      let x = part f f' type args w up n (function_at p f) refl out tf ty wf in
      let e = run_function M n f (function_at p f) args w [] in
      ends_so true n x.0 e.left e.what (go1 f' args w up) x.1 x.3 x.2 n8 ns

  abbrev Start_so : ℕ → ℕ → List Value → ℕ → Stepped → ℕ → (ℕ → Ended) → Type 0
  Start_so f f' args n s left go = (go_on M s left f args).outcome ≢ runs_.trapped 8 → (go_on M s left f args).outcome ≢ got_stuck → (k : ℕ) × (n ≤ k) × (k ≤ (2 * n + 4) * E) × Followed (length m.globals) (go_on M s left f args) (go_on M' (go k).what (go k).left f' args)

  pub roomy_more : (n k : ℕ) → k ≤ (2 * n + 2) * E → k ≤ (2 * n + 4) * E
  roomy_more n k le = let z : (2 * n + 2) * E ≤ (2 * n + 4) * E = mul-le-mul_right E (omega arith) in omega (arith, le, z)

  behind : (f f' : ℕ) (args : List Value) (w : World) (vs : List Value) (co : List CollectorCall) (left k l up : ℕ) (go : ℕ → Ended) → go k ≡ ended (ends (flagged M w (values.I32 up)) vs []) l → co ≡ [] → Followed (length m.globals) (run_entry M left f args w []) (run_entry M' l f' args (flagged M w (values.I32 up)) []) → Followed (length m.globals) (go_on M (ends w vs co) left f args) (go_on M' (go k).what (go k).left f' args)
  behind f f' args w vs co left k l up go e c a = rw (e, c) a

  start_so : (f f' : ℕ) (type : FuncType) (args : List Value) (n made left : ℕ) (s : Stepped) (go : ℕ → Ended) → n ≡ made + left → AllMade M M' E gl W0 (ended s left) → St go made s → Outside m f f' → type_at m f ≡ Some type → types args ≡ type.params → Start_so f f' args n s left go
  start_so f f' type args n made left (ends w vs co) go nm all h out tf ty n8 ns =
      let e : run_entry M left f args w co ≡ run_entry M left f args w [] = ap (run_entry M left f args w) h.6 in
      let x = entry_so f f' type args w h.3 left out tf ty h.5 (subst (λ z. z.outcome ≢ runs_.trapped 8) e n8) (subst (λ z. z.outcome ≢ got_stuck) e ns) in
      let b1 : h.0 ≤ (made + 1) * E = h.2 in
      let b2 : x.0 ≤ (2 * left + 2) * E = x.2 in
      let b3 : (made + 1) * E + (2 * left + 2) * E ≤ (2 * n + 4) * E = le_of made left n nm in
      (h.0 + x.0, omega (arith, h.1, nm, x.1), omega (arith, b1, b2, b3), behind f f' args w vs co left (h.0 + x.0) x.0 h.3 go (h.4 x.0) h.6 x.3)
    where
      le_of : (made left n : ℕ) → n ≡ made + left → (made + 1) * E + (2 * left + 2) * E ≤ (2 * n + 4) * E
      le_of made left n e =
          let z : (made + 1) * E + (2 * left + 2) * E ≡ (made + 1 + (2 * left + 2)) * E = sym (add-mul (made + 1) (2 * left + 2) E) in
          let y : (made + 1 + (2 * left + 2)) * E ≤ (2 * n + 4) * E = mul-le-mul_right E (omega (arith, e)) in
          omega (arith, z, y)
  start_so f f' type args n made left (next c) go nm all h out tf ty n8 ns =
      let le : h.0 ≤ (2 * n + 2) * E = omega (arith, h.2, nm, mul-le-mul_right E (fits_in made n left nm)) in
      (h.0, omega (arith, h.1, nm, all), roomy_more n h.0 le, rw h.4 (untrapped false (ran_to false (next c) left) (next h.3) 0 tt (record { begun = refl; host_calls = ap (λ w. reverse w.served) h.6; ends = (refl, ap reverse h.7); state = world_alike c h.3 h.5 h.6 })))
  start_so f f' type args n made left (traps j c) go nm all (inl e) out tf ty n8 ns = absurd (n8 (ap runs_.trapped e))
  start_so f f' type args n made left (traps j c) go nm all (inr h) out tf ty n8 ns =
      let extra = n - h.0 in
      let le : h.0 + extra ≤ (2 * n + 2) * E = omega (arith, h.2, nm, mul-le-mul_right E (fits_twice made n left nm), at_least n) in
      (h.0 + extra, omega arith, roomy_more n (h.0 + extra) le, rw (h.4 extra) (trap_alike false j c h.3 left extra h.5 h.6 h.7 h.8 h.9 h.10 h.11 h.12 h.13 h.14 (λ e. n8 (ap runs_.trapped e))))
  start_so f f' type args n made left (no_reply call c) go nm all h out tf ty n8 ns =
      let extra = n - h.0 in
      let le : h.0 + extra ≤ (2 * n + 2) * E = omega (arith, h.2, nm, mul-le-mul_right E (fits_in made n left nm), at_least n) in
      (h.0 + extra, omega arith, roomy_more n (h.0 + extra) le, rw (h.4 extra) (untrapped false (ran_to false (no_reply call c) left) (no_reply call h.3) extra tt (record { begun = refl; host_calls = ap (λ w. reverse w.served) h.6; ends = (refl, ap reverse h.7); state = world_alike c h.3 h.5 h.6 })))
  start_so f f' type args n made left (bad_reply call r c) go nm all h out tf ty n8 ns =
      let extra = n - h.0 in
      let le : h.0 + extra ≤ (2 * n + 2) * E = omega (arith, h.2, nm, mul-le-mul_right E (fits_in made n left nm), at_least n) in
      (h.0 + extra, omega arith, roomy_more n (h.0 + extra) le, rw (h.4 extra) (untrapped false (ran_to false (bad_reply call r c) left) (bad_reply call r h.3) extra tt (record { begun = refl; host_calls = ap (λ w. reverse w.served) h.6; ends = (refl, ap reverse h.7); state = world_alike c h.3 h.5 h.6 })))
  start_so f f' type args n made left stuck go nm all h out tf ty n8 ns = absurd (ns refl)

  -- ---- an invocation in any world that agrees

  abbrev pub Invoked_so : Option ℕ → Option ℕ → ℕ → ℕ → List Value → World → ℕ → ℕ → Type 0
  Invoked_so start start' f f' args w up n = (invoked M start n f args w).outcome ≢ runs_.trapped 8 → (invoked M start n f args w).outcome ≢ got_stuck → (k : ℕ) × (n ≤ k) × (k ≤ (2 * n + 4) * E) × Followed (length m.globals) (invoked M start n f args w) (invoked M' start' k f' args (flagged M w (values.I32 up)))

  pub invoked_alone : (f f' : ℕ) (type : FuncType) (args : List Value) (w : World) (up n : ℕ) → Outside m f f' → type_at m f ≡ Some type → types args ≡ type.params → WorldFits M gl w → Invoked_so None None f f' args w up n
  invoked_alone f f' type args w up n out tf ty wf n8 ns = let x = entry_so f f' type args w up n out tf ty wf n8 ns in (x.0, x.1, roomy_more n x.0 x.2, x.3)

  pub invoked_behind : (s s' f f' : ℕ) (type : FuncType) (args : List Value) (w : World) (up n : ℕ) → Outside m s s' → type_at m s ≡ Some (record { params = []; results = [] }) → Outside m f f' → type_at m f ≡ Some type → types args ≡ type.params → WorldFits M gl w → Invoked_so (Some s) (Some s') f f' args w up n
  invoked_behind s s' f f' type args w up n outs tfs out tf ty wf n8 ns =
      let x = part s s' (record { params = []; results = [] }) [] w up n (function_at p s) refl outs tfs refl wf in
      let e = run_function M n s (function_at p s) [] w [] in
      start_so f f' type args n x.0 e.left e.what (go1 s' [] w up) x.1 x.3 x.2 out tf ty n8 ns

  -- ---- whole runs

  pub start_fits : (replies : List Reply) → cause_of_segments m ≡ None → WorldFits M gl (start_world m replies)
  start_fits replies e = record { globals = fit.globals; memory = fit.memory e; least = fit.least e; table = fit.table e }

  pub out_type : (f f' : ℕ) (type : FuncType) → Outside m f f' → type_at m f ≡ Some type → type_at (new_module p) f' ≡ Some type
  out_type f f' type (inl o) tf = let z : mapped m f ≡ f' = rw (o.1, o.0) refl in subst (λ q. type_at (new_module p) q ≡ Some type) z (function_type_kept p fit.ready f type tf)
  out_type f f' type (inr o) tf = rw o.1 (type_is_of (instrument p) (wrapper_base m + o.0) _ (wrapper_there p fit.ready o.0 f type o.2 tf))
