-- What is known where a run of the original stands is known behind each step.
use Rattle.std.proofs.Common.{◌≡◌, ℕ, zero, suc, ◌||◌, List, [], ◌∷◌, ◌++◌, length, reverse, Option, Some, None, Bool, true, false, refl, sym, ap, ◌∙◌, subst, slice_get, option_map, option_to_list, nat_lt}
use Rattle.std.specs.Prelude.{if◌then◌else◌}
use Rattle.wasm_syntax.specs.declared.value.ValType.{ValType}
use Rattle.wasm_syntax.specs.declared.value.Value.{Value}
use Rattle.wasm_syntax.specs.declared.value.Value.TheVariants as values
use Rattle.wasm_syntax.specs.declared.instruction.Basic.{Basic}
use Rattle.wasm_syntax.specs.declared.host.HostCall.{HostCall}
use Rattle.wasm_syntax.specs.declared.host.Reply.{Reply}
use Rattle.wasm_syntax.specs.declared.host.CollectorCall.{CollectorCall}
use Rattle.wasm_syntax.specs.declared.parts.FuncType.{FuncType}
use Rattle.wasm_syntax.specs.declared.parts.Body.{Body}
use Rattle.wasm_syntax.specs.declared.module.ModuleParts.{ModuleParts as Module}
use Rattle.wasm_syntax.specs.Numbers.{types}
use Rattle.wasm_syntax.specs.Tree.{Tree, Nodes, stop, basic, jump, block, loop, choose, Jump, Unreachable, Br, BrIf, BrTable, Return, Call, CallIndirect}
use Rattle.wasm_syntax.specs.Module.{Program, Function, imported, defined, function_at, type_at, same_types, same_functype}
use Rattle.wasm_syntax.specs.Host.{World, Answer, replied, told, silent, misfit, answer, told_or, served_by, if_fits, if_written, after_writes, fits_type, collector_of}
use Rattle.wasm_syntax.specs.Effect.{Effect, gives, fails, unfit, effect, takes}
use Rattle.wasm_syntax.specs.Machine.{Kind, leaves, again, returns, Label, Frame, Config, label, config, Engine, Stepped, next, ends, traps, no_reply, bad_reply, stuck, Cut, short, parts, cut, top, exactly, Went, inside, outside, nowhere, arrive, arrive_some, out_some, leave, loops, land, branch, carry, same_carry, pick, function_type, entered, host_call, goes_to, deliver, moved, host, enters, applied, applied_if, calls_on, calls, calls_if, calls_entry, calls_typed, calls_indirect, branch_if, moved_if, branch_table, jumps, affects, does, chooses, runs, in_frame, steps, step}
use Rattle.linear_memory.specs.Memory.{Memory}
use Rattle.rewrite_bodies.specs.calls.Slots.{local_written}
use Rattle.rewrite_bodies.specs.calls.Facts.{is_local, written, frail, Fact, others, first_facts, Copies, no_copies, copies_behind, facts_behind, exposed_in}
use Rattle.rewrite_bodies.specs.calls.Known.{HasLeast, FactsHold, Within, Sound, Inside, KnownKind, KnownOuter, KnownAt, KnownLabels, KnownWaiting, nodes_in, nodes_of, KnownFrame, KnownCallers, KnownFrames, KnownConfig}
use Rattle.rewrite_bodies.proofs.Longer.{Longer, longer_refl, writes_longer}
use Rattle.rewrite_bodies.proofs.FactLaws.{or_left, or_right, or_cases, same_number, sound_all, first_hold, facts_longer, outer_longer, others_hold, others_steady, steady_same, Wrote, outer_written, does_to, facts_go_on, copies_go_on}

abbrev Answers : World → Answer → Type 0
Answers w (replied w' v) = Longer w.memory w'.memory
Answers w (told k) = Unit {0}
Answers w silent = Unit {0}
Answers w (misfit reply) = Unit {0}

answered_by : (call : HostCall) (w : World) (reply : Reply) (left : List Reply) (o : Option (Option Memory)) → after_writes w.memory reply.writes ≡ o → Answers w (if_written call reply left w o)
answered_by call w reply left None e = tt
answered_by call w reply left (Some b) e = writes_longer w.memory reply.writes b e

answers_if : (call : HostCall) (w : World) (reply : Reply) (left : List Reply) (q : Bool) → Answers w (if_fits call reply left w q)
answers_if call w reply left false = tt
answers_if call w reply left true = answered_by call w reply left (after_writes w.memory reply.writes) refl

answers_served : (call : HostCall) (w : World) (rs : List Reply) → Answers w (served_by call w rs)
answers_served call w [] = tt
answers_served call w (reply ∷ left) = answers_if call w reply left (fits_type call.result reply.value)

answers_told : (o : Option CollectorCall) (call : HostCall) (w : World) → Answers w (told_or o call w)
answers_told None call w = answers_served call w w.replies
answers_told (Some k) call w = tt

answers : (collects : Bool) (m : Module) (call : HostCall) (w : World) → Answers w (answer collects m call w)
answers collects m call w = answers_told (if collects then collector_of m call else None) call w

-- ---- inside a frame

module _ (os : List ℕ) (these : ℕ → Bool) (l : List Value) (mem : Option Memory) where
  abbrev AfterMove : Went → Type 0
  AfterMove (inside Ls) = KnownLabels os these l mem Ls
  AfterMove (outside vs) = Unit {0}
  AfterMove nowhere = Unit {0}

  -- the innermost label was left
  comes_in : (vs : List Value) (L : Label) (Ls : List Label) (fss : List (List Fact)) → KnownOuter os these l mem (L ∷ Ls) fss → KnownAt os these l mem no_copies (vs ++ L.operands) L.nodes L.kind Ls
  comes_in vs L Ls [] h = absurd h
  comes_in vs L Ls (fs ∷ fss) h = record { facts = fs; outer = fss; hold = h.1; copied = (tt, tt, tt); sound = h.2; inside = h.3; kind_known = h.4; outside = h.5 }

  arrive_known : (vs : List Value) (Ls : List Label) (fss : List (List Fact)) → KnownOuter os these l mem Ls fss → AfterMove (arrive vs Ls)
  arrive_known vs [] fss h = tt
  arrive_known vs (L ∷ Ls) fss h = (no_copies, comes_in vs L Ls fss h)

  some_known : (o : Option (List Value)) (Ls : List Label) (fss : List (List Fact)) → KnownOuter os these l mem Ls fss → AfterMove (arrive_some o Ls)
  some_known None Ls fss h = tt
  some_known (Some vs) Ls fss h = arrive_known vs Ls fss h

  out_known : (o : Option (List Value)) → AfterMove (out_some o)
  out_known None = tt
  out_known (Some vs) = tt

  leave_known : (kd : Kind) (vs : List Value) (Ls : List Label) (fss : List (List Fact)) → KnownOuter os these l mem Ls fss → AfterMove (leave kd vs Ls)
  leave_known (leaves t) vs Ls fss h = some_known (exactly t vs) Ls fss h
  leave_known (again at t inner en) vs Ls fss h = some_known (exactly t vs) Ls fss h
  leave_known (returns t) vs Ls fss h = out_known (exactly t vs)

  -- a loop begins anew
  loop_inside : (Ls : List Label) (at : ℕ) (t : Option ValType) (inner : Nodes) (en : ℕ) (rest : Nodes) → Within these inner → Inside these Ls rest → Inside these Ls (loop at t inner en rest)
  loop_inside [] at t inner en rest w h = tt
  loop_inside (_ ∷ _) at t inner en rest w h = λ x e. or_cases (written inner x) (written rest x) (these x) (w x) (h x) e

  loops_known : (at : ℕ) (t : Option ValType) (inner : Nodes) (en : ℕ) (Ls : List Label) (fss : List (List Fact)) → KnownKind os these fss (again at t inner en) → KnownOuter os these l mem Ls fss → AfterMove (loops at t inner en Ls)
  loops_known at t inner en [] fss k h = tt
  loops_known at t inner en (L ∷ Ls) [] k h = absurd h
  loops_known at t inner en (L ∷ Ls) (fs ∷ fss) k h =
      let same = sym (steady_same these fs h.0) in (
        no_copies,
        record {
          facts = fs;
          outer = fss;
          hold = h.1;
          copied = (tt, tt, tt);
          sound = (k.0, subst (λ z. Sound os these z no_copies inner) same k.1, subst (λ z. Sound os these z no_copies L.nodes) same h.2);
          inside = loop_inside Ls at t inner en L.nodes k.0 h.3;
          kind_known = h.4;
          outside = h.5;
        },
      )

  land_known : (kd : Kind) (vs : List Value) (Ls : List Label) (fss : List (List Fact)) → KnownKind os these fss kd → KnownOuter os these l mem Ls fss → AfterMove (land kd vs Ls)
  land_known (leaves t) vs Ls fss k h = some_known (top t vs) Ls fss h
  land_known (again at t inner en) vs Ls fss k h = loops_known at t inner en Ls fss k h
  land_known (returns t) vs Ls fss k h = out_known (top t vs)

  branch_outer : (n : ℕ) (vs : List Value) (Ls : List Label) (fss : List (List Fact)) → KnownOuter os these l mem Ls fss → AfterMove (branch n vs Ls)
  branch_outer n vs [] fss h = tt
  branch_outer zero vs (L ∷ Ls) [] h = absurd h
  branch_outer (suc n) vs (L ∷ Ls) [] h = absurd h
  branch_outer zero vs (L ∷ Ls) (fs ∷ fss) h = land_known L.kind vs Ls fss h.4 h.5
  branch_outer (suc n) vs (L ∷ Ls) (fs ∷ fss) h = branch_outer n vs Ls fss h.5

  branch_known : (n : ℕ) (vs : List Value) (c : Copies) (ops : List Value) (nodes : Nodes) (L : Label) (Ls : List Label) → KnownAt os these l mem c ops nodes L.kind Ls → AfterMove (branch n vs (L ∷ Ls))
  branch_known zero vs c ops nodes L Ls k = land_known L.kind vs Ls k.outer k.kind_known k.outside
  branch_known (suc n) vs c ops nodes L Ls k = branch_outer n vs Ls k.outer k.outside

-- the rest of nodes stands inside where they do
inside_basic : (these : ℕ → Bool) (Ls : List Label) (o : ℕ) (i : Basic) (rest : Nodes) → Inside these Ls (basic o i rest) → Inside these Ls rest
inside_basic these [] o i rest h = tt
inside_basic these (_ ∷ _) o i rest h = λ x e. h x (or_right (is_local (local_written i) x) (written rest x) e)

inside_jump : (these : ℕ → Bool) (Ls : List Label) (o : ℕ) (j : Jump) (rest : Nodes) → Inside these Ls (jump o j rest) → Inside these Ls rest
inside_jump these [] o j rest h = tt
inside_jump these (_ ∷ _) o j rest h = h

inside_block : (these : ℕ → Bool) (Ls : List Label) (o : ℕ) (t : Option ValType) (inner : Nodes) (en : ℕ) (rest : Nodes) → Inside these Ls (block o t inner en rest) → Inside these Ls rest
inside_block these [] o t inner en rest h = tt
inside_block these (_ ∷ _) o t inner en rest h = λ x e. h x (or_right (written inner x) (written rest x) e)

inside_loop : (these : ℕ → Bool) (Ls : List Label) (o : ℕ) (t : Option ValType) (inner : Nodes) (en : ℕ) (rest : Nodes) → Inside these Ls (loop o t inner en rest) → Inside these Ls rest
inside_loop these [] o t inner en rest h = tt
inside_loop these (_ ∷ _) o t inner en rest h = λ x e. h x (or_right (written inner x) (written rest x) e)

inside_choose : (these : ℕ → Bool) (Ls : List Label) (o : ℕ) (t : Option ValType) (a : Nodes) (ea : Option ℕ) (b : Nodes) (en : ℕ) (rest : Nodes) → Inside these Ls (choose o t a ea b en rest) → Inside these Ls rest
inside_choose these [] o t a ea b en rest h = tt
inside_choose these (_ ∷ _) o t a ea b en rest h = λ x e. h x (or_right (written a x) (written b x || written rest x) (or_right (written b x) (written rest x) e))

-- a local that is written in a label inside others is one of these
writes_these : (these : ℕ → Bool) (Ls : List Label) (o : ℕ) (i : Basic) (rest : Nodes) (x : ℕ) → Inside these (Ls) (basic o i rest) → local_written i ≡ Some x → (L : Label) (Ms : List Label) → Ls ≡ L ∷ Ms → these x ≡ true
writes_these these [] o i rest x h e L Ms s = absurd (cc)
writes_these these (K ∷ Ks) o i rest x h e L Ms s = h x (or_left (is_local (local_written i) x) (written rest x) (ap (λ q. is_local q x) e ∙ same_number x))

outer_goes_on : (os : List ℕ) (these : ℕ → Bool) (l l' : List Value) (mem : Option Memory) (Ls : List Label) (fss : List (List Fact)) (o : ℕ) (i : Basic) (rest : Nodes) → Inside these Ls (basic o i rest) → Wrote (local_written i) l l' → KnownOuter os these l mem Ls fss → KnownOuter os these l' mem Ls fss
outer_goes_on os these l l' mem [] fss o i rest h w k = tt
outer_goes_on os these l l' mem (L ∷ Ls) fss o i rest h w k = outer_written os these (local_written i) l l' mem (L ∷ Ls) fss w (λ x e. writes_these these (L ∷ Ls) o i rest x h e L Ls refl) k

-- ---- a basic instruction

basic_known : (os : List ℕ) (these : ℕ → Bool) (c : Copies) (ops : List Value) (o : ℕ) (i : Basic) (rest : Nodes) (kd : Kind) (Ls : List Label) (g g' : World) (l l' vs below ws : List Value) → KnownAt os these l g.memory c ops (basic o i rest) kd Ls → cut (takes i) ops ≡ parts vs below → effect i g l vs ≡ gives g' l' ws → KnownAt os these l' g'.memory (copies_behind i c) (ws ++ below) rest kd Ls
basic_known os these c ops o i rest kd Ls g g' l l' vs below ws k u e =
    let d = does_to i g g' l l' vs ws e in
    record {
      facts = facts_behind i c k.facts;
      outer = k.outer;
      hold = facts_go_on g l i c ops vs below k.facts g' l' ws k.copied u e k.hold;
      copied = copies_go_on g l i c ops vs below g' l' ws k.copied u e;
      sound = k.sound.1;
      inside = inside_basic these Ls o i rest k.inside;
      kind_known = k.kind_known;
      outside = outer_goes_on os these l l' g'.memory Ls k.outer o i rest k.inside d.0 (outer_longer os these l g.memory g'.memory Ls k.outer d.1 k.outside);
    }

-- a block is entered with these facts
enters_known : (os : List ℕ) (these : ℕ → Bool) (l : List Value) (mem : Option Memory) (facts first : List Fact) (outer : List (List Fact)) (ops : List Value) (inner rest : Nodes) (en : ℕ) (kd kd' : Kind) (Ls : List Label) → FactsHold l mem facts → FactsHold l mem first → Within these inner → Sound os these first no_copies inner → Sound os these (others these facts) no_copies rest → Inside these Ls rest → KnownKind os these outer kd → KnownOuter os these l mem Ls outer → KnownKind os these (others these facts ∷ outer) kd' → KnownAt os these l mem no_copies [] inner kd' (label ops rest en kd ∷ Ls)
enters_known os these l mem facts first outer ops inner rest en kd kd' Ls h hf w si sr ir kk ko kn =
    let kept = others_hold l mem these facts h in
    record {
      facts = first;
      outer = others these facts ∷ outer;
      hold = hf;
      copied = (tt, tt, tt);
      sound = si;
      inside = w;
      kind_known = kn;
      outside = (others_steady these facts, kept, sr, ir, kk, ko);
    }

-- ---- callers, where the memory got longer

waiting_longer : (os : List ℕ) (these : ℕ → Bool) (l : List Value) (a b : Option Memory) (Ls : List Label) → Longer a b → KnownWaiting os these l a Ls → KnownWaiting os these l b Ls
waiting_longer os these l a b [] le h = tt
waiting_longer os these l a b (L ∷ Ls) le k =
    record { facts = k.facts; outer = k.outer; hold = facts_longer l a b k.facts le k.hold; copied = k.copied; sound = k.sound; inside = k.inside; kind_known = k.kind_known; outside = outer_longer os these l a b Ls k.outer le k.outside }

callers_longer : (p : Program) (a b : Option Memory) (Fs : List Frame) → Longer a b → KnownCallers p a Fs → KnownCallers p b Fs
callers_longer p a b [] le h = tt
callers_longer p a b (F ∷ Fs) le h = (waiting_longer (exposed_in p.module_.memories (nodes_in p F.function)) (frail (nodes_in p F.function)) F.locals a b F.labels le h.0, callers_longer p a b Fs le h.1)

-- behind a jump that goes on, with other operands
goes_on : (os : List ℕ) (these : ℕ → Bool) (l : List Value) (a b : Option Memory) (c : Copies) (ops vs : List Value) (o : ℕ) (j : Jump) (rest : Nodes) (kd : Kind) (Ls : List Label) → Longer a b → KnownAt os these l a c ops (jump o j rest) kd Ls → KnownAt os these l b no_copies vs rest kd Ls
goes_on os these l a b c ops vs o j rest kd Ls le k =
    record { facts = k.facts; outer = k.outer; hold = facts_longer l a b k.facts le k.hold; copied = (tt, tt, tt); sound = k.sound; inside = inside_jump these Ls o j rest k.inside; kind_known = k.kind_known; outside = outer_longer os these l a b Ls k.outer le k.outside }

-- ---- a step

module _ (M : Engine) where
  abbrev pub KnownStepped : Stepped → Type 0
  KnownStepped (next c) = KnownConfig M.program c
  KnownStepped (ends w vs co) = Unit {0}
  KnownStepped (traps k c) = Unit {0}
  KnownStepped (no_reply call c) = Unit {0}
  KnownStepped (bad_reply call r c) = Unit {0}
  KnownStepped stuck = Unit {0}

  abbrev os_of : Frame → List ℕ
  os_of F = exposed_in M.program.module_.memories (nodes_in M.program F.function)

  abbrev these_of : Frame → ℕ → Bool
  these_of F = frail (nodes_in M.program F.function)

  abbrev At : Frame → World → Copies → List Value → Nodes → Kind → List Label → Type 0
  At F w c ops nodes kd Ls = KnownAt (os_of F) (these_of F) F.locals w.memory c ops nodes kd Ls

  deliver_known : (vs : List Value) (Fs : List Frame) (w : World) (co : List CollectorCall) → KnownCallers M.program w.memory Fs → KnownStepped (deliver M vs Fs w co)
  deliver_known vs [] w co h = tt
  deliver_known vs (F ∷ Fs) w co h = by_labels F.labels h.0
    where
      by_labels : (Ls : List Label) → KnownWaiting (os_of F) (these_of F) F.locals w.memory Ls → KnownStepped (goes_to M (arrive vs Ls) F Fs w co)
      by_labels [] k = tt
      by_labels (L ∷ Ls) k = ((no_copies, record { facts = k.facts; outer = k.outer; hold = k.hold; copied = (tt, tt, tt); sound = k.sound; inside = k.inside; kind_known = k.kind_known; outside = k.outside }), h.1)

  moved_known : (x : Went) (F : Frame) (Fs : List Frame) (w : World) (co : List CollectorCall) → AfterMove (os_of F) (these_of F) F.locals w.memory x → KnownCallers M.program w.memory Fs → KnownStepped (moved M x F Fs w co)
  moved_known (inside Ls) F Fs w co h hs = (h, hs)
  moved_known (outside vs) F Fs w co h hs = deliver_known vs Fs w co hs
  moved_known nowhere F Fs w co h hs = tt

  moved_if_known : (q : Bool) (x : Went) (F : Frame) (Fs : List Frame) (w : World) (co : List CollectorCall) → AfterMove (os_of F) (these_of F) F.locals w.memory x → KnownCallers M.program w.memory Fs → KnownStepped (moved_if M q x F Fs w co)
  moved_if_known false x F Fs w co h hs = tt
  moved_if_known true x F Fs w co h hs = moved_known x F Fs w co h hs

  -- the frame of a function that begins
  begins : (g : ℕ) (b : Body) (tree : Tree) (type : FuncType) (args : List Value) (mem : Option Memory) → function_at M.program g ≡ Some (defined b tree type) → HasLeast M.program.module_.memories mem → KnownFrame M.program mem (entered g b tree type args)
  begins g b tree type args mem e h =
      let same : nodes_in M.program g ≡ tree.nodes = ap nodes_of e in
      let l = (entered g b tree type args).locals in
      let ls = M.program.module_.memories in
      subst (λ z. KnownLabels (exposed_in ls z) (frail z) l mem (entered g b tree type args).labels) (sym same)
      (no_copies, record { facts = first_facts ls; outer = []; hold = first_hold l mem ls h; copied = (tt, tt, tt); sound = sound_all ls tree.nodes; inside = tt; kind_known = tt; outside = tt })

  module _ (F : Frame) (L : Label) (Ls : List Label) (Fs : List Frame) (w : World) (co : List CollectorCall) (hs : KnownCallers M.program w.memory Fs) (hl : HasLeast M.program.module_.memories w.memory) where
    host_known : (r : Answer) (call : HostCall) (below : List Value) (c : Copies) (ops : List Value) (o : ℕ) (j : Jump) (rest : Nodes) → Answers w r → At F w c ops (jump o j rest) L.kind Ls → KnownStepped (host M r call below rest F L Ls Fs w co)
    host_known (replied w' v) call below c ops o j rest a k =
        ((no_copies, goes_on (os_of F) (these_of F) F.locals w.memory w'.memory c ops (option_to_list v ++ below) o j rest L.kind Ls a k), callers_longer M.program w.memory w'.memory Fs a hs)
    host_known (told d) call below c ops o j rest a k = ((no_copies, goes_on (os_of F) (these_of F) F.locals w.memory w.memory c ops below o j rest L.kind Ls (longer_refl w.memory) k), hs)
    host_known silent call below c ops o j rest a k = tt
    host_known (misfit reply) call below c ops o j rest a k = tt

    enter_known : (q : Bool) (g : ℕ) (b : Body) (tree : Tree) (type : FuncType) (args below : List Value) (at : ℕ) (c : Copies) (ops : List Value) (o : ℕ) (j : Jump) (rest : Nodes) → function_at M.program g ≡ Some (defined b tree type) → At F w c ops (jump o j rest) L.kind Ls → KnownStepped (enters M q (entered g b tree type args) below at rest F L Ls Fs w co)
    enter_known false g b tree type args below at c ops o j rest e k = tt
    enter_known true g b tree type args below at c ops o j rest e k =
        (begins g b tree type args w.memory e hl, (goes_on (os_of F) (these_of F) F.locals w.memory w.memory c ops below o j rest L.kind Ls (longer_refl w.memory) k, hs))

    module _ (at : ℕ) (c : Copies) (ops : List Value) (o : ℕ) (j : Jump) (rest : Nodes) (k : At F w c ops (jump o j rest) L.kind Ls) where
      applied_known : (f : Function) (g : ℕ) (args below : List Value) → function_at M.program g ≡ Some f → KnownStepped (applied M f g args below at rest F L Ls Fs w co)
      applied_known (imported i type) g args below e =
          host_known (answer M.collects M.program.module_ (host_call g i type args) w) (host_call g i type args) below c ops o j rest (answers M.collects M.program.module_ (host_call g i type args) w) k
      applied_known (defined b tree type) g args below e = enter_known (nat_lt (suc (length Fs)) M.depth) g b tree type args below at c ops o j rest e k

      applied_if_known : (q : Bool) (f : Function) (g : ℕ) (args below : List Value) → function_at M.program g ≡ Some f → KnownStepped (applied_if M q f g args below at rest F L Ls Fs w co)
      applied_if_known false f g args below e = tt
      applied_if_known true f g args below e = applied_known f g args below e

      calls_on_known : (f : Function) (g : ℕ) (u : Cut) → function_at M.program g ≡ Some f → KnownStepped (calls_on M f g u at rest F L Ls Fs w co)
      calls_on_known f g short e = tt
      calls_on_known f g (parts vs below) e = applied_if_known (same_types (types (reverse vs)) (function_type f).params) f g (reverse vs) below e

      calls_known : (q : Option Function) (g : ℕ) (vs : List Value) → function_at M.program g ≡ q → KnownStepped (calls M q g vs at rest F L Ls Fs w co)
      calls_known None g vs e = tt
      calls_known (Some f) g vs e = calls_on_known f g (cut (length (function_type f).params) vs) e

      calls_if_known : (q : Option Bool) (g : ℕ) (vs : List Value) → KnownStepped (calls_if M q g vs at rest F L Ls Fs w co)
      calls_if_known None g vs = tt
      calls_if_known (Some false) g vs = tt
      calls_if_known (Some true) g vs = calls_known (function_at M.program g) g vs refl

      entry_known : (q : Option (Option ℕ)) (type : FuncType) (vs : List Value) → KnownStepped (calls_entry M q type vs at rest F L Ls Fs w co)
      entry_known None type vs = tt
      entry_known (Some None) type vs = tt
      entry_known (Some (Some g)) type vs = calls_if_known (option_map (λ u. same_functype u type) (type_at M.program.module_ g)) g vs

      typed_known : (t : Option FuncType) (q : Option (Option ℕ)) (vs : List Value) → KnownStepped (calls_typed M t q vs at rest F L Ls Fs w co)
      typed_known None q vs = tt
      typed_known (Some type) q vs = entry_known q type vs

      indirect_known : (t : ℕ) (vs : List Value) → KnownStepped (calls_indirect M t vs at rest F L Ls Fs w co)
      indirect_known t [] = tt
      indirect_known t (values.I64 n ∷ vs) = tt
      indirect_known t (values.I32 n ∷ vs) = typed_known (slice_get M.program.module_.types t) (slice_get w.table n) vs

      branch_if_known : (n : ℕ) (vs : List Value) → KnownStepped (branch_if M n vs rest F L Ls Fs w co)
      branch_if_known n [] = tt
      branch_if_known n (values.I64 a ∷ vs) = tt
      branch_if_known n (values.I32 zero ∷ vs) = ((no_copies, goes_on (os_of F) (these_of F) F.locals w.memory w.memory c ops vs o j rest L.kind Ls (longer_refl w.memory) k), hs)
      branch_if_known n (values.I32 (suc a) ∷ vs) = moved_known (branch n vs (L ∷ Ls)) F Fs w co (branch_known (os_of F) (these_of F) F.locals w.memory n vs c ops (jump o j rest) L Ls k) hs

      table_known : (ts : List ℕ) (d : ℕ) (vs : List Value) → KnownStepped (branch_table M ts d vs F L Ls Fs w co)
      table_known ts d [] = tt
      table_known ts d (values.I64 n ∷ vs) = tt
      table_known ts d (values.I32 n ∷ vs) =
          moved_if_known (same_carry (carry (pick ts d n) (L ∷ Ls)) (carry d (L ∷ Ls))) (branch (pick ts d n) vs (L ∷ Ls)) F Fs w co
          (branch_known (os_of F) (these_of F) F.locals w.memory (pick ts d n) vs c ops (jump o j rest) L Ls k) hs

    jump_known : (at : ℕ) (c : Copies) (j : Jump) (rest : Nodes) → At F w c L.operands (jump at j rest) L.kind Ls → KnownStepped (jumps M j at rest F L Ls Fs w co)
    jump_known at c Unreachable rest k = tt
    jump_known at c (Br n) rest k = moved_known (branch n L.operands (L ∷ Ls)) F Fs w co (branch_known (os_of F) (these_of F) F.locals w.memory n L.operands c L.operands (jump at (Br n) rest) L Ls k) hs
    jump_known at c (BrIf n) rest k = branch_if_known at c L.operands at (BrIf n) rest k n L.operands
    jump_known at c (BrTable ts d) rest k = table_known at c L.operands at (BrTable ts d) rest k ts d L.operands
    jump_known at c Return rest k = moved_known (out_some (top F.result L.operands)) F Fs w co (out_known (os_of F) (these_of F) F.locals w.memory (top F.result L.operands)) hs
    jump_known at c (Call g) rest k = calls_known at c L.operands at (Call g) rest k (function_at M.program g) g L.operands refl
    jump_known at c (CallIndirect t) rest k = indirect_known at c L.operands at (CallIndirect t) rest k t L.operands

    affects_known : (c : Copies) (o : ℕ) (i : Basic) (rest : Nodes) (vs below : List Value) (x : Effect) → At F w c L.operands (basic o i rest) L.kind Ls → cut (takes i) L.operands ≡ parts vs below → effect i w F.locals vs ≡ x → KnownStepped (affects M x below rest F L Ls Fs w co)
    affects_known c o i rest vs below (gives w' l' ws) k u e =
        let d = does_to i w w' F.locals l' vs ws e in
        ((copies_behind i c, basic_known (os_of F) (these_of F) c L.operands o i rest L.kind Ls w w' F.locals l' vs below ws k u e), callers_longer M.program w.memory w'.memory Fs d.1 hs)
    affects_known c o i rest vs below (fails j) k u e = tt
    affects_known c o i rest vs below unfit k u e = tt

    does_known : (c : Copies) (o : ℕ) (i : Basic) (rest : Nodes) (u : Cut) → At F w c L.operands (basic o i rest) L.kind Ls → cut (takes i) L.operands ≡ u → KnownStepped (does M i u rest F L Ls Fs w co)
    does_known c o i rest short k e = tt
    does_known c o i rest (parts vs below) k e = affects_known c o i rest vs below (effect i w F.locals vs) k e refl

    chooses_known : (c : Copies) (at : ℕ) (t : Option ValType) (a : Nodes) (ea : Option ℕ) (b : Nodes) (en : ℕ) (rest : Nodes) (vs : List Value) → At F w c L.operands (choose at t a ea b en rest) L.kind Ls → KnownStepped (chooses M vs t a ea b en rest F L Ls Fs w co)
    chooses_known c at t a ea b en rest [] k = tt
    chooses_known c at t a ea b en rest (values.I64 n ∷ vs) k = tt
    chooses_known c at t a ea b en rest (values.I32 zero ∷ vs) k =
        ((no_copies, enters_known (os_of F) (these_of F) F.locals w.memory k.facts (others (these_of F) k.facts) k.outer vs b rest L.end L.kind (leaves t) Ls k.hold (others_hold F.locals w.memory (these_of F) k.facts k.hold) k.sound.0.1 k.sound.1.1 k.sound.2 (inside_choose (these_of F) Ls at t a ea b en rest k.inside) k.kind_known k.outside tt), hs)
    chooses_known c at t a ea b en rest (values.I32 (suc n) ∷ vs) k =
        ((no_copies, enters_known (os_of F) (these_of F) F.locals w.memory k.facts k.facts k.outer vs a rest L.end L.kind (leaves t) Ls k.hold k.hold k.sound.0.0 k.sound.1.0 k.sound.2 (inside_choose (these_of F) Ls at t a ea b en rest k.inside) k.kind_known k.outside tt), hs)

    runs_known : (c : Copies) (nodes : Nodes) → At F w c L.operands nodes L.kind Ls → KnownStepped (runs M nodes F L Ls Fs w co)
    runs_known c stop k = moved_known (leave L.kind L.operands Ls) F Fs w co (leave_known (os_of F) (these_of F) F.locals w.memory L.kind L.operands Ls k.outer k.outside) hs
    runs_known c (basic o i rest) k = does_known c o i rest (cut (takes i) L.operands) k refl
    runs_known c (jump o j rest) k = jump_known o c j rest k
    runs_known c (block o t inner en rest) k =
        ((no_copies, enters_known (os_of F) (these_of F) F.locals w.memory k.facts k.facts k.outer L.operands inner rest L.end L.kind (leaves t) Ls k.hold k.hold k.sound.0 k.sound.1 k.sound.2 (inside_block (these_of F) Ls o t inner en rest k.inside) k.kind_known k.outside tt), hs)
    runs_known c (loop o t inner en rest) k =
        ((no_copies, enters_known (os_of F) (these_of F) F.locals w.memory k.facts (others (these_of F) k.facts) k.outer L.operands inner rest L.end L.kind (again o t inner en) Ls k.hold (others_hold F.locals w.memory (these_of F) k.facts k.hold) k.sound.0 k.sound.1 k.sound.2 (inside_loop (these_of F) Ls o t inner en rest k.inside) k.kind_known k.outside (k.sound.0, k.sound.1)), hs)
    runs_known c (choose o t a ea b en rest) k = chooses_known c o t a ea b en rest L.operands k

  labels_known : (F : Frame) (Ls : List Label) (Fs : List Frame) (w : World) (co : List CollectorCall) → KnownLabels (os_of F) (these_of F) F.locals w.memory Ls → KnownCallers M.program w.memory Fs → HasLeast M.program.module_.memories w.memory → KnownStepped (in_frame M Ls F Fs w co)
  labels_known F [] Fs w co h hs hl = tt
  labels_known F (L ∷ Ls) Fs w co h hs hl = runs_known F L Ls Fs w co hs hl h.0 L.nodes h.1

  frames_known : (Fs : List Frame) (w : World) (co : List CollectorCall) → HasLeast M.program.module_.memories w.memory → KnownFrames M.program w.memory Fs → KnownStepped (steps M Fs w co)
  frames_known [] w co hl h = tt
  frames_known (F ∷ Fs) w co hl h = labels_known F F.labels Fs w co h.0 h.1 hl

  pub step_known : (c : Config) → HasLeast M.program.module_.memories c.world.memory → KnownConfig M.program c → KnownStepped (step M c)
  step_known c hl h = frames_known c.frames c.world c.collected hl h

-- an invocation begins
pub begins_known : (M : Engine) (g : ℕ) (b : Body) (tree : Tree) (type : FuncType) (args : List Value) (w : World) (co : List CollectorCall) → function_at M.program g ≡ Some (defined b tree type) → HasLeast M.program.module_.memories w.memory → KnownConfig M.program (config (entered g b tree type args ∷ []) w co)
begins_known M g b tree type args w co e hl = (begins M g b tree type args w.memory e hl, tt)
