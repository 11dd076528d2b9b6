-- A step changes nothing but offsets where it is made without them.
use Rattle.std.proofs.Common.{◌≡◌, ℕ, zero, suc, ◌-◌, List, [], ◌∷◌, length, map, reverse, Option, Some, None, Bool, true, false, nat_lt, refl, ap, ap₂, ◌∙◌, slice_get, option_map, if◌then◌else◌}
use Rattle.std.proofs.lemmas.Option.{slice_get-map}
use Rattle.std.proofs.lemmas.List.{length-map}
use Rattle.wasm_syntax.specs.declared.value.ValType.{ValType}
use Rattle.wasm_syntax.specs.declared.value.Value.{Value}
use Rattle.wasm_syntax.specs.declared.instruction.Basic.{Basic}
use Rattle.wasm_syntax.specs.declared.parts.FuncType.{FuncType}
use Rattle.wasm_syntax.specs.declared.parts.Body.{Body}
use Rattle.wasm_syntax.specs.declared.parts.Import.{Import}
use Rattle.wasm_syntax.specs.declared.host.HostCall.{HostCall}
use Rattle.wasm_syntax.specs.declared.host.CollectorCall.{CollectorCall}
use Rattle.wasm_syntax.specs.declared.value.Value.TheVariants as values
use Rattle.wasm_syntax.specs.Numbers.{types}
use Rattle.wasm_syntax.specs.Tree.{Jump, Unreachable, Br, BrIf, BrTable, Return, Call, CallIndirect, Nodes, stop, basic, jump, block, loop, choose, Tree}
use Rattle.wasm_syntax.specs.Module.{Program, Function, imported, defined, function_at, defined_at, imported_at, same_types, option_then}
use Rattle.wasm_syntax.specs.Host.{World, Answer, replied, told, silent, misfit, answer}
use Rattle.wasm_syntax.specs.Effect.{Effect, gives, fails, unfit, effect, takes}
use Rattle.wasm_syntax.specs.Machine.{Kind, leaves, again, returns, Label, Frame, Config, Engine, ends, Cut, short, parts, cut, top, exactly, Went, inside, outside, nowhere, arrive, arrive_some, out_some, leave, loops, land, branch, carried_by, carry, same_carry, pick, function_type, entered, host_call, goes_to, deliver, moved, host, enters, applied, applied_if, calls_on, calls, calls_if, fits_entry, calls_entry, calls_typed, calls_indirect, branch_if, moved_if, branch_table, jumps, affects, does, opens_arm, chooses, runs, in_frame, steps, step}
use Rattle.rewrite_modules.specs.calls.Bare.{bare_nodes, bare_tree, bare, bare_kind, bare_label, bare_frame, bare_config, bare_stepped}
use Rattle.wasm_syntax.specs.SameCode.{body_code, code_alone}
use Rattle.rewrite_bodies.proofs.Sim.{ends_zero}

abbrev bare_went : Went → Went
bare_went (inside ls) = inside (map bare_label ls)
bare_went (outside vs) = outside vs
bare_went nowhere = nowhere

abbrev pub bare_function : Function → Function
bare_function (imported i type) = imported i type
bare_function (defined b tree type) = defined (body_code b) (bare_tree tree) type

-- ---- functions

function_by_tree : (b : Body) (type : FuncType) (o : Option Tree) → option_map (λ tree. defined (body_code b) tree type) (option_map bare_tree o) ≡ option_map bare_function (option_map (λ tree. defined b tree type) o)
function_by_tree b type None = refl
function_by_tree b type (Some tree) = refl

function_by_body : (type : FuncType) (o : Option Body) (q : Option Tree) → option_then (option_map body_code o) (λ b. option_map (λ tree. defined b tree type) (option_map bare_tree q)) ≡ option_map bare_function (option_then o (λ b. option_map (λ tree. defined b tree type) q))
function_by_body type None q = refl
function_by_body type (Some b) q = function_by_tree b type q

function_by_type : (t : Option FuncType) (o : Option Body) (q : Option Tree) → option_then t (λ type. option_then (option_map body_code o) (λ b. option_map (λ tree. defined b tree type) (option_map bare_tree q))) ≡ option_map bare_function (option_then t (λ type. option_then o (λ b. option_map (λ tree. defined b tree type) q)))
function_by_type None o q = refl
function_by_type (Some type) o q = function_by_body type o q

function_by_index : (types_ : List FuncType) (i : Option ℕ) (o : Option Body) (q : Option Tree) → option_then i (λ t. option_then (slice_get types_ t) (λ type. option_then (option_map body_code o) (λ b. option_map (λ tree. defined b tree type) (option_map bare_tree q)))) ≡ option_map bare_function (option_then i (λ t. option_then (slice_get types_ t) (λ type. option_then o (λ b. option_map (λ tree. defined b tree type) q))))
function_by_index types_ None o q = refl
function_by_index types_ (Some t) o q = function_by_type (slice_get types_ t) o q

defined_bare : (p : Program) (i : ℕ) → defined_at (bare p) i ≡ option_map bare_function (defined_at p i)
defined_bare p i =
    ap₂ (λ o q. option_then (slice_get p.module_.functions i) (λ t. option_then (slice_get p.module_.types t) (λ type. option_then o (λ b. option_map (λ tree. defined b tree type) q)))) (slice_get-map body_code p.module_.bodies i) (slice_get-map bare_tree p.trees i)
    ∙ function_by_index p.module_.types (slice_get p.module_.functions i) (slice_get p.module_.bodies i) (slice_get p.trees i)

imported_by_type : (i : Import) (o : Option FuncType) → option_map (imported i) o ≡ option_map bare_function (option_map (imported i) o)
imported_by_type i None = refl
imported_by_type i (Some type) = refl

imported_by : (types_ : List FuncType) (o : Option Import) → option_then o (λ i. option_map (imported i) (slice_get types_ i.ftype)) ≡ option_map bare_function (option_then o (λ i. option_map (imported i) (slice_get types_ i.ftype)))
imported_by types_ None = refl
imported_by types_ (Some i) = imported_by_type i (slice_get types_ i.ftype)

function_if : (q : Bool) (a b a' b' : Option Function) → a' ≡ option_map bare_function a → b' ≡ option_map bare_function b → (if q then a' else b') ≡ option_map bare_function (if q then a else b)
function_if true a b a' b' e d = e
function_if false a b a' b' e d = d

pub function_bare : (p : Program) (f : ℕ) → function_at (bare p) f ≡ option_map bare_function (function_at p f)
function_bare p f =
    let n = length p.module_.imports in
    function_if (nat_lt f n) (imported_at p.module_ f) (defined_at p (f - n)) (imported_at (code_alone p.module_) f) (defined_at (bare p) (f - n)) (imported_by p.module_.types (slice_get p.module_.imports f)) (defined_bare p (f - n))

-- ---- moves inside a frame

arrive_bare : (vs : List Value) (ls : List Label) → arrive vs (map bare_label ls) ≡ bare_went (arrive vs ls)
arrive_bare vs [] = refl
arrive_bare vs (l ∷ ls) = refl

arrive_some_bare : (o : Option (List Value)) (ls : List Label) → arrive_some o (map bare_label ls) ≡ bare_went (arrive_some o ls)
arrive_some_bare None ls = refl
arrive_some_bare (Some vs) ls = arrive_bare vs ls

out_some_bare : (o : Option (List Value)) → out_some o ≡ bare_went (out_some o)
out_some_bare None = refl
out_some_bare (Some vs) = refl

leave_bare : (k : Kind) (vs : List Value) (ls : List Label) → leave (bare_kind k) vs (map bare_label ls) ≡ bare_went (leave k vs ls)
leave_bare (leaves t) vs ls = arrive_some_bare (exactly t vs) ls
leave_bare (again at t body end) vs ls = arrive_some_bare (exactly t vs) ls
leave_bare (returns t) vs ls = out_some_bare (exactly t vs)

loops_bare : (at : ℕ) (t : Option ValType) (body : Nodes) (end : ℕ) (ls : List Label) → loops 0 t (bare_nodes body) 0 (map bare_label ls) ≡ bare_went (loops at t body end ls)
loops_bare at t body end [] = refl
loops_bare at t body end (l ∷ ls) = refl

land_bare : (k : Kind) (vs : List Value) (ls : List Label) → land (bare_kind k) vs (map bare_label ls) ≡ bare_went (land k vs ls)
land_bare (leaves t) vs ls = arrive_some_bare (top t vs) ls
land_bare (again at t body end) vs ls = loops_bare at t body end ls
land_bare (returns t) vs ls = out_some_bare (top t vs)

branch_bare : (n : ℕ) (vs : List Value) (ls : List Label) → branch n vs (map bare_label ls) ≡ bare_went (branch n vs ls)
branch_bare n vs [] = refl
branch_bare zero vs (l ∷ ls) = land_bare l.kind vs ls
branch_bare (suc n) vs (l ∷ ls) = branch_bare n vs ls

carried_bare : (k : Kind) → carried_by (bare_kind k) ≡ carried_by k
carried_bare (leaves t) = refl
carried_bare (again at t body end) = refl
carried_bare (returns t) = refl

carry_bare : (n : ℕ) (ls : List Label) → carry n (map bare_label ls) ≡ carry n ls
carry_bare n [] = refl
carry_bare zero (l ∷ ls) = ap Some (carried_bare l.kind)
carry_bare (suc n) (l ∷ ls) = carry_bare n ls

-- ---- steps

abbrev pub bare_engine : Engine → Engine
bare_engine M = record { program = bare M.program; collects = M.collects; depth = M.depth }

module _ (M : Engine) where
  abbrev N : Engine
  N = bare_engine M

  goes_to_bare : (x : Went) (f : Frame) (fs : List Frame) (w : World) (co : List CollectorCall) → goes_to N (bare_went x) (bare_frame f) (map bare_frame fs) w co ≡ bare_stepped (goes_to M x f fs w co)
  goes_to_bare (inside ls) f fs w co = refl
  goes_to_bare (outside vs) f fs w co = refl
  goes_to_bare nowhere f fs w co = refl

  deliver_bare : (vs : List Value) (fs : List Frame) (w : World) (co : List CollectorCall) → deliver N vs (map bare_frame fs) w co ≡ bare_stepped (deliver M vs fs w co)
  deliver_bare vs [] w co = refl
  deliver_bare vs (f ∷ fs) w co = ap (λ x. goes_to N x (bare_frame f) (map bare_frame fs) w co) (arrive_bare vs f.labels) ∙ goes_to_bare (arrive vs f.labels) f fs w co

  moved_bare : (x : Went) (f : Frame) (fs : List Frame) (w : World) (co : List CollectorCall) → moved N (bare_went x) (bare_frame f) (map bare_frame fs) w co ≡ bare_stepped (moved M x f fs w co)
  moved_bare (inside ls) f fs w co = refl
  moved_bare (outside vs) f fs w co = deliver_bare vs fs w co
  moved_bare nowhere f fs w co = refl

  -- a move that is the same but for offsets
  moved_same : (x' x : Went) (f : Frame) (fs : List Frame) (w : World) (co : List CollectorCall) → x' ≡ bare_went x → moved N x' (bare_frame f) (map bare_frame fs) w co ≡ bare_stepped (moved M x f fs w co)
  moved_same x' x f fs w co e = ap (λ y. moved N y (bare_frame f) (map bare_frame fs) w co) e ∙ moved_bare x f fs w co

  moved_if_bare : (q : Bool) (x' x : Went) (f : Frame) (fs : List Frame) (w : World) (co : List CollectorCall) → x' ≡ bare_went x → moved_if N q x' (bare_frame f) (map bare_frame fs) w co ≡ bare_stepped (moved_if M q x f fs w co)
  moved_if_bare false x' x f fs w co e = refl
  moved_if_bare true x' x f fs w co e = moved_same x' x f fs w co e

  module _ (f : Frame) (l : Label) (ls : List Label) (fs : List Frame) (w : World) (co : List CollectorCall) where
    host_bare : (A : Answer) (call : HostCall) (below : List Value) (rest : Nodes) → host N A call below (bare_nodes rest) (bare_frame f) (bare_label l) (map bare_label ls) (map bare_frame fs) w co ≡ bare_stepped (host M A call below rest f l ls fs w co)
    host_bare (replied w' v) call below rest = refl
    host_bare (told k) call below rest = refl
    host_bare silent call below rest = refl
    host_bare (misfit reply) call below rest = refl

    enters_bare : (q : Bool) (new : Frame) (below : List Value) (at : ℕ) (rest : Nodes) → enters N q (bare_frame new) below 0 (bare_nodes rest) (bare_frame f) (bare_label l) (map bare_label ls) (map bare_frame fs) w co ≡ bare_stepped (enters M q new below at rest f l ls fs w co)
    enters_bare false new below at rest = refl
    enters_bare true new below at rest = refl

    applied_bare : (fn : Function) (g : ℕ) (args below : List Value) (at : ℕ) (rest : Nodes) → applied N (bare_function fn) g args below 0 (bare_nodes rest) (bare_frame f) (bare_label l) (map bare_label ls) (map bare_frame fs) w co ≡ bare_stepped (applied M fn g args below at rest f l ls fs w co)
    applied_bare (imported i type) g args below at rest = host_bare (answer M.collects M.program.module_ (host_call g i type args) w) (host_call g i type args) below rest
    applied_bare (defined b tree type) g args below at rest =
        let new = entered g b tree type args in
        ap (λ n. enters N (nat_lt (suc n) M.depth) (bare_frame new) below 0 (bare_nodes rest) (bare_frame f) (bare_label l) (map bare_label ls) (map bare_frame fs) w co) (length-map fs bare_frame)
        ∙ enters_bare (nat_lt (suc (length fs)) M.depth) new below at rest

    applied_if_bare : (q : Bool) (fn : Function) (g : ℕ) (args below : List Value) (at : ℕ) (rest : Nodes) → applied_if N q (bare_function fn) g args below 0 (bare_nodes rest) (bare_frame f) (bare_label l) (map bare_label ls) (map bare_frame fs) w co ≡ bare_stepped (applied_if M q fn g args below at rest f l ls fs w co)
    applied_if_bare false fn g args below at rest = refl
    applied_if_bare true fn g args below at rest = applied_bare fn g args below at rest

    type_bare : (fn : Function) → function_type (bare_function fn) ≡ function_type fn
    type_bare (imported i type) = refl
    type_bare (defined b tree type) = refl

    calls_on_bare : (fn : Function) (g : ℕ) (u : Cut) (at : ℕ) (rest : Nodes) → calls_on N (bare_function fn) g u 0 (bare_nodes rest) (bare_frame f) (bare_label l) (map bare_label ls) (map bare_frame fs) w co ≡ bare_stepped (calls_on M fn g u at rest f l ls fs w co)
    calls_on_bare fn g short at rest = refl
    calls_on_bare fn g (parts vs below) at rest =
        ap (λ t. applied_if N (same_types (types (reverse vs)) t.params) (bare_function fn) g (reverse vs) below 0 (bare_nodes rest) (bare_frame f) (bare_label l) (map bare_label ls) (map bare_frame fs) w co) (type_bare fn)
        ∙ applied_if_bare (same_types (types (reverse vs)) (function_type fn).params) fn g (reverse vs) below at rest

    calls_bare : (o : Option Function) (g : ℕ) (vs : List Value) (at : ℕ) (rest : Nodes) → calls N (option_map bare_function o) g vs 0 (bare_nodes rest) (bare_frame f) (bare_label l) (map bare_label ls) (map bare_frame fs) w co ≡ bare_stepped (calls M o g vs at rest f l ls fs w co)
    calls_bare None g vs at rest = refl
    calls_bare (Some fn) g vs at rest =
        ap (λ t. calls_on N (bare_function fn) g (cut (length t.params) vs) 0 (bare_nodes rest) (bare_frame f) (bare_label l) (map bare_label ls) (map bare_frame fs) w co) (type_bare fn)
        ∙ calls_on_bare fn g (cut (length (function_type fn).params) vs) at rest

    calls_at : (g : ℕ) (vs : List Value) (at : ℕ) (rest : Nodes) → calls N (function_at (bare M.program) g) g vs 0 (bare_nodes rest) (bare_frame f) (bare_label l) (map bare_label ls) (map bare_frame fs) w co ≡ bare_stepped (calls M (function_at M.program g) g vs at rest f l ls fs w co)
    calls_at g vs at rest =
        ap (λ o. calls N o g vs 0 (bare_nodes rest) (bare_frame f) (bare_label l) (map bare_label ls) (map bare_frame fs) w co) (function_bare M.program g) ∙ calls_bare (function_at M.program g) g vs at rest

    calls_if_bare : (q : Option Bool) (g : ℕ) (vs : List Value) (at : ℕ) (rest : Nodes) → calls_if N q g vs 0 (bare_nodes rest) (bare_frame f) (bare_label l) (map bare_label ls) (map bare_frame fs) w co ≡ bare_stepped (calls_if M q g vs at rest f l ls fs w co)
    calls_if_bare None g vs at rest = refl
    calls_if_bare (Some false) g vs at rest = refl
    calls_if_bare (Some true) g vs at rest = calls_at g vs at rest

    calls_entry_bare : (q : Option (Option ℕ)) (type : FuncType) (vs : List Value) (at : ℕ) (rest : Nodes) → calls_entry N q type vs 0 (bare_nodes rest) (bare_frame f) (bare_label l) (map bare_label ls) (map bare_frame fs) w co ≡ bare_stepped (calls_entry M q type vs at rest f l ls fs w co)
    calls_entry_bare None type vs at rest = refl
    calls_entry_bare (Some None) type vs at rest = refl
    calls_entry_bare (Some (Some g)) type vs at rest = calls_if_bare (fits_entry M type g) g vs at rest

    calls_typed_bare : (t : Option FuncType) (q : Option (Option ℕ)) (vs : List Value) (at : ℕ) (rest : Nodes) → calls_typed N t q vs 0 (bare_nodes rest) (bare_frame f) (bare_label l) (map bare_label ls) (map bare_frame fs) w co ≡ bare_stepped (calls_typed M t q vs at rest f l ls fs w co)
    calls_typed_bare None q vs at rest = refl
    calls_typed_bare (Some type) q vs at rest = calls_entry_bare q type vs at rest

    calls_indirect_bare : (t : ℕ) (vs : List Value) (at : ℕ) (rest : Nodes) → calls_indirect N t vs 0 (bare_nodes rest) (bare_frame f) (bare_label l) (map bare_label ls) (map bare_frame fs) w co ≡ bare_stepped (calls_indirect M t vs at rest f l ls fs w co)
    calls_indirect_bare t [] at rest = refl
    calls_indirect_bare t (values.I64 n ∷ vs) at rest = refl
    calls_indirect_bare t (values.I32 n ∷ vs) at rest = calls_typed_bare (slice_get M.program.module_.types t) (slice_get w.table n) vs at rest

    branch_if_bare : (n : ℕ) (vs : List Value) (rest : Nodes) → branch_if N n vs (bare_nodes rest) (bare_frame f) (bare_label l) (map bare_label ls) (map bare_frame fs) w co ≡ bare_stepped (branch_if M n vs rest f l ls fs w co)
    branch_if_bare n [] rest = refl
    branch_if_bare n (values.I64 c ∷ vs) rest = refl
    branch_if_bare n (values.I32 zero ∷ vs) rest = refl
    branch_if_bare n (values.I32 (suc c) ∷ vs) rest = moved_same (branch n vs (map bare_label (l ∷ ls))) (branch n vs (l ∷ ls)) f fs w co (branch_bare n vs (l ∷ ls))

    branch_table_bare : (ts : List ℕ) (d : ℕ) (vs : List Value) → branch_table N ts d vs (bare_frame f) (bare_label l) (map bare_label ls) (map bare_frame fs) w co ≡ bare_stepped (branch_table M ts d vs f l ls fs w co)
    branch_table_bare ts d [] = refl
    branch_table_bare ts d (values.I64 n ∷ vs) = refl
    branch_table_bare ts d (values.I32 n ∷ vs) =
        ap₂ (λ a b. moved_if N (same_carry a b) (branch (pick ts d n) vs (map bare_label (l ∷ ls))) (bare_frame f) (map bare_frame fs) w co) (carry_bare (pick ts d n) (l ∷ ls)) (carry_bare d (l ∷ ls))
        ∙ moved_if_bare (same_carry (carry (pick ts d n) (l ∷ ls)) (carry d (l ∷ ls))) (branch (pick ts d n) vs (map bare_label (l ∷ ls))) (branch (pick ts d n) vs (l ∷ ls)) f fs w co (branch_bare (pick ts d n) vs (l ∷ ls))

    jumps_bare : (j : Jump) (at : ℕ) (rest : Nodes) → jumps N j 0 (bare_nodes rest) (bare_frame f) (bare_label l) (map bare_label ls) (map bare_frame fs) w co ≡ bare_stepped (jumps M j at rest f l ls fs w co)
    jumps_bare Unreachable at rest = refl
    jumps_bare (Br n) at rest = moved_same (branch n l.operands (map bare_label (l ∷ ls))) (branch n l.operands (l ∷ ls)) f fs w co (branch_bare n l.operands (l ∷ ls))
    jumps_bare (BrIf n) at rest = branch_if_bare n l.operands rest
    jumps_bare (BrTable ts d) at rest = branch_table_bare ts d l.operands
    jumps_bare Return at rest = moved_same (out_some (top f.result l.operands)) (out_some (top f.result l.operands)) f fs w co (out_some_bare (top f.result l.operands))
    jumps_bare (Call g) at rest = calls_at g l.operands at rest
    jumps_bare (CallIndirect t) at rest = calls_indirect_bare t l.operands at rest

    affects_bare : (x : Effect) (below : List Value) (rest : Nodes) → affects N x below (bare_nodes rest) (bare_frame f) (bare_label l) (map bare_label ls) (map bare_frame fs) w co ≡ bare_stepped (affects M x below rest f l ls fs w co)
    affects_bare (gives w' locals vs) below rest = refl
    affects_bare (fails kind) below rest = refl
    affects_bare unfit below rest = refl

    does_bare : (i : Basic) (u : Cut) (rest : Nodes) → does N i u (bare_nodes rest) (bare_frame f) (bare_label l) (map bare_label ls) (map bare_frame fs) w co ≡ bare_stepped (does M i u rest f l ls fs w co)
    does_bare i short rest = refl
    does_bare i (parts vs below) rest = affects_bare (effect i w f.locals vs) below rest

    chooses_bare : (vs : List Value) (t : Option ValType) (a : Nodes) (ea : Option ℕ) (b : Nodes) (en : ℕ) (rest : Nodes) → chooses N vs t (bare_nodes a) (option_map (λ at. 0) ea) (bare_nodes b) 0 (bare_nodes rest) (bare_frame f) (bare_label l) (map bare_label ls) (map bare_frame fs) w co ≡ bare_stepped (chooses M vs t a ea b en rest f l ls fs w co)
    chooses_bare [] t a ea b en rest = refl
    chooses_bare (values.I64 c ∷ vs) t a ea b en rest = refl
    chooses_bare (values.I32 zero ∷ vs) t a ea b en rest = refl
    chooses_bare (values.I32 (suc c) ∷ vs) t a ea b en rest =
        ap (λ e. opens_arm N t (bare_nodes a) e vs (bare_nodes rest) (bare_frame f) (bare_label l) (map bare_label ls) (map bare_frame fs) w co) (ends_zero ea)

    runs_bare : (n : Nodes) → runs N (bare_nodes n) (bare_frame f) (bare_label l) (map bare_label ls) (map bare_frame fs) w co ≡ bare_stepped (runs M n f l ls fs w co)
    runs_bare stop = moved_same (leave (bare_kind l.kind) l.operands (map bare_label ls)) (leave l.kind l.operands ls) f fs w co (leave_bare l.kind l.operands ls)
    runs_bare (basic at i rest) = does_bare i (cut (takes i) l.operands) rest
    runs_bare (jump at j rest) = jumps_bare j at rest
    runs_bare (block at t body end rest) = refl
    runs_bare (loop at t body end rest) = refl
    runs_bare (choose at t a ea b end rest) = chooses_bare l.operands t a ea b end rest

  in_frame_bare : (ls : List Label) (f : Frame) (fs : List Frame) (w : World) (co : List CollectorCall) → in_frame N (map bare_label ls) (bare_frame f) (map bare_frame fs) w co ≡ bare_stepped (in_frame M ls f fs w co)
  in_frame_bare [] f fs w co = refl
  in_frame_bare (l ∷ ls) f fs w co = runs_bare f l ls fs w co l.nodes

  steps_bare : (fs : List Frame) (w : World) (co : List CollectorCall) → steps N (map bare_frame fs) w co ≡ bare_stepped (steps M fs w co)
  steps_bare [] w co = refl
  steps_bare (f ∷ fs) w co = in_frame_bare f.labels f fs w co

  -- a step without offsets
  pub step_bare : (c : Config) → step N (bare_config c) ≡ bare_stepped (step M c)
  step_bare c = steps_bare c.frames c.world c.collected
