-- From a valid program within the limits to the simulation.
use Rattle.std.proofs.Common.{◌≡◌, ℕ, zero, suc, ◌+◌, ◌*◌, ◌<◌, ◌≤◌, ◌==◌, List, [], ◌∷◌, ◌++◌, length, map, Option, Some, None, Bool, true, false, refl, sym, ap, ◌∙◌, subst, arith, length-append, ◌⊎◌, inl, inr, slice_get, option_map, if◌then◌else◌, take, drop, replicate, leb-true, length-drop, length-take-le, unwrap_or, true≢false, subst₂, mul-le-mul}
use Rattle.wasm_syntax.specs.declared.parts.Body.{Body}
use Rattle.wasm_syntax.specs.Tree.{Unreachable, Br, BrIf, BrTable, Return, Call, CallIndirect, Nodes, stop, basic, jump, block, loop, choose, Tree}
use Rattle.wasm_syntax.specs.declared.module.ModuleParts.{ModuleParts as Module}
use Rattle.wasm_syntax.specs.Module.{Program, AllWrite, function_export}
use Rattle.wasm_syntax.specs.declared.host.Reply.{Reply}
use Rattle.rewrite_bodies.specs.calls.Slots.{greatest}
use Rattle.rewrite_bodies.specs.Numbering.{place_in, helped, uses, distinct, is_in, global_types}
use Rattle.rewrite_bodies.specs.calls.Rewrite.{body}
use Rattle.linear_memory.specs.Memory.{Memory}
use Rattle.std.proofs.lemmas.List.{length-map, length-replicate}
use Rattle.wasm_syntax.specs.declared.parts.ElementSeg.{ElementSeg}
use Rattle.rewrite_bodies.specs.calls.Agreement.{Has, MemoryFits, byte_count, WorldFits}
use Rattle.rewrite_bodies.specs.calls.Known.{HasLeast}
use Rattle.std.proofs.lemmas.Bool.{eqb-true, eq-eqb}
use Rattle.std.specs.Prelude.{flat_map, fold, min}
use Rattle.rewrite_modules.specs.calls.Instrument.{memory_min, instrument, new_module}
use Rattle.rewrite_modules.proofs.SlotMultiple.{slot_multiple}
use Rattle.rewrite_modules.proofs.Bounds.{Static}
use Rattle.std.specs.List.{AllByRecursion}
use Rattle.wasm_syntax.specs.declared.parts.DataSeg.{DataSeg}
use Rattle.wasm_syntax.specs.declared.parts.Limits.{Limits}
use Rattle.wasm_syntax.specs.Run.{Cause, Ran, Invocation, not_begun, first_false, table_min, start_table, element_at, empty_memory, memory_bytes, data_at, element_fits, data_fits, by_data, by_element, cause_of, cause_of_entry, cause_of_segments, invoked, goes_on, fresh, session, unless, engine, run, start_world}
use Rattle.wasm_syntax.specs.Run as runs_
use Rattle.rewrite_bodies.proofs.Doubled.{over_len, AllTrue, first_is_start}
use Rattle.rewrite_modules.specs.Simulates.{AllAlike, Simulates, NoneDeep}
use Rattle.rewrite_modules.specs.Flag.{LowersFlag}
use Rattle.rewrite_modules.specs.Entries.{Target, Named, Entry, Calling, calling, cause_of_calls, call_session, unless_cause, run_calls, Reaches, AllReach, SimulatesEntries, EntriesLowerFlag}
use Rattle.rewrite_modules.proofs.Listed.{listed_below}
use Rattle.rewrite_modules.proofs.BareRuns.{session_some, session_none}
use Rattle.rewrite_modules.proofs.BareCalls.{calls_some, calls_none}
use Rattle.wasm_syntax.specs.declared.value.Value.{Value}
use Rattle.wasm_syntax.specs.Machine.{Engine}
use Rattle.wasm_syntax.specs.Host.{World}
use Rattle.rewrite_modules.proofs.Followed.{AllFollowed, all_alike, all_down, down_before, not_begun_down}
use Rattle.rewrite_modules.proofs.Links.{Ready}
use Rattle.rewrite_modules.proofs.Start.{segments_same, unnamed}
use Rattle.rewrite_modules.proofs.Final.{Fits}
use Rattle.wasm_laws.proofs.Never.{Startable}
use Rattle.rewrite_modules.proofs.Sessions.{Follows_all, follows_all}
use Rattle.rewrite_modules.specs.calls.Given.{SmallCode, Given}
use Rattle.wasm_laws.proofs.Validity.{startable, has_type}
use Rattle.std.specs.Option.{option_or}

-- ---- the types that are asked for have helpers

abbrev In : ℕ → List ℕ → Type 0
In t [] = ⊥
In t (u ∷ us) = (t ≡ u) ⊎ In t us

in_left : (t : ℕ) (xs ys : List ℕ) → In t xs → In t (xs ++ ys)
in_left t [] ys h = absurd h
in_left t (x ∷ xs) ys (inl e) = inl e
in_left t (x ∷ xs) ys (inr h) = inr (in_left t xs ys h)

in_right : (t : ℕ) (xs ys : List ℕ) → In t ys → In t (xs ++ ys)
in_right t [] ys h = h
in_right t (x ∷ xs) ys h = inr (in_right t xs ys h)

in_true : (t : ℕ) (xs : List ℕ) → is_in t xs ≡ true → In t xs
in_true t [] e = absurd (cc)
in_true t (x ∷ xs) e = by (t == x) refl e (in_true t xs)
  where
    by : (q : Bool) → (t == x) ≡ q → (if q then true else is_in t xs) ≡ true → (is_in t xs ≡ true → In t xs) → In t (x ∷ xs)
    by true q e ih = inl (eqb-true t x q)
    by false q e ih = inr (ih e)

in_distinct : (t : ℕ) (xs : List ℕ) → In t xs → In t (distinct xs)
in_distinct t [] h = absurd h
in_distinct t (x ∷ xs) h = by (is_in x (distinct xs)) refl h (in_distinct t xs)
  where
    by : (q : Bool) → is_in x (distinct xs) ≡ q → In t (x ∷ xs) → (In t xs → In t (distinct xs)) → In t (if q then distinct xs else x ∷ distinct xs)
    by true q (inl e) ih = subst (λ z. In z (distinct xs)) (sym e) (in_true x (distinct xs) q)
    by true q (inr h) ih = ih h
    by false q (inl e) ih = inl e
    by false q (inr h) ih = inr (ih h)

has_in : (t : ℕ) (xs : List ℕ) → In t xs → Has t xs
has_in t [] h = absurd h
has_in t (x ∷ xs) h = by (t == x) refl h (has_in t xs)
  where
    by : (q : Bool) → (t == x) ≡ q → In t (x ∷ xs) → (In t xs → Has t xs) → (if q then 0 else suc (place_in t xs)) < suc (length xs)
    by true q h ih = omega arith
    by false q (inl e) ih = absurd (true≢false (sym (eq-eqb t x e) ∙ q))
    by false q (inr h) ih = let z = ih h in omega (arith, z)

in_trees : (t f : ℕ) (trees : List Tree) (tree : Tree) → slice_get trees f ≡ Some tree → In t (uses tree.nodes) → In t (flat_map (λ tree. uses tree.nodes) trees)
in_trees t f [] tree e h = absurd (cc)
in_trees t zero (x ∷ trees) tree e h = let z : x ≡ tree = cc in in_left t (uses x.nodes) _ (subst (λ y. In t (uses y.nodes)) (sym z) h)
in_trees t (suc f) (x ∷ trees) tree e h = in_right t (uses x.nodes) _ (in_trees t f trees tree e h)

static_of : (hs : List ℕ) (nodes : Nodes) → SmallCode nodes → ((t : ℕ) → In t (uses nodes) → Has t hs) → Static hs nodes
static_of hs stop s h = tt
static_of hs (basic o i rest) s h = (s.0, static_of hs rest s.1 h)
static_of hs (jump o Unreachable rest) s h = static_of hs rest s h
static_of hs (jump o (Br l) rest) s h = static_of hs rest s h
static_of hs (jump o (BrIf l) rest) s h = static_of hs rest s h
static_of hs (jump o (BrTable ts d) rest) s h = static_of hs rest s h
static_of hs (jump o Return rest) s h = static_of hs rest s h
static_of hs (jump o (Call f) rest) s h = static_of hs rest s h
static_of hs (jump o (CallIndirect t) rest) s h = (h t (inl refl), static_of hs rest s (λ u q. h u (inr q)))
static_of hs (block o t inner en rest) s h = (static_of hs inner s.0 (λ u q. h u (in_left u (uses inner) (uses rest) q)), static_of hs rest s.1 (λ u q. h u (in_right u (uses inner) (uses rest) q)))
static_of hs (loop o t inner en rest) s h = (static_of hs inner s.0 (λ u q. h u (in_left u (uses inner) (uses rest) q)), static_of hs rest s.1 (λ u q. h u (in_right u (uses inner) (uses rest) q)))
static_of hs (choose o t a ea b en rest) s h =
    (static_of hs a s.0 (λ u q. h u (in_left u (uses a) (uses b ++ uses rest) q)), static_of hs b s.1 (λ u q. h u (in_right u (uses a) (uses b ++ uses rest) (in_left u (uses b) (uses rest) q))), static_of hs rest s.2 (λ u q. h u (in_right u (uses a) (uses b ++ uses rest) (in_right u (uses b) (uses rest) q))))

-- ---- the first memory has whole pages

all_true : (n : ℕ) (bs : List Bool) → first_false n bs ≡ None → AllTrue bs
all_true n [] e = tt
all_true n (true ∷ bs) e = (refl, all_true (suc n) bs e)
all_true n (false ∷ bs) e = absurd (cc)

elements_true : (m : Module) (q : Option ℕ) → by_element m q ≡ None → q ≡ None
elements_true m None e = refl
elements_true m (Some i) e = absurd (cc)

segments_true : (m : Module) (q : Option ℕ) → by_element m q ≡ None → first_false 0 (map (data_fits m) m.segments) ≡ None
segments_true m None e = data_none (first_false 0 (map (data_fits m) m.segments)) e
  where
    data_none : (q : Option ℕ) → by_data q ≡ None → q ≡ None
    data_none None e = refl
    data_none (Some i) e = absurd (cc)
segments_true m (Some i) e = absurd (cc)

module _ (m : Module) where
  filled : (ss : List DataSeg) (k : Memory) (n : ℕ) → length k.bytes ≡ n → n ≡ length (memory_bytes (empty_memory m.memories)) → AllTrue (map (data_fits m) ss) → (length (fold (λ k s. record k { bytes = runs_.over k.bytes (data_at m s) s.bytes }) k ss).bytes ≡ n) × ((fold (λ k s. record k { bytes = runs_.over k.bytes (data_at m s) s.bytes }) k ss).max ≡ k.max)
  filled [] k n e n' h = (e, refl)
  filled (s ∷ ss) k n e n' h =
      let le : data_at m s + length s.bytes ≤ length (memory_bytes (empty_memory m.memories)) = leb-true _ _ h.0 in
      let z : length (runs_.over k.bytes (data_at m s) s.bytes) ≡ n = over_len k.bytes s.bytes (data_at m s) (omega (arith, le, e, n')) ∙ e in
      filled ss (record k { bytes = runs_.over k.bytes (data_at m s) s.bytes }) n z n' h.1

  abbrev FewPages : List Limits → Type 0
  FewPages [] = Unit {0}
  FewPages (l ∷ ls) = l.min ≤ 4096

  abbrev start_of : Option Memory → Option Memory
  start_of o = option_map (λ memory. fold (λ k s. record k { bytes = runs_.over k.bytes (data_at m s) s.bytes }) memory m.segments) o

  abbrev first_memory : Limits → Memory
  first_memory l = record { bytes = replicate (65536 * l.min) 0; max = min 4096 (unwrap_or l.max 4096) }

  abbrev with_data : Memory → Memory
  with_data memory = fold (λ k s. record k { bytes = runs_.over k.bytes (data_at m s) s.bytes }) memory m.segments

  -- the memory has its least pages, and no more
  start_bytes : (l : Limits) (ls : List Limits) → m.memories ≡ l ∷ ls → AllTrue (map (data_fits m) m.segments) → (length (with_data (first_memory l)).bytes ≡ 65536 * l.min) × ((with_data (first_memory l)).max ≡ (first_memory l).max)
  start_bytes l ls e a =
      let k = first_memory l in
      let n : length k.bytes ≡ 65536 * l.min = length-replicate {A = ℕ} (65536 * l.min) 0 in
      let same : length k.bytes ≡ length (memory_bytes (empty_memory m.memories)) = ap (λ z. length (memory_bytes (empty_memory z))) (sym e) in
      filled m.segments k (65536 * l.min) n (sym n ∙ same) a

  memory_by : (ls : List Limits) → m.memories ≡ ls → FewPages ls → AllTrue (map (data_fits m) m.segments) → MemoryFits (start_of (empty_memory ls))
  memory_by [] e h a = tt
  memory_by (l ∷ ls) e h a = let x = start_bytes l ls e a in (l.min, x.0, omega (arith, h), omega (arith, x.1))

  least_by : (ls : List Limits) → m.memories ≡ ls → AllTrue (map (data_fits m) m.segments) → HasLeast ls (start_of (empty_memory ls))
  least_by [] e a = tt
  least_by (l ∷ ls) e a = let x = start_bytes l ls e a in omega (arith, x.0)

  length_by : (ls : List Limits) → m.memories ≡ ls → AllTrue (map (data_fits m) m.segments) → byte_count (start_of (empty_memory ls)) ≡ 65536 * memory_min ls
  length_by [] e a = refl
  length_by (l ∷ ls) e a = (start_bytes l ls e a).0

-- ---- what validity, the limits and the collisions give

same_count : (bodies : List Body) (trees : List Tree) → AllWrite bodies trees → length trees ≡ length bodies
same_count [] [] w = refl
same_count [] (tree ∷ trees) w = absurd w
same_count (body ∷ bodies) [] w = absurd w
same_count (body ∷ bodies) (tree ∷ trees) w = ap suc (same_count bodies trees w.1)

few_pages : (m : Module) (ls : List Limits) → AllByRecursion (λ l. l.min ≤ 4096) ls → FewPages m ls
few_pages m [] h = tt
few_pages m (l ∷ ls) h = h.0

pub startable_given : (p : Program) → Given p → Startable p
startable_given p g = startable p g.program g.as_many g.valid

pub ready_given : (p : Program) → Given p → Ready p
ready_given p g = record { bodies = g.as_many; trees = same_count p.module_.bodies p.trees g.program ∙ g.as_many; imports = g.no_collision; static = λ f tree e. static_of (helped p) tree.nodes (g.small f tree e) (λ t h. has_in t (helped p) (in_distinct t (flat_map (λ tree. uses tree.nodes) p.trees) (in_trees t f p.trees tree e h))) }

-- where an instance starts, its world agrees
pub starts_fit : (p : Program) → Given p → (d : ℕ) (replies : List Reply) → cause_of_segments p.module_ ≡ None → WorldFits (engine p false d) (global_types p.module_) (start_world p.module_ replies)
starts_fit p g d replies e =
    let s = startable_given p g in
    record {
      globals = (s.world []).globals;
      memory = memory_by p.module_ p.module_.memories refl (few_pages p.module_ p.module_.memories g.pages) (all_true 0 _ (segments_true p.module_ (first_false 0 (map (element_fits p.module_) p.module_.elements)) e));
      least = least_by p.module_ p.module_.memories refl (all_true 0 _ (segments_true p.module_ (first_false 0 (map (element_fits p.module_) p.module_.elements)) e));
      table = first_is_start p.module_ (all_true 0 _ (elements_true p.module_ (first_false 0 (map (element_fits p.module_) p.module_.elements)) e));
    }

pub fits_given : (p : Program) → Given p → length p.module_.globals ≤ 20000000 → Fits p
fits_given p g few =
    let s = startable_given p g in
    record {
      ready = ready_given p g;
      globals = (s.world []).globals;
      memory = λ e. memory_by p.module_ p.module_.memories refl (few_pages p.module_ p.module_.memories g.pages) (all_true 0 _ (segments_true p.module_ (first_false 0 (map (element_fits p.module_) p.module_.elements)) e));
      least = λ e. least_by p.module_ p.module_.memories refl (all_true 0 _ (segments_true p.module_ (first_false 0 (map (element_fits p.module_) p.module_.elements)) e));
      measured = λ e. length_by p.module_ p.module_.memories refl (all_true 0 _ (segments_true p.module_ (first_false 0 (map (element_fits p.module_) p.module_.elements)) e));
      table = λ e. first_is_start p.module_ (all_true 0 _ (elements_true p.module_ (first_false 0 (map (element_fits p.module_) p.module_.elements)) e));
      exported = s.exported;
      listed = λ f e. has_type p.module_ g.valid f (listed_below p.module_ g.valid f e);
      start = s.start;
      few_locals = g.few_locals;
      few_heights = g.few_heights;
      few_globals = few;
    }

-- ---- where nothing can be invoked, both modules say so

-- neither starts
not_started_alike : (flag : ℕ) (c : Cause) (n : ℕ) → AllFollowed flag (not_begun c n ∷ []) (not_begun c n ∷ [])
not_started_alike flag c n = (record { alike = record { begun = refl; host_calls = refl; ends = (refl, refl); state = tt }; down = not_begun_down flag c n }, tt)

enough : (n l f : ℕ) → n ≤ (n + 2 * l) * (200 + 8 * f)
enough n l f = let z : (n + 2 * l) * 1 ≤ (n + 2 * l) * (200 + 8 * f) = mul-le-mul (omega arith) (omega arith) in omega (arith, z)

-- Calls by names and by entries of the table. Calls by names alone are invocations.
module _ (p : Program) (given : Given p) where
  abbrev FollowsHere : List Calling → List Reply → ℕ → ℕ → Type 0
  FollowsHere is replies d n = Follows_all p is replies d n

  -- both have this cause, or both have none and nothing is invoked
  by_cause : (is : List Calling) (replies : List Reply) (d n : ℕ) (c : Cause) → cause_of_calls p.module_ is ≡ Some c → cause_of_calls (new_module p) is ≡ Some c → FollowsHere is replies d n
  by_cause is replies d n c e e' = (
    n,
    omega arith,
    enough n (length is) ((greatest p).0 + (greatest p).1 + length p.module_.globals),
    subst₂ (λ a b. AllFollowed (length p.module_.globals) (unless_cause (engine p false d) a is replies n) (unless_cause (engine (instrument p) true (d + 2)) b is replies n)) (sym e) (sym e') (not_started_alike (length p.module_.globals) c n),
  )

  no_calls : (replies : List Reply) (d n : ℕ) (c : Option Cause) → cause_of_segments p.module_ ≡ c → FollowsHere [] replies d n
  no_calls replies d n (Some c) e = by_cause [] replies d n c e (segments_same p ∙ e)
  no_calls replies d n None e = (
    n,
    omega arith,
    enough n 0 ((greatest p).0 + (greatest p).1 + length p.module_.globals),
    subst₂ (λ a b. AllFollowed (length p.module_.globals) (unless_cause (engine p false d) a [] replies n) (unless_cause (engine (instrument p) true (d + 2)) b [] replies n)) (sym e) (sym (segments_same p ∙ e)) tt,
  )

  with_export : (is : List Calling) → AllReach p.module_ is → (replies : List Reply) (d n : ℕ) → 1 ≤ d → d ≤ 10000 → NoneDeep (run_calls p false is replies d n) → length p.module_.globals ≤ 20000000 → FollowsHere is replies d n
  with_export is r replies d n d1 d2 nd few = follows_all p (fits_given p given few) (startable_given p given) is r replies d n d1 d2 nd

  no_export : (name : List ℕ) (args : List Value) (is : List Calling) (replies : List Reply) (d n : ℕ) → function_export p.module_ name ≡ None → FollowsHere (calling (Named name) args ∷ is) replies d n
  no_export name args is replies d n e =
      by_cause (calling (Named name) args ∷ is) replies d n runs_.no_export (ap (λ q. option_or (cause_of_entry p.module_ q args) (cause_of_calls p.module_ is)) e) (ap (λ q. option_or (cause_of_entry (new_module p) q args) (cause_of_calls (new_module p) is)) (unnamed p name e))

  by_export : (name : List ℕ) (args : List Value) (is : List Calling) → AllReach p.module_ is → (replies : List Reply) (d n : ℕ) (q : Option ℕ) → function_export p.module_ name ≡ q → 1 ≤ d → d ≤ 10000 → NoneDeep (run_calls p false (calling (Named name) args ∷ is) replies d n) → FollowsHere (calling (Named name) args ∷ is) replies d n
  by_export name args is r replies d n None e d1 d2 nd = no_export name args is replies d n e
  by_export name args is r replies d n (Some f) e d1 d2 nd = with_export (calling (Named name) args ∷ is) (tt, r) replies d n d1 d2 nd (given.few_globals name f e)

  by_target : (t : Target) (args : List Value) (is : List Calling) → Reaches p.module_ t → AllReach p.module_ is → (replies : List Reply) (d n : ℕ) → 1 ≤ d → d ≤ 10000 → NoneDeep (run_calls p false (calling t args ∷ is) replies d n) → FollowsHere (calling t args ∷ is) replies d n
  by_target (Named name) args is r rs replies d n d1 d2 nd = by_export name args is rs replies d n (function_export p.module_ name) refl d1 d2 nd
  by_target (Entry i) args is r rs replies d n d1 d2 nd = with_export (calling (Entry i) args ∷ is) (r, rs) replies d n d1 d2 nd (given.few_globals_doubled r.0)

rewriting_follows : (p : Program) → Given p → (is : List Calling) → AllReach p.module_ is → (replies : List Reply) (d n : ℕ) → 1 ≤ d → d ≤ 10000 → NoneDeep (run_calls p false is replies d n) → Follows_all p is replies d n
rewriting_follows p g [] r replies d n d1 d2 nd = no_calls p g replies d n (cause_of_segments p.module_) refl
rewriting_follows p g (i ∷ is) r replies d n d1 d2 nd = by_target p g i.target i.args is r.0 r.1 replies d n d1 d2 nd

-- the rewritten module does what the module does, for every list of calls on one instance
pub entries_simulate : (p : Program) → Given p → SimulatesEntries (slot_multiple p) p (instrument p)
entries_simulate p g is replies d n d1 d2 r nd =
    let x = rewriting_follows p g is r replies d n d1 d2 nd in
    (x.0, x.1, x.2, all_alike (length p.module_.globals) (run_calls p false is replies d n) (run_calls (instrument p) true is replies (d + 2) x.0) x.3)

-- and its flag is down behind each trap
pub entries_lower : (p : Program) → Given p → EntriesLowerFlag p (instrument p)
entries_lower p g is replies d n i k r c d1 d2 reach nd at o l =
    let x = rewriting_follows p g is reach replies d n d1 d2 nd in
    let flag = length p.module_.globals in
    down_before (instrument p) flag is replies (d + 2) n x.0 x.1 (all_down flag (run_calls p false is replies d n) (run_calls (instrument p) true is replies (d + 2) x.0) x.3) i r at k c o l

-- ---- invocations

abbrev by_name : Invocation → Calling
by_name i = calling (Named i.name) i.args

session_named : (M : Engine) (is : List Invocation) (start : Option ℕ) (w : World) (n : ℕ) → session M is start w n ≡ call_session M (map by_name is) start w n
session_named M [] start w n = refl
session_named M (i ∷ is) start w n = by (function_export M.program.module_ i.name) refl (λ v k. session_named M is None v k)
  where
    going : (q : Bool) (r : Ran) → ((v : World) (k : ℕ) → session M is None v k ≡ call_session M (map by_name is) None v k) → (if q then session M is None (fresh r.last w) r.left else []) ≡ (if q then call_session M (map by_name is) None (fresh r.last w) r.left else [])
    going false r ih = refl
    going true r ih = ih (fresh r.last w) r.left

    by : (q : Option ℕ) → function_export M.program.module_ i.name ≡ q → ((v : World) (k : ℕ) → session M is None v k ≡ call_session M (map by_name is) None v k) → session M (i ∷ is) start w n ≡ call_session M (map by_name (i ∷ is)) start w n
    by None e ih = session_none M i is start w n e ∙ sym (calls_none M (by_name i) (map by_name is) start w n e)
    by (Some f) e ih =
        let r = invoked M start n f i.args w in
        session_some M i is start w n f e ∙ ap (λ z. r ∷ z) (going (goes_on r.outcome r.entered) r ih) ∙ sym (calls_some M (by_name i) (map by_name is) start w n f e)

cause_named : (m : Module) (is : List Invocation) → cause_of m is ≡ cause_of_calls m (map by_name is)
cause_named m [] = refl
cause_named m (i ∷ is) = ap (option_or (cause_of_entry m (function_export m i.name) i.args)) (cause_named m is)

unless_named : (M : Engine) (c : Option Cause) (is : List Invocation) (replies : List Reply) (n : ℕ) → unless M c is replies n ≡ unless_cause M c (map by_name is) replies n
unless_named M None is replies n = session_named M is M.program.module_.start (start_world M.program.module_ replies) n
unless_named M (Some c) is replies n = refl

pub run_named : (p : Program) (collecting : Bool) (is : List Invocation) (replies : List Reply) (d n : ℕ) → run p collecting is replies d n ≡ run_calls p collecting (map by_name is) replies d n
run_named p collecting is replies d n =
    ap (λ c. unless (engine p collecting d) c is replies n) (cause_named p.module_ is) ∙ unless_named (engine p collecting d) (cause_of_calls p.module_ (map by_name is)) is replies n

all_named : (m : Module) (is : List Invocation) → AllReach m (map by_name is)
all_named m [] = tt
all_named m (i ∷ is) = (tt, all_named m is)

pub rewriting_simulates : (p : Program) → Given p → Simulates (slot_multiple p) p (instrument p)
rewriting_simulates p g is replies d n d1 d2 nd =
    let cs = map by_name is in
    let x = entries_simulate p g cs replies d n d1 d2 (all_named p.module_ is) (subst NoneDeep (run_named p false is replies d n) nd) in
    let many : length cs ≡ length is = length-map is by_name in
    (x.0, x.1, subst (λ l. x.0 ≤ (n + 2 * l) * slot_multiple p) many x.2, subst₂ AllAlike (sym (run_named p false is replies d n)) (sym (run_named (instrument p) true is replies (d + 2) x.0)) x.3)

pub rewriting_lowers : (p : Program) → Given p → LowersFlag p (instrument p)
rewriting_lowers p g is replies d n i k r c d1 d2 nd at o l =
    entries_lower p g (map by_name is) replies d n i k r c d1 d2 (all_named p.module_ is) (subst NoneDeep (run_named p false is replies d n) nd) (ap (λ rs. slice_get rs i) (sym (run_named (instrument p) true is replies (d + 2) n)) ∙ at) o l
