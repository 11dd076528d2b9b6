-- What the run of a module comes to, from what its parts ensure.
use Rattle.std.proofs.Common.{◌≡◌, ℕ, zero, suc, slice_get, is_some, inl, inr, ◌-◌, Bool, true, false, List, [], ◌∷◌, ◌++◌, length, map, take, refl, sym, ap, ap₂, subst, ◌∙◌, arith, Option, Some, None, Result, Ok, Err}
use Rattle.std.specs.Prelude.{codes, IfOk, option_map, if◌then◌else◌, ◌⊎◌}
use Rattle.wasm_syntax.specs.declared.value.Value.{Value}
use Rattle.wasm_syntax.specs.declared.parts.FuncType.{FuncType}
use Rattle.wasm_syntax.specs.declared.parts.Import.{Import}
use Rattle.wasm_syntax.specs.declared.host.Reply.{Reply}
use Rattle.wasm_syntax.specs.declared.host.Served.{Served}
use Rattle.wasm_syntax.specs.declared.host.CollectorCall.{CollectorCall}
use Rattle.wasm_syntax.specs.declared.module.ModuleParts.{ModuleParts as Module}
use Rattle.wasm_syntax.specs.Module.{Program, IsModule, function_export, type_at, same_types}
use Rattle.wasm_syntax.specs.Numbers.{types}
use Rattle.wasm_syntax.specs.Machine.{Engine, Config}
use Rattle.wasm_syntax.specs.Run.{first_false, Cause, no_export, bad_arguments, cause_of_segments, cause_of_entry, cause_of, if_fits, Ran, not_begun, session, start_world, unless, engine}
use Rattle.host_devices.specs.calls.HostSides.{Calls, Origin}
use Rattle.host_devices.specs.Given.{replies_of}
use Rattle.host_set.specs.Sets.{DeviceState, names, is_named}
use Rattle.host_set.specs.calls.Hosting.{HostsState, origin_of, calls_of, of_script, serves as hosts_serve, replies_of as script_replies}
use Rattle.host_collector.specs.Collecting.{CollectingState, is_told, is_collected, serves}
use Rattle.machine_hosted.specs.declared.answer.RunEnd.{RunEnd}
use Rattle.machine_hosted.specs.declared.answer.RunEnd.TheVariants.{Finished, Trapped, NoReply, BadReply, DeviceFault, FuelSpent, NoMemory}
use Rattle.machine_hosted.specs.calls.Settings.{Knows, world_of}
use Rattle.machine_hosted.specs.calls.Answers.{KeepsThen}
use Rattle.machine_hosted.specs.calls.Invocations.{HasOutcome}
use Rattle.wasm_machine.specs.calls.Entries.{fault_or, unserved, first_unserved, is_served, serves_type, entry_fault}
use Rattle.wasm_machine.specs.calls.Instances.{State, IsNew, IsOf, Invoked}
use Rattle.wasm_machine.specs.calls.Sessions.{HadMemory}
use Rattle.wasm_machine.specs.declared.entries.EntryFault.{EntryFault}
use Rattle.wasm_machine.specs.declared.entries.EntryFault.TheVariants.{NoExport, BadArguments}
use Rattle.wasm_machine.proofs.SessionLaws.{goes_on_behind}
use Rattle.dump_write.specs.Pictured.{bytes_in}
use Rattle.commands.specs.declared.outcome.Outcome.{Outcome}
use Rattle.run_session.specs.Delivery.{Delivery, nothing, Delivers}
use Rattle.run_session.specs.calls.Told.{IsHanded}
use Rattle.run_session.specs.declared.handed.Handed.{Handed}
use Rattle.causes.specs.declared.NoMemory.{NoMemory as WantOfMemory}
use Rattle.run_session.specs.Telling.{memory_in}
use Rattle.selftest_command.specs.Handing.{main_on, fuel, depth, RunsOnce}
use Rattle.selftest_command.specs.inner.Steps.{collected_alone, IsCollected, summary, none_dumped, dumped, Runs}
use Rattle.machine_hosted.proofs.WatchLaws.{admits_none}
use Rattle.run_session.proofs.Invocations.{all_given}
use Rattle.run_session.proofs.Handing.{shares_of, same_memory}
use Rattle.std.specs.Option.{option_or}

-- ---- why nothing is run

-- an entry has no cause that names a segment
entry_causes : (m : Module) (args : List Value) (export : Option ℕ) → (cause_of_entry m export args ≡ None) ⊎ ((cause_of_entry m export args ≡ Some no_export) ⊎ (cause_of_entry m export args ≡ Some bad_arguments))
entry_causes m args None = inr (inl refl)
entry_causes m args (Some f) = by_test (option_map (λ (type : FuncType). same_types type.params (types args)) (type_at m f))
  where
    by_test : (o : Option Bool) → (if_fits o ≡ None) ⊎ ((if_fits o ≡ Some no_export) ⊎ (if_fits o ≡ Some bad_arguments))
    by_test None = inr (inr refl)
    by_test (Some true) = inl refl
    by_test (Some false) = inr (inr refl)

-- where all imports are served, a fault is a cause of the entry
no_fault : (m : Module) (args : List Value) (export : Option ℕ) (o : Option EntryFault) → o ≡ fault_or (cause_of_entry m export args) (unserved None) → o ≡ None → cause_of_entry m export args ≡ None
no_fault m args export o is none = by_cause (entry_causes m args export)
  where
    by_cause : (cause_of_entry m export args ≡ None) ⊎ ((cause_of_entry m export args ≡ Some no_export) ⊎ (cause_of_entry m export args ≡ Some bad_arguments)) → cause_of_entry m export args ≡ None
    by_cause (inl e) = e
    by_cause (inr (inl e)) = let clash : None ≡ Some NoExport = sym none ∙ is ∙ ap (λ c. fault_or c (unserved None)) e in absurd cc
    by_cause (inr (inr e)) = let clash : None ≡ Some BadArguments = sym none ∙ is ∙ ap (λ c. fault_or c (unserved None)) e in absurd cc

some_fault : (m : Module) (args : List Value) (export : Option ℕ) (fault : EntryFault) → Some fault ≡ fault_or (cause_of_entry m export args) (unserved None) → (cause : Cause) × (cause_of_entry m export args ≡ Some cause)
some_fault m args export fault is = by_cause (entry_causes m args export)
  where
    by_cause : (cause_of_entry m export args ≡ None) ⊎ ((cause_of_entry m export args ≡ Some no_export) ⊎ (cause_of_entry m export args ≡ Some bad_arguments)) → (cause : Cause) × (cause_of_entry m export args ≡ Some cause)
    by_cause (inl e) = let clash : Some fault ≡ None = is ∙ ap (λ c. fault_or c (unserved None)) e in absurd cc
    by_cause (inr (inl e)) = (no_export, e)
    by_cause (inr (inr e)) = (bad_arguments, e)

-- ---- the host side

-- a host side without devices and without a script serves nothing
serves_none : (h : HostsState) → h.devices ≡ [] → h.script ≡ None → (i : Import) → hosts_serve h i ≡ false
serves_none h devices script i = ap₂ (λ ds s. if is_named (names ds) i.«module» then true else is_some s) devices script

serving_alone : (h : HostsState) (calls : List CollectorCall) → h.devices ≡ [] → h.script ≡ None → (i : Import) (type : FuncType) → serves (λ h i _. hosts_serve h i) (record { inner = h; calls = calls }) i type ≡ collected_alone i type
serving_alone h calls devices script i type = ap (λ b. if is_told i then is_collected i type else b) (serves_none h devices script i)

same_test : (a b : Import → FuncType → Bool) → ((i : Import) (type : FuncType) → a i type ≡ b i type) → (i : Import) (o : Option FuncType) → serves_type a i o ≡ serves_type b i o
same_test a b same i None = refl
same_test a b same i (Some type) = same i type

same_tests : (a b : Import → FuncType → Bool) → ((i : Import) (type : FuncType) → a i type ≡ b i type) → (m : Module) (is : List Import) → map (is_served a m) is ≡ map (is_served b m) is
same_tests a b same m [] = refl
same_tests a b same m (i ∷ is) = ap₂ (λ x xs. x ∷ xs) (same_test a b same i (slice_get m.types i.ftype)) (same_tests a b same m is)

pub all_served : (m : Module) (h : HostsState) (calls : List CollectorCall) → IsCollected m → h.devices ≡ [] → h.script ≡ None → first_unserved (λ i t. serves (λ h i _. hosts_serve h i) (record { inner = h; calls = calls }) i t) m ≡ None
all_served m h calls collected devices script =
    ap (first_false 0) (same_tests (λ i t. serves (λ h i _. hosts_serve h i) (record { inner = h; calls = calls }) i t) collected_alone (serving_alone h calls devices script) m m.imports) ∙ collected

all_replies : (served : List (List ℕ × Served)) → length (of_script [] served) ≡ length served
all_replies [] = refl
all_replies (s ∷ ss) = ap suc (all_replies ss)

pub none_served : (h : HostsState) → names h.devices ≡ [] → h.script ≡ None → of_script (names h.devices) h.served ≡ take h.given (script_replies h.script) → h.served ≡ []
none_served h devices script scripted =
    by_list h.served
    (sym (all_replies h.served) ∙ ap (λ ns. length (of_script ns h.served)) (sym devices) ∙ ap length scripted ∙ ap (λ s. length (take h.given (script_replies s))) script ∙ taken h.given (script_replies None) refl)
  where
    taken : (k : ℕ) (rs : List Reply) → rs ≡ [] → length (take k rs) ≡ 0
    taken zero rs e = refl
    taken (suc k) [] e = refl
    taken (suc k) (r ∷ rs) e = absurd cc

    by_list : (xs : List (List ℕ × Served)) → length xs ≡ 0 → xs ≡ []
    by_list [] e = refl
    by_list (x ∷ xs) e = absurd (omega (arith, e))

-- ---- where nothing is begun

module _ (n : ℕ) (m : Module) where
  -- a segment that lies outside is a cause, or there is one in front of it
  pub segment_cause : (cause : Cause) → cause_of_segments m ≡ Some cause → (c : Cause) × (cause_of m (main_on n ∷ []) ≡ Some c)
  segment_cause cause is = by_entry (cause_of_entry m (function_export m (codes "main")) (main_on n).args) refl
    where
      by_entry : (c : Option Cause) → cause_of_entry m (function_export m (codes "main")) (main_on n).args ≡ c → (d : Cause) × (cause_of m (main_on n ∷ []) ≡ Some d)
      by_entry None e = (cause, ap (λ x. option_or x (cause_of_segments m)) e ∙ is)
      by_entry (Some other) e = (other, ap (λ x. option_or x (cause_of_segments m)) e)

  -- where all imports are served, so is a fault of the entry
  pub entry_cause : (serving : Import → FuncType → Bool) (fault : EntryFault) → first_unserved serving m ≡ None → Some fault ≡ entry_fault serving m (codes "main") (main_on n).args → (c : Cause) × (cause_of m (main_on n ∷ []) ≡ Some c)
  entry_cause serving fault served is =
      let k = some_fault m (main_on n).args (function_export m (codes "main")) fault (is ∙ ap (λ u. fault_or (cause_of_entry m (function_export m (codes "main")) (main_on n).args) (unserved u)) served) in
      (k.0, ap (λ x. option_or x (cause_of_segments m)) k.1)

-- with a cause the module's run is not begun
abbrev pub once_not_begun : (collecting : Bool) (n : ℕ) (m : Module) (whole : IsModule m) (cause : Cause) → cause_of m (main_on n ∷ []) ≡ Some cause → RunsOnce collecting n m
once_not_begun collecting n m whole cause is =
    let p : Program = record { module_ = m; trees = whole.trees } in
    record {
      program = p;
      of_module = refl;
      writes_out = whole.write;
      ran = not_begun cause fuel;
      runs = ap (λ c. unless (engine p collecting (depth collecting)) c (main_on n ∷ []) [] fuel) is;
    }

not_begun_so : (n : ℕ) (own : List ℕ) (m : Module) (whole : IsModule m) (cause : Cause) (o : Outcome) → cause_of m (main_on n ∷ []) ≡ Some cause → o ≡ summary n none_dumped 0 → Runs n own m o
not_begun_so n own m whole cause o is answer = record { run = once_not_begun true n m whole cause is; delivery = nothing; delivers = refl; answer = answer }

-- ---- where it is run

had_memory : (a : RunEnd) → (a ≡ NoMemory → ⊥) → HadMemory a
had_memory NoReply some = tt
had_memory (DeviceFault device) some = tt
had_memory (Finished v) some = tt
had_memory (Trapped kind) some = tt
had_memory (BadReply reply) some = tt
had_memory FuelSpent some = tt
had_memory NoMemory some = absurd (some refl)

one_behind : (ready : Bool) (r : Ran) → (r ∷ (if ready then [] else [])) ≡ r ∷ []
one_behind true r = refl
one_behind false r = refl

none_grown : (old given : List Served) → [] ≡ old ++ given → given ≡ []
none_grown [] given e = sym e
none_grown (x ∷ xs) given e = absurd cc

-- what the one invocation of a new instance came to
pub record CameOnce (collecting : Bool) (n : ℕ) (m : Module) (s later : State) (end : RunEnd) (used_up : Import → Bool) (collected : List CollectorCall) : Type 0 where
  pub run : RunsOnce collecting n m
  pub is_of : IsOf s run.program
  pub outcome : HasOutcome run.program used_up end run.ran.outcome
  pub last : Config
  pub last_is : run.ran.last ≡ Some last
  pub keeps : KeepsThen run.program s.prepared.codes.items end later.machine last
  pub collected_is : collected ≡ run.ran.collected
  pub steps : fuel - run.ran.left ≡ later.steps

pub came_once : (collecting : Bool) (n f : ℕ) (m : Module) (whole : IsModule m) (s later : State) (end : RunEnd) (used_up : Import → Bool) (old new : Calls)
    → IsNew m s → cause_of_segments m ≡ None → cause_of_entry m (function_export m (codes "main")) (main_on n).args ≡ None → function_export m (codes "main") ≡ Some f
    → (end ≡ NoMemory → ⊥) → new.served ≡ [] → old.collected ≡ []
    → ((p : Program) → IsOf s p → Invoked p collecting (depth collecting) used_up f (main_on n).args fuel s later end old new)
    → CameOnce collecting n m s later end used_up new.collected
came_once collecting n f m whole s later end used_up old new is_new segments entry export some no_served no_calls invoked =
    let p : Program = record { module_ = m; trees = whole.trees } in
    let M : Engine = engine p collecting (depth collecting) in
    let is = main_on n ∷ [] in
    let of : IsOf s p = record { of_module = sym is_new.module_is; writes_out = whole.write } in
    let inv = invoked p of in
    let came = inv.came.came [] (admits_none end) in
    let given : inv.came.asked.given ≡ [] = none_grown old.served inv.came.asked.given (sym no_served ∙ inv.came.grew.served) in
    let none : replies_of inv.came.asked.given ++ [] ≡ [] = ap (λ l. replies_of l ++ []) given in
    let listed = goes_on_behind M s.prepared.codes.items used_up (main_on n) [] f s.due s.machine later.machine fuel inv.came.asked end inv.made later.ready later.entered [] export (had_memory end some) came in
    let world : start_world m [] ≡ world_of s.machine (replies_of inv.came.asked.given ++ []) = sym (is_new.world []) ∙ ap (λ rs. world_of s.machine rs) (sym none) in
    record {
      run = record {
        program = p;
        of_module = refl;
        writes_out = whole.write;
        ran = came.ran;
        runs = ap (λ c. unless M c is [] fuel) (ap (λ c. option_or c (cause_of_segments m)) entry ∙ segments)
            ∙ ap₂ (λ d w. session M is d w fuel) (sym is_new.due) world
            ∙ listed
            ∙ one_behind later.ready came.ran;
      };
      is_of = of;
      outcome = came.outcome;
      last = came.last;
      last_is = came.last_is;
      keeps = came.keeps;
      collected_is = inv.came.grew.collected ∙ ap (λ l. l ++ inv.came.asked.told) no_calls ∙ came.collected;
      steps = omega (arith, came.left, all_given end fuel inv.made some, came.within, inv.steps, is_new.steps);
    }

-- with a collector, and what its calls hand over
came_so : (n : ℕ) (own : List ℕ) (m : Module) (s later : State) (end : RunEnd) (used_up : Import → Bool) (collected : List CollectorCall) (o : Outcome) (delivery : Delivery)
    → CameOnce true n m s later end used_up collected → (end ≡ NoMemory → ⊥)
    → Delivers collected delivery → o ≡ summary n (dumped own delivery (bytes_in later.machine.shared.memory)) later.steps
    → Runs n own m o
came_so n own m s later end used_up collected o delivery came some delivers answer =
    let ran = came.run.ran in
    let memory : bytes_in later.machine.shared.memory ≡ memory_in ran.last =
    same_memory later.machine came.last (shares_of came.run.program s.prepared.codes.items end later.machine came.last some came.keeps) ∙ ap memory_in (sym came.last_is)
    in
    record {
      run = came.run;
      delivery = delivery;
      delivers = subst (λ cs. Delivers cs delivery) came.collected_is delivers;
      answer = answer ∙ ap (λ b. summary n (dumped own delivery b) later.steps) memory ∙ ap (λ k. summary n (dumped own delivery (memory_in ran.last)) k) (sym came.steps);
    }

-- ---- what is told

pub shown_line : (n : ℕ) (own : List ℕ) (calls : List CollectorCall) (memory : Option (List ℕ)) (steps there : ℕ) (handed : Handed) (result : Result Outcome WantOfMemory)
    → (delivery : Delivery) × Delivers calls delivery × IsHanded delivery memory (codes "module") handed
    → ((delivery : Delivery) (memory : Option (List ℕ)) → IsHanded delivery memory (codes "module") handed → IfOk result (λ o. o ≡ summary n (dumped own delivery memory) there)) → there ≡ steps
    → IfOk result (λ o. (delivery : Delivery) × Delivers calls delivery × (o ≡ summary n (dumped own delivery memory) steps))
shown_line n own calls memory steps there handed (Err e) k line same = tt
shown_line n own calls memory steps there handed (Ok o) (delivery, delivers, is) line same = (delivery, delivers, line delivery memory is ∙ ap (summary n (dumped own delivery memory)) same)

pub none_begun : (n : ℕ) (own : List ℕ) (m : Module) (whole : IsModule m) (result : Result Outcome WantOfMemory) → (cause : Cause) × (cause_of m (main_on n ∷ []) ≡ Some cause) → IfOk result (λ o. o ≡ summary n none_dumped 0) → IfOk result (Runs n own m)
none_begun n own m whole (Err e) k answer = tt
none_begun n own m whole (Ok o) k answer = not_begun_so n own m whole k.0 o k.1 answer

-- no cause in front of the run
pub no_cause : (n : ℕ) (m : Module) (s : State) (serving : Import → FuncType → Bool) → IsNew m s → first_unserved serving m ≡ None → None ≡ entry_fault serving s.module_ (codes "main") (main_on n).args → cause_of_entry m (function_export m (codes "main")) (main_on n).args ≡ None
no_cause n m s serving is_new served entry =
    let here : None ≡ fault_or (cause_of_entry m (function_export m (codes "main")) (main_on n).args) (unserved None) =
    entry ∙ ap (λ x. entry_fault serving x (codes "main") (main_on n).args) is_new.module_is ∙ ap (λ u. fault_or (cause_of_entry m (function_export m (codes "main")) (main_on n).args) (unserved u)) served
    in
    no_fault m (main_on n).args (function_export m (codes "main")) None here refl

-- its export is the module's
pub same_export : (m : Module) (s : State) (f : ℕ) → IsNew m s → function_export s.module_ (codes "main") ≡ Some f → function_export m (codes "main") ≡ Some f
same_export m s f is_new export = sym (ap (λ x. function_export x (codes "main")) is_new.module_is) ∙ export

-- the line of what was run, from what its parts ensure
pub ran_line : (n f : ℕ) (own : List ℕ) (m : Module) (whole : IsModule m) (s later : State) (h0 : HostsState) (first last : CollectingState HostsState) (calls : List CollectorCall) (end : RunEnd) (used_up : Import → Bool) (result : Result Outcome WantOfMemory)
    → IsNew m s → IsCollected m → cause_of_segments m ≡ None → first ≡ record { inner = h0; calls = [] } → h0.devices ≡ [] → h0.script ≡ None
    → None ≡ entry_fault (λ i t. serves (λ h i _. hosts_serve h i) first i t) s.module_ (codes "main") (main_on n).args → function_export s.module_ (codes "main") ≡ Some f
    → ((p : Program) → IsOf s p → Invoked p true (depth true) used_up f (main_on n).args fuel s later end (record { served = (calls_of first.inner).served; collected = first.calls }) (record { served = (calls_of last.inner).served; collected = last.calls }))
    → last.inner.served ≡ [] → calls ≡ last.calls
    → IfOk result (λ o. (end ≡ NoMemory → ⊥) × ((delivery : Delivery) × Delivers calls delivery × (o ≡ summary n (dumped own delivery (bytes_in later.machine.shared.memory)) later.steps)))
    → IfOk result (Runs n own m)
ran_line n f own m whole s later h0 first last calls end used_up (Err e) is_new collected segments begun devices script entry export invoked none are line = tt
ran_line n f own m whole s later h0 first last calls end used_up (Ok o) is_new collected segments begun devices script entry export invoked none are (some, (delivery, delivers, answer)) =
    let serving : Import → FuncType → Bool = λ i t. serves (λ h i _. hosts_serve h i) first i t in
    let served : first_unserved serving m ≡ None = subst (λ x. first_unserved (λ i t. serves (λ h i _. hosts_serve h i) x i t) m ≡ None) (sym begun) (all_served m h0 [] collected devices script) in
    let came = came_once true n f m whole s later end used_up (record { served = (calls_of first.inner).served; collected = first.calls }) (record { served = (calls_of last.inner).served; collected = last.calls }) is_new segments
    (no_cause n m s serving is_new served entry) (same_export m s f is_new export) some (ap (λ l. map (λ (x : List ℕ × Served). x.1) l) none) (ap (λ x. x.calls) begun) invoked
    in
    came_so n own m s later end used_up last.calls o delivery came some (subst (λ l. Delivers l delivery) are delivers) answer

pub knows_all : (m : Module) (s : State) (first : CollectingState HostsState) (h0 : HostsState) (lent : List Import) → IsNew m s → first ≡ record { inner = h0; calls = [] } → h0.imports ≡ lent → lent ≡ m.imports → Knows (origin_of first.inner) s.module_
knows_all m s first h0 lent is_new begun are same f i e =
    ap (λ (x : CollectingState HostsState). slice_get x.inner.imports f) begun ∙ ap (λ is. slice_get is f) (are ∙ same) ∙ ap (λ (x : Module). slice_get x.imports f) (sym is_new.module_is) ∙ e

pub none_named : (first last : CollectingState HostsState) (back h0 : HostsState) (set : List DeviceState) → back ≡ last.inner → origin_of last.inner ≡ origin_of first.inner → first ≡ record { inner = h0; calls = [] } → h0.devices ≡ set → set ≡ [] → names back.devices ≡ []
none_named first last back h0 set backed same begun devices none =
    ap (λ (h : HostsState). names h.devices) backed ∙ ap (λ (o : Origin). o.names) same ∙ ap (λ (x : CollectingState HostsState). names x.inner.devices) begun ∙ ap names (devices ∙ none)

pub no_script : (first last : CollectingState HostsState) (back h0 : HostsState) → back ≡ last.inner → origin_of last.inner ≡ origin_of first.inner → first ≡ record { inner = h0; calls = [] } → h0.script ≡ None → back.script ≡ None
no_script first last back h0 backed same begun script =
    ap (λ (h : HostsState). h.script) backed ∙ ap (λ (o : Origin). o.script) same ∙ ap (λ (x : CollectingState HostsState). x.inner.script) begun ∙ script

pub refused_line : (n : ℕ) (own : List ℕ) (m : Module) (whole : IsModule m) (s : State) (h0 : HostsState) (first : CollectingState HostsState) (fault : EntryFault) (result : Result Outcome WantOfMemory)
    → IsNew m s → IsCollected m → first ≡ record { inner = h0; calls = [] } → h0.devices ≡ [] → h0.script ≡ None
    → Some fault ≡ entry_fault (λ i t. serves (λ h i _. hosts_serve h i) first i t) s.module_ (codes "main") (main_on n).args
    → IfOk result (λ o. o ≡ summary n none_dumped 0) → IfOk result (Runs n own m)
refused_line n own m whole s h0 first fault result is_new collected begun devices script is answer =
    let serving : Import → FuncType → Bool = λ i t. serves (λ h i _. hosts_serve h i) first i t in
    let served : first_unserved serving m ≡ None = subst (λ x. first_unserved (λ i t. serves (λ h i _. hosts_serve h i) x i t) m ≡ None) (sym begun) (all_served m h0 [] collected devices script) in
    none_begun n own m whole result (entry_cause n m serving fault served (is ∙ ap (λ x. entry_fault serving x (codes "main") (main_on n).args) is_new.module_is)) answer
