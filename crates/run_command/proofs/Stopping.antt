-- What a command leaves where it has no answer, from what its parts leave.
use Rattle.std.proofs.Common.{◌≡◌, ℕ, zero, suc, Bool, List, [], ◌∷◌, ◌++◌, map, take, drop, refl, sym, ap, ◌∙◌, subst, inl, inr, Option, None, Result, Ok, Err, length}
use Rattle.std.specs.Prelude.{◌⊎◌, IfOk, unwrap_or}
use Rattle.causes.specs.declared.NoMemory.{NoMemory as WantOfMemory}
use Rattle.std.specs.declared.vec.Vec.{Vec}
use Rattle.std.specs.Global.{Global}
use Rattle.pm_outside.specs.Contents.{Contents}
use Rattle.wasm_syntax.specs.declared.host.Reply.{Reply}
use Rattle.wasm_syntax.specs.declared.module.ModuleParts.{ModuleParts as Module}
use Rattle.wasm_syntax.specs.declared.quantity.Quantity.TheVariants.{ModuleBytes}
use Rattle.wasm_syntax.specs.Valid.{Valid}
use Rattle.wasm_syntax.specs.Module.{Program, IsProgram, IsModule, function_export}
use Rattle.wasm_syntax.specs.Run.{Invocation, cause_of_entry, cause_of_segments, Ran, engine}
use Rattle.wasm_decode.specs.Decode.{module_from}
use Rattle.wasm_machine.specs.calls.Instances.{State, IsNew, IsOf}
use Rattle.host_set.specs.Sets.{DeviceState, count_of}
use Rattle.host_set.specs.calls.Hosting.{HostsState, origin_of, calls_of, serves, is_used_up}
use Rattle.commands.specs.calls.Input.{IsInput}
use Rattle.commands.specs.Inputs.{input_of}
use Rattle.commands.specs.calls.Loaded.{IsLoaded}
use Rattle.commands.specs.Told.{OnContents}
use Rattle.commands.specs.declared.given.Given.{Given}
use Rattle.commands.specs.declared.given.Given.TheVariants as givens
use Rattle.commands.specs.declared.outcome.Outcome.{Outcome}
use Rattle.commands.specs.declared.status.Status.TheVariants as status
use Rattle.commands.proofs.ReadFiles.{map_contents}
use Rattle.run_words.specs.declared.words.RunWords.{RunWords}
use Rattle.wasm_syntax.specs.declared.host.CollectorCall.{CollectorCall}
use Rattle.run_session.specs.Delivery.{Delivery, IsDelivery}
use Rattle.run_session.specs.Telling.{tells, told as told_of, torn_in}
use Rattle.run_session.specs.RunText.{up_to_torn}
use Rattle.run_session.specs.calls.Collecting.{serving_of, used_up_of}
use Rattle.run_session.specs.Invocations.{invocation_of, depth_of}
use Rattle.run_session.specs.Stop.{Stop, no_memory, file_failed, OnStop}
use Rattle.run_session.specs.calls.Sessions.{point_of, WasStopped, StopsIn}
use Rattle.run_command.specs.Starting.{cause_text, entries_text}
use Rattle.run_command.specs.RunAnswer.{IsReadBy, bad_replies, replies_input, script_of, EndUsesUp, EndHasFailed, hosting}
use Rattle.run_command.specs.calls.Scripts.{script_result, IsAsked, IsReadFault}
use Rattle.run_command.specs.Stops.{RunsFor, dumps_of, StopsRecord, StopsRun, NothingDone, ModuleStops, ScriptStops, BytesStops, SourceStops, FileStops, RunStops}
use Rattle.run_command.specs.declared.scripts.Script.{Script}
use Rattle.run_command.specs.declared.scripts.Script.TheVariants.{Whole}
use Rattle.run_command.proofs.Answering.{none_then, is_run, told_uses, told_fails}
use Rattle.run_command.specs.calls.Begun.{HasBegun}
use Rattle.run_command.proofs.Beginning.{none_starts, starts_alike}
use Rattle.run_command.specs.inner.Recording.{Records, fitting}
use Rattle.run_command.proofs.Fitting.{recorded_stops}
use Rattle.run_command.proofs.Valid.{RanSo, own_record, is_recorded}
use Rattle.pm_outside.specs.Held.{HoldPart}
use Rattle.pm_outside.proofs.Held.{part_also}
use Rattle.pm_outside.specs.Written.{OnTold}
use Rattle.commands.proofs.Unless.{OnAnswer}
use Rattle.run_command.proofs.Hostings.{Began, GaveBack, by_script, logs, host_facts, rose_on}
use Rattle.run_session.proofs.Stops.{map_stop}
use Rattle.run_session.proofs.Tellings.{behaves}
use Rattle.std.specs.Option.{option_or}

-- ---- facts on results

-- where no file can have failed
pub only_want : (P : Stop → Type 0) (result : Result Outcome WantOfMemory) → P no_memory → IfOk result (λ o. o.status ≡ status.FileFault → ⊥) → OnStop P result
only_want P (Err e) memory some = memory
only_want P (Ok o) memory some = λ faulted. absurd (some faulted)

-- a line of the file of replies that is refused is no fault
pub no_read_fault : (result : Result Outcome WantOfMemory) (line : ℕ) → IfOk result (λ o. o ≡ bad_replies line) → IfOk result (λ o. o.status ≡ status.FileFault → ⊥)
no_read_fault (Err e) line x = tt
no_read_fault (Ok o) line x = λ is. let clash : status.BadReplies ≡ status.FileFault = sym (ap (λ (x : Outcome). x.status) x) ∙ is in absurd cc

-- ---- what was run

taken_entries : (m : Module) (k : ℕ) (is : List Invocation) → entries_text m is ≡ None → entries_text m (take k is) ≡ None
taken_entries m zero [] e = refl
taken_entries m zero (i ∷ is) e = refl
taken_entries m (suc k) [] e = refl
taken_entries m (suc k) (i ∷ is) e =
    let parts = none_then i.name (cause_of_entry m (function_export m i.name) i.args) (entries_text m is) e in
    ap (λ o. option_or (cause_text i.name o) (entries_text m (take k is))) parts.0 ∙ taken_entries m k is parts.1

module _ (before after : List DeviceState) (script : Option (List Reply)) (w : RunWords) (s : State) (h0 h1 : HostsState) (told told' : Option Contents)
    (new : IsNew s.module_ s) (segments : cause_of_segments s.module_ ≡ None) (began : Began s.module_.imports before script h0) (same : origin_of h1 ≡ origin_of h0) (back : GaveBack h1 after) where
  runs_for : (deliver : List CollectorCall → Delivery) → IsDelivery deliver → (p : Program) (is : List Invocation) (fuel : ℕ) (rans : List Ran) → p.module_ ≡ s.module_ → IsProgram p → entries_text s.module_ is ≡ None
      → WasStopped (tells w.collect deliver) (engine p w.collect (depth_of w)) w.dump w.name 0 (point_of s is fuel) rans (calls_of h0).served (calls_of h1).served told told'
      → RunsFor deliver w s.module_ script is fuel rans (dumps_of deliver w rans) before after told told'
  runs_for deliver delivers p is fuel rans of_module writes_out entries x = record {
    program = p;
    of_module = of_module;
    writes_out = writes_out;
    given = x.given;
    delivers = delivers;
    runs = sym x.is ∙ ap (λ l. up_to_torn (tells w.collect deliver) l) (is_run s.module_ p w.collect s is (depth_of w) fuel x.given of_module new entries segments);
    all_given = x.all_given;
    left = drop h1.given (unwrap_or script []);
    by_script = by_script s.module_.imports before script h0 h1 began same after back x.given x.grew;
    logs = logs s.module_ before after script h0 h1 began same back x.given x.grew;
    files = x.files;
  }

  runs_stop : (deliver : List CollectorCall → Delivery) → IsDelivery deliver → (p : Program) (stop : Stop) → p.module_ ≡ s.module_ → IsProgram p → entries_text s.module_ (map invocation_of w.invocations) ≡ None
      → StopsIn (tells w.collect deliver) stop (engine p w.collect (depth_of w)) w.dump w.name 0 s (map invocation_of w.invocations) w.fuel (calls_of h0).served (calls_of h1).served told told'
      → StopsRun stop w s.module_ script before after told told'
  runs_stop deliver delivers p no_memory of_module writes_out entries (total, few, many, rans, x) = inl (deliver, total, many, rans, runs_for deliver delivers p (map invocation_of w.invocations) total rans of_module writes_out entries x)
  runs_stop deliver delivers p (file_failed file) of_module writes_out entries (made, rans, dump, x) =
      inl (deliver, made, rans, dump, runs_for deliver delivers p (take made (map invocation_of w.invocations)) w.fuel rans of_module writes_out (taken_entries s.module_ made (map invocation_of w.invocations) entries) x)

abbrev StopsSo : (List CollectorCall → Delivery) → Program → RunWords → State → (h0 h1 : HostsState) → (told told' : Option Contents) → Stop → Type 0
StopsSo deliver p w s h0 h1 told told' stop = StopsIn (tells w.collect deliver) stop (engine p w.collect (depth_of w)) w.dump w.name 0 s (map invocation_of w.invocations) w.fuel (calls_of h0).served (calls_of h1).served told told'

module _ (deliver : List CollectorCall → Delivery) (delivers : IsDelivery deliver) (p : Program) (before after : List DeviceState) (script : Option (List Reply)) (w : RunWords) (s : State) (bad : Bool) (h0 h1 : HostsState) (told mid new : Option Contents)
    (of_module : p.module_ ≡ s.module_) (writes_out : IsProgram p) (is_new : IsNew s.module_ s) (entries : entries_text s.module_ (map invocation_of w.invocations) ≡ None) (segments : cause_of_segments s.module_ ≡ None)
    (began : Began s.module_.imports before script h0) (same : origin_of h1 ≡ origin_of h0) (back : GaveBack h1 after) where
  -- the record is written in part, behind the whole run
  record_stops : (o : Outcome) → RanSo deliver p w s bad h0 h1 told mid o → OnTold (HoldPart (own_record w bad h1)) mid new → StopsRecord w s.module_ script before after told new
  record_stops o r part =
      let e = r.has_ended in
      let tell = tells w.collect deliver in
      let b = behaves w.collect deliver in
      let used_up = used_up_of w.collect (is_used_up h1) in
      let left = drop h1.given (unwrap_or script []) in
      let counts = count_of h0.devices in
      let now = count_of h1.devices in
      let facts = host_facts s.module_.imports before script h0 h1 began same w.collect in (
        deliver,
        r.has_ended.rans,
        record {
          program = p;
          of_module = of_module;
          writes_out = writes_out;
          given = r.given;
          delivers = delivers;
          runs = sym e.is ∙ ap (λ l. up_to_torn (tells w.collect deliver) l) (is_run s.module_ p w.collect s (map invocation_of w.invocations) (depth_of w) w.fuel r.given of_module is_new entries segments);
          all_given = e.came_of.given;
          left = drop h1.given (unwrap_or script []);
          by_script = by_script s.module_.imports before script h0 h1 began same after back r.given r.grew;
          logs = logs s.module_ before after script h0 h1 began same back r.given r.grew;
          files = subst (λ ws. OnTold (HoldPart ws) told new)
              (ap (λ ws. ws ++ own_record w bad h1) e.came_of.writes
              ∙ ap (λ ws. dumps_of deliver w r.has_ended.rans ++ ws) (is_recorded deliver delivers p before after script w s bad h0 h1 told mid new of_module writes_out is_new entries segments began same back o r))
              (part_also r.writes (own_record w bad h1) told mid new r.files part);
        },
        subst (λ l. EndUsesUp (hosting before script w.collect) s.module_ left l) (sym e.last) (told_uses tell b r.last p s.module_ used_up left counts now (length r.given) r.due r.line of_module (hosting before script w.collect) facts (torn_in (told_of tell r.last)) refl r.ends),
        subst (λ l. EndHasFailed before after s.module_ l) (sym e.last) (told_fails tell b r.last p s.module_ used_up left counts now (length r.given) r.due r.line of_module before after facts (λ device. rose_on before after h0.devices h1.devices device began.devices_are back.devices) (torn_in (told_of tell r.last)) refl r.ends),
      )

  recorded_in : (rose : Type 0) (ran result : Result Outcome WantOfMemory) → OnAnswer (RanSo deliver p w s bad h0 h1 told mid) ran → IfOk ran (λ o. o.status ≡ status.NoMemory → ⊥)
      → OnStop (λ stop. StopsRun stop w s.module_ script before after told mid) ran → Records w.log_to (fitting bad h1.served) rose ran result mid new
      → OnStop (λ stop. StopsRun stop w s.module_ script before after told new) result
  recorded_in rose ran result x enough stops records =
      recorded_stops w.log_to (fitting bad h1.served) rose mid new (λ stop. StopsRun stop w s.module_ script before after told mid) (λ stop. StopsRun stop w s.module_ script before after told new) (RanSo deliver p w s bad h0 h1 told mid) ran result
      (λ stop unchanged y. subst (λ t. StopsRun stop w s.module_ script before after told t) (sym unchanged) y)
      (λ o r part. (inr (record_stops o r part), λ file asked. inr (asked, record_stops o r part)))
      x enough stops records

pub hosted_stops : (deliver : List CollectorCall → Delivery) → IsDelivery deliver → (rose : Type 0) (ran result : Result Outcome WantOfMemory) (before after : List DeviceState) (script : Option (List Reply)) (w : RunWords) (s : State) (bad : Bool) (h0 h1 : HostsState) (told mid new : Option Contents)
    → IsModule s.module_ → IsNew s.module_ s → entries_text s.module_ (map invocation_of w.invocations) ≡ None → cause_of_segments s.module_ ≡ None
    → Began s.module_.imports before script h0 → origin_of h1 ≡ origin_of h0 → GaveBack h1 after
    → ((p : Program) → IsOf s p → OnAnswer (RanSo deliver p w s bad h0 h1 told mid) ran) → IfOk ran (λ o. o.status ≡ status.NoMemory → ⊥)
    → ((p : Program) → IsOf s p → OnStop (StopsSo deliver p w s h0 h1 told mid) ran)
    → Records w.log_to (fitting bad h1.served) rose ran result mid new
    → OnStop (λ stop. StopsRun stop w s.module_ script before after told new) result
hosted_stops deliver delivers rose ran result before after script w s bad h0 h1 told mid new whole is_new entries segments began same back x enough stops records =
    let p : Program = record { module_ = s.module_; trees = whole.trees } in
    let of : IsOf s p = record { of_module = refl; writes_out = whole.write } in
    recorded_in deliver delivers p before after script w s bad h0 h1 told mid new refl whole.write is_new entries segments began same back rose ran result (x p of) enough
    (map_stop (StopsSo deliver p w s h0 h1 told mid) (λ stop. StopsRun stop w s.module_ script before after told mid) ran
    (λ stop y. runs_stop before after script w s h0 h1 told mid is_new segments began same back deliver delivers p stop refl whole.write entries y)
    (stops p of))
    records

-- ---- the steps of the command, from the last to the first

module _ (before after : List DeviceState) (w : RunWords) where
  -- a step of the command, behind which there is this
  abbrev pub StepStops : (Stop → Option Contents → Option Contents → Type 0) → Option Contents → Option Contents → Stop → Type 0
  StepStops P told told' stop = NothingDone stop (IsReadBy w) before after told told' ⊎ P stop told told'

  pub reached : (P Q : Stop → Option Contents → Option Contents → Type 0) (told mid told' : Option Contents) (result : Result Outcome WantOfMemory) → mid ≡ told
      → ((stop : Stop) → P stop told told' → Q stop told told') → OnStop (StepStops P mid told') result → OnStop (StepStops Q told told') result
  reached P Q told mid told' result same go x =
      map_stop (StepStops P told told') (StepStops Q told told') result either (subst (λ t. OnStop (StepStops P t told') result) same x)
    where
      either : (stop : Stop) → StepStops P told told' stop → StepStops Q told told' stop
      either stop (inl u) = inl u
      either stop (inr y) = inr (go stop y)

module _ (devices : List DeviceState) (w : RunWords) (P : Stop → Option Contents → Option Contents → Type 0) (told told' : Option Contents) (same : told' ≡ told) where
  -- memory was wanting before it was reached
  pub unreached : StepStops devices devices w P told told' no_memory
  unreached = inl record { devices = refl; files = same; file = tt }

  -- it was refused
  pub not_reached : (result : Result Outcome WantOfMemory) → IfOk result (λ o. o.status ≡ status.FileFault → ⊥) → OnStop (StepStops devices devices w P told told') result
  not_reached result some = only_want (StepStops devices devices w P told told') result unreached some

  -- a file that is read failed
  pub read_failed : (before now : ℕ) (o : Outcome) → IsReadFault w before now o → OnStop (StepStops devices devices w P told told') (Ok o)
  read_failed before now o fault = λ faulted. let k = fault faulted in record { file = k.0.0; named = k.0.2; failed = inl record { devices = refl; files = same; file = k.0.1 }; memory = unreached }

module _ (before after : List DeviceState) (w : RunWords) (result : Result Outcome WantOfMemory) where
  -- a new instance was made, and the invocations were run on it
  pub ready_stops : (deliver : List CollectorCall → Delivery) → IsDelivery deliver → (rose : Type 0) (ran : Result Outcome WantOfMemory) (script : Option (List Reply)) (m : Module) (s : State) (bad : Bool) (h0 h1 : HostsState) (told mid told' : Option Contents)
      → IsModule m → Valid m → HasBegun (serving_of w.collect (λ i type. serves h0 i)) m (map invocation_of w.invocations) (givens.Value s)
      → Began m.imports before script h0 → origin_of h1 ≡ origin_of h0 → GaveBack h1 after
      → ((p : Program) → IsOf s p → OnAnswer (RanSo deliver p w s bad h0 h1 told mid) ran) → IfOk ran (λ o. o.status ≡ status.NoMemory → ⊥)
      → ((p : Program) → IsOf s p → OnStop (StopsSo deliver p w s h0 h1 told mid) ran)
      → Records w.log_to (fitting bad h1.served) rose ran result mid told'
      → OnStop (StepStops before after w (λ stop old new. ModuleStops stop w m script before after old new) told told') result
  ready_stops deliver delivers rose ran script m s bad h0 h1 told mid told' whole valid (starts, segments, new) began same back x enough stops records =
      let is = map invocation_of w.invocations in
      let at = sym new.module_is in
      map_stop (λ stop. StopsRun stop w s.module_ script before after told told') (StepStops before after w (λ stop old new. ModuleStops stop w m script before after old new) told told') result
      (λ stop y. inr (sym (starts_alike m h0 before script w.collect valid began.devices_are began.script_is is) ∙ starts, subst (λ (x : Module). StopsRun stop w x script before after told told') new.module_is y))
      (hosted_stops deliver delivers rose ran result before after script w s bad h0 h1 told mid told' (subst IsModule at whole) (subst (λ (x : Module). IsNew x s) at new)
      (ap (λ (x : Module). entries_text x is) new.module_is ∙ (none_starts (serving_of w.collect (λ i type. serves h0 i)) m is starts).0) (ap (λ (x : Module). cause_of_segments x) new.module_is ∙ segments)
      (subst (λ (x : Module). Began x.imports before script h0) at began) same back x enough stops records)

  pub scripted_stops : (m : Module) (given : Script) (script : Option (List Reply)) (told told' : Option Contents) → given ≡ Whole script
      → OnStop (StepStops before after w (λ stop old new. ModuleStops stop w m script before after old new) told told') result
      → OnStop (StepStops before after w (λ stop old new. ScriptStops stop w m (script_result given) before after old new) told told') result
  scripted_stops m given script told told' is x =
      reached before after w (λ stop old new. ModuleStops stop w m script before after old new) (λ stop old new. ScriptStops stop w m (script_result given) before after old new) told told told' result refl
      (λ stop y. (script, ap (λ s. script_result s) is, y)) x

  pub bytes_stop : (script : Result (Option (List Reply)) Outcome) (bytes : List ℕ) (loaded : Given Module) (m : Module) (told told' : Option Contents) → loaded ≡ givens.Value m → IsLoaded loaded (module_from bytes)
      → OnStop (StepStops before after w (λ stop old new. ScriptStops stop w m script before after old new) told told') result
      → OnStop (StepStops before after w (λ stop old new. BytesStops stop w bytes script before after old new) told told') result
  bytes_stop script bytes loaded m told told' is facts x =
      reached before after w (λ stop old new. ScriptStops stop w m script before after old new) (λ stop old new. BytesStops stop w bytes script before after old new) told told told' result refl
      (λ stop y. (m, subst (λ l. IsLoaded l (module_from bytes)) is facts, y)) x

  pub source_stops : (bytes : List ℕ) (asked : Given Script) (script : Script) (told mid told' : Option Contents) → mid ≡ told → asked ≡ givens.Value script → OnContents told (λ held. IsAsked asked (replies_input w.replies held))
      → OnStop (StepStops before after w (λ stop old new. BytesStops stop w bytes (script_result script) before after old new) mid told') result
      → OnStop (StepStops before after w (λ stop old new. SourceStops stop w bytes before after old new) told told') result
  source_stops bytes asked script told mid told' same is facts x =
      reached before after w (λ stop old new. BytesStops stop w bytes (script_result script) before after old new) (λ stop old new. SourceStops stop w bytes before after old new) told mid told' result same
      (λ stop y. map_contents told (λ held. IsAsked (givens.Value script) (replies_input w.replies held)) (λ later. (replies : Option (List ℕ)) × (replies_input w.replies later ≡ Ok replies) × BytesStops stop w bytes (script_of replies) before after told told')
      (λ held read. (read.0, read.1, subst (λ s. BytesStops stop w bytes s before after told told') read.2 y))
      (subst (λ a. OnContents told (λ held. IsAsked a (replies_input w.replies held))) is facts)) x

  pub file_stops : (name : List ℕ) (input : Given (Vec ℕ Global)) (bytes : Vec ℕ Global) (spelled : List ℕ) (told mid told' : Option Contents) → mid ≡ told → name ≡ w.source → input ≡ givens.Value bytes → spelled ≡ bytes.items
      → OnContents told (λ held. IsInput input (input_of ModuleBytes name (held name)))
      → OnStop (StepStops before after w (λ stop old new. SourceStops stop w spelled before after old new) mid told') result
      → OnStop (λ stop. RunStops stop w before after told told') result
  file_stops name input bytes spelled told mid told' same named is spells facts x =
      reached before after w (λ stop old new. SourceStops stop w spelled before after old new) (λ stop old new. FileStops stop w before after old new) told mid told' result same
      (λ stop y. map_contents told (λ held. IsInput (givens.Value bytes) (input_of ModuleBytes w.source (held w.source))) (λ first. (bytes : List ℕ) × (input_of ModuleBytes w.source (first w.source) ≡ Ok bytes) × SourceStops stop w bytes before after told told')
      (λ held read. (bytes.items, read, subst (λ b. SourceStops stop w b before after told told') spells y))
      (subst (λ n. OnContents told (λ held. IsInput (givens.Value bytes) (input_of ModuleBytes n (held n)))) named (subst (λ i. OnContents told (λ held. IsInput i (input_of ModuleBytes name (held name)))) is facts))) x
