-- The steps of the command, from the last to the first.
use Rattle.std.proofs.Common.{◌≡◌, ℕ, List, [], refl, sym, ap, ◌∙◌, subst, Option, Result, Ok, Err, inl, inr}
use Rattle.std.specs.Prelude.{◌⊎◌, IfOk, OnErr}
use Rattle.std.specs.declared.vec.Vec.{Vec}
use Rattle.std.specs.Global.{Global}
use Rattle.causes.specs.Counts.{Rose}
use Rattle.causes.specs.declared.NoMemory.{NoMemory as WantOfMemory}
use Rattle.pm_outside.specs.Contents.{Contents}
use Rattle.wasm_syntax.specs.declared.quantity.Quantity.TheVariants.{ModuleBytes}
use Rattle.wasm_syntax.specs.declared.host.Reply.{Reply}
use Rattle.wasm_syntax.specs.declared.host.Served.{Served}
use Rattle.wasm_syntax.specs.declared.module.ModuleParts.{ModuleParts as Module}
use Rattle.wasm_decode.specs.Decode.{module_from}
use Rattle.pm_outside.specs.Written.{OnTold}
use Rattle.host_set.specs.Sets.{DeviceState}
use Rattle.commands.specs.Inputs.{input_of, Then}
use Rattle.commands.specs.Texts.{file_fault}
use Rattle.commands.specs.calls.Ended.{Ended}
use Rattle.commands.specs.calls.Given.{IfRefused}
use Rattle.commands.specs.calls.Input.{IsInput}
use Rattle.commands.specs.calls.Loaded.{IsLoaded}
use Rattle.commands.specs.Told.{UnlessFault, OnContents}
use Rattle.commands.specs.declared.outcome.Outcome.{Outcome}
use Rattle.commands.specs.declared.status.Status.{Status}
use Rattle.commands.specs.declared.status.Status.TheVariants as status
use Rattle.commands.specs.declared.given.Given.{Given}
use Rattle.commands.specs.declared.given.Given.TheVariants as givens
use Rattle.commands.proofs.Unless.{unless, map_answer, all_answers}
use Rattle.commands.proofs.Givens.{of_refusal}
use Rattle.commands.proofs.ReadFiles.{map_contents, then_ok, then_err}
use Rattle.run_words.specs.declared.cover.CoverWords.{CoverWords}
use Rattle.run_session.specs.Stop.{Stop, no_memory, file_failed, OnStop}
use Rattle.pm_outside.specs.Held.{HoldThen}
use Rattle.run_command.specs.RunAnswer.{AnsweredOn, IfRefusal, IsUntouched, bad_replies, script_of, replies_input}
use Rattle.run_command.specs.Stops.{NothingDone}
use Rattle.run_command.specs.calls.Scripts.{script_result, IsAsked, IsRepliesFault}
use Rattle.run_command.specs.declared.scripts.Script.{Script}
use Rattle.run_command.specs.declared.scripts.Script.TheVariants.{Bad}
use Rattle.cover_command.specs.CoverAnswer.{ModuleAnswer, CoverAnswer, IsReadBy}
use Rattle.cover_command.specs.Stops.{CoverStops}
use Rattle.cover_command.specs.inner.Steps.{IsAnswered, ScriptAnswer, BytesAnswer, SourceAnswer, ModuleStops, ScriptStops, BytesStops, SourceStops, StepStops}
use Rattle.pm_outside.proofs.Held.{none_held}
use Rattle.run_command.proofs.Refusals.{if_refusal}
use Rattle.run_command.proofs.Commands.{turned_down, if_loaded}

-- ---- results

pub on_err : {E : Type 0} (r : Result Outcome E) (P : Type 0) → P → OnErr r P
on_err (Ok o) P x = tt
on_err (Err e) P x = x

map_err : {E : Type 0} (r : Result Outcome E) (P Q : Type 0) → (P → Q) → OnErr r P → OnErr r Q
map_err (Ok o) P Q to x = tt
map_err (Err e) P Q to x = to x

map_ok : {E : Type 0} (r : Result Outcome E) (P Q : Outcome → Type 0) → ((o : Outcome) → P o → Q o) → IfOk r P → IfOk r Q
map_ok (Ok o) P Q to x = to o x
map_ok (Err e) P Q to x = tt

-- no file can have failed
want_only : (P : Stop → Type 0) (Q : Type 0) (r : Result Outcome WantOfMemory) → (Q → P no_memory) → OnErr r Q → IfOk r (λ o. o.status ≡ status.FileFault → ⊥) → OnStop P r
want_only P Q (Err e) to x never = to x
want_only P Q (Ok o) to x never = λ faulted. absurd (never faulted)

-- of a refusal by its status
pub not_status : (s t : Status) (o : Outcome) (P : Type 0) → o.status ≡ s → (s ≡ t → P) → o.status ≡ t → P
not_status s t o P is apart e = apart (sym is ∙ e)

map_refusal : (s : Status) (P Q : Type 0) → (P → Q) → IfRefusal s P → IfRefusal s Q
map_refusal status.FileFault P Q to x = tt
map_refusal status.NoMemory P Q to x = to x
map_refusal status.Done P Q to x = tt
map_refusal status.Trapped P Q to x = tt
map_refusal status.HostStopped P Q to x = tt
map_refusal status.FuelSpent P Q to x = tt
map_refusal status.Usage P Q to x = to x
map_refusal status.NoFile P Q to x = to x
map_refusal status.Malformed P Q to x = to x
map_refusal status.Outside P Q to x = to x
map_refusal status.Invalid P Q to x = to x
map_refusal status.NotStarted P Q to x = to x
map_refusal status.BadDump P Q to x = to x
map_refusal status.Mismatch P Q to x = to x
map_refusal status.Limit P Q to x = to x
map_refusal status.Collision P Q to x = to x
map_refusal status.TornCalls P Q to x = tt
map_refusal status.BadReplies P Q to x = to x

-- ---- what is answered behind a step

module _ (before after : List DeviceState) where
  carried : (P Q : List Served → Outcome → Type 0) (o : Outcome) → ((given : List Served) → P given o → Q given o) → IsAnswered P before after o → IsAnswered Q before after o
  carried P Q o to a = record { given = a.given; answer = to a.given a.answer; untouched = a.untouched }

untouched : (devices : List DeviceState) (Q : List Served → Outcome → Type 0) (o : Outcome) → Q [] o → IsAnswered Q devices devices o
untouched devices Q o x = record { given = []; answer = x; untouched = if_refusal o.status ((devices ≡ devices) × ([] ≡ [])) (refl, refl) }

-- ---- modules

module _ (before after : List DeviceState) (w : CoverWords) (r : Result Outcome WantOfMemory) where
  -- ---- the script

  pub with_script : (bytes : List ℕ) (m : Module) (given : Script) (script : Option (List Reply)) → script_result given ≡ Ok script
      → IfOk r (IsAnswered (λ served. ModuleAnswer before after w served script bytes m) before after)
      → IfOk r (IsAnswered (ScriptAnswer before after w (script_result given) bytes m) before after)
  with_script bytes m given script is x =
      map_ok r (IsAnswered (λ served. ModuleAnswer before after w served script bytes m) before after) (IsAnswered (ScriptAnswer before after w (script_result given) bytes m) before after)
      (λ o. carried before after (λ served. ModuleAnswer before after w served script bytes m) (ScriptAnswer before after w (script_result given) bytes m) o
      (λ served a. then_ok (script_result given) script (λ s. ModuleAnswer before after w served s bytes m) o is a)) x

  pub script_stops : (m : Module) (given : Script) (script : Option (List Reply)) → script_result given ≡ Ok script
      → OnErr r ((after ≡ before) ⊎ ModuleStops before after w m script) → OnErr r ((after ≡ before) ⊎ ScriptStops before after w m (script_result given))
  script_stops m given script is x = map_err r ((after ≡ before) ⊎ ModuleStops before after w m script) ((after ≡ before) ⊎ ScriptStops before after w m (script_result given)) either x
    where
      either : (after ≡ before) ⊎ ModuleStops before after w m script → (after ≡ before) ⊎ ScriptStops before after w m (script_result given)
      either (inl same) = inl same
      either (inr y) = inr (script, is, y)

  -- ---- the bytes

  pub with_module : (script : Result (Option (List Reply)) Outcome) (bytes : List ℕ) (loaded : Given Module) (m : Module) → loaded ≡ givens.Value m → IsLoaded loaded (module_from bytes)
      → IfOk r (IsAnswered (ScriptAnswer before after w script bytes m) before after) → IfOk r (IsAnswered (BytesAnswer before after w script bytes) before after)
  with_module script bytes loaded m is known x =
      map_ok r (IsAnswered (ScriptAnswer before after w script bytes m) before after) (IsAnswered (BytesAnswer before after w script bytes) before after)
      (λ o. carried before after (ScriptAnswer before after w script bytes m) (BytesAnswer before after w script bytes) o
      (λ given a. if_loaded (λ k. ScriptAnswer before after w script bytes k given) (module_from bytes) m o (subst (λ l. IsLoaded l (module_from bytes)) is known) a)) x

  pub module_stops : (script : Result (Option (List Reply)) Outcome) (bytes : List ℕ) (loaded : Given Module) (m : Module) → loaded ≡ givens.Value m → IsLoaded loaded (module_from bytes)
      → OnErr r ((after ≡ before) ⊎ ScriptStops before after w m script) → OnErr r ((after ≡ before) ⊎ BytesStops before after w bytes script)
  module_stops script bytes loaded m is known x = map_err r ((after ≡ before) ⊎ ScriptStops before after w m script) ((after ≡ before) ⊎ BytesStops before after w bytes script) either x
    where
      either : (after ≡ before) ⊎ ScriptStops before after w m script → (after ≡ before) ⊎ BytesStops before after w bytes script
      either (inl same) = inl same
      either (inr y) = inr (m, subst (λ l. IsLoaded l (module_from bytes)) is known, y)

  -- ---- the files

  module _ (told told' : Option Contents) where
    nothing_done : after ≡ before → told' ≡ told → NothingDone no_memory (IsReadBy w) before after told told'
    nothing_done devices same = record { devices = devices; files = same; file = tt }

    pub with_replies : (bytes : List ℕ) (asked : Given Script) (script : Script) → asked ≡ givens.Value script → OnContents told (λ held. IsAsked asked (replies_input w.replies held))
        → IfOk r (IsAnswered (BytesAnswer before after w (script_result script) bytes) before after)
        → IfOk r (λ o. UnlessFault o.status (OnContents told (λ later. IsAnswered (SourceAnswer before after w later bytes) before after o)))
    with_replies bytes asked script is known x =
        map_answer (IsAnswered (BytesAnswer before after w (script_result script) bytes) before after) (λ o. OnContents told (λ later. IsAnswered (SourceAnswer before after w later bytes) before after o)) r
        (λ o a. map_contents told (λ held. IsAsked (givens.Value script) (replies_input w.replies held)) (λ later. IsAnswered (SourceAnswer before after w later bytes) before after o)
        (λ held k. carried before after (BytesAnswer before after w (script_result script) bytes) (SourceAnswer before after w held bytes) o
        (λ given b. then_ok (replies_input w.replies held) k.0 (λ s. BytesAnswer before after w (script_of s) bytes given) o k.1 (subst (λ s. BytesAnswer before after w s bytes given o) k.2 b)) a)
        (subst (λ y. OnContents told (λ held. IsAsked y (replies_input w.replies held))) is known))
        (all_answers (IsAnswered (BytesAnswer before after w (script_result script) bytes) before after) r x)

    pub replies_stop : (bytes : List ℕ) (asked : Given Script) (script : Script) → told' ≡ told → asked ≡ givens.Value script → OnContents told (λ held. IsAsked asked (replies_input w.replies held))
        → OnErr r ((after ≡ before) ⊎ BytesStops before after w bytes (script_result script)) → IfOk r (λ o. o.status ≡ status.FileFault → ⊥)
        → OnStop (StepStops before after w told told' (SourceStops before after w bytes told)) r
    replies_stop bytes asked script same is known x never = want_only (StepStops before after w told told' (SourceStops before after w bytes told)) ((after ≡ before) ⊎ BytesStops before after w bytes (script_result script)) r either x never
      where
        either : (after ≡ before) ⊎ BytesStops before after w bytes (script_result script) → StepStops before after w told told' (SourceStops before after w bytes told) no_memory
        either (inl devices) = inl (nothing_done devices same)
        either (inr y) = inr (
          refl,
          same,
          map_contents told (λ held. IsAsked (givens.Value script) (replies_input w.replies held)) (λ later. (replies : Option (List ℕ)) × (replies_input w.replies later ≡ Ok replies) × BytesStops before after w bytes (script_of replies))
              (λ held k. (k.0, k.1, subst (λ s. BytesStops before after w bytes s) k.2 y)) (subst (λ a. OnContents told (λ held. IsAsked a (replies_input w.replies held))) is known),
        )

    -- ---- the whole command

    whole_answer : (o : Outcome) → told' ≡ told → OnContents told (λ first. OnContents told (λ later. IsAnswered (λ given o. Then (input_of ModuleBytes w.source (first w.source)) (λ bytes. SourceAnswer before after w later bytes given) o) before after o))
        → AnsweredOn (CoverAnswer before after w) told told' o
    whole_answer o same x =
        let y = x.holds in
        let a = y.holds in
        record {
          first = x.files;
          may_first = x.may;
          later = y.files;
          may_later = y.may;
          given = a.given;
          writes = [];
          answer = record {
            answer = a.answer;
            untouched = map_refusal o.status ((after ≡ before) × (a.given ≡ [])) (IsUntouched before after a.given []) (λ u. record { devices = u.0; given_none = u.1; writes_none = refl }) a.untouched;
            none_written = refl;
          };
          files = subst (λ t. OnTold (HoldThen []) told t) (sym same) (none_held told);
        }

    pub with_source : (name : List ℕ) (input : Given (Vec ℕ Global)) (bytes : Vec ℕ Global) (spelled : List ℕ) → told' ≡ told → name ≡ w.source → input ≡ givens.Value bytes → spelled ≡ bytes.items
        → OnContents told (λ held. IsInput input (input_of ModuleBytes name (held name)))
        → IfOk r (λ o. UnlessFault o.status (OnContents told (λ later. IsAnswered (SourceAnswer before after w later spelled) before after o)))
        → IfOk r (λ o. UnlessFault o.status (AnsweredOn (CoverAnswer before after w) told told' o))
    with_source name input bytes spelled same named is spells known x =
        map_answer (λ o. OnContents told (λ later. IsAnswered (SourceAnswer before after w later spelled) before after o)) (λ o. AnsweredOn (CoverAnswer before after w) told told' o) r
        (λ o a. whole_answer o same (map_contents told (λ held. IsInput (givens.Value bytes) (input_of ModuleBytes w.source (held w.source)))
        (λ first. OnContents told (λ later. IsAnswered (λ given o. Then (input_of ModuleBytes w.source (first w.source)) (λ bytes. SourceAnswer before after w later bytes given) o) before after o))
        (λ first e. map_contents told (λ later. IsAnswered (SourceAnswer before after w later spelled) before after o) (λ later. IsAnswered (λ given o. Then (input_of ModuleBytes w.source (first w.source)) (λ bytes. SourceAnswer before after w later bytes given) o) before after o)
        (λ later b. carried before after (SourceAnswer before after w later spelled) (λ given o. Then (input_of ModuleBytes w.source (first w.source)) (λ bytes. SourceAnswer before after w later bytes given) o) o
        (λ given c. then_ok (input_of ModuleBytes w.source (first w.source)) spelled (λ bytes. SourceAnswer before after w later bytes given) o (e ∙ ap Ok (sym spells)) c) b) a)
        (subst (λ n. OnContents told (λ held. IsInput (givens.Value bytes) (input_of ModuleBytes n (held n)))) named (subst (λ i. OnContents told (λ held. IsInput i (input_of ModuleBytes name (held name)))) is known))))
        x

    -- what is left behind a step is what the command leaves
    source_stop : (name : List ℕ) (input : Given (Vec ℕ Global)) (bytes : Vec ℕ Global) (spelled : List ℕ) → name ≡ w.source → input ≡ givens.Value bytes → spelled ≡ bytes.items
        → OnContents told (λ held. IsInput input (input_of ModuleBytes name (held name)))
        → (stop : Stop) → StepStops before after w told told' (SourceStops before after w spelled told) stop → CoverStops stop w before after told told'
    source_stop name input bytes spelled named is spells known stop (inl nothing) = inl nothing
    source_stop name input bytes spelled named is spells known stop (inr (want, same, y)) =
        let k = y.holds in
        let b = k.2 in
        inr (
          want,
          same,
          record {
            bytes = spelled;
            read = map_contents told (λ held. IsInput (givens.Value bytes) (input_of ModuleBytes w.source (held w.source))) (λ first. input_of ModuleBytes w.source (first w.source) ≡ Ok spelled)
                (λ held e. e ∙ ap Ok (sym spells))
                (subst (λ n. OnContents told (λ held. IsInput (givens.Value bytes) (input_of ModuleBytes n (held n)))) named (subst (λ i. OnContents told (λ held. IsInput i (input_of ModuleBytes name (held name)))) is known));
            replies = k.0;
            replies_read = record { files = y.files; may = y.may; holds = k.1 };
            decoded = b.0;
            spelled = b.1.0;
            valid = b.1.1;
            low = b.1.2;
            script = b.2.0;
            script_is = b.2.1;
            starts = b.2.2.0;
            covers = b.2.2.1;
          },
        )

    pub source_stops : (name : List ℕ) (input : Given (Vec ℕ Global)) (bytes : Vec ℕ Global) (spelled : List ℕ) → name ≡ w.source → input ≡ givens.Value bytes → spelled ≡ bytes.items
        → OnContents told (λ held. IsInput input (input_of ModuleBytes name (held name)))
        → OnStop (StepStops before after w told told' (SourceStops before after w spelled told)) r → OnStop (λ stop. CoverStops stop w before after told told') r
    source_stops name input bytes spelled named is spells known x =
        map_stop (StepStops before after w told told' (SourceStops before after w spelled told)) (λ stop. CoverStops stop w before after told told') r (source_stop name input bytes spelled named is spells known) x
      where
        map_stop : (P Q : Stop → Type 0) (q : Result Outcome WantOfMemory) → ((stop : Stop) → P stop → Q stop) → OnStop P q → OnStop Q q
        map_stop P Q (Err e) go x = go no_memory x
        map_stop P Q (Ok o) go x = λ faulted. let k = x faulted in record { file = k.file; named = k.named; failed = go (file_failed k.file) k.failed; memory = go no_memory k.memory }

-- ---- refusals

module _ (devices : List DeviceState) (w : CoverWords) where
  pub script_refused : {E : Type 0} (r : Result Outcome E) (bytes : List ℕ) (m : Module) (script : Script) (line : ℕ) → script ≡ Bad line → IfOk r (λ o. o ≡ bad_replies line)
      → IfOk r (IsAnswered (ScriptAnswer devices devices w (script_result script) bytes m) devices devices)
  script_refused r bytes m script line is x =
      map_ok r (λ o. o ≡ bad_replies line) (IsAnswered (ScriptAnswer devices devices w (script_result script) bytes m) devices devices)
      (λ o e. untouched devices (ScriptAnswer devices devices w (script_result script) bytes m) o
      (then_err (script_result script) (λ s. ModuleAnswer devices devices w [] s bytes m) o (ap script_result is ∙ ap Err (sym e)))) x

  pub bad_status : {E : Type 0} (r : Result Outcome E) (line : ℕ) (s : Status) → (status.BadReplies ≡ s → ⊥) → IfOk r (λ o. o ≡ bad_replies line) → IfOk r (λ o. o.status ≡ s → ⊥)
  bad_status r line s apart x = map_ok r (λ o. o ≡ bad_replies line) (λ o. o.status ≡ s → ⊥) (λ o e is. apart (sym (ap (λ (y : Outcome). y.status) e) ∙ is)) x

  pub module_refused : (o : Outcome) (script : Result (Option (List Reply)) Outcome) (bytes : List ℕ) (loaded : Given Module) → loaded ≡ givens.Refused o → IsLoaded loaded (module_from bytes)
      → IsAnswered (BytesAnswer devices devices w script bytes) devices devices o
  module_refused o script bytes loaded is x =
      untouched devices (BytesAnswer devices devices w script bytes) o
      (turned_down (λ m. ScriptAnswer devices devices w script bytes m []) (module_from bytes) o (subst (λ l. IsLoaded l (module_from bytes)) is x))

  module _ (told told' : Option Contents) (same : told' ≡ told) where
    pub replies_refused : (o : Outcome) (bytes : List ℕ) (asked : Given Script) → asked ≡ givens.Refused o → OnContents told (λ held. IsAsked asked (replies_input w.replies held))
        → UnlessFault o.status (OnContents told (λ later. IsAnswered (SourceAnswer devices devices w later bytes) devices devices o))
    replies_refused o bytes asked is x =
        let k : OnContents told (λ held. IsAsked (givens.Refused o) (replies_input w.replies held)) = subst (λ a. OnContents told (λ held. IsAsked a (replies_input w.replies held))) is x in
        unless o.status (replies_input w.replies k.files ≡ Err o) (OnContents told (λ later. IsAnswered (SourceAnswer devices devices w later bytes) devices devices o))
        (λ e. record {
          files = k.files;
          may = k.may;
          holds = untouched devices (SourceAnswer devices devices w k.files bytes) o (then_err (replies_input w.replies k.files) (λ s. BytesAnswer devices devices w (script_of s) bytes []) o e);
        })
        k.holds

    pub source_refused : (o : Outcome) (name : List ℕ) (input : Given (Vec ℕ Global)) → name ≡ w.source → input ≡ givens.Refused o → OnContents told (λ held. IsInput input (input_of ModuleBytes name (held name)))
        → UnlessFault o.status (AnsweredOn (CoverAnswer devices devices w) told told' o)
    source_refused o name input named is x =
        let k : OnContents told (λ held. IsInput (givens.Refused o) (input_of ModuleBytes w.source (held w.source))) =
        subst (λ n. OnContents told (λ held. IsInput (givens.Refused o) (input_of ModuleBytes n (held n)))) named (subst (λ i. OnContents told (λ held. IsInput i (input_of ModuleBytes name (held name)))) is x) in
        unless o.status (input_of ModuleBytes w.source (k.files w.source) ≡ Err o) (AnsweredOn (CoverAnswer devices devices w) told told' o)
        (λ e. record {
          first = k.files;
          may_first = k.may;
          later = k.files;
          may_later = k.may;
          given = [];
          writes = [];
          answer = record {
            answer = then_err (input_of ModuleBytes w.source (k.files w.source)) (λ bytes. SourceAnswer devices devices w k.files bytes []) o e;
            untouched = if_refusal o.status (IsUntouched devices devices [] []) (record { devices = refl; given_none = refl; writes_none = refl });
            none_written = refl;
          };
          files = subst (λ t. OnTold (HoldThen []) told t) (sym same) (none_held told);
        })
        k.holds

    -- a file that is read failed
    pub read_failed : (P : Type 0) (before now : ℕ) (file : List ℕ) (o : Outcome) → IsReadBy w file → (o.status ≡ status.FileFault → (o ≡ file_fault file) × Rose before now) → OnStop (StepStops devices devices w told told' P) (Ok o)
    read_failed P before now file o read fault = λ faulted. record {
      file = file;
      named = (fault faulted).0;
      failed = inl (record { devices = refl; files = same; file = read });
      memory = inl (record { devices = refl; files = same; file = tt });
    }

    pub replies_failed : (P : Type 0) (before now : ℕ) (o : Outcome) → IsRepliesFault w.replies before now o → OnStop (StepStops devices devices w told told' P) (Ok o)
    replies_failed P before now o fault = λ faulted. let k = fault faulted in record {
      file = k.0.0;
      named = k.0.2;
      failed = inl (record { devices = refl; files = same; file = inr k.0.1 });
      memory = inl (record { devices = refl; files = same; file = tt });
    }

    pub source_failed : (before now : ℕ) (name : List ℕ) (input : Given (Vec ℕ Global)) (o : Outcome) → input ≡ givens.Refused o → name ≡ w.source
        → IfRefused (Ended (λ o. (o ≡ file_fault name) × Rose before now)) input → OnStop (λ stop. CoverStops stop w devices devices told told') (Ok o)
    source_failed before now name input o is named x = λ faulted.
        let known : (o ≡ file_fault name) × Rose before now = (of_refusal input o (Ended (λ o. (o ≡ file_fault name) × Rose before now)) is x).fault faulted in
        record {
          file = name;
          named = known.0;
          failed = inl (record { devices = refl; files = same; file = inl named });
          memory = inl (record { devices = refl; files = same; file = tt });
        }
