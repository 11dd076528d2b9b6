-- The steps of the command, from the last to the first.
use Rattle.std.proofs.Common.{◌≡◌, List, [], refl, sym, ap, ◌∙◌, subst, Option, Some, None, Result, Ok, Err, inl, inr, ℕ}
use Rattle.std.specs.Prelude.{IfOk}
use Rattle.std.specs.declared.vec.Vec.{Vec}
use Rattle.std.specs.Global.{Global}
use Rattle.causes.specs.Counts.{Rose}
use Rattle.pm_outside.specs.Contents.{Contents}
use Rattle.wasm_syntax.specs.declared.quantity.Quantity.TheVariants.{ModuleBytes, RepliesBytes}
use Rattle.wasm_syntax.specs.declared.host.Reply.{Reply}
use Rattle.wasm_syntax.specs.declared.module.ModuleParts.{ModuleParts as Module}
use Rattle.wasm_syntax.specs.Valid.{Valid}
use Rattle.wasm_validate.specs.Heights.{AllLow}
use Rattle.wasm_decode.specs.Decode.{module_from}
use Rattle.wasm_decode.specs.declared.fault.DecodeFault.{DecodeFault}
use Rattle.host_set.specs.Sets.{DeviceState}
use Rattle.run_words.specs.declared.words.RunWords.{RunWords}
use Rattle.commands.specs.Inputs.{input_of, Then}
use Rattle.commands.specs.Texts.{file_fault}
use Rattle.commands.specs.calls.Ended.{Ended}
use Rattle.commands.specs.calls.Given.{IfRefused}
use Rattle.commands.specs.calls.Input.{IsInput}
use Rattle.commands.specs.Loading.{IsTurnedDown, IfLoaded}
use Rattle.commands.specs.calls.Loaded.{IsLoaded}
use Rattle.commands.specs.Told.{UnlessFault, OnContents}
use Rattle.commands.specs.declared.outcome.Outcome.{Outcome}
use Rattle.commands.specs.declared.status.Status.TheVariants as status
use Rattle.commands.specs.declared.given.Given.{Given}
use Rattle.commands.specs.declared.given.Given.TheVariants as givens
use Rattle.commands.proofs.Unless.{OnAnswer, unless, on_all, map_answer, all_answers}
use Rattle.commands.proofs.Givens.{of_refusal}
use Rattle.commands.proofs.ReadFiles.{map_contents, then_ok, then_err}
use Rattle.run_command.specs.declared.scripts.Script.{Script}
use Rattle.run_command.specs.declared.scripts.Script.TheVariants.{Bad}
use Rattle.run_command.specs.inner.Steps.{IsAnswered}
use Rattle.run_command.specs.RunAnswer.{ModuleAnswer, RunAnswer, AnsweredOn, bad_replies, script_of, replies_input}
use Rattle.run_command.specs.calls.Scripts.{script_result, IsAsked, ScriptAnswer, BytesAnswer, SourceAnswer, IsRepliesFault, IsReadFault}
use Rattle.run_command.proofs.Refusals.{untouched, carried, all_carried}

-- ---- modules

pub turned_down : (Answers : Module → Outcome → Type 0) (decoded : Result Module DecodeFault) (o : Outcome) → IsTurnedDown decoded o → IfLoaded Answers decoded o
turned_down Answers (Err fault) o x = x
turned_down Answers (Ok m) o x = inl x

pub if_loaded : (Answers : Module → Outcome → Type 0) (decoded : Result Module DecodeFault) (m : Module) (o : Outcome) → (decoded ≡ Ok m) × Valid m × AllLow m → Answers m o → IfLoaded Answers decoded o
if_loaded Answers decoded m o (is, valid, low) x = subst (λ d. IfLoaded Answers d o) (sym is) (inr (valid, low, x))

-- ---- the script

abbrev some_bytes : Result (List ℕ) Outcome → Result (Option (List ℕ)) Outcome
some_bytes r = elim r [ Ok bytes ↦ Ok (Some bytes) | Err o ↦ Err o ]

-- what is known of the file of replies, under the name that the words have
of_replies : (replies : Option (List ℕ)) (file name : List ℕ) (held : Contents) (r : Result (List ℕ) Outcome) → replies ≡ Some file → name ≡ file → input_of RepliesBytes name (held name) ≡ r → replies_input replies held ≡ some_bytes r
of_replies replies file name held r is named e = ap (λ f. replies_input f held) is ∙ ap (λ n. some_bytes (input_of RepliesBytes n (held n))) (sym named) ∙ ap some_bytes e

-- the replies that the bytes of the file spell
pub asked_whole : (told : Option Contents) (replies : Option (List ℕ)) (file name : List ℕ) (input : Given (Vec ℕ Global)) (bytes : Vec ℕ Global) (spelled : List ℕ) (script : Script) → replies ≡ Some file → name ≡ file → spelled ≡ bytes.items
    → input ≡ givens.Value bytes → OnContents told (λ held. IsInput input (input_of RepliesBytes name (held name))) → script_result script ≡ script_of (Some spelled) → OnContents told (λ held. IsAsked (givens.Value script) (replies_input replies held))
asked_whole told replies file name input bytes spelled script is named spells whole x from =
    map_contents told (λ held. IsInput (givens.Value bytes) (input_of RepliesBytes name (held name))) (λ held. IsAsked (givens.Value script) (replies_input replies held))
    (λ held e. (Some bytes.items, of_replies replies file name held (Ok bytes.items) is named e, from ∙ ap (λ b. script_of (Some b)) spells))
    (subst (λ i. OnContents told (λ held. IsInput i (input_of RepliesBytes name (held name)))) whole x)

pub asked_refused : (told : Option Contents) (replies : Option (List ℕ)) (file name : List ℕ) (input : Given (Vec ℕ Global)) (o : Outcome) → replies ≡ Some file → name ≡ file
    → input ≡ givens.Refused o → OnContents told (λ held. IsInput input (input_of RepliesBytes name (held name))) → OnContents told (λ held. IsAsked (givens.Refused o) (replies_input replies held))
asked_refused told replies file name input o is named refused x =
    map_contents told (λ held. IsInput (givens.Refused o) (input_of RepliesBytes name (held name))) (λ held. IsAsked (givens.Refused o) (replies_input replies held))
    (λ held. unless o.status (input_of RepliesBytes name (held name) ≡ Err o) (replies_input replies held ≡ Err o) (of_replies replies file name held (Err o) is named))
    (subst (λ i. OnContents told (λ held. IsInput i (input_of RepliesBytes name (held name)))) refused x)

-- none is asked for
pub asked_none : (told : Option Contents) (replies : Option (List ℕ)) (script : Script) → replies ≡ None → script_result script ≡ script_of None → OnContents told (λ held. IsAsked (givens.Value script) (replies_input replies held))
asked_none told replies script is from = by_telling told
  where
    known : (held : Contents) → IsAsked (givens.Value script) (replies_input replies held)
    known held = (None, ap (λ f. replies_input f held) is, from)

    by_telling : (t : Option Contents) → OnContents t (λ held. IsAsked (givens.Value script) (replies_input replies held))
    by_telling None = record { files = λ name. None; may = tt; holds = known (λ name. None) }
    by_telling (Some held) = record { files = held; may = refl; holds = known held }

module _ {E : Type 0} (before after : List DeviceState) (w : RunWords) (old new : Option Contents) (r : Result Outcome E) where
  pub with_script : (m : Module) (given : Script) (script : Option (List Reply)) → script_result given ≡ Ok script
      → OnAnswer (IsAnswered (λ served writes. ModuleAnswer before after w served writes script m) before after old new) r
      → OnAnswer (IsAnswered (λ served writes. ScriptAnswer before after w served writes (script_result given) m) before after old new) r
  with_script m given script is x =
      all_carried before after (λ served writes. ModuleAnswer before after w served writes script m) (λ served writes. ScriptAnswer before after w served writes (script_result given) m) old old new refl r
      (λ served writes o a. then_ok (script_result given) script (λ s. ModuleAnswer before after w served writes s m) o is a) x

  pub with_module : (script : Result (Option (List Reply)) Outcome) (bytes : List ℕ) (loaded : Given Module) (m : Module) → loaded ≡ givens.Value m → IsLoaded loaded (module_from bytes)
      → OnAnswer (IsAnswered (λ given writes. ScriptAnswer before after w given writes script m) before after old new) r
      → OnAnswer (IsAnswered (λ given writes. BytesAnswer before after w given writes script bytes) before after old new) r
  with_module script bytes loaded m is facts x =
      all_carried before after (λ given writes. ScriptAnswer before after w given writes script m) (λ given writes. BytesAnswer before after w given writes script bytes) old old new refl r
      (λ given writes o a. if_loaded (ScriptAnswer before after w given writes script) (module_from bytes) m o (subst (λ l. IsLoaded l (module_from bytes)) is facts) a) x

  abbrev SourceAnswered : List ℕ → Option Contents → Option Contents → Outcome → Type 0
  SourceAnswered bytes told mid o = OnContents told (λ later. IsAnswered (λ given writes. SourceAnswer before after w later given writes bytes) before after mid new o)

  pub with_replies : (mid : Option Contents) (bytes : List ℕ) (asked : Given Script) (script : Script) → mid ≡ old → asked ≡ givens.Value script → OnContents old (λ held. IsAsked asked (replies_input w.replies held))
      → OnAnswer (IsAnswered (λ given writes. BytesAnswer before after w given writes (script_result script) bytes) before after mid new) r
      → OnAnswer (SourceAnswered bytes old old) r
  with_replies mid bytes asked script same is facts x =
      map_answer (IsAnswered (λ given writes. BytesAnswer before after w given writes (script_result script) bytes) before after mid new) (SourceAnswered bytes old old) r
      (λ o a. map_contents old (λ held. IsAsked (givens.Value script) (replies_input w.replies held)) (λ later. IsAnswered (λ given writes. SourceAnswer before after w later given writes bytes) before after old new o)
      (λ held k. carried before after (λ given writes. BytesAnswer before after w given writes (script_result script) bytes) (λ given writes. SourceAnswer before after w held given writes bytes) old mid new same o
      (λ given writes b. then_ok (replies_input w.replies held) k.0 (λ s. BytesAnswer before after w given writes (script_of s) bytes) o k.1 (subst (λ s. BytesAnswer before after w given writes s bytes o) k.2 b)) a)
      (subst (λ a. OnContents old (λ held. IsAsked a (replies_input w.replies held))) is facts)) x

  -- ---- the whole command

  abbrev pub IsWhole : Outcome → Type 0
  IsWhole o = AnsweredOn (RunAnswer before after w) old new o

  whole_answer : (o : Outcome) → OnContents old (λ first. OnContents old (λ later. IsAnswered (λ given writes o. Then (input_of ModuleBytes w.source (first w.source)) (λ bytes. SourceAnswer before after w later given writes bytes) o) before after old new o)) → IsWhole o
  whole_answer o x =
      let y = x.holds in
      let a = y.holds in
      record { first = x.files; may_first = x.may; later = y.files; may_later = y.may; given = a.given; writes = a.writes; answer = record { answer = a.answer; untouched = a.untouched }; files = a.files }

  pub with_source : (mid : Option Contents) (name : List ℕ) (input : Given (Vec ℕ Global)) (bytes : Vec ℕ Global) (spelled : List ℕ) → mid ≡ old → name ≡ w.source → input ≡ givens.Value bytes → spelled ≡ bytes.items
      → OnContents old (λ held. IsInput input (input_of ModuleBytes name (held name)))
      → OnAnswer (λ o. OnContents mid (λ later. IsAnswered (λ given writes. SourceAnswer before after w later given writes spelled) before after mid new o)) r
      → OnAnswer IsWhole r
  with_source mid name input bytes spelled same named is spells facts x =
      map_answer (SourceAnswered spelled old old) IsWhole r
      (λ o a. whole_answer o (map_contents old (λ held. IsInput (givens.Value bytes) (input_of ModuleBytes w.source (held w.source))) (λ first. OnContents old (λ later. IsAnswered (λ given writes o. Then (input_of ModuleBytes w.source (first w.source)) (λ bytes. SourceAnswer before after w later given writes bytes) o) before after old new o))
      (λ first e. map_contents old (λ later. IsAnswered (λ given writes. SourceAnswer before after w later given writes spelled) before after old new o) (λ later. IsAnswered (λ given writes o. Then (input_of ModuleBytes w.source (first w.source)) (λ bytes. SourceAnswer before after w later given writes bytes) o) before after old new o)
      (λ later b. carried before after (λ given writes. SourceAnswer before after w later given writes spelled) (λ given writes o. Then (input_of ModuleBytes w.source (first w.source)) (λ bytes. SourceAnswer before after w later given writes bytes) o) old old new refl o
      (λ given writes c. then_ok (input_of ModuleBytes w.source (first w.source)) spelled (λ bytes. SourceAnswer before after w later given writes bytes) o (e ∙ ap Ok (sym spells)) c) b) a)
      (subst (λ n. OnContents old (λ held. IsInput (givens.Value bytes) (input_of ModuleBytes n (held n)))) named (subst (λ i. OnContents old (λ held. IsInput i (input_of ModuleBytes name (held name)))) is facts))))
      (subst (λ t. OnAnswer (SourceAnswered spelled t t) r) same x)

-- ---- refusals

module _ (devices : List DeviceState) (w : RunWords) (old new : Option Contents) (same : new ≡ old) where
  pub script_refused : {E : Type 0} (r : Result Outcome E) (m : Module) (script : Script) (line : ℕ) → script ≡ Bad line → IfOk r (λ o. o ≡ bad_replies line)
      → OnAnswer (IsAnswered (λ given writes. ScriptAnswer devices devices w given writes (script_result script) m) devices devices old new) r
  script_refused r m script line is x =
      map_answer (λ o. o ≡ bad_replies line) (IsAnswered (λ given writes. ScriptAnswer devices devices w given writes (script_result script) m) devices devices old new) r
      (λ o e. untouched devices (λ given writes. ScriptAnswer devices devices w given writes (script_result script) m) old new o same
      (then_err (script_result script) (λ s. ModuleAnswer devices devices w [] [] s m) o (ap script_result is ∙ ap Err (sym e))))
      (all_answers (λ o. o ≡ bad_replies line) r x)

  pub module_refused : (o : Outcome) (script : Result (Option (List Reply)) Outcome) (bytes : List ℕ) (loaded : Given Module) → loaded ≡ givens.Refused o → IsLoaded loaded (module_from bytes)
      → UnlessFault o.status (IsAnswered (λ given writes. BytesAnswer devices devices w given writes script bytes) devices devices old new o)
  module_refused o script bytes loaded is x =
      on_all o.status (IsAnswered (λ given writes. BytesAnswer devices devices w given writes script bytes) devices devices old new o)
      (untouched devices (λ given writes. BytesAnswer devices devices w given writes script bytes) old new o same
      (turned_down (ScriptAnswer devices devices w [] [] script) (module_from bytes) o (subst (λ l. IsLoaded l (module_from bytes)) is x)))

  pub replies_refused : (o : Outcome) (bytes : List ℕ) (asked : Given Script) → asked ≡ givens.Refused o → OnContents old (λ held. IsAsked asked (replies_input w.replies held))
      → UnlessFault o.status (OnContents old (λ later. IsAnswered (λ given writes. SourceAnswer devices devices w later given writes bytes) devices devices old new o))
  replies_refused o bytes asked is x =
      let k : OnContents old (λ held. IsAsked (givens.Refused o) (replies_input w.replies held)) = subst (λ a. OnContents old (λ held. IsAsked a (replies_input w.replies held))) is x in
      unless o.status (replies_input w.replies k.files ≡ Err o) (OnContents old (λ later. IsAnswered (λ given writes. SourceAnswer devices devices w later given writes bytes) devices devices old new o))
      (λ e. record {
        files = k.files;
        may = k.may;
        holds = untouched devices (λ given writes. SourceAnswer devices devices w k.files given writes bytes) old new o same
            (then_err (replies_input w.replies k.files) (λ b. BytesAnswer devices devices w [] [] (script_of b) bytes) o e);
      })
      k.holds

  pub source_refused : (o : Outcome) (name : List ℕ) (input : Given (Vec ℕ Global)) → name ≡ w.source → input ≡ givens.Refused o → OnContents old (λ held. IsInput input (input_of ModuleBytes name (held name)))
      → UnlessFault o.status (AnsweredOn (RunAnswer devices devices w) old new o)
  source_refused o name input named is x =
      let k : OnContents old (λ held. IsInput (givens.Refused o) (input_of ModuleBytes w.source (held w.source))) = subst (λ n. OnContents old (λ held. IsInput (givens.Refused o) (input_of ModuleBytes n (held n)))) named (subst (λ i. OnContents old (λ held. IsInput i (input_of ModuleBytes name (held name)))) is x) in
      unless o.status (input_of ModuleBytes w.source (k.files w.source) ≡ Err o) (AnsweredOn (RunAnswer devices devices w) old new o)
      (λ e.
      let a = untouched devices (λ given writes o. Then (input_of ModuleBytes w.source (k.files w.source)) (λ bytes. SourceAnswer devices devices w k.files given writes bytes) o) old new o same
      (then_err (input_of ModuleBytes w.source (k.files w.source)) (λ bytes. SourceAnswer devices devices w k.files [] [] bytes) o e) in
      record { first = k.files; may_first = k.may; later = k.files; may_later = k.may; given = a.given; writes = a.writes; answer = record { answer = a.answer; untouched = a.untouched }; files = a.files })
      k.holds

-- the file of the module failed
pub source_fault : (w : RunWords) (before now : ℕ) (name : List ℕ) (input : Given (Vec ℕ Global)) (o : Outcome) → input ≡ givens.Refused o → name ≡ w.source
    → IfRefused (Ended (λ o. (o ≡ file_fault name) × Rose before now)) input → IsReadFault w before now o
source_fault w before now name input o is named x = λ faulted.
    let known : (o ≡ file_fault name) × Rose before now = (of_refusal input o (Ended (λ o. (o ≡ file_fault name) × Rose before now)) is x).fault faulted in
    ((name, inl named, known.0), known.1)

-- the file of replies failed, which is read
pub replies_fault : (w : RunWords) (before now : ℕ) (o : Outcome) → IsRepliesFault w.replies before now o → IsReadFault w before now o
replies_fault w before now o x = λ faulted. let known = x faulted in ((known.0.0, inr known.0.1, known.0.2), known.1)
