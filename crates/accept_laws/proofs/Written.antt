-- What `run` answers, and the dumps that it writes.
use Rattle.std.proofs.Common.{◌≡◌, ℕ, suc, ◌+◌, Bool, true, false, nat_lt, List, [], ◌∷◌, length, map, if◌then◌else◌, Option, Some, None, Result, Ok, Err, refl, sym, ap, subst, ◌∙◌, arith, inl, inr}
use Rattle.std.specs.Str.{IsUtf8}
use Rattle.pm_outside.specs.Contents.{Contents}
use Rattle.wasm_syntax.specs.declared.quantity.Quantity.TheVariants.{ModuleBytes, RepliesBytes, Height}
use Rattle.wasm_syntax.specs.declared.host.Reply.{Reply}
use Rattle.wasm_syntax.specs.declared.host.Served.{Served}
use Rattle.wasm_syntax.specs.declared.host.CollectorCall.{CollectorCall}
use Rattle.wasm_syntax.specs.declared.module.ModuleParts.{ModuleParts as Module}
use Rattle.wasm_syntax.specs.Quantity.{greatest}
use Rattle.wasm_syntax.specs.Machine.{Config}
use Rattle.wasm_syntax.specs.Module.{Program}
use Rattle.wasm_syntax.specs.Valid.{Valid}
use Rattle.wasm_syntax.specs.Run.{Outcome as RunOutcome, not_started, finished, trapped, lacks_reply, misfits, running, got_stuck, Ran, run}
use Rattle.wasm_decode.specs.declared.fault.DecodeFault.{DecodeFault}
use Rattle.wasm_decode.specs.declared.fault.DecodeFault.TheVariants.{NoMemory, Malformed, Float, ImportKind, Limit}
use Rattle.wasm_decode.specs.Decode.{module_from}
use Rattle.rewrite_promise.proofs.Decoded.{whole, limits}
use Rattle.dump_write.specs.Image.{image}
use Rattle.dump_write.specs.ImageBytes.{bytes_of}
use Rattle.host_devices.specs.Given.{replies_of}
use Rattle.host_replies.specs.Replies.{file_replies}
use Rattle.host_set.specs.Sets.{DeviceState}
use Rattle.commands.specs.Texts.{no_file, over_limit}
use Rattle.commands.specs.Inputs.{input_of, Then}
use Rattle.commands.specs.Refusal.{IsRefusal}
use Rattle.commands.specs.Loading.{undecoded, IfLoaded}
use Rattle.commands.specs.declared.outcome.Outcome.{Outcome}
use Rattle.run_words.specs.declared.words.RunWords.{RunWords}
use Rattle.run_session.specs.Delivery.{Delivery}
use Rattle.run_session.specs.Telling.{Tells, tells, told, torn_in, plain_telling}
use Rattle.run_session.specs.RunText.{unless_torn, up_to_torn, with_dump, dumps_from}
use Rattle.pm_outside.specs.Held.{Writes}
use Rattle.run_session.specs.Invocations.{invocation_of, depth_of}
use Rattle.run_command.specs.Recorded.{served_in}
use Rattle.run_command.specs.Starting.{not_started_with}
use Rattle.run_command.specs.Hosting.{start_text}
use Rattle.run_command.specs.RunAnswer.{hosting, RunsTo, Logs, StartsOr, ModuleAnswer, replies_input, bad_replies, script_of_bytes, script_of, IsUntouched, IfRefusal, RunAnswer}
use Rattle.accept_laws.specs.calls.Accepted.{IsAcceptedIfFew, TrapAccepted, TrapsAccepted}
use Rattle.accept_laws.proofs.Spelled.{decoded}
use Rattle.accept_laws.proofs.Traps.{traps_accepted}
use Rattle.accept_laws.specs.calls.RunAccepted.{AllAccepted, DumpsAccepted, InBounds, HoldBytes}
use Rattle.pm_text.proofs.Lists.{some_is}

-- ---- the files of the dumps

module _ (m : Module) (base name : List ℕ) (text : IsUtf8 name) where
  by_outcome : (o : RunOutcome) (last : Option Config) (j : ℕ) (later : ℕ → Writes) → TrapAccepted m o last → ((k : ℕ) → AllAccepted m (later k))
      → AllAccepted m (with_dump base name j (plain_telling o last) later)
  by_outcome (trapped kind) None j later t h = h j
  by_outcome (trapped kind) (Some c) j later t h =
      let is : c ≡ t.0 = some_is t.1 in
      (subst (λ d. IsAcceptedIfFew m (bytes_of (image d name))) (sym is) (t.2 name text), h (suc j))
  by_outcome (finished v) last j later t h = h j
  by_outcome (not_started cause) last j later t h = h j
  by_outcome (lacks_reply call) last j later t h = h j
  by_outcome (misfits call r) last j later t h = h j
  by_outcome running last j later t h = h j
  by_outcome got_stuck last j later t h = h j

  files_accepted : (deliver : List CollectorCall → Delivery) (rans : List Ran) (j : ℕ) → TrapsAccepted m rans → AllAccepted m (dumps_from (tells false deliver) base name j rans)
  unfolding dumps_from
  files_accepted deliver [] j t = tt
  files_accepted deliver (r ∷ rs) j t = by_outcome r.outcome r.last j (λ k. dumps_from (tells false deliver) base name k rs) t.0 (λ k. files_accepted deliver rs k t.1)

-- ---- the invocations

unless_accepted : (m : Module) (torn : Option ℕ) (rans : List Ran) → TrapsAccepted m rans → TrapsAccepted m (unless_torn torn rans)
unless_accepted m None rans t = t
unless_accepted m (Some at) rans t = tt

front_accepted : (m : Module) (tell : Tells) (rans : List Ran) → TrapsAccepted m rans → TrapsAccepted m (up_to_torn tell rans)
front_accepted m tell [] t = tt
front_accepted m tell (r ∷ rs) t = (t.0, unless_accepted m (torn_in (told tell r)) (up_to_torn tell rs) (front_accepted m tell rs t.1))

-- ---- the answer

-- Words that are refused write nothing, and others run a module that was read.
module _ (before after : List DeviceState) (w : RunWords) (first later : Contents) (given : List Served) (writes : Writes) (o : Outcome) (untouched : IfRefusal o.status (IsUntouched before after given writes)) (Goal : Type 0) (none : writes ≡ [] → Goal)
    (ran : (bytes : List ℕ) → first w.source ≡ Some bytes → (script : Option (List Reply)) (m : Module) → module_from bytes ≡ Ok m → Valid m → RunsTo before after script w m given o writes → Goal) where
  -- what comes behind the files
  abbrev Behind : List ℕ → Option (List ℕ) → Outcome → Type 0
  Behind bytes q o' = IfLoaded (λ m. Then (script_of q) (λ script. ModuleAnswer before after w given writes script m)) (module_from bytes) o'

  -- a refusal writes nothing
  refused : (refusal : Outcome) → o ≡ refusal → (IfRefusal refusal.status (IsUntouched before after given writes) → IsUntouched before after given writes) → Goal
  refused refusal e is = none (is (subst (λ x. IfRefusal x.status (IsUntouched before after given writes)) e untouched)).writes_none

  module _ (bytes : List ℕ) (there : first w.source ≡ Some bytes) where
    started : (script : Option (List Reply)) (m : Module) (cause : Option (List ℕ)) → module_from bytes ≡ Ok m → Valid m → StartsOr cause (RunsTo before after script w m given o writes × Logs m given before after) o → Goal
    started script m None e valid h = ran bytes there script m e valid h.0
    started script m (Some cause) e valid h = refused (not_started_with cause) h (λ x. x)

    scripted : (m : Module) (r : Result (List Reply) ℕ) → module_from bytes ≡ Ok m → Valid m → Then (script_of_bytes r) (λ script. ModuleAnswer before after w given writes script m) o → Goal
    scripted m (Ok replies) e valid h = started (Some replies) m (start_text (hosting before (Some replies) w.collect) m (map invocation_of w.invocations)) e valid h
    scripted m (Err line) e valid h = refused (bad_replies line) h (λ x. x)

    with_script : (m : Module) (q : Option (List ℕ)) → module_from bytes ≡ Ok m → Valid m → Then (script_of q) (λ script. ModuleAnswer before after w given writes script m) o → Goal
    with_script m None e valid h = started None m (start_text (hosting before None w.collect) m (map invocation_of w.invocations)) e valid h
    with_script m (Some text) e valid h = scripted m (file_replies text) e valid h

    undecoded_at : (fault : DecodeFault) → o ≡ undecoded fault → Goal
    undecoded_at (Malformed at) e = refused (undecoded (Malformed at)) e (λ x. x)
    undecoded_at (Float at) e = refused (undecoded (Float at)) e (λ x. x)
    undecoded_at (ImportKind i) e = refused (undecoded (ImportKind i)) e (λ x. x)
    undecoded_at (Limit what count) e = refused (undecoded (Limit what count)) e (λ x. x)
    undecoded_at NoMemory e = refused (undecoded NoMemory) e (λ x. x)

    turned_down : (m : Module) → IsRefusal m o → Goal
    turned_down m (inl h) = refused _ h.2 (λ x. x)
    turned_down m (inr h) = refused (over_limit Height h.1.0) h.1.2 (λ x. x)

    loaded : (q : Option (List ℕ)) (r : Result Module DecodeFault) → module_from bytes ≡ r → IfLoaded (λ m. Then (script_of q) (λ script. ModuleAnswer before after w given writes script m)) r o → Goal
    loaded q (Err fault) e h = undecoded_at fault h
    loaded q (Ok m) e (inl h) = turned_down m h
    loaded q (Ok m) e (inr h) = with_script m q e h.0 h.2

    replies_by : (file : List ℕ) (q : Option (List ℕ)) → Then (elim (input_of RepliesBytes file q) [ Ok text ↦ Ok (Some text) | Err refusal ↦ Err refusal ]) (Behind bytes) o → Goal
    replies_by file None h = refused (no_file file) h (λ x. x)
    replies_by file (Some text) h = by_test (nat_lt (greatest RepliesBytes) (length text)) h
      where
        by_test : (b : Bool) → Then (elim (if b then Err (over_limit RepliesBytes (greatest RepliesBytes + 1)) else Ok text) [ Ok text ↦ Ok (Some text) | Err refusal ↦ Err refusal ]) (Behind bytes) o → Goal
        by_test true h = refused (over_limit RepliesBytes (greatest RepliesBytes + 1)) h (λ x. x)
        by_test false h = loaded (Some text) (module_from bytes) refl h

    with_replies : (q : Option (List ℕ)) → Then (replies_input q later) (Behind bytes) o → Goal
    with_replies None h = loaded None (module_from bytes) refl h
    with_replies (Some file) h = replies_by file (later file) h

  pub answered_by_run : (q : Option (List ℕ)) → first w.source ≡ q → Then (input_of ModuleBytes w.source q) (λ bytes. Then (replies_input w.replies later) (Behind bytes)) o → Goal
  answered_by_run None e h = refused (no_file w.source) h (λ x. x)
  answered_by_run (Some bytes) e h = by_test (nat_lt (greatest ModuleBytes) (length bytes)) h
    where
      by_test : (b : Bool) → Then (if b then Err (over_limit ModuleBytes (greatest ModuleBytes + 1)) else Ok bytes) (λ bytes. Then (replies_input w.replies later) (Behind bytes)) o → Goal
      by_test true h = refused (over_limit ModuleBytes (greatest ModuleBytes + 1)) h (λ x. x)
      by_test false h = with_replies bytes e w.replies h

-- ---- without a collector

module _ (before after : List DeviceState) (w : RunWords) (first later : Contents) (given : List Served) (writes : Writes) (o : Outcome) (bounds : InBounds w) (plain : w.collect ≡ false) (bytes_held : HoldBytes first) where
  front_of : (p : Program) (deliver : List CollectorCall → Delivery) → TrapsAccepted p.module_ (run p false (map invocation_of w.invocations) (replies_of given) w.depth w.fuel)
      → TrapsAccepted p.module_ (up_to_torn (tells w.collect deliver) (run p w.collect (map invocation_of w.invocations) (replies_of given) (depth_of w) w.fuel))
  front_of p deliver t =
      subst (λ (collect : Bool). TrapsAccepted p.module_ (up_to_torn (tells collect deliver) (run p collect (map invocation_of w.invocations) (replies_of given) (if collect then w.depth + 2 else w.depth) w.fuel))) (sym plain)
      (front_accepted p.module_ (tells false deliver) (run p false (map invocation_of w.invocations) (replies_of given) w.depth w.fuel) t)

  ran_accepted : (bytes : List ℕ) (there : first w.source ≡ Some bytes) (script : Option (List Reply)) (m : Module) → module_from bytes ≡ Ok m → Valid m → RunsTo before after script w m given o writes → DumpsAccepted w first writes
  ran_accepted bytes there script m e valid r =
      let is_bytes = bytes_held w.source bytes there in
      let p : Program = r.program in
      let e' : module_from bytes ≡ Ok p.module_ = e ∙ ap Ok (sym r.of_module) in
      let t : TrapsAccepted p.module_ (run p false (map invocation_of w.invocations) (replies_of given) w.depth w.fuel) =
      traps_accepted p false (map invocation_of w.invocations) (replies_of given) w.depth w.fuel r.writes_out (whole bytes p.module_ is_bytes e') (subst Valid (sym r.of_module) valid) (limits bytes p.module_ is_bytes e') (decoded bytes p.module_ is_bytes e') (omega (arith, bounds.depth)) in
      let t' : TrapsAccepted m r.rans = subst (λ x. TrapsAccepted x r.rans) r.of_module (subst (TrapsAccepted p.module_) (sym r.runs) (front_of p r.deliver t)) in
      let files : AllAccepted m (dumps_from (tells w.collect r.deliver) w.dump w.name 0 r.rans) =
      subst (λ (collect : Bool). AllAccepted m (dumps_from (tells collect r.deliver) w.dump w.name 0 r.rans)) (sym plain) (files_accepted m w.dump w.name bounds.name r.deliver r.rans 0 t') in
      inr (bytes, m, there, e, dumps_from (tells w.collect r.deliver) w.dump w.name 0 r.rans, replies_of (served_in r.rans), r.wrote, files)

pub run_accepted : (before after : List DeviceState) (w : RunWords) (first later : Contents) (given : List Served) (writes : Writes) (o : Outcome) → InBounds w → w.collect ≡ false → HoldBytes first → RunAnswer before after w first later given writes o → DumpsAccepted w first writes
run_accepted before after w first later given writes o bounds plain held a =
    answered_by_run before after w first later given writes o a.untouched (DumpsAccepted w first writes) (λ none. inl none) (ran_accepted before after w first later given writes o bounds plain held) (first w.source) refl a.answer
