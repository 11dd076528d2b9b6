-- What `run --collect` writes of a module that another one is rewritten to is accepted with that other one.
use Rattle.std.proofs.Common.{◌≡◌, ℕ, zero, suc, ◌+◌, ◌-◌, ◌≤◌, Bool, true, false, List, [], ◌∷◌, length, map, slice_get, if◌then◌else◌, Option, Some, None, Result, Ok, Err, refl, sym, ap, subst, ◌∙◌, arith, inl, inr}
use Rattle.std.specs.Prelude.{IfSome}
use Rattle.std.specs.Str.{IsUtf8}
use Rattle.std.specs.List.{AllByRecursion}
use Rattle.pm_outside.specs.Contents.{Contents}
use Rattle.pm_outside.specs.Held.{Writes}
use Rattle.wasm_syntax.specs.declared.host.CollectorCall.{CollectorCall}
use Rattle.wasm_syntax.specs.declared.host.Reply.{Reply}
use Rattle.wasm_syntax.specs.declared.value.Value.{Value}
use Rattle.wasm_syntax.specs.declared.host.Served.{Served}
use Rattle.wasm_syntax.specs.declared.module.ModuleParts.{ModuleParts as Module}
use Rattle.wasm_syntax.specs.Module.{Program}
use Rattle.wasm_syntax.specs.Machine.{Config}
use Rattle.wasm_syntax.specs.Run.{Outcome as RunOutcome, not_started, finished, trapped, lacks_reply, misfits, running, got_stuck, Ran, Invocation, run}
use Rattle.wasm_syntax.specs.Valid.{Valid}
use Rattle.wasm_bytes.specs.Laws.{IsBytes}
use Rattle.wasm_decode.specs.declared.fault.DecodeFault.{DecodeFault}
use Rattle.wasm_decode.specs.Decode.{module_from}
use Rattle.wasm_laws.specs.calls.Runs.{with_more}
use Rattle.wasm_laws.proofs.Lists.{all_of}
use Rattle.wasm_laws.proofs.Longer.{longer_run}
use Rattle.wasm_laws.proofs.OneProgram.{same_program}
use Rattle.dump_write.specs.ImageBytes.{bytes_of}
use Rattle.host_devices.specs.Given.{replies_of}
use Rattle.host_set.specs.Sets.{DeviceState}
use Rattle.rewrite_modules.specs.Instrumentable.{program_of}
use Rattle.rewrite_modules.specs.Simulates.{NoneDeep, EndsAlike, AllAlike}
use Rattle.rewrite_promise.specs.Admitted.{Admits}
use Rattle.rewrite_promise.proofs.Decoded.{limits}
use Rattle.commands.specs.declared.outcome.Outcome.{Outcome}
use Rattle.run_words.specs.declared.words.RunWords.{RunWords}
use Rattle.run_session.specs.Delivery.{Delivery, nothing, whole, torn, handed_by, dump_of, IsDelivery}
use Rattle.run_session.specs.Showing.{showing}
use Rattle.run_session.specs.Telling.{Tells, tells, told, torn_in, memory_in, shown_telling}
use Rattle.run_session.specs.RunText.{unless_torn, up_to_torn, with_dump, dumps_from}
use Rattle.run_session.specs.Invocations.{invocation_of, depth_of}
use Rattle.run_session.proofs.Deliveries.{one}
use Rattle.run_command.specs.Recorded.{served_in}
use Rattle.run_command.specs.RunAnswer.{RunsTo, RunAnswer}
use Rattle.accept_laws.specs.calls.Accepted.{IsAcceptedIfFew, TrapsAccepted, HandsOver, HandsOverAt}
use Rattle.accept_laws.specs.calls.RunAccepted.{AllAccepted, AcceptedWith, InBounds}
use Rattle.accept_laws.proofs.Spelled.{decoded}
use Rattle.accept_laws.proofs.Traps.{traps_accepted}
use Rattle.accept_laws.proofs.Collecting.{over}
use Rattle.accept_laws.proofs.Written.{answered_by_run}
use Rattle.pm_text.proofs.Lists.{some_is}

ok_is : (r : Result Module DecodeFault) (x y : Module) → r ≡ Ok x → r ≡ Ok y → x ≡ y
ok_is r x y a b = ap (λ q. elim q [ Ok z ↦ z | Err f ↦ x ]) (sym a ∙ b)

-- an invocation that trapped hands its dump over
abbrev IsHanded : Module → Ran → Type 0
IsHanded m r = (kind : ℕ) → r.outcome ≡ trapped kind → HandsOver m r

-- ---- the run

-- one that trapped stands for one that did
handed_here : (m : Module) (o : RunOutcome) (last : Option Config) (other : Ran) (kind : ℕ) → other.outcome ≡ trapped kind → EndsAlike o last other.last other → HandsOverAt m o other → HandsOver m other
handed_here m (trapped k) last other kind so ends h = h
handed_here m (not_started cause) last other kind so ends h = let clash : trapped kind ≡ not_started cause = sym so ∙ ends.0 in absurd cc
handed_here m (finished v) last other kind so ends h = let clash : trapped kind ≡ finished v = sym so ∙ ends.0 in absurd cc
handed_here m (lacks_reply call) last other kind so ends h = let clash : trapped kind ≡ lacks_reply call = sym so ∙ ends.0 in absurd cc
handed_here m (misfits call reply) last other kind so ends h = let clash : trapped kind ≡ misfits call reply = sym so ∙ ends.0 in absurd cc
handed_here m running last other kind so ends h = let clash : trapped kind ≡ running = sym so ∙ ends.0 in absurd cc
handed_here m got_stuck last other kind so ends h = let clash : trapped kind ≡ got_stuck = sym so ∙ ends.0 in absurd cc

handed_at : (m : Module) (ones others : List Ran) → AllAlike ones others → TrapsAccepted m ones → (i : ℕ) (q : Ran) → slice_get others i ≡ Some q → IsHanded m q
handed_at m [] [] h t i q e kind so = absurd cc
handed_at m [] (other ∷ others) h t i q e kind so = absurd h
handed_at m (one ∷ ones) [] h t i q e kind so = absurd h
handed_at m (one ∷ ones) (other ∷ others) h t zero q e kind so =
    let same : other ≡ q = some_is e in
    let there : other.outcome ≡ trapped kind = ap (λ (r : Ran). r.outcome) same ∙ so in
    subst (HandsOver m) same (handed_here m one.outcome one.last other kind there h.0.ends (over m one.outcome one.last other h.0.ends t.0))
handed_at m (one ∷ ones) (other ∷ others) h t (suc i) q e kind so = handed_at m ones others h.1 t.1 i q e kind so

with_fewer : (m : Module) (more : ℕ) (r : Ran) → HandsOver m (with_more more r) → HandsOver m r
with_fewer m more r h = record { whole = h.whole; last = h.last; last_is = h.last_is; accepted = h.accepted }

trap_over : (kind : ℕ) → trapped kind ≡ running → ⊥
trap_over kind e = absurd cc

if_some : (m : Module) (o : Option Ran) → ((r : Ran) → o ≡ Some r → IsHanded m r) → IfSome o (IsHanded m)
if_some m None h = tt
if_some m (Some r) h = h r refl

module _ (bytes : List ℕ) (m : Module) (written : List ℕ) (these : Admits m written) (fits : IsBytes bytes) (read : module_from bytes ≡ Ok m) (valid : Valid m) where
  abbrev p : Program
  p = program_of m these.whole

  abbrev other : Program
  other = program_of these.decoded these.decoded_whole

  run_handed : (is : List Invocation) (replies : List Reply) (d n : ℕ) → 1 ≤ d → d ≤ 10000 → NoneDeep (run p false is replies d n) → AllByRecursion (IsHanded m) (run other true is replies (d + 2) n)
  run_handed is replies d n low high none =
      all_of (IsHanded m) (run other true is replies (d + 2) n) (λ i. if_some m (slice_get (run other true is replies (d + 2) n) i) (λ r e kind so. by_more i r e kind so))
    where
      by_more : (i : ℕ) (r : Ran) → slice_get (run other true is replies (d + 2) n) i ≡ Some r → IsHanded m r
      by_more i r e kind so =
          let s = these.simulates is replies d n low high none in
          let traps = traps_accepted p false is replies d n these.whole.write these.whole valid (limits bytes m fits read) (decoded bytes m fits read) (omega (arith, high)) in
          let stays = longer_run other true is replies (d + 2) n s.0 s.1 i r e (λ still. trap_over kind (sym so ∙ still)) in
          with_fewer m (s.0 - n) r (handed_at m (run p false is replies d n) (run other true is replies (d + 2) s.0) s.3 traps i (with_more (s.0 - n) r) stays kind so)

-- ---- the invocations up to torn calls

unless_handed : (m : Module) (at : Option ℕ) (rans : List Ran) → AllByRecursion (IsHanded m) rans → AllByRecursion (IsHanded m) (unless_torn at rans)
unless_handed m None rans h = h
unless_handed m (Some at) rans h = tt

front_handed : (m : Module) (tell : Tells) (rans : List Ran) → AllByRecursion (IsHanded m) rans → AllByRecursion (IsHanded m) (up_to_torn tell rans)
front_handed m tell [] h = tt
front_handed m tell (r ∷ rs) h = (h.0, unless_handed m (torn_in (told tell r)) (up_to_torn tell rs) (front_handed m tell rs h.1))

-- ---- the files of the dumps

module _ (m : Module) (base name : List ℕ) (text : IsUtf8 name) (short : length name ≤ 4096) (deliver : List CollectorCall → Delivery) (delivers : IsDelivery deliver) where
  abbrev Shown : (j : ℕ) → RunOutcome → Delivery → Option Config → (ℕ → Writes) → Type 0
  Shown j o d last later = AllAccepted m (with_dump base name j (shown_telling (showing o d) o last) later)

  by_finish : (v : Option Value) (d : Delivery) (last : Option Config) (j : ℕ) (later : ℕ → Writes) → ((k : ℕ) → AllAccepted m (later k)) → Shown j (finished v) d last later
  by_finish v nothing last j later h = h j
  by_finish v (whole d) last j later h = h j
  by_finish v (torn at) last j later h = h j

  by_trap : (r : Ran) (kind : ℕ) (j : ℕ) (later : ℕ → Writes) → HandsOver m r → ((k : ℕ) → AllAccepted m (later k)) → Shown j (trapped kind) (deliver r.collected) r.last later
  by_trap r kind j later x h =
      let is : deliver r.collected ≡ whole (handed_by x.whole) = one r.collected (deliver r.collected) (whole (handed_by x.whole)) (delivers r.collected) (x.whole, refl) in
      let accepted : IsAcceptedIfFew m (bytes_of (dump_of (handed_by x.whole) (memory_in r.last) name)) =
      subst (λ memory. IsAcceptedIfFew m (bytes_of (dump_of (handed_by x.whole) memory name))) (sym (ap memory_in x.last_is)) (x.accepted name text short) in
      subst (λ d. Shown j (trapped kind) d r.last later) (sym is) (accepted, h (suc j))

  by_outcome : (r : Ran) (o : RunOutcome) → r.outcome ≡ o → IsHanded m r → (j : ℕ) (later : ℕ → Writes) → ((k : ℕ) → AllAccepted m (later k)) → Shown j o (deliver r.collected) r.last later
  by_outcome r (trapped kind) so handed j later h = by_trap r kind j later (handed kind so) h
  by_outcome r (finished v) so handed j later h = by_finish v (deliver r.collected) r.last j later h
  by_outcome r (not_started cause) so handed j later h = h j
  by_outcome r (lacks_reply call) so handed j later h = h j
  by_outcome r (misfits call reply) so handed j later h = h j
  by_outcome r running so handed j later h = h j
  by_outcome r got_stuck so handed j later h = h j

  files_handed : (rans : List Ran) (j : ℕ) → AllByRecursion (IsHanded m) rans → AllAccepted m (dumps_from (tells true deliver) base name j rans)
  unfolding dumps_from
  files_handed [] j h = tt
  files_handed (r ∷ rs) j h = by_outcome r r.outcome refl h.0 j (λ k. dumps_from (tells true deliver) base name k rs) (λ k. files_handed rs k h.1)

-- ---- the answer

module _ (before after : List DeviceState) (w : RunWords) (first later : Contents) (given : List Served) (writes : Writes) (o : Outcome) (bytes : List ℕ) (m : Module) (written : List ℕ) (these : Admits m written) (bounds : InBounds w) (low : 1 ≤ w.depth) (short : length w.name ≤ 4096) (collects : w.collect ≡ true) (fits : IsBytes bytes) (read : module_from bytes ≡ Ok m) (valid : Valid m) (held : first w.source ≡ Some written)
    (none : NoneDeep (run (program_of m these.whole) false (map invocation_of w.invocations) (replies_of given) w.depth w.fuel)) where
  ran : (there : List ℕ) → first w.source ≡ Some there → (script : Option (List Reply)) (m' : Module) → module_from there ≡ Ok m' → Valid m' → RunsTo before after script w m' given o writes → AcceptedWith m w writes
  ran there is script m' e valid' r =
      let same : there ≡ written = some_is (sym is ∙ held) in
      let decoded_is : m' ≡ these.decoded = ok_is (module_from there) m' these.decoded e (ap module_from same ∙ these.is) in
      let program : r.program ≡ program_of these.decoded these.decoded_whole =
      same_program these.decoded r.program (program_of these.decoded these.decoded_whole) (r.of_module ∙ decoded_is) refl r.writes_out these.decoded_whole.write in
      let all = run_handed bytes m written these fits read valid (map invocation_of w.invocations) (replies_of given) w.depth w.fuel low bounds.depth none in
      let front = front_handed m (tells true r.deliver) (run (program_of these.decoded these.decoded_whole) true (map invocation_of w.invocations) (replies_of given) (w.depth + 2) w.fuel) all in
      let handed : AllByRecursion (IsHanded m) r.rans =
      subst (AllByRecursion (IsHanded m)) (sym r.runs)
      (subst (λ (q : Program). AllByRecursion (IsHanded m) (up_to_torn (tells w.collect r.deliver) (run q w.collect (map invocation_of w.invocations) (replies_of given) (depth_of w) w.fuel))) (sym program)
      (subst (λ (collect : Bool). AllByRecursion (IsHanded m) (up_to_torn (tells collect r.deliver) (run (program_of these.decoded these.decoded_whole) collect (map invocation_of w.invocations) (replies_of given) (if collect then w.depth + 2 else w.depth) w.fuel))) (sym collects) front)) in
      let files : AllAccepted m (dumps_from (tells w.collect r.deliver) w.dump w.name 0 r.rans) =
      subst (λ (collect : Bool). AllAccepted m (dumps_from (tells collect r.deliver) w.dump w.name 0 r.rans)) (sym collects) (files_handed m w.dump w.name bounds.name short r.deliver r.delivers r.rans 0 handed) in
      inr (dumps_from (tells w.collect r.deliver) w.dump w.name 0 r.rans, replies_of (served_in r.rans), r.wrote, files)

  pub collected_accepted : RunAnswer before after w first later given writes o → AcceptedWith m w writes
  collected_accepted a = answered_by_run before after w first later given writes o a.untouched (AcceptedWith m w writes) (λ none. inl none) ran (first w.source) refl a.answer
