-- The steps of the command, from what the next ones answer.
use Rattle.std.proofs.Common.{◌≡◌, ◌≢◌, ℕ, ◌≤◌, ◌-◌, List, [], ◌∷◌, length, refl, sym, ap, subst, ◌∙◌, arith, inl, inr, Option, Some, None, true, false, Result, Ok, Err}
use Rattle.std.specs.Prelude.{IfOk, Bool, codes, if◌then◌else◌}
use Rattle.std.proofs.lemmas.Slice.Eq.{bytes_eq-Decides}
use Rattle.causes.specs.declared.NoMemory.{NoMemory as WantOfMemory}
use Rattle.pm_outside.specs.Contents.{Contents}
use Rattle.wasm_syntax.specs.declared.module.ModuleParts.{ModuleParts as Module}
use Rattle.wasm_syntax.specs.SameCode.{code_alone}
use Rattle.wasm_syntax.specs.Valid.{Valid}
use Rattle.wasm_bytes.specs.Laws.{IsBytes}
use Rattle.wasm_decode.specs.Decode.{module_from}
use Rattle.wasm_decode.specs.declared.fault.DecodeFault.{DecodeFault}
use Rattle.wasm_validate.specs.Heights.{AllLow}
use Rattle.wasm_validate.proofs.Once.{valid_not_invalid, low_not_high}
use Rattle.wasm_format_laws.specs.calls.Laws.{DecodesSame}
use Rattle.dump_write.specs.Image.{Dump}
use Rattle.dump_write.specs.ImageBytes.{bytes_of}
use Rattle.pm_outside.specs.Written.{OnTold}
use Rattle.rewrite_modules.specs.Simulates.{memory_of}
use Rattle.rewrite_promise.specs.Admitted.{Admits}
use Rattle.commands.specs.Loading.{IsTurnedDown}
use Rattle.commands.specs.Refusal.{IsRefusal}
use Rattle.commands.specs.declared.outcome.Outcome.{Outcome}
use Rattle.commands.proofs.Unless.{OnAnswer, map_answer}
use Rattle.run_session.specs.Delivery.{whole, handed_by, dump_of}
use Rattle.run_session.proofs.Deliveries.{one}
use Rattle.run_session.specs.Stop.{OnStop}
use Rattle.run_session.specs.Telling.{memory_in}
use Rattle.pm_outside.specs.Held.{HoldThen}
use Rattle.instrument_command.specs.calls.Steps.{Refuses}
use Rattle.selftest_command.specs.Selftest.{selftest}
use Rattle.wasm_syntax.specs.Machine.{Config}
use Rattle.wasm_syntax.specs.Run.{Ran, trapped, running}
use Rattle.wasm_laws.proofs.Exact.{ended_within, running_before}
use Rattle.selftest_command.specs.Handing.{main_on, fuel, depth, RunsOnce, own_dump, HandsOver, HandsAllOver, IsEnd}
use Rattle.selftest_command.proofs.OneRun.{one_run}
use Rattle.selftest_command.proofs.Taken.{accepted, all_handed}
use Rattle.selftest_command.specs.SelftestAnswer.{module_file, rewritten_file, module_bytes, both_files, IsRewritten, SelftestAnswer, AnsweredOn}
use Rattle.selftest_command.specs.Stops.{Left, SelftestStops}
use Rattle.selftest_command.specs.inner.Steps.{IsTaken, IsSelftest, RunsAlone, Dumped, summary, none_dumped, compared, dumped, Runs, RunsBytes}
use Rattle.dump_write.proofs.Images.{images_count}
use Rattle.run_session.proofs.Stops.{map_stop}

-- ---- the run

pub ok_is : (r : Result Module DecodeFault) (x y : Module) → r ≡ Ok x → r ≡ Ok y → x ≡ y
ok_is r x y a b = ap (λ q. elim q [ Ok z ↦ z | Err f ↦ x ]) (sym a ∙ b)

-- a valid module with few operands is not refused
pub not_refused : (m : Module) (o : Outcome) → Valid m → AllLow m → IsRefusal m o → ⊥
not_refused m o valid low (inl (place, first, is)) = valid_not_invalid m place valid first
not_refused m o valid low (inr (also, (count, high, is))) = low_not_high m count low high

-- what is taken is not turned down
pub not_turned : (bytes : List ℕ) (o : Outcome) → IsTaken bytes → IsTurnedDown (module_from bytes) o → ⊥
not_turned bytes o t down = not_refused t.decoded o t.valid t.low (subst (λ d. IsTurnedDown d o) t.is down)

pub run_taken : (n : ℕ) (own bytes : List ℕ) (m : Module) (o : Outcome) → module_from bytes ≡ Ok m → Runs n own m o → RunsBytes n own bytes o
run_taken n own bytes m o is runs = record { decoded = m; is = is; runs = runs }

-- ---- what is handed over

-- a division by zero with so many frames, and the bytes of its dump
abbrev division : ℕ → (dump : List ℕ) → Dumped
division n dump = record { kind = 2; frames = n; bytes = dump }

-- the first module's dump is that of its division by zero
own_is : (n : ℕ) (own : List ℕ) (m other : Module) (all : HandsAllOver n m other) → RunsAlone n m own → own ≡ own_dump all.divides.at
own_is n own m other all alone =
    let same : alone.run.ran ≡ all.one.ran = one_run false n m m refl alone.run all.one in
    alone.dump_is 2 all.divides.at (ap (λ (x : Ran). x.outcome) same ∙ all.divides.outcome) (ap (λ (x : Ran). x.last) same ∙ all.divides.last)

-- a dump with these bytes stays
compared_is : (own : List ℕ) (d : Dumped) → own ≡ d.bytes → compared own d ≡ d
compared_is own d same = ap (λ (b : Bool). if b then d else none_dumped) ((bytes_eq-Decides own d.bytes).1 same)

-- the line of a run tells of the division by zero that it hands over
line_of : (n : ℕ) (own : List ℕ) (m other : Module) (o : Outcome) (all : HandsAllOver n m other) → RunsAlone n m own → (r : Runs n own other o) → o ≡ summary n (division n (own_dump all.divides.at)) (fuel - r.run.ran.left)
line_of n own m other o all alone r =
    let h = all.hands r.run in
    let w = h.shows.whole in
    let ran = r.run.ran in
    let short : length (codes "module") ≤ 4096 = omega arith in
    let name = codes "module" in
    let told : r.delivery ≡ whole (handed_by w) = one ran.collected r.delivery (whole (handed_by w)) r.delivers (w, refl) in
    let memory : memory_in ran.last ≡ memory_of h.there = ap memory_in h.last in
    let frames : length (handed_by w).frames ≡ n = ap (λ (d : Dump). length d.frames) (h.shows.dump name short) ∙ images_count all.divides.at.frames ∙ all.divides.frames in
    let bytes : bytes_of (dump_of (handed_by w) (memory_in ran.last) name) ≡ own_dump all.divides.at = ap (λ b. bytes_of (dump_of (handed_by w) b name)) memory ∙ h.one_dump in
    let found : Dumped = record { kind = (handed_by w).kind; frames = length (handed_by w).frames; bytes = bytes_of (dump_of (handed_by w) (memory_in ran.last) name) } in
    let stays : dumped own (whole (handed_by w)) (memory_in ran.last) ≡ found = compared_is own found (own_is n own m other all alone ∙ sym bytes) in
    let is : found ≡ division n (own_dump all.divides.at) = λ i. record { kind = h.shows.kind i; frames = frames i; bytes = bytes i } in
    r.answer ∙ ap (λ d. summary n (dumped own d (memory_in ran.last)) (fuel - ran.left)) told ∙ ap (λ d. summary n d (fuel - ran.left)) (stays ∙ is)

-- it ends behind the steps that it made
end_of : (n : ℕ) (m : Module) {at : Config} (r : RunsOnce true n m) → HandsOver at r.ran → IsEnd r.program n (fuel - r.ran.left)
end_of n m r h = record {
  going = running_before r.program true (main_on n) [] (depth true) fuel r.ran r.runs over;
  ended = ended_within r.program true (main_on n) [] (depth true) fuel r.ran r.runs over;
}
  where
    over : r.ran.outcome ≢ running
    over e = let clash : trapped 1 ≡ running = sym h.shows.trapped_too ∙ e in absurd cc

-- ---- a module that is rewritten

module _ (n : ℕ) (m : Module) (rewritten : List ℕ) (s : IsSelftest n m) (admits : Admits m rewritten) (old new : Option Contents) where
  abbrev modules : IsRewritten n rewritten
  modules = record { taken = m; decoded = s.decoded; valid = s.valid; admitted = admits }

  all_told : (own : List ℕ) (done : Outcome) → RunsAlone n m own → RunsBytes n own rewritten done → SelftestAnswer n (both_files n rewritten) done
  all_told own done alone runs =
      let all = all_handed n m rewritten admits s.least s.most s.are_bytes (record { is = s.decoded; same = s.same }) in
      let ran : Runs n own admits.decoded done = subst (λ x. Runs n own x done) (ok_is (module_from rewritten) runs.decoded admits.decoded runs.is admits.is) runs.runs in
      record {
        rewritten = rewritten;
        both = refl;
        modules = modules;
        one = all.one;
        divides = all.divides;
        other = ran.run;
        hands = all.hands ran.run;
        steps = fuel - ran.run.ran.left;
        is_end = end_of n admits.decoded ran.run (all.hands ran.run);
        answer = line_of n own m admits.decoded done all alone ran;
      }

  pub rewritten_told : (own : List ℕ) (done : Outcome) (result : Result Outcome WantOfMemory) → RunsAlone n m own → RunsBytes n own rewritten done
      → OnAnswer (λ o. (o ≡ done) × OnTold (HoldThen (both_files n rewritten)) old new) result → OnAnswer (AnsweredOn n old new) result
  rewritten_told own done result alone runs x =
      map_answer (λ o. (o ≡ done) × OnTold (HoldThen (both_files n rewritten)) old new) (AnsweredOn n old new) result
      (λ o k. record {
        writes = both_files n rewritten;
        answer = subst (λ p. SelftestAnswer n (both_files n rewritten) p) (sym k.0) (all_told own done alone runs);
        files = k.1;
      }) x

  pub rewritten_stops : (result : Result Outcome WantOfMemory) → OnStop (λ stop. Left stop module_file (module_bytes n) rewritten_file rewritten old new) result → OnStop (λ stop. SelftestStops stop n old new) result
  rewritten_stops result x =
      map_stop (λ stop. Left stop module_file (module_bytes n) rewritten_file rewritten old new) (λ stop. SelftestStops stop n old new) result
      (λ stop k. inr (rewritten, modules, k)) x

-- it is not refused
pub never_refused : (n : ℕ) (m : Module) (o : Outcome) → IsSelftest n m → Refuses m o → ⊥
never_refused n m o s r =
    let ok = accepted n m s.least s.most s.are_bytes (record { is = s.decoded; same = s.same }) in
    let clash : Some r.fault ≡ None = sym r.first ∙ ok.no_cause r.heights r.heights_are in
    absurd cc

-- ---- the module that the bytes spell

pub selftest_is : (n : ℕ) (bytes : List ℕ) (m : Module) → 1 ≤ n → n ≤ 900 → IsBytes bytes → bytes ≡ module_bytes n → DecodesSame (selftest n) (module_bytes n) → module_from bytes ≡ Ok m → Valid m → AllLow m → IsSelftest n m
selftest_is n bytes m least most are spells same decoded valid low =
    let is : module_from (module_bytes n) ≡ Ok m = ap module_from (sym spells) ∙ decoded in
    record {
      least = least;
      most = most;
      are_bytes = subst IsBytes spells are;
      decoded = is;
      valid = valid;
      low = low;
      same = subst (λ x. code_alone x ≡ code_alone (selftest n)) (ok_is (module_from (module_bytes n)) same.decoded m same.is is) same.code;
    }

-- they are not turned down
pub never_turned : (n : ℕ) (bytes : List ℕ) (o : Outcome) → 1 ≤ n → n ≤ 900 → IsBytes bytes → bytes ≡ module_bytes n → DecodesSame (selftest n) (module_bytes n) → IsTurnedDown (module_from bytes) o → ⊥
never_turned n bytes o least most are spells same down =
    let ok = accepted n same.decoded least most (subst IsBytes spells are) (record { is = same.is; same = same.code }) in
    not_refused same.decoded o ok.valid ok.low (subst (λ d. IsTurnedDown d o) (ap module_from spells ∙ same.is) down)

pub run_told : (n : ℕ) (own bytes : List ℕ) (m : Module) (result : Result Outcome WantOfMemory) → module_from bytes ≡ Ok m → IfOk result (Runs n own m) → IfOk result (RunsBytes n own bytes)
run_told n own bytes m (Err e) is x = tt
run_told n own bytes m (Ok o) is x = run_taken n own bytes m o is x

-- ---- the bytes as they were written

pub told_spelled : (n : ℕ) (bytes other rewritten : List ℕ) (old new : Option Contents) (done : Outcome) (result : Result Outcome WantOfMemory) → bytes ≡ module_bytes n → other ≡ rewritten
    → OnAnswer (λ o. (o ≡ done) × OnTold (HoldThen ((module_file, bytes) ∷ (rewritten_file, other) ∷ [])) old new) result → OnAnswer (λ o. (o ≡ done) × OnTold (HoldThen (both_files n rewritten)) old new) result
told_spelled n bytes other rewritten old new done result spells same x =
    subst (λ b. OnAnswer (λ o. (o ≡ done) × OnTold (HoldThen ((module_file, b) ∷ (rewritten_file, rewritten) ∷ [])) old new) result) spells
    (subst (λ r. OnAnswer (λ o. (o ≡ done) × OnTold (HoldThen ((module_file, bytes) ∷ (rewritten_file, r) ∷ [])) old new) result) same x)

pub stops_spelled : (n : ℕ) (bytes other rewritten : List ℕ) (old new : Option Contents) (result : Result Outcome WantOfMemory) → bytes ≡ module_bytes n → other ≡ rewritten
    → OnStop (λ stop. Left stop module_file bytes rewritten_file other old new) result → OnStop (λ stop. Left stop module_file (module_bytes n) rewritten_file rewritten old new) result
stops_spelled n bytes other rewritten old new result spells same x =
    subst (λ b. OnStop (λ stop. Left stop module_file b rewritten_file rewritten old new) result) spells (subst (λ r. OnStop (λ stop. Left stop module_file bytes rewritten_file r old new) result) same x)
