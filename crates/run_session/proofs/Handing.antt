-- What is told of an invocation by its answer, and by what its collector calls handed over.
use Rattle.std.proofs.Common.{◌≡◌, ℕ, List, [], ◌∷◌, map, refl, sym, ap, ◌∙◌, subst, Bool, true, false, Option, Some, None, Result, Ok, Err}
use Rattle.std.specs.Prelude.{IfOk, option_map}
use Rattle.causes.specs.declared.NoMemory.{NoMemory as WantOfMemory}
use Rattle.linear_memory.specs.calls.Paged.{Paged}
use Rattle.wasm_syntax.specs.declared.value.Value.{Value}
use Rattle.wasm_syntax.specs.declared.parts.Import.{Import}
use Rattle.wasm_syntax.specs.declared.host.CollectorCall.{CollectorCall}
use Rattle.wasm_syntax.specs.Module.{Program}
use Rattle.wasm_syntax.specs.Machine.{Config, first}
use Rattle.wasm_syntax.specs.Run.{Outcome, finished, trapped}
use Rattle.machine_basics.specs.declared.answer.TrapKind.{TrapKind}
use Rattle.machine_basics.specs.calls.Traps.{trap_code}
use Rattle.machine_code.specs.declared.code.Code.{Code}
use Rattle.machine_steps.specs.declared.machine.Machine.{Machine}
use Rattle.machine_steps.specs.calls.Meets.{Shares}
use Rattle.machine_hosted.specs.declared.answer.RunEnd.{RunEnd}
use Rattle.machine_hosted.specs.declared.answer.RunEnd.TheVariants.{Finished, Trapped, NoReply, BadReply, DeviceFault, FuelSpent, NoMemory}
use Rattle.machine_hosted.specs.calls.Answers.{KeepsThen}
use Rattle.machine_hosted.specs.calls.Invocations.{HasOutcome}
use Rattle.wasm_machine.specs.calls.Instances.{State, StandsAt}
use Rattle.wasm_machine.proofs.StandingLaws.{trap_stands}
use Rattle.dump_format.specs.declared.dump.Dump.{Dump as FormatDump}
use Rattle.dump_write.specs.Canonical.{canonical_bytes}
use Rattle.dump_write.specs.Image.{DumpFrame, frame_images, image}
use Rattle.dump_write.specs.ImageBytes.{frame_of, bytes_of}
use Rattle.dump_write.specs.Pictured.{Pictures, bytes_in}
use Rattle.host_collector.specs.declared.closing.Collected.{Collected}
use Rattle.run_session.specs.Delivery.{Delivery, dump_of, IsDelivery, Delivers}
use Rattle.run_session.specs.Showing.{Showing, as_run, no_dump, torn_at, showing}
use Rattle.run_session.specs.calls.Told.{IsHanded, IsShown}
use Rattle.run_session.specs.declared.handed.Handed.{Handed}
use Rattle.run_session.proofs.Deliveries.{one}
use Rattle.run_session.specs.declared.shown.Shown.{Shown}
use Rattle.run_session.specs.declared.shown.Shown.TheVariants as shown
use Rattle.run_session.specs.Telling as telling
use Rattle.run_session.specs.Telling.{Telling, innermost, plain_telling, memory_in, shown_telling, tells}
use Rattle.run_session.specs.RunText.{place_text}
use Rattle.run_session.specs.inner.Dumping.{place_in, IsTrap, IsTold}
use Rattle.run_session.specs.inner.Turns.{CameTo, TellsIt}
use Rattle.run_session.specs.declared.told.Told.{Told}

first_place : (xs : List DumpFrame) → place_in (map frame_of xs) ≡ place_text (first xs)
first_place [] = refl
first_place (x ∷ xs) = refl

-- ---- without collector calls

pub finish_told : (p : Program) (used_up : Import → Bool) (a : RunEnd) (s : State) (o : Outcome) (c : Config) (v : Option Value) → a ≡ Finished v → CameTo p used_up a s o c → plain_telling o (Some c) ≡ telling.finish v
finish_told p used_up a s o c v is came =
    let ended : o ≡ finished v = subst (λ x. HasOutcome p used_up x o) is came.outcome in
    ap (λ x. plain_telling x (Some c)) ended

-- the trap, and where the instance stands
pub record TrapCame (p : Program) (s : State) (o : Outcome) (c : Config) (kind : ℕ) : Type 0 where
  pub ended : o ≡ trapped kind
  pub stands : StandsAt s p c

pub trap_came : (p : Program) (used_up : Import → Bool) (a : RunEnd) (s : State) (o : Outcome) (c : Config) (kind : TrapKind) → a ≡ Trapped kind → CameTo p used_up a s o c → TrapCame p s o c (trap_code kind)
trap_came p used_up a s o c kind is came = record {
  ended = subst (λ x. HasOutcome p used_up x o) is came.outcome;
  stands = trap_stands s p c came.is_of (subst (λ x. KeepsThen p s.prepared.codes.items x s.machine c) is came.keeps);
}

pub trap_told : (p : Program) (s : State) (o : Outcome) (c : Config) (kind k : ℕ) (name : List ℕ) (d : FormatDump) → k ≡ kind → TrapCame p s o c kind → Pictures (image c name) d → canonical_bytes d ≡ bytes_of (image c name) → IsTrap (plain_telling o (Some c)) name k d
trap_told p s o c kind k name d same came pictures bytes = record {
  place = innermost c;
  dump = λ n. image c n;
  is = ap (λ x. plain_telling x (Some c)) came.ended ∙ ap (λ n. telling.trap n (innermost c) (λ m. image c m)) (sym same);
  place_is = ap place_in pictures.frames ∙ first_place (frame_images c.frames);
  bytes = bytes;
}

pub nothing_told : (p : Program) (used_up : Import → Bool) (a : RunEnd) (o : Outcome) (c : Config) → ((v : Option Value) → a ≡ Finished v → ⊥) → ((kind : TrapKind) → a ≡ Trapped kind → ⊥) → (a ≡ NoMemory → ⊥) → HasOutcome p used_up a o → plain_telling o (Some c) ≡ telling.nothing
nothing_told p used_up (Finished v) o c nf nt nm is = absurd (nf v refl)
nothing_told p used_up (Trapped kind) o c nf nt nm is = absurd (nt kind refl)
nothing_told p used_up NoMemory o c nf nt nm is = absurd (nm refl)
nothing_told p used_up NoReply o c nf nt nm (call, is, up) = ap (λ x. plain_telling x (Some c)) is
nothing_told p used_up (DeviceFault device) o c nf nt nm (call, is, named) = ap (λ x. plain_telling x (Some c)) is
nothing_told p used_up (BadReply reply) o c nf nt nm (call, is) = ap (λ x. plain_telling x (Some c)) is
nothing_told p used_up FuelSpent o c nf nt nm is = ap (λ x. plain_telling x (Some c)) is

-- ---- the memory

pub shares_of : (p : Program) (codes : List Code) (a : RunEnd) (m : Machine) (c : Config) → (a ≡ NoMemory → ⊥) → KeepsThen p codes a m c → Shares m c.world
shares_of p codes (Finished v) m c some keeps = keeps.shares
shares_of p codes (Trapped kind) m c some keeps = keeps.shares
shares_of p codes NoReply m c some keeps = keeps.shares
shares_of p codes (DeviceFault device) m c some keeps = keeps.shares
shares_of p codes (BadReply reply) m c some keeps = keeps.shares
shares_of p codes FuelSpent m c some keeps = keeps.shares
shares_of p codes NoMemory m c some keeps = absurd (some refl)

pub of_pages : (memory : Option Paged) → bytes_in memory ≡ option_map (λ m. m.bytes) (option_map (λ m. m.memory) memory)
of_pages None = refl
of_pages (Some m) = refl

pub same_memory : (m : Machine) (c : Config) → Shares m c.world → bytes_in m.shared.memory ≡ memory_in (Some c)
same_memory m c shares = of_pages m.shared.memory ∙ ap (λ o. option_map (λ m. m.bytes) o) (sym shares.holds.memory)

-- ---- by what calls handed over

-- calls hand over one thing
pub shown_is : (p : Program) (used_up : Import → Bool) (a : RunEnd) (o : Outcome) (name : List ℕ) (memory : Option (List ℕ)) (calls : List CollectorCall) (deliver : List CollectorCall → Delivery) → IsDelivery deliver → (value : Shown) (handed : Handed)
    → (delivery : Delivery) × Delivers calls delivery × IsHanded delivery memory name handed
    → ((delivery : Delivery) → IsHanded delivery memory name handed → IsShown (showing o delivery) memory name value)
    → IsShown (showing o (deliver calls)) memory name value
shown_is p used_up a o name memory calls deliver delivers value handed (delivery, is, of) shows = subst (λ d. IsShown (showing o d) memory name value) (one calls delivery (deliver calls) is (delivers calls)) (shows delivery of)

module _ (p : Program) (used_up : Import → Bool) (a : RunEnd) (s : State) (o : Outcome) (c : Config) (name : List ℕ) (some : a ≡ NoMemory → ⊥) (came : CameTo p used_up a s o c) (deliver : List CollectorCall → Delivery) (calls : List CollectorCall) where
  abbrev pub shown_so : Showing
  shown_so = showing o (deliver calls)

  abbrev pub told_so : Telling
  told_so = shown_telling shown_so o (Some c)

  pub as_run_told : (value : Shown) → value ≡ shown.AsRun → IsShown shown_so (bytes_in s.machine.shared.memory) name value → plain_telling o (Some c) ≡ told_so
  as_run_told value is x =
      let y : shown_so ≡ as_run = subst (λ v. IsShown shown_so (bytes_in s.machine.shared.memory) name v) is x in
      ap (λ t. shown_telling t o (Some c)) (sym y)

  pub dump_told : (value : Shown) (d : Collected) → value ≡ shown.Collected d → IsShown shown_so (bytes_in s.machine.shared.memory) name value → IsTrap told_so name d.kind d.dump
  dump_told value d is x = by_dump (subst (λ v. IsShown shown_so (bytes_in s.machine.shared.memory) name v) is x)
    where
      by_dump : IsShown shown_so (bytes_in s.machine.shared.memory) name (shown.Collected d) → IsTrap told_so name d.kind d.dump
      by_dump (h, same, carries) = record {
        place = first h.frames;
        dump = λ n. dump_of h (memory_in (Some c)) n;
        is = ap (λ t. shown_telling t o (Some c)) same ∙ ap (λ k. telling.trap k (first h.frames) (λ n. dump_of h (memory_in (Some c)) n)) (sym carries.kind);
        place_is = ap place_in carries.dump.frames ∙ first_place h.frames;
        bytes = carries.bytes ∙ ap (λ m. bytes_of (dump_of h m name)) (same_memory s.machine c (shares_of p s.prepared.codes.items a s.machine c some came.keeps));
      }

  pub bare_told : (value : Shown) (kind : TrapKind) (k : ℕ) → value ≡ shown.NoDump kind → k ≡ trap_code kind → IsShown shown_so (bytes_in s.machine.shared.memory) name value → told_so ≡ telling.bare_trap k
  bare_told value kind k is same x =
      let y : shown_so ≡ no_dump (trap_code kind) = subst (λ v. IsShown shown_so (bytes_in s.machine.shared.memory) name v) is x in
      ap (λ t. shown_telling t o (Some c)) y ∙ ap (λ n. telling.bare_trap n) (sym same)

  pub torn_told : (value : Shown) (at : ℕ) → value ≡ shown.Torn at → IsShown shown_so (bytes_in s.machine.shared.memory) name value → told_so ≡ telling.torn at
  torn_told value at is x =
      let y : shown_so ≡ torn_at at = subst (λ v. IsShown shown_so (bytes_in s.machine.shared.memory) name v) is x in
      ap (λ t. shown_telling t o (Some c)) y

-- ---- by what the words ask for

module _ (collect : Bool) (deliver : List CollectorCall → Delivery) (a : RunEnd) (s : State) (calls : List CollectorCall) (name there : List ℕ) where
  lift : (result : Result Told WantOfMemory) (tell : Outcome → List CollectorCall → Option Config → Telling)
      → ((p : Program) (used_up : Import → Bool) (o : Outcome) (c : Config) (others : List CollectorCall) → CameTo p used_up a s o c → (collect ≡ true → others ≡ calls) → IfOk result (IsTold (tell o others (Some c)) name))
      → IfOk result (TellsIt tell collect a s calls name)
  lift (Ok value) tell all = λ p used_up o c others came same. all p used_up o c others came same
  lift (Err e) tell all = tt

  pub told_with : collect ≡ true → there ≡ name → (result : Result Told WantOfMemory)
      → ((p : Program) (used_up : Import → Bool) (o : Outcome) (c : Config) → CameTo p used_up a s o c → IfOk result (IsTold (shown_telling (showing o (deliver calls)) o (Some c)) there))
      → IfOk result (TellsIt (tells collect deliver) collect a s calls name)
  told_with asked named result all =
      lift result (tells collect deliver)
      (λ p used_up o c others came same.
      subst (λ b. IfOk result (IsTold (tells b deliver o others (Some c)) name)) (sym asked)
      (subst (λ l. IfOk result (IsTold (shown_telling (showing o (deliver l)) o (Some c)) name)) (sym (same asked))
      (subst (λ n. IfOk result (IsTold (shown_telling (showing o (deliver calls)) o (Some c)) n)) named (all p used_up o c came))))

  pub told_without : collect ≡ false → there ≡ name → (result : Result Told WantOfMemory)
      → ((p : Program) (used_up : Import → Bool) (o : Outcome) (c : Config) → CameTo p used_up a s o c → IfOk result (IsTold (plain_telling o (Some c)) there))
      → IfOk result (TellsIt (tells collect deliver) collect a s calls name)
  told_without none named result all =
      lift result (tells collect deliver)
      (λ p used_up o c others came same.
      subst (λ b. IfOk result (IsTold (tells b deliver o others (Some c)) name)) (sym none)
      (subst (λ n. IfOk result (IsTold (plain_telling o (Some c)) n)) named (all p used_up o c came)))
