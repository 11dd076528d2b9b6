-- What is told of invocations.
use Rattle.std.proofs.Common.{◌≡◌, ℕ, ◌+◌, ◌<◌, ◌≤◌, Bool, true, false, List, [], ◌∷◌, ◌++◌, length, refl, sym, ap, ◌∙◌, subst, arith, Option, Some, None, Result, Ok, Err}
use Rattle.std.proofs.lemmas.List.{append-nil}
use Rattle.std.specs.Prelude.{IfOk}
use Rattle.causes.specs.declared.NoMemory.{NoMemory as WantOfMemory}
use Rattle.pm_outside.specs.Contents.{Contents}
use Rattle.wasm_syntax.specs.declared.value.Value.{Value}
use Rattle.wasm_syntax.specs.declared.host.HostCall.{HostCall}
use Rattle.wasm_syntax.specs.declared.host.Reply.{Reply}
use Rattle.wasm_syntax.specs.declared.host.CollectorCall.{CollectorCall}
use Rattle.wasm_syntax.specs.Machine.{Config}
use Rattle.wasm_syntax.specs.Run.{Outcome, not_started, finished, trapped, lacks_reply, misfits, running, got_stuck}
use Rattle.dump_format.specs.declared.dump.Dump.{Dump as FormatDump}
use Rattle.dump_write.specs.Canonical.{canonical_bytes}
use Rattle.dump_write.specs.Image.{DumpFrame}
use Rattle.dump_write.specs.ImageBytes.{bytes_of}
use Rattle.pm_outside.specs.Written.{OnTold, HasFile, HasFront}
use Rattle.run_session.specs.Delivery as delivered
use Rattle.run_session.specs.Delivery.{Delivery}
use Rattle.run_session.specs.Showing.{showing}
use Rattle.run_session.specs.Telling.{Telling, nothing, finish, trap, bare_trap, torn, plain_telling, shown_telling, Tells, tells, torn_in, HasDump}
use Rattle.run_session.specs.RunText.{finished_text, trapped_text, bare_text, telling_text, dump_name, with_trap, place_text, calls_text}
use Rattle.commands.specs.Lines.{kind_line}
use Rattle.pm_outside.specs.Held.{HoldPart}
use Rattle.commands.specs.calls.Given.{IfRefused, IfValue}
use Rattle.commands.specs.declared.given.Given.{Given}
use Rattle.commands.specs.declared.given.Given.TheVariants as givens
use Rattle.run_session.specs.inner.Dumping.{place_in, handed_text, IsTrap, IsTold, torn_at, own_dump, AddsTold, LeavesDump}
use Rattle.run_session.specs.declared.told.Told.{Told}
use Rattle.run_session.specs.declared.told.Told.TheVariants as code
use Rattle.run_session.specs.declared.turns.Lines.{Lines}
use Rattle.pm_outside.proofs.Held.{none_held, one_held, no_part, none_few, one_few, front_part}

-- ---- what is told by outcomes

-- Of an invocation that goes on, is stuck, lacks a reply or has one that does not fit nothing is told. A trap is told but for torn calls. Only traps have dumps.
pub record Behaves (tell : Tells) : Type 0 where
  pub running : (calls : List CollectorCall) (last : Option Config) → tell running calls last ≡ nothing
  pub stuck : (calls : List CollectorCall) (last : Option Config) → tell got_stuck calls last ≡ nothing
  pub lacking : (call : HostCall) (calls : List CollectorCall) (last : Option Config) → tell (lacks_reply call) calls last ≡ nothing
  pub misfitting : (call : HostCall) (reply : Reply) (calls : List CollectorCall) (last : Option Config) → tell (misfits call reply) calls last ≡ nothing
  pub traps : (kind : ℕ) (calls : List CollectorCall) (c : Config) → torn_in (tell (trapped kind) calls (Some c)) ≡ None → 0 < with_trap (tell (trapped kind) calls (Some c)) 0
  pub dumped : (o : Outcome) (calls : List CollectorCall) (last : Option Config) → HasDump (tell o calls last) → (kind : ℕ) × (o ≡ trapped kind)

one_above : 0 < 1
one_above = omega arith

plain_dumped : (o : Outcome) (last : Option Config) → HasDump (plain_telling o last) → (kind : ℕ) × (o ≡ trapped kind)
plain_dumped (trapped kind) (Some c) has = (kind, refl)
plain_dumped (trapped kind) None has = absurd has
plain_dumped (finished v) last has = absurd has
plain_dumped (not_started cause) last has = absurd has
plain_dumped (lacks_reply call) last has = absurd has
plain_dumped (misfits call reply) last has = absurd has
plain_dumped running last has = absurd has
plain_dumped got_stuck last has = absurd has

handed_traps : (kind : ℕ) (d : Delivery) (c : Config) → torn_in (shown_telling (showing (trapped kind) d) (trapped kind) (Some c)) ≡ None → 0 < with_trap (shown_telling (showing (trapped kind) d) (trapped kind) (Some c)) 0
handed_traps kind delivered.nothing c whole = one_above
handed_traps kind (delivered.whole d) c whole = one_above
handed_traps kind (delivered.torn at) c whole = absurd cc

handed_dumped : (o : Outcome) (d : Delivery) (last : Option Config) → HasDump (shown_telling (showing o d) o last) → (kind : ℕ) × (o ≡ trapped kind)
handed_dumped (trapped kind) d last has = (kind, refl)
handed_dumped (finished v) delivered.nothing last has = absurd has
handed_dumped (finished v) (delivered.whole d) last has = absurd has
handed_dumped (finished v) (delivered.torn at) last has = absurd has
handed_dumped (not_started cause) d last has = absurd has
handed_dumped (lacks_reply call) d last has = absurd has
handed_dumped (misfits call reply) d last has = absurd has
handed_dumped running d last has = absurd has
handed_dumped got_stuck d last has = absurd has

pub behaves : (collect : Bool) (deliver : List CollectorCall → Delivery) → Behaves (tells collect deliver)
behaves false deliver = record {
  running = λ calls last. refl;
  stuck = λ calls last. refl;
  lacking = λ call calls last. refl;
  misfitting = λ call reply calls last. refl;
  traps = λ kind calls c whole. one_above;
  dumped = λ o calls last has. plain_dumped o last has;
}
behaves true deliver = record {
  running = λ calls last. refl;
  stuck = λ calls last. refl;
  lacking = λ call calls last. refl;
  misfitting = λ call reply calls last. refl;
  traps = λ kind calls c whole. handed_traps kind (deliver calls) c whole;
  dumped = λ o calls last has. handed_dumped o (deliver calls) last has;
}

-- one trap
pub one_trap : (t : Telling) → HasDump t → with_trap t 0 ≡ 1
one_trap nothing has = absurd has
one_trap (finish v) has = absurd has
one_trap (trap kind place dump) has = refl
one_trap (bare_trap kind) has = absurd has
one_trap (torn at) has = absurd has

-- ---- the lines and the dump of each

pub plus_none : (n : ℕ) → n ≡ n + 0
plus_none n = omega arith

-- nothing was added
module _ (base name : List ℕ) (calls : ℕ) (lines : Lines) (before : Option Contents) where
  adds_quietly : (told : Told) (told_is : Telling) → ((t : Telling) → IsTold t name told → t ≡ told_is) → telling_text told_is calls ≡ [] → with_trap told_is 0 ≡ 0 → ((j : ℕ) → own_dump base name j told_is ≡ []) → AddsTold base name told calls lines lines before before
  adds_quietly told told_is is no_text no_trap no_dump = record {
    writes = [];
    files = none_held before;
    text = λ t x. sym (append-nil lines.text) ∙ ap (λ l. lines.text ++ l) (sym (ap (λ u. telling_text u calls) (is t x) ∙ no_text));
    traps = λ t x. plus_none lines.traps ∙ ap (λ n. lines.traps + n) (sym (ap (λ u. with_trap u 0) (is t x) ∙ no_trap));
    wrote = λ t x. sym (ap (λ u. own_dump base name lines.traps u) (is t x) ∙ no_dump lines.traps);
  }

  pub adds_nothing : (told : Told) → told ≡ code.Nothing → AddsTold base name told calls lines lines before before
  adds_nothing told is = subst (λ x. AddsTold base name x calls lines lines before before) (sym is) (adds_quietly code.Nothing nothing (λ t x. x) refl refl (λ j. refl))

  pub adds_torn : (told : Told) (at : ℕ) → told ≡ code.Torn at → AddsTold base name told calls lines lines before before
  adds_torn told at is = subst (λ x. AddsTold base name x calls lines lines before before) (sym is) (adds_quietly (code.Torn at) (torn at) (λ t x. x) refl refl (λ j. refl))

pub adds_finish : (base name : List ℕ) (calls : ℕ) (old new : Lines) (before : Option Contents) (told : Told) (v : Option Value) → told ≡ code.Finish v → new.text ≡ old.text ++ finished_text v calls → new.traps ≡ old.traps
    → AddsTold base name told calls old new before before
adds_finish base name calls old new before told v is text traps = subst (λ x. AddsTold base name x calls old new before before) (sym is) record {
  writes = [];
  files = none_held before;
  text = λ t x. text ∙ ap (λ u. old.text ++ telling_text u calls) (sym x);
  traps = λ t x. traps ∙ plus_none old.traps ∙ ap (λ u. old.traps + with_trap u 0) (sym x);
  wrote = λ t x. ap (λ u. own_dump base name old.traps u) (sym x);
}

pub adds_bare : (base name : List ℕ) (calls : ℕ) (old new : Lines) (before : Option Contents) (told : Told) (kind : ℕ) → told ≡ code.BareTrap kind → new.text ≡ old.text ++ bare_text kind calls → new.traps ≡ old.traps + 1
    → AddsTold base name told calls old new before before
adds_bare base name calls old new before told kind is text traps = subst (λ x. AddsTold base name x calls old new before before) (sym is) record {
  writes = [];
  files = none_held before;
  text = λ t x. text ∙ ap (λ u. old.text ++ telling_text u calls) (sym x);
  traps = λ t x. traps ∙ ap (λ u. old.traps + with_trap u 0) (sym x);
  wrote = λ t x. ap (λ u. own_dump base name old.traps u) (sym x);
}

-- the lines of a trap are those of its dump
same_lines : (kind : ℕ) (d : FormatDump) (place : Option DumpFrame) (calls : ℕ) → place_in d.frames ≡ place_text place → handed_text kind d.frames calls ≡ trapped_text kind place calls
unfolding handed_text trapped_text
same_lines kind d place calls e = ap (λ l. kind_line kind ++ l ++ calls_text calls) e

pub adds_trap : (base name : List ℕ) (calls : ℕ) (old new : Lines) (before after : Option Contents) (kind : ℕ) (d : FormatDump) → new.text ≡ old.text ++ handed_text kind d.frames calls → new.traps ≡ old.traps + 1
    → OnTold (HasFile (dump_name base old.traps) (canonical_bytes d)) before after → AddsTold base name (code.Trap kind d) calls old new before after
adds_trap base name calls old new before after kind d text traps held = record {
  writes = (dump_name base old.traps, canonical_bytes d) ∷ [];
  files = one_held (dump_name base old.traps) (canonical_bytes d) before after held;
  text = λ t x. text ∙ ap (λ l. old.text ++ l) (same_lines kind d x.place calls x.place_is) ∙ ap (λ u. old.text ++ telling_text u calls) (sym x.is);
  traps = λ t x. traps ∙ ap (λ u. old.traps + with_trap u 0) (sym x.is);
  wrote = λ t x. ap (λ b. (dump_name base old.traps, b) ∷ []) x.bytes ∙ ap (λ u. own_dump base name old.traps u) (sym x.is);
}

-- its calls are not torn
pub torn_that : (told : Told) (kind : ℕ) (d : FormatDump) (written : Result (Given (Option ℕ)) WantOfMemory) → told ≡ code.Trap kind d → IfOk written (IfValue (λ torn. torn ≡ None)) → IfOk written (IfValue (λ torn. torn ≡ torn_at told))
torn_that told kind d written is x = subst (λ y. IfOk written (IfValue (λ torn. torn ≡ torn_at y))) (sym is) x

-- of another value that is this one
pub adds_that : (base name : List ℕ) (calls : ℕ) (old new : Lines) (before after : Option Contents) (told : Told) (kind : ℕ) (d : FormatDump) (written : Result (Given (Option ℕ)) WantOfMemory) → told ≡ code.Trap kind d
    → IfOk written (IfValue (λ done. AddsTold base name (code.Trap kind d) calls old new before after)) → IfOk written (IfValue (λ done. AddsTold base name told calls old new before after))
adds_that base name calls old new before after told kind d written is x = subst (λ y. IfOk written (IfValue (λ done. AddsTold base name y calls old new before after))) (sym is) x

-- ---- the dump, which may be there in part

few_dumps : (base name : List ℕ) (j : ℕ) (t : Telling) → length (own_dump base name j t) ≤ 1
few_dumps base name j nothing = none_few
few_dumps base name j (finish v) = none_few
few_dumps base name j (trap kind place dump) = one_few
few_dumps base name j (bare_trap kind) = none_few
few_dumps base name j (torn at) = none_few

-- nothing was written yet
pub unwritten : (base name : List ℕ) (j : ℕ) (t : Telling) (files : Option Contents) → OnTold (HoldPart (own_dump base name j t)) files files
unwritten base name j t files = no_part (own_dump base name j t) files (few_dumps base name j t)

pub leaves_trap : (base name : List ℕ) (kind : ℕ) (d : FormatDump) (j : ℕ) (before after : Option Contents) → OnTold (HasFront (dump_name base j) (canonical_bytes d)) before after → LeavesDump base name (code.Trap kind d) j before after
leaves_trap base name kind d j before after front t x =
    subst (λ u. OnTold (HoldPart (own_dump base name j u)) before after) (sym x.is)
    (front_part (dump_name base j) (bytes_of (x.dump name)) before after (subst (λ b. OnTold (HasFront (dump_name base j) b) before after) x.bytes front))

pub leaves_that : (base name : List ℕ) (told : Told) (kind : ℕ) (d : FormatDump) (j : ℕ) (before after : Option Contents) → told ≡ code.Trap kind d → LeavesDump base name (code.Trap kind d) j before after → LeavesDump base name told j before after
leaves_that base name told kind d j before after is x = subst (λ y. LeavesDump base name y j before after) (sym is) x

pub leaves_none : (base name : List ℕ) (told : Told) (j : ℕ) (files : Option Contents) → LeavesDump base name told j files files
leaves_none base name told j files t x = unwritten base name j t files

trap_dumped : (name : List ℕ) (told : Told) (kind : ℕ) (d : FormatDump) → told ≡ code.Trap kind d → (t : Telling) → IsTold t name told → HasDump t
trap_dumped name told kind d is t x =
    let y : IsTrap t name kind d = subst (λ u. IsTold t name u) is x in
    subst (λ u. HasDump u) (sym y.is) tt

if_refused : (written : Given (Option ℕ)) (P : Type 0) → P → IfRefused (λ o. P) written
if_refused (givens.Value done) P x = tt
if_refused (givens.Refused o) P x = x

pub dumped_that : (name : List ℕ) (told : Told) (kind : ℕ) (d : FormatDump) → told ≡ code.Trap kind d → (written : Result (Given (Option ℕ)) WantOfMemory) → IfOk written (IfRefused (λ o. (t : Telling) → IsTold t name told → HasDump t))
dumped_that name told kind d is (Ok written) = if_refused written ((t : Telling) → IsTold t name told → HasDump t) (trap_dumped name told kind d is)
dumped_that name told kind d is (Err e) = tt
