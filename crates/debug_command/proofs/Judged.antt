-- The answer on a dump by what came of its matching and of its bytes.
use Rattle.std.proofs.Common.{◌≡◌, List, ℕ, Result, Ok, Err, ap, subst, inl, inr}
use Rattle.std.specs.Prelude.{◌≢◌, IfOk}
use Rattle.wasm_syntax.specs.declared.module.ModuleParts.{ModuleParts as Module}
use Rattle.dump_format.specs.declared.dump.Dump.{Dump}
use Rattle.dump_format.specs.declared.fault.DumpFault.{DumpFault}
use Rattle.dump_format.specs.declared.fault.DumpFault.TheVariants.{NoMemory, Malformed, FloatValue, Several, Limit}
use Rattle.dump_format.specs.Decode.{Answers}
use Rattle.dump_match.specs.declared.mismatch.Mismatch.{Mismatch}
use Rattle.dump_match.specs.Judged.{Match, Judged}
use Rattle.commands.specs.declared.outcome.Outcome.{Outcome}
use Rattle.commands.specs.declared.status.Status.TheVariants as status
use Rattle.commands.specs.Refused.{refused}
use Rattle.debugger.specs.Session.{PrintsAll}
use Rattle.debugger.specs.calls.Sitting.{Sitting, sitting}
use Rattle.debugger.specs.Subject.{subject_of}
use Rattle.debug_command.specs.Answer.{mismatched, IsTold, DumpAnswer, IfDump}

-- the texts of a session from its begin
pub told_by : (cs : List (List ℕ)) (bytes : List ℕ) (x : Match) (session : Sitting) (o : Outcome) → session ≡ sitting (subject_of bytes x) 0 → o.status ≡ status.Done → PrintsAll session.subject session.chosen cs o.text → IsTold cs bytes x.module_ x.dump o
told_by cs bytes x session o begin done prints = record { done = done; prints = subst (λ (z : Sitting). PrintsAll z.subject z.chosen cs o.text) begin prints }

pub matched_told : {E : Type 0} (cs : List (List ℕ)) (bytes : List ℕ) (m : Module) (dump : Dump) (x : Match) (r : Result Outcome E) → Judged (Ok x) m dump → IfOk r (IsTold cs bytes x.module_ x.dump) → IfOk r (DumpAnswer cs bytes m dump)
matched_told cs bytes m dump x (Err e) judged told = tt
matched_told cs bytes m dump x (Ok o) judged told = inr (judged.0, subst (λ (d : Dump). IsTold cs bytes m d o) judged.2 (subst (λ (k : Module). IsTold cs bytes k x.dump o) judged.1 told))

pub mismatch_told : {E : Type 0} (cs : List (List ℕ)) (bytes : List ℕ) (m : Module) (dump : Dump) (row : Mismatch) (r : Result Outcome E) → Judged (Err row) m dump → IfOk r (λ o. o ≡ mismatched row) → IfOk r (DumpAnswer cs bytes m dump)
mismatch_told cs bytes m dump row (Err e) judged told = tt
mismatch_told cs bytes m dump row (Ok o) judged told = inl (row, judged, told)

pub dump_read : {E : Type 0} (P : Dump → Outcome → Type 0) (dump : Dump) (decoded : Result Dump DumpFault) (r : Result Outcome E) → Answers (Ok dump) decoded → IfOk r (P dump) → IfOk r (IfDump P decoded)
dump_read {E} P dump decoded r is x = subst (λ (d : Result Dump DumpFault). IfOk {E = E} r (IfDump P d)) is x

-- the bytes were refused, or memory ran out
fails : {E : Type 0} (P : Dump → Outcome → Type 0) (fault : DumpFault) (decoded : Result Dump DumpFault) (r : Result Outcome E) → Err fault ≡ decoded → IfOk r (λ o. o ≡ refused fault) → IfOk r (IfDump P decoded)
fails {E} P fault decoded r is x = subst (λ (d : Result Dump DumpFault). IfOk {E = E} r (IfDump P d)) is x

wanting : {E : Type 0} (Q : Outcome → Type 0) (r : Result Outcome E) → IfOk r (λ o. o ≡ refused NoMemory) → IfOk r (λ o. o.status ≢ status.NoMemory) → IfOk r Q
wanting Q (Err e) x some = tt
wanting Q (Ok o) x some = absurd (some (ap (λ (p : Outcome). p.status) x))

pub dump_refused : {E : Type 0} (P : Dump → Outcome → Type 0) (fault : DumpFault) (decoded : Result Dump DumpFault) (r : Result Outcome E) → Answers (Err fault) decoded → IfOk r (λ o. o ≡ refused fault) → IfOk r (λ o. o.status ≢ status.NoMemory)
    → IfOk r (IfDump P decoded)
dump_refused P NoMemory decoded r is x some = wanting (IfDump P decoded) r x some
dump_refused P (Malformed at) decoded r is x some = fails P (Malformed at) decoded r is x
dump_refused P (FloatValue at) decoded r is x some = fails P (FloatValue at) decoded r is x
dump_refused P (Several part) decoded r is x some = fails P (Several part) decoded r is x
dump_refused P (Limit what count) decoded r is x some = fails P (Limit what count) decoded r is x
