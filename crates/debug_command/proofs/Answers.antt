-- Both files were read, or one was refused.
use Rattle.std.proofs.Common.{◌≡◌, ℕ, List, Option, Some, None, Result, Ok, Err, refl, subst, inl, inr}
use Rattle.std.specs.declared.vec.Vec.{Vec}
use Rattle.std.specs.Global.{Global}
use Rattle.std.specs.Prelude.{IfOk}
use Rattle.pm_outside.specs.Contents.{Contents}
use Rattle.wasm_syntax.specs.declared.quantity.Quantity.TheVariants.{ModuleBytes, DumpBytes}
use Rattle.commands.specs.calls.Ended.{Ended}
use Rattle.commands.specs.calls.Input.{IsInput}
use Rattle.commands.specs.Inputs.{input_of, Then}
use Rattle.commands.specs.Texts.{file_fault}
use Rattle.commands.specs.Told.{UnlessFault, OnContents}
use Rattle.commands.specs.declared.given.Given.{Given}
use Rattle.commands.specs.declared.given.Given.TheVariants.{Value, Refused}
use Rattle.commands.specs.declared.outcome.Outcome.{Outcome}
use Rattle.commands.proofs.ReadFiles.{map_contents, whole_then, refused_then}
use Rattle.commands.proofs.Unless.{OnAnswer, unless, map_answer}
use Rattle.debug_command.specs.declared.words.DebugWords.{DebugWords}
use Rattle.debug_command.specs.Answer.{BytesAnswer, DebugAnswer, IsReadBy}

-- ---- the dump

abbrev pub DumpThen : DebugWords → List ℕ → Contents → Outcome → Type 0
DumpThen w bytes later o = Then (input_of DumpBytes w.dump (later w.dump)) (BytesAnswer w.commands bytes) o

abbrev pub OnDump : Option Contents → DebugWords → List ℕ → Outcome → Type 0
OnDump told w bytes o = OnContents told (λ later. DumpThen w bytes later o)

pub dump_whole : {E : Type 0} (told : Option Contents) (w : DebugWords) (bytes file : List ℕ) (commands : List (List ℕ)) (input : Given (Vec ℕ Global)) (read : Vec ℕ Global) (spelled : List ℕ) (r : Result Outcome E)
    → file ≡ w.dump → commands ≡ w.commands → input ≡ Value read → spelled ≡ read.items → OnContents told (λ held. IsInput input (input_of DumpBytes file (held file)))
    → OnAnswer (BytesAnswer commands bytes spelled) r → OnAnswer (OnDump told w bytes) r
dump_whole {E} told w bytes file commands input read spelled r named same is spells x a =
    let y = whole_then told DumpBytes file input read spelled (BytesAnswer commands bytes) r is spells x a in
    let z : OnAnswer (λ o. OnContents told (λ held. Then (input_of DumpBytes w.dump (held w.dump)) (BytesAnswer commands bytes) o)) r = subst (λ (f : List ℕ). OnAnswer {E = E} (λ o. OnContents told (λ held. Then (input_of DumpBytes f (held f)) (BytesAnswer commands bytes) o)) r) named y in
    subst (λ (cs : List (List ℕ)). OnAnswer {E = E} (λ o. OnContents told (λ held. Then (input_of DumpBytes w.dump (held w.dump)) (BytesAnswer cs bytes) o)) r) same z

pub dump_refused : (told : Option Contents) (w : DebugWords) (bytes file : List ℕ) (input : Given (Vec ℕ Global)) (o : Outcome) → file ≡ w.dump → input ≡ Refused o → OnContents told (λ held. IsInput input (input_of DumpBytes file (held file)))
    → UnlessFault o.status (OnDump told w bytes o)
dump_refused told w bytes file input o named is x =
    let y = refused_then told DumpBytes file input o (BytesAnswer w.commands bytes) is x in
    subst (λ (f : List ℕ). UnlessFault o.status (OnContents told (λ held. Then (input_of DumpBytes f (held f)) (BytesAnswer w.commands bytes) o))) named y

-- ---- the module, and then the dump

pub any_contents : (told : Option Contents) (P : Contents → Type 0) → ((held : Contents) → P held) → OnContents told P
any_contents None P h = record { files = λ name. None; may = tt; holds = h (λ name. None) }
any_contents (Some held) P h = record { files = held; may = refl; holds = h held }

-- what comes behind stands on other contents
pub then_contents : {A : Type 0} (told : Option Contents) (r : Result A Outcome) (P : Contents → A → Outcome → Type 0) (o : Outcome) → Then r (λ x p. OnContents told (λ later. P later x p)) o → OnContents told (λ later. Then r (P later) o)
then_contents told (Ok x) P o h = h
then_contents told (Err refusal) P o h = any_contents told (λ later. o ≡ refusal) (λ later. h)

abbrev pub OnBoth : Option Contents → DebugWords → Outcome → Type 0
OnBoth told w o = OnContents told (λ first. OnContents told (λ later. DebugAnswer w first later o))

both : (told : Option Contents) (w : DebugWords) (o : Outcome) → OnContents told (λ held. Then (input_of ModuleBytes w.source (held w.source)) (OnDump told w) o) → OnBoth told w o
both told w o x = map_contents told (λ held. Then (input_of ModuleBytes w.source (held w.source)) (OnDump told w) o) (λ first. OnContents told (λ later. DebugAnswer w first later o))
    (λ held h. then_contents told (input_of ModuleBytes w.source (held w.source)) (λ later bytes. DumpThen w bytes later) o h) x

pub module_whole : {E : Type 0} (told told' : Option Contents) (w : DebugWords) (file : List ℕ) (input : Given (Vec ℕ Global)) (read : Vec ℕ Global) (spelled : List ℕ) (r : Result Outcome E)
    → told' ≡ told → file ≡ w.source → input ≡ Value read → spelled ≡ read.items → OnContents told (λ held. IsInput input (input_of ModuleBytes file (held file)))
    → OnAnswer (OnDump told' w spelled) r → OnAnswer (OnBoth told w) r
module_whole {E} told told' w file input read spelled r same named is spells x a =
    let b : OnAnswer (OnDump told w spelled) r = subst (λ (t : Option Contents). OnAnswer {E = E} (OnDump t w spelled) r) same a in
    let y = whole_then told ModuleBytes file input read spelled (OnDump told w) r is spells x b in
    let z : OnAnswer (λ o. OnContents told (λ held. Then (input_of ModuleBytes w.source (held w.source)) (OnDump told w) o)) r = subst (λ (f : List ℕ). OnAnswer {E = E} (λ o. OnContents told (λ held. Then (input_of ModuleBytes f (held f)) (OnDump told w) o)) r) named y in
    map_answer (λ o. OnContents told (λ held. Then (input_of ModuleBytes w.source (held w.source)) (OnDump told w) o)) (OnBoth told w) r (both told w) z

pub module_refused : (told : Option Contents) (w : DebugWords) (file : List ℕ) (input : Given (Vec ℕ Global)) (o : Outcome) → file ≡ w.source → input ≡ Refused o → OnContents told (λ held. IsInput input (input_of ModuleBytes file (held file)))
    → UnlessFault o.status (OnBoth told w o)
module_refused told w file input o named is x =
    let y = refused_then told ModuleBytes file input o (OnDump told w) is x in
    let z : UnlessFault o.status (OnContents told (λ held. Then (input_of ModuleBytes w.source (held w.source)) (OnDump told w) o)) = subst (λ (f : List ℕ). UnlessFault o.status (OnContents told (λ held. Then (input_of ModuleBytes f (held f)) (OnDump told w) o))) named y in
    unless o.status (OnContents told (λ held. Then (input_of ModuleBytes w.source (held w.source)) (OnDump told w) o)) (OnBoth told w o) (both told w o) z

-- ---- faults of files

-- of one of the two files that are read
pub source_ended : (w : DebugWords) (rose : Type 0) (o : Outcome) → Ended (λ o. (o ≡ file_fault w.source) × rose) o → Ended (λ o. ((file : List ℕ) × IsReadBy w file × (o ≡ file_fault file)) × rose) o
source_ended w rose o x = record { fault = λ at. let y = x.fault at in ((w.source, inl refl, y.0), y.1); memory = x.memory }

pub dump_ended : {E : Type 0} (w : DebugWords) (rose rose' : Type 0) (r : Result Outcome E) → (rose → rose') → IfOk r (Ended (λ o. (o ≡ file_fault w.dump) × rose))
    → IfOk r (Ended (λ o. ((file : List ℕ) × IsReadBy w file × (o ≡ file_fault file)) × rose'))
dump_ended w rose rose' (Ok o) to x = record { fault = λ at. let y = x.fault at in ((w.dump, inr refl, y.0), to y.1); memory = x.memory }
dump_ended w rose rose' (Err e) to x = tt
