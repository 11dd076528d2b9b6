-- Both files were read, or one was refused.
use Rattle.std.proofs.Common.{◌≡◌, ℕ, List, Option, Result, Ok, Err, refl, subst, inl, inr}
use Rattle.std.specs.declared.vec.Vec.{Vec}
use Rattle.std.specs.Global.{Global}
use Rattle.std.specs.Prelude.{IfOk}
use Rattle.pm_outside.specs.Contents.{Contents}
use Rattle.wasm_syntax.specs.declared.quantity.Quantity.TheVariants.{ModuleBytes, RepliesBytes}
use Rattle.commands.specs.calls.Ended.{Ended}
use Rattle.commands.specs.calls.Input.{IsInput}
use Rattle.commands.specs.Inputs.{input_of, Then}
use Rattle.commands.specs.Texts.{file_fault}
use Rattle.commands.specs.Told.{UnlessFault, OnContents}
use Rattle.commands.specs.declared.given.Given.{Given}
use Rattle.commands.specs.declared.given.Given.TheVariants.{Value, Refused}
use Rattle.commands.specs.declared.outcome.Outcome.{Outcome}
use Rattle.commands.proofs.ReadFiles.{map_contents, whole_then, refused_then}
use Rattle.commands.proofs.Unless.{OnAnswer, unless, map_answer}
use Rattle.replay_command.specs.declared.asking.ReplayWords.{ReplayWords}
use Rattle.replay_command.specs.ReplayAnswer.{BytesAnswer, ReplayAnswer, IsReadBy}
use Rattle.debug_command.proofs.Answers.{then_contents}

-- ---- the replies

abbrev pub LogThen : ReplayWords → List ℕ → Contents → Outcome → Type 0
LogThen w bytes later o = Then (input_of RepliesBytes w.log (later w.log)) (BytesAnswer w bytes) o

abbrev pub OnLog : Option Contents → ReplayWords → List ℕ → Outcome → Type 0
OnLog told w bytes o = OnContents told (λ later. LogThen w bytes later o)

pub log_whole : {E : Type 0} (told : Option Contents) (w : ReplayWords) (bytes file : List ℕ) (input : Given (Vec ℕ Global)) (read : Vec ℕ Global) (spelled : List ℕ) (r : Result Outcome E)
    → file ≡ w.log → input ≡ Value read → spelled ≡ read.items → OnContents told (λ held. IsInput input (input_of RepliesBytes file (held file)))
    → OnAnswer (BytesAnswer w bytes spelled) r → OnAnswer (OnLog told w bytes) r
log_whole {E} told w bytes file input read spelled r named is spells x a =
    let y = whole_then told RepliesBytes file input read spelled (BytesAnswer w bytes) r is spells x a in
    subst (λ (f : List ℕ). OnAnswer {E = E} (λ o. OnContents told (λ held. Then (input_of RepliesBytes f (held f)) (BytesAnswer w bytes) o)) r) named y

pub log_refused : (told : Option Contents) (w : ReplayWords) (bytes file : List ℕ) (input : Given (Vec ℕ Global)) (o : Outcome) → file ≡ w.log → input ≡ Refused o → OnContents told (λ held. IsInput input (input_of RepliesBytes file (held file)))
    → UnlessFault o.status (OnLog told w bytes o)
log_refused told w bytes file input o named is x =
    let y = refused_then told RepliesBytes file input o (BytesAnswer w bytes) is x in
    subst (λ (f : List ℕ). UnlessFault o.status (OnContents told (λ held. Then (input_of RepliesBytes f (held f)) (BytesAnswer w bytes) o))) named y

-- ---- the module, and then the replies

abbrev pub OnBoth : Option Contents → ReplayWords → Outcome → Type 0
OnBoth told w o = OnContents told (λ first. OnContents told (λ later. ReplayAnswer w first later o))

both : (told : Option Contents) (w : ReplayWords) (o : Outcome) → OnContents told (λ held. Then (input_of ModuleBytes w.source (held w.source)) (OnLog told w) o) → OnBoth told w o
both told w o x = map_contents told (λ held. Then (input_of ModuleBytes w.source (held w.source)) (OnLog told w) o) (λ first. OnContents told (λ later. ReplayAnswer w first later o))
    (λ held h. then_contents told (input_of ModuleBytes w.source (held w.source)) (λ later bytes. LogThen w bytes later) o h) x

pub module_whole : {E : Type 0} (told told' : Option Contents) (w : ReplayWords) (file : List ℕ) (input : Given (Vec ℕ Global)) (read : Vec ℕ Global) (spelled : List ℕ) (r : Result Outcome E)
    → told' ≡ told → file ≡ w.source → input ≡ Value read → spelled ≡ read.items → OnContents told (λ held. IsInput input (input_of ModuleBytes file (held file)))
    → OnAnswer (OnLog told' w spelled) r → OnAnswer (OnBoth told w) r
module_whole {E} told told' w file input read spelled r same named is spells x a =
    let b : OnAnswer (OnLog told w spelled) r = subst (λ (t : Option Contents). OnAnswer {E = E} (OnLog t w spelled) r) same a in
    let y = whole_then told ModuleBytes file input read spelled (OnLog told w) r is spells x b in
    let z : OnAnswer (λ o. OnContents told (λ held. Then (input_of ModuleBytes w.source (held w.source)) (OnLog told w) o)) r = subst (λ (f : List ℕ). OnAnswer {E = E} (λ o. OnContents told (λ held. Then (input_of ModuleBytes f (held f)) (OnLog told w) o)) r) named y in
    map_answer (λ o. OnContents told (λ held. Then (input_of ModuleBytes w.source (held w.source)) (OnLog told w) o)) (OnBoth told w) r (both told w) z

pub module_refused : (told : Option Contents) (w : ReplayWords) (file : List ℕ) (input : Given (Vec ℕ Global)) (o : Outcome) → file ≡ w.source → input ≡ Refused o → OnContents told (λ held. IsInput input (input_of ModuleBytes file (held file)))
    → UnlessFault o.status (OnBoth told w o)
module_refused told w file input o named is x =
    let y = refused_then told ModuleBytes file input o (OnLog told w) is x in
    let z : UnlessFault o.status (OnContents told (λ held. Then (input_of ModuleBytes w.source (held w.source)) (OnLog told w) o)) = subst (λ (f : List ℕ). UnlessFault o.status (OnContents told (λ held. Then (input_of ModuleBytes f (held f)) (OnLog told w) o))) named y in
    unless o.status (OnContents told (λ held. Then (input_of ModuleBytes w.source (held w.source)) (OnLog told w) o)) (OnBoth told w o) (both told w o) z

-- ---- faults of files

-- of one of the two files that are read
pub source_ended : (w : ReplayWords) (rose : Type 0) (o : Outcome) → Ended (λ o. (o ≡ file_fault w.source) × rose) o → Ended (λ o. ((file : List ℕ) × IsReadBy w file × (o ≡ file_fault file)) × rose) o
source_ended w rose o x = record { fault = λ at. let y = x.fault at in ((w.source, inl refl, y.0), y.1); memory = x.memory }

pub log_ended : {E : Type 0} (w : ReplayWords) (rose rose' : Type 0) (r : Result Outcome E) → (rose → rose') → IfOk r (Ended (λ o. (o ≡ file_fault w.log) × rose))
    → IfOk r (Ended (λ o. ((file : List ℕ) × IsReadBy w file × (o ≡ file_fault file)) × rose'))
log_ended w rose rose' (Ok o) to x = record { fault = λ at. let y = x.fault at in ((w.log, inr refl, y.0), to y.1); memory = x.memory }
log_ended w rose rose' (Err e) to x = tt
