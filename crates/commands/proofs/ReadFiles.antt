-- Files that were read, and what they may hold.
use Rattle.std.proofs.Common.{◌≡◌, ℕ, ◌+◌, ◌<◌, ◌≤◌, List, length, replicate, refl, sym, ap, ◌∙◌, subst, arith, Option, Some, None, Result, Ok, Err}
use Rattle.std.specs.Prelude.{IfSome, if◌then◌else◌}
use Rattle.std.specs.declared.vec.Vec.{Vec}
use Rattle.std.specs.Global.{Global}
use Rattle.std.proofs.lemmas.Bool.{lt-ltb, le-ltb}
use Rattle.std.proofs.lemmas.List.{length-replicate}
use Rattle.pm_outside.specs.Contents.{Contents}
use Rattle.pm_outside.specs.calls.Whole.{Refuses}
use Rattle.pm_outside.specs.declared.whole.FileError.{FileError}
use Rattle.pm_outside.specs.declared.whole.FileError.TheVariants.{Missing, TooLong, Failed, NoMemory}
use Rattle.wasm_syntax.specs.Quantity.{greatest}
use Rattle.wasm_syntax.specs.declared.quantity.Quantity.{Quantity}
use Rattle.commands.specs.calls.Input.{IsInput, IsUnread}
use Rattle.commands.specs.Inputs.{input_of, Then}
use Rattle.commands.specs.Texts.{over_limit}
use Rattle.commands.specs.Told.{UnlessFault, OnContents}
use Rattle.commands.specs.declared.given.Given.{Given}
use Rattle.commands.specs.declared.given.Given.TheVariants.{Value, Refused}
use Rattle.commands.specs.declared.outcome.Outcome.{Outcome}
use Rattle.commands.proofs.Unless.{OnAnswer, unless, on_all, map_answer}
use Rattle.causes.specs.Counts.{Rose}

-- ---- what a file gives

fits : (what : Quantity) (file bytes : List ℕ) → length bytes ≤ greatest what → input_of what file (Some bytes) ≡ Ok bytes
fits what file bytes le = ap (λ b. if b then Err (over_limit what (greatest what + 1)) else Ok bytes) (le-ltb (greatest what) (length bytes) le)

too_long : (what : Quantity) (file bytes : List ℕ) → greatest what < length bytes → input_of what file (Some bytes) ≡ Err (over_limit what (greatest what + 1))
too_long what file bytes lt = ap (λ b. if b then Err (over_limit what (greatest what + 1)) else Ok bytes) (lt-ltb (greatest what) (length bytes) lt)

longer : (n : ℕ) → (bytes : List ℕ) × (n < length bytes)
longer n = (replicate (n + 1) 0, rw length-replicate (omega arith))

refused_as : (what : Quantity) (file : List ℕ) (o : Outcome) (error : FileError) (content : Option (List ℕ)) → IsUnread what file error o → Refuses (greatest what) content error → IsInput (Refused o) (input_of what file content)
refused_as what file o Missing content is none = on_all o.status (input_of what file content ≡ Err o) (ap (λ c. input_of what file c) none ∙ ap Err (sym is))
refused_as what file o TooLong (Some bytes) is long = on_all o.status (input_of what file (Some bytes) ≡ Err o) (too_long what file bytes long ∙ ap Err (sym is))
refused_as what file o TooLong None is long = absurd long
refused_as what file o Failed content is any = subst (λ (x : Outcome). UnlessFault x.status (input_of what file content ≡ Err x)) (sym is) tt
refused_as what file o NoMemory content is any = absurd is

-- ---- what files may hold

pub input_whole : (told : Option Contents) (what : Quantity) (file : List ℕ) (bytes : Vec ℕ Global) → length bytes.items ≤ greatest what → IfSome told (λ held. held file ≡ Some bytes.items)
    → OnContents told (λ held. IsInput (Value bytes) (input_of what file (held file)))
input_whole None what file bytes le is = record { files = λ name. Some bytes.items; may = tt; holds = fits what file bytes.items le }
input_whole (Some held) what file bytes le is = record { files = held; may = refl; holds = ap (λ c. input_of what file c) is ∙ fits what file bytes.items le }

some_contents : (what : Quantity) (file : List ℕ) (o : Outcome) (error : FileError) → IsUnread what file error o → OnContents None (λ held. IsInput (Refused o) (input_of what file (held file)))
some_contents what file o Missing is = record { files = λ name. None; may = tt; holds = refused_as what file o Missing None is refl }
some_contents what file o TooLong is = let long = longer (greatest what) in record { files = λ name. Some long.0; may = tt; holds = refused_as what file o TooLong (Some long.0) is long.1 }
some_contents what file o Failed is = record { files = λ name. None; may = tt; holds = refused_as what file o Failed None is tt }
some_contents what file o NoMemory is = absurd is

pub input_refused : (told : Option Contents) (what : Quantity) (file : List ℕ) (o : Outcome) (error : FileError) → IsUnread what file error o → IfSome told (λ held. Refuses (greatest what) (held file) error)
    → OnContents told (λ held. IsInput (Refused o) (input_of what file (held file)))
input_refused None what file o error is refuses = some_contents what file o error is
input_refused (Some held) what file o error is refuses = record { files = held; may = refl; holds = refused_as what file o error (held file) is refuses }

pub map_contents : (told : Option Contents) (P Q : Contents → Type 0) → ((held : Contents) → P held → Q held) → OnContents told P → OnContents told Q
map_contents told P Q to x = record { files = x.files; may = x.may; holds = to x.files x.holds }

-- ---- what comes behind an input

pub then_ok : {A : Type 0} (r : Result A Outcome) (x : A) (Answers : A → Outcome → Type 0) (o : Outcome) → r ≡ Ok x → Answers x o → Then r Answers o
then_ok r x Answers o is a = subst (λ s. Then s Answers o) (sym is) a

pub then_err : {A : Type 0} (r : Result A Outcome) (Answers : A → Outcome → Type 0) (o : Outcome) → r ≡ Err o → Then r Answers o
then_err r Answers o is = subst (λ s. Then s Answers o) (sym is) refl

-- an input that was read whole, of which this is answered
pub whole_then : {E : Type 0} (told : Option Contents) (what : Quantity) (file : List ℕ) (input : Given (Vec ℕ Global)) (bytes : Vec ℕ Global) (spelled : List ℕ) (Answers : List ℕ → Outcome → Type 0) (r : Result Outcome E)
    → input ≡ Value bytes → spelled ≡ bytes.items → OnContents told (λ held. IsInput input (input_of what file (held file))) → OnAnswer (Answers spelled) r
    → OnAnswer (λ o. OnContents told (λ held. Then (input_of what file (held file)) Answers o)) r
whole_then told what file input bytes spelled Answers r is spells x = map_answer (Answers spelled) (λ o. OnContents told (λ held. Then (input_of what file (held file)) Answers o)) r
    (λ o a. map_contents told (λ held. IsInput (Value bytes) (input_of what file (held file))) (λ held. Then (input_of what file (held file)) Answers o)
    (λ held e. then_ok (input_of what file (held file)) spelled Answers o (e ∙ ap Ok (sym spells)) a)
    (subst (λ i. OnContents told (λ held. IsInput i (input_of what file (held file)))) is x))

-- one that was refused
pub refused_then : (told : Option Contents) (what : Quantity) (file : List ℕ) (input : Given (Vec ℕ Global)) (o : Outcome) (Answers : List ℕ → Outcome → Type 0)
    → input ≡ Refused o → OnContents told (λ held. IsInput input (input_of what file (held file)))
    → UnlessFault o.status (OnContents told (λ held. Then (input_of what file (held file)) Answers o))
refused_then told what file input o Answers is x =
    let k : OnContents told (λ held. IsInput (Refused o) (input_of what file (held file))) = subst (λ i. OnContents told (λ held. IsInput i (input_of what file (held file)))) is x in
    unless o.status (input_of what file (k.files file) ≡ Err o) (OnContents told (λ held. Then (input_of what file (held file)) Answers o))
    (λ e. record { files = k.files; may = k.may; holds = then_err (input_of what file (k.files file)) Answers o e }) k.holds

-- a count that rose later rose
pub rose_since : (a b c : ℕ) → a ≤ b → Rose b c → Rose a c
rose_since a b c le rose = omega (arith, le, rose)
