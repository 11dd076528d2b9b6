-- The answer of each step of the command, from that of the next one.
use Rattle.std.proofs.Common.{◌≡◌, ℕ, List, [], refl, sym, subst, ap, ◌∙◌, inl, inr, Option, Result, Ok, Err}
use Rattle.std.specs.declared.vec.Vec.{Vec}
use Rattle.std.specs.Global.{Global}
use Rattle.causes.specs.declared.NoMemory.{NoMemory as WantOfMemory}
use Rattle.pm_outside.specs.Contents.{Contents}
use Rattle.wasm_syntax.specs.declared.module.ModuleParts.{ModuleParts as Module}
use Rattle.wasm_syntax.specs.declared.quantity.Quantity.TheVariants.{ModuleBytes}
use Rattle.wasm_syntax.specs.Valid.{Valid}
use Rattle.wasm_decode.specs.Decode.{module_from}
use Rattle.wasm_decode.specs.declared.fault.DecodeFault.{DecodeFault}
use Rattle.wasm_validate.specs.Heights.{AllLow}
use Rattle.pm_outside.specs.Written.{OnTold}
use Rattle.rewrite_modules.specs.Weight.{weight}
use Rattle.commands.specs.calls.Input.{IsInput}
use Rattle.commands.specs.Inputs.{input_of}
use Rattle.commands.specs.Loading.{IfLoaded, IsTurnedDown}
use Rattle.commands.specs.Told.{UnlessFault, OnContents}
use Rattle.commands.specs.declared.given.Given.{Given}
use Rattle.commands.specs.declared.given.Given.TheVariants.{Value, Refused}
use Rattle.commands.specs.declared.outcome.Outcome.{Outcome}
use Rattle.commands.proofs.ReadFiles.{then_ok, then_err}
use Rattle.commands.proofs.Unless.{OnAnswer, unless, on_all, map_answer}
use Rattle.pm_outside.specs.Held.{Writes, HoldThen}
use Rattle.instrument_command.specs.InstrumentAnswer.{Decides, ModuleAnswer, AnsweredOn}
use Rattle.instrument_command.specs.calls.Steps.{Refuses, IsAnswered}
use Rattle.pm_outside.proofs.Held.{none_held}

-- ---- a valid module

pub refused_answer : (out : List ℕ) (m : Module) (told : Option Contents) (o : Outcome) → Refuses m o → UnlessFault o.status (IsAnswered (λ writes. ModuleAnswer out writes m) told told o)
refused_answer out m told o r = on_all o.status (IsAnswered (λ writes. ModuleAnswer out writes m) told told o) record {
  writes = [];
  answer = record {
    heights = r.heights;
    heights_are = r.heights_are;
    decides = subst (λ f. Decides f out m (weight m r.heights) [] o) (sym r.first) (r.told, refl);
  };
  files = none_held told;
  unwritten = λ ne. refl;
}

-- ---- bytes

module _ (A : Writes → Module → Outcome → Type 0) where
  pub with_module : (old new : Option Contents) (result : Result Outcome WantOfMemory) (m : Module) (decoded : Result Module DecodeFault) → decoded ≡ Ok m → Valid m → AllLow m
      → OnAnswer (IsAnswered (λ writes. A writes m) old new) result → OnAnswer (IsAnswered (λ writes. IfLoaded (A writes) decoded) old new) result
  with_module old new result m decoded is valid low x = map_answer (IsAnswered (λ writes. A writes m) old new) (IsAnswered (λ writes. IfLoaded (A writes) decoded) old new) result
      (λ o a. record {
        writes = a.writes;
        answer = subst (λ d. IfLoaded (A a.writes) d o) (sym is) (inr (valid, low, a.answer));
        files = a.files;
        unwritten = a.unwritten;
      }) x

  turned_down : (decoded : Result Module DecodeFault) (o : Outcome) → IsTurnedDown decoded o → IfLoaded (A []) decoded o
  turned_down (Err fault) o x = x
  turned_down (Ok m) o x = inl x

  pub without_module : (told : Option Contents) (decoded : Result Module DecodeFault) (o : Outcome) → IsTurnedDown decoded o → UnlessFault o.status (IsAnswered (λ writes. IfLoaded (A writes) decoded) told told o)
  without_module told decoded o x = on_all o.status (IsAnswered (λ writes. IfLoaded (A writes) decoded) told told o) record {
    writes = [];
    answer = turned_down decoded o x;
    files = none_held told;
    unwritten = λ ne. refl;
  }

-- ---- the file

module _ (source out : List ℕ) (old mid new : Option Contents) (same : mid ≡ old) (input : Given (Vec ℕ Global)) (told : OnContents old (λ held. IsInput input (input_of ModuleBytes source (held source)))) where
  pub with_bytes : (bytes : Vec ℕ Global) (spelled : List ℕ) (result : Result Outcome WantOfMemory) → input ≡ Value bytes → spelled ≡ bytes.items
      → OnAnswer (IsAnswered (λ writes. IfLoaded (ModuleAnswer out writes) (module_from spelled)) mid new) result → OnAnswer (AnsweredOn source out old new) result
  with_bytes bytes spelled result is spells x =
      let k : OnContents old (λ held. IsInput (Value bytes) (input_of ModuleBytes source (held source))) = subst (λ i. OnContents old (λ held. IsInput i (input_of ModuleBytes source (held source)))) is told in
      map_answer (IsAnswered (λ writes. IfLoaded (ModuleAnswer out writes) (module_from spelled)) mid new) (AnsweredOn source out old new) result
      (λ o a. record {
        held = k.files;
        may = k.may;
        writes = a.writes;
        answer = record {
          answer = then_ok (input_of ModuleBytes source (k.files source)) spelled (λ bytes. IfLoaded (ModuleAnswer out a.writes) (module_from bytes)) o (k.holds ∙ ap Ok (sym spells)) a.answer;
          unwritten = a.unwritten;
        };
        files = subst (λ t. OnTold (HoldThen a.writes) t new) same a.files;
      }) x

  pub unread : (o : Outcome) → input ≡ Refused o → UnlessFault o.status (AnsweredOn source out old mid o)
  unread o is =
      let k : OnContents old (λ held. IsInput (Refused o) (input_of ModuleBytes source (held source))) = subst (λ i. OnContents old (λ held. IsInput i (input_of ModuleBytes source (held source)))) is told in
      unless o.status (input_of ModuleBytes source (k.files source) ≡ Err o) (AnsweredOn source out old mid o)
      (λ e. record {
        held = k.files;
        may = k.may;
        writes = [];
        answer = record {
          answer = then_err (input_of ModuleBytes source (k.files source)) (λ bytes. IfLoaded (ModuleAnswer out []) (module_from bytes)) o e;
          unwritten = λ ne. refl;
        };
        files = subst (λ t. OnTold (HoldThen []) old t) (sym same) (none_held old);
      }) k.holds
