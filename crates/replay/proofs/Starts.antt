-- How a run starts.
use Rattle.std.proofs.Common.{◌≡◌, ℕ, List, refl, sym, ap, subst, ◌∙◌}
use Rattle.std.specs.Prelude.{Bool, true, false, Option, Some, None, Ok, Err, IfSome, option_map}
use Rattle.wasm_syntax.specs.declared.value.Value.{Value}
use Rattle.wasm_syntax.specs.declared.module.ModuleParts.{ModuleParts as Module}
use Rattle.wasm_syntax.specs.Numbers.{types}
use Rattle.wasm_syntax.specs.Module.{function_export, same_types, type_at}
use Rattle.wasm_syntax.specs.Run.{Cause, no_export, bad_arguments, element_out, data_out, if_fits, cause_of_entry, cause_of_segments}
use Rattle.wasm_machine.specs.calls.Entries.{unserved, fault_or}
use Rattle.wasm_machine.specs.declared.started.StartFault.{StartFault}
use Rattle.wasm_machine.specs.declared.started.StartFault.TheVariants as starts
use Rattle.wasm_machine.specs.calls.Instances.{State, Begins}
use Rattle.replay.specs.Replays.{Recording, cause_in}
use Rattle.replay.specs.Moves.{IsFault}
use Rattle.replay.specs.inner.Starting.{early, of_segments, Started}
use Rattle.std.specs.Option.{option_or}

-- of an entry there are two causes
pub data OfEntry : Option Cause → Type 0 where
  none : OfEntry None
  not_exported : OfEntry (Some no_export)
  not_taken : OfEntry (Some bad_arguments)

by_fit : (o : Option Bool) → OfEntry (if_fits o)
by_fit None = not_taken
by_fit (Some true) = none
by_fit (Some false) = not_taken

pub of_entry : (m : Module) (o : Option ℕ) (args : List Value) → OfEntry (cause_of_entry m o args)
of_entry m None args = not_exported
of_entry m (Some f) args = by_fit (option_map (λ type. same_types type.params (types args)) (type_at m f))

pub none_early : (c : Option Cause) (i : Option ℕ) → OfEntry c → early (fault_or c (unserved i)) ≡ None → c ≡ None
none_early c i none e = refl
none_early c i not_exported e = absurd (cc)
none_early c i not_taken e = absurd (cc)

pub some_early : (x : Recording) (c : Option Cause) (i : Option ℕ) → OfEntry c → cause_in x ≡ option_or c (cause_of_segments x.module_) → IfSome (early (fault_or c (unserved i))) (λ fault. IsFault fault x)
some_early x c None none e = tt
some_early x c (Some i) none e = tt
some_early x c i not_exported e = e
some_early x c i not_taken e = e

-- ---- segments

-- where the entry has no cause, that of the segments is the run's
module _ (x : Recording) (none : cause_of_entry x.module_ (function_export x.module_ x.entry) x.args ≡ None) where
  by_segments : (o : Option Cause) → cause_of_segments x.module_ ≡ o → cause_in x ≡ o
  by_segments o is = ap (λ (c : Option Cause). option_or c (cause_of_segments x.module_)) none ∙ is

  pub started_well : (m : Module) (s : State) → m ≡ x.module_ → Begins (Ok s) m → Started (Ok s) x
  started_well m s same b =
      let c : Begins (Ok s) x.module_ = subst (λ (k : Module). Begins (Ok s) k) same b in
      (by_segments None c.0, c.1)

  pub not_started : (m : Module) (fault : StartFault) → m ≡ x.module_ → Begins (Err fault) m → IsFault (of_segments fault) x
  not_started m (starts.ElementOut i) same b = by_segments (Some (element_out i)) (ap cause_of_segments (sym same) ∙ b)
  not_started m (starts.DataOut i) same b = by_segments (Some (data_out i)) (ap cause_of_segments (sym same) ∙ b)
  not_started m starts.NoMemory same b = tt
