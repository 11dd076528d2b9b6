-- Whether the invocations may begin.
use Rattle.std.proofs.Common.{◌≡◌, ℕ, zero, suc, ◌<◌, Bool, true, false, List, [], ◌∷◌, map, length, get_or, refl, sym, ap, ap₂, ◌∙◌, subst, arith, Option, Some, None, Result, Ok, Err, inl, inr}
use Rattle.std.specs.Prelude.{◌≤◌, ◌⊎◌, All, IfOk, IfSome, slice_get, if◌then◌else◌, option_map}
use Rattle.std.proofs.lemmas.Option.{slice_get_cases}
use Rattle.causes.specs.declared.NoMemory.{NoMemory as WantOfMemory}
use Rattle.wasm_syntax.specs.declared.value.Value.{Value}
use Rattle.wasm_syntax.specs.declared.parts.Import.{Import}
use Rattle.wasm_syntax.specs.declared.parts.FuncType.{FuncType}
use Rattle.wasm_syntax.specs.declared.host.Reply.{Reply}
use Rattle.wasm_syntax.specs.declared.module.ModuleParts.{ModuleParts as Module}
use Rattle.wasm_syntax.specs.declared.place.Place.TheVariants as places
use Rattle.wasm_syntax.specs.Numbers.{types}
use Rattle.wasm_syntax.specs.Module.{function_export, same_types, type_at}
use Rattle.wasm_syntax.specs.Valid.{Valid, ImportFine}
use Rattle.wasm_syntax.specs.Run.{cause_of_entry, cause_of_segments, if_fits, first_false, Invocation}
use Rattle.wasm_machine.specs.declared.started.StartFault.{StartFault}
use Rattle.wasm_machine.specs.declared.started.StartFault.TheVariants.{ElementOut, DataOut, NoMemory}
use Rattle.wasm_machine.specs.calls.Entries as machine
use Rattle.wasm_machine.specs.calls.Entries.{serves_type, unserved, fault_or, entry_fault}
use Rattle.wasm_machine.specs.calls.Instances.{State, Begins}
use Rattle.host_set.specs.Sets.{DeviceState}
use Rattle.host_set.specs.calls.Hosting.{HostsState, serves}
use Rattle.run_words.specs.declared.invocation.Invocation.{Invocation as InvocationWords}
use Rattle.host_collector.specs.Collecting.{CollectingState, is_told, is_collected, serves as collected}
use Rattle.run_session.specs.calls.Collecting.{serving_of}
use Rattle.run_session.specs.Invocations.{invocation_of}
use Rattle.run_command.specs.Starting.{cause_text, segment_of, entries_text}
use Rattle.run_command.specs.Hosting.{is_replied, is_served, import_text, first_unserved, start_text}
use Rattle.run_command.specs.RunAnswer.{hosting}
use Rattle.run_command.specs.calls.Begun.{fault_text, import_in, start_cause, HasBegun}
use Rattle.commands.specs.declared.given.Given.{Given}
use Rattle.commands.specs.declared.given.Given.TheVariants as givens
use Rattle.run_command.proofs.Answering.{none_then}
use Rattle.run_command.proofs.Entries.{own_text}
use Rattle.std.specs.Option.{option_or, option_map_or}

-- ---- one entry

no_text : (name : List ℕ) (u : Option ℕ) → fault_text name (unserved u) ≡ None
no_text name None = refl
no_text name (Some i) = refl

same_import : (u : Option ℕ) → import_in (unserved u) ≡ u
same_import None = refl
same_import (Some i) = refl

-- its text is that of its cause, whichever import is not served
text_is : (m : Module) (name : List ℕ) (o : Option ℕ) (args : List Value) (u : Option ℕ) → fault_text name (fault_or (cause_of_entry m o args) (unserved u)) ≡ cause_text name (cause_of_entry m o args)
text_is m name None args u = refl
text_is m name (Some f) args u = by_test (option_map (λ type. same_types type.params (types args)) (type_at m f))
  where
    by_test : (t : Option Bool) → fault_text name (fault_or (if_fits t) (unserved u)) ≡ cause_text name (if_fits t)
    by_test None = refl
    by_test (Some true) = no_text name u
    by_test (Some false) = refl

-- and without a cause the import is told
import_is : (m : Module) (name : List ℕ) (o : Option ℕ) (args : List Value) (u : Option ℕ) → cause_text name (cause_of_entry m o args) ≡ None → import_in (fault_or (cause_of_entry m o args) (unserved u)) ≡ u
import_is m name None args u e = absurd cc
import_is m name (Some f) args u e = by_test (option_map (λ type. same_types type.params (types args)) (type_at m f)) e
  where
    by_test : (t : Option Bool) → cause_text name (if_fits t) ≡ None → import_in (fault_or (if_fits t) (unserved u)) ≡ u
    by_test None e = absurd cc
    by_test (Some true) e = same_import u
    by_test (Some false) e = absurd cc

module _ (serving : Import → FuncType → Bool) (m : Module) (i : InvocationWords) where
  pub own_fault : fault_text i.entry (entry_fault serving m i.entry i.args) ≡ own_text m i
  own_fault = text_is m i.entry (function_export m i.entry) i.args (machine.first_unserved serving m)

  pub import_left : own_text m i ≡ None → import_in (entry_fault serving m i.entry i.args) ≡ machine.first_unserved serving m
  import_left e = import_is m i.entry (function_export m i.entry) i.args (machine.first_unserved serving m) e

-- ---- the causes in order

-- what is looked at before the segments
abbrev pub early : (Import → FuncType → Bool) → Module → List Invocation → Option (List ℕ)
early serving m is = option_or (entries_text m is) (import_text (machine.first_unserved serving m))

some_first : (a b c : Option (List ℕ)) (t : List ℕ) → option_or a b ≡ Some t → option_or a (option_or b c) ≡ Some t
some_first None None c t e = absurd cc
some_first None (Some x) c t e = e
some_first (Some x) b c t e = e

no_import : (o : Option ℕ) → import_text o ≡ None → o ≡ None
no_import None e = refl
no_import (Some i) e = absurd cc

segment_text : (fault : StartFault) (m : Module) (t : List ℕ) → Begins (Err fault) m → cause_text [] (segment_of fault) ≡ Some t → cause_text [] (cause_of_segments m) ≡ Some t
segment_text (ElementOut i) m t begins is = ap (λ c. cause_text [] c) begins ∙ is
segment_text (DataOut i) m t begins is = ap (λ c. cause_text [] c) begins ∙ is
segment_text NoMemory m t begins is = absurd cc

module _ (serving : Import → FuncType → Bool) (m : Module) (is : List Invocation) where
  pub early_starts : (t : List ℕ) → early serving m is ≡ Some t → start_cause serving m is ≡ Some t
  early_starts t e = some_first (entries_text m is) (import_text (machine.first_unserved serving m)) (cause_text [] (cause_of_segments m)) t e

  none_early : early serving m is ≡ None → (entries_text m is ≡ None) × (machine.first_unserved serving m ≡ None)
  none_early e = by_case (entries_text m is) e
    where
      by_case : (t : Option (List ℕ)) → option_or t (import_text (machine.first_unserved serving m)) ≡ None → (t ≡ None) × (machine.first_unserved serving m ≡ None)
      by_case None e = (refl, no_import (machine.first_unserved serving m) e)
      by_case (Some t) e = absurd cc

  by_segments : early serving m is ≡ None → start_cause serving m is ≡ cause_text [] (cause_of_segments m)
  by_segments e =
      let k = none_early e in
      ap (λ t. option_or t (option_or (import_text (machine.first_unserved serving m)) (cause_text [] (cause_of_segments m)))) k.0
      ∙ ap (λ i. option_or (import_text i) (cause_text [] (cause_of_segments m))) k.1

  pub segments_start : early serving m is ≡ None → cause_of_segments m ≡ None → start_cause serving m is ≡ None
  segments_start e segments = by_segments e ∙ ap (λ c. cause_text [] c) segments

  pub segment_starts : (fault : StartFault) (t : List ℕ) → early serving m is ≡ None → Begins (Err fault) m → cause_text [] (segment_of fault) ≡ Some t → start_cause serving m is ≡ Some t
  segment_starts fault t e begins is_text = by_segments e ∙ segment_text fault m t begins is_text

  -- nothing hinders the start
  pub none_starts : start_cause serving m is ≡ None → (entries_text m is ≡ None) × (machine.first_unserved serving m ≡ None)
  none_starts e = by_case (entries_text m is) (import_text (machine.first_unserved serving m)) refl e
    where
      by_case : (t u : Option (List ℕ)) → import_text (machine.first_unserved serving m) ≡ u → option_or t (option_or u (cause_text [] (cause_of_segments m))) ≡ None → (t ≡ None) × (machine.first_unserved serving m ≡ None)
      by_case None None is e = (refl, no_import (machine.first_unserved serving m) is)
      by_case None (Some u) is e = absurd cc
      by_case (Some t) u is e = absurd cc

-- each of them may begin
pub all_begin : (serving : Import → FuncType → Bool) (m : Module) (is : List InvocationWords) → entries_text m (map invocation_of is) ≡ None → machine.first_unserved serving m ≡ None → All (λ i. entry_fault serving m i.entry i.args ≡ None) is
all_begin serving m [] e u k d lt = absurd (omega (arith, lt))
all_begin serving m (i ∷ is) e u zero d lt =
    ap (λ c. fault_or c (unserved (machine.first_unserved serving m))) (none_then i.entry (cause_of_entry m (function_export m i.entry) i.args) (entries_text m (map invocation_of is)) e).0
    ∙ ap (λ o. unserved o) u
all_begin serving m (i ∷ is) e u (suc k) d lt = all_begin serving m is (none_then i.entry (cause_of_entry m (function_export m i.entry) i.args) (entries_text m (map invocation_of is)) e).1 u k d (omega (arith, lt))

-- with an instance that was made
pub begun_begin : (serving : Import → FuncType → Bool) (m : Module) (is : List InvocationWords) (s : State) → HasBegun serving m (map invocation_of is) (givens.Value s) → All (λ i. entry_fault serving s.module_ i.entry i.args ≡ None) is
begun_begin serving m is s (starts, segments, new) =
    let k = none_starts serving m (map invocation_of is) starts in
    subst (λ (x : Module). All (λ i. entry_fault serving x i.entry i.args ≡ None) is) (sym new.module_is) (all_begin serving m is k.0 k.1)

pub of_begun : (result : Result (Given State) WantOfMemory) (begun is_it : Given State) (P : Given State → Type 0) → result ≡ Ok begun → begun ≡ is_it → IfOk result P → P is_it
of_begun result begun is_it P is same x = subst P same (subst (λ r. IfOk r P) is x)

pub same_list : (serving : Import → FuncType → Bool) (m : Module) (xs is : List InvocationWords) (result : Result (Given State) WantOfMemory) → xs ≡ is → IfOk result (HasBegun serving m (map invocation_of xs)) → IfOk result (HasBegun serving m (map invocation_of is))
same_list serving m xs is result same begun = subst (λ l. IfOk result (HasBegun serving m (map invocation_of l))) same begun

-- with a collector in front of the host side, and without one
pub behind_collector : {H : Type 0} (serving : H → Import → FuncType → Bool) (collect : Bool) (c : CollectingState H) (h : H) (m : Module) (is : List Invocation) (result : Result (Given State) WantOfMemory) → collect ≡ true → h ≡ c.inner
    → IfOk result (HasBegun (λ i type. collected serving c i type) m is) → IfOk result (HasBegun (serving_of collect (serving h)) m is)
behind_collector serving collect c h m is result asked back begun =
    subst (λ b. IfOk result (HasBegun (serving_of b (serving h)) m is)) (sym asked) (subst (λ k. IfOk result (HasBegun (serving_of true (serving k)) m is)) (sym back) begun)

pub without_collector : {H : Type 0} (serving : H → Import → FuncType → Bool) (collect : Bool) (h : H) (m : Module) (is : List Invocation) (result : Result (Given State) WantOfMemory) → collect ≡ false
    → IfOk result (HasBegun (serving h) m is) → IfOk result (HasBegun (serving_of collect (serving h)) m is)
without_collector serving collect h m is result none begun = subst (λ b. IfOk result (HasBegun (serving_of b (serving h)) m is)) (sym none) begun

-- ---- devices and a script

map_alike : {A B : Type 0} (f g : A → B) (xs : List A) → ((k : ℕ) (x : A) → slice_get xs k ≡ Some x → f x ≡ g x) → map f xs ≡ map g xs
map_alike f g [] h = refl
map_alike f g (x ∷ xs) h = ap₂ (λ y ys. y ∷ ys) (h 0 x refl) (map_alike f g xs (λ k y at. h (suc k) y at))

-- an import of a valid module has a type
typed : (m : Module) (k : ℕ) (i : Import) → Valid m → slice_get m.imports k ≡ Some i → (type : FuncType) × (slice_get m.types i.ftype ≡ Some type)
typed m k i v at = by_case (slice_get_cases m.types i.ftype).1
  where
    fine : i.ftype < length m.types
    fine = subst (λ o. IfSome o (ImportFine m)) at (v (places.ImportAt k))

    by_case : ((x : FuncType) × (i.ftype < length m.types) × (slice_get m.types i.ftype ≡ Some x) × (get_or m.types i.ftype x ≡ x)) ⊎ ((length m.types ≤ i.ftype) × (slice_get m.types i.ftype ≡ None)) → (type : FuncType) × (slice_get m.types i.ftype ≡ Some type)
    by_case (inl (x, lt, there, get)) = (x, there)
    by_case (inr (le, none)) = absurd (omega (arith, fine, le))

module _ (m : Module) (h : HostsState) (before : List DeviceState) (script : Option (List Reply)) (collect : Bool) (valid : Valid m) (devices : h.devices ≡ before) (script_is : h.script ≡ script) where
  abbrev pub served_by : Import → FuncType → Bool
  served_by i type = serving_of collect (λ i type. serves h i) i type

  replied_alike : (i : Import) → serves h i ≡ is_replied (hosting before script collect) i
  replied_alike i = ap (λ ds. is_replied (hosting ds h.script collect) i) devices ∙ ap (λ s. is_replied (hosting before s collect) i) script_is

  -- of this type
  served_alike : (i : Import) (type : FuncType) → slice_get m.types i.ftype ≡ Some type → served_by i type ≡ is_served (hosting before script collect) m i
  served_alike i type there =
      ap (λ r. if collect then (if is_told i then is_collected i type else r) else r) (replied_alike i)
      ∙ ap (λ o. if collect then (if is_told i then option_map_or (is_collected i) o false else is_replied (hosting before script collect) i) else is_replied (hosting before script collect) i) (sym there)

  alike : machine.first_unserved served_by m ≡ first_unserved (hosting before script collect) m
  alike = ap (λ bs. first_false 0 bs) (map_alike (machine.is_served served_by m) (is_served (hosting before script collect) m) m.imports
      (λ k i at. let t = typed m k i valid at in ap (λ o. serves_type served_by i o) t.1 ∙ served_alike i t.0 t.1))

  pub starts_alike : (is : List Invocation) → start_cause served_by m is ≡ start_text (hosting before script collect) m is
  starts_alike is = ap (λ o. option_or (entries_text m is) (option_or (import_text o) (cause_text [] (cause_of_segments m)))) alike
