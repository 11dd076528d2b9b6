-- What a host side of devices and a script has given in a run.
use Rattle.std.proofs.Common.{◌≡◌, ℕ, ◌<◌, Bool, true, false, List, [], ◌∷◌, ◌++◌, map, take, drop, refl, sym, ap, ap₂, ◌∙◌, subst, inl, inr, arith, Option, Some, None}
use Rattle.std.specs.Prelude.{◌≤◌, ◌⊎◌, length, get_or, not, cond, if◌then◌else◌, slice_get, is_none, bytes_eq, unwrap_or}
use Rattle.std.proofs.lemmas.List.{take-append-drop, drop_all}
use Rattle.std.proofs.lemmas.Option.{slice_get_cases}
use Rattle.causes.specs.Counts.{Rose}
use Rattle.wasm_syntax.specs.declared.parts.Import.{Import}
use Rattle.wasm_syntax.specs.declared.host.Reply.{Reply}
use Rattle.wasm_syntax.specs.declared.host.Served.{Served}
use Rattle.wasm_syntax.specs.declared.module.ModuleParts.{ModuleParts as Module}
use Rattle.host_devices.specs.calls.HostSides.{Origin}
use Rattle.host_devices.specs.Given.{replies_of}
use Rattle.host_set.specs.Sets.{DeviceState, names, is_named, count_of, log_of}
use Rattle.host_set.specs.calls.Hosting.{HostsState, with_module, of_module, of_script, logs_before, log_named, origin_of, calls_of, is_used_up, replies_of as replies_in}
use Rattle.host_set.proofs.Names.{swapped, neither}
use Rattle.run_session.specs.Given.{module_of, from_module}
use Rattle.host_collector.specs.Collecting.{is_told}
use Rattle.run_session.specs.calls.Collecting.{used_up_of}
use Rattle.run_command.specs.Hosting.{scripted}
use Rattle.run_command.specs.RunAnswer.{Logs}
use Rattle.run_command.proofs.Answering.{HostFacts}

-- ---- the modules of what was served

of_module_is : (imports : List Import) (name : List ℕ) (given : List Served) → of_module name (map (with_module imports) given) ≡ from_module imports name given
of_module_is imports name [] = refl
of_module_is imports name (s ∷ ss) =
    ap₂ (λ b l. cond b (s ∷ l) l) (swapped name (module_of imports s.call.import)) (of_module_is imports name ss)

by_choice : (b : Bool) (s : Served) (xs : List Reply) (ss : List Served) → xs ≡ replies_of ss → cond b xs (s.reply ∷ xs) ≡ replies_of (cond (not b) (s ∷ ss) ss)
by_choice true s xs ss e = e
by_choice false s xs ss e = ap (λ l. s.reply ∷ l) e

of_script_is : (names : List (List ℕ)) (imports : List Import) (given : List Served) → of_script names (map (with_module imports) given) ≡ replies_of (scripted names imports given)
of_script_is names imports [] = refl
of_script_is names imports (s ∷ ss) =
    by_choice (is_named names (module_of imports s.call.import)) s (of_script names (map (with_module imports) ss)) (scripted names imports ss) (of_script_is names imports ss)

same_replies : (o : Option (List Reply)) → replies_in o ≡ unwrap_or o []
same_replies None = refl
same_replies (Some rs) = refl

-- ---- what is used up, and who failed

used_of : (b : Bool) (o : Option Reply) → cond b false (is_none o) ≡ true → (b ≡ false) × (o ≡ None)
used_of true o e = absurd cc
used_of false None e = (refl, refl)
used_of false (Some r) e = absurd cc

-- what is used up with a collector is so without it
used_behind : (collect told up : Bool) → (if collect then (if told then false else up) else up) ≡ true → up ≡ true
used_behind true true up e = absurd cc
used_behind true false up e = e
used_behind false told up e = e

none_left : (xs : List Reply) (n : ℕ) → slice_get xs n ≡ None → drop n xs ≡ []
none_left xs n e = by_case (slice_get_cases xs n).1
  where
    by_case : ((x : Reply) × (n < length xs) × (slice_get xs n ≡ Some x) × (get_or xs n x ≡ x)) ⊎ ((length xs ≤ n) × (slice_get xs n ≡ None)) → drop n xs ≡ []
    by_case (inl (x, lt, at, get)) = let clash : None ≡ Some x = sym e ∙ at in absurd cc
    by_case (inr (le, at)) = drop_all n xs le

count_none : (ds : List DeviceState) (name : List ℕ) → is_named (names ds) name ≡ false → count_of ds name ≡ 0
count_none [] name e = refl
count_none (d ∷ ds) name e = let k = neither (bytes_eq d.name name) (is_named (names ds) name) e in rw k.0 (count_none ds name k.1)

no_rise : (x y : ℕ) → x ≡ 0 → y ≡ 0 → Rose x y → ⊥
no_rise x y none still rose = omega (arith, none, still, rose)

rose_named : (a b : List DeviceState) (ns : List (List ℕ)) (device : List ℕ) → names a ≡ ns → names b ≡ ns → Rose (count_of a device) (count_of b device) → is_named ns device ≡ true
rose_named a b ns device first later rose = by_test (is_named ns device) refl
  where
    by_test : (t : Bool) → is_named ns device ≡ t → is_named ns device ≡ true
    by_test true e = e
    by_test false e = absurd (no_rise (count_of a device) (count_of b device) (count_none a device (ap (λ l. is_named l device) first ∙ e)) (count_none b device (ap (λ l. is_named l device) later ∙ e)) rose)

-- a count that rose on the host side rose on the devices
pub rose_on : (before after first last : List DeviceState) (device : List ℕ) → first ≡ before → after ≡ last → Rose (count_of first device) (count_of last device) → Rose (count_of before device) (count_of after device)
rose_on before after first last device began back rose =
    subst (λ ds. Rose (count_of ds device) (count_of after device)) began (subst (λ ds. Rose (count_of first device) (count_of ds device)) (sym back) rose)

-- ---- a host side at its begin and its end

-- nothing was served, and the devices have these logs
pub record Began (imports : List Import) (before : List DeviceState) (script : Option (List Reply)) (h : HostsState) : Type 0 where
  pub imports_are : h.imports ≡ imports
  pub devices_are : h.devices ≡ before
  pub script_is : h.script ≡ script
  pub none_served : h.served ≡ []
  pub logs_are : (name : List ℕ) → log_named (logs_before h) name ≡ log_of before name

-- it was made so
began_so : (imports lent : List Import) (before set : List DeviceState) (script : Option (List Reply)) (h : HostsState) → h ≡ record { imports = lent; devices = set; script = script; given = 0; served = [] }
    → ((name : List ℕ) → log_named (logs_before h) name ≡ log_of set name) → lent ≡ imports → set ≡ before → Began imports before script h
began_so imports lent before set script h is logs same_imports same_set = record {
  imports_are = ap (λ (x : HostsState). x.imports) is ∙ same_imports;
  devices_are = ap (λ (x : HostsState). x.devices) is ∙ same_set;
  script_is = ap (λ (x : HostsState). x.script) is;
  none_served = ap (λ (x : HostsState). x.served) is;
  logs_are = λ name. logs name ∙ ap (λ ds. log_of ds name) same_set;
}

-- and is still so
pub began_behind : (imports lent : List Import) (before set : List DeviceState) (script : Option (List Reply)) (h later : HostsState) → later ≡ h → h ≡ record { imports = lent; devices = set; script = script; given = 0; served = [] }
    → ((name : List ℕ) → log_named (logs_before h) name ≡ log_of set name) → lent ≡ imports → set ≡ before → Began imports before script later
began_behind imports lent before set script h later same is logs same_imports same_set =
    began_so imports lent before set script later (same ∙ is) (λ name. ap (λ x. log_named (logs_before x) name) same ∙ logs name) same_imports same_set

-- the devices were given back
pub record GaveBack (h : HostsState) (after : List DeviceState) : Type 0 where
  pub devices : after ≡ h.devices
  pub logged : (name : List ℕ) → is_named (names h.devices) name ≡ true → log_of h.devices name ≡ log_named (logs_before h) name ++ of_module name h.served
  pub modules : h.served ≡ map (with_module h.imports) (calls_of h).served
  pub scripted : of_script (names h.devices) h.served ≡ take h.given (replies_in h.script)

module _ (imports : List Import) (before : List DeviceState) (script : Option (List Reply)) (h0 h1 : HostsState) (began : Began imports before script h0) (same : origin_of h1 ≡ origin_of h0) where
  names_are : names h1.devices ≡ names before
  names_are = ap (λ (o : Origin). o.names) same ∙ ap names began.devices_are

  imports_are : h1.imports ≡ imports
  imports_are = ap (λ (o : Origin). o.imports) same ∙ began.imports_are

  script_is : h1.script ≡ script
  script_is = ap (λ (o : Origin). o.script) same ∙ began.script_is

  logs_are : (name : List ℕ) → log_named (logs_before h1) name ≡ log_of before name
  logs_are name = ap (λ (o : Origin). o.logs name) same ∙ began.logs_are name

  replies_are : replies_in h1.script ≡ unwrap_or script []
  replies_are = ap replies_in script_is ∙ same_replies script

  pub host_facts : (collect : Bool) → HostFacts (names before) (used_up_of collect (is_used_up h1)) (drop h1.given (unwrap_or script [])) (count_of h0.devices) (count_of h1.devices)
  host_facts collect = record {
    used = λ i up.
        let k = used_of (is_named (names h1.devices) i.«module») (slice_get (replies_in h1.script) h1.given) (used_behind collect (is_told i) (is_used_up h1 i) up) in
        (ap (λ n. is_named n i.«module») (sym names_are) ∙ k.0, ap (λ l. drop h1.given l) (sym replies_are) ∙ none_left (replies_in h1.script) h1.given k.1);
    failed = λ device rose. rose_named h0.devices h1.devices (names before) device (ap names began.devices_are) names_are rose;
  }

  module _ (after : List DeviceState) (back : GaveBack h1 after) (given : List Served) (grew : (calls_of h1).served ≡ (calls_of h0).served ++ given) where
    pub given_is : (calls_of h1).served ≡ given
    given_is = grew ∙ ap (λ l. map (λ (s : List ℕ × Served). s.1) l ++ given) began.none_served

    served_is : h1.served ≡ map (with_module imports) given
    served_is = back.modules ∙ ap₂ (λ is l. map (with_module is) l) imports_are given_is

    pub by_script : unwrap_or script [] ≡ replies_of (scripted (names before) imports given) ++ drop h1.given (unwrap_or script [])
    by_script =
        sym (take-append-drop h1.given (unwrap_or script []))
        ∙ ap (λ l. l ++ drop h1.given (unwrap_or script []))
        (ap (λ l. take h1.given l) (sym replies_are) ∙ sym back.scripted ∙ ap₂ (λ ns l. of_script ns l) names_are served_is ∙ of_script_is (names before) imports given)

    log_is : (name : List ℕ) → is_named (names before) name ≡ true → log_of after name ≡ log_of before name ++ from_module imports name given
    log_is name named =
        ap (λ ds. log_of ds name) back.devices
        ∙ back.logged name (ap (λ ns. is_named ns name) names_are ∙ named)
        ∙ ap₂ (λ a b. a ++ b) (logs_are name) (ap (λ l. of_module name l) served_is ∙ of_module_is imports name given)

    names_stay : names after ≡ names before
    names_stay = ap names back.devices ∙ names_are

pub logs : (m : Module) (before after : List DeviceState) (script : Option (List Reply)) (h0 h1 : HostsState) → Began m.imports before script h0 → origin_of h1 ≡ origin_of h0 → GaveBack h1 after → (given : List Served) → (calls_of h1).served ≡ (calls_of h0).served ++ given → Logs m given before after
logs m before after script h0 h1 began same back given grew = record {
  devices = names_stay m.imports before script h0 h1 began same after back given grew;
  logs = log_is m.imports before script h0 h1 began same after back given grew;
}
