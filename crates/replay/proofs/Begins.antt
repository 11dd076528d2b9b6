-- The first state of a run.
use Rattle.std.proofs.Common.{◌≡◌, ℕ, ◌≤◌, List, [], ◌++◌, refl, sym, ap, subst, ◌∙◌, arith}
use Rattle.std.specs.Prelude.{false, Some, None, Result, Ok, IfOk}
use Rattle.wasm_syntax.specs.declared.value.Value.{Value}
use Rattle.wasm_syntax.specs.declared.module.ModuleParts.{ModuleParts as Module}
use Rattle.wasm_syntax.specs.declared.host.Served.{Served}
use Rattle.wasm_syntax.specs.Module.{Program, IsModule, function_export}
use Rattle.machine_code.specs.declared.prepared.Prepared.{Prepared}
use Rattle.host_devices.specs.Given.{replies_of}
use Rattle.host_set.specs.calls.Scripting.{ScriptState, calls_of, is_used_up}
use Rattle.machine_hosted.specs.declared.answer.RunEnd.{RunEnd}
use Rattle.machine_hosted.specs.declared.answer.RunEnd.TheVariants.{FuelSpent}
use Rattle.wasm_machine.specs.declared.entries.EntryFault.{EntryFault}
use Rattle.wasm_machine.specs.declared.invocation.End.TheVariants as ends
use Rattle.wasm_machine.specs.calls.Instances as instances
use Rattle.wasm_machine.specs.calls.Instances.{State, IsNew, Invoked, last_of, course_from}
use Rattle.machine_hosted.specs.calls.Courses.{CameBy}
use Rattle.replay.specs.Replays.{Recording, IsOf, cause_in}
use Rattle.replay.specs.inner.Reached.{CameTo, Waits, kept}
use Rattle.replay.proofs.Advances.{Scripted, taken, count_within, nothing_before}

abbrev pub RunAnswer : Type 0
RunAnswer = Result RunEnd EntryFault

-- what is known behind the call of `invoke` that makes no step
pub record Behind (x : Recording) (count entry : ℕ) (old new : ScriptState) (s s' : State) : Type 0 where
  pub whole : IsModule x.module_
  pub fresh : IsNew x.module_ s
  pub scripted : Scripted x 0 count old new
  pub exported : function_export x.module_ x.entry ≡ Some entry
  pub came : (p : Program) → instances.IsOf s p → Invoked p false x.depth (λ i. is_used_up new) entry x.args 0 s s' FuelSpent (calls_of old) (calls_of new)
  pub last : s'.last ≡ last_of entry x.args x.depth false FuelSpent
  pub module_ : s'.module_ ≡ s.module_
  pub prepared : s'.prepared ≡ s.prepared

module _ (x : Recording) (count entry : ℕ) (old new : ScriptState) (s s' : State) (b : Behind x count entry old new s s') where
  module _ (p : Program) (is : IsOf x p) where
    of_new : instances.IsOf s p
    of_new = record { of_module = is.of_module ∙ sym b.fresh.module_is; writes_out = is.writes_out }

    abbrev i : Invoked p false x.depth (λ i. is_used_up new) entry x.args 0 s s' FuelSpent (calls_of old) (calls_of new)
    i = b.came p of_new

    given_is : i.came.asked.given ≡ (calls_of new).served
    given_is = ap (λ (ss : List Served). ss ++ i.came.asked.given) (sym (nothing_before x 0 count old new b.scripted)) ∙ sym i.came.grew.served

    came_to : CameTo x entry 0 count FuelSpent ends.FuelSpent s' p
    came_to = record {
      course = course_from s 0 i.made i.came.asked;
      start = b.fresh.due;
      before = b.fresh.world;
      fuel = refl;
      steps = let none = b.fresh.steps in let all = i.steps in omega (arith, none, all);
      given = ap (λ (ss : List Served). replies_of ss) given_is ∙ taken x 0 count old new b.scripted;
      stopped = i.stopped (kept x entry ends.FuelSpent) b.last;
      used_up = λ k. is_used_up new;
      came = subst (λ (q : Prepared). CameBy p q.codes.items false x.depth entry x.args (λ k. is_used_up new) (course_from s 0 i.made i.came.asked) FuelSpent s'.ready s'.entered s'.machine) (sym b.prepared) i.came.came;
    }

  no_steps : s'.steps ≤ 0
  no_steps =
      let p : Program = record { module_ = x.module_; trees = b.whole.trees } in
      let is : IsOf x p = record { of_module = refl; writes_out = b.whole.write } in
      let none = b.fresh.steps in
      let all = (i p is).steps in
      let most = ((i p is).came.came [] tt).within in
      omega (arith, none, all, most)

  pub first_waits : cause_in x ≡ None → Waits x 0 count s'
  first_waits starts = record {
    whole = b.whole;
    starts = starts;
    of_module = b.module_ ∙ b.fresh.module_is;
    within = let w = count_within x 0 count old new b.scripted (omega arith) in omega (arith, w);
    ended = tt;
    admits = tt;
    made = no_steps;
    entry = entry;
    exported = b.exported;
    end = ends.FuelSpent;
    end_is = refl;
    last = b.last;
    came = came_to;
  }

-- what `invoke` says of its answer
abbrev pub Came : (name : List ℕ) (args : List Value) (depth : ℕ) (old new : ScriptState) (s s' : State) → RunEnd → Type 0
Came name args depth old new s s' end =
    (f : ℕ) × (function_export s.module_ name ≡ Some f)
    × ((p : Program) → instances.IsOf s p → Invoked p false depth (λ i. is_used_up new) f args 0 s s' end (calls_of old) (calls_of new))
    × (s'.last ≡ last_of f args depth false end)

pub begun_waits : (x : Recording) (count depth : ℕ) (name : List ℕ) (args : List Value) (old new : ScriptState) (s s' : State) (result : RunAnswer) (end : RunEnd) → result ≡ Ok end → end ≡ FuelSpent
    → name ≡ x.entry → args ≡ x.args → depth ≡ x.depth → IsModule x.module_ → IsNew x.module_ s → Scripted x 0 count old new → IfOk result (Came name args depth old new s s') → s'.module_ ≡ s.module_ → s'.prepared ≡ s.prepared
    → cause_in x ≡ None → Waits x 0 count s'
begun_waits x count depth name args old new s s' result end e e' same_name same_args same_depth whole fresh scripted came module_ prepared =
    first_waits x count k.0 old new s s' (record {
      whole = whole;
      fresh = fresh;
      scripted = scripted;
      exported = ap (λ (m : Module). function_export m x.entry) (sym fresh.module_is) ∙ k.1;
      came = k.2;
      last = k.3;
      module_ = module_;
      prepared = prepared;
    })
  where
    k : Came x.entry x.args x.depth old new s s' FuelSpent
    k =
        subst (λ (d : ℕ). Came x.entry x.args d old new s s' FuelSpent) same_depth
        (subst (λ (vs : List Value). Came x.entry vs depth old new s s' FuelSpent) same_args
        (subst (λ (n : List ℕ). Came n args depth old new s s' FuelSpent) same_name
        (subst (λ (r : RunEnd). Came name args depth old new s s' r) e'
        (subst (λ (r : RunAnswer). IfOk r (Came name args depth old new s s')) e came))))
