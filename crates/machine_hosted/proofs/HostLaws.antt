-- What is known of a host side behind calls.
use Rattle.std.proofs.Common.{ℕ, ◌≤◌, List, refl, sym, subst, ◌∙◌, arith}
use Rattle.std.specs.Prelude.{Bool}
use Rattle.wasm_syntax.specs.declared.parts.Import.{Import}
use Rattle.wasm_syntax.specs.declared.parts.FuncType.{FuncType}
use Rattle.wasm_syntax.specs.declared.module.ModuleParts.{ModuleParts as Module}
use Rattle.host_devices.specs.calls.HostSides.{Origin}
use Rattle.machine_hosted.specs.declared.answer.RunEnd.{RunEnd}
use Rattle.machine_hosted.specs.declared.answer.RunEnd.TheVariants.{Finished, Trapped, NoReply, BadReply, DeviceFault, FuelSpent, NoMemory}
use Rattle.machine_hosted.specs.calls.Answers.{HasCause}
use Rattle.machine_hosted.specs.calls.Settings.{Knows, HostServes, HostKept}

module _ {H : Type 0} (origin : H → Origin) (collecting : H → Bool) (serving : H → Import → FuncType → Bool) (fault_count : H → List ℕ → ℕ) where
  pub kept_same : (h : H) → HostKept origin collecting serving fault_count h h
  kept_same h = record { origin_is = refl; collecting_is = refl; serving_is = λ i type. refl; later = λ name. omega arith }

  pub kept_on : (a b c : H) → HostKept origin collecting serving fault_count a b → HostKept origin collecting serving fault_count b c → HostKept origin collecting serving fault_count a c
  kept_on a b c first then = record {
    origin_is = then.origin_is ∙ first.origin_is;
    collecting_is = then.collecting_is ∙ first.collecting_is;
    serving_is = λ i type. then.serving_is i type ∙ first.serving_is i type;
    later = λ name. let l = first.later name in let k = then.later name in omega (arith, l, k);
  }

  pub knows_then : (m : Module) (old new : H) → HostKept origin collecting serving fault_count old new → Knows (origin old) m → Knows (origin new) m
  knows_then m old new kept knows = subst (λ (o : Origin). Knows o m) (sym kept.origin_is) knows

  pub serves_then : (m : Module) (old new : H) → HostKept origin collecting serving fault_count old new → HostServes (origin old) (serving old) m → HostServes (origin new) (serving new) m
  serves_then m old new kept h = record {
    knows = knows_then m old new kept h.knows;
    serves = λ f i type a b. kept.serving_is i type ∙ h.serves f i type a b;
  }

-- a cause behind further calls
pub cause_later : (answer : RunEnd) (old mid new : List ℕ → ℕ) → ((name : List ℕ) → old name ≤ mid name) → HasCause answer mid new → HasCause answer old new
cause_later (DeviceFault name) old mid new le h = let l = le name in omega (arith, l, h)
cause_later (Finished value) old mid new le h = tt
cause_later (Trapped kind) old mid new le h = tt
cause_later NoReply old mid new le h = tt
cause_later (BadReply reply) old mid new le h = tt
cause_later FuelSpent old mid new le h = tt
cause_later NoMemory old mid new le h = tt
