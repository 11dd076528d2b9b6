-- What is known of instances.
use Rattle.std.proofs.Common.{◌≡◌, ◌+◌, ◌<◌, ◌^◌, List, [], length, refl, sym, ap, subst, ◌∙◌}
use Rattle.std.specs.Prelude.{option_map}
use Rattle.wasm_syntax.specs.declared.module.ModuleParts.{ModuleParts as Module}
use Rattle.wasm_syntax.specs.declared.host.Reply.{Reply}
use Rattle.wasm_syntax.specs.Module.{Program, IsProgram, IsModule}
use Rattle.wasm_syntax.specs.Valid.{Valid}
use Rattle.wasm_syntax.specs.Run.{start_world}
use Rattle.machine_steps.specs.declared.machine.Machine.{Machine}
use Rattle.machine_code.specs.declared.prepared.Prepared.{Prepared}
use Rattle.machine_code.specs.calls.Prepares.{IsPrepared}
use Rattle.machine_hosted.specs.calls.Safe.{WorldFits}
use Rattle.machine_hosted.proofs.SafeLaws.{start_fits}
use Rattle.wasm_machine.specs.declared.started.Started.{Started}
use Rattle.wasm_machine.specs.calls.Starts as starts
use Rattle.machine_hosted.specs.calls.Settings.{Sound, world_of, MachineFits}
use Rattle.machine_hosted.proofs.WorldLaws.{same_world}

-- ---- a new instance

pub new_sound : (m : Module) (prepared : Prepared) → IsModule m → Valid m → length m.imports + length m.functions < 2 ^ 32 → ((p : Program) → p.module_ ≡ m → IsProgram p → IsPrepared p prepared) → Sound m prepared
new_sound m prepared w v f p = record { whole = w; valid = v; few = f; is_prepared = p }

pub new_world : (m : Module) (s : Started) (machine : Machine) → ((replies : List Reply) → starts.StandsFor s (start_world m replies)) → machine.shared ≡ s.shared → machine.table ≡ s.table → (replies : List Reply) → world_of machine replies ≡ start_world m replies
new_world m s machine h shared table replies =
    let k = h replies in
    same_world (world_of machine replies) (start_world m replies) (ap (λ s. s.globals) shared ∙ sym k.shared.globals) (ap (λ s. option_map (λ k. k.memory) s.memory) shared ∙ sym k.shared.memory) (table ∙ sym k.table) refl refl

pub new_fits : (m : Module) (prepared : Prepared) (machine : Machine) → Sound m prepared → ((replies : List Reply) → world_of machine replies ≡ start_world m replies) → MachineFits m machine
new_fits m prepared machine s h =
    let p : Program = record { module_ = m; trees = s.whole.trees } in
    subst (WorldFits m) (sym (h [])) (start_fits (record { module_ = m; trees = s.whole.trees }) [] (record { writes = s.whole.write; paired = s.whole.as_many; valid = s.valid }))
