-- Worlds and the machines that hold them.
use Rattle.std.proofs.Common.{◌≡◌, ℕ, List, [], ◌∷◌, map, refl, sym, subst, ◌∙◌, slice_get, Option, Some, None}
use Rattle.wasm_syntax.specs.declared.value.Value.{Value}
use Rattle.wasm_syntax.specs.declared.parts.FuncType.{FuncType}
use Rattle.wasm_syntax.specs.declared.parts.Limits.{Limits}
use Rattle.wasm_syntax.specs.declared.module.ModuleParts.{ModuleParts as Module}
use Rattle.wasm_syntax.specs.declared.host.Reply.{Reply}
use Rattle.wasm_syntax.specs.declared.host.Write.{Write}
use Rattle.wasm_syntax.specs.Numbers.{types}
use Rattle.wasm_syntax.specs.Module.{type_at, option_then}
use Rattle.wasm_syntax.specs.Host.{World, after_writes}
use Rattle.linear_memory.specs.Memory.{Memory, put}
use Rattle.machine_steps.specs.declared.machine.Machine.{Machine}
use Rattle.machine_steps.specs.calls.Meets.{Shares}
use Rattle.machine_hosted.specs.calls.Safe.{MemoryFits, WorldFits}
use Rattle.machine_hosted.specs.calls.Hosted.{replying}
use Rattle.machine_hosted.specs.calls.Settings.{world_of, MachineFits}

pub same_world : (w u : World) → w.globals ≡ u.globals → w.memory ≡ u.memory → w.table ≡ u.table → w.replies ≡ u.replies → w.served ≡ u.served → w ≡ u
same_world w u g m t r s = λ i. record { globals = g i; memory = m i; table = t i; replies = r i; served = s i }

pub shares_replying : (m : Machine) (w : World) (replies : List Reply) → Shares m w → Shares m (replying w replies)
shares_replying m w replies h = record { holds = record { globals = h.holds.globals; memory = h.holds.memory }; table = h.table }

-- two worlds of one machine
pub one_world : (m : Machine) (w u : World) → Shares m w → Shares m u → w.replies ≡ u.replies → w.served ≡ u.served → w ≡ u
one_world m w u a b r s = same_world w u (a.holds.globals ∙ sym b.holds.globals) (a.holds.memory ∙ sym b.holds.memory) (a.table ∙ sym b.table) r s

pub shares_own : (m : Machine) (replies : List Reply) → Shares m (world_of m replies)
shares_own m replies = record { holds = record { globals = refl; memory = refl }; table = refl }

-- ---- worlds that fit

pub fits_same : (m : Module) (w u : World) → u.globals ≡ w.globals → u.memory ≡ w.memory → u.table ≡ w.table → WorldFits m w → WorldFits m u
fits_same m w u g k t h = record {
  globals = subst (λ (gs : List Value). types gs ≡ map (λ g. g.vtype) m.globals) (sym g) h.globals;
  memory = subst (MemoryFits m.memories) (sym k) h.memory;
  table = subst (λ (es : List (Option ℕ)). (i g : ℕ) → slice_get es i ≡ Some (Some g) → (type : FuncType) × (type_at m g ≡ Some type)) (sym t) h.table;
}

pub fits_replying : (m : Module) (w : World) (replies : List Reply) → WorldFits m w → WorldFits m (replying w replies)
fits_replying m w replies h = record { globals = h.globals; memory = h.memory; table = h.table }

-- what is outside the frames of a machine fits where one world of it does, and then each does
pub machine_fits : (m : Module) (machine : Machine) (w : World) → Shares machine w → WorldFits m w → MachineFits m machine
machine_fits m machine w s h = fits_same m w (world_of machine []) (sym s.holds.globals) (sym s.holds.memory) (sym s.table) h

pub each_fits : (m : Module) (machine : Machine) (w : World) → Shares machine w → MachineFits m machine → WorldFits m w
each_fits m machine w s h = fits_same m (world_of machine []) w s.holds.globals s.holds.memory s.table h

-- writes keep a memory there
pub writes_fit : (ls : List Limits) (memory after : Option Memory) (ws : List Write) → MemoryFits ls memory → after_writes memory ws ≡ Some after → MemoryFits ls after
writes_fit ls memory after [] h e = let q : memory ≡ after = cc in subst (MemoryFits ls) q h
writes_fit ls None after (w ∷ ws) h e = absurd (cc)
writes_fit [] (Some m) after (w ∷ ws) h e = absurd (cc)
writes_fit (l ∷ ls) (Some m) after (w ∷ ws) h e = by_put (put m w.at w.bytes) (λ k. writes_fit (l ∷ ls) (Some k) after ws tt) e
  where
    by_put : (o : Option Memory) → ((k : Memory) → after_writes (Some k) ws ≡ Some after → MemoryFits (l ∷ ls) after) → option_then o (λ k. after_writes (Some k) ws) ≡ Some after → MemoryFits (l ∷ ls) after
    by_put None ih e = absurd (cc)
    by_put (Some k) ih e = ih k e
