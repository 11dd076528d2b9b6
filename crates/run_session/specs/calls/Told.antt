-- Values that show what calls hand over.
use Rattle.std.specs.Prelude.{◌≡◌, ℕ, List, Option}
use Rattle.dump_write.specs.Canonical.{canonical_bytes}
use Rattle.dump_write.specs.ImageBytes.{bytes_of}
use Rattle.dump_write.specs.Pictured.{Pictures}
use Rattle.machine_basics.specs.calls.Traps.{trap_code}
use Rattle.host_collector.specs.declared.closing.Collected.{Collected}
use Rattle.run_session.specs.Delivery.{HandedDump, Delivery, nothing, whole, torn, dump_of}
use Rattle.run_session.specs.Showing.{Showing, as_run, collected, no_dump, torn_at}
use Rattle.run_session.specs.declared.handed.Handed.{Handed}
use Rattle.run_session.specs.declared.handed.Handed.TheVariants.{Nothing, Whole, Torn}
use Rattle.run_session.specs.declared.shown.Shown.{Shown}
use Rattle.run_session.specs.declared.shown.Shown.TheVariants.{AsRun, Collected as ByDump, NoDump, Torn as NotShown}

-- the kind, and the dump with these bytes of a memory and of this name
pub record Carries (d : HandedDump) (memory : Option (List ℕ)) (name : List ℕ) (c : Collected) : Type 0 where
  pub kind : c.kind ≡ d.kind
  pub dump : Pictures (dump_of d memory name) c.dump
  pub bytes : canonical_bytes c.dump ≡ bytes_of (dump_of d memory name)

abbrev pub IsHanded : Delivery → Option (List ℕ) → List ℕ → Handed → Type 0
IsHanded delivery memory name Nothing = delivery ≡ nothing
IsHanded delivery memory name (Whole c) = (d : HandedDump) × (delivery ≡ whole d) × Carries d memory name c
IsHanded delivery memory name (Torn at) = delivery ≡ torn at

abbrev pub IsShown : Showing → Option (List ℕ) → List ℕ → Shown → Type 0
IsShown showing memory name AsRun = showing ≡ as_run
IsShown showing memory name (ByDump c) = (d : HandedDump) × (showing ≡ collected d) × Carries d memory name c
IsShown showing memory name (NoDump kind) = showing ≡ no_dump (trap_code kind)
IsShown showing memory name (NotShown at) = showing ≡ torn_at at

-- ---- a fact on the dump, where there is one

abbrev pub IfHanded : (Collected → Type 0) → Handed → Type 0
IfHanded P Nothing = Unit {0}
IfHanded P (Whole c) = P c
IfHanded P (Torn at) = Unit {0}

abbrev pub IfCollected : (Collected → Type 0) → Shown → Type 0
IfCollected P AsRun = Unit {0}
IfCollected P (ByDump c) = P c
IfCollected P (NoDump kind) = Unit {0}
IfCollected P (NotShown at) = Unit {0}
