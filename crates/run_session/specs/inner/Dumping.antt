-- What was told of an invocation, in lines and in a dump.
use Rattle.std.specs.Prelude.{◌≡◌, ℕ, ◌+◌, List, [], ◌∷◌, ◌++◌, Option, Some, None}
use Rattle.pm_outside.specs.Contents.{Contents}
use Rattle.dump_format.specs.declared.dump.Dump.{Dump as FormatDump}
use Rattle.dump_format.specs.declared.dump.Frame.{Frame as FormatFrame}
use Rattle.dump_write.specs.Canonical.{canonical_bytes}
use Rattle.dump_write.specs.Image.{DumpFrame, Dump}
use Rattle.dump_write.specs.ImageBytes.{bytes_of}
use Rattle.pm_outside.specs.Written.{OnTold}
use Rattle.run_session.specs.Telling.{Telling}
use Rattle.run_session.specs.Telling as telling
use Rattle.run_session.specs.RunText.{place_line, place_text, calls_text, telling_text, with_dump, with_trap}
use Rattle.commands.specs.Lines.{kind_line}
use Rattle.pm_outside.specs.Held.{Writes, HoldThen, HoldPart}
use Rattle.run_session.specs.declared.told.Told.{Told}
use Rattle.run_session.specs.declared.told.Told.TheVariants.{Nothing, Finish, Trap, BareTrap, Torn}
use Rattle.run_session.specs.declared.turns.Lines.{Lines}

-- the place of the first of these frames
abbrev pub place_in : List FormatFrame → List ℕ
place_in [] = []
place_in (f ∷ fs) = place_line f.function f.offset

unfoldable pub handed_text : ℕ → List FormatFrame → ℕ → List ℕ
handed_text kind frames n = kind_line kind ++ place_in frames ++ calls_text n

-- ---- values that tell something

-- a trap with this dump, under this name inside
pub record IsTrap (t : Telling) (name : List ℕ) (kind : ℕ) (d : FormatDump) : Type 0 where
  pub place : Option DumpFrame
  pub dump : List ℕ → Dump
  pub is : t ≡ telling.trap kind place dump
  pub place_is : place_in d.frames ≡ place_text place
  pub bytes : canonical_bytes d ≡ bytes_of (dump name)

abbrev pub IsTold : Telling → (name : List ℕ) → Told → Type 0
IsTold t name Nothing = t ≡ telling.nothing
IsTold t name (Finish v) = t ≡ telling.finish v
IsTold t name (Trap kind d) = IsTrap t name kind d
IsTold t name (BareTrap kind) = t ≡ telling.bare_trap kind
IsTold t name (Torn at) = t ≡ telling.torn at

-- a fact on the dump, where there is one
abbrev pub IfDump : (FormatDump → Type 0) → Told → Type 0
IfDump P Nothing = Unit {0}
IfDump P (Finish v) = Unit {0}
IfDump P (Trap kind d) = P d
IfDump P (BareTrap kind) = Unit {0}
IfDump P (Torn at) = Unit {0}

abbrev pub torn_at : Told → Option ℕ
torn_at Nothing = None
torn_at (Finish v) = None
torn_at (Trap kind d) = None
torn_at (BareTrap kind) = None
torn_at (Torn at) = Some at

-- ---- what was written

-- the dump of an invocation of which this is told, and whose trap would have this number
abbrev pub own_dump : (base name : List ℕ) → ℕ → Telling → Writes
own_dump base name j t = with_dump base name j t (λ k. [])

-- the lines were added, and the dump was written
pub record AddsTold (base name : List ℕ) (told : Told) (calls : ℕ) (old new : Lines) (before after : Option Contents) : Type 0 where
  pub writes : Writes
  pub files : OnTold (HoldThen writes) before after
  pub text : (t : Telling) → IsTold t name told → new.text ≡ old.text ++ telling_text t calls
  pub traps : (t : Telling) → IsTold t name told → new.traps ≡ old.traps + with_trap t 0
  pub wrote : (t : Telling) → IsTold t name told → writes ≡ own_dump base name old.traps t

-- the dump is there in part
abbrev pub LeavesDump : (base name : List ℕ) → Told → (number : ℕ) → (before after : Option Contents) → Type 0
LeavesDump base name told number before after = (t : Telling) → IsTold t name told → OnTold (HoldPart (own_dump base name number t)) before after
