-- What is known of the opcodes from offsets of a block up to its end.
use Rattle.std.specs.Prelude.{◌≡◌, ◌<◌, ◌≤◌, ◌-◌, ℕ, List, [], ◌∷◌, length, take, Option, Some, None, option_map, IfSome, Ok, Err}
use Rattle.std.specs.Ordering.{nat_cmp}
use Rattle.std.specs.BTreeMap.{get}
use Rattle.wasm_bytes.specs.Place.{Place, Read}
use Rattle.wasm_bytes.specs.Reading.{◌>>=◌, ◌▷◌, mapped, closed, until_end, to_end_item}
use Rattle.dwarf_bytes.specs.Items.{number_item, unit_block_item}
use Rattle.dwarf_bytes.specs.Format.{read}
use Rattle.dwarf_line.specs.declared.hull.Hull.{Hull}
use Rattle.dwarf_line.specs.declared.effects.Effect.{Effect}
use Rattle.dwarf_line.specs.declared.outline.Outline.{Outline}
use Rattle.dwarf_line.specs.declared.scan.Stride.{Stride}
use Rattle.dwarf_line.specs.declared.scan.Trail.{Trail}
use Rattle.dwarf_line.specs.declared.scan.Shared.{Shared}
use Rattle.dwarf_line.specs.Parameters.{Parameters}
use Rattle.dwarf_line.specs.Opcodes.{opcode}
use Rattle.dwarf_line.specs.declared.header.Header.{Header}
use Rattle.dwarf_line.specs.Header.{Layout, header_or_none}
use Rattle.dwarf_line.specs.inner.Outlines.{effect_of, outline, with_front, start_hull}

abbrev pub effect_item : Parameters → Place → Read Effect
effect_item h = mapped (effect_of h) (read (opcode h))

abbrev pub outline_of : Read (List Effect) → Option Outline
outline_of (Ok x) = Some (outline x.0)
outline_of (Err at) = None

abbrev pub place_in : List ℕ → ℕ → Place
place_in block at = record { block = block; at = at }

-- It is the outline of the opcodes from an offset up to the end, or they cannot be read.
abbrev pub IsRest : Parameters → List ℕ → ℕ → Option Outline → Type 0
IsRest h block at o = (n : ℕ) → length block - at ≤ n → outline_of (closed (until_end (effect_item h) n) (place_in block at)) ≡ o

abbrev pub with_front_if : Effect → Option Outline → Option Outline
with_front_if e o = option_map (with_front e) o

-- the bounds that the opcodes up to the end make behind a header, if they can be read
abbrev pub bounds_item : Parameters → Place → Option Hull
bounds_item h p = option_map start_hull (outline_of (closed (to_end_item (effect_item h)) p))

-- Each outline that is known of an offset is right.
abbrev pub AreKnown : Parameters → List ℕ → (ℕ → Option (Option Outline)) → Type 0
AreKnown h block known = (at : ℕ) → IfSome (known at) (IsRest h block at)

abbrev pub IsShared : List ℕ → Shared → Type 0
IsShared section s = AreKnown s.parameters (take s.until section) (get nat_cmp s.known)

-- ---- the way back

-- from an offset to the one behind the opcode
pub record Leads (h : Parameters) (block : List ℕ) (x : Stride) (behind : ℕ) : Type 0 where
  pub reads : effect_item h (place_in block x.at) ≡ Ok (x.effect, place_in block behind)
  pub moves : x.at < behind
  pub inside : x.at < length block

-- from one offset to another
abbrev pub Lead : Parameters → List ℕ → ℕ → List Stride → ℕ → Type 0
Lead h block start [] at = start ≡ at
Lead h block start (x ∷ xs) at = (x.at ≡ start) × ((behind : ℕ) × Leads h block x behind × Lead h block behind xs at)

-- from a place to one whose rest is known
abbrev pub IsWay : Parameters → Place → List Stride → Option Outline → Type 0
IsWay h p xs o = (at : ℕ) × Lead h p.block p.at xs at × IsRest h p.block at o

abbrev pub IsTrail : Parameters → Place → Trail → Type 0
IsTrail h p t = IsWay h p t.strides.items t.rest

-- What a trail comes to is right of where it began.
abbrev pub Unwinds : Trail → Option Outline → Type 0
Unwinds t o = (h : Parameters) (p : Place) → IsTrail h p t → IsRest h p.block p.at o

-- ---- headers

-- the header in the block that `unit_length` opens, and the place behind it there
abbrev pub entered_item : (ℕ → Option Layout) → Place → Read Header
entered_item versions p = unit_block_item p >>= λ b. (number_item 2 ▷ λ v. header_or_none (versions v)) b.0
