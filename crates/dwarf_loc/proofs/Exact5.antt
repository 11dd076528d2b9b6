-- Lists of version 5 are read exactly as they are spelled.
use Rattle.std.proofs.Common.{ℕ, List, length, None, ap, arith, length-append}
use Rattle.wasm_bytes.specs.Place.{Place, Read}
use Rattle.wasm_bytes.specs.Reading.{◌⊗◌, mapped, byte_item, u64_item}
use Rattle.wasm_bytes.specs.calls.Spelling.{pair, image, only, byte, u64}
use Rattle.wasm_bytes.specs.Laws.{IsExact, TakesBytes}
use Rattle.wasm_bytes.proofs.Exact.{leads_exact, image_exact, then_exact, done_exact}
use Rattle.wasm_bytes.proofs.ExactItems.{u64_exact, byte_exact}
use Rattle.dwarf_bytes.specs.Items.{number_item, meaning_item}
use Rattle.dwarf_bytes.specs.calls.Spelled.{number, meaning}
use Rattle.dwarf_bytes.proofs.Exact.{number_exact}
use Rattle.dwarf_bytes.proofs.Lists.{meaning_exact, ended_exact}
use Rattle.dwarf_loc.specs.Contents.{nothing_item}
use Rattle.dwarf_loc.proofs.Exact.{sized_span_exact}
use Rattle.dwarf_loc.specs.declared.kind.EntryKind.{EntryKind}
use Rattle.dwarf_loc.specs.declared.kind.EntryKind.TheVariants.{EndOfList, BaseAddressx, StartxEndx, StartxLength, OffsetPair, DefaultLocation, BaseAddress, StartEnd, StartLength}
use Rattle.dwarf_loc.specs.Addresses.{Addresses}
use Rattle.dwarf_loc.specs.Kinds.{location_kind, range_kind}
use Rattle.dwarf_loc.specs.Version5.{Kinds, base_of, offsets_of, between_of, lasting_of, otherwise_of, indexed_item, behind_kind, entry5_item, list5_item, expression5_item}
use Rattle.dwarf_loc.specs.calls.Grammar5.{indexed, expression5, of_kind, entry5, list5}

indexed_exact : (addresses : Addresses) → IsExact (indexed addresses) (indexed_item addresses)
unfolding indexed_item
indexed_exact addresses = meaning_exact addresses u64 u64_item u64_exact

-- two numbers and what is held
triple_exact : {A B : Type 0} (to : ℕ × (ℕ × A) → B) (S T : ℕ → ℕ → List ℕ → Type 0) (U : A → ℕ → List ℕ → Type 0) (f g : Place → Read ℕ) (what : Place → Read A)
    → IsExact S f → IsExact T g → IsExact U what → IsExact (image to (pair S (pair T U))) (mapped to (f ⊗ g ⊗ what))
triple_exact to S T U f g what e h k =
    image_exact (pair S (pair T U)) to (f ⊗ g ⊗ what) (then_exact S (pair T U) f (g ⊗ what) e (then_exact T U g what h k))

kind_exact : {A : Type 0} (addresses : Addresses) (S : A → ℕ → List ℕ → Type 0) (what : Place → Read A) → IsExact S what
    → (kind : EntryKind) → IsExact (of_kind addresses S kind) (behind_kind addresses what kind)
unfolding behind_kind
kind_exact addresses S what e EndOfList = done_exact None
kind_exact addresses S what e BaseAddressx = image_exact (indexed addresses) base_of (indexed_item addresses) (indexed_exact addresses)
kind_exact addresses S what e StartxEndx =
    triple_exact between_of (indexed addresses) (indexed addresses) S (indexed_item addresses) (indexed_item addresses) what (indexed_exact addresses) (indexed_exact addresses) e
kind_exact addresses S what e StartxLength = triple_exact lasting_of (indexed addresses) u64 S (indexed_item addresses) u64_item what (indexed_exact addresses) u64_exact e
kind_exact addresses S what e OffsetPair = triple_exact offsets_of u64 u64 S u64_item u64_item what u64_exact u64_exact e
kind_exact addresses S what e DefaultLocation = image_exact S otherwise_of what e
kind_exact addresses S what e BaseAddress = image_exact (number 4) base_of (number_item 4) (number_exact 4)
kind_exact addresses S what e StartEnd = triple_exact between_of (number 4) (number 4) S (number_item 4) (number_item 4) what (number_exact 4) (number_exact 4) e
kind_exact addresses S what e StartLength = triple_exact lasting_of (number 4) u64 S (number_item 4) u64_item what (number_exact 4) u64_exact e

entry5_exact : {A : Type 0} (kinds : Kinds) (addresses : Addresses) (S : A → ℕ → List ℕ → Type 0) (what : Place → Read A) → IsExact S what
    → IsExact (entry5 kinds addresses S) (entry5_item kinds addresses what)
unfolding entry5_item
entry5_exact kinds addresses S what e =
    leads_exact (meaning kinds byte) (of_kind addresses S) (meaning_item kinds byte_item) (behind_kind addresses what)
    (meaning_exact kinds byte byte_item byte_exact) (kind_exact addresses S what e)

-- each entry has the byte of its kind
entry5_takes : {A : Type 0} (kinds : Kinds) (addresses : Addresses) (S : A → ℕ → List ℕ → Type 0) → TakesBytes (entry5 kinds addresses S)
entry5_takes kinds addresses S x at front s =
    omega (arith, ap length s.1.4, length-append s.1.0 s.1.1, ap length s.1.2.2)

list5_exact : {A : Type 0} (kinds : Kinds) (addresses : Addresses) (S : A → ℕ → List ℕ → Type 0) (what : Place → Read A) → IsExact S what
    → IsExact (list5 kinds addresses S) (list5_item kinds addresses what)
unfolding list5_item
list5_exact kinds addresses S what e =
    ended_exact (entry5 kinds addresses S) (entry5_item kinds addresses what) (entry5_takes kinds addresses S) (entry5_exact kinds addresses S what e)

expression5_exact : IsExact expression5 expression5_item
unfolding expression5_item
expression5_exact = sized_span_exact u64 u64_item u64_exact

pub locations5_exact : (addresses : Addresses) → IsExact (list5 location_kind addresses expression5) (list5_item location_kind addresses expression5_item)
locations5_exact addresses = list5_exact location_kind addresses expression5 expression5_item expression5_exact

pub ranges5_exact : (addresses : Addresses) → IsExact (list5 range_kind addresses (only tt)) (list5_item range_kind addresses nothing_item)
ranges5_exact addresses = list5_exact range_kind addresses (only tt) nothing_item (done_exact tt)
