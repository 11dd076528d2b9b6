-- What is read at an offset is what stands there alone.
use Rattle.std.proofs.Common.{◌≡◌, ℕ, ◌-◌, ◌≤◌, ◌⊎◌, false, leb, List, length, Option, Some, None, Result, Ok, Err, refl, sym, ◌∙◌, inl, inr, arith}
use Rattle.std.proofs.lemmas.Bool.{cases_lt}
use Rattle.wasm_bytes.specs.Place.{Place, Read}
use Rattle.wasm_bytes.specs.Reading.{run_item}
use Rattle.wasm_bytes.specs.Laws.{IsBytes, IsExact}
use Rattle.dwarf_bytes.specs.Items.{number_item, unit_block_item, read_at}
use Rattle.dwarf_bytes.specs.calls.Answers.{ReadsThere}
use Rattle.dwarf_bytes.specs.declared.faults.ReadFault.{ReadFault}
use Rattle.dwarf_bytes.specs.declared.faults.ReadFault.TheVariants.{Unreadable, NoMemory}
use Rattle.dwarf_bytes.proofs.Standing.{read_stands, stands_read}
use Rattle.dwarf_line.specs.declared.lines.Lines.{Lines}
use Rattle.dwarf_line.specs.Header.{Layout}
use Rattle.dwarf_line.specs.Program.{lines_item, lines_at}
use Rattle.dwarf_line.specs.calls.Standing.{IsWhatStands}

pub stands_alone : {A : Type 0} (S : A → ℕ → List ℕ → Type 0) (f : Place → Read A) → IsExact S f → (section : List ℕ) (at : ℕ) → IsBytes section → (at ≤ length section) ⊎ (read_at f section at ≡ None)
    → (r : Result A ReadFault) → ReadsThere at r (read_at f section at) → IsWhatStands S section at r
stands_alone {A} S f e section at fits (inl inside) (Ok x) there = (read_stands S f e section at x fits inside there, λ y s. (let same : Some y ≡ Some x = sym (stands_read S f e section at y s) ∙ there in cc))
stands_alone {A} S f e section at fits (inr none) (Ok x) there = absurd (let no : None ≡ Some x = sym none ∙ there in cc)
stands_alone {A} S f e section at fits place (Err (Unreadable o)) there = λ y s. absurd (let no : Some y ≡ None = sym (stands_read S f e section at y s) ∙ there.1 in cc)
stands_alone S f e section at fits place (Err NoMemory) there = tt

-- Behind the section's end no program stands.
pub none_behind : (versions : ℕ → Option Layout) (section : List ℕ) (at : ℕ) → length section ≤ at → lines_at versions section at ≡ None
unfolding lines_at lines_item unit_block_item number_item run_item
none_behind versions section at past =
    let room : leb 4 (length section - at) ≡ false = grind (arith, past) in
    rw room refl

inside_or_none : (versions : ℕ → Option Layout) (section : List ℕ) (at : ℕ) → (at ≤ length section) ⊎ (lines_at versions section at ≡ None)
inside_or_none versions section at = elim (cases_lt (length section) at) [
  | inl lt ↦ inr (none_behind versions section at (omega arith))
  | inr le ↦ inl le
]

pub lines_stand : (S : Lines → ℕ → List ℕ → Type 0) (versions : ℕ → Option Layout) → IsExact S (lines_item versions) → (section : List ℕ) (at : ℕ) → IsBytes section
    → (r : Result Lines ReadFault) → ReadsThere at r (lines_at versions section at) → IsWhatStands S section at r
unfolding lines_at
lines_stand S versions e section at fits r there = stands_alone S (lines_item versions) e section at fits (inside_or_none versions section at) r there
