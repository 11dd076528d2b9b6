-- All basic instructions but `drop` and `select` have one arrow.
use Rattle.std.proofs.Common.{◌≡◌, ◌≢◌, List, refl}
use Rattle.wasm_syntax.specs.declared.value.ValType.{ValType}
use Rattle.wasm_syntax.specs.declared.value.ValType.TheVariants.{I32}
use Rattle.wasm_syntax.specs.declared.instruction.Basic.{Basic}
use Rattle.wasm_syntax.specs.declared.instruction.Basic.TheVariants.{Nop, Drop, Select, LocalGet, LocalSet, LocalTee, GlobalGet, GlobalSet, Load, Store, MemorySize, MemoryGrow, MemoryCopy, MemoryFill, Const, Eqz, Unary, Compare, Binary, Convert, Extend32, Extend64}
use Rattle.wasm_syntax.specs.Module.{option_then}
use Rattle.wasm_syntax.specs.Typing.{Context, arrow}
use Rattle.wasm_syntax.specs.FlatTyping.{OpenBlock, inside}
use Rattle.validate_body.specs.calls.Frames.{Frame}
use Rattle.validate_body.specs.calls.Algorithm.{apply, step_basic}

-- the same in every context
abbrev pub OneArrow : Context → Basic → Type 0
OneArrow c i = (gs : List OpenBlock) (t : ValType) → arrow (inside c gs) t i ≡ arrow c I32 i

abbrev pub ByArrow : Context → Basic → Type 0
ByArrow c i = (fs : List Frame) → step_basic c fs i ≡ option_then (arrow c I32 i) (apply fs)

pub data Steps : Basic → Type 0 where
  drops : Steps Drop
  selects : Steps Select
  by_arrow : {i : Basic} → ((c : Context) → OneArrow c i) → ((c : Context) → ByArrow c i) → Steps i

pub steps_of : (i : Basic) → Steps i
steps_of Drop = drops
steps_of Select = selects
steps_of Nop = by_arrow (λ c gs t. refl) (λ c fs. refl)
steps_of (LocalGet x) = by_arrow (λ c gs t. refl) (λ c fs. refl)
steps_of (LocalSet x) = by_arrow (λ c gs t. refl) (λ c fs. refl)
steps_of (LocalTee x) = by_arrow (λ c gs t. refl) (λ c fs. refl)
steps_of (GlobalGet x) = by_arrow (λ c gs t. refl) (λ c fs. refl)
steps_of (GlobalSet x) = by_arrow (λ c gs t. refl) (λ c fs. refl)
steps_of (Load l align offset) = by_arrow (λ c gs t. refl) (λ c fs. refl)
steps_of (Store s align offset) = by_arrow (λ c gs t. refl) (λ c fs. refl)
steps_of MemorySize = by_arrow (λ c gs t. refl) (λ c fs. refl)
steps_of MemoryGrow = by_arrow (λ c gs t. refl) (λ c fs. refl)
steps_of MemoryCopy = by_arrow (λ c gs t. refl) (λ c fs. refl)
steps_of MemoryFill = by_arrow (λ c gs t. refl) (λ c fs. refl)
steps_of (Const v) = by_arrow (λ c gs t. refl) (λ c fs. refl)
steps_of (Eqz u) = by_arrow (λ c gs t. refl) (λ c fs. refl)
steps_of (Unary u op) = by_arrow (λ c gs t. refl) (λ c fs. refl)
steps_of (Compare u op) = by_arrow (λ c gs t. refl) (λ c fs. refl)
steps_of (Binary u op) = by_arrow (λ c gs t. refl) (λ c fs. refl)
steps_of (Convert k) = by_arrow (λ c gs t. refl) (λ c fs. refl)
steps_of (Extend32 k) = by_arrow (λ c gs t. refl) (λ c fs. refl)
steps_of (Extend64 k) = by_arrow (λ c gs t. refl) (λ c fs. refl)
