-- What the calls of a collector hand over.
use Rattle.std.specs.Prelude.{ℕ, ◌≡◌, ◌≤◌, List, [], ◌∷◌, ◌++◌, length, map, flat_map, Option}
use Rattle.std.specs.List.{AllByRecursion}
use Rattle.wasm_syntax.specs.declared.value.Value.{Value}
use Rattle.wasm_syntax.specs.declared.value.Value.TheVariants as values
use Rattle.wasm_syntax.specs.declared.host.CollectorCall.{CollectorCall}
use Rattle.wasm_syntax.specs.declared.host.CollectorCall.TheVariants.{ValueI32, ValueI64, Frame}
use Rattle.dump_write.specs.Image.{DumpFrame, Dump}

pub record Entry : Type 0 where
  pub kind : ℕ
  pub shown : DumpFrame

abbrev pub value_call : Value → CollectorCall
value_call (values.I32 n) = ValueI32 n
value_call (values.I64 n) = ValueI64 n

-- the values of a frame, operands and then locals, and its end
abbrev pub entry_calls : Entry → List CollectorCall
entry_calls e =
    map value_call (e.shown.operands ++ e.shown.locals) ++ Frame e.kind e.shown.function e.shown.offset (length e.shown.locals) ∷ []

-- the entries, and then the globals
abbrev pub calls_of : List Entry → List Value → List CollectorCall
calls_of entries globals = flat_map entry_calls entries ++ (map value_call globals ++ Frame 255 0 0 (length globals) ∷ [])

-- the first entry has this kind, and each later one has kind 0
abbrev pub HaveKind : List Entry → ℕ → Type 0
HaveKind [] k = ⊥
HaveKind (e ∷ es) k = (e.kind ≡ k) × AllByRecursion (λ e. e.kind ≡ 0) es

-- the calls hand over a dump whole: the frames of a trap of kind 1 to 7, and at most 134,217,728 calls
pub record Whole (calls : List CollectorCall) : Type 0 where
  pub kind : ℕ
  pub entries : List Entry
  pub globals : List Value
  pub calls_are : calls ≡ calls_of entries globals
  pub kinds : HaveKind entries kind
  pub kind_is : (1 ≤ kind) × (kind ≤ 7)
  pub few : length calls ≤ 134217728

abbrev pub collected_dump : {calls : List CollectorCall} → Whole calls → Option (List ℕ) → List ℕ → Dump
collected_dump w memory name = record { name = name; frames = map (λ e. e.shown) w.entries; globals = w.globals; memory = memory }

-- the calls begin a whole list
abbrev pub BeginsWhole : List CollectorCall → Type 0
BeginsWhole calls = (more : List CollectorCall) × Whole (calls ++ more)
