-- What the sections of a dump hold.
use Rattle.std.specs.Prelude.{ℕ, List}
use Rattle.wasm_syntax.specs.declared.value.Seen.{Seen}
use Rattle.wasm_syntax.specs.declared.value.Value.{Value}
use Rattle.dump_format.specs.declared.dump.Instance.{Instance}
use Rattle.dump_format.specs.Region.{Region}

-- a value, or a float by the offset at which it begins
pub data Shown (A : Type 0) : Type 0 where
  known : A → Shown A
  float : ℕ → Shown A

-- a frame, in which values may be floats
pub record ShownFrame : Type 0 where
  pub instance : ℕ
  pub function : ℕ
  pub offset : ℕ
  pub locals : List (Shown Seen)
  pub operands : List (Shown Seen)

-- A section. Custom sections with other names, and sections with other ids, are passed over.
pub data Part : Type 0 where
  core : (name : List ℕ) → Part
  modules : (names : List (List ℕ)) → Part
  instances : List Instance → Part
  stack : List ShownFrame → Part
  memories : (pages : List ℕ) → Part
  globals : List (Shown Value) → Part
  segments : List Region → Part
  custom : Part
  passed : (id : ℕ) → Part
