-- The targets that an instruction brings: those of a `br_table`, which takes them up behind those before it, and no others.
use Rattle.std.proofs.Common.{◌≡◌, ℕ, ◌+◌, ◌≤◌, List, [], ◌∷◌, ◌++◌, length, Option, Some, None, refl, sym, ap, subst, arith, length-append}
use Rattle.std.specs.Prelude.{◌==◌, ◌&&◌, nat_le, Bool, true, false, if◌then◌else◌}
use Rattle.wasm_syntax.specs.declared.value.ValType.{ValType}
use Rattle.wasm_syntax.specs.declared.value.ValType.TheVariants.{I32, I64}
use Rattle.wasm_syntax.specs.declared.instruction.Jump.TheVariants as jumps
use Rattle.wasm_syntax.specs.declared.instruction.Instr.{Instr}
use Rattle.wasm_syntax.specs.declared.instruction.Instr.TheVariants as instr
use Rattle.wasm_bytes.specs.calls.Spelling.{items, vector, u32}
use Rattle.wasm_bytes.proofs.Takes.{u32_takes}
use Rattle.wasm_format.specs.declared.code.Code.{Code}
use Rattle.wasm_format.specs.declared.code.Code.TheVariants.{Known, Float}
use Rattle.wasm_format.specs.Spelled.{Spelled}
use Rattle.wasm_format.specs.InstructionForm.{Form, bare, indexed, access, typed, labels, indirect, reserved, constant_i32, constant_i64, bulk, float_bare, float_access, float_constant, br_table, block}
use Rattle.wasm_format.specs.Table.{Rows, control, parametric, variable, load_rows, store_rows, sizes_and_constants, numeric_forms, numeric, rows_near, form_of}
use Rattle.wasm_format.specs.calls.InstructionGrammar.{immediates, behind_opcode, instruction}
use Rattle.std.proofs.lemmas.Bool.{and_parts}
use Rattle.wasm_bytes.specs.Tables.{lookup, rows_from}

-- ---- what is claimed

abbrev pub NoTargets : Instr → Type 0
NoTargets (instr.Jump (jumps.BrTable start count default)) = ⊥
NoTargets i = Unit {0}

abbrev pub TakesUp : ℕ → Code → List ℕ → Type 0
TakesUp base (Known (instr.Jump (jumps.BrTable start count default))) own = (start ≡ base) × (count ≡ length own)
TakesUp base code own = own ≡ []

-- of the bytes that spell an instruction
pub record Brings (base : ℕ) (x : Spelled) (bytes : List ℕ) : Type 0 where
  pub takes_up : TakesUp base x.code x.targets
  pub few : length x.targets ≤ length bytes

none_taken : (base : ℕ) (i : Instr) → NoTargets i → TakesUp base (Known i) []
none_taken base (instr.Basic i) h = refl
none_taken base (instr.Jump (jumps.BrTable start count default)) h = absurd h
none_taken base (instr.Jump jumps.Unreachable) h = refl
none_taken base (instr.Jump (jumps.Br n)) h = refl
none_taken base (instr.Jump (jumps.BrIf n)) h = refl
none_taken base (instr.Jump jumps.Return) h = refl
none_taken base (instr.Jump (jumps.Call f)) h = refl
none_taken base (instr.Jump (jumps.CallIndirect t)) h = refl
none_taken base (instr.Block t) h = refl
none_taken base (instr.Loop t) h = refl
none_taken base (instr.If t) h = refl
none_taken base instr.Else h = refl
none_taken base instr.End h = refl

abbrev known : Instr → Spelled
known i = record { code = Known i; targets = [] }

known_brings : (base : ℕ) (i : Instr) (bytes : List ℕ) → NoTargets i → Brings base (known i) bytes
known_brings base i bytes h = record { takes_up = none_taken base i h; few = omega arith }

float_brings : (base at : ℕ) (bytes : List ℕ) → Brings base (record { code = Float at; targets = [] }) bytes
float_brings base at bytes = record { takes_up = refl; few = omega arith }

-- ---- forms

abbrev Plain : Form → Type 0
Plain (bare i) = NoTargets i
Plain (indexed to) = (n : ℕ) → NoTargets (to n)
Plain (access to) = (align offset : ℕ) → NoTargets (to align offset)
Plain (typed to) = (t : Option ValType) → NoTargets (to t)
Plain (reserved i) = NoTargets i
Plain form = Unit {0}

items_few : (xs : List ℕ) (at : ℕ) (bytes : List ℕ) → items u32 xs at bytes → length xs ≤ length bytes
items_few [] at bytes s = omega arith
items_few (x ∷ xs) at bytes s =
    omega (arith, u32_takes x at s.0 s.2, items_few xs _ s.1 s.3, ap length s.4, length-append s.0 s.1)

vector_few : (xs : List ℕ) (at : ℕ) (bytes : List ℕ) → vector u32 xs at bytes → length xs ≤ length bytes
vector_few xs at bytes s = omega (arith, items_few xs _ s.1 s.3, ap length s.4, length-append s.0 s.1)

table_brings : (base : ℕ) (z : List ℕ × ℕ) (at : ℕ) (front rest bytes : List ℕ) → vector u32 z.0 at front → bytes ≡ front ++ rest → Brings base (br_table base z) bytes
table_brings base z at front rest bytes s parts =
    record { takes_up = (refl, refl); few = omega (arith, vector_few z.0 at front s, ap length parts, length-append front rest) }

block_brings : (base : ℕ) (to : Option ValType → Instr) (at b : ℕ) (bytes : List ℕ) → ((t : Option ValType) → NoTargets (to t)) → Brings base (block to at b) bytes
block_brings base to at b bytes h = cases (b == 0x40) (b == 0x7f) (b == 0x7e) where
  cases : (x y z : Bool) → Brings base (if x then known (to None) else (if y then known (to (Some I32)) else (if z then known (to (Some I64)) else record { code = Float at; targets = [] }))) bytes
  cases true y z = known_brings base (to None) bytes (h None)
  cases false true z = known_brings base (to (Some I32)) bytes (h (Some I32))
  cases false false true = known_brings base (to (Some I64)) bytes (h (Some I64))
  cases false false false = float_brings base at bytes

form_brings : (base at : ℕ) (form : Form) → Plain form → (x : Spelled) (here : ℕ) (bytes : List ℕ) → immediates base at form x here bytes → Brings base x bytes
form_brings base at (bare i) h x here bytes s = subst (λ (y : Spelled). Brings base y bytes) (sym s.0) (known_brings base i bytes h)
form_brings base at (indexed to) h x here bytes s = subst (λ (y : Spelled). Brings base y bytes) s.1 (known_brings base (to s.0) bytes (h s.0))
form_brings base at (access to) h x here bytes s = subst (λ (y : Spelled). Brings base y bytes) s.1 (known_brings base (to s.0.0 s.0.1) bytes (h s.0.0 s.0.1))
form_brings base at (typed to) h x here bytes s = subst (λ (y : Spelled). Brings base y bytes) s.1 (block_brings base to here s.0 bytes h)
form_brings base at labels h x here bytes s = subst (λ (y : Spelled). Brings base y bytes) s.1 (table_brings base s.0 here s.2.0 s.2.1 bytes s.2.2 s.2.4)
form_brings base at indirect h x here bytes s = subst (λ (y : Spelled). Brings base y bytes) s.1 (known_brings base (instr.Jump (jumps.CallIndirect s.0.0)) bytes tt)
form_brings base at (reserved i) h x here bytes s = subst (λ (y : Spelled). Brings base y bytes) s.1 (known_brings base i bytes h)
form_brings base at constant_i32 h x here bytes s = subst (λ (y : Spelled). Brings base y bytes) s.1 (known_brings base _ bytes tt)
form_brings base at constant_i64 h x here bytes s = subst (λ (y : Spelled). Brings base y bytes) s.1 (known_brings base _ bytes tt)
form_brings base at bulk h x here bytes s = subst (λ (y : Spelled). Brings base y bytes) s.1 (known_brings base _ bytes tt)
form_brings base at float_bare h x here bytes s = subst (λ (y : Spelled). Brings base y bytes) (sym s.0) (float_brings base at bytes)
form_brings base at float_access h x here bytes s = subst (λ (y : Spelled). Brings base y bytes) s.1 (float_brings base at bytes)
form_brings base at (float_constant width) h x here bytes s = subst (λ (y : Spelled). Brings base y bytes) s.1 (float_brings base at bytes)

-- ---- the table

abbrev PlainRows : Rows → Type 0
PlainRows [] = Unit {0}
PlainRows (row ∷ rows) = Plain row.1 × PlainRows rows

abbrev PlainOption : Option Form → Type 0
PlainOption None = Unit {0}
PlainOption (Some form) = Plain form

either_plain : (b : Bool) (form : Form) (other : Option Form) → Plain form → PlainOption other → PlainOption (if b then Some form else other)
either_plain true form other h k = h
either_plain false form other h k = k

found_plain : (opcode : ℕ) (rows : Rows) → PlainRows rows → PlainOption (lookup opcode rows)
found_plain opcode [] h = tt
found_plain opcode (row ∷ rows) h = either_plain (opcode == row.0) row.1 (lookup opcode rows) h.0 (found_plain opcode rows h.1)

-- Numeric instructions without immediates, and float ones, are plain.
abbrev is_numeric : Form → Bool
is_numeric (bare (instr.Basic i)) = true
is_numeric float_bare = true
is_numeric form = false

abbrev all_numeric : List Form → Bool
all_numeric [] = true
all_numeric (form ∷ forms) = is_numeric form && all_numeric forms

one_plain : (form : Form) → is_numeric form ≡ true → Plain form
one_plain (bare (instr.Basic i)) h = tt
one_plain float_bare h = tt
one_plain form h = absurd cc

rows_plain : (forms : List Form) (first : ℕ) → all_numeric forms ≡ true → PlainRows (rows_from first forms)
rows_plain [] first h = tt
rows_plain (form ∷ forms) first h =
    let t = and_parts (is_numeric form) (all_numeric forms) h in
    (one_plain form t.0, rows_plain forms (first + 1) t.1)

near_plain : (opcode : ℕ) → PlainRows (rows_near opcode)
unfolding numeric
near_plain opcode = cases (nat_le opcode 0x11) (nat_le opcode 0x1b) (nat_le opcode 0x24) (nat_le opcode 0x35) (nat_le opcode 0x3e) (nat_le opcode 0x44) (nat_le opcode 0xc4) where
  cases : (a b c d e f g : Bool) → PlainRows (if a then control else (if b then parametric else (if c then variable else (if d then load_rows else (if e then store_rows else (if f then sizes_and_constants else (if g then numeric else (0xfc, bulk) ∷ [])))))))
  cases true b c d e f g = (tt, (tt, (λ t. tt, (λ t. tt, (λ t. tt, (tt, (tt, (λ n. tt, (λ n. tt, (tt, (tt, (λ n. tt, (tt, tt)))))))))))))
  cases false true c d e f g = (tt, (tt, tt))
  cases false false true d e f g = (λ n. tt, (λ n. tt, (λ n. tt, (λ n. tt, (λ n. tt, tt)))))
  cases false false false true e f g = (λ a o. tt, (λ a o. tt, (tt, (tt, (λ a o. tt, (λ a o. tt, (λ a o. tt, (λ a o. tt, (λ a o. tt, (λ a o. tt, (λ a o. tt, (λ a o. tt, (λ a o. tt, (λ a o. tt, tt))))))))))))))
  cases false false false false true f g = (λ a o. tt, (λ a o. tt, (tt, (tt, (λ a o. tt, (λ a o. tt, (λ a o. tt, (λ a o. tt, (λ a o. tt, tt)))))))))
  cases false false false false false true g = (tt, (tt, (tt, (tt, (tt, (tt, tt))))))
  cases false false false false false false true = rows_plain numeric_forms 0x45 refl
  cases false false false false false false false = (tt, tt)

form_plain : (opcode : ℕ) → PlainOption (form_of opcode)
unfolding form_of
form_plain opcode = found_plain opcode (rows_near opcode) (near_plain opcode)

option_brings : (base at : ℕ) (form : Option Form) → PlainOption form → (x : Spelled) (here : ℕ) (bytes : List ℕ) → behind_opcode base at form x here bytes → Brings base x bytes
option_brings base at None h x here bytes s = absurd s
option_brings base at (Some form) h x here bytes s = form_brings base at form h x here bytes s

more_bytes : (base : ℕ) (x : Spelled) (front rest bytes : List ℕ) → bytes ≡ front ++ rest → Brings base x rest → Brings base x bytes
more_bytes base x front rest bytes parts b = record { takes_up = b.takes_up; few = omega (arith, b.few, ap length parts, length-append front rest) }

pub instruction_brings : (base : ℕ) (x : Spelled) (at : ℕ) (bytes : List ℕ) → instruction base x at bytes → Brings base x bytes
instruction_brings base x at bytes s =
    let t = s.1 in
    more_bytes base x t.0 t.1 bytes t.4 (option_brings base at (form_of s.0) (form_plain s.0) x _ t.1 t.3)
