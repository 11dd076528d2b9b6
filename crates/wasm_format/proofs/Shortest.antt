-- No spelling of an instruction is shorter than its encoding.
use Rattle.std.proofs.Common.{◌≡◌, ℕ, zero, suc, ◌+◌, ◌-◌, ◌*◌, ◌^◌, ◌<◌, ◌≤◌, Bool, true, false, List, [], ◌∷◌, ◌++◌, length, Option, Some, None, refl, sym, ap, subst, ◌∙◌, inl, inr, lit≤, lit<, arith, length-append}
use Rattle.std.specs.Prelude.{◌==◌, nat_le, if◌then◌else◌, map, ℤ}
use Rattle.std.specs.List.{flat_map, AllByRecursion}
use Rattle.std.specs.Int.{w32, w64, cast_signed, cast_unsigned}
use Rattle.std.proofs.lemmas.Int.{ints}
use Rattle.wasm_leb.specs.calls.Numbers.{IsUnsigned, IsSigned}
use Rattle.wasm_leb.specs.Reading.{IsWithin}
use Rattle.wasm_leb.specs.Writing.{unsigned_bytes, signed_bytes}
use Rattle.wasm_leb.proofs.Powers.{fits_above, half_seven_more}
use Rattle.wasm_leb.proofs.UnsignedBytes.{unsigned_shortest}
use Rattle.wasm_leb.proofs.SignedBytes.{signed_shortest}
use Rattle.int_ops.specs.declared.operators.Narrow32.TheVariants as narrow32
use Rattle.int_ops.specs.declared.operators.Narrow64.TheVariants as narrow64
use Rattle.wasm_syntax.specs.declared.value.ValType.{ValType}
use Rattle.wasm_syntax.specs.declared.value.ValType.TheVariants.{I32, I64}
use Rattle.wasm_syntax.specs.declared.value.Value.TheVariants as value
use Rattle.wasm_syntax.specs.declared.instruction.Convert.TheVariants.{Wrap, ExtendS, ExtendU}
use Rattle.wasm_syntax.specs.declared.instruction.Load.{Load as Loaded}
use Rattle.wasm_syntax.specs.declared.instruction.Store.{Store as Stored}
use Rattle.wasm_syntax.specs.declared.instruction.Basic.{Basic}
use Rattle.wasm_syntax.specs.declared.instruction.Basic.TheVariants as basics
use Rattle.wasm_syntax.specs.declared.instruction.Jump.TheVariants as jumps
use Rattle.wasm_syntax.specs.declared.instruction.Instr.{Instr}
use Rattle.wasm_syntax.specs.declared.instruction.Instr.TheVariants as instr
use Rattle.wasm_bytes.specs.calls.Spelling.{pair, u32, items, vector}
use Rattle.wasm_bytes.proofs.Takes.{u32_takes}
use Rattle.wasm_format.specs.declared.code.Code.{Code}
use Rattle.wasm_format.specs.declared.code.Code.TheVariants.{Known, Float}
use Rattle.wasm_format.specs.Spelled.{Spelled, alone, float}
use Rattle.wasm_format.specs.InstructionForm.{Form, bare, indexed, access, typed, labels, indirect, reserved, constant_i32, constant_i64, bulk, float_bare, float_access, float_constant, bulk_of, bulk_zeros}
use Rattle.wasm_format.specs.Table.{Rows, control, parametric, indexed_basic, variable, load, store, load_rows, store_rows, sizes_and_constants, comparisons, unaries, operations, basic, tests_of, operators_of, floats, numeric_forms, numeric, rows_near, form_of}
use Rattle.wasm_format.specs.calls.InstructionGrammar.{immediates, behind_opcode, instruction}
use Rattle.wasm_format.specs.Encoding.{two_numbers, basic_bytes, labels_bytes, encoding, targets_of, spelled_of}
use Rattle.wasm_leb.proofs.Tools.{chosen}
use Rattle.wasm_bytes.specs.Tables.{lookup, rows_from}

abbrev some : Form → Option Form
some form = Some form

abbrev known : Instr → Code
known i = Known i

abbrev float_code : ℕ → Code
float_code at = Float at

-- ---- numbers

pub unsigned_small : (bits : ℕ) (bytes : List ℕ) (n : ℕ) → IsUnsigned bits bytes n → n < 2 ^ bits
unsigned_small bits [] n s = absurd s
unsigned_small bits (b ∷ []) n s = rw s.2 s.1
unsigned_small bits (b ∷ c ∷ bs) n s =
    let high = unsigned_small (bits - 7) (c ∷ bs) s.3 s.5 in
    let value : n ≡ b - 128 + 128 * s.3 = omega (arith, s.0, s.4) in
    rw value (fits_above bits s.3 b s.2 high s.1 s.0)

pub number_least : (n : ℕ) (bytes : List ℕ) → IsUnsigned 32 bytes n → length (unsigned_bytes n) ≤ length bytes
number_least n bytes s = (unsigned_shortest 32 n (lit≤ tt) (unsigned_small 32 bytes n s)).least bytes s

pub signed_within : (bits : ℕ) (bytes : List ℕ) (z : ℤ) → 0 < bits → IsSigned bits bytes z → IsWithin bits z
signed_within bits [] z some s = absurd s
signed_within bits (b ∷ []) z some s = elim s [
  | inl p ↦ (omega (arith, ints, p.2), omega (arith, ints, p.1, p.2))
  | inr p ↦ (omega (arith, ints, p.1, p.2, p.3), omega (arith, ints, p.1, p.3))
]
signed_within bits (b ∷ c ∷ bs) z some s =
    let high = signed_within (bits - 7) (c ∷ bs) s.3 (omega (arith, s.2)) s.5 in
    let power = half_seven_more bits s.2 in
    (omega (arith, ints, power, s.0, s.1, s.4, high.0, high.1), omega (arith, ints, power, s.0, s.1, s.4, high.0, high.1))

pub signed_32_least : (z : ℤ) (bytes : List ℕ) → IsSigned 32 bytes z → length (signed_bytes z) ≤ length bytes
signed_32_least z bytes s = (signed_shortest 32 z (lit≤ tt) (signed_within 32 bytes z (lit< tt) s)).least bytes s

pub signed_64_least : (z : ℤ) (bytes : List ℕ) → IsSigned 64 bytes z → length (signed_bytes z) ≤ length bytes
signed_64_least z bytes s = (signed_shortest 64 z (lit≤ tt) (signed_within 64 bytes z (lit< tt) s)).least bytes s

-- ---- immediates

-- Whatever stands behind an opcode with immediates of this form is no shorter than in the encoding.
abbrev Short : Form → Type 0
Short form = (base at here : ℕ) (targets : List ℕ) (i : Instr) (bytes : List ℕ) → immediates base at form (spelled_of targets i) here bytes → length (encoding targets i) ≤ 1 + length bytes

code_is : (targets : List ℕ) (i j : Instr) → alone j ≡ spelled_of targets i → i ≡ j
code_is targets i j e = let same : known j ≡ known i = ap (λ (s : Spelled). s.code) e in cc

no_float : (at : ℕ) (targets : List ℕ) (i : Instr) → float at ≡ spelled_of targets i → ⊥
no_float at targets i e = let same : float_code at ≡ known i = ap (λ (s : Spelled). s.code) e in absurd cc

bare_short : (j : Instr) → ((targets : List ℕ) → length (encoding targets j) ≤ 1) → Short (bare j)
bare_short j h base at here targets i bytes s = let same = code_is targets i j (sym s.0) in rw same (omega (arith, h targets))

reserved_short : (j : Instr) → ((targets : List ℕ) → length (encoding targets j) ≤ 2) → Short (reserved j)
reserved_short j h base at here targets i bytes s = let same = code_is targets i j s.1 in rw same (omega (arith, h targets, ap length s.2))

indexed_short : (to : ℕ → Instr) → ((targets : List ℕ) (n : ℕ) → length (encoding targets (to n)) ≤ 1 + length (unsigned_bytes n)) → Short (indexed to)
indexed_short to h base at here targets i bytes s = let same = code_is targets i (to s.0) s.1 in rw same (omega (arith, h targets s.0, number_least s.0 bytes s.2))

two_least : (m n here : ℕ) (bytes : List ℕ) → pair u32 u32 (m, n) here bytes → length (two_numbers m n) ≤ length bytes
two_least m n here bytes s = omega (arith, length-append (unsigned_bytes m) (unsigned_bytes n), number_least m s.0 s.2, number_least n s.1 s.3, ap length s.4, length-append s.0 s.1)

access_short : (to : ℕ → ℕ → Instr) → ((targets : List ℕ) (m n : ℕ) → length (encoding targets (to m n)) ≤ 1 + length (two_numbers m n)) → Short (access to)
access_short to h base at here targets i bytes s = let same = code_is targets i (to s.0.0 s.0.1) s.1 in rw same (omega (arith, h targets s.0.0 s.0.1, two_least s.0.0 s.0.1 here bytes s.2))

opened : (to : Option ValType → Instr) (p q r : Bool) (at : ℕ) (targets : List ℕ) (i : Instr) → (if p then alone (to None) else (if q then alone (to (Some I32)) else (if r then alone (to (Some I64)) else float at))) ≡ spelled_of targets i → (t : Option ValType) × (i ≡ to t)
opened to true q r at targets i e = (None, code_is targets i (to None) e)
opened to false true r at targets i e = (Some I32, code_is targets i (to (Some I32)) e)
opened to false false true at targets i e = (Some I64, code_is targets i (to (Some I64)) e)
opened to false false false at targets i e = absurd (no_float at targets i e)

typed_short : (to : Option ValType → Instr) → ((targets : List ℕ) (t : Option ValType) → length (encoding targets (to t)) ≤ 2) → Short (typed to)
typed_short to h base at here targets i bytes s =
    let t = opened to (s.0 == 0x40) (s.0 == 0x7f) (s.0 == 0x7e) here targets i s.1 in
    rw t.1 (omega (arith, h targets t.0, ap length s.2.1))

numbers_least : (xs : List ℕ) (here : ℕ) (bytes : List ℕ) → items u32 xs here bytes → length (flat_map unsigned_bytes xs) ≤ length bytes
numbers_least [] here bytes s = omega arith
numbers_least (x ∷ xs) here bytes s =
    omega (arith, length-append (unsigned_bytes x) (flat_map unsigned_bytes xs), number_least x s.0 s.2, numbers_least xs (here + length s.0) s.1 s.3, ap length s.4, length-append s.0 s.1)

pub labels_length : (count default : ℕ) (xs : List ℕ) → length (labels_bytes count xs default) ≡ 1 + (length (unsigned_bytes count) + (length (flat_map unsigned_bytes xs) + length (unsigned_bytes default)))
labels_length count default xs =
    omega (arith, length-append (unsigned_bytes count ++ flat_map unsigned_bytes xs) (unsigned_bytes default), length-append (unsigned_bytes count) (flat_map unsigned_bytes xs))

labels_least : (count default here : ℕ) (xs bytes : List ℕ) → pair (vector u32) u32 (xs, default) here bytes → length xs ≡ count → length (labels_bytes count xs default) ≤ 1 + length bytes
labels_least count default here xs bytes s counted =
    let v = s.2 in
    let counts : u32 count here v.0 = subst (λ (n : ℕ). u32 n here v.0) counted v.2 in
    omega (arith, labels_length count default xs, number_least count v.0 counts, numbers_least xs (here + length v.0) v.1 v.3, number_least default s.1 s.3, ap length v.4, ap length s.4, length-append v.0 v.1, length-append s.0 s.1)

labels_short : Short labels
unfolding encoding
labels_short base at here targets i bytes s =
    let xs = s.0.0 in
    let jump = instr.Jump (jumps.BrTable base (length xs) s.0.1) in
    let same : i ≡ jump = let e : known jump ≡ known i = ap (λ (y : Spelled). y.code) s.1 in cc in
    let its : xs ≡ targets_of targets jump = ap (λ (y : Spelled). y.targets) s.1 ∙ ap (targets_of targets) same in
    rw (same, ← its) (labels_least (length xs) s.0.1 here xs bytes s.2 refl)

indirect_short : Short indirect
unfolding encoding
indirect_short base at here targets i bytes s =
    let t = s.0.0 in
    let same = code_is targets i (instr.Jump (jumps.CallIndirect t)) s.1 in
    let b = s.2 in
    rw same (omega (arith, length-append (unsigned_bytes t) (0x00 ∷ []), number_least t b.0 b.2, u32_takes s.0.1 (here + length b.0) b.1 b.3.1, ap length b.4, length-append b.0 b.1))

constant_i32_short : Short constant_i32
unfolding encoding
constant_i32_short base at here targets i bytes s =
    let z = s.0 in
    let same = code_is targets i (instr.Basic (basics.Const (value.I32 (cast_unsigned w32 z)))) s.1 in
    let fits = signed_within 32 bytes z (lit< tt) s.2 in
    let again : cast_signed w32 (cast_unsigned w32 z) ≡ z = omega (arith, ints, fits.0, fits.1) in
    rw (same, again) (omega (arith, signed_32_least z bytes s.2))

constant_i64_short : Short constant_i64
unfolding encoding
constant_i64_short base at here targets i bytes s =
    let z = s.0 in
    let same = code_is targets i (instr.Basic (basics.Const (value.I64 (cast_unsigned w64 z)))) s.1 in
    let fits = signed_within 64 bytes z (lit< tt) s.2 in
    let again : cast_signed w64 (cast_unsigned w64 z) ≡ z = omega (arith, ints, fits.0, fits.1) in
    rw (same, again) (omega (arith, signed_64_least z bytes s.2))

bulk_length : (copies : Bool) → length (basic_bytes (if copies then basics.MemoryCopy else basics.MemoryFill)) ≤ 2 + length {A = ℕ} (if copies then 0x00 ∷ 0x00 ∷ [] else 0x00 ∷ [])
bulk_length true = lit≤ tt
bulk_length false = lit≤ tt

bulk_short : Short bulk
unfolding encoding
bulk_short base at here targets i bytes s =
    let n = s.0 in
    let same = code_is targets i (instr.Basic (bulk_of n)) s.1 in
    let m = s.2.0 in
    let b = s.2.1 in
    let zeros : b.1 ≡ bulk_zeros n = b.3.2 ∙ ap bulk_zeros b.3.1 in
    rw same (omega (arith, bulk_length (n == 10), u32_takes m here b.0 b.2.1, ap length zeros, ap length b.4, length-append b.0 b.1))

float_bare_short : Short float_bare
float_bare_short base at here targets i bytes s = absurd (no_float at targets i (sym s.0))

float_access_short : Short float_access
float_access_short base at here targets i bytes s = absurd (no_float at targets i s.1)

float_constant_short : (width : ℕ) → Short (float_constant width)
float_constant_short width base at here targets i bytes s = absurd (no_float at targets i s.1)

-- ---- the rows of the table

abbrev AllShort : List Form → Type 0
AllShort = AllByRecursion Short

abbrev RowsShort : Rows → Type 0
RowsShort = AllByRecursion (λ (row : ℕ × Form). Short row.1)

short_append : (xs ys : List Form) → AllShort xs → AllShort ys → AllShort (xs ++ ys)
short_append [] ys h k = k
short_append (x ∷ xs) ys h k = (h.0, short_append xs ys h.1 k)

short_map : {A : Type 0} (f : A → Form) → ((x : A) → Short (f x)) → (xs : List A) → AllShort (map f xs)
short_map f h [] = tt
short_map f h (x ∷ xs) = (h x, short_map f h xs)

short_floats : (n : ℕ) → AllShort (floats n)
short_floats zero = tt
short_floats (suc n) = (float_bare_short, short_floats n)

short_rows : (forms : List Form) (first : ℕ) → AllShort forms → RowsShort (rows_from first forms)
short_rows [] first h = tt
short_rows (form ∷ forms) first h = (h.0, short_rows forms (first + 1) h.1)

basic_short : (i : Basic) → ((targets : List ℕ) → length (encoding targets (instr.Basic i)) ≤ 1) → Short (bare (instr.Basic i))
basic_short i h = bare_short (instr.Basic i) h

control_short : RowsShort control
unfolding encoding
control_short = (
  bare_short (instr.Jump jumps.Unreachable) (λ targets. lit≤ tt),
  (
    bare_short (instr.Basic basics.Nop) (λ targets. lit≤ tt),
    (
      typed_short instr.Block (λ targets t. lit≤ tt),
      (
        typed_short instr.Loop (λ targets t. lit≤ tt),
        (
          typed_short instr.If (λ targets t. lit≤ tt),
          (
            bare_short instr.Else (λ targets. lit≤ tt),
            (
              bare_short instr.End (λ targets. lit≤ tt),
              (
                indexed_short (λ l. instr.Jump (jumps.Br l)) (λ targets n. omega arith),
                (
                  indexed_short (λ l. instr.Jump (jumps.BrIf l)) (λ targets n. omega arith),
                  (
                    labels_short,
                    (
                      bare_short (instr.Jump jumps.Return) (λ targets. lit≤ tt),
                      (
                        indexed_short (λ f. instr.Jump (jumps.Call f)) (λ targets n. omega arith),
                        (indirect_short, tt),
                      ),
                    ),
                  ),
                ),
              ),
            ),
          ),
        ),
      ),
    ),
  ),
)

parametric_short : RowsShort parametric
unfolding encoding
parametric_short = (basic_short basics.Drop (λ targets. lit≤ tt), (basic_short basics.Select (λ targets. lit≤ tt), tt))

index_short : (to : ℕ → Basic) → ((n : ℕ) → length (basic_bytes (to n)) ≤ 1 + length (unsigned_bytes n)) → Short (indexed_basic to)
unfolding encoding
index_short to h = indexed_short (λ n. instr.Basic (to n)) (λ targets n. h n)

variable_short : RowsShort variable
variable_short = (
  index_short basics.LocalGet (λ n. omega arith),
  (
    index_short basics.LocalSet (λ n. omega arith),
    (
      index_short basics.LocalTee (λ n. omega arith),
      (
        index_short basics.GlobalGet (λ n. omega arith),
        (index_short basics.GlobalSet (λ n. omega arith), tt),
      ),
    ),
  ),
)

load_short : (l : Loaded) → Short (load l)
unfolding encoding
load_short l = access_short (λ m n. instr.Basic (basics.Load l m n)) (λ targets m n. omega arith)

store_short : (s : Stored) → Short (store s)
unfolding encoding
store_short s = access_short (λ m n. instr.Basic (basics.Store s m n)) (λ targets m n. omega arith)

loads_short : RowsShort load_rows
loads_short = (
  load_short _,
  (
    load_short _,
    (
      float_access_short,
      (
        float_access_short,
        (
          load_short _,
          (
            load_short _,
            (
              load_short _,
              (
                load_short _,
                (load_short _, (load_short _, (load_short _, (load_short _, (load_short _, (load_short _, tt)))))),
              ),
            ),
          ),
        ),
      ),
    ),
  ),
)

stores_short : RowsShort store_rows
stores_short = (
  store_short _,
  (
    store_short _,
    (
      float_access_short,
      (
        float_access_short,
        (store_short _, (store_short _, (store_short _, (store_short _, (store_short _, tt))))),
      ),
    ),
  ),
)

constants_short : RowsShort sizes_and_constants
unfolding encoding
constants_short = (
  reserved_short (instr.Basic basics.MemorySize) (λ targets. lit≤ tt),
  (
    reserved_short (instr.Basic basics.MemoryGrow) (λ targets. lit≤ tt),
    (constant_i32_short, (constant_i64_short, (float_constant_short 4, (float_constant_short 8, tt)))),
  ),
)

tests_short : (t : ValType) → AllShort (tests_of t)
unfolding encoding
tests_short t = (basic_short (basics.Eqz t) (λ targets. lit≤ tt), short_map (λ op. basic (basics.Compare t op)) (λ op. basic_short (basics.Compare t op) (λ targets. lit≤ tt)) comparisons)

operators_short : (t : ValType) → AllShort (operators_of t)
unfolding encoding
operators_short t =
    short_append (map (λ op. basic (basics.Unary t op)) unaries) (map (λ op. basic (basics.Binary t op)) operations)
    (short_map (λ op. basic (basics.Unary t op)) (λ op. basic_short (basics.Unary t op) (λ targets. lit≤ tt)) unaries)
    (short_map (λ op. basic (basics.Binary t op)) (λ op. basic_short (basics.Binary t op) (λ targets. lit≤ tt)) operations)

-- the last ones of the table of numeric instructions
unfoldable pub last_forms : List Form
last_forms =
    basic (basics.Extend32 narrow32.Eight) ∷ basic (basics.Extend32 narrow32.Sixteen)
    ∷ basic (basics.Extend64 narrow64.Eight) ∷ basic (basics.Extend64 narrow64.Sixteen) ∷ basic (basics.Extend64 narrow64.ThirtyTwo) ∷ []

last_short : AllShort last_forms
unfolding last_forms encoding
last_short = (
  basic_short (basics.Extend32 narrow32.Eight) (λ targets. lit≤ tt),
  (
    basic_short (basics.Extend32 narrow32.Sixteen) (λ targets. lit≤ tt),
    (
      basic_short (basics.Extend64 narrow64.Eight) (λ targets. lit≤ tt),
      (
        basic_short (basics.Extend64 narrow64.Sixteen) (λ targets. lit≤ tt),
        (basic_short (basics.Extend64 narrow64.ThirtyTwo) (λ targets. lit≤ tt), tt),
      ),
    ),
  ),
)

numeric_short : RowsShort numeric
unfolding numeric encoding last_forms
numeric_short =
    let tests = tests_of I32 ++ tests_of I64 in
    let float_tests = tests ++ floats 12 in
    let operators_32 = float_tests ++ operators_of I32 in
    let operators_64 = operators_32 ++ operators_of I64 in
    let float_operators = operators_64 ++ floats 28 in
    let wrap = basic (basics.Convert Wrap) ∷ floats 4 in
    let extend = basic (basics.Convert ExtendS) ∷ basic (basics.Convert ExtendU) ∷ floats 18 in
    let a = short_append (tests_of I32) (tests_of I64) (tests_short I32) (tests_short I64) in
    let b = short_append tests (floats 12) a (short_floats 12) in
    let c = short_append float_tests (operators_of I32) b (operators_short I32) in
    let d = short_append operators_32 (operators_of I64) c (operators_short I64) in
    let e = short_append operators_64 (floats 28) d (short_floats 28) in
    let f = short_append float_operators wrap e (basic_short (basics.Convert Wrap) (λ targets. lit≤ tt), short_floats 4) in
    let g = short_append (float_operators ++ wrap) extend f (basic_short (basics.Convert ExtendS) (λ targets. lit≤ tt), (basic_short (basics.Convert ExtendU) (λ targets. lit≤ tt), short_floats 18)) in
    short_rows numeric_forms 0x45 (short_append ((float_operators ++ wrap) ++ extend) last_forms g last_short)

short_if : (b : Bool) (xs ys : Rows) → RowsShort xs → RowsShort ys → RowsShort (if b then xs else ys)
short_if true xs ys h k = h
short_if false xs ys h k = k

near_short : (opcode : ℕ) → RowsShort (rows_near opcode)
near_short opcode =
    short_if (nat_le opcode 0x11) control _ control_short
    (short_if (nat_le opcode 0x1b) parametric _ parametric_short
    (short_if (nat_le opcode 0x24) variable _ variable_short
    (short_if (nat_le opcode 0x35) load_rows _ loads_short
    (short_if (nat_le opcode 0x3e) store_rows _ stores_short
    (short_if (nat_le opcode 0x44) sizes_and_constants _ constants_short
    (short_if (nat_le opcode 0xc4) numeric ((0xfc, bulk) ∷ []) numeric_short (bulk_short, tt)))))))

lookup_short : (opcode : ℕ) (rows : Rows) (form : Form) → RowsShort rows → lookup opcode rows ≡ some form → Short form
lookup_short opcode [] form h e = absurd cc
lookup_short opcode (row ∷ rows) form h e = elim (chosen (opcode == row.0) _ _ (some form) e) [
  | inl p ↦ let same : row.1 ≡ form = cc in subst Short same h.0
  | inr p ↦ lookup_short opcode rows form h.1 p.1
]

behind_least : (base at here opcode : ℕ) (targets : List ℕ) (i : Instr) (bytes : List ℕ) (form : Option Form) → form_of opcode ≡ form → behind_opcode base at form (spelled_of targets i) here bytes → length (encoding targets i) ≤ 1 + length bytes
unfolding form_of
behind_least base at here opcode targets i bytes None row s = absurd s
behind_least base at here opcode targets i bytes (Some form) row s = lookup_short opcode (rows_near opcode) form (near_short opcode) row base at here targets i bytes s

-- No spelling is shorter.
pub encoding_least : (targets : List ℕ) (base at : ℕ) (i : Instr) (bytes : List ℕ) → instruction base (spelled_of targets i) at bytes → length (encoding targets i) ≤ length bytes
encoding_least targets base at i bytes s =
    let opcode = s.0 in
    let b = s.1 in
    let behind = behind_least base at (at + length b.0) opcode targets i b.1 (form_of opcode) refl b.3 in
    omega (arith, behind, ap length b.2, ap length b.4, length-append b.0 b.1)

-- an encoding has a byte
pub some_bytes : (i : Basic) → 1 ≤ length (basic_bytes i)
some_bytes basics.Nop = omega arith
some_bytes basics.Drop = omega arith
some_bytes basics.Select = omega arith
some_bytes (basics.LocalGet x) = omega arith
some_bytes (basics.LocalSet x) = omega arith
some_bytes (basics.LocalTee x) = omega arith
some_bytes (basics.GlobalGet x) = omega arith
some_bytes (basics.GlobalSet x) = omega arith
some_bytes (basics.Load l al of) = omega arith
some_bytes (basics.Store l al of) = omega arith
some_bytes basics.MemorySize = omega arith
some_bytes basics.MemoryGrow = omega arith
some_bytes basics.MemoryCopy = omega arith
some_bytes basics.MemoryFill = omega arith
some_bytes (basics.Const (value.I32 n)) = omega arith
some_bytes (basics.Const (value.I64 n)) = omega arith
some_bytes (basics.Eqz t) = omega arith
some_bytes (basics.Unary t o) = omega arith
some_bytes (basics.Compare t o) = omega arith
some_bytes (basics.Binary t o) = omega arith
some_bytes (basics.Convert c) = omega arith
some_bytes (basics.Extend32 narrow32.Eight) = omega arith
some_bytes (basics.Extend32 narrow32.Sixteen) = omega arith
some_bytes (basics.Extend64 narrow64.Eight) = omega arith
some_bytes (basics.Extend64 narrow64.Sixteen) = omega arith
some_bytes (basics.Extend64 narrow64.ThirtyTwo) = omega arith
