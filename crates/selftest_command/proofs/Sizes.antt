-- The module of a self-test is within the limits of the decoder, and its encoding is short.
use Rattle.std.proofs.Common.{◌≡◌, ℕ, zero, suc, ◌+◌, ◌*◌, ◌/◌, ◌%◌, ◌≤◌, Bool, true, false, nat_lt, List, [], ◌∷◌, ◌++◌, length, map, replicate, slice_get, if◌then◌else◌, Option, Some, None, refl, sym, ap, subst, ◌∙◌, arith, length-append, max}
use Rattle.std.specs.Prelude.{codes, sum}
use Rattle.std.specs.List.{flat_map, range_with_len, AllByRecursion}
use Rattle.std.specs.Int.{w32, cast_signed}
use Rattle.std.proofs.lemmas.List.{length-replicate}
use Rattle.int_ops.specs.declared.operators.Binary.{Binary as Operation}
use Rattle.int_ops.specs.declared.operators.Binary.TheVariants as ops
use Rattle.wasm_leb.specs.Writing.{unsigned_bytes}
use Rattle.wasm_syntax.specs.declared.value.ValType.TheVariants.{I32}
use Rattle.wasm_syntax.specs.declared.instruction.Store.TheVariants as stores
use Rattle.wasm_syntax.specs.declared.instruction.Basic.TheVariants as basics
use Rattle.wasm_syntax.specs.declared.instruction.Jump.TheVariants as jumps
use Rattle.wasm_syntax.specs.declared.instruction.Instr.{Instr}
use Rattle.wasm_syntax.specs.declared.instruction.Instr.TheVariants as instr
use Rattle.wasm_syntax.specs.declared.instruction.Op.{Op}
use Rattle.wasm_syntax.specs.declared.parts.ExportKind.TheVariants as kinds
use Rattle.wasm_syntax.specs.declared.parts.Body.{Body}
use Rattle.wasm_syntax.specs.Module.{type_at, option_then}
use Rattle.wasm_syntax.specs.Sizes.{parameter_count, depth_behind, deepest, nesting, ShortBody, WithinLimits}
use Rattle.wasm_format.specs.Encoding.{encoding as instruction_bytes}
use Rattle.wasm_encode.specs.Encoding.{vector_bytes, function_type_bytes, value_type_bytes, limits_bytes, kind_byte, export_bytes, expression_bytes, function_bytes, entry_bytes, encoding}
use Rattle.wasm_laws.proofs.Lists.{at_of, all_append}
use Rattle.wasm_format_laws.proofs.Totals.{total, total_times, flat_total, vector_total}
use Rattle.rewrite_promise.proofs.Sections.{contents_most}
use Rattle.selftest_command.specs.Selftest.{number, constant, local_get, add, mix, odd, mixed, beginning, mixing, ending, function_code, ops_from, body_of, bodies, selftest}
use Rattle.selftest_command.proofs.Whole.{length_bodies}
use Rattle.wasm_leb.proofs.Lengths.{ten_bytes, ten_signed}
use Rattle.rewrite_modules.proofs.EncodedLengths.{entry_total, contents}

-- ---- lists

total_each : {A : Type 0} (f : A → ℕ) (n : ℕ) (xs : List A) → AllByRecursion (λ x. f x ≤ n) xs → total f xs ≤ length xs * n
total_each f n [] h = omega arith
total_each f n (x ∷ xs) h = omega (arith, h.0, total_each f n xs h.1)

all_flat : {A B : Type 0} (P : B → Type 0) (f : A → List B) (xs : List A) → ((x : A) → AllByRecursion P (f x)) → AllByRecursion P (flat_map f xs)
all_flat P f [] h = tt
all_flat P f (x ∷ xs) h = all_append P (f x) (flat_map f xs) (h x) (all_flat P f xs h)

-- ---- instructions

-- straight code: it opens and leaves no block, and takes few bytes
pub record IsPlain (i : Instr) : Type 0 where
  pub depth : depth_behind 0 i ≡ 0
  pub short : length (instruction_bytes [] i) ≤ 21

plain_constant : (v : ℕ) → IsPlain (constant v)
unfolding instruction_bytes
plain_constant v = record { depth = refl; short = omega (arith, ten_signed (cast_signed w32 v)) }

plain_get : (x : ℕ) → IsPlain (local_get x)
unfolding instruction_bytes
plain_get x = record { depth = refl; short = omega (arith, ten_bytes x) }

plain_binary : (op : Operation) → IsPlain (instr.Basic (basics.Binary I32 op))
unfolding instruction_bytes
plain_binary op = record { depth = refl; short = omega arith }

plain_store : IsPlain (instr.Basic (basics.Store (stores.Full I32) 2 0))
unfolding instruction_bytes
plain_store = record { depth = refl; short = omega (arith, ten_bytes 2, ten_bytes 0, length-append (unsigned_bytes 2) (unsigned_bytes 0)) }

plain_call : (f : ℕ) → IsPlain (instr.Jump (jumps.Call f))
unfolding instruction_bytes
plain_call f = record { depth = refl; short = omega (arith, ten_bytes f) }

plain_end : IsPlain instr.End
unfolding instruction_bytes
plain_end = record { depth = refl; short = omega arith }

plain_mix : (k : ℕ) → IsPlain (mix k)
plain_mix zero = plain_binary ops.Add
plain_mix (suc zero) = plain_binary ops.Xor
plain_mix (suc (suc zero)) = plain_binary ops.Mul
plain_mix (suc (suc (suc k))) = plain_binary ops.Sub

plain_ending : (n i : ℕ) → AllByRecursion IsPlain (ending n i) × (length (ending n i) ≡ 3)
plain_ending n i = by_test (nat_lt (i + 1) n)
  where
    last : List Instr
    last = constant 0 ∷ instr.Basic (basics.Binary I32 ops.DivU) ∷ add ∷ []

    calls : List Instr
    calls = local_get 1 ∷ instr.Jump (jumps.Call (i + 1)) ∷ add ∷ []

    by_test : (q : Bool) → AllByRecursion IsPlain (if q then calls else last) × (length (if q then calls else last) ≡ 3)
    by_test true = ((plain_get 1, (plain_call (i + 1), (plain_binary ops.Add, tt))), refl)
    by_test false = ((plain_constant 0, (plain_binary ops.DivU, (plain_binary ops.Add, tt))), refl)

plain_code : (n i : ℕ) → AllByRecursion IsPlain (function_code n i)
unfolding function_code
plain_code n i =
    all_append IsPlain (beginning i ++ mixing n (16 * i + 1) ++ ending n i) (instr.End ∷ [])
    (all_append IsPlain (beginning i ++ mixing n (16 * i + 1)) (ending n i)
    (all_append IsPlain (beginning i) (mixing n (16 * i + 1))
    (plain_constant (4 * i), (plain_get 0, (plain_store, (plain_get 1, (plain_get 0, tt)))))
    (all_flat IsPlain (λ k. mixed (number n k)) (range_with_len (16 * i + 1) 16) (λ k. (plain_constant (odd (number n k)), (plain_mix (number n k / 65536 % 4), tt)))))
    (plain_ending n i).0)
    (plain_end, tt)

length_mixing : (n from : ℕ) → length (mixing n from) ≡ 32
length_mixing n from = refl

pub length_code : (n i : ℕ) → length (function_code n i) ≡ 41
unfolding function_code
length_code n i =
    omega (
      arith,
      length-append (beginning i ++ mixing n (16 * i + 1) ++ ending n i) (instr.End ∷ []),
      length-append (beginning i ++ mixing n (16 * i + 1)) (ending n i),
      length-append (beginning i) (mixing n (16 * i + 1)),
      length_mixing n (16 * i + 1),
      (plain_ending n i).1,
    )

-- ---- bodies

length_ops : (at : ℕ) (is : List Instr) → length (ops_from at is) ≡ length is
length_ops at [] = refl
length_ops at (i ∷ is) = ap suc (length_ops (suc at) is)

plain_ops : (at : ℕ) (is : List Instr) → AllByRecursion IsPlain is → AllByRecursion (λ o. length (instruction_bytes [] o.code) ≤ 21) (ops_from at is)
plain_ops at [] h = tt
plain_ops at (i ∷ is) h = (h.0.short, plain_ops (suc at) is h.1)

plain_depth : (at : ℕ) (is : List Instr) → AllByRecursion IsPlain is → deepest 0 (map (λ o. o.code) (ops_from at is)) ≡ 0
plain_depth at [] h = refl
plain_depth at (i ∷ is) h = ap (λ d. max 0 (deepest d (map (λ o. o.code) (ops_from (suc at) is)))) h.0.depth ∙ ap (max 0) (plain_depth (suc at) is h.1)

-- what is known of each body
pub record IsSmall (b : Body) : Type 0 where
  pub groups : b.groups ≡ []
  pub short : ShortBody b
  pub nested : nesting b ≤ 1024
  pub entry : length (entry_bytes b) ≤ 1000

small_body : (n i : ℕ) → IsSmall (body_of (function_code n i))
unfolding expression_bytes
small_body n i =
    let code = function_code n i in
    let body = body_of code in
    let many = length_ops 0 code ∙ length_code n i in
    let bytes = total_each (λ (o : Op). length (instruction_bytes [] o.code)) 21 body.ops (plain_ops 0 code (plain_code n i)) in
    record {
      groups = refl;
      short = record { groups = omega arith; ops = omega (arith, many); targets = omega arith };
      nested = omega (arith, plain_depth 0 code (plain_code n i));
      entry = omega (arith, many, bytes, entry_total body, ten_bytes (length (function_bytes body)), ten_bytes 0, flat_total (λ (o : Op). instruction_bytes [] o.code) body.ops);
    }

small_bodies : (n : ℕ) (is : List ℕ) → AllByRecursion IsSmall (map (λ i. body_of (function_code n i)) is)
small_bodies n [] = tt
small_bodies n (i ∷ is) = (small_body n i, small_bodies n is)

all_bodies : (P : Body → Type 0) → ((b : Body) → IsSmall b → P b) → (bs : List Body) → AllByRecursion IsSmall bs → AllByRecursion P bs
all_bodies P go [] h = tt
all_bodies P go (b ∷ bs) h = (go b h.0, all_bodies P go bs h.1)

-- ---- the module

few_parameters : (n f : ℕ) → parameter_count (type_at (selftest n) f) ≤ 2
unfolding selftest
few_parameters n f = by_entry (slice_get {X = ℕ} (replicate n 0) f)
  where
    by_entry : (o : Option ℕ) → parameter_count (option_then o (λ (t : ℕ). slice_get (record { params = I32 ∷ I32 ∷ []; results = I32 ∷ [] } ∷ []) t)) ≤ 2
    by_entry None = omega arith
    by_entry (Some zero) = omega arith
    by_entry (Some (suc t)) = omega arith

pub within : (n : ℕ) → n ≤ 900 → WithinLimits (selftest n)
unfolding selftest
within n most =
    let all = small_bodies n (range_with_len 0 n) in
    record {
      short = record {
        types = omega arith;
        each_type = (record { params = omega arith; results = omega arith }, tt);
        functions = omega (arith, most, length-replicate {A = ℕ} n 0);
        import_modules = tt;
        import_names = tt;
        tables = omega arith;
        memories = omega arith;
        globals = omega arith;
        each_global = tt;
        exports = omega arith;
        export_names = (omega arith, tt);
        elements = omega arith;
        each_element = tt;
        segments = omega arith;
        each_segment = tt;
        bodies = omega (arith, most, length_bodies n);
        each_body = all_bodies ShortBody (λ b k. k.short) (bodies n n) all;
        customs = omega arith;
        custom_names = tt;
      };
      locals = λ i b is.
          let k = at_of IsSmall (bodies n n) i b all is in
          subst (λ gs. parameter_count (type_at (selftest n) (0 + i)) + sum (map (λ g. g.count) gs) ≤ 16384) (sym k.groups) (omega (arith, few_parameters n (0 + i)));
      nested = all_bodies (λ b. nesting b ≤ 1024) (λ b k. k.nested) (bodies n n) all;
      tables = tt;
      memories = (omega arith, tt);
    }

type_short : length (function_type_bytes (record { params = I32 ∷ I32 ∷ []; results = I32 ∷ [] })) ≤ 100
unfolding function_type_bytes value_type_bytes
type_short =
    omega (
      arith,
      length-append (vector_bytes value_type_bytes (I32 ∷ I32 ∷ [])) (vector_bytes value_type_bytes (I32 ∷ [])),
      vector_total value_type_bytes (I32 ∷ I32 ∷ []),
      vector_total value_type_bytes (I32 ∷ []),
      ten_bytes 2,
      ten_bytes 1,
    )

memory_short : length (limits_bytes (record { min = 1; max = None })) ≤ 100
unfolding limits_bytes
memory_short = omega (arith, ten_bytes 1)

export_short : length (export_bytes (record { name = codes "main"; kind = kinds.Function; index = 0 })) ≤ 100
unfolding export_bytes kind_byte
export_short =
    let name : List ℕ = unsigned_bytes 4 ++ codes "main" in
    let is : export_bytes (record { name = codes "main"; kind = kinds.Function; index = 0 }) ≡ name ++ (0x00 ∷ unsigned_bytes 0) = refl in
    omega (arith, ap length is, length-append name (0x00 ∷ unsigned_bytes 0), length-append (unsigned_bytes 4) (codes "main"), ten_bytes 4, ten_bytes 0)

few_contents : (n : ℕ) → n ≤ 900 → contents (selftest n) ≤ 1000000
unfolding selftest
few_contents n most =
    omega (
      arith,
      most,
      type_short,
      memory_short,
      export_short,
      total_times (λ (k : ℕ). length (unsigned_bytes k)) 10 (replicate n 0) ten_bytes,
      length-replicate {A = ℕ} n 0,
      total_each (λ (b : Body). length (entry_bytes b)) 1000 (bodies n n) (all_bodies (λ b. length (entry_bytes b) ≤ 1000) (λ b k. k.entry) (bodies n n) (small_bodies n (range_with_len 0 n))),
      length_bodies n,
    )

pub few_bytes : (n : ℕ) → n ≤ 900 → length (encoding (selftest n)) ≤ 1001000
few_bytes n most = omega (arith, contents_most (selftest n), few_contents n most)
