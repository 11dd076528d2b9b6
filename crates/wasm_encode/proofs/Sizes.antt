-- The pieces of an encoding are no longer than it.
use Rattle.std.proofs.Common.{◌≡◌, ℕ, suc, ◌<◌, ◌^◌, List, [], ◌∷◌, ◌++◌, length, map, sum, arith, length-append, Some, refl}
use Rattle.std.specs.List.{flat_map, slice_get, AllByRecursion}
use Rattle.wasm_leb.specs.Writing.{unsigned_bytes}
use Rattle.wasm_syntax.specs.declared.parts.Body.{Body}
use Rattle.wasm_syntax.specs.declared.module.ModuleParts.{ModuleParts}
use Rattle.wasm_syntax.specs.Module.{AllWrite, InOrder}
use Rattle.wasm_syntax.specs.Sizes.{ShortBody, WithinLimits}
use Rattle.wasm_syntax.specs.Tree.{Tree}
use Rattle.wasm_encode.specs.Encoding.{vector_bytes, vector_section, start_section, function_type_bytes, import_bytes, table_bytes, limits_bytes, global_bytes, export_bytes, element_bytes, function_bytes, entry_bytes, segment_bytes, declarations, front_sections, encoding}
use Rattle.wasm_encode.specs.calls.Fits.{FitsBody}
use Rattle.wasm_encode.proofs.SpelledEntries.{CanEnter}
use Rattle.wasm_bytes.specs.Tables.{header}

halves : (n : ℕ) (a b : List ℕ) → length (a ++ b) < n → (length a < n) × (length b < n)
halves n a b h = (omega (arith, h, length-append a b), omega (arith, h, length-append a b))

-- Each section is shorter than 2 ^ 32 bytes.
pub record SmallSections (m : ModuleParts) : Type 0 where
  pub types : length (vector_section 1 function_type_bytes m.types) < 2 ^ 32
  pub imports : length (vector_section 2 import_bytes m.imports) < 2 ^ 32
  pub functions : length (vector_section 3 unsigned_bytes m.functions) < 2 ^ 32
  pub tables : length (vector_section 4 table_bytes m.tables) < 2 ^ 32
  pub memories : length (vector_section 5 limits_bytes m.memories) < 2 ^ 32
  pub globals : length (vector_section 6 global_bytes m.globals) < 2 ^ 32
  pub exports : length (vector_section 7 export_bytes m.exports) < 2 ^ 32
  pub start : length (start_section m.start) < 2 ^ 32
  pub elements : length (vector_section 9 element_bytes m.elements) < 2 ^ 32
  pub bodies : length (vector_section 10 entry_bytes m.bodies) < 2 ^ 32
  pub segments : length (vector_section 11 segment_bytes m.segments) < 2 ^ 32

pub small_sections : (m : ModuleParts) → length (encoding m) < 2 ^ 32 → SmallSections m
unfolding encoding front_sections declarations
small_sections m h =
    let whole = halves (2 ^ 32) header _ h in
    let rest = halves (2 ^ 32) (front_sections m) _ whole.1 in
    let code = halves (2 ^ 32) (vector_section 10 entry_bytes m.bodies) _ rest.1 in
    let front = halves (2 ^ 32) (declarations m) _ rest.0 in
    let one = halves (2 ^ 32) (vector_section 1 function_type_bytes m.types) _ front.0 in
    let two = halves (2 ^ 32) (vector_section 2 import_bytes m.imports) _ one.1 in
    let three = halves (2 ^ 32) (vector_section 3 unsigned_bytes m.functions) _ two.1 in
    let four = halves (2 ^ 32) (vector_section 4 table_bytes m.tables) _ three.1 in
    let six = halves (2 ^ 32) (vector_section 6 global_bytes m.globals) _ front.1 in
    let seven = halves (2 ^ 32) (vector_section 7 export_bytes m.exports) _ six.1 in
    let eight = halves (2 ^ 32) (start_section m.start) _ seven.1 in
    record {
      types = one.0;
      imports = two.0;
      functions = three.0;
      tables = four.0;
      memories = four.1;
      globals = six.0;
      exports = seven.0;
      start = eight.0;
      elements = eight.1;
      bodies = code.0;
      segments = code.1;
    }

-- ---- bodies

each_small : {A : Type 0} (bytes : A → List ℕ) (n : ℕ) (xs : List A) → length (flat_map bytes xs) < n → AllByRecursion (λ x. length (bytes x) < n) xs
each_small bytes n [] h = tt
each_small bytes n (x ∷ xs) h =
    let both = halves n (bytes x) (flat_map bytes xs) h in
    (both.0, each_small bytes n xs both.1)

pub small_entries : (bodies : List Body) → length (vector_section 10 entry_bytes bodies) < 2 ^ 32 → AllByRecursion (λ body. length (entry_bytes body) < 2 ^ 32) bodies
small_entries [] h = tt
small_entries (b ∷ bs) h =
    let bodies : List Body = b ∷ bs in
    let contents = vector_bytes entry_bytes bodies in
    let inner : length contents < 2 ^ 32 = omega (arith, h, length-append (unsigned_bytes (length contents)) contents) in
    let elements = halves (2 ^ 32) (unsigned_bytes (length bodies)) (flat_map entry_bytes bodies) inner in
    each_small entry_bytes (2 ^ 32) bodies elements.1

small_function : (body : Body) → length (entry_bytes body) < 2 ^ 32 → length (function_bytes body) < 2 ^ 32
unfolding entry_bytes
small_function body h = omega (arith, h, length-append (unsigned_bytes (length (function_bytes body))) (function_bytes body))

-- what holds at each index holds of each
pub all_at : {A : Type 0} (P : A → Type 0) (xs : List A) → ((i : ℕ) (x : A) → slice_get xs i ≡ Some x → P x) → AllByRecursion P xs
all_at P [] h = tt
all_at P (x ∷ xs) h = (h 0 x refl, all_at P xs (λ i y e. h (suc i) y e))

pub small_locals : (m : ModuleParts) → WithinLimits m → AllByRecursion (λ body. sum (map (λ g. g.count) body.groups) < 2 ^ 32) m.bodies
small_locals m within = all_at (λ (body : Body). sum (map (λ g. g.count) body.groups) < 2 ^ 32) m.bodies (λ i body e. let h = within.locals i body e in omega (arith, h))

pub all_enter : (bodies : List Body) (trees : List Tree) → AllWrite bodies trees → AllByRecursion InOrder bodies → AllByRecursion FitsBody bodies → AllByRecursion ShortBody bodies
    → AllByRecursion (λ body. sum (map (λ g. g.count) body.groups) < 2 ^ 32) bodies → AllByRecursion (λ body. length (entry_bytes body) < 2 ^ 32) bodies → AllByRecursion CanEnter bodies
all_enter [] trees write order fits short room size = tt
all_enter (b ∷ bs) [] write order fits short room size = absurd write
all_enter (b ∷ bs) (t ∷ ts) write order fits short room size = (
  record { tree = t; writes = write.0; in_order = order.0; fits = fits.0; short = short.0; room = room.0; size = small_function b size.0 },
  all_enter bs ts write.1 order.1 fits.1 short.1 room.1 size.1,
)

-- two facts of each
pub both : {A : Type 0} (P Q : A → Type 0) (xs : List A) → AllByRecursion P xs → AllByRecursion Q xs → AllByRecursion (λ x. P x × Q x) xs
both P Q [] p q = tt
both P Q (x ∷ xs) p q = ((p.0, q.0), both P Q xs p.1 q.1)
