-- Globals, segments and bodies are no shorter than what is written of them, and hold their instructions.
use Rattle.std.proofs.Common.{◌≡◌, ℕ, ◌+◌, ◌≤◌, List, ◌++◌, length, ap, subst, ◌∙◌, ◌-◌, arith, length-append}
use Rattle.wasm_leb.specs.Writing.{unsigned_bytes}
use Rattle.wasm_syntax.specs.declared.parts.Body.{Body}
use Rattle.wasm_syntax.specs.declared.parts.Global.{Global}
use Rattle.wasm_syntax.specs.declared.parts.ElementSeg.{ElementSeg}
use Rattle.wasm_syntax.specs.declared.parts.DataSeg.{DataSeg}
use Rattle.wasm_bytes.specs.calls.Spelling.{u32, vector}
use Rattle.wasm_format.proofs.Shortest.{number_least}
use Rattle.wasm_bytes.specs.declared.noted.Noted.{Noted}
use Rattle.wasm_format.specs.calls.Grammar.{expression, code_contents, code, global_entry, element_entry, segment_entry}
use Rattle.wasm_encode.specs.Encoding.{vector_bytes, sized_bytes, expression_bytes, group_bytes, function_bytes, entry_bytes, global_bytes, element_bytes, segment_bytes}
use Rattle.wasm_format_laws.specs.calls.Sized.{OpsSized, ops_length}
use Rattle.wasm_format_laws.proofs.Measures.{Least, Each, sized_least, sized_length, run_least, vector_least, vector_length}
use Rattle.wasm_format_laws.proofs.Instructions.{LongCode, entries_long, encoded_least}
use Rattle.wasm_format_laws.proofs.Entries.{globaltype_long, locals_least}

-- an expression over at most so many bytes
abbrev Long : Body → ℕ → Type 0
Long body n = LongCode body.targets body.ops n

expression_long : (b : Noted Body) (at : ℕ) (bytes : List ℕ) → expression b at bytes → Long b.value (length bytes)
expression_long b at bytes s = subst (λ (y : Noted Body). Long y.value (length bytes)) s.1 (entries_long at s.0 at bytes s.2)

-- ---- what a thing with an expression says: how long it is written, and what its instructions take up

-- It is no shorter than what is written of it, and than its instructions; and each of these is long enough.
pub record Holds {A : Type 0} (S : A → ℕ → List ℕ → Type 0) (body : A → Body) (size : A → ℕ) : Type 0 where
  pub written : Least S size
  pub ops : Least S (λ x. ops_length (body x))
  pub each : Each S (λ x. OpsSized (body x))

-- of one of them
record Held (body : Body) (size most : ℕ) : Type 0 where
  pub written : size ≤ most
  pub ops : ops_length body ≤ most
  pub each : OpsSized body

holds : {A : Type 0} (S : A → ℕ → List ℕ → Type 0) (body : A → Body) (size : A → ℕ) → ((x : A) (at : ℕ) (bytes : List ℕ) → S x at bytes → Held (body x) (size x) (length bytes)) → Holds S body size
holds S body size h = record { written = λ x at bytes s. (h x at bytes s).written; ops = λ x at bytes s. (h x at bytes s).ops; each = λ x at bytes s. (h x at bytes s).each }

-- ---- globals and segments

global_held : (g : Noted Global) (at : ℕ) (bytes : List ℕ) → global_entry g at bytes → Held g.value.init (length (global_bytes g.value)) (length bytes)
unfolding global_bytes
global_held g at bytes s =
    let p = s.2 in
    let body = s.0.1.value in
    let long = expression_long s.0.1 _ p.1 p.3 in
    let whole : length bytes ≡ 2 + length p.1 = omega (arith, globaltype_long s.0.0 at p.0 p.2, ap length p.4, length-append p.0 p.1) in
    subst (λ (y : Noted Global). Held y.value.init (length (global_bytes y.value)) (length bytes)) s.1
    (record { written = omega (arith, whole, encoded_least body (length p.1) long); ops = omega (arith, whole, long.total); each = long.each })

pub global_holds : Holds global_entry (λ g. g.value.init) (λ g. length (global_bytes g.value))
global_holds = holds global_entry _ _ global_held

element_length : (e : ElementSeg) → length (element_bytes e) ≡ length (unsigned_bytes e.table) + (length (expression_bytes e.offset) + length (vector_bytes unsigned_bytes e.functions))
unfolding element_bytes
element_length e = omega (arith, length-append (unsigned_bytes e.table) (expression_bytes e.offset ++ vector_bytes unsigned_bytes e.functions), length-append (expression_bytes e.offset) (vector_bytes unsigned_bytes e.functions))

pub numbers_least : Least (vector u32) (λ xs. length (vector_bytes unsigned_bytes xs))
numbers_least xs at bytes s = omega (arith, vector_length unsigned_bytes xs, vector_least u32 (λ n. length (unsigned_bytes n)) (λ n at' bs t. number_least n bs t) xs at bytes s)

element_held : (e : Noted ElementSeg) (at : ℕ) (bytes : List ℕ) → element_entry e at bytes → Held e.value.offset (length (element_bytes e.value)) (length bytes)
element_held e at bytes s =
    let x = s.0 in
    let p = s.2 in
    let q = p.3 in
    let body = x.1.0.value in
    let made : ElementSeg = record { table = x.0; offset = body; functions = x.1.1 } in
    let long = expression_long x.1.0 _ q.0 q.2 in
    let whole : length bytes ≡ length p.0 + (length q.0 + length q.1) = omega (arith, ap length p.4, length-append p.0 p.1, ap length q.4, length-append q.0 q.1) in
    subst (λ (y : Noted ElementSeg). Held y.value.offset (length (element_bytes y.value)) (length bytes)) s.1
    (record {
      written = omega (arith, whole, element_length made, number_least x.0 p.0 p.2, encoded_least body (length q.0) long, numbers_least x.1.1 _ q.1 q.3);
      ops = omega (arith, whole, long.total);
      each = long.each;
    })

pub element_holds : Holds element_entry (λ e. e.value.offset) (λ e. length (element_bytes e.value))
element_holds = holds element_entry _ _ element_held

segment_length : (d : DataSeg) → length (segment_bytes d) ≡ length (unsigned_bytes d.memory) + (length (expression_bytes d.offset) + length (sized_bytes d.bytes))
unfolding segment_bytes
segment_length d = omega (arith, length-append (unsigned_bytes d.memory) (expression_bytes d.offset ++ sized_bytes d.bytes), length-append (expression_bytes d.offset) (sized_bytes d.bytes))

segment_held : (d : Noted DataSeg) (at : ℕ) (bytes : List ℕ) → segment_entry d at bytes → Held d.value.offset (length (segment_bytes d.value)) (length bytes)
segment_held d at bytes s =
    let x = s.0 in
    let p = s.2 in
    let q = p.3 in
    let body = x.1.0.value in
    let made : DataSeg = record { memory = x.0; offset = body; bytes = x.1.1 } in
    let long = expression_long x.1.0 _ q.0 q.2 in
    let whole : length bytes ≡ length p.0 + (length q.0 + length q.1) = omega (arith, ap length p.4, length-append p.0 p.1, ap length q.4, length-append q.0 q.1) in
    subst (λ (y : Noted DataSeg). Held y.value.offset (length (segment_bytes y.value)) (length bytes)) s.1
    (record {
      written = omega (arith, whole, segment_length made, number_least x.0 p.0 p.2, encoded_least body (length q.0) long, run_least x.1.1 (at + length p.0 + length q.0) q.1 q.3);
      ops = omega (arith, whole, long.total);
      each = long.each;
    })

pub segment_holds : Holds segment_entry (λ d. d.value.offset) (λ d. length (segment_bytes d.value))
segment_holds = holds segment_entry _ _ segment_held

-- ---- bodies

contents_held : (origin : ℕ) (b : Noted Body) (at : ℕ) (bytes : List ℕ) → code_contents origin b at bytes → Held b.value (length (function_bytes b.value)) (length bytes)
unfolding function_bytes
contents_held origin b at bytes s =
    let l = s.0 in
    let p = s.1 in
    let i = p.3 in
    let body : Body = record { groups = l.groups; ops = i.0.ops; targets = i.0.targets; start = at - origin } in
    let long = entries_long at i.0 _ p.1 i.2 in
    let whole : length bytes ≡ length p.0 + length p.1 = ap length p.4 ∙ length-append p.0 p.1 in
    subst (λ (y : Noted Body). Held y.value (length (function_bytes y.value)) (length bytes)) i.1
    (record {
      written = omega (arith, whole, length-append (vector_bytes group_bytes l.groups) (expression_bytes body), locals_least l at p.0 p.2, encoded_least body (length p.1) long);
      ops = omega (arith, whole, long.total);
      each = long.each;
    })

code_held : (origin : ℕ) (b : Noted Body) (at : ℕ) (bytes : List ℕ) → code origin b at bytes → Held b.value (length (entry_bytes b.value)) (length bytes)
unfolding entry_bytes
code_held origin b at bytes s =
    let h = contents_held origin b (at + length s.0) s.1 s.3 in
    let n = length (function_bytes b.value) in
    let least = sized_least n (code_contents origin b) (λ at' inner t. (contents_held origin b at' inner t).written) at bytes s in
    record {
      written = omega (arith, sized_length (function_bytes b.value), least);
      ops = omega (arith, h.ops, ap length s.4, length-append s.0 s.1);
      each = h.each;
    }

pub code_holds : (origin : ℕ) → Holds (code origin) (λ b. b.value) (λ b. length (entry_bytes b.value))
code_holds origin = holds (code origin) _ _ (code_held origin)
