-- Functions and types of a module by their indices.
use Rattle.std.proofs.Common.{◌≡◌, ℕ, zero, suc, ◌+◌, ◌<◌, ◌≤◌, List, [], ◌∷◌, ◌++◌, map, length, get_or, refl, sym, ap, subst, ◌∙◌, arith, length-append}
use Rattle.std.proofs.lemmas.Bool.Decides.{nat_tests}
use Rattle.std.proofs.lemmas.Option.{slice_get-map, slice_get-get_or, slice_get_within}
use Rattle.std.specs.Prelude.{Bool, true, false, nat_lt, Option, Some, None, slice_get, option_map}
use Rattle.wasm_syntax.specs.declared.module.ModuleParts.{ModuleParts as Module}
use Rattle.wasm_syntax.specs.declared.parts.FuncType.{FuncType}
use Rattle.wasm_syntax.specs.declared.parts.Body.{Body}
use Rattle.wasm_syntax.specs.declared.parts.Import.{Import}
use Rattle.wasm_syntax.specs.Tree.{Tree, Writes}
use Rattle.wasm_syntax.specs.Module.{Program, IsProgram, defined, defined_at, function_types, option_then}
use Rattle.machine_code.specs.declared.code.Code.{Code}
use Rattle.machine_code.specs.calls.Code.{FitsCode, Prepares}
use Rattle.machine_code.specs.inner.Numbers.{AllNumbered}
use Rattle.machine_code.specs.calls.Prepares.{Numbered}
use Rattle.machine_code.specs.inner.Codes.{PreparesUpTo}
use Rattle.pm_text.proofs.Lists.{some_is, get_last}
use Rattle.wasm_syntax.proofs.Bodies.{tree_there}

-- ---- numbers

-- what an option leads to
pub record Through {A B : Type 0} (o : Option A) (go : A → Option B) (b : B) : Type 0 where
  pub value : A
  pub is : o ≡ Some value
  pub leads : go value ≡ Some b

through : {A B : Type 0} (o : Option A) (go : A → Option B) (b : B) → option_then o go ≡ Some b → Through o go b
through None go b e = absurd (cc)
through (Some a) go b e = record { value = a; is = refl; leads = e }

pub numbered : (m : Module) (numbers functions : List ℕ) → AllNumbered m.types numbers → functions ≡ map (λ t. get_or numbers t 0) (function_types m) → Numbered m numbers functions
numbered m numbers functions a f t type e =
    let lt : t < length numbers = omega (arith, a.count, slice_get_within m.types t type e) in
    let k = get_or numbers t 0 in
    let k_is : slice_get numbers t ≡ Some k = slice_get-get_or numbers t 0 lt in
    record {
      number = k;
      is = k_is;
      of_functions = λ g u q.
          let s = through (slice_get (function_types m) g) (λ t. slice_get m.types t) u q in
          let within : s.value < length numbers = omega (arith, a.count, slice_get_within m.types s.value u s.leads) in
          let j = get_or numbers s.value 0 in
          let j_is : slice_get numbers s.value ≡ Some j = slice_get-get_or numbers s.value 0 within in
          record {
            number = j;
            is = ap (λ l. slice_get l g) f ∙ slice_get-map (λ t. get_or numbers t 0) (function_types m) g ∙ ap (option_map (λ t. get_or numbers t 0)) s.is;
            same = a.same s.value t u type j k s.leads e j_is k_is;
          };
    }

-- ---- bodies

-- what a defined function is made of
pub record Parts (p : Program) (i : ℕ) (body : Body) (tree : Tree) (type : FuncType) : Type 0 where
  pub type_is : option_then (slice_get p.module_.functions i) (slice_get p.module_.types) ≡ Some type
  pub body_is : slice_get p.module_.bodies i ≡ Some body
  pub tree_is : slice_get p.trees i ≡ Some tree

pub parts_of : (p : Program) (i : ℕ) (body : Body) (tree : Tree) (type : FuncType) → defined_at p i ≡ Some (defined body tree type) → Parts p i body tree type
parts_of p i body tree type e =
    let a = through (slice_get p.module_.functions i) (λ t. option_then (slice_get p.module_.types t) (λ u. option_then (slice_get p.module_.bodies i) (λ b. option_map (λ r. defined b r u) (slice_get p.trees i)))) (defined body tree type) e in
    let b = through (slice_get p.module_.types a.value) (λ u. option_then (slice_get p.module_.bodies i) (λ b. option_map (λ r. defined b r u) (slice_get p.trees i))) (defined body tree type) a.leads in
    let c = through (slice_get p.module_.bodies i) (λ z. option_map (λ r. defined z r b.value) (slice_get p.trees i)) (defined body tree type) b.leads in
    by_tree a.value b.value c.value (slice_get p.trees i) refl a.is b.is c.is c.leads
  where
    by_tree : (t : ℕ) (u : FuncType) (z : Body) (o : Option Tree) → slice_get p.trees i ≡ o → slice_get p.module_.functions i ≡ Some t → slice_get p.module_.types t ≡ Some u → slice_get p.module_.bodies i ≡ Some z → option_map (λ r. defined z r u) o ≡ Some (defined body tree type) → Parts p i body tree type
    by_tree t u z None o a b c e = absurd (cc)
    by_tree t u z (Some r) o a b c e =
        let same : defined z r u ≡ defined body tree type = some_is e in
        let z_is : z ≡ body = cc in
        let r_is : r ≡ tree = cc in
        let u_is : u ≡ type = cc in
        record {
          type_is = ap (λ q. option_then q (slice_get p.module_.types)) a ∙ b ∙ ap Some u_is;
          body_is = c ∙ ap Some z_is;
          tree_is = o ∙ ap Some r_is;
        }

get_front : {A : Type 0} (xs : List A) (x y : A) (i : ℕ) → slice_get xs i ≡ Some y → slice_get (xs ++ x ∷ []) i ≡ Some y
get_front [] x y i e = absurd (cc)
get_front (z ∷ xs) x y zero e = e
get_front (z ∷ xs) x y (suc i) e = get_front xs x y i e

-- no function is prepared yet
pub none_yet : (p : Program) → PreparesUpTo p 0 []
none_yet p = record { count = refl; at = λ i body tree type lt e. absurd (omega arith) }

-- one function more
pub one_code : (p : Program) (i : ℕ) (codes : List Code) (code : Code) (body : Body) → PreparesUpTo p i codes → slice_get p.module_.bodies i ≡ Some body → IsProgram p →
    ((tree : Tree) (type : FuncType) → option_then (slice_get p.module_.functions i) (slice_get p.module_.types) ≡ Some type → Writes body.targets body.ops tree → (code.body.now ≡ body) × FitsCode tree type code) → PreparesUpTo p (i + 1) (codes ++ code ∷ [])
one_code p i codes code body before b_is w fits = record {
  count = length-append codes (code ∷ []) ∙ (let e : length codes + 1 ≡ i + 1 = omega (arith, before.count) in e);
  at = λ j body' tree type lt e. by_test j body' tree type lt e (nat_lt j i) refl;
}
  where
    by_test : (j : ℕ) (body' : Body) (tree : Tree) (type : FuncType) → j < i + 1 → defined_at p j ≡ Some (defined body' tree type) → (b : Bool) → nat_lt j i ≡ b →
        ((k : Code) × (slice_get (codes ++ code ∷ []) j ≡ Some k) × (k.body.now ≡ body') × FitsCode tree type k)
    by_test j body' tree type lt e true q =
        let less : j < i = grind (arith, nat_tests) in
        let k = before.at j body' tree type less e in
        (k.0, get_front codes code k.0 j k.1, k.2, k.3)
    by_test j body' tree type lt e false q =
        let ge : i ≤ j = grind (arith, nat_tests) in
        let same : j ≡ i = omega arith in
        let s = parts_of p j body' tree type e in
        let bodies : body ≡ body' = some_is (sym b_is ∙ ap (slice_get p.module_.bodies) (sym same) ∙ s.body_is) in
        let out : Writes body.targets body.ops tree = subst (λ (z : Body). Writes z.targets z.ops tree) (sym bodies) (tree_there p.module_.bodies p.trees j body' tree w s.body_is s.tree_is) in
        let typed : option_then (slice_get p.module_.functions i) (slice_get p.module_.types) ≡ Some type = ap (λ n. option_then (slice_get p.module_.functions n) (slice_get p.module_.types)) (sym same) ∙ s.type_is in
        let fit = fits tree type typed out in
        (code, ap (slice_get (codes ++ code ∷ [])) (same ∙ sym before.count) ∙ get_last codes code, fit.0 ∙ bodies, fit.1)

pub all_codes : (p : Program) (codes : List Code) → PreparesUpTo p (length p.module_.bodies) codes → Prepares p codes
all_codes p codes h = record { at = λ i body tree type e. let s = parts_of p i body tree type e in h.at i body tree type (slice_get_within p.module_.bodies i body s.body_is) e }

map_both : (numbers : List ℕ) (is : List Import) (ts : List ℕ) → map (λ i. get_or numbers i.ftype 0) is ++ map (λ t. get_or numbers t 0) ts ≡ map (λ t. get_or numbers t 0) (map (λ i. i.ftype) is ++ ts)
map_both numbers [] ts = refl
map_both numbers (i ∷ is) ts = ap (λ l. get_or numbers i.ftype 0 ∷ l) (map_both numbers is ts)

-- the numbers of imported and of defined functions
pub both_numbers : (m : Module) (numbers : List ℕ) (is : List Import) (ts none some all out : List ℕ) → is ≡ m.imports → ts ≡ m.functions → none ≡ [] → some ≡ none ++ map (λ i. get_or numbers i.ftype 0) is → all ≡ some ++ map (λ t. get_or numbers t 0) ts → out ≡ all →
    out ≡ map (λ t. get_or numbers t 0) (function_types m)
both_numbers m numbers is ts none some all out i t n s a o =
    o ∙ a ∙ ap (λ l. l ++ map (λ t. get_or numbers t 0) ts) (s ∙ ap (λ l. l ++ map (λ i. get_or numbers i.ftype 0) is) n) ∙ map_both numbers is ts
    ∙ ap (λ l. map (λ t. get_or numbers t 0) (map (λ i. i.ftype) l ++ ts)) i ∙ ap (λ l. map (λ t. get_or numbers t 0) (map (λ i. i.ftype) m.imports ++ l)) t
