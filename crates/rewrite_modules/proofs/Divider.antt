-- The small program is given to the rewriting, and its rewriting hands over its dump.
use Rattle.std.specs.Prelude.{◌+◌, ◌≤◌, ◌≡◌, ℕ, zero, suc, List, [], ◌∷◌, ◌++◌, length, take, reverse, Option, Some, None, option_map, slice_get, false, codes, bytes_eq, refl}
use Rattle.std.proofs.Common.{arith, subst, sym, ap}
use Rattle.int_ops.specs.declared.operators.Binary.TheVariants.{DivS}
use Rattle.wasm_syntax.specs.declared.blocks.BlockKind.TheVariants as block_kinds
use Rattle.wasm_syntax.specs.declared.value.ValType.{ValType}
use Rattle.wasm_syntax.specs.declared.value.ValType.TheVariants.{I32}
use Rattle.wasm_syntax.specs.declared.instruction.Basic.TheVariants.{LocalGet, Binary}
use Rattle.wasm_syntax.specs.declared.parts.FuncType.{FuncType}
use Rattle.wasm_syntax.specs.Typing.{Context, ◌⇒◌, BasicTypes, body_context}
use Rattle.wasm_syntax.specs.FlatTyping.{OpenBlock, opened, inside, FlatTypes, dead_behind, AllLive, IsLive, all_types, TypesBefore}
use Rattle.wasm_laws.proofs.FlatOne.{one_before}
use Rattle.rewrite_modules.specs.Weight.{height_at}
use Rattle.int_ops.specs.Integers.{binary, compare, div_s, rem_s}
use Rattle.wasm_syntax.specs.declared.parts.Import.{Import}
use Rattle.wasm_syntax.specs.Tree.{Tree, Placed, code_of}
use Rattle.wasm_laws.proofs.RowsValid.{divides_valid}
use Rattle.wasm_syntax.specs.declared.parts.Body.{Body}
use Rattle.wasm_syntax.specs.Module.{IsModule, type_at}
use Rattle.wasm_syntax.specs.Sizes.{ShortLists, local_count}
use Rattle.rewrite_modules.specs.Instrumentable.{Instrumentable}
use Rattle.rewrite_modules.specs.calls.Given.{Given, SmallCode}
use Rattle.rewrite_modules.specs.calls.Example.{divider, HandsOver, Weighs, Multiplies}
use Rattle.pm_text.proofs.Lists.{some_is}

abbrev OfSome : Option Tree → Type 0
OfSome None = Unit {0}
OfSome (Some tree) = SmallCode tree.nodes

small_tree : (f : ℕ) (tree : Tree) → slice_get divider.trees f ≡ Some tree → SmallCode tree.nodes
small_tree zero tree e = subst (λ o. OfSome o) e (tt, (tt, (tt, tt)))
small_tree (suc zero) tree e = absurd (cc)
small_tree (suc (suc f)) tree e = absurd (cc)

no_import : (f : ℕ) (i : Import) → slice_get divider.module_.imports f ≡ Some i → bytes_eq i.«module» (codes "coredump") ≡ false
no_import zero i e = absurd (cc)
no_import (suc f) i e = absurd (cc)

pub given : Given divider
given = record {
  program = (record { arms = tt; out = refl }, tt);
  as_many = refl;
  valid = divides_valid;
  no_collision = no_import;
  small = small_tree;
  pages = tt;
  few_locals = omega arith;
  few_heights = omega arith;
  few_globals_doubled = λ d. omega arith;
  few_globals = λ name f e. omega arith;
}

-- ---- within the limits

whole : IsModule divider.module_
unfolding lib.Utf8.encode
whole = record {
  trees = divider.trees;
  write = (record { arms = tt; out = refl }, tt);
  in_order = (record { offsets = (omega arith, (omega arith, (omega arith, (omega arith, tt)))); targets = refl }, tt);
  as_many = refl;
  globals = tt;
  elements = tt;
  segments = tt;
  import_modules = tt;
  import_names = tt;
  export_names = ((codes "div", (refl, refl)), tt);
  custom_names = tt;
}

short_lists : ShortLists divider.module_
short_lists = record {
  types = omega arith;
  each_type = (record { params = omega arith; results = omega arith }, tt);
  functions = omega arith;
  import_modules = tt;
  import_names = tt;
  tables = omega arith;
  memories = omega arith;
  globals = omega arith;
  each_global = tt;
  exports = omega arith;
  export_names = (omega arith, tt);
  elements = omega arith;
  each_element = tt;
  segments = omega arith;
  each_segment = tt;
  bodies = omega arith;
  each_body = (record { groups = omega arith; ops = omega arith; targets = omega arith }, tt);
  customs = omega arith;
  custom_names = tt;
}

abbrev two_locals : ℕ → Option Body → Type 0
two_locals i None = Unit {0}
two_locals i (Some body) = local_count (type_at divider.module_ (0 + i)) body ≤ 2

locals_of : (i : ℕ) (body : Body) → slice_get divider.module_.bodies i ≡ Some body → local_count (type_at divider.module_ (0 + i)) body ≤ 2
locals_of zero body e = subst (two_locals 0) e two
  where
    two : 2 ≤ 2
    two = omega arith
locals_of (suc i) body e = absurd (cc)

-- ---- heights

abbrev divide_type : FuncType
divide_type = record { params = I32 ∷ I32 ∷ []; results = I32 ∷ [] }

abbrev heights : List (List ℕ)
heights = (0 ∷ 1 ∷ 2 ∷ 1 ∷ []) ∷ []

take_none : (n : ℕ) → take {A = Placed} n [] ≡ []
take_none zero = refl
take_none (suc n) = refl

abbrev start : OpenBlock
start = opened block_kinds.Plain (Some I32) []

abbrev with_types : List ValType → List OpenBlock
with_types ts = opened block_kinds.Plain (Some I32) ts ∷ []

abbrev body_zero : List Body → Body
body_zero [] = record { groups = []; ops = []; targets = []; start = 0 }
body_zero (b ∷ bs) = b

abbrev divide_body : Body
divide_body = body_zero divider.module_.bodies

abbrev c0 : Context
c0 = body_context divider.module_ divide_type divide_body

abbrev code : List Placed
code = code_of divide_body.targets divide_body.ops

-- the operand types before each instruction, topmost first
before_at : (op : ℕ) (blocks : List OpenBlock) → FlatTypes c0 (start ∷ []) (take op code) blocks → IsLive code op → TypesBefore divider.module_ divide_type divide_body op (reverse (all_types blocks))
before_at op blocks ft lv = record { result = Some I32; gives = refl; blocks = blocks; leads = ft; live = lv; types_are = refl }

local_types : (x : ℕ) (ts : List ValType) → slice_get (I32 ∷ I32 ∷ []) x ≡ Some I32 → BasicTypes (inside c0 (with_types ts)) (LocalGet x) ts (I32 ∷ ts)
local_types x ts e = record { any = I32; arrow_is = [] ⇒ I32 ∷ []; has = ap (option_map (λ u. [] ⇒ u ∷ [])) e; above = record { below = ts; takes = refl; gives = refl } }

after_one : FlatTypes c0 (start ∷ []) (take 1 code) (with_types (I32 ∷ []))
after_one = (with_types (I32 ∷ []), (I32 ∷ [], local_types 0 [] refl, refl), refl)

after_two : FlatTypes c0 (start ∷ []) (take 2 code) (with_types (I32 ∷ I32 ∷ []))
after_two = (with_types (I32 ∷ []), (I32 ∷ [], local_types 0 [] refl, refl), (with_types (I32 ∷ I32 ∷ []), (I32 ∷ I32 ∷ [], local_types 1 (I32 ∷ []) refl, refl), refl))

divides_types : BasicTypes (inside c0 (with_types (I32 ∷ I32 ∷ []))) (Binary I32 DivS) (I32 ∷ I32 ∷ []) (I32 ∷ [])
divides_types = record { any = I32; arrow_is = I32 ∷ I32 ∷ [] ⇒ I32 ∷ []; has = refl; above = record { below = []; takes = refl; gives = refl } }

after_three : FlatTypes c0 (start ∷ []) (take 3 code) (with_types (I32 ∷ []))
after_three = (with_types (I32 ∷ []), (I32 ∷ [], local_types 0 [] refl, refl), (with_types (I32 ∷ I32 ∷ []), (I32 ∷ I32 ∷ [], local_types 1 (I32 ∷ []) refl, refl), (with_types (I32 ∷ []), (I32 ∷ [], divides_types, refl), refl)))

after_all : FlatTypes c0 (start ∷ []) (take 4 code) []
after_all = (with_types (I32 ∷ []), (I32 ∷ [], local_types 0 [] refl, refl), (with_types (I32 ∷ I32 ∷ []), (I32 ∷ I32 ∷ [], local_types 1 (I32 ∷ []) refl, refl), (with_types (I32 ∷ []), (I32 ∷ [], divides_types, refl), ([], (refl, tt, refl), refl))))

-- behind the end there are none
abbrev Behind : List Placed → Type 0
Behind rest = FlatTypes c0 (start ∷ []) (take 4 code ++ rest) [] × AllLive (dead_behind (false ∷ []) (take 4 code ++ rest))

behind_end : (op : ℕ) → Behind (take op [])
behind_end op = subst Behind (sym (take_none op)) (after_all, tt)

one_types : (op : ℕ) (a b : List ValType) → TypesBefore divider.module_ divide_type divide_body op a → TypesBefore divider.module_ divide_type divide_body op b → length a ≡ length b
one_types op a b x y = ap length (one_before divider.module_ divide_type divide_body op a b x y)

height_of : (op : ℕ) (types : List ValType) → TypesBefore divider.module_ divide_type divide_body op types → height_at heights 0 op ≡ length types
height_of zero types h = one_types 0 [] types (before_at 0 (with_types []) refl (refl, tt)) h
height_of (suc zero) types h = one_types 1 (I32 ∷ []) types (before_at 1 (with_types (I32 ∷ [])) after_one (refl, tt)) h
height_of (suc (suc zero)) types h = one_types 2 (I32 ∷ I32 ∷ []) types (before_at 2 (with_types (I32 ∷ I32 ∷ [])) after_two (refl, tt)) h
height_of (suc (suc (suc zero))) types h = one_types 3 (I32 ∷ []) types (before_at 3 (with_types (I32 ∷ [])) after_three (refl, tt)) h
height_of (suc (suc (suc (suc op)))) types h = let b = behind_end op in one_types (suc (suc (suc (suc op)))) [] types (before_at (suc (suc (suc (suc op)))) [] b.0 b.1) h

live_height : (i op : ℕ) (type : FuncType) (body : Body) (types : List ValType) → slice_get divider.module_.bodies i ≡ Some body → type_at divider.module_ (0 + i) ≡ Some type → TypesBefore divider.module_ type body op types → height_at heights i op ≡ length types
live_height zero op type body types e t h =
    let body_is : divide_body ≡ body = some_is e in
    let type_is : divide_type ≡ type = some_is t in
    height_of op types (subst (λ b. TypesBefore divider.module_ divide_type b op types) (sym body_is) (subst (λ u. TypesBefore divider.module_ u body op types) (sym type_is) h))
live_height (suc i) op type body types e t h = absurd (cc)

dead_height : (i op : ℕ) (body : Body) → slice_get divider.module_.bodies i ≡ Some body → (IsLive (code_of body.targets body.ops) op → ⊥) → height_at heights i op ≡ 0
dead_height zero op body e n =
    let body_is : divide_body ≡ body = some_is e in
    none op (subst (λ b. IsLive (code_of b.targets b.ops) op → ⊥) (sym body_is) n)
  where
    none : (op : ℕ) → (IsLive code op → ⊥) → height_at heights 0 op ≡ 0
    none zero n = refl
    none (suc zero) n = absurd (n (refl, tt))
    none (suc (suc zero)) n = absurd (n (refl, tt))
    none (suc (suc (suc zero))) n = absurd (n (refl, tt))
    none (suc (suc (suc (suc op)))) n = refl
dead_height (suc i) op body e n = refl

low_height : (i op : ℕ) → height_at heights i op ≤ 1000
low_height zero zero = omega arith
low_height zero (suc zero) = omega arith
low_height zero (suc (suc zero)) = omega arith
low_height zero (suc (suc (suc zero))) = omega arith
low_height zero (suc (suc (suc (suc op)))) = omega arith
low_height (suc i) op = omega arith

pub instrumentable : Instrumentable divider.module_
unfolding whole
instrumentable = record {
  whole = whole;
  valid = divides_valid;
  limits_ = record { short = short_lists; locals = λ i body e. (let two = locals_of i body e in omega (arith, two)); nested = (omega arith, tt); tables = tt; memories = tt };
  small = ((tt, (tt, (tt, (tt, tt)))), tt);
  no_collision = no_import;
  no_export_collision = (refl, tt);
  lightness = record {
    few_locals = λ i body e. (let two = locals_of i body e in omega (arith, two));
    few_parameters = (omega arith, tt);
    heights = heights;
    heights_are = record { live = live_height; dead = dead_height };
    low = low_height;
    shallow = (omega arith, tt);
    light = omega arith;
  };
}

pub weighs : Weighs
weighs = refl

pub multiplies : Multiplies
multiplies = refl

pub hands_over : HandsOver
unfolding binary compare div_s rem_s
hands_over = record { original = refl; rewritten = refl; handed_over = refl }
