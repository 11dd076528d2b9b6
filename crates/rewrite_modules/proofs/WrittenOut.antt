-- The bodies of the rewritten module write out its trees.
use Rattle.std.proofs.Common.{◌≡◌, ℕ, zero, suc, List, [], ◌∷◌, ◌++◌, map, reverse, Option, Some, None, refl, ap, ap₂, ◌∙◌, subst, slice_get, option_map}
use Rattle.wasm_syntax.specs.declared.instruction.Op.{Op}
use Rattle.wasm_syntax.specs.declared.parts.Body.{Body}
use Rattle.wasm_syntax.specs.Tree.{Nodes, stop, basic, jump, block, loop, choose, Tree, Plain, Goes, Opens, OpensLoop, OpensIf, End, placed, else_out, write, code_of, IsTree, Writes, Placed, item_of}
use Rattle.wasm_syntax.specs.Module.{Program, Function, imported, defined, function_at, AllWrite, IsProgram}
use Rattle.rewrite_modules.specs.calls.Bare.{bare_nodes, bare_tree, bare}
use Rattle.wasm_syntax.specs.SameCode.{op_code, body_code, code_alone}
use Rattle.rewrite_modules.specs.calls.Instrument.{instrument, new_nodes, new_body, new_tree, each}
use Rattle.wasm_syntax.specs.declared.parts.LocalGroup.{LocalGroup}
use Rattle.wasm_syntax.specs.Typing.{body_context}
use Rattle.rewrite_bodies.specs.Numbering.{import_count, wrapped, helped}
use Rattle.rewrite_bodies.specs.calls.Slots.{groups, ctx_of, slots_of}
use Rattle.rewrite_bodies.specs.calls.Pieces.{tree_of}
use Rattle.rewrite_bodies.specs.calls.Guards.{helper}
use Rattle.rewrite_bodies.specs.calls.Rewrite.{body}
use Rattle.rewrite_modules.specs.calls.Wrappers.{wrapper}
use Rattle.rewrite_modules.specs.calls.FlatCode.{targets_in, body_of}
use Rattle.rewrite_modules.proofs.FlatOut.{body_out}
use Rattle.rewrite_modules.proofs.Arms.{tree_body, tree_wrapper, tree_helper, tree_bare}
use Rattle.wasm_laws.proofs.OneProgram.{all_same}
use Rattle.wasm_laws.proofs.Safe.{Typed}
use Rattle.rewrite_modules.proofs.Links.{is_defined}

-- ---- the same without offsets

abbrev pub at_zero : Placed → Placed
at_zero x = placed 0 x.code

pub zero_code : (T : List ℕ) (ops : List Op) → code_of T (map op_code ops) ≡ map at_zero (code_of T ops)
zero_code T [] = refl
zero_code T (o ∷ os) = ap (λ z. placed 0 (item_of T o.code) ∷ z) (zero_code T os)

zero_else : (ea : Option ℕ) (arm : List Placed) → map at_zero (else_out ea arm) ≡ else_out (option_map (λ at. 0) ea) (map at_zero arm)
zero_else None arm = refl
zero_else (Some at) arm = refl

zero_write : (nodes : Nodes) (after : List Placed) → map at_zero (write nodes after) ≡ write (bare_nodes nodes) (map at_zero after)
zero_write stop after = refl
zero_write (basic at i rest) after = ap (λ z. placed 0 (Plain i) ∷ z) (zero_write rest after)
zero_write (jump at j rest) after = ap (λ z. placed 0 (Goes j) ∷ z) (zero_write rest after)
zero_write (block at t body end rest) after = ap (λ z. placed 0 (Opens t) ∷ z) (zero_write body (placed end End ∷ write rest after) ∙ ap (λ z. write (bare_nodes body) (placed 0 End ∷ z)) (zero_write rest after))
zero_write (loop at t body end rest) after = ap (λ z. placed 0 (OpensLoop t) ∷ z) (zero_write body (placed end End ∷ write rest after) ∙ ap (λ z. write (bare_nodes body) (placed 0 End ∷ z)) (zero_write rest after))
zero_write (choose at t a ea b end rest) after =
    ap (λ z. placed 0 (OpensIf t) ∷ z) (zero_write a (else_out ea (write b (placed end End ∷ write rest after)))
    ∙ ap (write (bare_nodes a)) (zero_else ea (write b (placed end End ∷ write rest after))
    ∙ ap (else_out (option_map (λ at. 0) ea)) (zero_write b (placed end End ∷ write rest after) ∙ ap (λ z. write (bare_nodes b) (placed 0 End ∷ z)) (zero_write rest after))))

pub bare_writes : (body : Body) (tree : Tree) → Writes body.targets body.ops tree → Writes (body_code body).targets (body_code body).ops (bare_tree tree)
bare_writes body tree w = record {
  arms = tree_bare tree.nodes w.arms;
  out = zero_code body.targets body.ops ∙ ap (map at_zero) w.out ∙ zero_write tree.nodes (placed tree.end End ∷ []);
}

all_bare : (bodies : List Body) (trees : List Tree) → AllWrite bodies trees → AllWrite (map body_code bodies) (map bare_tree trees)
all_bare [] [] w = tt
all_bare [] (tree ∷ trees) w = absurd w
all_bare (body ∷ bodies) [] w = absurd w
all_bare (body ∷ bodies) (tree ∷ trees) w = (bare_writes body tree w.0, all_bare bodies trees w.1)

-- without offsets, each body still writes out its tree
pub program_bare : (p : Program) → IsProgram p → IsProgram (bare p)
program_bare p w = all_bare p.module_.bodies p.trees w

-- programs whose modules are the same without offsets are the same without offsets
pub same_bare : (p q : Program) → IsProgram (bare p) → IsProgram (bare q) → code_alone p.module_ ≡ code_alone q.module_ → bare p ≡ bare q
same_bare p q w v e =
    let trees : map bare_tree p.trees ≡ map bare_tree q.trees = all_same (map body_code q.module_.bodies) (map bare_tree p.trees) (map bare_tree q.trees) (subst (λ m. AllWrite m.bodies (map bare_tree p.trees)) e w) v in
    λ i. record { module_ = e i; trees = trees i }

-- ---- the rewritten module

bare_twice : (nodes : Nodes) → bare_nodes (bare_nodes nodes) ≡ bare_nodes nodes
bare_twice stop = refl
bare_twice (basic at i rest) = ap (basic 0 i) (bare_twice rest)
bare_twice (jump at j rest) = ap (jump 0 j) (bare_twice rest)
bare_twice (block at t body end rest) = ap₂ (λ a b. block 0 t a 0 b) (bare_twice body) (bare_twice rest)
bare_twice (loop at t body end rest) = ap₂ (λ a b. loop 0 t a 0 b) (bare_twice body) (bare_twice rest)
bare_twice (choose at t a None b end rest) = λ i. choose 0 t (bare_twice a i) None (bare_twice b i) 0 (bare_twice rest i)
bare_twice (choose at t a (Some e) b end rest) = λ i. choose 0 t (bare_twice a i) (Some 0) (bare_twice b i) 0 (bare_twice rest i)

-- a body and its tree, without offsets
abbrev Pair : Body → Tree → Type 0
Pair body tree = Writes (body_code body).targets (body_code body).ops (bare_tree tree)

abbrev Pairs : List Body → List Tree → Type 0
Pairs bodies trees = AllWrite (map body_code bodies) (map bare_tree trees)

pair_of : (groups : List LocalGroup) (nodes : Nodes) → IsTree nodes → Pair (body_of groups nodes) (tree_of nodes)
pair_of groups nodes it = record {
  arms = tree_bare nodes it;
  out = zero_code (targets_in nodes) (body_of groups nodes).ops ∙ ap (map at_zero) (body_out groups nodes) ∙ zero_write (bare_nodes nodes) (placed 0 End ∷ []) ∙ ap (λ n. write n (placed 0 End ∷ [])) (bare_twice nodes);
}

pairs_append : (bs cs : List Body) (ts us : List Tree) → Pairs bs ts → Pairs cs us → Pairs (bs ++ cs) (ts ++ us)
pairs_append [] cs [] us w v = v
pairs_append [] cs (t ∷ ts) us w v = absurd w
pairs_append (b ∷ bs) cs [] us w v = absurd w
pairs_append (b ∷ bs) cs (t ∷ ts) us w v = (w.0, pairs_append bs cs ts us w.1 v)

pairs_map : (code : ℕ → Nodes) → ((f : ℕ) → IsTree (code f)) → (fs : List ℕ) → Pairs (map (λ f. body_of [] (code f)) fs) (map (λ f. tree_of (code f)) fs)
pairs_map code it [] = tt
pairs_map code it (f ∷ fs) = (pair_of [] (code f) (it f), pairs_map code it fs)

pub tree_at : (bodies : List Body) (trees : List Tree) (j : ℕ) (tree : Tree) → AllWrite bodies trees → slice_get trees j ≡ Some tree → IsTree tree.nodes
tree_at [] [] j tree w e = absurd (cc)
tree_at [] (t ∷ ts) j tree w e = absurd w
tree_at (b ∷ bs) [] j tree w e = absurd w
tree_at (b ∷ bs) (t ∷ ts) zero tree w e = let z : t ≡ tree = cc in subst (λ x. IsTree x.nodes) z w.0.arms
tree_at (b ∷ bs) (t ∷ ts) (suc j) tree w e = tree_at bs ts j tree w.1 e

module _ (p : Program) (w : IsProgram p) (typed : Typed p) where
  pair_at : (f : ℕ) (q : Option Function) → function_at p f ≡ q → Pair (new_body p f q) (new_tree p f q)
  pair_at f None e = pair_of [] stop tt
  pair_at f (Some (imported i type)) e = pair_of [] stop tt
  pair_at f (Some (defined b tree type)) e =
      let d = is_defined p f b tree type e in
      let it = tree_at p.module_.bodies p.trees d.number tree w d.tree_is in
      let slots = slots_of p f b tree type in
      pair_of (b.groups ++ groups slots) (new_nodes p f b tree type) (tree_body (ctx_of p f b type slots) tree.nodes it)

  pairs_each : (k : ℕ) (xs : List Body) → Pairs (each (λ f. new_body p f (function_at p f)) k xs) (each (λ f. new_tree p f (function_at p f)) k xs)
  pairs_each k [] = tt
  pairs_each k (x ∷ xs) = (pair_at k (function_at p k) refl, pairs_each (suc k) xs)

  -- without offsets, each body of the rewritten module writes out its tree
  pub instrument_bare : IsProgram (bare (instrument p))
  instrument_bare =
      let m = p.module_ in
      pairs_append _ _ _ _ (pairs_each (import_count m) m.bodies) (pairs_append _ _ _ _ (pairs_map (wrapper m) (tree_wrapper m) (wrapped m)) (pairs_map (helper m) (tree_helper m) (helped p)))
