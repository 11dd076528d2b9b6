-- Bodies that are the same but for offsets.
use Rattle.std.proofs.Common.{◌≡◌, ℕ, ◌+◌, List, [], ◌∷◌, length, map, reverse, Some, slice_get, refl, sym, ap, ◌∙◌, subst}
use Rattle.std.proofs.lemmas.List.{length-map}
use Rattle.wasm_syntax.specs.declared.instruction.Instr.{Instr}
use Rattle.wasm_syntax.specs.declared.instruction.Op.{Op}
use Rattle.wasm_syntax.specs.declared.parts.LocalGroup.{LocalGroup}
use Rattle.wasm_syntax.specs.declared.parts.Body.{Body}
use Rattle.wasm_syntax.specs.declared.module.ModuleParts.{ModuleParts as Module}
use Rattle.wasm_syntax.specs.Tree.{item_of, code_of, Writes}
use Rattle.wasm_syntax.specs.Machine.{result_of}
use Rattle.wasm_syntax.specs.Typing.{Context, Types, body_context}
use Rattle.wasm_syntax.specs.FlatTyping.{OpenBlock, FlatStep, FlatTypes, body_block}
use Rattle.wasm_syntax.specs.Valid.{Valid, BodyFine}
use Rattle.wasm_laws.proofs.FlatBodies.{body_steps, steps_body}
use Rattle.wasm_syntax.specs.SameCode.{op_code, body_code}
use Rattle.rewrite_modules.proofs.FineBodies.{fine_at, gives_one}

abbrev pub codes_of : List Op → List Instr
codes_of ops = map (λ o. o.code) ops

bare_codes : (ops : List Op) → codes_of (map op_code ops) ≡ codes_of ops
bare_codes [] = refl
bare_codes (o ∷ os) = ap (λ (is : List Instr). o.code ∷ is) (bare_codes os)

pub record Alike (b c : Body) : Type 0 where
  pub codes : codes_of b.ops ≡ codes_of c.ops
  pub targets : b.targets ≡ c.targets
  pub count : length b.ops ≡ length c.ops

pub alike : (b c : Body) → body_code b ≡ body_code c → Alike b c
alike b c e =
    let ops : map op_code b.ops ≡ map op_code c.ops = ap (λ (x : Body). x.ops) e in
    record {
      codes = sym (bare_codes b.ops) ∙ ap codes_of ops ∙ bare_codes c.ops;
      targets = ap (λ (x : Body). x.targets) e;
      count = sym (length-map b.ops op_code) ∙ ap length ops ∙ length-map c.ops op_code;
    }

-- flat steps do not look at offsets
same_steps : (c : Context) (T : List ℕ) (xs ys : List Op) (before after : List OpenBlock) → codes_of xs ≡ codes_of ys → FlatTypes c before (code_of T ys) after → FlatTypes c before (code_of T xs) after
same_steps c T [] [] before after e h = h
same_steps c T [] (y ∷ ys) before after e h = absurd cc
same_steps c T (x ∷ xs) [] before after e h = absurd cc
same_steps c T (x ∷ xs) (y ∷ ys) before after e h =
    let first : y.code ≡ x.code = cc in
    let rest : codes_of xs ≡ codes_of ys = cc in
    (h.0, subst (λ (i : Instr). FlatStep c before (item_of T i) h.0) first h.1, same_steps c T xs ys h.0 after rest h.2)

-- where the one is typed in a module, the other would be
pub fine_same : (n : Module) (i : ℕ) (c b : Body) → Valid n → slice_get n.bodies i ≡ Some c → body_code b ≡ body_code c → BodyFine n (length n.imports + i) b
fine_same n i c b valid at e =
    let same = alike b c e in
    let fine = fine_at n i c valid at in
    let type = fine.0 in
    let result = result_of type in
    let gives = gives_one n (length n.imports + i) type valid fine.1 in
    let all = body_steps n type c result (code_of c.targets c.ops) gives fine.2 in
    let is = steps_body n type c result (code_of c.targets b.ops) gives (same_steps (body_context n type c) c.targets b.ops c.ops (body_block result) [] same.codes all) in (
      type,
      fine.1,
      record {
        tree = is.tree;
        writes = subst (λ (ts : List ℕ). Writes ts b.ops is.tree) (sym same.targets) is.writes;
        typed = subst (λ (gs : List LocalGroup). Types (body_context n type (record c { groups = gs })) is.tree.nodes [] (reverse type.results)) (sym (ap (λ (x : Body). x.groups) e)) is.typed;
      },
    )
