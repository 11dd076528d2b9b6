-- In a well-typed body, an `if` without `else` gives nothing.
use Rattle.std.proofs.Common.{◌≡◌, List, [], ◌∷◌, ◌++◌, Option, Some, None, refl, subst, option_to_list}
use Rattle.wasm_syntax.specs.declared.value.ValType.{ValType}
use Rattle.wasm_syntax.specs.Tree.{Nodes, stop, basic, jump, block, loop, choose, IsTree}
use Rattle.wasm_syntax.specs.Typing.{Context, Types, within}
use Rattle.operand_spill.specs.calls.Standing.{Armed}

gives_none : (c : Context) (t : Option ValType) (b : Nodes) → b ≡ stop → Types c b [] (option_to_list t) → t ≡ None
gives_none c None b e ty = refl
gives_none c (Some t) b e ty = absurd (let z : [] ≡ t ∷ [] = subst (λ n. Types c n [] (t ∷ [])) e ty in cc)

pub armed : (c : Context) (nodes : Nodes) (before after : List ValType) → IsTree nodes → Types c nodes before after → Armed nodes
armed c stop before after it ty = tt
armed c (basic at i rest) before after it ty = armed c rest ty.0 after it ty.2
armed c (jump at j rest) before after it ty = armed c rest ty.0 after it ty.2
armed c (block at t inner end rest) before after it ty =
    (armed (within c (option_to_list t)) inner [] (option_to_list t) it.0 ty.0, armed c rest (option_to_list t ++ before) after it.1 ty.1)
armed c (loop at t inner end rest) before after it ty =
    (armed (within c []) inner [] (option_to_list t) it.0 ty.0, armed c rest (option_to_list t ++ before) after it.1 ty.1)
armed c (choose at t a None b end rest) before after it ty = (
  gives_none (within c (option_to_list t)) t b it.1 ty.1,
  it.1,
  armed (within c (option_to_list t)) a [] (option_to_list t) it.0 ty.0,
  armed c rest (option_to_list t ++ ty.2) after it.3 ty.4,
)
armed c (choose at t a (Some else_at) b end rest) before after it ty = (
  armed (within c (option_to_list t)) a [] (option_to_list t) it.0 ty.0,
  armed (within c (option_to_list t)) b [] (option_to_list t) it.2 ty.1,
  armed c rest (option_to_list t ++ ty.2) after it.3 ty.4,
)
