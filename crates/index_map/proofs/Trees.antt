-- The types that trees use are those that their flat code uses, and in a valid module each is there.
use Rattle.std.proofs.Common.{◌≡◌, ℕ, zero, suc, ◌+◌, ◌-◌, ◌<◌, false, nat_lt, if◌then◌else◌, List, [], ◌∷◌, ◌++◌, length, reverse, slice_get, Some, None, refl, sym, ap, subst, ◌∙◌, arith, append-nil}
use Rattle.std.specs.Prelude.{IfSome}
use Rattle.std.proofs.lemmas.Bool.Decides.{nat_tests}
use Rattle.std.proofs.lemmas.Option.{slice_get_within}
use Rattle.wasm_syntax.specs.declared.parts.Body.{Body}
use Rattle.wasm_syntax.specs.declared.parts.FuncType.{FuncType}
use Rattle.wasm_syntax.specs.declared.value.ValType.{ValType}
use Rattle.wasm_syntax.specs.declared.module.ModuleParts.{ModuleParts as Module}
use Rattle.wasm_syntax.specs.declared.place.Place.TheVariants.{Function}
use Rattle.wasm_syntax.specs.Tree.{Unreachable, Br, BrIf, BrTable, Return, Call, CallIndirect, Nodes, stop, basic, jump, block, loop, choose, code_of}
use Rattle.wasm_syntax.specs.Module.{Program, IsProgram}
use Rattle.wasm_syntax.specs.Typing.{Context, Types, IsBody, body_context}
use Rattle.wasm_syntax.specs.Valid.{Valid, There, BodyFine, defined_index}
use Rattle.wasm_laws.proofs.Lists.{all_append, there_at}
use Rattle.rewrite_bodies.specs.Numbering.{uses, distinct, helped}
use Rattle.rewrite_modules.specs.Weight.{types_used}
use Rattle.index_map.specs.inner.Used.{AllBelow, ops_used, bodies_used}
use Rattle.rewrite_modules.proofs.CodeLengths.{all_used}

pub helped_used : (p : Program) → IsProgram p → helped p ≡ types_used p.module_
helped_used p w = ap distinct (all_used p.module_.bodies p.trees w)

pub of_module : (m : Module) (us : List ℕ) (p : Program) → us ≡ types_used m → IsProgram p → p.module_ ≡ m → us ≡ helped p
of_module m us p e w q = e ∙ sym (ap types_used q) ∙ sym (helped_used p w)

module _ (m : Module) where
  abbrev n : ℕ
  n = length m.types

  both : (xs ys : List ℕ) → AllBelow n xs → AllBelow n ys → AllBelow n (xs ++ ys)
  both xs ys h k = all_append (λ t. t < n) xs ys h k

  uses_below : (C : Context) (nodes : Nodes) (before after : List ValType) → C.module_ ≡ m → Types C nodes before after → AllBelow n (uses nodes)
  uses_below C stop before after e h = tt
  uses_below C (basic at i rest) before after e h = uses_below C rest h.0 after e h.2
  uses_below C (jump at Unreachable rest) before after e h = uses_below C rest h.0 after e h.2
  uses_below C (jump at (Br l) rest) before after e h = uses_below C rest h.0 after e h.2
  uses_below C (jump at (BrIf l) rest) before after e h = uses_below C rest h.0 after e h.2
  uses_below C (jump at (BrTable ts d) rest) before after e h = uses_below C rest h.0 after e h.2
  uses_below C (jump at Return rest) before after e h = uses_below C rest h.0 after e h.2
  uses_below C (jump at (Call f) rest) before after e h = uses_below C rest h.0 after e h.2
  uses_below C (jump at (CallIndirect t) rest) before after e h =
      (subst (λ (x : Module). t < length x.types) e (slice_get_within C.module_.types t h.1.0 h.1.2), uses_below C rest h.0 after e h.2)
  uses_below C (block at t inner end rest) before after e h = both (uses inner) (uses rest) (uses_below _ inner _ _ e h.0) (uses_below C rest _ after e h.1)
  uses_below C (loop at t inner end rest) before after e h = both (uses inner) (uses rest) (uses_below _ inner _ _ e h.0) (uses_below C rest _ after e h.1)
  uses_below C (choose at t a ea b end rest) before after e h =
      both (uses a) (uses b ++ uses rest) (uses_below _ a _ _ e h.0) (both (uses b) (uses rest) (uses_below _ b _ _ e h.1) (uses_below C rest _ after e h.4))

  body_below : (type : FuncType) (body : Body) → IsBody m type body (code_of body.targets body.ops) → AllBelow n (ops_used body.ops)
  body_below type body b =
      let e = all_used (body ∷ []) (b.tree ∷ []) (b.writes, tt) in
      subst (λ us. AllBelow n us) (sym (append-nil (uses b.tree.nodes)) ∙ e ∙ append-nil (ops_used body.ops)) (uses_below (body_context m type body) b.tree.nodes [] (reverse type.results) refl b.typed)

  each_below : (bodies : List Body) → ((i : ℕ) (b : Body) → slice_get bodies i ≡ Some b → AllBelow n (ops_used b.ops)) → AllBelow n (bodies_used bodies)
  each_below [] h = tt
  each_below (b ∷ bs) h = both (ops_used b.ops) (bodies_used bs) (h zero b refl) (each_below bs (λ i c e. h (suc i) c e))

  defined_is : (i : ℕ) → defined_index m (length m.imports + i) ≡ Some i
  defined_is i =
      let k = length m.imports in
      let no : nat_lt (k + i) k ≡ false = grind (arith, nat_tests) in
      let same : k + i - k ≡ i = omega arith in
      ap (λ q. if q then None else Some (k + i - k)) no ∙ ap Some same

  -- each type that a valid module uses is one of its types
  pub valid_below : Valid m → AllBelow n (bodies_used m.bodies)
  valid_below v = each_below m.bodies (λ i body at.
      let f = length m.imports + i in
      let there : There m.bodies i (BodyFine m f) = subst (λ o. IfSome o (λ j. There m.bodies j (BodyFine m f))) (defined_is i) (v (Function f 0)) in
      let fine = there_at (BodyFine m f) m.bodies i body there at in
      body_below fine.0 body fine.2)
