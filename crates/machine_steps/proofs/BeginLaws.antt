-- A function is begun from outside of all frames.
use Rattle.std.proofs.Common.{◌≡◌, ℕ, ◌+◌, ◌-◌, ◌<◌, List, [], ◌∷◌, ◌++◌, length, reverse, take, get_or, refl, sym, ap, subst, ◌∙◌, add-one, append_assoc, length-append, arith}
use Rattle.std.proofs.lemmas.List.{length-reverse, reverse-append, append-nil}
use Rattle.std.proofs.Math.Seq.{take-suc}
use Rattle.std.specs.Prelude.{Some, None, slice_get}
use Rattle.wasm_syntax.specs.declared.value.Value.{Value}
use Rattle.wasm_syntax.specs.declared.parts.FuncType.{FuncType}
use Rattle.wasm_syntax.specs.declared.parts.Body.{Body}
use Rattle.wasm_syntax.specs.Tree.{Tree, End}
use Rattle.wasm_syntax.specs.Module.{Program, defined, defined_at, declared_locals}
use Rattle.wasm_syntax.specs.Machine.{returns, label, zeros, result_of, entered}
use Rattle.machine_code.specs.declared.code.Code.{Code}
use Rattle.machine_code.specs.calls.Flat.{Is, size}
use Rattle.machine_code.specs.calls.Code.{items, FitsCode, Prepares}
use Rattle.machine_steps.specs.declared.layout.CallStack.{CallStack}
use Rattle.machine_steps.specs.declared.layout.Stepped.{Stepped}
use Rattle.machine_steps.specs.declared.layout.Stepped.TheVariants.{Next, Ended, Trap, NoMemory, Stuck}
use Rattle.machine_steps.specs.calls.Layout.{Level, StandsFor}
use Rattle.machine_steps.specs.calls.FramesMeet.{Begun}
use Rattle.machine_steps.specs.inner.Moves.{Becomes}
use Rattle.pm_text.proofs.Lists.{some_is}

-- one argument more
pub one_value : (args : List Value) (i : ℕ) (d : Value) (old values : List Value) → i < length args → values ≡ reverse (take i args) ++ old → get_or args i d ∷ values ≡ reverse (take (i + 1) args) ++ old
one_value args i d old values lt e =
    let taken : take (i + 1) args ≡ take i args ++ get_or args i d ∷ [] = ap (λ n. take n args) (add-one i) ∙ take-suc args i d lt in
    ap (λ l. get_or args i d ∷ l) e ∙ ap (λ l. l ++ old) (sym (ap reverse taken ∙ reverse-append (take i args) (get_or args i d ∷ [])))

module _ (p : Program) (codes : List Code) (prepares : Prepares p codes) (function : ℕ) (body : Body) (tree : Tree) (type : FuncType) (is : defined_at p function ≡ Some (defined body tree type)) (callee : Code) (callee_is : slice_get codes function ≡ Some callee) (args : List Value) (count : length args ≡ length type.params) where
  abbrev locals : List Value
  locals = args ++ zeros (declared_locals body.groups)

  abbrev pub stack : ℕ → CallStack
  stack pos = record {
    values = reverse (zeros (declared_locals callee.body.now.groups)) ++ (reverse args ++ []);
    controls = [];
    frames = record { function = function; base = length (reverse args ++ []) - callee.params; floor = length (reverse (zeros (declared_locals callee.body.now.groups)) ++ (reverse args ++ [])); controls = 0; returns_to = 0 } ∷ [];
    position = 0;
  }

  body_is : body ≡ callee.body.now
  body_is = let k = prepares.at function body tree type is in sym k.2 ∙ ap (λ (c : Code). c.body.now) (some_is (sym k.1 ∙ callee_is))

  fits : FitsCode tree type callee
  fits = let k = prepares.at function body tree type is in subst (λ (c : Code). FitsCode tree type c) (some_is (sym k.1 ∙ callee_is)) k.3

  stands : StandsFor p codes (stack 0) (entered (length p.module_.imports + function) body tree type args ∷ [])
  stands =
      let values : reverse (zeros (declared_locals callee.body.now.groups)) ++ (reverse args ++ []) ≡ reverse (args ++ zeros (declared_locals body.groups)) ++ [] =
      ap (λ (b : Body). reverse (zeros (declared_locals b.groups)) ++ (reverse args ++ [])) (sym body_is) ∙ sym (append_assoc (reverse (zeros (declared_locals body.groups))) (reverse args) []) ∙ ap (λ l. l ++ []) (sym (reverse-append args (zeros (declared_locals body.groups)))) in
      let many : length (reverse args ++ []) ≡ length args = ap length (append-nil (reverse args)) ∙ length-reverse args in
      let zero_plus : 0 + size tree.nodes ≡ size tree.nodes = omega arith in
      let f : FitsCode tree type callee = fits in
      let level : Level p codes (length p.module_.imports + function) (result_of type) (args ++ zeros (declared_locals body.groups)) (label [] tree.nodes tree.end (returns (result_of type)) ∷ [])
      (record { function = function; base = length (reverse args ++ []) - callee.params; floor = length (reverse (zeros (declared_locals callee.body.now.groups)) ++ (reverse args ++ [])); controls = 0; returns_to = 0 }) callee 0 [] (reverse (zeros (declared_locals callee.body.now.groups)) ++ (reverse args ++ [])) [] [] =
      record {
        tree = tree;
        type = type;
        is_defined = is ∙ ap (λ b. Some (defined b tree type)) body_is;
        index = refl;
        code_is = callee_is;
        fits = f;
        result_is = refl;
        base = omega (arith, many, count, f.params);
        controls = refl;
        floor = ap length values ∙ length-append (reverse (args ++ zeros (declared_locals body.groups))) [] ∙ ap (λ n. n + 0) (length-reverse (args ++ zeros (declared_locals body.groups)));
        mine = [];
        ks_are = refl;
        vs_are = values;
        labels_are = (f.stands.nodes, (subst (λ n. Is (items callee) callee.sides n tree.end End) (sym zero_plus) f.stands.end, refl, refl, refl));
      } in
      (callee, [], [], level, (refl, refl))

  pub begun : (a : Stepped) (m : CallStack) → Becomes a m (stack 0) → Begun p codes function body tree type args a m
  begun Next m b = subst (λ (k : CallStack). StandsFor p codes k (entered (length p.module_.imports + function) body tree type args ∷ [])) (sym b) stands
  begun NoMemory m b = tt
  begun Ended m b = absurd b
  begun (Trap kind) m b = absurd b
  begun Stuck m b = absurd b

  pub same_stack : (k : CallStack) (vs : List Value) → k.controls ≡ [] → k.frames ≡ [] → vs ≡ reverse args ++ [] →
      record { values = reverse (zeros (declared_locals callee.body.now.groups)) ++ vs; controls = k.controls; frames = record { function = function; base = length vs - callee.params; floor = length (reverse (zeros (declared_locals callee.body.now.groups)) ++ vs); controls = length k.controls; returns_to = 0 } ∷ k.frames; position = 0 } ≡ stack 0
  same_stack k vs kc kf v = λ i. record { values = reverse (zeros (declared_locals callee.body.now.groups)) ++ v i; controls = kc i; frames = record { function = function; base = length (v i) - callee.params; floor = length (reverse (zeros (declared_locals callee.body.now.groups)) ++ v i); controls = length (kc i); returns_to = 0 } ∷ kf i; position = 0 }

pub no_code : (p : Program) (codes : List Code) → Prepares p codes → (function : ℕ) (body : Body) (tree : Tree) (type : FuncType) → defined_at p function ≡ Some (defined body tree type) → slice_get codes function ≡ None → ⊥
no_code p codes prep function body tree type is e = let k = prep.at function body tree type is in let no : None ≡ Some k.0 = sym e ∙ k.1 in cc
