-- How many operands stand in rewritten code: at most as many as the parameters of a function, and a few.
use Rattle.std.proofs.Common.{◌≡◌, ℕ, ◌+◌, ◌-◌, ◌≤◌, List, [], ◌∷◌, ◌++◌, inl, inr, length, reverse, Option, Some, None, ap, ◌∙◌, subst, arith, slice_get, option_to_list, length-append}
use Rattle.std.proofs.lemmas.List.{length-reverse}
use Rattle.wasm_syntax.specs.declared.value.ValType.{ValType}
use Rattle.wasm_syntax.specs.declared.value.ValType.TheVariants.{I32}
use Rattle.wasm_syntax.specs.declared.instruction.Basic.{Basic}
use Rattle.wasm_syntax.specs.declared.parts.FuncType.{FuncType}
use Rattle.wasm_syntax.specs.declared.module.ModuleParts.{ModuleParts as Module}
use Rattle.wasm_syntax.specs.Tree.{Jump, Unreachable, Br, BrIf, BrTable, Return, Call, CallIndirect, Nodes, stop, basic, jump, block, loop, choose}
use Rattle.wasm_syntax.specs.Module.{type_at}
use Rattle.wasm_syntax.specs.Effect.{takes}
use Rattle.wasm_syntax.specs.Static.{Spot, Live}
use Rattle.wasm_syntax.specs.Typing.{Context, Arrow, arrow, within}
use Rattle.wasm_laws.proofs.Progress.{takes_len}
use Rattle.rewrite_modules.specs.calls.Bare.{bare_nodes}
use Rattle.wasm_syntax.specs.calls.Classes.{type_source, source_gives}
use Rattle.wasm_syntax.proofs.Classes.{counts}

-- ---- what an instruction takes and gives

abbrev pub gives_count : Basic → ℕ
gives_count i = source_gives (type_source i)

pub gives_len : (c : Context) (i : Basic) (t : ValType) (a : Arrow) → arrow c t i ≡ Some a → length a.gives ≡ gives_count i
gives_len c i t a e = (counts c t i a e).1

-- ---- nodes in which there are never more than so many operands

abbrev pub Under_call : Option FuncType → ℕ → (ℕ → Type 0) → Type 0
Under_call None h go = Unit {0}
Under_call (Some type) h go = go (length type.results + (h - length type.params))

abbrev Under_jump : Module → Jump → ℕ → (ℕ → Type 0) → Type 0
Under_jump m Unreachable h go = Unit {0}
Under_jump m (Br l) h go = Unit {0}
Under_jump m (BrIf l) h go = go (h - 1)
Under_jump m (BrTable ts d) h go = Unit {0}
Under_jump m Return h go = Unit {0}
Under_jump m (Call f) h go = Under_call (type_at m f) h go
Under_jump m (CallIndirect t) h go = Under_call (slice_get m.types t) (h - 1) go

-- where h operands are there before, over all open blocks
abbrev pub Under : Module → ℕ → ℕ → Nodes → Type 0
Under m N h stop = h ≤ N
Under m N h (basic o i rest) = (h ≤ N) × Under m N (gives_count i + (h - takes i)) rest
Under m N h (jump o j rest) = (h ≤ N) × Under_jump m j h (λ k. Under m N k rest)
Under m N h (block o t inner end rest) = (h ≤ N) × Under m N h inner × Under m N (length (option_to_list t) + h) rest
Under m N h (loop o t inner end rest) = (h ≤ N) × Under m N h inner × Under m N (length (option_to_list t) + h) rest
Under m N h (choose o t a else_at b end rest) =
    (h ≤ N) × Under m N (h - 1) a × Under m N (h - 1) b × Under m N (length (option_to_list t) + (h - 1)) rest

-- fewer before, fewer everywhere
module _ (m : Module) (N : ℕ) where
  fewer_call : (q : Option FuncType) (h k : ℕ) (rest : Nodes) → k ≤ h → ((a b : ℕ) → b ≤ a → Under m N a rest → Under m N b rest) → Under_call q h (λ k. Under m N k rest) → Under_call q k (λ k. Under m N k rest)
  fewer_call None h k rest le ih u = tt
  fewer_call (Some type) h k rest le ih u = ih (length type.results + (h - length type.params)) (length type.results + (k - length type.params)) (omega (arith, le)) u

  pub fewer : (nodes : Nodes) (h k : ℕ) → k ≤ h → Under m N h nodes → Under m N k nodes
  fewer stop h k le u = omega (arith, le, u)
  fewer (basic o i rest) h k le u = (omega (arith, le, u.0), fewer rest (gives_count i + (h - takes i)) (gives_count i + (k - takes i)) (omega (arith, le)) u.1)
  fewer (jump o Unreachable rest) h k le u = (omega (arith, le, u.0), tt)
  fewer (jump o (Br l) rest) h k le u = (omega (arith, le, u.0), tt)
  fewer (jump o (BrIf l) rest) h k le u = (omega (arith, le, u.0), fewer rest (h - 1) (k - 1) (omega (arith, le)) u.1)
  fewer (jump o (BrTable ts d) rest) h k le u = (omega (arith, le, u.0), tt)
  fewer (jump o Return rest) h k le u = (omega (arith, le, u.0), tt)
  fewer (jump o (Call f) rest) h k le u = (omega (arith, le, u.0), fewer_call (type_at m f) h k rest le (λ a b. fewer rest a b) u.1)
  fewer (jump o (CallIndirect t) rest) h k le u = (omega (arith, le, u.0), fewer_call (slice_get m.types t) (h - 1) (k - 1) rest (omega (arith, le)) (λ a b. fewer rest a b) u.1)
  fewer (block o t inner end rest) h k le u =
      (omega (arith, le, u.0), fewer inner h k le u.1, fewer rest (length (option_to_list t) + h) (length (option_to_list t) + k) (omega (arith, le)) u.2)
  fewer (loop o t inner end rest) h k le u =
      (omega (arith, le, u.0), fewer inner h k le u.1, fewer rest (length (option_to_list t) + h) (length (option_to_list t) + k) (omega (arith, le)) u.2)
  fewer (choose o t a ea b end rest) h k le u =
      (omega (arith, le, u.0), fewer a (h - 1) (k - 1) (omega (arith, le)) u.1, fewer b (h - 1) (k - 1) (omega (arith, le)) u.2, fewer rest (length (option_to_list t) + (h - 1)) (length (option_to_list t) + (k - 1)) (omega (arith, le)) u.3)

  -- offsets do not matter
  call_bare : (q : Option FuncType) (h : ℕ) (rest : Nodes) → ((k : ℕ) → Under m N k rest → Under m N k (bare_nodes rest)) → Under_call q h (λ k. Under m N k rest) → Under_call q h (λ k. Under m N k (bare_nodes rest))
  call_bare None h rest ih u = tt
  call_bare (Some type) h rest ih u = ih (length type.results + (h - length type.params)) u

  pub under_bare : (nodes : Nodes) (h : ℕ) → Under m N h nodes → Under m N h (bare_nodes nodes)
  under_bare stop h u = u
  under_bare (basic o i rest) h u = (u.0, under_bare rest (gives_count i + (h - takes i)) u.1)
  under_bare (jump o Unreachable rest) h u = (u.0, tt)
  under_bare (jump o (Br l) rest) h u = (u.0, tt)
  under_bare (jump o (BrIf l) rest) h u = (u.0, under_bare rest (h - 1) u.1)
  under_bare (jump o (BrTable ts d) rest) h u = (u.0, tt)
  under_bare (jump o Return rest) h u = (u.0, tt)
  under_bare (jump o (Call f) rest) h u = (u.0, call_bare (type_at m f) h rest (λ k. under_bare rest k) u.1)
  under_bare (jump o (CallIndirect t) rest) h u = (u.0, call_bare (slice_get m.types t) (h - 1) rest (λ k. under_bare rest k) u.1)
  under_bare (block o t inner end rest) h u = (u.0, under_bare inner h u.1, under_bare rest (length (option_to_list t) + h) u.2)
  under_bare (loop o t inner end rest) h u = (u.0, under_bare inner h u.1, under_bare rest (length (option_to_list t) + h) u.2)
  under_bare (choose o t a ea b end rest) h u = (u.0, under_bare a (h - 1) u.1, under_bare b (h - 1) u.2, under_bare rest (length (option_to_list t) + (h - 1)) u.3)

-- nor does it matter of which module they are, where functions and types are the same
module _ (m other : Module) (N : ℕ) (functions : (f : ℕ) → type_at m f ≡ type_at other f) (types : m.types ≡ other.types) where
  bare_call : (q r : Option FuncType) (h : ℕ) (rest : Nodes) → q ≡ r → ((k : ℕ) → Under m N k (bare_nodes rest) → Under other N k rest) → Under_call q h (λ k. Under m N k (bare_nodes rest)) → Under_call r h (λ k. Under other N k rest)
  bare_call q None h rest e ih u = tt
  bare_call q (Some type) h rest e ih u = ih (length type.results + (h - length type.params)) (subst (λ q. Under_call q h (λ k. Under m N k (bare_nodes rest))) e u)

  pub bare_under : (nodes : Nodes) (h : ℕ) → Under m N h (bare_nodes nodes) → Under other N h nodes
  bare_under stop h u = u
  bare_under (basic o i rest) h u = (u.0, bare_under rest (gives_count i + (h - takes i)) u.1)
  bare_under (jump o Unreachable rest) h u = (u.0, tt)
  bare_under (jump o (Br l) rest) h u = (u.0, tt)
  bare_under (jump o (BrIf l) rest) h u = (u.0, bare_under rest (h - 1) u.1)
  bare_under (jump o (BrTable ts d) rest) h u = (u.0, tt)
  bare_under (jump o Return rest) h u = (u.0, tt)
  bare_under (jump o (Call f) rest) h u = (u.0, bare_call (type_at m f) (type_at other f) h rest (functions f) (λ k. bare_under rest k) u.1)
  bare_under (jump o (CallIndirect t) rest) h u = (u.0, bare_call (slice_get m.types t) (slice_get other.types t) (h - 1) rest (ap (λ ts. slice_get ts t) types) (λ k. bare_under rest k) u.1)
  bare_under (block o t inner end rest) h u = (u.0, bare_under inner h u.1, bare_under rest (length (option_to_list t) + h) u.2)
  bare_under (loop o t inner end rest) h u = (u.0, bare_under inner h u.1, bare_under rest (length (option_to_list t) + h) u.2)
  bare_under (choose o t a ea b end rest) h u = (u.0, bare_under a (h - 1) u.1, bare_under b (h - 1) u.2, bare_under rest (length (option_to_list t) + (h - 1)) u.3)

-- ---- each live spot has at most so many

module _ (N : ℕ) where
  at_first : (nodes : Nodes) (here outside : List ValType) (s : Spot) → length here + length outside ≤ N → s ≡ record { nodes = nodes; here = here; outside = outside } → length s.here + length s.outside ≤ N
  at_first nodes here outside s le e = omega (arith, le, ap (λ z. length z.here) e, ap (λ z. length z.outside) e)

  pub few_at : (c : Context) (nodes : Nodes) (here outside : List ValType) (s : Spot) → Under c.module_ N (length here + length outside) nodes → Live c nodes here outside s → length s.here + length s.outside ≤ N
  few_at c stop here outside s u l = at_first stop here outside s u l
  few_at c (basic o i rest) here outside s u (inl e) = at_first (basic o i rest) here outside s u.0 e
  few_at c (basic o i rest) here outside s u (inr l) =
      let h = l.1 in
      let a = h.arrow_is in
      let t = takes_len c i h.any a h.has in
      let g = gives_len c i h.any a h.has in
      let before = ap length h.above.takes ∙ length-append a.takes h.above.below in
      let after = ap length h.above.gives ∙ length-append a.gives h.above.below in
      few_at c rest l.0 outside s (fewer c.module_ N rest (gives_count i + (length here + length outside - takes i)) (length l.0 + length outside) (omega (arith, t, g, before, after)) u.1) l.2
  few_at c (jump o j rest) here outside s u (inl e) = at_first (jump o j rest) here outside s u.0 e
  few_at c (jump o Unreachable rest) here outside s u (inr l) = absurd l.1
  few_at c (jump o (Br n) rest) here outside s u (inr l) = absurd l.1
  few_at c (jump o (BrIf n) rest) here outside s u (inr l) =
      let h = l.2.2 in
      let before = ap length h.takes ∙ length-append (I32 ∷ l.2.0) h.below in
      let after = ap length h.gives ∙ length-append l.2.0 h.below in
      few_at c rest l.0 outside s (fewer c.module_ N rest (length here + length outside - 1) (length l.0 + length outside) (omega (arith, before, after)) u.1) l.3
  few_at c (jump o (BrTable ts d) rest) here outside s u (inr l) = absurd l.1
  few_at c (jump o Return rest) here outside s u (inr l) = absurd l.1
  few_at c (jump o (Call f) rest) here outside s u (inr l) =
      let type = l.2.0 in
      let h = l.2.2 in
      let before = ap length h.takes ∙ length-append (reverse type.params) h.below in
      let after = ap length h.gives ∙ length-append (reverse type.results) h.below in
      let u1 : Under c.module_ N (length type.results + (length here + length outside - length type.params)) rest = subst (λ q. Under_call q (length here + length outside) (λ k. Under c.module_ N k rest)) l.2.1 u.1 in
      few_at c rest l.0 outside s (fewer c.module_ N rest (length type.results + (length here + length outside - length type.params)) (length l.0 + length outside) (omega (arith, before, after, length-reverse type.params, length-reverse type.results)) u1) l.3
  few_at c (jump o (CallIndirect t) rest) here outside s u (inr l) =
      let type = l.2.0 in
      let h = l.2.3 in
      let before = ap length h.takes ∙ length-append (I32 ∷ reverse type.params) h.below in
      let after = ap length h.gives ∙ length-append (reverse type.results) h.below in
      let u1 : Under c.module_ N (length type.results + (length here + length outside - 1 - length type.params)) rest = subst (λ q. Under_call q (length here + length outside - 1) (λ k. Under c.module_ N k rest)) l.2.2 u.1 in
      few_at c rest l.0 outside s (fewer c.module_ N rest (length type.results + (length here + length outside - 1 - length type.params)) (length l.0 + length outside) (omega (arith, before, after, length-reverse type.params, length-reverse type.results)) u1) l.3
  few_at c (block o t inner end rest) here outside s u (inl e) = at_first (block o t inner end rest) here outside s u.0 e
  few_at c (block o t inner end rest) here outside s u (inr (inl l)) =
      few_at (within c (option_to_list t)) inner [] (here ++ outside) s (fewer c.module_ N inner (length here + length outside) (length {A = ValType} [] + length (here ++ outside)) (omega (arith, length-append here outside)) u.1) l
  few_at c (block o t inner end rest) here outside s u (inr (inr l)) =
      few_at c rest (option_to_list t ++ here) outside s (fewer c.module_ N rest (length (option_to_list t) + (length here + length outside)) (length (option_to_list t ++ here) + length outside) (omega (arith, length-append (option_to_list t) here)) u.2) l
  few_at c (loop o t inner end rest) here outside s u (inl e) = at_first (loop o t inner end rest) here outside s u.0 e
  few_at c (loop o t inner end rest) here outside s u (inr (inl l)) =
      few_at (within c []) inner [] (here ++ outside) s (fewer c.module_ N inner (length here + length outside) (length {A = ValType} [] + length (here ++ outside)) (omega (arith, length-append here outside)) u.1) l
  few_at c (loop o t inner end rest) here outside s u (inr (inr l)) =
      few_at c rest (option_to_list t ++ here) outside s (fewer c.module_ N rest (length (option_to_list t) + (length here + length outside)) (length (option_to_list t ++ here) + length outside) (omega (arith, length-append (option_to_list t) here)) u.2) l
  few_at c (choose o t a ea b end rest) here outside s u (inl e) = at_first (choose o t a ea b end rest) here outside s u.0 e
  few_at c (choose o t a ea b end rest) here outside s u (inr (v, e, inl l)) =
      few_at (within c (option_to_list t)) a [] (v ++ outside) s (fewer c.module_ N a (length here + length outside - 1) (length {A = ValType} [] + length (v ++ outside)) (omega (arith, ap length e, length-append v outside)) u.1) l
  few_at c (choose o t a ea b end rest) here outside s u (inr (v, e, inr (inl l))) =
      few_at (within c (option_to_list t)) b [] (v ++ outside) s (fewer c.module_ N b (length here + length outside - 1) (length {A = ValType} [] + length (v ++ outside)) (omega (arith, ap length e, length-append v outside)) u.2) l
  few_at c (choose o t a ea b end rest) here outside s u (inr (v, e, inr (inr l))) =
      few_at c rest (option_to_list t ++ v) outside s (fewer c.module_ N rest (length (option_to_list t) + (length here + length outside - 1)) (length (option_to_list t ++ v) + length outside) (omega (arith, ap length e, length-append (option_to_list t) v)) u.3) l
