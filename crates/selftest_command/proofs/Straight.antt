-- Runs of straight code.
use Rattle.std.proofs.Common.{◌≡◌, ℕ, suc, ◌+◌, List, [], ◌∷◌, ◌++◌, length, sym, ap, subst, ◌∙◌, arith, Option}
use Rattle.wasm_syntax.specs.declared.value.ValType.{ValType}
use Rattle.wasm_syntax.specs.declared.value.Value.{Value}
use Rattle.wasm_syntax.specs.declared.host.CollectorCall.{CollectorCall}
use Rattle.wasm_syntax.specs.declared.instruction.Basic.{Basic}
use Rattle.wasm_syntax.specs.declared.instruction.Jump.TheVariants as jumps
use Rattle.wasm_syntax.specs.declared.instruction.Instr.{Instr}
use Rattle.wasm_syntax.specs.declared.instruction.Instr.TheVariants as instr
use Rattle.wasm_syntax.specs.Tree.{Call, Nodes, stop, basic, jump}
use Rattle.wasm_syntax.specs.Host.{World}
use Rattle.wasm_syntax.specs.Effect.{gives, effect, takes}
use Rattle.wasm_syntax.specs.Machine.{Engine, Frame, Config, frame, label, config, returns, parts, cut, next, affects, does, step}
use Rattle.wasm_syntax.specs.Run.{run_on, run_steps}

-- ---- nodes

-- the nodes are these instructions, at some offsets
abbrev pub Follows : List Instr → Nodes → Type 0
Follows [] nodes = nodes ≡ stop
Follows (instr.Basic i ∷ is) nodes = (at : ℕ) × (rest : Nodes) × (nodes ≡ basic at i rest) × Follows is rest
Follows (instr.Jump (jumps.Call f) ∷ is) nodes = (at : ℕ) × (rest : Nodes) × (nodes ≡ jump at (Call f) rest) × Follows is rest
Follows (i ∷ is) nodes = ⊥

-- ---- steps

module _ (M : Engine) where
  -- after so many steps the run is there
  abbrev pub Leads : ℕ → Config → Config → Type 0
  Leads k c d = (r : ℕ) → run_steps M (k + r) c ≡ run_steps M r d

  pub one_step : (c d : Config) → step M c ≡ next d → Leads 1 c d
  one_step c d e r = let f : 1 + r ≡ suc r = omega arith in ap (λ k. run_steps M k c) f ∙ ap (run_on M (run_steps M r) r) e

  pub no_step : (c : Config) → Leads 0 c c
  no_step c r = let f : 0 + r ≡ r = omega arith in ap (λ k. run_steps M k c) f

  pub then_leads : (a b : ℕ) (c d e : Config) → Leads a c d → Leads b d e → Leads (a + b) c e
  then_leads a b c d e one two r = let f : a + b + r ≡ a + (b + r) = omega arith in ap (λ k. run_steps M k c) f ∙ one (b + r) ∙ two r

  module _ (f : ℕ) (t : Option ValType) (call : ℕ) (ls : List Value) (end : ℕ) (fs : List Frame) (co : List CollectorCall) where
    -- in a body, with these operands and nodes
    abbrev pub here : List Value → Nodes → World → Config
    here ops nodes w = config (frame f t call ls (label ops nodes end (returns t) ∷ []) ∷ fs) w co

    pub record Goes (i : Basic) (ops ops' : List Value) (w w' : World) : Type 0 where
      pub taken : List Value
      pub below : List Value
      pub results : List Value
      pub cuts : cut (takes i) ops ≡ parts taken below
      pub gives_ : effect i w ls taken ≡ gives w' ls results
      pub after : ops' ≡ results ++ below

    pub goes_on : (i : Basic) (at : ℕ) (rest : Nodes) (ops ops' : List Value) (w w' : World) → Goes i ops ops' w w' → step M (here ops (basic at i rest) w) ≡ next (here ops' rest w')
    goes_on i at rest ops ops' w w' g =
        let l = label ops (basic at i rest) end (returns t) in
        let fr = frame f t call ls (l ∷ []) in
        ap (λ x. does M i x rest fr l [] fs w co) g.cuts ∙ ap (λ x. affects M x g.below rest fr l [] fs w co) g.gives_ ∙ ap (λ o. next (here o rest w')) (sym g.after)

    abbrev pub AllGo : List Instr → (ops ops' : List Value) → (w w' : World) → Type 0
    AllGo [] ops ops' w w' = (ops ≡ ops') × (w ≡ w')
    AllGo (instr.Basic i ∷ is) ops ops' w w' = (mid : List Value) × (wm : World) × Goes i ops mid w wm × AllGo is mid ops' wm w'
    AllGo (i ∷ is) ops ops' w w' = ⊥

    pub go_append : (xs ys : List Instr) (a b c : List Value) (u v w : World) → AllGo xs a b u v → AllGo ys b c v w → AllGo (xs ++ ys) a c u w
    go_append [] ys a b c u v w (ea, eu) k = subst (λ z. AllGo ys z c u w) (sym ea) (subst (λ z. AllGo ys b c z w) (sym eu) k)
    go_append (instr.Basic i ∷ xs) ys a b c u v w (mid, wm, g, h) k = (mid, wm, g, go_append xs ys mid b c wm v w h k)
    go_append (i ∷ xs) ys a b c u v w h k = absurd h

    -- straight code in front of other nodes
    pub record Through (is tail : List Instr) (nodes : Nodes) (ops ops' : List Value) (w w' : World) : Type 0 where
      pub rest : Nodes
      pub follows : Follows tail rest
      pub leads : Leads (length is) (here ops nodes w) (here ops' rest w')

    pub through : (is tail : List Instr) (nodes : Nodes) (ops ops' : List Value) (w w' : World) → AllGo is ops ops' w w' → Follows (is ++ tail) nodes → Through is tail nodes ops ops' w w'
    through [] tail nodes ops ops' w w' (eo, ew) fl = record {
      rest = nodes;
      follows = fl;
      leads = subst (λ z. Leads 0 (here ops nodes w) (here z nodes w')) eo (subst (λ z. Leads 0 (here ops nodes w) (here ops nodes z)) ew (no_step (here ops nodes w)));
    }
    through (instr.Basic i ∷ is) tail nodes ops ops' w w' (mid, wm, g, h) (at, behind, is_node, fl) =
        let k = through is tail behind mid ops' wm w' h fl in
        let first : Leads 1 (here ops (basic at i behind) w) (here mid behind wm) = one_step (here ops (basic at i behind) w) (here mid behind wm) (goes_on i at behind ops mid w wm g) in
        let all : Leads (1 + length is) (here ops (basic at i behind) w) (here ops' k.rest w') = then_leads 1 (length is) (here ops (basic at i behind) w) (here mid behind wm) (here ops' k.rest w') first k.leads in
        let e : 1 + length is ≡ suc (length is) = omega arith in
        record {
          rest = k.rest;
          follows = k.follows;
          leads = subst (λ z. Leads (suc (length is)) (here ops z w) (here ops' k.rest w')) (sym is_node) (subst (λ z. Leads z (here ops (basic at i behind) w) (here ops' k.rest w')) e all);
        }
    through (i ∷ is) tail nodes ops ops' w w' h fl = absurd h
