-- Flat steps one behind another, and their closing.
use Rattle.std.proofs.Common.{◌≡◌, List, [], ◌∷◌, ◌++◌, map, refl, sym, ap, subst, ◌∙◌}
use Rattle.std.specs.Prelude.{Option, option_to_list}
use Rattle.wasm_syntax.specs.declared.blocks.BlockKind.{BlockKind}
use Rattle.wasm_syntax.specs.declared.blocks.BlockKind.TheVariants.{Loop, Then}
use Rattle.wasm_syntax.specs.declared.blocks.BlockKind.TheVariants as kinds
use Rattle.wasm_syntax.specs.declared.value.ValType.{ValType}
use Rattle.wasm_syntax.specs.Tree.{Item, Plain, Goes, Opens, OpensLoop, OpensIf, Else, End, Placed}
use Rattle.wasm_syntax.specs.Typing.{Context, closing_of, open_next, open_behind}
use Rattle.wasm_syntax.specs.FlatTyping.{OpenBlock, opened, given, FlatStep, FlatTypes}

pub steps_split : (c : Context) (ps qs : List Placed) (gs hs : List OpenBlock) → FlatTypes c gs (ps ++ qs) hs → (between : List OpenBlock) × FlatTypes c gs ps between × FlatTypes c between qs hs
steps_split c [] qs gs hs h = (gs, refl, h)
steps_split c (p ∷ ps) qs gs hs h = let s = steps_split c ps qs h.0 hs h.2 in (s.0, (h.0, h.1, s.1), s.2)

pub steps_join : (c : Context) (ps qs : List Placed) (gs between hs : List OpenBlock) → FlatTypes c gs ps between → FlatTypes c between qs hs → FlatTypes c gs (ps ++ qs) hs
steps_join c [] qs gs between hs h k = subst (λ x. FlatTypes c x qs hs) (sym h) k
steps_join c (p ∷ ps) qs gs between hs h k = (h.0, h.1, steps_join c ps qs h.0 between hs h.2 k)

-- ---- what is open, and its closing

abbrev pub opens : List OpenBlock → List BlockKind
opens gs = map (λ g. g.kind) gs

opens_given : (ts : List ValType) (gs : List OpenBlock) → opens (given ts gs) ≡ opens gs
opens_given ts [] = refl
opens_given ts (g ∷ gs) = refl

pub opens_step : (c : Context) (i : Item) (gs hs : List OpenBlock) → FlatStep c gs i hs → opens hs ≡ open_next (opens gs) i
opens_step c i [] hs h = absurd h
opens_step c (Plain i) (g ∷ gs) hs h = ap opens h.2
opens_step c (Goes j) (g ∷ gs) hs h = ap opens h.2
opens_step c (Opens t) (g ∷ gs) hs h = ap opens h
opens_step c (OpensLoop t) (g ∷ gs) hs h = ap opens h
opens_step c (OpensIf t) (g ∷ gs) hs h = ap opens h.2
opens_step c Else (g ∷ gs) hs h = ap opens h.2
opens_step c End (g ∷ gs) hs h = ap opens h.2 ∙ opens_given (option_to_list g.result) gs

pub opens_steps : (c : Context) (ps : List Placed) (gs hs : List OpenBlock) → FlatTypes c gs ps hs → opens hs ≡ open_behind (opens gs) ps
opens_steps c [] gs hs h = ap opens (sym h)
opens_steps c (p ∷ ps) gs hs h = opens_steps c ps h.0 hs h.2 ∙ ap (λ o. open_behind o ps) (opens_step c p.code gs h.0 h.1)

-- the closing goes on from any types
closes_one : (c : Context) (kind : BlockKind) (result : Option ValType) (types : List ValType) (gs : List OpenBlock) → FlatTypes c (given (option_to_list result) gs) (closing_of (opens gs)) [] → FlatTypes c (opened kind result types ∷ gs) (closing_of (kind ∷ opens gs)) []
closes_one c kinds.Plain result types gs k =
    (opened kinds.Plain result (option_to_list result) ∷ gs, (option_to_list result, tt, refl), (given (option_to_list result) gs, (refl, tt, refl), k))
closes_one c Loop result types gs k =
    (opened Loop result (option_to_list result) ∷ gs, (option_to_list result, tt, refl), (given (option_to_list result) gs, (refl, tt, refl), k))
closes_one c Then result types gs k = (
  opened Then result (option_to_list result) ∷ gs,
  (option_to_list result, tt, refl),
  (
    opened kinds.Plain result [] ∷ gs,
    (refl, refl, refl),
    (opened kinds.Plain result (option_to_list result) ∷ gs, (option_to_list result, tt, refl), (given (option_to_list result) gs, (refl, tt, refl), k)),
  ),
)

closes_given : (c : Context) (ts : List ValType) (gs : List OpenBlock) → FlatTypes c (given ts gs) (closing_of (opens gs)) []
closes_given c ts [] = refl
closes_given c ts (g ∷ gs) = closes_one c g.kind g.result (ts ++ g.types) gs (closes_given c (option_to_list g.result) gs)

pub given_none : (gs : List OpenBlock) → given [] gs ≡ gs
given_none [] = refl
given_none (g ∷ gs) = refl

pub closes : (c : Context) (gs : List OpenBlock) → FlatTypes c gs (closing_of (opens gs)) []
closes c gs = subst (λ x. FlatTypes c x (closing_of (opens gs)) []) (given_none gs) (closes_given c [] gs)
