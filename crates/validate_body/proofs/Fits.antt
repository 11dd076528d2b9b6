-- Frames with unknown types stand for frames whose types are known. What the operations on operands do, both ways.
use Rattle.std.proofs.Common.{◌≡◌, List, [], ◌∷◌, ◌++◌, map, refl, sym, ap, subst, ◌∙◌}
use Rattle.std.specs.Prelude.{Bool, true, false, Option, Some, None, option_to_list}
use Rattle.wasm_syntax.specs.declared.value.ValType.{ValType}
use Rattle.wasm_syntax.specs.declared.value.ValType.TheVariants.{I32}
use Rattle.wasm_syntax.specs.Numbers.{same_type}
use Rattle.wasm_syntax.specs.Typing.{Arrow}
use Rattle.validate_body.specs.calls.Frames.{Known, Frame, set_known, labels, pop_type, pop, push, pops, pushes, forget}
use Rattle.validate_body.specs.calls.Algorithm.{apply}
use Rattle.validate_body.proofs.Options.{none_is, IsNil, then_some, map_inv, map_some, if_inv}
use Rattle.wasm_syntax.specs.FlatTyping.{OpenBlock, opened, label_types, given}
use Rattle.wasm_laws.proofs.FlatSteps.{given_none}
use Rattle.pm_text.proofs.Lists.{some_is}
use Rattle.wasm_syntax.proofs.Types.{same_type_is, same_type_refl, then_found}

abbrev pub Fits : Known → Bool → List ValType → Type 0
Fits [] false ts = ts ≡ []
Fits [] true ts = Unit {0}
Fits (k ∷ ks) free [] = ⊥
Fits (None ∷ ks) free (t ∷ ts) = Fits ks free ts
Fits (Some u ∷ ks) free (t ∷ ts) = (u ≡ t) × Fits ks free ts

abbrev pub Fit : Frame → OpenBlock → Type 0
Fit f g = (f.kind ≡ g.kind) × (f.result ≡ g.result) × Fits f.known f.free g.types

abbrev pub FitAll : List Frame → List OpenBlock → Type 0
FitAll [] [] = Unit {0}
FitAll [] (g ∷ gs) = ⊥
FitAll (f ∷ fs) [] = ⊥
FitAll (f ∷ fs) (g ∷ gs) = Fit f g × FitAll fs gs

-- ---- one operand

pub type_sound : (free : Bool) (ks ls : Known) (t : ValType) (below : List ValType) → pop_type free ks t ≡ Some ls → Fits ls free below → Fits ks free (t ∷ below)
type_sound false [] ls t below e h = absurd (none_is e)
type_sound true [] ls t below e h = tt
type_sound free (None ∷ ks) ls t below e h = subst (λ x. Fits x free below) (sym (some_is e)) h
type_sound free (Some u ∷ ks) ls t below e h =
    let i = if_inv (same_type u t) (Some ks) ls e in
    (same_type_is u t i.0, subst (λ x. Fits x free below) (sym (some_is i.1)) h)

pub type_complete : (free : Bool) (ks : Known) (t : ValType) (below : List ValType) → Fits ks free (t ∷ below) → (ls : Known) × (pop_type free ks t ≡ Some ls) × Fits ls free below
type_complete false [] t below h = absurd (subst IsNil (sym h) tt)
type_complete true [] t below h = ([], refl, tt)
type_complete free (None ∷ ks) t below h = (ks, refl, h)
type_complete free (Some u ∷ ks) t below h = (ks, rw (h.0, same_type_refl t) refl, h.1)

pub no_below : (free : Bool) → Fits [] free []
no_below false = refl
no_below true = tt

-- ---- on lists of frames

pub pop_sound : (fs fs' : List Frame) (t : ValType) (hs : List OpenBlock) → pop fs t ≡ Some fs' → FitAll fs' hs → FitAll fs (given (t ∷ []) hs)
pop_sound [] fs' t hs e h = absurd (none_is e)
pop_sound (f ∷ fs) fs' t [] e h =
    let i = map_inv (set_known f fs) (pop_type f.free f.known t) fs' e in
    absurd (subst (λ x. FitAll x []) (sym i.2) h)
pop_sound (f ∷ fs) fs' t (g ∷ gs) e h =
    let i = map_inv (set_known f fs) (pop_type f.free f.known t) fs' e in
    let k = subst (λ x. FitAll x (g ∷ gs)) (sym i.2) h in
    ((k.0.0, k.0.1, type_sound f.free f.known i.0 t g.types i.1 k.0.2), k.1)

pub pop_complete : (fs : List Frame) (t : ValType) (g : OpenBlock) (gs : List OpenBlock) → FitAll fs (given (t ∷ []) (g ∷ gs)) → (fs' : List Frame) × (pop fs t ≡ Some fs') × FitAll fs' (g ∷ gs)
pop_complete [] t g gs h = absurd h
pop_complete (f ∷ fs) t g gs h =
    let i = type_complete f.free f.known t g.types h.0.2 in
    (set_known f fs i.0, map_some (set_known f fs) (pop_type f.free f.known t) i.0 i.1, ((h.0.0, h.0.1, i.2), h.1))

given_more : (t : ValType) (ts : List ValType) (hs : List OpenBlock) → given (t ∷ []) (given ts hs) ≡ given (t ∷ ts) hs
given_more t ts [] = refl
given_more t ts (h ∷ hs) = refl

pub pops_sound : (fs fs' : List Frame) (ts : List ValType) (hs : List OpenBlock) → pops fs ts ≡ Some fs' → FitAll fs' hs → FitAll fs (given ts hs)
pops_sound fs fs' [] hs e h = subst (λ x. FitAll fs x) (sym (given_none hs)) (subst (λ x. FitAll x hs) (sym (some_is e)) h)
pops_sound fs fs' (t ∷ ts) hs e h =
    let i = then_found (pop fs t) (λ gs. pops gs ts) fs' e in
    subst (λ x. FitAll fs x) (given_more t ts hs) (pop_sound fs i.0 t (given ts hs) i.1 (pops_sound i.0 fs' ts hs i.2 h))

pub pops_complete : (fs : List Frame) (ts : List ValType) (g : OpenBlock) (gs : List OpenBlock) → FitAll fs (given ts (g ∷ gs)) → (fs' : List Frame) × (pops fs ts ≡ Some fs') × FitAll fs' (g ∷ gs)
pops_complete fs [] g gs h = (fs, refl, h)
pops_complete fs (t ∷ ts) g gs h =
    let i = pop_complete fs t (opened g.kind g.result (ts ++ g.types)) gs h in
    let j = pops_complete i.0 ts g gs i.2 in
    (j.0, then_some (pop fs t) (λ gs. pops gs ts) i.0 j.0 i.1 j.1, j.2)

pub push_sound : (fs : List Frame) (t : ValType) (hs : List OpenBlock) → FitAll (push fs (Some t)) hs → (gs : List OpenBlock) × (hs ≡ given (t ∷ []) gs) × FitAll fs gs
push_sound [] t [] h = ([], refl, tt)
push_sound [] t (g ∷ gs) h = absurd h
push_sound (f ∷ fs) t [] h = absurd h
push_sound (f ∷ fs) t (g ∷ gs) h = by_types g.types refl h
  where
    by_types : (ts : List ValType) → g.types ≡ ts → FitAll (push (f ∷ fs) (Some t)) (opened g.kind g.result ts ∷ gs) → (hs : List OpenBlock) × (g ∷ gs ≡ given (t ∷ []) hs) × FitAll (f ∷ fs) hs
    by_types [] e h = absurd h.0.2
    by_types (u ∷ us) e h =
        (opened g.kind g.result us ∷ gs, ap (λ x. opened g.kind g.result x ∷ gs) (e ∙ ap (λ x. x ∷ us) (sym h.0.2.0)), ((h.0.0, h.0.1, h.0.2.1), h.1))

pub push_complete : (fs : List Frame) (t : ValType) (gs : List OpenBlock) → FitAll fs gs → FitAll (push fs (Some t)) (given (t ∷ []) gs)
push_complete [] t [] h = tt
push_complete [] t (g ∷ gs) h = absurd h
push_complete (f ∷ fs) t [] h = absurd h
push_complete (f ∷ fs) t (g ∷ gs) h = ((h.0.0, h.0.1, (refl, h.0.2)), h.1)

pub pushes_sound : (fs : List Frame) (ts : List ValType) (hs : List OpenBlock) → FitAll (pushes fs ts) hs → (gs : List OpenBlock) × (hs ≡ given ts gs) × FitAll fs gs
pushes_sound fs [] hs h = (hs, sym (given_none hs), h)
pushes_sound fs (t ∷ ts) hs h =
    let i = push_sound (pushes fs ts) t hs h in
    let j = pushes_sound fs ts i.0 i.2 in
    (j.0, i.1 ∙ ap (given (t ∷ [])) j.1 ∙ given_more t ts j.0, j.2)

pub pushes_complete : (fs : List Frame) (ts : List ValType) (gs : List OpenBlock) → FitAll fs gs → FitAll (pushes fs ts) (given ts gs)
pushes_complete fs [] gs h = subst (λ x. FitAll fs x) (sym (given_none gs)) h
pushes_complete fs (t ∷ ts) gs h =
    subst (λ x. FitAll (pushes fs (t ∷ ts)) x) (given_more t ts gs) (push_complete (pushes fs ts) t (given ts gs) (pushes_complete fs ts gs h))

-- ---- an arrow

pub apply_sound : (fs fs' : List Frame) (a : Arrow) (hs : List OpenBlock) → apply fs a ≡ Some fs' → FitAll fs' hs → (gs : List OpenBlock) × (hs ≡ given a.gives gs) × FitAll fs (given a.takes gs)
apply_sound fs fs' a hs e h =
    let i = map_inv (λ gs. pushes gs a.gives) (pops fs a.takes) fs' e in
    let j = pushes_sound i.0 a.gives hs (subst (λ x. FitAll x hs) (sym i.2) h) in
    (j.0, j.1, pops_sound fs i.0 a.takes j.0 i.1 j.2)

pub apply_complete : (fs : List Frame) (a : Arrow) (g : OpenBlock) (gs : List OpenBlock) → FitAll fs (given a.takes (g ∷ gs)) → (fs' : List Frame) × (apply fs a ≡ Some fs') × FitAll fs' (given a.gives (g ∷ gs))
apply_complete fs a g gs h =
    let i = pops_complete fs a.takes g gs h in
    (pushes i.0 a.gives, map_some (λ gs. pushes gs a.gives) (pops fs a.takes) i.0 i.1, pushes_complete i.0 a.gives (g ∷ gs) i.2)

-- ---- forgotten operands

abbrev pub retype : List ValType → List OpenBlock → List OpenBlock
retype ts [] = []
retype ts (g ∷ gs) = opened g.kind g.result ts ∷ gs

abbrev pub or_i32 : Option ValType → ValType
or_i32 None = I32
or_i32 (Some t) = t

fill : (ks : Known) (free : Bool) → (ts : List ValType) × Fits ks free ts
fill [] free = ([], no_below free)
fill (None ∷ ks) free = let r = fill ks free in (I32 ∷ r.0, r.1)
fill (Some t ∷ ks) free = let r = fill ks free in (t ∷ r.0, (refl, r.1))

pub fill_all : (fs : List Frame) → (gs : List OpenBlock) × FitAll fs gs
fill_all [] = ([], tt)
fill_all (f ∷ fs) =
    let r = fill f.known f.free in
    let q = fill_all fs in
    (opened f.kind f.result r.0 ∷ q.0, ((refl, refl, r.1), q.1))

pub forget_sound : (fs : List Frame) (hs : List OpenBlock) → FitAll (forget fs) hs → (gs : List OpenBlock) × (ts : List ValType) × (hs ≡ retype ts gs) × FitAll fs gs
forget_sound [] [] h = ([], [], refl, tt)
forget_sound [] (g ∷ gs) h = absurd h
forget_sound (f ∷ fs) [] h = absurd h
forget_sound (f ∷ fs) (g ∷ gs) h =
    let r = fill f.known f.free in
    (opened g.kind g.result r.0 ∷ gs, g.types, refl, ((h.0.0, h.0.1, r.1), h.1))

pub forget_complete : (fs : List Frame) (ts : List ValType) (gs : List OpenBlock) → FitAll fs gs → FitAll (forget fs) (retype ts gs)
forget_complete [] ts [] h = tt
forget_complete [] ts (g ∷ gs) h = absurd h
forget_complete (f ∷ fs) ts [] h = absurd h
forget_complete (f ∷ fs) ts (g ∷ gs) h = ((h.0.0, h.0.1, tt), h.1)

-- ---- labels

pub labels_fit : (fs : List Frame) (gs : List OpenBlock) → FitAll fs gs → map label_types gs ≡ map (λ t. option_to_list t) (labels fs)
labels_fit [] [] h = refl
labels_fit [] (g ∷ gs) h = absurd h
labels_fit (f ∷ fs) [] h = absurd h
labels_fit (f ∷ fs) (g ∷ gs) h = rw (h.0.0, h.0.1, labels_fit fs gs h.1) refl
