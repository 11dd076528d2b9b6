-- Basic instructions and jumps: the algorithm goes on exactly where the typing does.
use Rattle.std.proofs.Common.{◌≡◌, ℕ, ◌≤◌, List, [], ◌∷◌, ◌++◌, reverse, length, refl, sym, ap, subst, ◌∙◌, arith}
use Rattle.std.specs.Prelude.{Bool, true, false, Option, Some, None, option_map, option_to_list, slice_get}
use Rattle.std.proofs.lemmas.Option.{slice_get-map}
use Rattle.wasm_syntax.specs.declared.value.ValType.{ValType}
use Rattle.wasm_syntax.specs.declared.value.ValType.TheVariants.{I32}
use Rattle.wasm_syntax.specs.declared.instruction.Basic.{Basic}
use Rattle.wasm_syntax.specs.declared.instruction.Basic.TheVariants.{Drop, Select}
use Rattle.wasm_syntax.specs.Tree.{Jump, Unreachable, Br, BrIf, BrTable, Return, Call, CallIndirect}
use Rattle.wasm_syntax.specs.declared.parts.Limits.{Limits}
use Rattle.wasm_syntax.specs.Numbers.{same_type}
use Rattle.wasm_syntax.specs.Module.{type_at, option_then}
use Rattle.wasm_syntax.specs.Typing.{Context, Arrow, ◌⇒◌, Above, OnTop, BasicTypes, JumpTypes, IsLabel, AreLabels, arrow, call_arrow, if_any}
use Rattle.validate_body.specs.calls.Frames.{Known, Frame, set_known, labels, label, pop_type, pop_any, pops, forget}
use Rattle.validate_body.specs.calls.Algorithm.{apply, drop_any, both, select_known, select, step_basic, step_jump, same_option, is_label, targets_fit}
use Rattle.validate_body.proofs.Options.{none_is, IsNil, then_some, map_inv, map_some, if_inv, if_some}
use Rattle.wasm_syntax.specs.FlatTyping.{OpenBlock, opened, given, inside}
use Rattle.validate_body.proofs.Fits.{Fits, FitAll, type_sound, type_complete, pops_sound, pops_complete, apply_sound, apply_complete, forget_sound, forget_complete, retype, labels_fit}
use Rattle.std.proofs.lemmas.Bool.{and_parts, and_from}
use Rattle.pm_text.proofs.Lists.{some_is}
use Rattle.wasm_syntax.proofs.Types.{same_type_is, same_type_refl, then_found}
use Rattle.validate_body.proofs.Arrows.{OneArrow, Steps, drops, selects, by_arrow, steps_of}

-- ---- an arrow, and what lies on top before a transfer

pub record Sound (f : Frame) (fs : List Frame) (hs : List OpenBlock) (P : OpenBlock → List OpenBlock → List ValType → Type 0) : Type 0 where
  pub top : OpenBlock
  pub outer : List OpenBlock
  pub after : List ValType
  pub types : P top outer after
  pub fits : FitAll (f ∷ fs) (top ∷ outer)
  pub then : hs ≡ opened top.kind top.result after ∷ outer

above_sound : (f : Frame) (fs fs' : List Frame) (a : Arrow) (hs : List OpenBlock) → apply (f ∷ fs) a ≡ Some fs' → FitAll fs' hs → Sound f fs hs (λ g gs after. Above a g.types after)
above_sound f fs fs' a hs e h = let i = apply_sound (f ∷ fs) fs' a hs e h in by_rest i.0 i.1 i.2
  where
    by_rest : (gs : List OpenBlock) → hs ≡ given a.gives gs → FitAll (f ∷ fs) (given a.takes gs) → Sound f fs hs (λ g gs after. Above a g.types after)
    by_rest [] q k = absurd k
    by_rest (g ∷ gs) q k = record {
      top = opened g.kind g.result (a.takes ++ g.types);
      outer = gs;
      after = a.gives ++ g.types;
      types = record { below = g.types; takes = refl; gives = refl };
      fits = k;
      then = q;
    }

above_complete : (fs : List Frame) (a : Arrow) (g : OpenBlock) (gs : List OpenBlock) (after : List ValType) → FitAll fs (g ∷ gs) → Above a g.types after → (fs' : List Frame) × (apply fs a ≡ Some fs') × FitAll fs' (opened g.kind g.result after ∷ gs)
above_complete fs a g gs after h ab =
    let i = apply_complete fs a (opened g.kind g.result ab.below) gs (subst (λ x. FitAll fs (opened g.kind g.result x ∷ gs)) ab.takes h) in
    (i.0, i.1, subst (λ x. FitAll i.0 (opened g.kind g.result x ∷ gs)) (sym ab.gives) i.2)

top_sound : (f : Frame) (fs fs' : List Frame) (ts : List ValType) (hs : List OpenBlock) → option_map forget (pops (f ∷ fs) ts) ≡ Some fs' → FitAll fs' hs → Sound f fs hs (λ g gs after. OnTop ts g.types)
top_sound f fs fs' ts hs e h =
    let i = map_inv forget (pops (f ∷ fs) ts) fs' e in
    let j = forget_sound i.0 hs (subst (λ x. FitAll x hs) (sym i.2) h) in
    by_rest j.0 j.1 j.2 (pops_sound (f ∷ fs) i.0 ts j.0 i.1 j.3)
  where
    by_rest : (gs : List OpenBlock) (after : List ValType) → hs ≡ retype after gs → FitAll (f ∷ fs) (given ts gs) → Sound f fs hs (λ g gs after. OnTop ts g.types)
    by_rest [] after q k = absurd k
    by_rest (g ∷ gs) after q k = record {
      top = opened g.kind g.result (ts ++ g.types);
      outer = gs;
      after = after;
      types = record { below = g.types; takes = refl };
      fits = k;
      then = q;
    }

top_complete : (fs : List Frame) (ts : List ValType) (g : OpenBlock) (gs : List OpenBlock) (after : List ValType) → FitAll fs (g ∷ gs) → OnTop ts g.types → (fs' : List Frame) × (option_map forget (pops fs ts) ≡ Some fs') × FitAll fs' (opened g.kind g.result after ∷ gs)
top_complete fs ts g gs after h on =
    let i = pops_complete fs ts (opened g.kind g.result on.below) gs (subst (λ x. FitAll fs (opened g.kind g.result x ∷ gs)) on.takes h) in
    (forget i.0, map_some forget (pops fs ts) i.0 i.1, forget_complete i.0 after (opened g.kind g.result on.below ∷ gs) i.2)

-- ---- an operand of any type

abbrev pub FitsOne : Option ValType → ValType → Type 0
FitsOne None t = Unit {0}
FitsOne (Some u) t = u ≡ t

one_fits : (k : Option ValType) (ks : Known) (free : Bool) (t : ValType) (ts : List ValType) → FitsOne k t → Fits ks free ts → Fits (k ∷ ks) free (t ∷ ts)
one_fits None ks free t ts o h = h
one_fits (Some u) ks free t ts o h = (o, h)

fits_one : (k : Option ValType) (ks : Known) (free : Bool) (t : ValType) (ts : List ValType) → Fits (k ∷ ks) free (t ∷ ts) → FitsOne k t × Fits ks free ts
fits_one None ks free t ts h = (tt, h)
fits_one (Some u) ks free t ts h = (h.0, h.1)

any_sound : (free : Bool) (ks : Known) (p : Option ValType × Known) (t : ValType) (below : List ValType) → pop_any free ks ≡ Some p → FitsOne p.0 t → Fits p.1 free below → Fits ks free (t ∷ below)
any_sound false [] p t below e o h = absurd (none_is e)
any_sound true [] p t below e o h = tt
any_sound free (k ∷ ks) p t below e o h =
    one_fits k ks free t below (subst (λ x. FitsOne x.0 t) (sym (some_is e)) o) (subst (λ x. Fits x.1 free below) (sym (some_is e)) h)

any_complete : (free : Bool) (ks : Known) (t : ValType) (below : List ValType) → Fits ks free (t ∷ below) → (p : Option ValType × Known) × (pop_any free ks ≡ Some p) × FitsOne p.0 t × Fits p.1 free below
any_complete false [] t below h = absurd (subst IsNil (sym h) tt)
any_complete true [] t below h = ((None, []), refl, tt, tt)
any_complete free (k ∷ ks) t below h = let o = fits_one k ks free t below h in ((k, ks), refl, o.0, o.1)

any_type : (k : Option ValType) → (t : ValType) × FitsOne k t
any_type None = (I32, tt)
any_type (Some t) = (t, refl)

both_sound : (a b k : Option ValType) (t : ValType) → both a b ≡ Some k → FitsOne k t → FitsOne a t × FitsOne b t
both_sound None b k t e o = (tt, subst (λ x. FitsOne x t) (sym (some_is e)) o)
both_sound (Some u) None k t e o = (subst (λ x. FitsOne x t) (sym (some_is e)) o, tt)
both_sound (Some u) (Some v) k t e o =
    let i = if_inv (same_type u v) (Some (Some u)) k e in
    let p : u ≡ t = subst (λ x. FitsOne x t) (sym (some_is i.1)) o in
    (p, sym (same_type_is u v i.0) ∙ p)

both_complete : (a b : Option ValType) (t : ValType) → FitsOne a t → FitsOne b t → (k : Option ValType) × (both a b ≡ Some k) × FitsOne k t
both_complete None b t o p = (b, refl, p)
both_complete (Some u) None t o p = (Some u, refl, o)
both_complete (Some u) (Some v) t o p = (Some u, rw (o, p, same_type_refl t) refl, o)

select_sound : (free : Bool) (ks ls : Known) (ts : List ValType) → select_known free ks ≡ Some ls → Fits ls free ts → (t : ValType) × (below : List ValType) × (ts ≡ t ∷ below) × Fits ks free (I32 ∷ t ∷ t ∷ below)
select_sound free ks ls ts e h =
    let i = then_found (pop_type free ks I32) _ ls e in
    let j = then_found (pop_any free i.0) _ ls i.2 in
    let l = then_found (pop_any free j.0.1) _ ls j.2 in
    let m = map_inv (λ k. k ∷ l.0.1) (both j.0.0 l.0.0) ls l.2 in
    by_types ts refl i.0 j.0 l.0 m.0 i.1 j.1 l.1 m.1 (subst (λ x. Fits x free ts) (sym m.2) h)
  where
    by_types : (us : List ValType) → ts ≡ us → (is : Known) (p q : Option ValType × Known) (k : Option ValType) → pop_type free ks I32 ≡ Some is → pop_any free is ≡ Some p → pop_any free p.1 ≡ Some q → both p.0 q.0 ≡ Some k → Fits (k ∷ q.1) free us →
        (t : ValType) × (below : List ValType) × (ts ≡ t ∷ below) × Fits ks free (I32 ∷ t ∷ t ∷ below)
    by_types [] eq is p q k a b c d h = absurd h
    by_types (u ∷ us) eq is p q k a b c d h =
        let o = fits_one k q.1 free u us h in
        let w = both_sound p.0 q.0 k u d o.0 in
        (u, us, eq, type_sound free ks is I32 (u ∷ u ∷ us) a (any_sound free is p u (u ∷ us) b w.0 (any_sound free p.1 q u us c w.1 o.1)))

select_complete : (free : Bool) (ks : Known) (t : ValType) (below : List ValType) → Fits ks free (I32 ∷ t ∷ t ∷ below) → (ls : Known) × (select_known free ks ≡ Some ls) × Fits ls free (t ∷ below)
select_complete free ks t below h =
    let i = type_complete free ks I32 (t ∷ t ∷ below) h in
    let j = any_complete free i.0 t (t ∷ below) i.2 in
    let l = any_complete free j.0.1 t below j.3 in
    let m = both_complete j.0.0 l.0.0 t j.2 l.2 in
    (m.0 ∷ l.0.1, then_some (pop_type free ks I32) _ i.0 (m.0 ∷ l.0.1) i.1 (then_some (pop_any free i.0) _ j.0 (m.0 ∷ l.0.1) j.1 (then_some (pop_any free j.0.1) _ l.0 (m.0 ∷ l.0.1) l.1 (map_some (λ k. k ∷ l.0.1) (both j.0.0 l.0.0) m.0 m.1))), one_fits m.0 l.0.1 free t below m.2 l.3)

-- ---- basic instructions

abbrev pub BasicSound : Context → Frame → List Frame → Basic → List OpenBlock → Type 0
BasicSound c f fs i hs = Sound f fs hs (λ g gs after. BasicTypes (inside c (g ∷ gs)) i g.types after)

one_sound : (c : Context) (f : Frame) (fs fs' : List Frame) (i : Basic) (hs : List OpenBlock) → OneArrow c i → option_then (arrow c I32 i) (apply (f ∷ fs)) ≡ Some fs' → FitAll fs' hs → BasicSound c f fs i hs
one_sound c f fs fs' i hs one e h =
    let a = then_found (arrow c I32 i) (apply (f ∷ fs)) fs' e in
    let s = above_sound f fs fs' a.0 hs a.2 h in
    record {
      top = s.top;
      outer = s.outer;
      after = s.after;
      types = record { any = I32; arrow_is = a.0; has = one (s.top ∷ s.outer) I32 ∙ a.1; above = s.types };
      fits = s.fits;
      then = s.then;
    }

one_complete : (c : Context) (fs : List Frame) (i : Basic) (g : OpenBlock) (gs : List OpenBlock) (after : List ValType) → OneArrow c i → FitAll fs (g ∷ gs) → BasicTypes (inside c (g ∷ gs)) i g.types after → (fs' : List Frame) × (option_then (arrow c I32 i) (apply fs) ≡ Some fs') × FitAll fs' (opened g.kind g.result after ∷ gs)
one_complete c fs i g gs after one h b =
    let s = above_complete fs b.arrow_is g gs after h b.above in
    (s.0, then_some (arrow c I32 i) (apply fs) b.arrow_is s.0 (sym (one (g ∷ gs) b.any) ∙ b.has) s.1, s.2)

pub drop_inv : (f : Frame) (fs fs' : List Frame) → drop_any (f ∷ fs) ≡ Some fs' → (p : Option ValType × Known) × (pop_any f.free f.known ≡ Some p) × (set_known f fs p.1 ≡ fs')
drop_inv f fs fs' e =
    let i = map_inv (λ p. p.1) (option_map (λ p. (p.0, set_known f fs p.1)) (pop_any f.free f.known)) fs' e in
    let j = map_inv (λ p. (p.0, set_known f fs p.1)) (pop_any f.free f.known) i.0 i.1 in
    (j.0, j.1, ap (λ p. p.1) j.2 ∙ i.2)

drop_sound : (c : Context) (f : Frame) (fs fs' : List Frame) (hs : List OpenBlock) → drop_any (f ∷ fs) ≡ Some fs' → FitAll fs' hs → BasicSound c f fs Drop hs
drop_sound c f fs fs' [] e h =
    let i = drop_inv f fs fs' e in
    absurd (subst (λ x. FitAll x []) (sym i.2) h)
drop_sound c f fs fs' (g ∷ gs) e h =
    let i = drop_inv f fs fs' e in
    let k = subst (λ x. FitAll x (g ∷ gs)) (sym i.2) h in
    let t = any_type i.0.0 in
    record {
      top = opened g.kind g.result (t.0 ∷ g.types);
      outer = gs;
      after = g.types;
      types = record { any = t.0; arrow_is = t.0 ∷ [] ⇒ []; has = refl; above = record { below = g.types; takes = refl; gives = refl } };
      fits = ((k.0.0, k.0.1, any_sound f.free f.known i.0 t.0 g.types i.1 t.1 k.0.2), k.1);
      then = refl;
    }

select_frames : (c : Context) (f : Frame) (fs fs' : List Frame) (hs : List OpenBlock) → select (f ∷ fs) ≡ Some fs' → FitAll fs' hs → BasicSound c f fs Select hs
select_frames c f fs fs' [] e h =
    let i = map_inv (set_known f fs) (select_known f.free f.known) fs' e in
    absurd (subst (λ x. FitAll x []) (sym i.2) h)
select_frames c f fs fs' (g ∷ gs) e h =
    let i = map_inv (set_known f fs) (select_known f.free f.known) fs' e in
    let k = subst (λ x. FitAll x (g ∷ gs)) (sym i.2) h in
    let s = select_sound f.free f.known i.0 g.types i.1 k.0.2 in
    record {
      top = opened g.kind g.result (I32 ∷ s.0 ∷ s.0 ∷ s.1);
      outer = gs;
      after = g.types;
      types = record { any = s.0; arrow_is = I32 ∷ s.0 ∷ s.0 ∷ [] ⇒ s.0 ∷ []; has = refl; above = record { below = s.1; takes = refl; gives = s.2 } };
      fits = ((k.0.0, k.0.1, s.3), k.1);
      then = refl;
    }

sound_as : (c : Context) (f : Frame) (fs fs' : List Frame) (i : Basic) → Steps i → (hs : List OpenBlock) → step_basic c (f ∷ fs) i ≡ Some fs' → FitAll fs' hs → BasicSound c f fs i hs
sound_as c f fs fs' i drops hs e h = drop_sound c f fs fs' hs e h
sound_as c f fs fs' i selects hs e h = select_frames c f fs fs' hs e h
sound_as c f fs fs' i (by_arrow one goes) hs e h = one_sound c f fs fs' i hs (one c) (sym (goes c (f ∷ fs)) ∙ e) h

pub basic_sound : (c : Context) (f : Frame) (fs fs' : List Frame) (i : Basic) (hs : List OpenBlock) → step_basic c (f ∷ fs) i ≡ Some fs' → FitAll fs' hs → BasicSound c f fs i hs
basic_sound c f fs fs' i hs e h = sound_as c f fs fs' i (steps_of i) hs e h

abbrev pub Arrives : Option (List Frame) → List OpenBlock → Type 0
Arrives o hs = (fs' : List Frame) × (o ≡ Some fs') × FitAll fs' hs

drop_complete : (c : Context) (fs : List Frame) (g : OpenBlock) (gs : List OpenBlock) (after : List ValType) → FitAll fs (g ∷ gs) → BasicTypes (inside c (g ∷ gs)) Drop g.types after → Arrives (drop_any fs) (opened g.kind g.result after ∷ gs)
drop_complete c [] g gs after h b = absurd h
drop_complete c (f ∷ fs) g gs after h b =
    let ab : Above (b.any ∷ [] ⇒ []) g.types after = subst (λ x. Above x g.types after) (sym (some_is b.has)) b.above in
    let i = any_complete f.free f.known b.any ab.below (subst (λ x. Fits f.known f.free x) ab.takes h.0.2) in
    (set_known f fs i.0.1, map_some (λ p. p.1) (option_map (λ p. (p.0, set_known f fs p.1)) (pop_any f.free f.known)) (i.0.0, set_known f fs i.0.1) (map_some (λ p. (p.0, set_known f fs p.1)) (pop_any f.free f.known) i.0 i.1), ((h.0.0, h.0.1, subst (λ x. Fits i.0.1 f.free x) (sym ab.gives) i.3), h.1))

select_goes : (c : Context) (fs : List Frame) (g : OpenBlock) (gs : List OpenBlock) (after : List ValType) → FitAll fs (g ∷ gs) → BasicTypes (inside c (g ∷ gs)) Select g.types after → Arrives (select fs) (opened g.kind g.result after ∷ gs)
select_goes c [] g gs after h b = absurd h
select_goes c (f ∷ fs) g gs after h b =
    let ab : Above (I32 ∷ b.any ∷ b.any ∷ [] ⇒ b.any ∷ []) g.types after = subst (λ x. Above x g.types after) (sym (some_is b.has)) b.above in
    let i = select_complete f.free f.known b.any ab.below (subst (λ x. Fits f.known f.free x) ab.takes h.0.2) in
    (set_known f fs i.0, map_some (set_known f fs) (select_known f.free f.known) i.0 i.1, ((h.0.0, h.0.1, subst (λ x. Fits i.0 f.free x) (sym ab.gives) i.2), h.1))

complete_as : (c : Context) (fs : List Frame) (i : Basic) → Steps i → (g : OpenBlock) (gs : List OpenBlock) (after : List ValType) → FitAll fs (g ∷ gs) → BasicTypes (inside c (g ∷ gs)) i g.types after → Arrives (step_basic c fs i) (opened g.kind g.result after ∷ gs)
complete_as c fs i drops g gs after h b = drop_complete c fs g gs after h b
complete_as c fs i selects g gs after h b = select_goes c fs g gs after h b
complete_as c fs i (by_arrow one goes) g gs after h b =
    subst (λ (o : Option (List Frame)). Arrives o (opened g.kind g.result after ∷ gs)) (sym (goes c fs)) (one_complete c fs i g gs after (one c) h b)

pub basic_complete : (c : Context) (fs : List Frame) (i : Basic) (g : OpenBlock) (gs : List OpenBlock) (after : List ValType) → FitAll fs (g ∷ gs) → BasicTypes (inside c (g ∷ gs)) i g.types after → Arrives (step_basic c fs i) (opened g.kind g.result after ∷ gs)
basic_complete c fs i g gs after h b = complete_as c fs i (steps_of i) g gs after h b

-- ---- labels

label_sound : (c : Context) (fs : List Frame) (gs : List OpenBlock) (n : ℕ) (t : Option ValType) → FitAll fs gs → label fs n ≡ Some t → IsLabel (inside c gs) n (option_to_list t)
label_sound c fs gs n t h e =
    subst (λ x. slice_get x n ≡ Some (option_to_list t)) (sym (labels_fit fs gs h))
    (slice_get-map (λ t. option_to_list t) (labels fs) n ∙ map_some (λ t. option_to_list t) (label fs n) t e)

label_complete : (c : Context) (fs : List Frame) (gs : List OpenBlock) (n : ℕ) (types : List ValType) → FitAll fs gs → IsLabel (inside c gs) n types → (t : Option ValType) × (label fs n ≡ Some t) × (option_to_list t ≡ types)
label_complete c fs gs n types h e =
    map_inv (λ t. option_to_list t) (label fs n) types (sym (slice_get-map (λ t. option_to_list t) (labels fs) n) ∙ subst (λ x. slice_get x n ≡ Some types) (labels_fit fs gs h) e)

same_option_is : (t u : Option ValType) → same_option t u ≡ true → t ≡ u
same_option_is None None e = refl
same_option_is None (Some u) e = absurd (cc)
same_option_is (Some t) None e = absurd (cc)
same_option_is (Some t) (Some u) e = ap (λ x. Some x) (same_type_is t u e)

same_lists : (t u : Option ValType) → option_to_list t ≡ option_to_list u → same_option t u ≡ true
same_lists None None e = refl
same_lists None (Some u) e = absurd (cc)
same_lists (Some t) None e = absurd (cc)
same_lists (Some t) (Some u) e = let q : t ≡ u = cc in rw (q, same_type_refl u) refl

one_target : (c : Context) (fs : List Frame) (gs : List OpenBlock) (n : ℕ) (t : Option ValType) (l : Option (Option ValType)) → FitAll fs gs → label fs n ≡ l → is_label t l ≡ true → IsLabel (inside c gs) n (option_to_list t)
one_target c fs gs n t None h q e = absurd (cc)
one_target c fs gs n t (Some u) h q e = subst (λ x. IsLabel (inside c gs) n (option_to_list x)) (same_option_is u t e) (label_sound c fs gs n u h q)

targets_sound : (c : Context) (fs : List Frame) (gs : List OpenBlock) (t : Option ValType) (ns : List ℕ) → FitAll fs gs → targets_fit fs t ns ≡ true → AreLabels (inside c gs) ns (option_to_list t)
targets_sound c fs gs t [] h e = tt
targets_sound c fs gs t (n ∷ ns) h e =
    let a = and_parts (is_label t (label fs n)) (targets_fit fs t ns) e in
    (one_target c fs gs n t (label fs n) h refl a.0, targets_sound c fs gs t ns h a.1)

targets_complete : (c : Context) (fs : List Frame) (gs : List OpenBlock) (t : Option ValType) (ns : List ℕ) → FitAll fs gs → AreLabels (inside c gs) ns (option_to_list t) → targets_fit fs t ns ≡ true
targets_complete c fs gs t [] h l = refl
targets_complete c fs gs t (n ∷ ns) h l =
    let i = label_complete c fs gs n (option_to_list t) h l.0 in
    and_from _ _ (subst (λ x. is_label t x ≡ true) (sym i.1) (same_lists i.0 t i.2)) (targets_complete c fs gs t ns h l.1)

-- ---- jumps

abbrev pub JumpSound : Context → Frame → List Frame → Jump → List OpenBlock → Type 0
JumpSound c f fs j hs = Sound f fs hs (λ g gs after. JumpTypes (inside c (g ∷ gs)) j g.types after)

pub any_sound_inv : {A B : Type 0} (xs : List A) (o : Option B) (y : B) → if_any xs o ≡ Some y → (1 ≤ length xs) × (o ≡ Some y)
any_sound_inv [] o y e = absurd (none_is e)
any_sound_inv (x ∷ xs) o y e = (omega arith, e)

any_some : {A B : Type 0} (xs : List A) (o : Option B) → 1 ≤ length xs → if_any xs o ≡ o
any_some [] o h = absurd (omega arith)
any_some (x ∷ xs) o h = refl

pub jump_sound : (c : Context) (f : Frame) (fs fs' : List Frame) (j : Jump) (hs : List OpenBlock) → step_jump c (f ∷ fs) j ≡ Some fs' → FitAll fs' hs → JumpSound c f fs j hs
jump_sound c f fs fs' Unreachable hs e h =
    let s = top_sound f fs fs' [] hs e h in
    record { top = s.top; outer = s.outer; after = s.after; types = tt; fits = s.fits; then = s.then }
jump_sound c f fs fs' (Br n) hs e h =
    let l = then_found (label (f ∷ fs) n) _ fs' e in
    let s = top_sound f fs fs' (option_to_list l.0) hs l.2 h in
    record { top = s.top; outer = s.outer; after = s.after; types = (option_to_list l.0, label_sound c (f ∷ fs) (s.top ∷ s.outer) n l.0 s.fits l.1, s.types); fits = s.fits; then = s.then }
jump_sound c f fs fs' (BrIf n) hs e h =
    let l = then_found (label (f ∷ fs) n) _ fs' e in
    let s = above_sound f fs fs' (I32 ∷ option_to_list l.0 ⇒ option_to_list l.0) hs l.2 h in
    record { top = s.top; outer = s.outer; after = s.after; types = (option_to_list l.0, label_sound c (f ∷ fs) (s.top ∷ s.outer) n l.0 s.fits l.1, s.types); fits = s.fits; then = s.then }
jump_sound c f fs fs' (BrTable targets default) hs e h =
    let l = then_found (label (f ∷ fs) default) _ fs' e in
    let i = if_inv (targets_fit (f ∷ fs) l.0 targets) _ fs' l.2 in
    let s = top_sound f fs fs' (I32 ∷ option_to_list l.0) hs i.1 h in
    record { top = s.top; outer = s.outer; after = s.after; types = (option_to_list l.0, label_sound c (f ∷ fs) (s.top ∷ s.outer) default l.0 s.fits l.1, targets_sound c (f ∷ fs) (s.top ∷ s.outer) l.0 targets s.fits i.0, s.types); fits = s.fits; then = s.then }
jump_sound c f fs fs' Return hs e h =
    let s = top_sound f fs fs' c.returns hs e h in
    record { top = s.top; outer = s.outer; after = s.after; types = s.types; fits = s.fits; then = s.then }
jump_sound c f fs fs' (Call g) hs e h =
    let l = then_found (type_at c.module_ g) _ fs' e in
    let s = above_sound f fs fs' (call_arrow l.0) hs l.2 h in
    record { top = s.top; outer = s.outer; after = s.after; types = (l.0, l.1, s.types); fits = s.fits; then = s.then }
jump_sound c f fs fs' (CallIndirect t) hs e h =
    let a = any_sound_inv {A = Limits} c.module_.tables _ fs' e in
    let l = then_found (slice_get c.module_.types t) _ fs' a.1 in
    let s = above_sound f fs fs' (I32 ∷ reverse l.0.params ⇒ reverse l.0.results) hs l.2 h in
    record { top = s.top; outer = s.outer; after = s.after; types = (l.0, a.0, l.1, s.types); fits = s.fits; then = s.then }

pub jump_complete : (c : Context) (fs : List Frame) (j : Jump) (g : OpenBlock) (gs : List OpenBlock) (after : List ValType) → FitAll fs (g ∷ gs) → JumpTypes (inside c (g ∷ gs)) j g.types after → Arrives (step_jump c fs j) (opened g.kind g.result after ∷ gs)
jump_complete c fs Unreachable g gs after h ty = (forget fs, refl, forget_complete fs after (g ∷ gs) h)
jump_complete c fs (Br n) g gs after h ty =
    let l = label_complete c fs (g ∷ gs) n ty.0 h ty.1 in
    let s = top_complete fs (option_to_list l.0) g gs after h (subst (λ x. OnTop x g.types) (sym l.2) ty.2) in
    (s.0, then_some (label fs n) _ l.0 s.0 l.1 s.1, s.2)
jump_complete c fs (BrIf n) g gs after h ty =
    let l = label_complete c fs (g ∷ gs) n ty.0 h ty.1 in
    let s = above_complete fs (I32 ∷ option_to_list l.0 ⇒ option_to_list l.0) g gs after h (subst (λ x. Above (I32 ∷ x ⇒ x) g.types after) (sym l.2) ty.2) in
    (s.0, then_some (label fs n) _ l.0 s.0 l.1 s.1, s.2)
jump_complete c fs (BrTable targets default) g gs after h ty =
    let l = label_complete c fs (g ∷ gs) default ty.0 h ty.1 in
    let s = top_complete fs (I32 ∷ option_to_list l.0) g gs after h (subst (λ x. OnTop (I32 ∷ x) g.types) (sym l.2) ty.3) in
    let b = targets_complete c fs (g ∷ gs) l.0 targets h (subst (λ x. AreLabels (inside c (g ∷ gs)) targets x) (sym l.2) ty.2) in
    (s.0, then_some (label fs default) _ l.0 s.0 l.1 (if_some (targets_fit fs l.0 targets) _ s.0 b s.1), s.2)
jump_complete c fs Return g gs after h ty = top_complete fs c.returns g gs after h ty
jump_complete c fs (Call f) g gs after h ty =
    let s = above_complete fs (call_arrow ty.0) g gs after h ty.2 in
    (s.0, then_some (type_at c.module_ f) _ ty.0 s.0 ty.1 s.1, s.2)
jump_complete c fs (CallIndirect t) g gs after h ty =
    let s = above_complete fs (I32 ∷ reverse ty.0.params ⇒ reverse ty.0.results) g gs after h ty.3 in
    (s.0, any_some {A = Limits} c.module_.tables _ ty.1 ∙ then_some (slice_get c.module_.types t) _ ty.0 s.0 ty.2 s.1, s.2)
