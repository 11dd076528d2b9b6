-- Rewritten nodes are well typed.
use Rattle.rewrite_bodies.proofs.OneKind.{takes_one}
use Rattle.rewrite_bodies.proofs.Laid.{room_landed}
use Rattle.rewrite_bodies.proofs.Landed.{same_landing_is}
use Rattle.rewrite_bodies.specs.calls.Landings.{same_landing, number_of, number_in, landing_of, landing_behind, one_kind, carrying, most_landings, at_end, unless_there, with_some, landing_call, landings_call, landings_jump, landings_from, landed, landing_at, needed, part_of}
use Rattle.std.proofs.Common.{◌≡◌, ℕ, zero, suc, ◌==◌, if◌then◌else◌, ◌+◌, ◌≤◌, nat_lt, List, [], ◌∷◌, ◌++◌, length, map, reverse, Option, Some, None, Bool, true, false, refl, sym, ap, ap₂, ◌∙◌, subst, subst₂, arith, slice_get, option_map, option_to_list, append_assoc, append-nil, length-append, unwrap_or, ◌⊎◌, inl, inr}
use Rattle.std.specs.Prelude.{take}
use Rattle.std.specs.List.{AllByRecursion}
use Rattle.std.proofs.lemmas.Option.{slice_get-map}
use Rattle.std.proofs.lemmas.List.{length-reverse}
use Rattle.wasm_syntax.specs.declared.value.ValType.{ValType}
use Rattle.wasm_syntax.specs.declared.value.ValType.TheVariants.{I32, I64}
use Rattle.int_ops.specs.declared.operators.Binary.{Binary as BinaryOp}
use Rattle.int_ops.specs.declared.operators.Binary.TheVariants.{Add}
use Rattle.wasm_syntax.specs.declared.instruction.Basic.{Basic}
use Rattle.wasm_syntax.specs.declared.instruction.Basic.TheVariants.{LocalGet, GlobalSet, MemoryGrow, Eqz, Binary}
use Rattle.wasm_syntax.specs.declared.parts.FuncType.{FuncType}
use Rattle.wasm_syntax.specs.declared.module.ModuleParts.{ModuleParts as Module}
use Rattle.wasm_syntax.specs.Numbers.{type_of}
use Rattle.wasm_syntax.specs.Tree.{Jump, Unreachable, Br, BrIf, BrTable, Return, Call, CallIndirect, Nodes, stop, basic, jump, block, loop, choose}
use Rattle.wasm_syntax.specs.Module.{type_at}
use Rattle.wasm_syntax.specs.Effect.{takes}
use Rattle.wasm_syntax.specs.Machine.{result_of, zero_of}
use Rattle.wasm_syntax.specs.Typing.{Context, Arrow, ◌⇒◌, BasicTypes, JumpTypes, IsLabel, AreLabels, arrow, set_global, Types}
use Rattle.wasm_syntax.specs.Typing as typing
use Rattle.rewrite_bodies.specs.Numbering.{import_count, mapped, frame_import, frame_type, flag_of, doubles}
use Rattle.wasm_syntax.specs.Run.{table_min}
use Rattle.rewrite_bodies.specs.calls.Slots.{Place, Spilled, Known, Copied, place_type, Ctx, kind_at, offset_at, added, less, pushed, grown, uncopied, without, under, second_type, result_type, result_place, freed, after_plain, Landing, freed_at, local_written, measured, Derivation}
use Rattle.rewrite_bodies.specs.calls.Pieces.{const, get, set, i32, call, if_any, fetch, load, keep, store, reload, drops}
use Rattle.rewrite_bodies.specs.calls.Guards.{guard, can_trap, kind, helper_type, renew_both}
use Rattle.rewrite_bodies.specs.calls.Rewrite.{passes, guarded, tested, free, plain, with_result, after_direct, call_code, helper_of, hand_top, test_both, past_shown, indirect_code, control, rewrite, hand_locals, zero_result, worked_out, exit_code, body, checked, hand_carried, landing_code, nested, laid, free_at, grows, lengthened}
use Rattle.rewrite_bodies.specs.calls.Agreement.{FitsIn, Room_call, Room, Room_jump}
use Rattle.rewrite_bodies.specs.calls.Typed.{Info, in_block, in_loop, in_body, carries, Own, AllOwn, Offers, original, rewritten}
use Rattle.rewrite_bodies.proofs.Run.{added_kind, added_offset, slice_get-append}
use Rattle.rewrite_bodies.proofs.Sim.{grown-append}
use Rattle.rewrite_bodies.proofs.Unwind.{less_shorter}
use Rattle.rewrite_bodies.proofs.TypedPieces.{Ok, ok_basic, ok_binary, ok_const, ok_eqz, IsExit, at_labels, ok_if, ok_call, ok_get, ok_set, ok_own, ok_set_own, ok_derives, ok_fetch, ok_load, ok_store, ok_keep, ok_keep_result, ok_reload, ok_drops, ok_spill, ok_hand_value, ok_tested, ok_test_flag, ok_test_both, ok_measure, ok_kind_signed, ok_landing, ok_branch, ok_hand, HasMemory, ok_renew, ok_lengthened}
use Rattle.rewrite_bodies.proofs.TypedGuards.{any_has, one_is, guard_ok}
use Rattle.rewrite_bodies.proofs.Copies.{Fixed, fixed_under, without_append, freed_append, pushed_append}
use Rattle.wasm_laws.proofs.Progress.{takes_len}
use Rattle.pm_text.proofs.Lists.{some_is, get_front}
use Rattle.wasm_syntax.proofs.Types.{any_found, then_found, map_found, only_found}
use Rattle.rewrite_bodies.proofs.Risks.{risk_of, growth, Treated, gets, sets, tees, constant, spills, treated, result_by, result_typed, derived_by}
use Rattle.wasm_syntax.specs.calls.Classes.{Divider, by_div_s, by_div_u, by_rem_s, by_rem_u, Risky, risky_binary, risky_load, risky_store, risky_copy, risky_fill}
use Rattle.wasm_syntax.specs.calls.Classes.{TypeSource, DropsAny, SelectsAny, FromLocal, IntoLocal, TeesLocal, FromGlobal, IntoGlobal, OverMemory, OfItself, type_source, source_arrow, source_takes}
use Rattle.wasm_syntax.proofs.Classes.{arrow_is, takes_is}
use Rattle.rewrite_bodies.specs.calls.Facts.{needs, exposed_in}
use Rattle.rewrite_bodies.specs.calls.Derived.{Fitting, taken_type, given_type, derived_for}
use Rattle.rewrite_bodies.proofs.FactLaws.{needs_trap}
use Rattle.rewrite_bodies.proofs.DerivedLaws.{derived_fit}

-- ---- the operands that are taken, and those that are left

pub record Cuts (n : ℕ) (own js : List Place) (taken below : List ValType) : Type 0 where
  pub taken_are : map place_type (take n (own ++ js)) ≡ taken
  pub own1 : List Place
  pub left : less n (own ++ js) ≡ own1 ++ js
  pub types : map place_type own1 ≡ below

grown_list : (r : Option ValType) (es : List Place) → map place_type (grown r es) ≡ option_to_list r ++ map place_type es
grown_list None es = refl
grown_list (Some t) es = refl

pub own_less : (C : Ctx) (n : ℕ) (es : List Place) → AllOwn C es → AllOwn C (less n es)
own_less C zero es w = w
own_less C (suc n) [] w = tt
own_less C (suc n) (e ∷ es) w = own_less C n es w.1

own_grown : (C : Ctx) (r : Option ValType) (es : List Place) → AllOwn C es → AllOwn C (grown r es)
own_grown C None es w = w
own_grown C (Some t) es w = (tt, w)

own_if : (C : Ctx) (q : Bool) (t : ValType) (x : ℕ) → Own C (Copied t x) → Own C (if q then Spilled t else Copied t x)
own_if C true t x w = tt
own_if C false t x w = w

own_one : (C : Ctx) (these : ℕ → Bool) (e : Place) → Own C e → Own C (uncopied these e)
own_one C these (Spilled t) w = tt
own_one C these (Known v) w = tt
own_one C these (Copied t x) w = own_if C (these x) t x w

own_without : (C : Ctx) (these : ℕ → Bool) (es : List Place) → AllOwn C es → AllOwn C (without these es)
own_without C these [] w = tt
own_without C these (e ∷ es) w = (own_one C these e w.0, own_without C these es w.1)

own_freed : (C : Ctx) (o : Option ℕ) (es : List Place) → AllOwn C es → AllOwn C (freed_at o es)
own_freed C None es w = w
own_freed C (Some x) es w = own_without C (λ y. x == y) es w

own_spilled : (C : Ctx) (r : Option ValType) (es : List Place) → AllOwn C es → AllOwn C (pushed (option_map Spilled r) es)
own_spilled C None es w = w
own_spilled C (Some t) es w = (tt, w)

own_copy : (C : Ctx) (x : ℕ) (o : Option ValType) (es : List Place) → slice_get C.locals x ≡ o → AllOwn C es → AllOwn C (pushed (option_map (λ t. Copied t x) o) es)
own_copy C x None es e w = w
own_copy C x (Some t) es e w = (e, w)

own_as : (C : Ctx) (i : Basic) → Treated i → (es left : List Place) → AllOwn C left → AllOwn C (pushed (result_place C es i) left)
own_as C i (constant v) es left w = (tt, w)
own_as C i (gets x) es left w = own_copy C x (slice_get C.locals x) left refl w
own_as C i (tees x) es left w = own_copy C x (slice_get C.locals x) left refl w
own_as C i (sets x) es left w = w
own_as C i (spills none no_local given) es left w = subst (λ (p : Option Place). AllOwn C (pushed p left)) (sym (given C es)) (own_spilled C (result_type C es i) left w)

pub own_after : (C : Ctx) (i : Basic) (es : List Place) → AllOwn C es → AllOwn C (after_plain C es i)
own_after C i es w = own_as C i (treated i) es (freed i (less (takes i) es)) (own_freed C (local_written i) (less (takes i) es) (own_less C (takes i) es w))

-- the types are the same without copies
pub without_types : (these : ℕ → Bool) (es : List Place) → map place_type (without these es) ≡ map place_type es
without_types these [] = refl
without_types these (Spilled t ∷ es) = ap (λ (z : List ValType). t ∷ z) (without_types these es)
without_types these (Known v ∷ es) = ap (λ (z : List ValType). type_of v ∷ z) (without_types these es)
without_types these (Copied t x ∷ es) = ap₂ (λ (a : ValType) (z : List ValType). a ∷ z) (one_type (these x) t x) (without_types these es)
  where
    one_type : (q : Bool) (t : ValType) (x : ℕ) → place_type (if q then Spilled t else Copied t x) ≡ t
    one_type true t x = refl
    one_type false t x = refl

freed_types : (i : Basic) (es : List Place) → map place_type (freed i es) ≡ map place_type es
freed_types i es = by_local (local_written i)
  where
    by_local : (o : Option ℕ) → map place_type (freed_at o es) ≡ map place_type es
    by_local None = refl
    by_local (Some x) = without_types (λ y. x == y) es

spilled_type : (o : Option ValType) → option_map place_type (option_map Spilled o) ≡ o
spilled_type None = refl
spilled_type (Some t) = refl

copied_type : (x : ℕ) (o : Option ValType) → option_map place_type (option_map (λ t. Copied t x) o) ≡ o
copied_type x None = refl
copied_type x (Some t) = refl

-- the place of a result has its type
result_as : (C : Ctx) (es : List Place) (i : Basic) → Treated i → option_map place_type (result_place C es i) ≡ result_type C es i
result_as C es i (constant v) = refl
result_as C es i (gets x) = copied_type x (slice_get C.locals x)
result_as C es i (tees x) = copied_type x (slice_get C.locals x)
result_as C es i (sets x) = refl
result_as C es i (spills none no_local given) = ap (option_map place_type) (given C es) ∙ spilled_type (result_type C es i)

pub result_is : (C : Ctx) (es : List Place) (i : Basic) → option_map place_type (result_place C es i) ≡ result_type C es i
result_is C es i = result_as C es i (treated i)

pushed_types : (p : Option Place) (es : List Place) → map place_type (pushed p es) ≡ option_to_list (option_map place_type p) ++ map place_type es
pushed_types None es = refl
pushed_types (Some e) es = refl

pub after_types : (C : Ctx) (es : List Place) (i : Basic) → map place_type (after_plain C es i) ≡ option_to_list (result_type C es i) ++ map place_type (less (takes i) es)
after_types C es i =
    pushed_types (result_place C es i) (freed i (less (takes i) es))
    ∙ ap₂ (λ (a : Option ValType) (z : List ValType). option_to_list a ++ z) (result_is C es i) (freed_types i (less (takes i) es))

-- the places of the innermost label behind an instruction
pub own_behind : (C : Ctx) (i : Basic) (own js own1 : List Place) → less (takes i) (own ++ js) ≡ own1 ++ js → Fixed js → after_plain C (own ++ js) i ≡ pushed (result_place C (own ++ js) i) (freed i own1) ++ js
own_behind C i own js own1 e f =
    ap (λ (z : List Place). pushed (result_place C (own ++ js) i) (freed i z)) e ∙ ap (pushed (result_place C (own ++ js) i)) (freed_append i own1 js f) ∙ pushed_append (result_place C (own ++ js) i) (freed i own1) js

pub behind_types : (C : Ctx) (es : List Place) (i : Basic) (own1 : List Place) → map place_type (pushed (result_place C es i) (freed i own1)) ≡ map place_type (grown (result_type C es i) own1)
behind_types C es i own1 =
    pushed_types (result_place C es i) (freed i own1) ∙ ap₂ (λ (b : Option ValType) (y : List ValType). option_to_list b ++ y) (result_is C es i) (freed_types i own1) ∙ sym (grown_list (result_type C es i) own1)

pub cuts : (n : ℕ) (own js : List Place) (taken below : List ValType) → length taken ≡ n → map place_type own ≡ taken ++ below → Cuts n own js taken below
cuts zero own js [] below n e = record { taken_are = refl; own1 = own; left = refl; types = e }
cuts zero own js (t ∷ ts) below n e = absurd (omega (arith, n))
cuts (suc k) own js [] below n e = absurd (omega (arith, n))
cuts (suc k) [] js (t ∷ ts) below n e = absurd (cc)
cuts (suc k) (p ∷ own) js (t ∷ ts) below n e =
    let same : place_type p ≡ t = cc in
    let rest : map place_type own ≡ ts ++ below = cc in
    let c = cuts k own js ts below (omega (arith, n)) rest in
    record { taken_are = ap₂ (λ a b. a ∷ b) same c.taken_are; own1 = c.own1; left = c.left; types = c.types }

pub grown_types : (r : Option ValType) (own : List Place) (below : List ValType) → map place_type own ≡ below → map place_type (grown r own) ≡ option_to_list r ++ below
grown_types None own below e = e
grown_types (Some t) own below e = ap (λ z. t ∷ z) e

-- ---- tables of arrows

-- what an instruction gives has the type that the rewriting takes for it
gives_is : (C : Ctx) (ls : List Info) (t : ValType) (i : Basic) (a : Arrow) (es : List Place) → arrow (original C ls) t i ≡ Some a → map place_type (take (takes i) es) ≡ a.takes → a.gives ≡ option_to_list (result_type C es i)
gives_is C ls t i a es e h =
    by_kind (type_source i) (sym (arrow_is (original C ls) t i) ∙ e) (ap (λ (n : ℕ). map place_type (take n es)) (sym (takes_is i)) ∙ h) ∙ ap option_to_list (sym (result_typed C es i))
  where
    second : (es : List Place) → map place_type (take 3 es) ≡ I32 ∷ t ∷ t ∷ [] → t ∷ [] ≡ option_to_list (second_type es)
    second [] q = absurd (cc)
    second (c ∷ []) q = absurd (cc)
    second (c ∷ b ∷ es) q = let z : place_type b ≡ t = cc in ap (λ u. u ∷ []) (sym z)

    by_kind : (k : TypeSource) → source_arrow (original C ls) t k ≡ Some a → map place_type (take (source_takes k) es) ≡ a.takes → a.gives ≡ option_to_list (result_by C es k)
    by_kind DropsAny e h = sym (ap (λ (z : Arrow). z.gives) (some_is e))
    by_kind SelectsAny e h =
        let z : (I32 ∷ t ∷ t ∷ [] ⇒ t ∷ []) ≡ a = some_is e in
        sym (ap (λ (q : Arrow). q.gives) z) ∙ second es (h ∙ sym (ap (λ (q : Arrow). q.takes) z))
    by_kind (FromLocal x) e h = let f = map_found (slice_get C.locals x) _ a e in rw f.1 (sym (ap (λ (z : Arrow). z.gives) f.2))
    by_kind (IntoLocal x) e h = let f = map_found (slice_get C.locals x) _ a e in sym (ap (λ (z : Arrow). z.gives) f.2)
    by_kind (TeesLocal x) e h = let f = map_found (slice_get C.locals x) _ a e in rw f.1 (sym (ap (λ (z : Arrow). z.gives) f.2))
    by_kind (FromGlobal x) e h =
        let f = map_found (slice_get C.source.globals x) _ a e in
        let z : slice_get (map (λ g. g.vtype) C.source.globals) x ≡ Some f.0.vtype = slice_get-map (λ g. g.vtype) C.source.globals x ∙ ap (option_map (λ g. g.vtype)) f.1 in
        rw z (sym (ap (λ (z : Arrow). z.gives) f.2))
    by_kind (IntoGlobal x) e h =
        let u = then_found (slice_get C.source.globals x) set_global a e in
        sym (ap (λ (z : Arrow). z.gives) (some_is (only_found u.0.mutable _ a u.2)))
    by_kind (OverMemory fits ts given) e h = sym (ap (λ (z : Arrow). z.gives) (some_is (only_found _ _ a (any_found C.source.memories _ a e))))
    by_kind (OfItself ts given) e h = sym (ap (λ (z : Arrow). z.gives) (some_is e))

-- an instruction of the original, on these places
pub record Takes (C : Ctx) (i : Basic) (own js : List Place) (between : List ValType) (a : Arrow) : Type 0 where
  pub taken : map place_type (take (takes i) (own ++ js)) ≡ a.takes
  pub gives : a.gives ≡ option_to_list (result_type C (own ++ js) i)
  pub own1 : List Place
  pub left : less (takes i) (own ++ js) ≡ own1 ++ js
  pub after : map place_type (grown (result_type C (own ++ js) i) own1) ≡ between

pub takes_of : (C : Ctx) (ls : List Info) (i : Basic) (own js : List Place) (between : List ValType) (h : BasicTypes (original C ls) i (map place_type own) between) → Takes C i own js between h.arrow_is
takes_of C ls i own js between h =
    let a = h.arrow_is in
    let c = cuts (takes i) own js a.takes h.above.below (takes_len (original C ls) i h.any a h.has) h.above.takes in
    let g = gives_is C ls h.any i a (own ++ js) h.has c.taken_are in
    record {
      taken = c.taken_are;
      gives = g;
      own1 = c.own1;
      left = c.left;
      after = grown_types (result_type C (own ++ js) i) c.own1 h.above.below c.types ∙ ap (λ z. z ++ h.above.below) (sym g) ∙ sym h.above.gives;
    }

module _ (C : Ctx) (m : Module) (locals : List ValType) (off : Offers C m locals) (returns : List ValType) where
  abbrev at : List (List ValType) → Context
  at labels = at_labels m locals returns labels

  any_kept : {B : Type 0} (o : Option B) (b : B) → typing.if_any C.source.memories o ≡ Some b → typing.if_any m.memories o ≡ Some b
  any_kept o b e = rw off.memories e

  -- an instruction of the original takes and gives the same here
  arrow_kept : (ls : List Info) (labels : List (List ValType)) (t : ValType) (i : Basic) (a : Arrow) → arrow (original C ls) t i ≡ Some a → arrow (at labels) t i ≡ Some a
  arrow_kept ls labels t i a e = arrow_is (at labels) t i ∙ by_kind (type_source i) (sym (arrow_is (original C ls) t i) ∙ e)
    where
      by_kind : (k : TypeSource) → source_arrow (original C ls) t k ≡ Some a → source_arrow (at labels) t k ≡ Some a
      by_kind DropsAny e = e
      by_kind SelectsAny e = e
      by_kind (FromLocal x) e = let f = map_found (slice_get C.locals x) _ a e in rw (off.locals_are, get_front C.locals (added C.slots) x f.0 f.1) (ap Some f.2)
      by_kind (IntoLocal x) e = let f = map_found (slice_get C.locals x) _ a e in rw (off.locals_are, get_front C.locals (added C.slots) x f.0 f.1) (ap Some f.2)
      by_kind (TeesLocal x) e = let f = map_found (slice_get C.locals x) _ a e in rw (off.locals_are, get_front C.locals (added C.slots) x f.0 f.1) (ap Some f.2)
      by_kind (FromGlobal x) e = let f = map_found (slice_get C.source.globals x) _ a e in rw (off.globals x f.0 f.1) (ap Some f.2)
      by_kind (IntoGlobal x) e = let f = then_found (slice_get C.source.globals x) set_global a e in rw (off.globals x f.0 f.1) f.2
      by_kind (OverMemory fits ts given) e = any_kept _ a e
      by_kind (OfItself ts given) e = e

  -- ---- guards

  kind_division : {labels : List (List ValType)} {z s : List ValType} {k : Nodes} (op : BinaryOp) → Divider op → (t : ValType) (es : List Place) → length es ≤ C.slots → AllOwn C es → map place_type (take 2 es) ≡ t ∷ t ∷ [] → Ok (at labels) z (I32 ∷ s) k → Ok (at labels) z s (kind C (Binary t op) es k)
  kind_division op by_div_s t [] le w h g = ok_const (i32 2) g
  kind_division op by_div_s t (b ∷ []) le w h g = ok_const (i32 2) g
  kind_division op by_div_s t (b ∷ a ∷ es) le w h g = ok_kind_signed C m locals off returns t b (suc (length es)) (omega (arith, le)) w.0 (let same : place_type b ≡ t = cc in same) g
  kind_division op by_div_u t es le w h g = ok_const (i32 2) g
  kind_division op by_rem_s t es le w h g = ok_const (i32 2) g
  kind_division op by_rem_u t es le w h g = ok_const (i32 2) g

  -- the piece that pushes the kind, where the operands are there
  pub kind_ok : {labels : List (List ValType)} {z s : List ValType} {k : Nodes} (ls : List Info) (i : Basic) → Risky i → (t : ValType) (a : Arrow) (es : List Place) → length es ≤ C.slots → AllOwn C es → arrow (original C ls) t i ≡ Some a → map place_type (take (takes i) es) ≡ a.takes → can_trap i ≡ true → Ok (at labels) z (I32 ∷ s) k → Ok (at labels) z s (kind C i es k)
  kind_ok ls i (risky_binary u op by) t a es le w e h d g = kind_division op by u es le w (h ∙ sym (ap (λ z. z.takes) (some_is e))) g
  kind_ok ls i (risky_load l al o) t a es le w e h d g = ok_const (i32 4) g
  kind_ok ls i (risky_store l al o) t a es le w e h d g = ok_const (i32 4) g
  kind_ok ls i risky_copy t a es le w e h d g = ok_const (i32 4) g
  kind_ok ls i risky_fill t a es le w e h d g = ok_const (i32 4) g

  -- ---- the labels

  -- those of landings, and outside of them the exit and the function
  abbrev pub outside : List Landing → List (List ValType)
  outside [] = [] ∷ returns ∷ []
  outside (x ∷ xs) = option_to_list x.carried ∷ outside xs

  -- those of the original, inside of them
  abbrev pub inside : List Info → List (List ValType)
  inside ls = map (λ i. option_to_list (carries i)) ls ++ outside C.landings

  pub outside_exit : (xs : List Landing) → IsExit (length xs) (outside xs)
  outside_exit [] = refl
  outside_exit (x ∷ xs) = outside_exit xs

  outside_land : (xs : List Landing) (x : Landing) (n : ℕ) → number_of x xs ≡ Some n → slice_get (outside xs) n ≡ Some (option_to_list x.carried)
  outside_land [] x n e = absurd (cc)
  outside_land (y ∷ ys) x n e = by_same (λ m is. outside_land ys x m is) (same_landing x y) refl e
    where
      beyond : ((m : ℕ) → number_of x ys ≡ Some m → slice_get (outside ys) m ≡ Some (option_to_list x.carried)) → (q : Option ℕ) → number_of x ys ≡ q → option_map suc q ≡ Some n → slice_get (outside (y ∷ ys)) n ≡ Some (option_to_list x.carried)
      beyond more None is e = absurd (cc)
      beyond more (Some m) is e =
          let z : suc m ≡ n = ap (λ o. unwrap_or o 0) e in
          subst (λ n. slice_get (outside (y ∷ ys)) n ≡ Some (option_to_list x.carried)) z (more m is)

      by_same : ((m : ℕ) → number_of x ys ≡ Some m → slice_get (outside ys) m ≡ Some (option_to_list x.carried)) → (b : Bool) → same_landing x y ≡ b → (if b then Some 0 else option_map suc (number_of x ys)) ≡ Some n → slice_get (outside (y ∷ ys)) n ≡ Some (option_to_list x.carried)
      by_same more true s e =
          let z : 0 ≡ n = ap (λ o. unwrap_or o 0) e in
          subst (λ n. slice_get (outside (y ∷ ys)) n ≡ Some (option_to_list x.carried)) z (ap (λ (u : Landing). Some (option_to_list u.carried)) (sym (same_landing_is x y s)))
      by_same more false s e = beyond more (number_of x ys) refl e

  infos_length : (ls : List Info) → length ls ≡ length (map (λ i. option_to_list (carries i)) ls)
  infos_length [] = refl
  infos_length (i ∷ ls) = ap suc (infos_length ls)

  exit_there : (ls : List Info) → IsExit (length ls + length C.landings) (inside ls)
  exit_there ls = slice_get-append (map (λ i. option_to_list (carries i)) ls) (outside C.landings) (length ls) (length C.landings) (infos_length ls) ∙ outside_exit C.landings

  land_there : (ls : List Info) (x : Landing) (n : ℕ) → number_of x C.landings ≡ Some n → slice_get (inside ls) (length ls + n) ≡ Some (option_to_list x.carried)
  land_there ls x n e = slice_get-append (map (λ i. option_to_list (carries i)) ls) (outside C.landings) (length ls) n (infos_length ls) ∙ outside_land C.landings x n e

  -- a guard and its test, in front of an instruction whose operands are on the stack
  guarded_ok : (ls : List Info) (z : List ValType) (i : Basic) (t : ValType) (a : Arrow) (own js : List Place) (below : List ValType) (o : ℕ) (k : Nodes) (q : Bool) → length (own ++ js) ≤ C.slots → AllOwn C (own ++ js) → arrow (original C ls) t i ≡ Some a → map place_type (take (takes i) (own ++ js)) ≡ a.takes → map place_type own ≡ a.takes ++ below → (q ≡ true → can_trap i ≡ true) → Ok (at (inside ls)) z (map place_type own) k → Ok (at (inside ls)) z (map place_type own) (guarded q C (length ls) (own ++ js) o i k)
  guarded_ok ls z i t a own js below o k false le w e h is d g = g
  guarded_ok ls z i t a own js below o k true le w e h is dt g = by_kind own (one_kind i) refl le w h is g
    where
      d : can_trap i ≡ true
      d = dt refl

      in_place : (own : List Place) → length (own ++ js) ≤ C.slots → AllOwn C (own ++ js) → map place_type (take (takes i) (own ++ js)) ≡ a.takes → Ok (at (inside ls)) z (map place_type own) k → Ok (at (inside ls)) z (map place_type own) (checked None C (length ls) (own ++ js) o (guard C i (own ++ js)) (kind C i (own ++ js)) k)
      in_place own le w h g =
          guard_ok C m locals off returns (inside ls) z (map place_type own) (tested C (length ls) (own ++ js) o (kind C i (own ++ js)) k) ls i (risk_of i d) t a (own ++ js) le w e h d
          (ok_tested C m locals off returns (length ls) (own ++ js) o (kind C i (own ++ js)) le w (exit_there ls) (λ arm y. kind_ok ls i (risk_of i d) t a (own ++ js) le w e h d y) g)

      no_operand : (js : List Place) (m : ℕ) → takes i ≡ suc m → map place_type (take (takes i) js) ≡ a.takes → [] ≡ a.takes ++ below → js ≡ []
      no_operand [] m tk h is = refl
      no_operand (p ∷ js) m tk h is =
          let x : place_type p ∷ map place_type (take m js) ≡ a.takes = subst (λ n. map place_type (take n (p ∷ js)) ≡ a.takes) tk h in
          let y : [] ≡ (place_type p ∷ map place_type (take m js)) ++ below = is ∙ ap (λ (q : List ValType). q ++ below) (sym x) in
          absurd (cc)

      by_number : (own : List Place) (k1 : ℕ) → one_kind i ≡ Some k1 → (q : Option ℕ) → number_in C.landings (carrying (part_of C.locals o) (Some k1) (own ++ js)) ≡ q → length (own ++ js) ≤ C.slots → AllOwn C (own ++ js) → map place_type (take (takes i) (own ++ js)) ≡ a.takes → map place_type own ≡ a.takes ++ below → Ok (at (inside ls)) z (map place_type own) k → Ok (at (inside ls)) z (map place_type own) (checked q C (length ls) (own ++ js) o (guard C i (own ++ js)) (kind C i (own ++ js)) k)
      by_number own k1 one None num le w h is g = in_place own le w h g
      by_number [] k1 one (Some n) num le w h is g =
          let tk = takes_one i k1 one in
          let none : js ≡ [] = no_operand js tk.0 tk.1 h is in
          let num' : number_in C.landings (carrying (part_of C.locals o) (Some k1) []) ≡ Some n = subst (λ (x : List Place). number_in C.landings (carrying (part_of C.locals o) (Some k1) x) ≡ Some n) none num in
          absurd (cc)
      by_number (p ∷ own) k1 one (Some n) num le w h is g =
          ok_landing C m locals off returns (length ls) n o (place_type p ∷ []) (map place_type own) (guard C i ((p ∷ own) ++ js)) (kind C i ((p ∷ own) ++ js)) ((p ∷ own) ++ js) (land_there ls (record { carried = Some (place_type p); places = own ++ js; kind = k1; part = part_of C.locals o }) n num) refl
          (λ k y. guard_ok C m locals off returns (inside ls) z (map place_type (p ∷ own)) k ls i (risk_of i d) t a ((p ∷ own) ++ js) le w e h d y) g

      by_kind : (own : List Place) (q : Option ℕ) → one_kind i ≡ q → length (own ++ js) ≤ C.slots → AllOwn C (own ++ js) → map place_type (take (takes i) (own ++ js)) ≡ a.takes → map place_type own ≡ a.takes ++ below → Ok (at (inside ls)) z (map place_type own) k → Ok (at (inside ls)) z (map place_type own) (checked (number_in C.landings (carrying (part_of C.locals o) q (own ++ js))) C (length ls) (own ++ js) o (guard C i (own ++ js)) (kind C i (own ++ js)) k)
      by_kind own None one le w h is g = in_place own le w h g
      by_kind own (Some k1) one le w h is g = by_number own k1 one (number_in C.landings (carrying (part_of C.locals o) (Some k1) (own ++ js))) refl le w h is g

  label_there : (ls : List Info) (l : ℕ) (types : List ValType) → IsLabel (original C ls) l types → slice_get (inside ls) l ≡ Some types
  label_there ls l types e = get_front (map (λ i. option_to_list (carries i)) ls) (outside C.landings) l types e

  labels_there : (ls : List Info) (ts : List ℕ) (types : List ValType) → AreLabels (original C ls) ts types → AllByRecursion (λ n. slice_get (inside ls) n ≡ Some types) ts
  labels_there ls [] types h = tt
  labels_there ls (t ∷ ts) types h = (label_there ls t types h.0, labels_there ls ts types h.1)

  -- ---- instructions

  abbrev Rest : List Info → List Place → Nodes → List ValType → List ValType → Type 0
  Rest ls js rest between z = (own : List Place) → map place_type own ≡ between → AllOwn C (own ++ js) → Room C (own ++ js) rest → Ok (at (inside ls)) z between (rewrite C (length ls) (own ++ js) rest)

  free_ok : {labels : List (List ValType)} {z s : List ValType} {k : Nodes} (o : Option ℕ) (es : List Place) → length es ≤ C.slots → AllOwn C es → Ok (at labels) z s k → Ok (at labels) z s (free_at C o es k)
  free_ok None es le w g = g
  free_ok (Some x) es le w g = ok_spill C m locals off returns (λ y. x == y) es le w g

  -- `memory.grow` has a memory
  grows_over : (ls : List Info) (i : Basic) (t : ValType) (a : Arrow) → arrow (original C ls) t i ≡ Some a → grows i ≡ true → HasMemory m.memories
  grows_over ls i t a e g = by_growth (growth i)
    where
      by_growth : (i ≡ MemoryGrow) ⊎ (grows i ≡ false) → HasMemory m.memories
      by_growth (inl same) =
          let e1 = subst (λ i. arrow (original C ls) t i ≡ Some a) same e in
          subst HasMemory (sym off.memories) (any_has C.source.memories _ a e1)
      by_growth (inr stays) = absurd (cc)

  plain_ok : (ls : List Info) (i : Basic) (own js : List Place) (o : ℕ) (rest : Nodes) (between z : List ValType) → Fixed js → BasicTypes (original C ls) i (map place_type own) between → AllOwn C (own ++ js) → Room C (own ++ js) (basic o i rest) → Rest ls js rest between z → Ok (at (inside ls)) z (map place_type own) (plain C (length ls) (own ++ js) o i (passes C rest) (λ es'. rewrite C (length ls) es' rest))
  plain_ok ls i own js o rest between z f h w rm ih =
      let es = own ++ js in
      let d = length ls in
      let pass = passes C rest in
      let n = takes i in
      let p = result_place C es i in
      let a = h.arrow_is in
      let T = takes_of C ls i own js between h in
      let left = less n es in
      let own2 = pushed p (freed i T.own1) in
      let conv : after_plain C es i ≡ own2 ++ js = own_behind C i own js T.own1 T.left f in
      let k = rewrite C d (after_plain C es i) rest in
      let below = h.above.below in
      let low : length left ≤ C.slots = omega (arith, less_shorter n es, rm.0) in
      let between_is : map place_type own2 ≡ between = behind_types C es i T.own1 ∙ T.after in
      let k1 : Ok (at (inside ls)) z between k = subst (λ x. Ok (at (inside ls)) z between (rewrite C d x rest)) (sym conv) (ih own2 between_is (subst (AllOwn C) conv (own_after C i es w)) (subst (λ x. Room C x rest) conv rm.3)) in
      let gives_is_ : a.gives ++ below ≡ option_to_list (option_map place_type p) ++ below = ap (λ (y : List ValType). y ++ below) (T.gives ∙ ap option_to_list (sym (result_is C es i))) in
      let k2 : Ok (at (inside ls)) z (a.gives ++ below) (keep pass C p left k) = subst (λ x. Ok (at (inside ls)) z x (keep pass C p left k)) (sym gives_is_) (ok_keep C m locals off returns pass below p left (subst (λ x. FitsIn C x left) (sym (result_is C es i)) rm.2) (subst (λ x. Ok (at (inside ls)) z x k) (h.above.gives ∙ gives_is_) k1)) in
      let kept = lengthened (grows i) C (keep pass C p left k) in
      let k2b : Ok (at (inside ls)) z (a.gives ++ below) kept = ok_lengthened C m locals off returns (grows i) (grows_over ls i h.any a h.has) k2 in
      let k3 : Ok (at (inside ls)) z (a.takes ++ below) (basic 0 i kept) = ok_basic below i h.any a (arrow_kept ls (inside ls) h.any i a h.has) k2b in
      let k4 : Ok (at (inside ls)) z (map place_type own) (free C i left (basic 0 i kept)) = free_ok (local_written i) left low (own_less C n es w) (subst (λ x. Ok (at (inside ls)) z x (basic 0 i kept)) (sym h.above.takes) k3) in
      guarded_ok ls z i h.any a own js below o (free C i left (basic 0 i kept)) (needs C o i) rm.0 w h.has T.taken h.above.takes (needs_trap C o i) k4

  -- ---- calls

  after_ok : (ls : List Info) (z s : List ValType) (q : Bool) (r : Option ValType) (left : List Place) (o : ℕ) (rest : Nodes) → length left ≤ C.slots → AllOwn C left → FitsIn C r left → Ok (at (inside ls)) z (option_to_list r ++ s) (rewrite C (length ls) (grown r left) rest) → Ok (at (inside ls)) z (option_to_list r ++ s) (after_direct q C (length ls) r left o (passes C rest) (λ es'. rewrite C (length ls) es' rest))
  after_ok ls z s true r left o rest le w fit k = ok_keep_result C m locals off returns (passes C rest) s r left fit (ok_renew C m locals off returns k)
  after_ok ls z s false r left o rest le w fit k = ok_keep_result C m locals off returns (passes C rest) s r left fit (ok_test_flag C m locals off returns (length ls) left o le w (exit_there ls) (λ n is. land_there ls (landing_behind (part_of C.locals o) left) n is) (ok_measure C m locals off returns (measured C) k))

  -- what a call leaves, and its result
  pub record Called (type : FuncType) (own js : List Place) (rest : Nodes) (ls : List Info) (z below : List ValType) : Type 0 where
    pub taken : map place_type (take (length type.params) (own ++ js)) ≡ reverse type.params
    pub goes : Ok (at (inside ls)) z (reverse type.results ++ below) (rewrite C (length ls) (grown (result_of type) (less (length type.params) (own ++ js))) rest)

  called_ok : (ls : List Info) (type : FuncType) (own js : List Place) (rest : Nodes) (between below z : List ValType) → reverse type.results ≡ option_to_list (result_of type) → map place_type own ≡ reverse type.params ++ below → between ≡ reverse type.results ++ below → AllOwn C (own ++ js) → Room C (grown (result_of type) (less (length type.params) (own ++ js))) rest → Rest ls js rest between z → Called type own js rest ls z below
  called_ok ls type own js rest between below z one tk gv w rm ih =
      let n = length type.params in
      let r = result_of type in
      let c = cuts n own js (reverse type.params) below (length-reverse type.params) tk in
      let conv : grown r (less n (own ++ js)) ≡ grown r c.own1 ++ js = ap (grown r) c.left ∙ grown-append r c.own1 js in
      let e : map place_type (grown r c.own1) ≡ between = grown_types r c.own1 below c.types ∙ ap (λ z. z ++ below) (sym one) ∙ sym gv in
      let w1 : AllOwn C (grown r (less n (own ++ js))) = own_grown C r (less n (own ++ js)) (own_less C n (own ++ js) w) in
      record { taken = c.taken_are; goes = subst (λ y. Ok (at (inside ls)) z y (rewrite C (length ls) (grown r (less n (own ++ js))) rest)) gv (subst (λ x. Ok (at (inside ls)) z between (rewrite C (length ls) x rest)) (sym conv) (ih (grown r c.own1) e (subst (AllOwn C) conv w1) (subst (λ x. Room C x rest) conv rm))) }

  call_ok : (ls : List Info) (f : ℕ) (own js : List Place) (o : ℕ) (rest : Nodes) (between z : List ValType) → JumpTypes (original C ls) (Call f) (map place_type own) between → AllOwn C (own ++ js) → Room C (own ++ js) (jump o (Call f) rest) → Rest ls js rest between z → Ok (at (inside ls)) z (map place_type own) (call_code C (length ls) (own ++ js) o f (type_at C.source f) (passes C rest) (λ es'. rewrite C (length ls) es' rest))
  call_ok ls f own js o rest between z h w rm ih =
      let type = h.0 in
      let es = own ++ js in
      let n = length type.params in
      let r = result_of type in
      let left = less n es in
      let one = off.one_result f type h.1 in
      let room = subst (λ q. Room_call C q es (λ es'. Room C es' rest)) h.1 rm.1 in
      let c = called_ok ls type own js rest between h.2.below z one h.2.takes h.2.gives w room.1 ih in
      let q = nat_lt f (import_count C.source) in
      let code = after_direct q C (length ls) r left o (passes C rest) (λ es'. rewrite C (length ls) es' rest) in
      let low : length left ≤ C.slots = omega (arith, less_shorter n es, rm.0) in
      let goes = subst (λ x. Ok (at (inside ls)) z (x ++ h.2.below) (rewrite C (length ls) (grown r left) rest)) one c.goes in
      let k1 : Ok (at (inside ls)) z (reverse type.results ++ h.2.below) code = subst (λ x. Ok (at (inside ls)) z (x ++ h.2.below) code) (sym one) (after_ok ls z h.2.below q r left o rest low (own_less C n es w) room.0 goes) in
      let k2 : Ok (at (inside ls)) z (reverse type.params ++ h.2.below) (call (mapped C.source f) code) = ok_call h.2.below (mapped C.source f) type (off.functions f type h.1) k1 in
      let k3 : Ok (at (inside ls)) z (map place_type own) (call (mapped C.source f) code) = subst (λ x. Ok (at (inside ls)) z x (call (mapped C.source f) code)) (sym h.2.takes) k2 in
      subst (λ q. Ok (at (inside ls)) z (map place_type own) (call_code C (length ls) es o f q (passes C rest) (λ es'. rewrite C (length ls) es' rest))) (sym h.1) k3

  -- the index of an entry is moved
  ok_past : {labels : List (List ValType)} {z s : List ValType} {k : Nodes} (q : Bool) → Ok (at labels) z (I32 ∷ s) k → Ok (at labels) z (I32 ∷ s) (past_shown q C k)
  ok_past false h = h
  ok_past true h = ok_const (i32 (table_min C.source.tables)) (ok_binary I32 Add h)

  indirect_ok : (ls : List Info) (t : ℕ) (own js : List Place) (o : ℕ) (rest : Nodes) (between z : List ValType) → JumpTypes (original C ls) (CallIndirect t) (map place_type own) between → AllOwn C (own ++ js) → Room C (own ++ js) (jump o (CallIndirect t) rest) → Rest ls js rest between z → Ok (at (inside ls)) z (map place_type own) (indirect_code C (length ls) (own ++ js) o t (slice_get C.source.types t) (λ es'. rewrite C (length ls) es' rest))
  indirect_ok ls t [] js o rest between z h w rm ih = absurd (let e : [] ≡ I32 ∷ (reverse h.0.params ++ h.3.below) = h.3.takes in cc)
  indirect_ok ls t (p ∷ own) js o rest between z h w rm ih =
      let type = h.0 in
      let es = own ++ js in
      let d = length ls in
      let labels = inside ls in
      let n = length type.params in
      let r = result_of type in
      let left = less n es in
      let e : place_type p ∷ map place_type own ≡ I32 ∷ (reverse type.params ++ h.3.below) = h.3.takes in
      let pt : place_type p ≡ I32 = one_is e in
      let below : map place_type own ≡ reverse type.params ++ h.3.below = cc in
      let one = off.one_result_of t type h.2 in
      let room = subst (λ q. Room_call C q es (λ es'. Room C es' rest)) h.2 rm.1.1 in
      let c = called_ok ls type own js rest between h.3.below z one below h.3.gives w.1 room.1 ih in
      let low : length left ≤ C.slots = omega (arith, less_shorter n es, rm.0) in
      let high : length es ≤ C.slots = omega (arith, rm.0) in
      let call_ = jump 0 (CallIndirect t) (store C r left stop) in
      let inner = past_shown (doubles C.source) C call_ in
      let others = hand_top C (suc n) (p ∷ es) stop in
      let k = rewrite C d (grown r left) rest in
      let s = place_type p ∷ map place_type own in
      let stored : Ok (at ([] ∷ labels)) [] (reverse type.results ++ []) (store C r left stop) = subst (λ x. Ok (at ([] ∷ labels)) [] (x ++ []) (store C r left stop)) (sym one) (ok_store C m locals off returns r left room.0 (record { typed = refl })) in
      let tables : 1 ≤ length m.tables = subst (λ x. 1 ≤ x) (sym off.tables) h.1 in
      let entered : Ok (at ([] ∷ labels)) [] (I32 ∷ (reverse type.params ++ [])) call_ = record { typed = (reverse type.results ++ [], (type, tables, off.types t type h.2, record { below = []; takes = refl; gives = refl }), stored.typed) } in
      let called_ : Ok (at ([] ∷ labels)) [] (I32 ∷ (reverse type.params ++ [])) inner = ok_past (doubles C.source) entered in
      let arm : Ok (at ([] ∷ labels)) [] [] (load C (suc n) (p ∷ es) inner) = ok_load C m locals off returns (suc n) (p ∷ es) inner rm.0 w (subst₂ (λ x y. Ok (at ([] ∷ labels)) [] (x ∷ (y ++ [])) inner) (sym pt) (sym c.taken) called_) in
      let goes = subst (λ x. Ok (at labels) z (x ++ h.3.below) k) one c.goes in
      let kr = renew_both C (reload C r left k) in
      let back : Ok (at labels) z h.3.below kr = ok_renew C m locals off returns (ok_reload C m locals off returns r left room.0 goes) in
      let count : length (I32 ∷ reverse type.params) ≡ suc n = ap suc (length-reverse type.params) in
      let drop0 : Ok (at labels) z (I32 ∷ (reverse type.params ++ h.3.below)) (drops (suc n) kr) = subst (λ x. Ok (at labels) z (I32 ∷ (reverse type.params ++ h.3.below)) (drops x kr)) count (ok_drops C m locals off returns (I32 ∷ reverse type.params) back) in
      let drop1 : Ok (at labels) z s (drops (suc n) kr) = subst (λ x. Ok (at labels) z x (drops (suc n) kr)) (sym e) drop0 in
      let both = ok_test_both C m locals off returns d (suc n) (p ∷ es) left o rm.0 low w (own_less C n es w.1) (exit_there ls) drop1 in
      let tail = set C (kind_at C) (get C (kind_at C) (basic 0 (Eqz I32) (if_any (load C (suc n) (p ∷ es) inner) (test_both C d left o others (drops (suc n) kr))))) in
      let k1 : Ok (at labels) z (I32 ∷ s) tail = ok_set C m locals off returns (kind_at C) I32 (added_kind C.slots) (ok_get C m locals off returns (kind_at C) I32 (added_kind C.slots) (ok_eqz I32 (ok_if arm both))) in
      let k2 : Ok (at labels) z (I32 ∷ s) (call (helper_of C t) tail) = ok_call s (helper_of C t) helper_type (off.helpers t rm.1.0) k1 in
      let k3 : Ok (at labels) z s (fetch C p (length es) (call (helper_of C t) tail)) = ok_fetch C m locals off returns p (length es) high w.0 (subst (λ u. Ok (at labels) z (u ∷ s) (call (helper_of C t) tail)) (sym pt) k2) in
      subst (λ q. Ok (at labels) z s (indirect_code C d (p ∷ es) o t q (λ es'. rewrite C d es' rest))) (sym h.2) k3

  -- ---- the nodes

  branch_if_ok : (ls : List Info) (l : ℕ) (own js : List Place) (o : ℕ) (rest : Nodes) (between z : List ValType) → JumpTypes (original C ls) (BrIf l) (map place_type own) between → AllOwn C (own ++ js) → Room C (own ++ js) (jump o (BrIf l) rest) → Rest ls js rest between z → Ok (at (inside ls)) z (map place_type own) (jump 0 (BrIf l) (rewrite C (length ls) (less 1 (own ++ js)) rest))
  branch_if_ok ls l [] js o rest between z h w rm ih = absurd (let e : [] ≡ I32 ∷ (h.0 ++ h.2.below) = h.2.takes in cc)
  branch_if_ok ls l (p ∷ own) js o rest between z h w rm ih =
      let e : place_type p ∷ map place_type own ≡ I32 ∷ (h.0 ++ h.2.below) = h.2.takes in
      let below : map place_type own ≡ h.0 ++ h.2.below = cc in
      let k = ih own (below ∙ sym h.2.gives) w.1 rm.1 in
      record { typed = (between, (h.0, label_there ls l h.0 h.1, record { below = h.2.below; takes = h.2.takes; gives = h.2.gives }), k.typed) }

  control_ok : returns ≡ option_to_list C.result → (ls : List Info) (j : Jump) (own js : List Place) (o : ℕ) (rest : Nodes) (between z : List ValType) → JumpTypes (original C ls) j (map place_type own) between → AllOwn C (own ++ js) → Room C (own ++ js) (jump o j rest) → Rest ls js rest between z → Ok (at (inside ls)) z (map place_type own) (control C (length ls) (own ++ js) o j (passes C rest) (λ es'. rewrite C (length ls) es' rest))
  control_ok result_ ls Unreachable own js o rest between z h w rm ih =
      ok_const (i32 1) (ok_tested C m locals off returns (length ls) (own ++ js) o (const (i32 1)) rm.0 w (exit_there ls) (λ arm y. ok_const (i32 1) y) (record { typed = (z, tt, refl) }))
  control_ok result_ ls (Br l) own js o rest between z h w rm ih = record { typed = (z, (h.0, label_there ls l h.0 h.1, h.2), refl) }
  control_ok result_ ls (BrIf l) own js o rest between z h w rm ih = branch_if_ok ls l own js o rest between z h w rm ih
  control_ok result_ ls (BrTable ts d) own js o rest between z h w rm ih = record { typed = (z, (h.0, label_there ls d h.0 h.1, labels_there ls ts h.0 h.2, h.3), refl) }
  control_ok result_ ls Return own js o rest between z h w rm ih = record { typed = (z, record { below = h.below; takes = h.takes ∙ ap (λ (x : List ValType). x ++ h.below) (sym result_) }, refl) }
  control_ok result_ ls (Call f) own js o rest between z h w rm ih = call_ok ls f own js o rest between z h w rm ih
  control_ok result_ ls (CallIndirect t) own js o rest between z h w rm ih = indirect_ok ls t own js o rest between z h w rm ih

  -- behind a block
  behind_ok : (ls : List Info) (t : Option ValType) (own js : List Place) (rest : Nodes) (before z : List ValType) → map place_type own ≡ before → AllOwn C (own ++ js) → FitsIn C t (own ++ js) → Room C (grown t (own ++ js)) rest → Rest ls js rest (option_to_list t ++ before) z → Ok (at (inside ls)) z (option_to_list t ++ before) (with_result C t (own ++ js) (passes C rest) (λ es'. rewrite C (length ls) es' rest))
  behind_ok ls t own js rest before z e w fit rm ih =
      let conv = grown-append t own js in
      ok_keep_result C m locals off returns (passes C rest) before t (own ++ js) fit (subst (λ x. Ok (at (inside ls)) z (option_to_list t ++ before) (rewrite C (length ls) x rest)) (sym conv) (ih (grown t own) (grown_types t own before e) (subst (AllOwn C) conv (own_grown C t (own ++ js) w)) (subst (λ x. Room C x rest) conv rm)))

  pub rewrite_ok : returns ≡ option_to_list C.result → (nodes : Nodes) (ls : List Info) (own js : List Place) (before z : List ValType) → map place_type own ≡ before → Fixed js → AllOwn C (own ++ js) → Room C (own ++ js) nodes → Types (original C ls) nodes before z → Ok (at (inside ls)) z before (rewrite C (length ls) (own ++ js) nodes)
  rewrite_ok result_ stop ls own js before z e f w rm ty = record { typed = ty }
  rewrite_ok result_ (basic o b rest) ls own js before z e f w rm ty =
      subst (λ x. Ok (at (inside ls)) z x (rewrite C (length ls) (own ++ js) (basic o b rest))) e
      (plain_ok ls b own js o rest ty.0 z f (subst (λ x. BasicTypes (original C ls) b x ty.0) (sym e) ty.1) w rm (λ own' e' w' rm'. rewrite_ok result_ rest ls own' js ty.0 z e' f w' rm' ty.2))
  rewrite_ok result_ (jump o j rest) ls own js before z e f w rm ty =
      subst (λ x. Ok (at (inside ls)) z x (rewrite C (length ls) (own ++ js) (jump o j rest))) e
      (control_ok result_ ls j own js o rest ty.0 z (subst (λ x. JumpTypes (original C ls) j x ty.0) (sym e) ty.1) w rm (λ own' e' w' rm'. rewrite_ok result_ rest ls own' js ty.0 z e' f w' rm' ty.2))
  rewrite_ok result_ (block o t inner end rest) ls own js before z e f w rm ty =
      let es = own ++ js in
      let u = under own in
      let sp : under es ≡ u ++ js = without_append (λ x. true) own js f in
      let wu : AllOwn C (u ++ js) = subst (AllOwn C) sp (own_without C (λ x. true) es w) in
      let fu : Fixed (u ++ js) = subst Fixed sp (fixed_under es) in
      let a = rewrite_ok result_ inner (in_block t ∷ ls) [] (u ++ js) [] (option_to_list t) refl fu wu (subst (λ x. Room C x inner) sp rm.1) ty.0 in
      let b = behind_ok ls t u js rest before z (without_types (λ x. true) own ∙ e) wu (subst (FitsIn C t) sp rm.2) (subst (λ x. Room C (grown t x) rest) sp rm.3) (λ own' e' w' rm'. rewrite_ok result_ rest ls own' js (option_to_list t ++ before) z e' f w' rm' ty.1) in
      let code = λ (x : List Place). block 0 t (rewrite C (suc (length ls)) x inner) 0 (with_result C t x (passes C rest) (λ es'. rewrite C (length ls) es' rest)) in
      let k : Ok (at (inside ls)) z before (code (u ++ js)) = record { typed = (a.typed, b.typed) } in
      ok_spill C m locals off returns (λ x. true) es rm.0 w (subst (λ x. Ok (at (inside ls)) z before (code x)) (sym sp) k)
  rewrite_ok result_ (loop o t inner end rest) ls own js before z e f w rm ty =
      let es = own ++ js in
      let u = under own in
      let sp : under es ≡ u ++ js = without_append (λ x. true) own js f in
      let wu : AllOwn C (u ++ js) = subst (AllOwn C) sp (own_without C (λ x. true) es w) in
      let fu : Fixed (u ++ js) = subst Fixed sp (fixed_under es) in
      let a = rewrite_ok result_ inner (in_loop t ∷ ls) [] (u ++ js) [] (option_to_list t) refl fu wu (subst (λ x. Room C x inner) sp rm.1) ty.0 in
      let b = behind_ok ls t u js rest before z (without_types (λ x. true) own ∙ e) wu (subst (FitsIn C t) sp rm.2) (subst (λ x. Room C (grown t x) rest) sp rm.3) (λ own' e' w' rm'. rewrite_ok result_ rest ls own' js (option_to_list t ++ before) z e' f w' rm' ty.1) in
      let code = λ (x : List Place). loop 0 t (rewrite C (suc (length ls)) x inner) 0 (with_result C t x (passes C rest) (λ es'. rewrite C (length ls) es' rest)) in
      let k : Ok (at (inside ls)) z before (code (u ++ js)) = record { typed = (a.typed, b.typed) } in
      ok_spill C m locals off returns (λ x. true) es rm.0 w (subst (λ x. Ok (at (inside ls)) z before (code x)) (sym sp) k)
  rewrite_ok result_ (choose o t x ea y end rest) ls [] js before z e f w rm ty = absurd (let q : [] ≡ I32 ∷ ty.2 = e ∙ ty.3 in cc)
  rewrite_ok result_ (choose o t x ea y end rest) ls (p ∷ own) js before z e f w rm ty =
      let q : place_type p ∷ map place_type own ≡ I32 ∷ ty.2 = e ∙ ty.3 in
      let below : map place_type own ≡ ty.2 = cc in
      let es = own ++ js in
      let u = under own in
      let sp : under es ≡ u ++ js = without_append (λ x. true) own js f in
      let wu : AllOwn C (u ++ js) = subst (AllOwn C) sp (own_without C (λ x. true) es w.1) in
      let fu : Fixed (u ++ js) = subst Fixed sp (fixed_under es) in
      let a = rewrite_ok result_ x (in_block t ∷ ls) [] (u ++ js) [] (option_to_list t) refl fu wu (subst (λ v. Room C v x) sp rm.1) ty.0 in
      let b = rewrite_ok result_ y (in_block t ∷ ls) [] (u ++ js) [] (option_to_list t) refl fu wu (subst (λ v. Room C v y) sp rm.2) ty.1 in
      let c = behind_ok ls t u js rest ty.2 z (without_types (λ x. true) own ∙ below) wu (subst (FitsIn C t) sp rm.3) (subst (λ v. Room C (grown t v) rest) sp rm.4) (λ own' e' w' rm'. rewrite_ok result_ rest ls own' js (option_to_list t ++ ty.2) z e' f w' rm' ty.4) in
      let code = λ (v : List Place). choose 0 t (rewrite C (suc (length ls)) v x) (option_map (λ at. 0) ea) (rewrite C (suc (length ls)) v y) 0 (with_result C t v (passes C rest) (λ es'. rewrite C (length ls) es' rest)) in
      let k : Ok (at (inside ls)) z before (code (u ++ js)) = record { typed = (a.typed, b.typed, ty.2, ty.3, c.typed) } in
      let high : length es ≤ C.slots = omega (arith, rm.0) in
      ok_spill C m locals off returns (λ x. true) es high w.1 (subst (λ v. Ok (at (inside ls)) z before (code v)) (sym sp) k)

-- ---- the operands of landings have their places

abbrev pub Fine : Ctx → Landing → Type 0
Fine C x = (length x.places ≤ C.slots) × AllOwn C x.places

abbrev pub AllFine : Ctx → List Landing → Type 0
AllFine C [] = Unit {0}
AllFine C (x ∷ xs) = Fine C x × AllFine C xs

own_landed : (C : Ctx) (os : List ℕ) (ys : List Landing) (ds : List Derivation) (e : Place) → Own C e → Own (landed C os ys ds) e
own_landed C os ys ds (Spilled t) h = tt
own_landed C os ys ds (Known v) h = tt
own_landed C os ys ds (Copied t x) h = h

all_own_landed : (C : Ctx) (os : List ℕ) (ys : List Landing) (ds : List Derivation) (es : List Place) → AllOwn C es → AllOwn (landed C os ys ds) es
all_own_landed C os ys ds [] h = tt
all_own_landed C os ys ds (e ∷ es) h = (own_landed C os ys ds e h.0, all_own_landed C os ys ds es h.1)

pub all_fine_landed : (C : Ctx) (os : List ℕ) (ys : List Landing) (ds : List Derivation) (xs : List Landing) → AllFine C xs → AllFine (landed C os ys ds) xs
all_fine_landed C os ys ds [] h = tt
all_fine_landed C os ys ds (x ∷ xs) h = ((h.0.0, all_own_landed C os ys ds x.places h.0.1), all_fine_landed C os ys ds xs h.1)

module _ (C : Ctx) where
  fine_append : (x : Landing) (xs : List Landing) → Fine C x → AllFine C xs → AllFine C (xs ++ x ∷ [])
  fine_append x [] f h = (f, tt)
  fine_append x (y ∷ xs) f h = (h.0, fine_append x xs f h.1)

  fine_end : (b : Bool) (x : Landing) (xs : List Landing) → Fine C x → AllFine C xs → AllFine C (at_end b x xs)
  fine_end false x xs f h = h
  fine_end true x xs f h = fine_append x xs f h

  fine_unless : (q : Option ℕ) (x : Landing) (xs : List Landing) → Fine C x → AllFine C xs → AllFine C (unless_there q x xs)
  fine_unless None x xs f h = fine_end (nat_lt (length xs) most_landings) x xs f h
  fine_unless (Some n) x xs f h = h

  fine_carrying : (p : ℕ) (q : Option ℕ) (es : List Place) (xs : List Landing) → length es ≤ C.slots → AllOwn C es → AllFine C xs → AllFine C (with_some (carrying p q es) xs)
  fine_carrying p None es xs le w h = h
  fine_carrying p (Some k) [] xs le w h = h
  fine_carrying p (Some k) (e ∷ es) xs le w h = let x : Landing = record { carried = Some (place_type e); places = es; kind = k; part = p } in fine_unless (number_of x xs) x xs (omega (arith, le), w.1) h

  fine_needed : (p : ℕ) (b : Bool) (i : Basic) (es : List Place) (xs : List Landing) → length es ≤ C.slots → AllOwn C es → AllFine C xs → AllFine C (with_some (needed b (landing_of p i es)) xs)
  fine_needed p false i es xs le w h = h
  fine_needed p true i es xs le w h = fine_carrying p (one_kind i) es xs le w h

  fine_call : (p : ℕ) (b : Bool) (es : List Place) (xs : List Landing) → length es ≤ C.slots → AllOwn C es → AllFine C xs → AllFine C (landing_call p b es xs)
  fine_call p true es xs le w h = h
  fine_call p false es xs le w h = fine_unless (number_of (landing_behind p es) xs) (landing_behind p es) xs (le, w) h

  abbrev Goes : Nodes → (List Place → List Landing → List Landing) → Type 0
  Goes rest go = (es' : List Place) (xs' : List Landing) → AllOwn C es' → Room C es' rest → AllFine C xs' → AllFine C (go es' xs')

  fine_called : (p : ℕ) (b : Bool) (o : Option FuncType) (es : List Place) (xs : List Landing) (rest : Nodes) (go : List Place → List Landing → List Landing) → Goes rest go → length es ≤ C.slots → AllOwn C es → Room_call C o es (λ es'. Room C es' rest) → AllFine C xs → AllFine C (landings_call p b o es xs go)
  fine_called p b None es xs rest go g le w rm h = h
  fine_called p b (Some type) es xs rest go g le w rm h =
      let left = less (length type.params) es in
      let wl = own_less C (length type.params) es w in
      g (grown (result_of type) left) (landing_call p b left xs) (own_grown C (result_of type) left wl) rm.1 (fine_call p b left xs (omega (arith, le, less_shorter (length type.params) es)) wl h)

  fine_jump : (p : ℕ) (j : Jump) (es : List Place) (xs : List Landing) (rest : Nodes) (go : List Place → List Landing → List Landing) → Goes rest go → length es ≤ C.slots → AllOwn C es → Room_jump C j es (λ es'. Room C es' rest) → AllFine C xs → AllFine C (landings_jump C p j es xs go)
  fine_jump p Unreachable es xs rest go g le w rm h = h
  fine_jump p (Br l) es xs rest go g le w rm h = h
  fine_jump p (BrIf l) es xs rest go g le w rm h = g (less 1 es) xs (own_less C 1 es w) rm h
  fine_jump p (BrTable ts d) es xs rest go g le w rm h = h
  fine_jump p Return es xs rest go g le w rm h = h
  fine_jump p (Call f) es xs rest go g le w rm h = fine_called p (nat_lt f (import_count C.source)) (type_at C.source f) es xs rest go g le w rm h
  fine_jump p (CallIndirect t) es xs rest go g le w rm h = fine_called p true (slice_get C.source.types t) (less 1 es) xs rest go g (omega (arith, le, less_shorter 1 es)) (own_less C 1 es w) rm.1 h

  pub fine_landings : (es : List Place) (nodes : Nodes) (xs : List Landing) → AllOwn C es → Room C es nodes → AllFine C xs → AllFine C (landings_from C es nodes xs)
  fine_landings es stop xs w rm h = h
  fine_landings es (basic o i rest) xs w rm h = fine_landings (after_plain C es i) rest (with_some (landing_at C o i es) xs) (own_after C i es w) rm.3 (fine_needed (part_of C.locals o) (needs C o i) i es xs rm.0 w h)
  fine_landings es (jump o j rest) xs w rm h = fine_jump (part_of C.locals o) j es xs rest (λ es' xs'. landings_from C es' rest xs') (λ es' xs' w' rm' h'. fine_landings es' rest xs' w' rm' h') rm.0 w rm.1 h
  fine_landings es (block o t inner end rest) xs w rm h =
      let wu = own_without C (λ x. true) es w in
      fine_landings (grown t (under es)) rest (landings_from C (under es) inner xs) (own_grown C t (under es) wu) rm.3 (fine_landings (under es) inner xs wu rm.1 h)
  fine_landings es (loop o t inner end rest) xs w rm h =
      let wu = own_without C (λ x. true) es w in
      fine_landings (grown t (under es)) rest (landings_from C (under es) inner xs) (own_grown C t (under es) wu) rm.3 (fine_landings (under es) inner xs wu rm.1 h)
  fine_landings es (choose o t a ea b end rest) xs w rm h =
      let left = under (less 1 es) in
      let wu = own_without C (λ x. true) (less 1 es) (own_less C 1 es w) in
      fine_landings (grown t left) rest (landings_from C left b (landings_from C left a xs)) (own_grown C t left wu) rm.4 (fine_landings left b (landings_from C left a xs) wu rm.2 (fine_landings left a xs wu rm.1 h))

-- ---- bodies

module _ (C : Ctx) (m : Module) (locals : List ValType) (off : Offers C m locals) where
  abbrev returns : List ValType
  returns = option_to_list C.result

  abbrev at_body : List (List ValType) → Context
  at_body labels = at_labels m locals returns labels

  ok_return : {labels : List (List ValType)} {z : List ValType} → Ok (at_body labels) z returns (jump 0 Return stop)
  ok_return {z = z} = record { typed = (z, record { below = []; takes = sym (append-nil returns) }, refl) }

  hand_locals_ok : (labels : List (List ValType)) (z : List ValType) (todo done : List ValType) (k : Nodes) → C.locals ≡ done ++ todo → Ok (at_body labels) z [] k → Ok (at_body labels) z [] (hand_locals C (length done) todo k)
  hand_locals_ok labels z [] done k e h = h
  hand_locals_ok labels z (t ∷ todo) done k e h =
      let at : slice_get locals (length done) ≡ Some t = ap (λ x. slice_get x (length done)) (off.locals_are ∙ ap (λ x. x ++ added C.slots) e) ∙ middle done todo in
      let n : length (done ++ t ∷ []) ≡ suc (length done) = omega (arith, length-append done (t ∷ [])) in
      let rest = hand_locals_ok labels z todo (done ++ t ∷ []) k (e ∙ sym (append_assoc done (t ∷ []) todo)) h in
      ok_basic [] (LocalGet (length done)) I32 ([] ⇒ t ∷ []) (ap (option_map (λ u. [] ⇒ u ∷ [])) at) (ok_hand_value C m locals off returns t (subst (λ x. Ok (at_body labels) z [] (hand_locals C x todo k)) n rest))
    where
      middle : (done todo : List ValType) → slice_get ((done ++ t ∷ todo) ++ added C.slots) (length done) ≡ Some t
      middle [] todo = refl
      middle (u ∷ done) todo = middle done todo

  zero_ok : (labels : List (List ValType)) (z : List ValType) (r : Option ValType) → C.result ≡ r → Ok (at_body labels) z [] (zero_result r (jump 0 Return stop))
  zero_ok labels z None e = subst (λ x. Ok (at_body labels) z x (jump 0 Return stop)) (ap option_to_list e) ok_return
  zero_ok labels z (Some t) e = ok_const (zero_of t) (subst (λ x. Ok (at_body labels) z x (jump 0 Return stop)) (ap option_to_list e ∙ ap (λ u. u ∷ []) (sym (zero_type t))) ok_return)
    where
      zero_type : (t : ValType) → type_of (zero_of t) ≡ t
      zero_type I32 = refl
      zero_type I64 = refl

  set_flag : {labels : List (List ValType)} {z s : List ValType} {k : Nodes} → Ok (at_body labels) z s k → Ok (at_body labels) z (I32 ∷ s) (basic 0 (GlobalSet (flag_of C.source)) k)
  set_flag {labels = labels} {s = s} h =
      let e : arrow (at_body labels) I32 (GlobalSet (flag_of C.source)) ≡ Some (I32 ∷ [] ⇒ []) = rw (off.flag_there, off.flag_mutable, off.flag_type) refl in
      ok_basic s (GlobalSet (flag_of C.source)) I32 (I32 ∷ [] ⇒ []) e h

  worked_out_ok : (labels : List (List ValType)) (z : List ValType) (ds : List Derivation) (k : Nodes) → AllByRecursion (Fitting C.locals) ds → Ok (at_body labels) z [] k → Ok (at_body labels) z [] (worked_out ds k)
  worked_out_ok labels z [] k f h = h
  worked_out_ok labels z (d ∷ ds) k f h =
      let set_ = ok_set_own C m locals off returns d.made (given_type d.instruction) f.0.made (worked_out_ok labels z ds k f.1 h) in
      let both = ok_derives d.instruction (derived_by d.instruction f.0.derives) set_ in
      ok_own C m locals off returns d.left (taken_type d.instruction) f.0.left (ok_own C m locals off returns d.right (taken_type d.instruction) f.0.right both)

  exit_ok : (labels : List (List ValType)) → AllByRecursion (Fitting C.locals) C.derivations → Ok (at_body labels) returns [] (exit_code C)
  exit_ok labels fit =
      worked_out_ok labels returns C.derivations _ fit
      (hand_locals_ok labels returns C.locals [] _ refl
      (ok_get C m locals off returns (kind_at C) I32 (added_kind C.slots) (ok_const (i32 C.index) (ok_get C m locals off returns (offset_at C) I32 (added_offset C.slots) (ok_const (i32 (length C.locals))
      (ok_call [] (frame_import C.source) frame_type off.frames (ok_const (i32 1) (set_flag (zero_ok labels returns C.result refl)))))))))

  -- ---- landings

  landing_ok : (n : ℕ) (labels : List (List ValType)) (z : List ValType) (x : Landing) → IsExit n labels → Fine C x → Ok (at_body labels) z (option_to_list x.carried) (landing_code C n x)
  landing_ok n labels z x e h = ok_const (i32 x.kind) (ok_set C m locals off returns (kind_at C) I32 (added_kind C.slots) (ok_hand C m locals off returns x.places _ h.0 h.1 (carried x.carried)))
    where
      carried : (r : Option ValType) → Ok (at_body labels) z (option_to_list r) (hand_carried C r (jump 0 (Br n) stop))
      carried None = ok_branch n e
      carried (Some t) = ok_hand_value C m locals off returns t (ok_branch n e)

  nested_ok : (xs : List Landing) (inner : Nodes) → AllFine C xs → ((z : List ValType) → Ok (at_body (outside C m locals off returns xs)) z [] inner) → Ok (at_body (outside C m locals off returns [])) [] [] (nested C xs inner)
  nested_ok [] inner h g = g []
  nested_ok (x ∷ xs) inner h g =
      nested_ok xs (block 0 x.carried inner 0 (landing_code C (length xs) x)) h.1
      (λ z. let labels = outside C m locals off returns xs in let k : Ok (at_body labels) z (option_to_list x.carried ++ []) (landing_code C (length xs) x) = subst (λ s. Ok (at_body labels) z s (landing_code C (length xs) x)) (sym (append-nil (option_to_list x.carried))) (landing_ok (length xs) labels z x (outside_exit C m locals off returns xs) h.0) in record { typed = ((g (option_to_list x.carried)).typed, k.typed) })

  pub laid_ok : (nodes : Nodes) → AllFine C C.landings → AllByRecursion (Fitting C.locals) C.derivations → Room C [] nodes → Types (original C (in_body C.result ∷ [])) nodes [] returns → Types (rewritten C m locals) (laid C nodes) [] returns
  laid_ok nodes fine fit rm ty =
      let a = rewrite_ok C m locals off returns refl nodes (in_body C.result ∷ []) [] [] [] returns refl tt tt rm ty in
      let core = nested_ok C.landings (block 0 C.result (rewrite C 1 [] nodes) 0 (jump 0 Return stop)) fine (λ z. record { typed = (a.typed, (subst (λ s. Ok (at_body (outside C m locals off returns C.landings)) z s (jump 0 Return stop)) (sym (append-nil returns)) ok_return).typed) }) in
      (ok_measure C m locals off returns (measured C) (record { typed = (core.typed, (exit_ok (returns ∷ []) fit).typed) })).typed

-- the rewritten module offers the same with landings
pub offers_landed : (C : Ctx) (m : Module) (locals : List ValType) (os : List ℕ) (xs : List Landing) (ds : List Derivation) → Offers C m locals → Offers (landed C os xs ds) m locals
offers_landed C m locals os xs ds off =
    record { locals_are = off.locals_are; globals = off.globals; flag = off.flag; flag_there = off.flag_there; flag_type = off.flag_type; flag_mutable = off.flag_mutable; length_ = off.length_; length_there = off.length_there; length_type = off.length_type; length_mutable = off.length_mutable; memories = off.memories; tables = off.tables; types = off.types; functions = off.functions; values = off.values; frames = off.frames; helpers = off.helpers; one_result = off.one_result; one_result_of = off.one_result_of }

pub body_ok : (C : Ctx) (m : Module) (locals : List ValType) → Offers C m locals → (nodes : Nodes) → Room C [] nodes → Types (original C (in_body C.result ∷ [])) nodes [] (option_to_list C.result) → Types (rewritten C m locals) (body C nodes) [] (option_to_list C.result)
body_ok C m locals off nodes rm ty =
    let os = exposed_in C.source.memories nodes in
    let C1 = landed C os [] [] in
    let xs = landings_from C1 [] nodes [] in
    let ds = derived_for C.source C.index C.locals nodes in
    laid_ok (landed C os xs ds) m locals (offers_landed C m locals os xs ds off) nodes (all_fine_landed C1 os xs ds xs (fine_landings C1 [] nodes [] tt (room_landed C os [] [] [] nodes rm) tt)) (derived_fit C.source C.index C.locals nodes) (room_landed C os xs ds [] nodes rm) ty
