-- The typing as a relation with one case per instruction, one for sequences and one that adds equal types below: the same.
use Rattle.std.proofs.Common.{◌≡◌, ℕ, List, [], ◌∷◌, ◌++◌, reverse, refl, sym, subst}
use Rattle.std.proofs.lemmas.List.{append-nil}
use Rattle.std.specs.Prelude.{option_to_list, ◌↔◌}
use Rattle.wasm_syntax.specs.declared.value.ValType.{ValType}
use Rattle.wasm_syntax.specs.declared.value.ValType.TheVariants.{I32}
use Rattle.wasm_syntax.specs.Tree.{Jump, Unreachable, Br, BrIf, BrTable, Return, Call, CallIndirect, Nodes, stop, basic, jump, block, loop, choose}
use Rattle.wasm_syntax.specs.Typing.{Context, Arrow, ◌⇒◌, Above, JumpTypes, Types, within, call_arrow}
use Rattle.wasm_laws.specs.calls.Literal.{Has, empty, sequence, below, has_basic, has_unreachable, has_br, has_br_if, has_br_table, has_return, has_call, has_call_indirect, has_block, has_loop, has_if}
use Rattle.wasm_laws.proofs.Weaken.{weaken, joined}

no_below : (ts : List ValType) → ts ≡ ts ++ []
no_below ts = sym (append-nil ts)

has_types : {c : Context} {ns : Nodes} {before after : List ValType} → Has c ns before after → Types c ns before after
has_types empty = refl
has_types (sequence {c = c} ns ms {before = b} m {after = a} h k) = joined c ns ms b m a (has_types h) (has_types k)
has_types (below {c = c} {ns = ns} before after ts h) = weaken c ns before after ts (has_types h)
has_types (has_basic t a e) = (a.gives, record { any = t; arrow_is = a; has = e; above = record { below = []; takes = no_below a.takes; gives = no_below a.gives } }, refl)
has_types (has_unreachable {after = a}) = (a, tt, refl)
has_types (has_br {after = a} types ts e) = (a, (types, e, record { below = ts; takes = refl }), refl)
has_types (has_br_if types e) = (types, (types, e, record { below = []; takes = no_below (I32 ∷ types); gives = no_below types }), refl)
has_types (has_br_table {after = a} types ts e f) = (a, (types, e, f, record { below = ts; takes = refl }), refl)
has_types (has_return {after = a} ts) = (a, record { below = ts; takes = refl }, refl)
has_types (has_call type e) = (reverse type.results, (type, e, record { below = []; takes = no_below (reverse type.params); gives = no_below (reverse type.results) }), refl)
has_types (has_call_indirect type le e) = (reverse type.results, (type, le, e, record { below = []; takes = no_below (I32 ∷ reverse type.params); gives = no_below (reverse type.results) }), refl)
has_types (has_block {t = t} h) = (has_types h, append-nil (option_to_list t))
has_types (has_loop {t = t} h) = (has_types h, append-nil (option_to_list t))
has_types (has_if {t = t} h k) = (has_types h, has_types k, [], refl, append-nil (option_to_list t))

-- ---- and back

at_types : {c : Context} {ns : Nodes} (b b' a a' : List ValType) → b ≡ b' → a ≡ a' → Has c ns b a → Has c ns b' a'
at_types {c} {ns} b b' a a' e f h = subst (λ x. Has c ns x a') e (subst (λ x. Has c ns b x) f h)

above_has : {c : Context} {ns : Nodes} (a : Arrow) (before after : List ValType) → Above a before after → Has c ns a.takes a.gives → Has c ns before after
above_has a before after ab h = at_types (a.takes ++ ab.below) before (a.gives ++ ab.below) after (sym ab.takes) (sym ab.gives) (below a.takes a.gives ab.below h)

nothing : {c : Context} (ts : List ValType) → Has c stop ts ts
nothing ts = below [] [] ts empty

jump_has : (c : Context) (at : ℕ) (j : Jump) (before after : List ValType) → JumpTypes c j before after → Has c (jump at j stop) before after
jump_has c at Unreachable before after h = has_unreachable
jump_has c at (Br n) before after h = at_types (h.0 ++ h.2.below) before after after (sym h.2.takes) refl (has_br h.0 h.2.below h.1)
jump_has c at (BrIf n) before after h = above_has (I32 ∷ h.0 ⇒ h.0) before after h.2 (has_br_if h.0 h.1)
jump_has c at (BrTable targets default) before after h = at_types (I32 ∷ (h.0 ++ h.3.below)) before after after (sym h.3.takes) refl (has_br_table h.0 h.3.below h.1 h.2)
jump_has c at Return before after h = at_types (c.returns ++ h.below) before after after (sym h.takes) refl (has_return h.below)
jump_has c at (Call g) before after h = above_has (call_arrow h.0) before after h.2 (has_call h.0 h.1)
jump_has c at (CallIndirect t) before after h = above_has (I32 ∷ reverse h.0.params ⇒ reverse h.0.results) before after h.3 (has_call_indirect h.0 h.1 h.2)

types_has : (c : Context) (ns : Nodes) (before after : List ValType) → Types c ns before after → Has c ns before after
types_has c stop before after h = at_types before before before after refl h (nothing before)
types_has c (basic at i rest) before after h = sequence (basic at i stop) rest h.0 (above_has h.1.arrow_is before h.0 h.1.above (has_basic h.1.any h.1.arrow_is h.1.has)) (types_has c rest h.0 after h.2)
types_has c (jump at j rest) before after h = sequence (jump at j stop) rest h.0 (jump_has c at j before h.0 h.1) (types_has c rest h.0 after h.2)
types_has c (block at t body end rest) before after h =
    sequence (block at t body end stop) rest (option_to_list t ++ before) (below [] (option_to_list t) before (has_block (types_has (within c (option_to_list t)) body [] (option_to_list t) h.0))) (types_has c rest (option_to_list t ++ before) after h.1)
types_has c (loop at t body end rest) before after h =
    sequence (loop at t body end stop) rest (option_to_list t ++ before) (below [] (option_to_list t) before (has_loop (types_has (within c []) body [] (option_to_list t) h.0))) (types_has c rest (option_to_list t ++ before) after h.1)
types_has c (choose at t a e b end rest) before after h =
    sequence (choose at t a e b end stop) rest (option_to_list t ++ h.2)
    (at_types (I32 ∷ h.2) before (option_to_list t ++ h.2) (option_to_list t ++ h.2) (sym h.3) refl (below (I32 ∷ []) (option_to_list t) h.2 (has_if (types_has (within c (option_to_list t)) a [] (option_to_list t) h.0) (types_has (within c (option_to_list t)) b [] (option_to_list t) h.1))))
    (types_has c rest (option_to_list t ++ h.2) after h.4)

pub the_same : (c : Context) (ns : Nodes) (before after : List ValType) → Has c ns before after ↔ Types c ns before after
the_same c ns before after = (has_types, types_has c ns before after)
