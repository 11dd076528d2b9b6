-- The validation algorithm (Core, appendix "Validation Algorithm") over flat code, as a function on control frames.
use Rattle.std.specs.Prelude.{ℕ, Bool, true, false, ◌&&◌, List, [], ◌∷◌, reverse, slice_get, Option, Some, None, option_map, option_to_list}
use Rattle.wasm_syntax.specs.declared.blocks.BlockKind.{BlockKind}
use Rattle.wasm_syntax.specs.declared.blocks.BlockKind.TheVariants.{Loop, Then}
use Rattle.wasm_syntax.specs.declared.blocks.BlockKind.TheVariants as kinds
use Rattle.wasm_syntax.specs.declared.value.ValType.{ValType}
use Rattle.wasm_syntax.specs.declared.value.ValType.TheVariants.{I32}
use Rattle.wasm_syntax.specs.declared.instruction.Basic.{Basic}
use Rattle.wasm_syntax.specs.declared.instruction.Basic.TheVariants.{Drop, Select}
use Rattle.wasm_syntax.specs.Numbers.{same_type}
use Rattle.wasm_syntax.specs.Tree.{Jump, Unreachable, Br, BrIf, BrTable, Return, Call, CallIndirect, Item, Plain, Goes, Opens, OpensLoop, OpensIf, Else, End, Placed}
use Rattle.wasm_syntax.specs.Module.{type_at, option_then}
use Rattle.wasm_syntax.specs.Typing.{Context, Arrow, ◌⇒◌, arrow, call_arrow, only_if, if_any}
use Rattle.validate_body.specs.calls.Frames.{Known, Frame, opening, set_known, label, pop_type, pop_any, pop, take_any, pops, pushes, forget, emptied, result_of}

abbrev pub apply : List Frame → Arrow → Option (List Frame)
apply fs a = option_map (λ gs. pushes gs a.gives) (pops fs a.takes)

-- ---- drop and select

abbrev pub drop_any : List Frame → Option (List Frame)
drop_any fs = option_map (λ p. p.1) (take_any fs)

-- the type that both are
abbrev pub both : Option ValType → Option ValType → Option (Option ValType)
both None b = Some b
both (Some t) None = Some (Some t)
both (Some t) (Some u) = only_if (same_type t u) (Some (Some t))

abbrev pub select_known : Bool → Known → Option Known
select_known free ks =
    option_then (pop_type free ks I32) (λ ls.
    option_then (pop_any free ls) (λ p.
    option_then (pop_any free p.1) (λ q.
    option_map (λ k. k ∷ q.1) (both p.0 q.0))))

abbrev pub select : List Frame → Option (List Frame)
select [] = None
select (f ∷ fs) = option_map (set_known f fs) (select_known f.free f.known)

-- all but the two that take any type have one arrow
abbrev pub step_basic : Context → List Frame → Basic → Option (List Frame)
step_basic c fs Drop = drop_any fs
step_basic c fs Select = select fs
step_basic c fs i = option_then (arrow c I32 i) (apply fs)

-- ---- jumps

abbrev pub same_option : Option ValType → Option ValType → Bool
same_option None None = true
same_option None (Some u) = false
same_option (Some t) None = false
same_option (Some t) (Some u) = same_type t u

-- the label is there, and takes this
abbrev pub is_label : Option ValType → Option (Option ValType) → Bool
is_label t None = false
is_label t (Some u) = same_option u t

-- each of these labels is
abbrev pub targets_fit : List Frame → Option ValType → List ℕ → Bool
targets_fit fs t [] = true
targets_fit fs t (n ∷ ns) = is_label t (label fs n) && targets_fit fs t ns

abbrev pub step_jump : Context → List Frame → Jump → Option (List Frame)
step_jump c fs Unreachable = Some (forget fs)
step_jump c fs (Br n) = option_then (label fs n) (λ t. option_map forget (pops fs (option_to_list t)))
step_jump c fs (BrIf n) = option_then (label fs n) (λ t. apply fs (I32 ∷ option_to_list t ⇒ option_to_list t))
step_jump c fs (BrTable targets default) =
    option_then (label fs default) (λ t.
    only_if (targets_fit fs t targets) (option_map forget (pops fs (I32 ∷ option_to_list t))))
step_jump c fs Return = option_map forget (pops fs c.returns)
step_jump c fs (Call g) = option_then (type_at c.module_ g) (λ type. apply fs (call_arrow type))
step_jump c fs (CallIndirect t) =
    if_any c.module_.tables (option_then (slice_get c.module_.types t) (λ type. apply fs (I32 ∷ reverse type.params ⇒ reverse type.results)))

-- ---- blocks

abbrev pub closed : List Frame → Option (Frame × List Frame)
closed fs = option_then (pops fs (result_of fs)) emptied

abbrev pub at_else : Frame → List Frame → BlockKind → Option (List Frame)
at_else f fs kinds.Plain = None
at_else f fs Loop = None
at_else f fs Then = Some (opening kinds.Plain f.result ∷ fs)

-- an `if` without `else` gives nothing
abbrev pub may_end : BlockKind → Option ValType → Bool
may_end kinds.Plain t = true
may_end Loop t = true
may_end Then None = true
may_end Then (Some t) = false

abbrev pub at_end : Frame → List Frame → Option (List Frame)
at_end f fs = only_if (may_end f.kind f.result) (Some (pushes fs (option_to_list f.result)))

abbrev pub step_open : Context → List Frame → Item → Option (List Frame)
step_open c fs (Plain i) = step_basic c fs i
step_open c fs (Goes j) = step_jump c fs j
step_open c fs (Opens t) = Some (opening kinds.Plain t ∷ fs)
step_open c fs (OpensLoop t) = Some (opening Loop t ∷ fs)
step_open c fs (OpensIf t) = option_map (λ gs. opening Then t ∷ gs) (pop fs I32)
step_open c fs Else = option_then (closed fs) (λ p. at_else p.0 p.1 p.0.kind)
step_open c fs End = option_then (closed fs) (λ p. at_end p.0 p.1)

-- one instruction; behind the body's last `end` there is none
abbrev pub step : Context → List Frame → Item → Option (List Frame)
step c [] i = None
step c (f ∷ fs) i = step_open c (f ∷ fs) i

abbrev pub run : Context → List Frame → List Placed → Option (List Frame)
run c fs [] = Some fs
run c fs (p ∷ ps) = option_then (step c fs p.code) (λ gs. run c gs ps)

-- at the start of a body that gives this
abbrev pub start : Option ValType → List Frame
start result = opening kinds.Plain result ∷ []
