-- Wrappers: each lowers the flag, sets the length of the memory, calls its function, and where the flag is up behind it, hands over the globals, lowers the flag again and
-- ends in a trap.
use Rattle.std.specs.Prelude.{ℕ, zero, suc, List, [], ◌∷◌, length}
use Rattle.wasm_syntax.specs.declared.value.ValType.{ValType}
use Rattle.wasm_syntax.specs.declared.instruction.Basic.TheVariants.{LocalGet, GlobalGet, GlobalSet}
use Rattle.wasm_syntax.specs.declared.module.ModuleParts.{ModuleParts as Module}
use Rattle.wasm_syntax.specs.Tree.{Unreachable, Nodes, stop, basic, jump}
use Rattle.wasm_syntax.specs.Module.{type_at}
use Rattle.wasm_syntax.specs.Sizes.{parameter_count}
use Rattle.rewrite_bodies.specs.Numbering.{mapped, value_import, frame_import, flag_of, global_types}
use Rattle.rewrite_bodies.specs.calls.Pieces.{const, i32, call, if_any}
use Rattle.rewrite_bodies.specs.calls.Guards.{renew}

-- the parameters from x on
abbrev pub get_all : ℕ → ℕ → Nodes → Nodes
get_all x zero k = k
get_all x (suc n) k = basic 0 (LocalGet x) (get_all (suc x) n k)

-- the globals from x on are handed over
abbrev pub tell_globals : Module → ℕ → List ValType → Nodes → Nodes
tell_globals m x [] k = k
tell_globals m x (t ∷ ts) k = basic 0 (GlobalGet x) (call (value_import m t) (tell_globals m (suc x) ts k))

-- the flag is lowered
abbrev pub lower_flag : Module → Nodes → Nodes
lower_flag m k = const (i32 0) (basic 0 (GlobalSet (flag_of m)) k)

-- the globals, the end of the dump, and a trap with the flag down: a host may go on with the instance behind it, by a function of its table or
-- in a call that was under way
abbrev pub end_of_dump : Module → Nodes
end_of_dump m =
    tell_globals m 0 (global_types m) (const (i32 255) (const (i32 0) (const (i32 0) (const (i32 (length m.globals)) (call (frame_import m) (lower_flag m (jump 0 Unreachable stop)))))))

-- behind the call of a wrapper
abbrev pub after_wrapped : Module → Nodes
after_wrapped m = basic 0 (GlobalGet (flag_of m)) (if_any (end_of_dump m) stop)

-- a host may have made the memory longer
abbrev pub wrapper_nodes : Module → ℕ → ℕ → Nodes
wrapper_nodes m f n = lower_flag m (renew m (get_all 0 n (call (mapped m f) (after_wrapped m))))

abbrev pub wrapper : Module → ℕ → Nodes
wrapper m f = wrapper_nodes m f (parameter_count (type_at m f))
