-- Programs without their offsets, lengths and custom sections: what these are changes no run, and is only shown.
use Rattle.std.specs.Prelude.{map, option_map}
use Rattle.wasm_syntax.specs.Tree.{Nodes, stop, basic, jump, block, loop, choose, Tree}
use Rattle.wasm_syntax.specs.Module.{Program}
use Rattle.wasm_syntax.specs.Machine.{Kind, leaves, again, returns, Label, Frame, Config, label, frame, config, Stepped, next, ends, traps, no_reply, bad_reply, stuck}
use Rattle.wasm_syntax.specs.Run.{Ran}
use Rattle.wasm_syntax.specs.SameCode.{code_alone}

abbrev pub bare_nodes : Nodes → Nodes
bare_nodes stop = stop
bare_nodes (basic at i rest) = basic 0 i (bare_nodes rest)
bare_nodes (jump at j rest) = jump 0 j (bare_nodes rest)
bare_nodes (block at t body end rest) = block 0 t (bare_nodes body) 0 (bare_nodes rest)
bare_nodes (loop at t body end rest) = loop 0 t (bare_nodes body) 0 (bare_nodes rest)
bare_nodes (choose at t a else_at b end rest) = choose 0 t (bare_nodes a) (option_map (λ at. 0) else_at) (bare_nodes b) 0 (bare_nodes rest)

abbrev pub bare_tree : Tree → Tree
bare_tree tree = record { nodes = bare_nodes tree.nodes; end = 0 }

abbrev pub bare : Program → Program
bare p = record { module_ = code_alone p.module_; trees = map bare_tree p.trees }

-- ---- configurations and runs

abbrev pub bare_kind : Kind → Kind
bare_kind (leaves t) = leaves t
bare_kind (again at t body end) = again 0 t (bare_nodes body) 0
bare_kind (returns t) = returns t

abbrev pub bare_label : Label → Label
bare_label l = label l.operands (bare_nodes l.nodes) 0 (bare_kind l.kind)

abbrev pub bare_frame : Frame → Frame
bare_frame f = frame f.function f.result 0 f.locals (map bare_label f.labels)

abbrev pub bare_config : Config → Config
bare_config c = config (map bare_frame c.frames) c.world c.collected

abbrev pub bare_stepped : Stepped → Stepped
bare_stepped (next c) = next (bare_config c)
bare_stepped (ends w vs co) = ends w vs co
bare_stepped (traps k c) = traps k (bare_config c)
bare_stepped (no_reply call c) = no_reply call (bare_config c)
bare_stepped (bad_reply call r c) = bad_reply call r (bare_config c)
bare_stepped stuck = stuck

abbrev pub bare_ran : Ran → Ran
bare_ran r = record { outcome = r.outcome; served = r.served; collected = r.collected; entered = r.entered; last = option_map bare_config r.last; left = r.left }
