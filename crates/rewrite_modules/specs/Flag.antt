-- Behind a trap the flag is down again: a host may go on with the instance, by a function of its table or in a call that was under way.
use Rattle.std.specs.Prelude.{ℕ, ◌+◌, ◌≡◌, ◌≤◌, List, length, slice_get, Some, false, true}
use Rattle.wasm_syntax.specs.declared.host.Reply.{Reply}
use Rattle.wasm_syntax.specs.declared.value.Value.TheVariants as values
use Rattle.wasm_syntax.specs.Module.{Program}
use Rattle.wasm_syntax.specs.Machine.{Config}
use Rattle.wasm_syntax.specs.Run.{trapped, Ran, Invocation, run}
use Rattle.rewrite_modules.specs.Simulates.{NoneDeep}

-- For every list of invocations, replies, n, and depth from 1 to 10,000, unless the original exhausts its call depth: behind each invocation
-- of the other that traps within n steps its flag, which is the global behind those of the original, is 0.
abbrev pub LowersFlag : Program → Program → Type 0
LowersFlag p p' = (is : List Invocation) (replies : List Reply) (d n i k : ℕ) (r : Ran) (c : Config) → 1 ≤ d → d ≤ 10000 → NoneDeep (run p false is replies d n) → slice_get (run p' true is replies (d + 2) n) i ≡ Some r → r.outcome ≡ trapped k → r.last ≡ Some c → slice_get c.world.globals (length p.module_.globals) ≡ Some (values.I32 0)
