-- The invocations that words ask for.
use Rattle.std.specs.Prelude.{ℕ, ◌+◌, if◌then◌else◌}
use Rattle.wasm_syntax.specs.Run.{Invocation}
use Rattle.run_words.specs.declared.invocation.Invocation.{Invocation as InvocationWords}
use Rattle.run_words.specs.declared.words.RunWords.{RunWords}

abbrev pub invocation_of : InvocationWords → Invocation
invocation_of i = record { name = i.entry; args = i.args }

-- how many frames may stand: with a collector two more than the words say, for the wrapper of an export and the helper of an indirect call
abbrev pub depth_of : RunWords → ℕ
depth_of w = if w.collect then w.depth + 2 else w.depth
