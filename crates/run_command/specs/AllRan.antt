-- What is told of all that was run.
use Rattle.std.specs.Prelude.{ℕ, ◌-◌, List, [], ◌++◌, length, Option, Some, None, option_and_then, option_map, if◌then◌else◌, codes}
use Rattle.std.specs.List.{flat_map}
use Rattle.std.specs.Fmt.{decimal}
use Rattle.pm_text.specs.Names.{quoted}
use Rattle.wasm_syntax.specs.declared.host.HostCall.{HostCall}
use Rattle.wasm_syntax.specs.declared.parts.Import.{Import}
use Rattle.wasm_syntax.specs.Run.{Outcome as RunOutcome, trapped, lacks_reply, misfits, running, Ran}
use Rattle.host_set.specs.Sets.{is_named}
use Rattle.commands.specs.Texts.{ended}
use Rattle.commands.specs.declared.outcome.Outcome.{Outcome}
use Rattle.run_session.specs.Telling.{Tells, told, torn_in}
use Rattle.run_session.specs.RunText.{invocation_text, traps_in, last_of, fitted, torn_text, not_invoked_text}
use Rattle.run_session.specs.Given.{module_of}
use Rattle.run_session.specs.Ending.{host_stopped, told_status}

module _ (names : List (List ℕ)) (imports : List Import) where
  -- the device that failed, or the number of the call that the script has no reply for
  abbrev pub no_reply_text : HostCall → ℕ → List ℕ
  no_reply_text call n =
      if is_named names (module_of imports call.import) then codes "device " ++ quoted (module_of imports call.import)
      else codes "no reply for call " ++ decimal n

  -- the last line, behind so many replies that fitted and with so many invocations that were not begun
  abbrev pub end_text : ℕ → ℕ → RunOutcome → List ℕ
  end_text n due (lacks_reply call) = host_stopped (no_reply_text call n)
  end_text n due (misfits call reply) = host_stopped (codes "reply " ++ decimal n ++ codes " does not fit")
  end_text n due running = codes "fuel spent\n"
  end_text n due (trapped kind) = not_invoked_text due
  end_text n due _ = []

  -- torn calls are told before all else
  abbrev pub told_end : ℕ → ℕ → (torn : Option ℕ) → RunOutcome → List ℕ
  told_end n due None o = end_text n due o
  told_end n due (Some at) o = torn_text at

  -- all lines of what was run, of so many invocations that were asked for
  abbrev pub text_to : Tells → ℕ → List Ran → Ran → List ℕ
  text_to tell asked rans r = flat_map (invocation_text tell) rans ++ told_end (fitted rans) (asked - length rans) (torn_in (told tell r)) r.outcome

-- What is answered where devices of these names serve these imports. Nothing is where nothing was run, since words ask for an invocation.
abbrev pub all_ran : Tells → List (List ℕ) → List Import → ℕ → List Ran → Option Outcome
all_ran tell names imports asked rans = option_and_then (λ (r : Ran).
    option_map (λ s. ended s (text_to names imports tell asked rans r)) (told_status (traps_in tell rans) (torn_in (told tell r)) r.outcome)) (last_of rans)
