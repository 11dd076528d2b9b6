-- A list of words has at most one answer, one list of replies that were given, and one list of written files.
use Rattle.std.proofs.Common.{◌≡◌, ℕ, List, Option, Some, None, sym, subst, ◌∙◌}
use Rattle.wasm_syntax.specs.declared.quantity.Quantity.TheVariants.{ModuleBytes, DumpBytes}
use Rattle.wasm_syntax.specs.declared.host.Served.{Served}
use Rattle.pm_outside.specs.Contents.{Contents}
use Rattle.wasm_decode.specs.Decode.{module_from}
use Rattle.host_set.specs.Sets.{DeviceState}
use Rattle.commands.specs.Inputs.{input_of}
use Rattle.commands.specs.declared.outcome.Outcome.{Outcome}
use Rattle.commands.proofs.OneOutcome.{Agree, agree_then, agree_if_loaded}
use Rattle.pm_outside.specs.Held.{Writes}
use Rattle.instrument_command.proofs.OneAnswer.{one_instrument_answer, same_names}
use Rattle.wasm_laws.proofs.OneProgram.{same_program}
use Rattle.selftest_command.proofs.OneSelftest.{one_dump, same_files}
use Rattle.pm_cli.specs.Answer.{AnswersTo, IsAnswer, SameAnswer, SameWrites, CheckAnswer, ShowAnswer, checked}
use Rattle.pm_cli.specs.Words.{command}
use Rattle.pm_cli.specs.declared.words.Command.{Command}
use Rattle.pm_cli.specs.declared.words.Command.TheVariants.{Check, Run, Instrument, Show, Debug, Selftest, Replay, Cover}
use Rattle.debug_command.proofs.OneDebug.{one_debug}
use Rattle.pm_cli.proofs.OneRun.{one_run_answer, one_run_given, one_run_written}
use Rattle.pm_cli.proofs.OneCovered.{one_cover_given}
use Rattle.replay_command.proofs.OneReplay.{one_replay}
use Rattle.cover_command.proofs.OneCover.{one_cover_answer, one_cover_written}

one_check : (m : List ℕ) (content : Option (List ℕ)) → Agree (CheckAnswer m content) (CheckAnswer m content)
one_check m content = agree_then (input_of ModuleBytes m content) _ _ (λ bytes. agree_if_loaded checked checked (λ parts a b pa qb. pa ∙ sym qb) (module_from bytes))

one_show : (dump : List ℕ) (content : Option (List ℕ)) → Agree (ShowAnswer dump content) (ShowAnswer dump content)
one_show dump content = agree_then (input_of DumpBytes dump content) _ _ (λ bytes a b pa qb. pa ∙ sym qb)

one_to : (before after : List DeviceState) (c : Option Command) (first later : Contents) (given : List Served) (x y : Writes) (a b : Outcome) → AnswersTo before after c first later given x a → AnswersTo before after c first later given y b → SameAnswer c x y a b
one_to before after (Some (Check m)) first later given x y a b pa qb = one_check m (first m) a b pa.0 qb.0
one_to before after (Some (Run w)) first later given x y a b pa qb = one_run_answer before after w first later given given x y a b pa qb
one_to before after (Some (Instrument m out)) first later given x y a b pa qb = one_instrument_answer m out first x y a b pa.0 qb.0
one_to before after (Some (Show dump)) first later given x y a b pa qb = one_show dump (first dump) a b pa.0 qb.0
one_to before after (Some (Debug w)) first later given x y a b pa qb = one_debug w first later a b pa.0 qb.0
one_to before after (Some (Selftest n)) first later given x y a b pa qb = one_dump n x y a b pa.0 qb.0
one_to before after (Some (Replay w)) first later given x y a b pa qb = one_replay w first later a b pa.0 qb.0
one_to before after (Some (Cover w)) first later given x y a b pa qb = one_cover_answer same_program before after w first later given x y a b pa qb
one_to before after None first later given x y a b pa qb = pa.0 ∙ sym qb.0

one_written : (before after : List DeviceState) (c : Option Command) (first later : Contents) (given : List Served) (x y : Writes) (a b : Outcome) → AnswersTo before after c first later given x a → AnswersTo before after c first later given y b → SameWrites c x y
one_written before after (Some (Check m)) first later given x y a b pa qb = pa.1.writes_none ∙ sym qb.1.writes_none
one_written before after (Some (Run w)) first later given x y a b pa qb = one_run_written before after w first later given x y a b pa qb
one_written before after (Some (Instrument m out)) first later given x y a b pa qb = same_names m out first x y a b pa.0 qb.0
one_written before after (Some (Show dump)) first later given x y a b pa qb = pa.1.writes_none ∙ sym qb.1.writes_none
one_written before after (Some (Debug w)) first later given x y a b pa qb = pa.1.writes_none ∙ sym qb.1.writes_none
one_written before after (Some (Selftest n)) first later given x y a b pa qb = same_files n x y a b pa.0 qb.0
one_written before after (Some (Replay w)) first later given x y a b pa qb = pa.1.writes_none ∙ sym qb.1.writes_none
one_written before after (Some (Cover w)) first later given x y a b pa qb = one_cover_written before after w first later given x y a b pa qb
one_written before after None first later given x y a b pa qb = pa.1.writes_none ∙ sym qb.1.writes_none

-- logs, script and contents fix which replies were given
given_to_both : (before after : List DeviceState) (c : Option Command) (first later : Contents) (given other : List Served) (x y : Writes) (a b : Outcome) → AnswersTo before after c first later given x a → AnswersTo before after c first later other y b → given ≡ other
given_to_both before after (Some (Check m)) first later given other x y a b pa qb = pa.1.given_none ∙ sym qb.1.given_none
given_to_both before after (Some (Run w)) first later given other x y a b pa qb = one_run_given before after w first later given other x y a b pa qb
given_to_both before after (Some (Instrument m out)) first later given other x y a b pa qb = pa.1.1 ∙ sym qb.1.1
given_to_both before after (Some (Show dump)) first later given other x y a b pa qb = pa.1.given_none ∙ sym qb.1.given_none
given_to_both before after (Some (Debug w)) first later given other x y a b pa qb = pa.1.given_none ∙ sym qb.1.given_none
given_to_both before after (Some (Selftest n)) first later given other x y a b pa qb = pa.1.1 ∙ sym qb.1.1
given_to_both before after (Some (Replay w)) first later given other x y a b pa qb = pa.1.given_none ∙ sym qb.1.given_none
given_to_both before after (Some (Cover w)) first later given other x y a b pa qb = one_cover_given before after w first later given other x y a b pa qb
given_to_both before after None first later given other x y a b pa qb = pa.1.given_none ∙ sym qb.1.given_none

one_by_given : (before after : List DeviceState) (c : Option Command) (first later : Contents) (given other : List Served) (x y : Writes) (a b : Outcome) → AnswersTo before after c first later given x a → AnswersTo before after c first later other y b → (given ≡ other) × SameAnswer c x y a b × SameWrites c x y
one_by_given before after c first later given other x y a b pa qb =
    let same = given_to_both before after c first later given other x y a b pa qb in
    let here : AnswersTo before after c first later other x a = subst (λ l. AnswersTo before after c first later l x a) same pa in
    (same, one_to before after c first later other x y a b here qb, one_written before after c first later other x y a b here qb)

pub one_answer : (before after : List DeviceState) (words : List (List ℕ)) (first later : Contents) (given other : List Served) (x y : Writes) (a b : Outcome) → IsAnswer before after words first later given x a → IsAnswer before after words first later other y b
    → (given ≡ other) × SameAnswer (command words) x y a b × SameWrites (command words) x y
unfolding IsAnswer
one_answer before after words first later given other x y a b pa qb = one_by_given before after (command words) first later given other x y a b pa qb
