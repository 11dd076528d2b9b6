-- The invocations that words ask for: `ENTRY [ARG ...]`, and then any number of `+ ENTRY [ARG ...]`.
use Rattle.std.specs.Prelude.{List, [], ◌∷◌, Bool, Option, Some, None, codes}
use Rattle.std.specs.List.{slice_split}
use Rattle.std.specs.Option.{option_map}
use Rattle.std.specs.Str.{bytes_eq}
use Rattle.pm_text.specs.Numbers.{number_value}
use Rattle.wasm_syntax.specs.declared.value.Value.{Value}
use Rattle.host_replies.specs.Replies.{typed, one_more}
use Rattle.commands.specs.Reading.{Word}
use Rattle.run_words.specs.declared.invocation.Invocation.{Invocation}

-- `i32:` or `i64:`, and an integer of that width, as in a file of replies
abbrev pub argument : Word → Option Value
argument word = option_map typed (number_value word)

-- what the values of a list read as, in order, where each of them reads as something
unfoldable pub each : {A B : Type 0} → (A → Option B) → List A → Option (List B)
each read [] = Some []
each read (x ∷ xs) = one_more (read x) (each read xs)

abbrev pub invoking : Word → List Value → Invocation
invoking entry args = record { entry = entry; args = args }

-- the entry and its arguments
unfoldable pub invocation : List Word → Option Invocation
invocation [] = None
invocation (entry ∷ args) = option_map (invoking entry) (each argument args)

abbrev pub is_plus : Word → Bool
is_plus word = bytes_eq word (codes "+")

-- the invocations between the words `+`; there is at least one, and none is empty
unfoldable pub invocations : List Word → Option (List Invocation)
invocations words = each invocation (slice_split is_plus words)
