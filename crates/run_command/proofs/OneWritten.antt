-- A command has at most one list of written files: none at a refusal.
use Rattle.std.proofs.Common.{◌≡◌, ℕ, ◌+◌, Bool, true, false, List, length, Option, Some, None, Result, Ok, Err, inl, inr, subst}
use Rattle.std.specs.Prelude.{nat_lt, if◌then◌else◌}
use Rattle.pm_outside.specs.Contents.{Contents}
use Rattle.wasm_syntax.specs.Quantity.{greatest}
use Rattle.wasm_syntax.specs.declared.quantity.Quantity.{Quantity}
use Rattle.wasm_syntax.specs.declared.quantity.Quantity.TheVariants.{RepliesBytes}
use Rattle.wasm_syntax.specs.declared.host.Reply.{Reply}
use Rattle.wasm_syntax.specs.declared.module.ModuleParts.{ModuleParts as Module}
use Rattle.wasm_decode.specs.declared.fault.DecodeFault.{DecodeFault}
use Rattle.wasm_decode.specs.declared.fault.DecodeFault.TheVariants.{NoMemory, Malformed, Float, ImportKind, Limit}
use Rattle.host_replies.specs.Replies.{file_replies}
use Rattle.commands.specs.Inputs.{input_of, Then}
use Rattle.commands.specs.Loading.{IfLoaded, undecoded}
use Rattle.commands.specs.Refusal.{IsRefusal, IfValid}
use Rattle.commands.specs.Texts.{over_limit}
use Rattle.commands.specs.declared.outcome.Outcome.{Outcome}
use Rattle.commands.specs.declared.status.Status.{Status}
use Rattle.commands.specs.declared.status.Status.TheVariants as status
use Rattle.run_command.specs.RunAnswer.{IfRefusal, StartsOr, replies_input, script_of, script_of_bytes}

-- a fact that two refusals of one status have together
pub at_refusal : (s : Status) (P Q D : Type 0) → (P → Q → D) → IfRefusal s P → IfRefusal s Q → IfRefusal s D
at_refusal status.Done P Q D to p q = tt
at_refusal status.Trapped P Q D to p q = tt
at_refusal status.HostStopped P Q D to p q = tt
at_refusal status.FuelSpent P Q D to p q = tt
at_refusal status.FileFault P Q D to p q = tt
at_refusal status.NoMemory P Q D to p q = to p q
at_refusal status.Usage P Q D to p q = to p q
at_refusal status.NoFile P Q D to p q = to p q
at_refusal status.Malformed P Q D to p q = to p q
at_refusal status.Outside P Q D to p q = to p q
at_refusal status.Invalid P Q D to p q = to p q
at_refusal status.NotStarted P Q D to p q = to p q
at_refusal status.BadDump P Q D to p q = to p q
at_refusal status.Mismatch P Q D to p q = to p q
at_refusal status.Limit P Q D to p q = to p q
at_refusal status.Collision P Q D to p q = to p q
at_refusal status.TornCalls P Q D to p q = tt
at_refusal status.BadReplies P Q D to p q = to p q

module _ (D : Type 0) where
  -- where what it refuses is known to be a refusal
  abbrev pub Refuses : {A : Type 0} → Result A Outcome → Type 0
  Refuses (Ok x) = Unit {0}
  Refuses (Err o) = IfRefusal o.status D → D

  -- this follows from an answer in the one way and one in the other, where it is known at each refusal
  abbrev pub Gives : (P Q : Outcome → Type 0) → Type 0
  Gives P Q = (a b : Outcome) → IfRefusal a.status D → IfRefusal b.status D → P a → Q b → D

  -- ---- steps that may refuse

  as_said : (o refusal : Outcome) → o ≡ refusal → IfRefusal o.status D → IfRefusal refusal.status D
  as_said o refusal is x = subst (λ (y : Outcome). IfRefusal y.status D) is x

  pub gives_then : {A : Type 0} (r : Result A Outcome) (P Q : A → Outcome → Type 0) → Refuses r → ((x : A) → Gives (P x) (Q x)) → Gives (Then r P) (Then r Q)
  gives_then (Ok x) P Q refuses gives a b at_a at_b pa qb = gives x a b at_a at_b pa qb
  gives_then (Err refusal) P Q refuses gives a b at_a at_b pa qb = refuses (as_said a refusal pa at_a)

  pub gives_starts : (cause : Option (List ℕ)) (P Q : Type 0) → (P → Q → D) → Gives (StartsOr cause P) (StartsOr cause Q)
  gives_starts (Some cause) P Q gives a b at_a at_b pa qb = as_said a _ pa at_a
  gives_starts None P Q gives a b at_a at_b pa qb = gives pa qb

  -- ---- modules

  undecoded_refuses : (fault : DecodeFault) → IfRefusal (undecoded fault).status D → D
  undecoded_refuses (Malformed at) x = x
  undecoded_refuses (Float at) x = x
  undecoded_refuses (ImportKind i) x = x
  undecoded_refuses (Limit what count) x = x
  undecoded_refuses NoMemory x = x

  refusal_gives : (m : Module) (o : Outcome) → IsRefusal m o → IfRefusal o.status D → D
  refusal_gives m o (inl (place, first, is)) x = as_said o _ is x
  refusal_gives m o (inr (valid, (count, high, is))) x = as_said o _ is x

  gives_if_valid : (P Q : Module → Outcome → Type 0) → ((m : Module) → Gives (P m) (Q m)) → (m : Module) → Gives (IfValid P m) (IfValid Q m)
  gives_if_valid P Q gives m a b at_a at_b (inl refused) qb = refusal_gives m a refused at_a
  gives_if_valid P Q gives m a b at_a at_b (inr (valid, low, pa)) (inl refused) = refusal_gives m b refused at_b
  gives_if_valid P Q gives m a b at_a at_b (inr (valid, low, pa)) (inr (also, low', qb)) = gives m a b at_a at_b pa qb

  pub gives_if_loaded : (P Q : Module → Outcome → Type 0) → ((m : Module) → Gives (P m) (Q m)) → (decoded : Result Module DecodeFault) → Gives (IfLoaded P decoded) (IfLoaded Q decoded)
  gives_if_loaded P Q gives (Err fault) a b at_a at_b pa qb = undecoded_refuses fault (as_said a (undecoded fault) pa at_a)
  gives_if_loaded P Q gives (Ok m) a b at_a at_b pa qb = gives_if_valid P Q gives m a b at_a at_b pa qb

  -- ---- files that are read

  abbrev some_bytes : Result (List ℕ) Outcome → Result (Option (List ℕ)) Outcome
  some_bytes r = elim r [ Ok bytes ↦ Ok (Some bytes) | Err o ↦ Err o ]

  pub input_refuses : (what : Quantity) (file : List ℕ) (content : Option (List ℕ)) → Refuses (input_of what file content)
  input_refuses what file None = λ x. x
  input_refuses what file (Some bytes) = by_length (nat_lt (greatest what) (length bytes))
    where
      by_length : (b : Bool) → Refuses (if b then Err (over_limit what (greatest what + 1)) else Ok bytes)
      by_length true = λ x. x
      by_length false = tt

  pub replies_refuse : (file : Option (List ℕ)) (files : Contents) → Refuses (replies_input file files)
  replies_refuse None files = tt
  replies_refuse (Some file) files = by_input (input_of RepliesBytes file (files file)) (input_refuses RepliesBytes file (files file))
    where
      by_input : (r : Result (List ℕ) Outcome) → Refuses r → Refuses (some_bytes r)
      by_input (Ok bytes) x = tt
      by_input (Err o) x = x

  pub script_refuses : (bytes : Option (List ℕ)) → Refuses (script_of bytes)
  script_refuses None = tt
  script_refuses (Some bytes) = by_script (file_replies bytes)
    where
      by_script : (r : Result (List Reply) ℕ) → Refuses (script_of_bytes r)
      by_script (Ok replies) = tt
      by_script (Err line) = λ x. x
