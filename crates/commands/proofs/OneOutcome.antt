-- The steps of a command have at most one outcome where what comes behind them has.
use Rattle.std.proofs.Common.{◌≡◌, Result, Ok, Err, sym, ap, ◌∙◌, inl, inr}
use Rattle.wasm_syntax.specs.declared.quantity.Quantity.TheVariants.{Height}
use Rattle.wasm_syntax.specs.declared.module.ModuleParts.{ModuleParts as Module}
use Rattle.wasm_syntax.specs.Valid.{Valid}
use Rattle.wasm_validate.specs.Heights.{AllLow}
use Rattle.wasm_decode.specs.declared.fault.DecodeFault.{DecodeFault}
use Rattle.wasm_validate.proofs.Once.{one_first_invalid, one_first_high, low_not_high, valid_not_invalid}
use Rattle.commands.specs.Inputs.{Then}
use Rattle.commands.specs.Loading.{IfLoaded}
use Rattle.commands.specs.Refusal.{invalid, IsRefusal, IfValid}
use Rattle.commands.specs.Texts.{over_limit}
use Rattle.commands.specs.declared.outcome.Outcome.{Outcome}

-- What is an answer in the one way and what is one in the other are the same.
abbrev pub Agree : (P Q : Outcome → Type 0) → Type 0
Agree P Q = (a b : Outcome) → P a → Q b → a ≡ b

one_value : (o a b : Outcome) → a ≡ o → b ≡ o → a ≡ b
one_value o a b ea eb = ea ∙ sym eb

pub agree_then : {A : Type 0} (r : Result A Outcome) (P Q : A → Outcome → Type 0) → ((x : A) → Agree (P x) (Q x)) → Agree (Then r P) (Then r Q)
agree_then (Ok x) P Q agree a b pa qb = agree x a b pa qb
agree_then (Err refusal) P Q agree a b pa qb = one_value refusal a b pa qb

one_refusal : (m : Module) → Agree (IsRefusal m) (IsRefusal m)
one_refusal m a b (inl (p, first_p, ea)) (inl (q, first_q, eb)) = ea ∙ ap invalid (one_first_invalid m p q first_p first_q) ∙ sym eb
one_refusal m a b (inl (p, first_p, ea)) (inr (valid, (count, high, eb))) = absurd (valid_not_invalid m p valid first_p)
one_refusal m a b (inr (valid, (count, high, ea))) (inl (q, first_q, eb)) = absurd (valid_not_invalid m q valid first_q)
one_refusal m a b (inr (valid, (n, high_n, ea))) (inr (also, (k, high_k, eb))) = ea ∙ ap (over_limit Height) (one_first_high m n k high_n high_k) ∙ sym eb

-- a module that is taken is not refused
not_both : (m : Module) (o : Outcome) → IsRefusal m o → Valid m → AllLow m → ⊥
not_both m o (inl (p, first_p, e)) valid low = valid_not_invalid m p valid first_p
not_both m o (inr (also, (count, high, e))) valid low = low_not_high m count low high

agree_if_valid : (P Q : Module → Outcome → Type 0) → ((m : Module) → Agree (P m) (Q m)) → (m : Module) → Agree (IfValid P m) (IfValid Q m)
agree_if_valid P Q agree m a b (inl ra) (inl rb) = one_refusal m a b ra rb
agree_if_valid P Q agree m a b (inl ra) (inr (valid, low, qb)) = absurd (not_both m a ra valid low)
agree_if_valid P Q agree m a b (inr (valid, low, pa)) (inl rb) = absurd (not_both m b rb valid low)
agree_if_valid P Q agree m a b (inr (valid, low, pa)) (inr (also, low', qb)) = agree m a b pa qb

pub agree_if_loaded : (P Q : Module → Outcome → Type 0) → ((m : Module) → Agree (P m) (Q m)) → (decoded : Result Module DecodeFault) → Agree (IfLoaded P decoded) (IfLoaded Q decoded)
agree_if_loaded P Q agree (Err fault) a b pa qb = pa ∙ sym qb
agree_if_loaded P Q agree (Ok m) a b pa qb = agree_if_valid P Q agree m a b pa qb
