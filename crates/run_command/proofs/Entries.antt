-- The causes of the invocations in order.
use Rattle.std.proofs.Common.{◌≡◌, ℕ, suc, ◌+◌, ◌<◌, ◌≤◌, List, map, length, drop, get_or, sym, ap, ◌∙◌, Option, Some, None, drop-cons}
use Rattle.std.proofs.lemmas.List.{drop_all}
use Rattle.wasm_syntax.specs.declared.module.ModuleParts.{ModuleParts as Module}
use Rattle.wasm_syntax.specs.Module.{function_export}
use Rattle.wasm_syntax.specs.Run.{cause_of_entry}
use Rattle.run_words.specs.declared.invocation.Invocation.{Invocation}
use Rattle.run_session.specs.Invocations.{invocation_of}
use Rattle.run_command.specs.Starting.{cause_text, entries_text}
use Rattle.run_session.proofs.Whole.{one_more}
use Rattle.std.specs.Option.{option_or}

abbrev pub own_text : Module → Invocation → Option (List ℕ)
own_text m i = cause_text i.entry (cause_of_entry m (function_export m i.entry) i.args)

abbrev pub texts : Module → List Invocation → Option (List ℕ)
texts m is = entries_text m (map invocation_of is)

next : (m : Module) (xs : List Invocation) (at : ℕ) (i : Invocation) → at < length xs → i ≡ get_or xs at i → texts m (drop at xs) ≡ option_or (own_text m i) (texts m (drop (at + 1) xs))
next m xs at i lt g =
    ap (λ l. texts m l) (drop-cons xs at i lt) ∙ ap (λ x. option_or (own_text m x) (texts m (drop (suc at) xs))) (sym g)
    ∙ ap (λ n. option_or (own_text m i) (texts m (drop n xs))) (one_more at)

pub found : (m : Module) (xs : List Invocation) (at : ℕ) (i : Invocation) (t : List ℕ) → at < length xs → i ≡ get_or xs at i → own_text m i ≡ Some t → texts m (drop at xs) ≡ texts m xs → Some t ≡ texts m xs
found m xs at i t lt g own so_far = sym (ap (λ o. option_or o (texts m (drop (at + 1) xs))) own) ∙ sym (next m xs at i lt g) ∙ so_far

pub passed : (m : Module) (xs : List Invocation) (at : ℕ) (i : Invocation) → at < length xs → i ≡ get_or xs at i → own_text m i ≡ None → texts m (drop at xs) ≡ texts m xs → texts m (drop (at + 1) xs) ≡ texts m xs
passed m xs at i lt g own so_far = sym (ap (λ o. option_or o (texts m (drop (at + 1) xs))) own) ∙ sym (next m xs at i lt g) ∙ so_far

pub all_passed : (m : Module) (xs : List Invocation) (at : ℕ) → length xs ≤ at → texts m (drop at xs) ≡ texts m xs → None ≡ texts m xs
all_passed m xs at le so_far = sym (ap (λ l. texts m l) (drop_all at xs le)) ∙ so_far
