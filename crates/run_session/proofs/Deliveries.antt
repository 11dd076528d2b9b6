-- Calls hand over one thing.
use Rattle.std.proofs.Common.{◌≡◌, ℕ, ◌⊎◌, inl, inr, List, [], ◌∷◌, ◌++◌, refl, sym, ap, ◌∙◌, None, false, length, ◌==◌}
use Rattle.wasm_syntax.specs.declared.host.CollectorCall.{CollectorCall}
use Rattle.dump_write.specs.Image.{Dump}
use Rattle.dump_write.specs.Collected.{Whole}
use Rattle.host_collector.specs.Torn.{IsFirstOffending}
use Rattle.host_collector.proofs.Judged.{one_kind, one_offending, whole_or_offending}
use Rattle.host_collector.proofs.Gathers.{one_dump}
use Rattle.run_session.specs.Delivery.{Delivery, nothing, whole, torn, handed_by, Delivers}

-- ---- calls that are there

pub filled : (calls : List CollectorCall) → (length calls == 0) ≡ false → calls ≡ [] → ⊥
filled [] some none = absurd cc
filled (c ∷ cs) some none = absurd cc

ends_with_call : (xs ys : List CollectorCall) (call : CollectorCall) → xs ++ (ys ++ call ∷ []) ≡ [] → ⊥
ends_with_call [] [] call e = absurd cc
ends_with_call [] (y ∷ ys) call e = absurd cc
ends_with_call (x ∷ xs) ys call e = absurd cc

some_calls : (calls : List CollectorCall) → Whole calls → calls ≡ [] → ⊥
some_calls calls w none = ends_with_call _ _ _ (sym w.calls_are ∙ none)

-- ---- one delivery

one_handed : (calls : List CollectorCall) (v w : Whole calls) → handed_by v ≡ handed_by w
one_handed calls v w =
    let dump = one_dump calls v w None [] in
    let kind = one_kind calls v w in
    let frames = ap (λ (d : Dump). d.frames) dump in
    let globals = ap (λ (d : Dump). d.globals) dump in
    λ i. record { kind = kind i; frames = frames i; globals = globals i }

pub one : (calls : List CollectorCall) (a b : Delivery) → Delivers calls a → Delivers calls b → a ≡ b
one calls nothing nothing x y = refl
one calls nothing (whole d) x (w, is) = absurd (some_calls calls w x)
one calls nothing (torn at) x (some, first) = absurd (some x)
one calls (whole d) nothing (w, is) y = absurd (some_calls calls w y)
one calls (whole d) (whole e) (v, is) (w, same) = ap (λ h. whole h) (sym is ∙ one_handed calls v w ∙ same)
one calls (whole d) (torn at) (w, is) (some, first) = absurd (first.torn w)
one calls (torn at) nothing (some, first) y = absurd (some y)
one calls (torn at) (whole d) (some, first) (w, is) = absurd (first.torn w)
one calls (torn at) (torn b) (some, first) (any, second) = ap (λ n. torn n) (one_offending calls at b first second)

-- ---- each list of calls hands something over

by_choice : (c : CollectorCall) (cs : List CollectorCall) → Whole (c ∷ cs) ⊎ ((at : ℕ) × IsFirstOffending (c ∷ cs) at) → (d : Delivery) × Delivers (c ∷ cs) d
by_choice c cs (inl w) = (whole (handed_by w), (w, refl))
by_choice c cs (inr (at, first)) = (torn at, (λ e. absurd cc, first))

pub delivery : (calls : List CollectorCall) → (d : Delivery) × Delivers calls d
delivery [] = (nothing, refl)
delivery (c ∷ cs) = by_choice c cs (whole_or_offending (c ∷ cs))
