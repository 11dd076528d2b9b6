-- One more call of a list.
use Rattle.std.proofs.Common.{◌≡◌, ℕ, suc, ◌+◌, ◌<◌, ◌≤◌, List, [], ◌∷◌, ◌++◌, length, get_or, drop, refl, sym, ◌∙◌, ap, subst, arith, append_assoc, drop-cons}
use Rattle.std.proofs.lemmas.List.{drop_all, append-nil}
use Rattle.linear_memory.specs.calls.Calls.{Does, Runs}
use Rattle.linear_memory.specs.calls.Paged.{Paged}
use Rattle.linear_memory.specs.declared.calls.Call.{Call}
use Rattle.linear_memory.specs.declared.calls.Answer.{Answer}

-- the calls from i on may answer whatever completes the answers to all
abbrev pub Completes : Paged → List Call → List Answer → Paged → ℕ → Type 0
Completes old all done m i = (rest : List Answer) (new : Paged) → Runs m (drop i all) rest new → Runs old all (done ++ rest) new

pub goes_on : (old m next : Paged) (all : List Call) (i : ℕ) (call : Call) (done done' : List Answer) (answer : Answer) → i < length all → call ≡ get_or all i call → done' ≡ done ++ answer ∷ []
    → Does m call answer next → Completes old all done m i → Completes old all done' next (i + 1)
goes_on old m next all i call done done' answer inside is more does whole rest new h =
    let after : suc i ≡ i + 1 = omega arith in
    let split : drop i all ≡ call ∷ drop (i + 1) all = drop-cons all i call inside ∙ ap (λ (c : Call). c ∷ drop (suc i) all) (sym is) ∙ ap (λ (k : ℕ). call ∷ drop k all) after in
    let one : Runs m (call ∷ drop (i + 1) all) (answer ∷ rest) new = (next, does, h) in
    subst (λ (xs : List Answer). Runs old all xs new) (sym (append_assoc done (answer ∷ []) rest) ∙ ap (λ (xs : List Answer). xs ++ rest) (sym more))
    (whole (answer ∷ rest) new (subst (λ (cs : List Call). Runs m cs (answer ∷ rest) new) (sym split) one))

pub ends : (old m : Paged) (all : List Call) (i : ℕ) (done : List Answer) → length all ≤ i → Completes old all done m i → Runs old all done m
ends old m all i done past whole =
    let none : Runs m [] [] m = refl in
    subst (λ (xs : List Answer). Runs old all xs m) (append-nil done) (whole [] m (subst (λ (cs : List Call). Runs m cs [] m) (sym (drop_all i all past)) none))
