-- What a writer appends.
use Rattle.std.proofs.Common.{◌≡◌, ℕ, List, [], ◌∷◌, ◌++◌, Result, refl, ap, ◌∙◌, append_assoc, OnOk}
use Rattle.std.proofs.lemmas.Result.{on_ok_weaker}
use Rattle.wasm_leb.specs.calls.Numbers.{IsShortest, AppendsShortest}

joined : (old middle new rest whole : List ℕ) (b : ℕ) → middle ≡ old ++ b ∷ [] → whole ≡ b ∷ rest → new ≡ middle ++ rest → new ≡ old ++ whole
joined old middle new rest whole b first parts behind = rw (behind, first, parts, append_assoc) refl

-- one byte, and then the rest
pub byte_and_rest : {E : Type 0} (r : Result (Unit {0}) E) (old middle new rest whole : List ℕ) (b : ℕ) → middle ≡ old ++ b ∷ [] → whole ≡ b ∷ rest → OnOk r (new ≡ middle ++ rest) → OnOk r (new ≡ old ++ whole)
byte_and_rest r old middle new rest whole b first parts behind =
    on_ok_weaker r (λ (e : new ≡ middle ++ rest). joined old middle new rest whole b first parts e) behind

pub appends_shortest : {E A : Type 0} (spells : List ℕ → A → Type 0) (spelling : A → List ℕ) (r : Result (Unit {0}) E) (old new : List ℕ) (passed n : A) → passed ≡ n → IsShortest spells (spelling n) n → OnOk r (new ≡ old ++ spelling passed) → OnOk r (AppendsShortest spells old new n)
appends_shortest {A} spells spelling r old new passed n same s h =
    on_ok_weaker r (λ (e : new ≡ old ++ spelling passed). (spelling n, s, e ∙ ap (λ (m : A). old ++ spelling m) same)) h
