-- Items that know the offset where they begin.
use Rattle.std.proofs.Common.{◌≡◌, ℕ, List, length, Ok, Err, refl}
use Rattle.wasm_bytes.specs.Place.{Place, Read}
use Rattle.wasm_bytes.specs.Reading.{◌▷◌, here_item, ◌>>=◌}
use Rattle.wasm_bytes.specs.Laws.{IsExact, StopsAt}

pub offset_exact : {A : Type 0} (T : ℕ → A → ℕ → List ℕ → Type 0) (g : ℕ → Place → Read A) → ((at : ℕ) → IsExact (T at) (g at)) → IsExact (λ x at. T at x at) (here_item ▷ g)
offset_exact T g h = record {
  sound = λ before after x q fits read.
      let t = (h (length before)).sound before after x q fits read in
      record { front = t.front; rest = t.rest; is = t.is; parts = t.parts; behind = t.behind; bytes = t.bytes };
  again = λ before front rest x s. (h (length before)).again before front rest x s;
}

pub offset_stops : {A : Type 0} (s : ℕ → List ℕ → ℕ → Type 0) (g : ℕ → Place → Read A) → ((at : ℕ) → StopsAt s (g at)) → StopsAt s (here_item ▷ g)
offset_stops s g h = record {
  only = λ before after o fits read. (h (length before)).only before after o fits read;
  again = λ before after o fits stops. (h (length before)).again before after o fits stops;
}

-- reading on in two ways that agree
pub bind-same : {A B : Type 0} (read : Read A) (f g : A × Place → Read B) → ((x : A) (q : Place) → f (x, q) ≡ g (x, q)) → (read >>= f) ≡ (read >>= g)
bind-same (Ok x) f g same = same x.0 x.1
bind-same (Err at) f g same = refl
