-- Values that may hold floats, and vectors of them.
use Rattle.std.specs.Prelude.{List, [], ◌∷◌, ◌++◌, fold, None}
use Rattle.wasm_bytes.specs.Place.{Place, Read}
use Rattle.wasm_bytes.specs.Reading.{mapped, vector_item}
use Rattle.wasm_bytes.specs.declared.noted.Noted.{Noted}
use Rattle.std.specs.Option.{option_or}

-- a value without floats
abbrev pub plain : {A : Type 0} → A → Noted A
plain x = record { value = x; float = None }

-- a value made of one
abbrev pub noted_as : {A B : Type 0} → (A → B) → Noted A → Noted B
noted_as f x = record { value = f x.value; float = x.float }

-- a value made of two, one after the other
abbrev pub noted_both : {A B C : Type 0} → (A → B → C) → Noted A → Noted B → Noted C
noted_both f x y = record { value = f x.value y.value; float = option_or x.float y.float }

-- a list with one more value
abbrev pub with_noted : {A : Type 0} → Noted (List A) → Noted A → Noted (List A)
with_noted xs x = noted_both (λ front last. front ++ last ∷ []) xs x

abbrev pub together : {A : Type 0} → List (Noted A) → Noted (List A)
together xs = fold with_noted (plain []) xs

-- a vector (Core 5.1.3) of such values
unfoldable pub noted_vector_item : {A : Type 0} → (Place → Read (Noted A)) → Place → Read (Noted (List A))
noted_vector_item f = mapped together (vector_item f)
