-- Where the name of each index stands among those that are kept.
use Rattle.std.specs.Prelude.{◌≡◌, ◌<◌, ℕ, List, length, slice_get, Option, option_map, option_and_then, IfSome}
use Rattle.wasm_decode.specs.Names.{Named, name_of}

abbrev pub title : Named → List ℕ
title named = named.1

abbrev pub ArePlaced : List Named → (ℕ → Option ℕ) → Type 0
ArePlaced names place = (i : ℕ) → (option_map title (option_and_then (slice_get names) (place i)) ≡ name_of names i) × IfSome (place i) (λ k. k < length names)
