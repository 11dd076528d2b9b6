-- The parts of a word at its first `=`.
use Rattle.std.proofs.Common.{◌≡◌, ℕ, ◌+◌, [], length, take, drop, eqb, sym, ap, ◌∙◌, arith, Some, None, Bor}
use Rattle.std.specs.List.{position_or_len}
use Rattle.std.proofs.Math.Seq.{take-length}
use Rattle.std.proofs.lemmas.List.{drop_all}
use Rattle.std.proofs.lemmas.Str.Pattern.{IsSplitOnceResult, split_once_first}
use Rattle.commands.specs.Reading.{Word, name_of, value_of}

pub parts_here : (word : Word) (p : Bor Word × Bor Word) → IsSplitOnceResult 61 word (Some p) → (p.0.now ≡ name_of word) × (p.1.now ≡ value_of word)
parts_here word p h = let parts = split_once_first 61 word (Some p) h (omega arith) in (parts.1, parts.2)

whole : (word : Word) (n : ℕ) → n ≡ length word → (word ≡ take n word) × ([] ≡ drop (n + 1) word)
whole word n e = (sym (ap (λ k. take k word) e ∙ take-length word), sym (drop_all (n + 1) word (omega arith)))

pub no_parts : (word : Word) → IsSplitOnceResult 61 word None → (word ≡ name_of word) × ([] ≡ value_of word)
no_parts word h = whole word (position_or_len (λ b. eqb b 61) word) (split_once_first 61 word None h (omega arith))
