-- Texts that begin with another one.
use Rattle.std.proofs.Common.{◌≡◌, ℕ, ◌≤◌, List, length, take, ap, ◌∙◌, arith}
use Rattle.std.proofs.Math.Seq.{take-append_seam}
use Rattle.std.proofs.lemmas.List.{length-append}
use Rattle.std.proofs.lemmas.Str.{IsCharBoundary-from_take, IsUtf8-string_bytes}
use Rattle.std.specs.declared.string.String.{String}
use Rattle.std.specs.String.{string_bytes, string_len}
use Rattle.std.specs.String.Boundary.{IsSplitPoint}
use Rattle.pm_text.specs.inner.Extends.{Extends}

cut_back : (old new : List ℕ) (n : ℕ) → n ≡ length old → Extends old new → take n new ≡ old
cut_back old new n e (rest, f) = ap (λ k. take k new) e ∙ ap (take (length old)) f ∙ take-append_seam old rest

-- a string may be cut where the text ended that it was written behind
pub cut_text : {Z : Type 0} (old new : String Z) (n : ℕ) → n ≡ string_len old → Extends (string_bytes old) (string_bytes new) → IsSplitPoint (string_bytes new) n
cut_text old new n e extends =
    let len : n ≡ length (string_bytes old) = omega arith in
    let back = cut_back (string_bytes old) (string_bytes new) n len extends in
    let within : n ≤ length (string_bytes new) = omega (arith, ap length extends.1, length-append (string_bytes old) extends.0) in
    let at = IsCharBoundary-from_take (string_bytes new) n (IsUtf8-string_bytes new) within (rw back (IsUtf8-string_bytes old)) in
    (at.0, λ some. at.1)
