-- UTF-8 and its test.
use Rattle.std.proofs.Common.{◌≡◌, ℕ, false, List, refl}
use Rattle.std.specs.Str.{IsUtf8, is_utf8}
use Rattle.std.proofs.lemmas.Str.{is_utf8-from_IsUtf8}
use Rattle.pm_text.proofs.NameLaws.{not_text}

pub is_utf8-false : (bytes : List ℕ) → (IsUtf8 bytes → ⊥) → is_utf8 bytes ≡ false
is_utf8-false bytes none = not_text bytes (is_utf8 bytes) refl none

pub ruleset utf8_tests = (is_utf8-from_IsUtf8, is_utf8-false)
