-- Texts and sections put together from their parts.
use Rattle.std.proofs.Common.{◌≡◌, ℕ, List, ◌++◌, refl, append_assoc}
use Rattle.dwarf_info.specs.Sections.{SectionBytes, SectionBytes5}

-- two parts, two more at once, and a last one behind a text
pub joined : (out w s p d e s1 s2 s3 : List ℕ) → s1 ≡ out ++ w → s2 ≡ s1 ++ s → s3 ≡ s2 ++ p ++ d → s3 ++ e ≡ out ++ (w ++ s ++ p ++ d ++ e)
joined out w s p d e s1 s2 s3 e1 e2 e3 = rw (e3, e2, e1) (simp append_assoc)

abbrev pub sections_by : (a b c d e f : List ℕ) → SectionBytes
sections_by a b c d e f = record { info = a; abbreviations = b; line = c; str = d; loc = e; ranges = f }

pub same_sections : (a b c d e f a' b' c' d' e' f' : List ℕ) → a ≡ a' → b ≡ b' → c ≡ c' → d ≡ d' → e ≡ e' → f ≡ f' → sections_by a b c d e f ≡ sections_by a' b' c' d' e' f'
same_sections a b c d e f a' b' c' d' e' f' ea eb ec ed ee ef = rw (ea, eb, ec, ed, ee, ef) refl

abbrev pub sections5_by : SectionBytes → (a b c d e : List ℕ) → SectionBytes5
sections5_by s a b c d e = record { base = s; line_str = a; str_offsets = b; addr = c; loclists = d; rnglists = e }

pub same_sections5 : (s s' : SectionBytes) (a b c d e a' b' c' d' e' : List ℕ) → s ≡ s' → a ≡ a' → b ≡ b' → c ≡ c' → d ≡ d' → e ≡ e' → sections5_by s a b c d e ≡ sections5_by s' a' b' c' d' e'
same_sections5 s s' a b c d e a' b' c' d' e' es ea eb ec ed ee = rw (es, ea, eb, ec, ed, ee) refl
