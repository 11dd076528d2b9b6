-- Formats: what stands somewhere, and what it makes. A format is written once; the bytes that spell it and how it is read
-- are one definition each, by its form. What is read says what stands behind it.
use Rattle.std.specs.Prelude.{◌≡◌, ℕ, ◌-◌, ℤ, List, [], ◌∷◌, length, Option, Some, None, Ok, Err, Bool, ◌==◌, if◌then◌else◌}
use Rattle.wasm_bytes.specs.Place.{Place, Read}
use Rattle.wasm_bytes.specs.Reading.{◌>>=◌, u64_item, s64_item, run_item, closed}
use Rattle.wasm_bytes.specs.calls.Spelling as spelling
use Rattle.wasm_bytes.specs.calls.Spelling.{Spellings, leads, u64}
use Rattle.dwarf_bytes.specs.Items.{number_item, text_item, long_block_item}
use Rattle.dwarf_bytes.specs.calls.Spelled as items
use Rattle.dwarf_bytes.specs.calls.Spelled.{ended_text, long_sized}

pub data Format (A : Type 0) : Type 0 where
  -- nothing more stands there
  made : A → Format A
  -- nothing that stands there has a reading
  unread : Format A
  -- a number in LEB128 of 64 bits, unsigned or signed (7.6)
  unsigned : (ℕ → Format A) → Format A
  signed : (ℤ → Format A) → Format A
  -- a number of so many bytes, the lowest first
  number : ℕ → (ℕ → Format A) → Format A
  -- so many bytes
  run : ℕ → (List ℕ → Format A) → Format A
  -- bytes up to a zero byte
  text : (List ℕ → Format A) → Format A
  -- a length in LEB128, and what it says in a block of as many bytes
  sized : (ℕ → Format A) → Format A

-- the bytes that spell it
abbrev pub spelled : {A : Type 0} → Format A → A → Spellings
spelled (made x) y = λ at bytes. (y ≡ x) × (bytes ≡ [])
spelled unread y = λ at bytes. ⊥
spelled (unsigned f) y = leads u64 (λ n. spelled (f n)) y
spelled (signed f) y = leads spelling.s64 (λ z. spelled (f z)) y
spelled (number width f) y = leads (items.number width) (λ n. spelled (f n)) y
spelled (run n f) y = leads (spelling.run n) (λ bytes. spelled (f bytes)) y
spelled (text f) y = leads ended_text (λ bytes. spelled (f bytes)) y
spelled (sized f) y = long_sized (λ n. spelled (f n) y)

-- how it is read
unfoldable pub read : {A : Type 0} → Format A → Place → Read A
read (made x) p = Ok (x, p)
read unread p = Err p.at
read (unsigned f) p = u64_item p >>= λ n. read (f n.0) n.1
read (signed f) p = s64_item p >>= λ z. read (f z.0) z.1
read (number width f) p = number_item width p >>= λ n. read (f n.0) n.1
read (run n f) p = run_item n p >>= λ bytes. read (f bytes.0) bytes.1
read (text f) p = text_item p >>= λ bytes. read (f bytes.0) bytes.1
read (sized f) p = long_block_item p >>= λ b. closed (λ q. read (f (length b.0.block - b.0.at)) q) b.0 >>= λ x. Ok (x.0, b.1)

-- ---- put together

-- a number that passes a test
abbrev pub only_if : {A : Type 0} → Bool → Format A → Format A
only_if b f = if b then f else unread

-- nothing more
abbrev pub done : Format (Unit {0})
done = made tt

-- these bytes, and what stands behind them
abbrev pub fixed : {A : Type 0} → List ℕ → Format A → Format A
fixed [] f = f
fixed (b ∷ bs) f = number 1 (λ c. only_if (c == b) (fixed bs f))

-- a text, of which an empty one ends a list
abbrev pub unless_empty : List ℕ → Option (List ℕ)
unless_empty [] = None
unless_empty (b ∷ bs) = Some (b ∷ bs)

abbrev pub text_or_end : Format (Option (List ℕ))
text_or_end = text (λ t. made (unless_empty t))
