-- Where reading stops: the offset of the first item without a reading, or of the end of the block where an item is still
-- due there (WebAssembly Core 1.0, 5.1 to 5.5). The definitions here are the parts, for each way of putting items together.
use Rattle.std.specs.Prelude.{◌≡◌, ℕ, ◌+◌, ◌<◌, ◌⊎◌, Bool, false, List, ◌∷◌, ◌++◌, length}
use Rattle.wasm_bytes.specs.calls.Spelling.{Spellings, always, byte, u32, run, items, steps, due}

-- the offset where reading begins, the bytes from there to the end of the block, and the offset where it stops
abbrev pub Stops : Type 1
Stops = ℕ → List ℕ → ℕ → Type 0

abbrev pub never : Stops
never at bytes o = ⊥

-- One item has no reading where it stands.
abbrev pub unread : {A : Type 0} → (A → Spellings) → Stops
unread {A} S at bytes o = (o ≡ at) × ((x : A) (front rest : List ℕ) → S x at front → bytes ≡ front ++ rest → ⊥)

-- the one or the other
abbrev pub either : Stops → Stops → Stops
either one other at bytes o = one at bytes o ⊎ other at bytes o

-- behind a value that is read
abbrev pub behind : {A : Type 0} → (A → Spellings) → (A → Stops) → Stops
behind {A} S stops at bytes o = (x : A) × (front : List ℕ) × (rest : List ℕ) × S x at front × (bytes ≡ front ++ rest) × stops x (at + length front) rest o

-- The first of two, or the second behind the first.
abbrev pub then_stops : {A : Type 0} → (A → Spellings) → Stops → Stops → Stops
then_stops S first second = either first (behind S (λ x. second))

-- The value is there, and does not pass the test.
abbrev pub refused : {A : Type 0} → (A → Bool) → (A → Spellings) → Stops
refused {A} test S at bytes o = (o ≡ at) × (x : A) × (front : List ℕ) × (rest : List ℕ) × S x at front × (bytes ≡ front ++ rest) × (test x ≡ false)

-- Something is lacking behind a value that goes on to the end.
abbrev pub incomplete : {A : Type 0} → (A → Bool) → (A → Spellings) → Stops
incomplete {A} test S at bytes o = (o ≡ at + length bytes) × (x : A) × S x at bytes × (test x ≡ false)

-- Of bytes that have to be these, one differs or is not there.
abbrev pub text_stops : List ℕ → Stops
text_stops expected at bytes o = (same : List ℕ) × (b : ℕ) × (more : List ℕ) × (rest : List ℕ) × (expected ≡ same ++ b ∷ more) × (bytes ≡ same ++ rest) × (o ≡ at + length same) × ((after : List ℕ) → rest ≡ b ∷ after → ⊥)

-- a length, or a run of as many bytes
abbrev pub sized_run_stops : Stops
sized_run_stops = either (unread u32) (behind u32 (λ n. unread (run n)))

-- A byte is left over.
abbrev pub left_over : Stops
left_over at bytes o = (o ≡ at) × (0 < length bytes)

-- in a block: its items stop, or they are complete before its end
abbrev pub closed_stops : {A : Type 0} → (A → Spellings) → Stops → Stops
closed_stops S stops = either stops (behind S (λ x. left_over))

-- No size is there whose block ends inside the block around it.
abbrev pub no_block : Stops
no_block at bytes o = (o ≡ at) × ((size inner rest : List ℕ) → u32 (length inner) at size → bytes ≡ size ++ (inner ++ rest) → ⊥)

-- inside the block that a size opens
abbrev pub in_block : Stops → Stops
in_block stops at bytes o = (size : List ℕ) × (inner : List ℕ) × (rest : List ℕ) × u32 (length inner) at size × (bytes ≡ size ++ (inner ++ rest)) × stops (at + length size) inner o

abbrev pub sized_stops : Stops → Stops
sized_stops stops = either no_block (in_block stops)

-- in a custom section, whose contents with their name stop so
abbrev pub section_stops : Stops → Stops
section_stops stops = then_stops (always (byte 0x00)) (unread (always (byte 0x00))) (sized_stops stops)

-- No byte is there that says what comes after it.
abbrev pub no_tag : (ℕ → Type 0) → Stops
no_tag is_tag at bytes o = (o ≡ at) × ((tag : ℕ) (rest : List ℕ) → is_tag tag → bytes ≡ tag ∷ rest → ⊥)

-- what comes after such a byte
abbrev pub behind_tag : (ℕ → Type 0) → (ℕ → Stops) → Stops
behind_tag is_tag stops at bytes o = (tag : ℕ) × (rest : List ℕ) × is_tag tag × (bytes ≡ tag ∷ rest) × stops tag (at + 1) rest o

abbrev pub tagged_stops : (ℕ → Type 0) → (ℕ → Stops) → Stops
tagged_stops is_tag stops = either (no_tag is_tag) (behind_tag is_tag stops)

-- Of so many items, some are read and the next stops.
abbrev pub items_stops : {A : Type 0} → (A → Spellings) → Stops → ℕ → Stops
items_stops {A} S stops n at bytes o = (xs : List A) × (front : List ℕ) × (rest : List ℕ) × (length xs < n) × items S xs at front × (bytes ≡ front ++ rest) × stops (at + length front) rest o

abbrev pub vector_stops : {A : Type 0} → (A → Spellings) → Stops → Stops
vector_stops S stops = either (unread u32) (behind u32 (items_stops S stops))

-- Of items up to the end of the block, some are read and the next stops, before the end.
abbrev pub to_end_stops : {A : Type 0} → (A → Spellings) → Stops → Stops
to_end_stops {A} S stops at bytes o = (xs : List A) × (front : List ℕ) × (rest : List ℕ) × (0 < length rest) × items S xs at front × (bytes ≡ front ++ rest) × stops (at + length front) rest o

-- Of so many steps, some are read and the next stops.
abbrev pub steps_stops : {S : Type 0} → (S → S → Spellings) → (S → Stops) → ℕ → S → Stops
steps_stops {S} step stops n s at bytes o = (k : ℕ) × (t : S) × (front : List ℕ) × (rest : List ℕ) × (k < n) × steps step k s t at front × (bytes ≡ front ++ rest) × stops t (at + length front) rest o

-- Of steps up to the end of the block, some are read and the next stops, before the end.
abbrev pub steps_to_end_stops : {S : Type 0} → (S → S → Spellings) → (S → Stops) → S → Stops
steps_to_end_stops {S} step stops s at bytes o = (k : ℕ) × (t : S) × (front : List ℕ) × (rest : List ℕ) × (0 < length rest) × steps step k s t at front × (bytes ≡ front ++ rest) × stops t (at + length front) rest o

-- Of steps up to a state in which nothing more is due, some are read and the next, which is due, stops.
abbrev pub steps_until_done_stops : {S : Type 0} → (S → Bool) → (S → S → Spellings) → (S → Stops) → S → Stops
steps_until_done_stops {S} done step stops s at bytes o = (k : ℕ) × (t : S) × (front : List ℕ) × (rest : List ℕ) × (done t ≡ false) × steps (due done step) k s t at front × (bytes ≡ front ++ rest) × stops t (at + length front) rest o
