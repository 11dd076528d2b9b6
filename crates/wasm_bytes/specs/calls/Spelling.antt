-- The bytes that spell a value (WebAssembly Core 1.0, 5.1 to 5.5). A value has many spellings, because a number has. The
-- definitions here are the parts; the language of a format is put together of them.
use Rattle.std.specs.Prelude.{◌≡◌, ℕ, zero, suc, ◌+◌, ℤ, Bool, true, false, List, [], ◌∷◌, ◌++◌, length}
use Rattle.std.specs.Str.{IsUtf8}
use Rattle.wasm_leb.specs.calls.Numbers.{IsUnsigned, IsSigned}

-- The spellings of something: the offset of the first byte in the input, and the bytes.
abbrev pub Spellings : Type 1
Spellings = ℕ → List ℕ → Type 0

-- ---- putting together

-- one after the other
infixr 6 ◌&◌
abbrev pub ◌&◌ : Spellings → Spellings → Spellings
(A & B) at bytes = (front : List ℕ) × (rest : List ℕ) × A at front × B (at + length front) rest × (bytes ≡ front ++ rest)

-- two values, one after the other
abbrev pub pair : {A B : Type 0} → (A → Spellings) → (B → Spellings) → A × B → Spellings
pair S T z = S z.0 & T z.1

-- a value that says what comes after it, and that
abbrev pub leads : {A B : Type 0} → (A → Spellings) → (A → B → Spellings) → B → Spellings
leads {A} S T y at bytes = (x : A) × (S x & T x y) at bytes

-- the one value of the unit type
abbrev pub always : Spellings → Unit {0} → Spellings
always S u = S

-- the values made of those that are spelled
abbrev pub image : {A B : Type 0} → (A → B) → (A → Spellings) → B → Spellings
image {A} to S y at bytes = (x : A) × (to x ≡ y) × S x at bytes

-- the values that pass a test
abbrev pub passing : {A : Type 0} → (A → Bool) → (A → Spellings) → A → Spellings
passing test S x at bytes = (test x ≡ true) × S x at bytes

-- ---- single items

-- no byte, for one value alone
abbrev pub only : {A : Type 0} → A → A → Spellings
only x y at bytes = (y ≡ x) × (bytes ≡ [])

abbrev pub nothing : Spellings
nothing at bytes = bytes ≡ []

-- no byte, at that offset
abbrev pub here : ℕ → Spellings
here n at bytes = (n ≡ at) × (bytes ≡ [])

abbrev pub byte : ℕ → Spellings
byte b at bytes = bytes ≡ b ∷ []

-- a byte out of a stated set
abbrev pub one_of : (ℕ → Bool) → ℕ → Spellings
one_of set = passing set byte

-- these bytes
abbrev pub text : List ℕ → Spellings
text expected at bytes = bytes ≡ expected

abbrev pub u32 : ℕ → Spellings
u32 n at bytes = IsUnsigned 32 bytes n

abbrev pub u64 : ℕ → Spellings
u64 n at bytes = IsUnsigned 64 bytes n

abbrev pub s32 : ℤ → Spellings
s32 z at bytes = IsSigned 32 bytes z

abbrev pub s64 : ℤ → Spellings
s64 z at bytes = IsSigned 64 bytes z

-- a run of n bytes
abbrev pub run : ℕ → List ℕ → Spellings
run n bytes at spelled = (spelled ≡ bytes) × (length bytes ≡ n)

-- a length, and as many bytes
abbrev pub sized_run : List ℕ → Spellings
sized_run bytes = u32 (length bytes) & text bytes

abbrev pub utf8 : List ℕ → Spellings
utf8 bytes at spelled = (spelled ≡ bytes) × IsUtf8 bytes

-- a name is its length and its bytes
abbrev pub name : List ℕ → Spellings
name bytes = u32 (length bytes) & utf8 bytes

-- any bytes
abbrev pub any : Spellings
any at bytes = Unit {0}

-- ---- blocks

-- a size, and contents of as many bytes
abbrev pub sized : Spellings → Spellings
sized contents at bytes = (size : List ℕ) × (inner : List ℕ) × u32 (length inner) at size × contents (at + length size) inner × (bytes ≡ size ++ inner)

-- a custom section of that name
abbrev pub section : List ℕ → Spellings → Spellings
section title contents = byte 0x00 & sized (name title & contents)

-- ---- choices

-- a first byte, and what comes after it
abbrev pub tagged : {A : Type 0} → (ℕ → A → Spellings) → A → Spellings
tagged S x at bytes = (tag : ℕ) × (byte tag & S tag x) at bytes

-- ---- many items

abbrev pub items : {A : Type 0} → (A → Spellings) → List A → Spellings
items item [] = nothing
items item (x ∷ xs) = item x & items item xs

-- a vector is a count and its elements
abbrev pub vector : {A : Type 0} → (A → Spellings) → List A → Spellings
vector item xs = u32 (length xs) & items item xs

-- n steps from one state to another, where each step spells what leads to the next state
abbrev pub steps : {S : Type 0} → (S → S → Spellings) → ℕ → S → S → Spellings
steps step zero s t at bytes = (t ≡ s) × (bytes ≡ [])
steps {S} step (suc n) s t at bytes = (next : S) × (step s next & steps step n next t) at bytes

abbrev pub some_steps : {S : Type 0} → (S → S → Spellings) → S → S → Spellings
some_steps step s t at bytes = (n : ℕ) × steps step n s t at bytes

-- a step from a state in which more is due
abbrev pub due : {S : Type 0} → (S → Bool) → (S → S → Spellings) → S → S → Spellings
due done step s t at bytes = (done s ≡ false) × step s t at bytes

-- steps up to the first state in which nothing more is due
abbrev pub steps_to_done : {S : Type 0} → (S → Bool) → (S → S → Spellings) → S → S → Spellings
steps_to_done done step s t at bytes = (done t ≡ true) × some_steps (due done step) s t at bytes
