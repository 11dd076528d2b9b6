-- Languages each of whose spellings has a byte.
use Rattle.std.proofs.Common.{◌≡◌, ℕ, ◌<◌, Bool, ℤ, List, [], ◌∷◌, ◌++◌, length, ap, arith, length-append}
use Rattle.wasm_leb.specs.calls.Numbers.{IsUnsigned, IsSigned}
use Rattle.wasm_bytes.specs.calls.Spelling.{pair, leads, always, image, passing, byte, one_of, u32, s32, s64, sized_run, name, sized, section, tagged, vector}
use Rattle.wasm_bytes.specs.Laws.{TakesBytes}

pub front_takes : (front rest bytes : List ℕ) → bytes ≡ front ++ rest → 0 < length front → 0 < length bytes
front_takes front rest bytes e some = omega (arith, some, ap length e, length-append front rest)

pub unsigned_takes : (bits n : ℕ) (front : List ℕ) → IsUnsigned bits front n → 0 < length front
unsigned_takes bits n [] s = absurd s
unsigned_takes bits n (b ∷ bs) s = omega arith

signed_takes : (bits : ℕ) (z : ℤ) (front : List ℕ) → IsSigned bits front z → 0 < length front
signed_takes bits z [] s = absurd s
signed_takes bits z (b ∷ bs) s = omega arith

pub u32_takes : TakesBytes u32
u32_takes n at front s = unsigned_takes 32 n front s

pub s32_takes : TakesBytes s32
s32_takes z at front s = signed_takes 32 z front s

pub s64_takes : TakesBytes s64
s64_takes z at front s = signed_takes 64 z front s

pub byte_takes : TakesBytes byte
byte_takes b at front s = omega (arith, ap length s)

pub one_of_takes : (set : ℕ → Bool) → TakesBytes (one_of set)
one_of_takes set b at front s = omega (arith, ap length s.1)

pub fixed_takes : (b : ℕ) → TakesBytes (always (byte b))
fixed_takes b u at front s = omega (arith, ap length s)

pub then_takes : {A B : Type 0} (S : A → ℕ → List ℕ → Type 0) (T : B → ℕ → List ℕ → Type 0) → TakesBytes S → TakesBytes (pair S T)
then_takes S T h z at front s = front_takes s.0 s.1 front s.4 (h z.0 at s.0 s.2)

pub leads_takes : {A B : Type 0} (S : A → ℕ → List ℕ → Type 0) (T : A → B → ℕ → List ℕ → Type 0) → TakesBytes S → TakesBytes (leads S T)
leads_takes S T h y at front s = front_takes s.1.0 s.1.1 front s.1.4 (h s.0 at s.1.0 s.1.2)

pub image_takes : {A B : Type 0} (to : A → B) (S : A → ℕ → List ℕ → Type 0) → TakesBytes S → TakesBytes (image to S)
image_takes to S h y at front s = h s.0 at front s.2

pub passing_takes : {A : Type 0} (test : A → Bool) (S : A → ℕ → List ℕ → Type 0) → TakesBytes S → TakesBytes (passing test S)
passing_takes test S h x at front s = h x at front s.1

pub sized_run_takes : TakesBytes sized_run
sized_run_takes bytes at front s = front_takes s.0 s.1 front s.4 (u32_takes (length bytes) at s.0 s.2)

pub name_takes : TakesBytes name
name_takes bytes at front s = front_takes s.0 s.1 front s.4 (u32_takes (length bytes) at s.0 s.2)

pub vector_takes : {A : Type 0} (S : A → ℕ → List ℕ → Type 0) → TakesBytes (vector S)
vector_takes S xs at front s = front_takes s.0 s.1 front s.4 (u32_takes (length xs) at s.0 s.2)

pub sized_takes : {A : Type 0} (S : A → ℕ → List ℕ → Type 0) → TakesBytes (λ x. sized (S x))
sized_takes S x at front s = front_takes s.0 s.1 front s.4 (u32_takes (length s.1) at s.0 s.2)

pub section_takes : {A : Type 0} (title : List ℕ) (S : A → ℕ → List ℕ → Type 0) → TakesBytes (λ x. section title (S x))
section_takes title S x at front s = front_takes s.0 s.1 front s.4 (byte_takes 0x00 at s.0 s.2)

pub tagged_takes : {A : Type 0} (S : ℕ → A → ℕ → List ℕ → Type 0) → TakesBytes (tagged S)
tagged_takes S x at front s = front_takes s.1.0 s.1.1 front s.1.4 (byte_takes s.0 at s.1.0 s.1.2)
