-- What a list of calls of a memory answers, by the definition of its instructions.
use Rattle.std.specs.Prelude.{◌≡◌, ℕ, ◌*◌, ◌<◌, ◌⊎◌, ◌++◌, false, List, [], ◌∷◌, length, replicate, Option, Some, None, Ok, Err}
use Rattle.std.specs.declared.vec.Vec.{Vec}
use Rattle.std.specs.Global.{Global}
use Rattle.linear_memory.specs.Memory.{Memory, page_size, pages, window, load, store, put, fill, copy, grow}
use Rattle.linear_memory.specs.calls.Paged.{Paged, IsMade, AllMade, Makes}
use Rattle.linear_memory.specs.calls.Width.{width_bytes}
use Rattle.linear_memory.specs.declared.StoreFault.TheVariants as faults
use Rattle.linear_memory.specs.declared.GrowAnswer.TheVariants as grown
use Rattle.linear_memory.specs.declared.calls.Call.{Call}
use Rattle.linear_memory.specs.declared.calls.Call.TheVariants as calls
use Rattle.linear_memory.specs.declared.calls.Answer.{Answer}
use Rattle.linear_memory.specs.declared.calls.Answer.TheVariants as answers

-- A write of the n bytes from `at` on that is to give `want`. Memory is wanting only where it writes a page that is not made.
abbrev pub Writes : Paged → ℕ → ℕ → Option Memory → Answer → Paged → Type 0
Writes old at n None answer new = (answer ≡ answers.Stored (Err faults.Out)) × (new ≡ old)
Writes old at n (Some m) answer new =
    ((answer ≡ answers.Stored (Ok tt)) × (new.memory ≡ m) × Makes old.made new.made at n)
    ⊎ ((answer ≡ answers.Stored (Err faults.NoMemory)) × (new ≡ old) × (AllMade old.made at n → ⊥))

-- a growth by n pages that is to give `want`
abbrev pub GrowsTo : Paged → ℕ → Option Memory → Answer → Paged → Type 0
GrowsTo old n None answer new = (answer ≡ answers.Grew grown.TooMany) × (new ≡ old)
GrowsTo old n (Some m) answer new =
    ((answer ≡ answers.Grew (grown.Grown (pages old.memory))) × (new.memory ≡ m) × (new.made ≡ old.made ++ replicate n false))
    ⊎ ((answer ≡ answers.Grew grown.NoMemory) × (new ≡ old))

-- the bytes of a page that is made, and zeros where there are none
abbrev pub Shows : Paged → ℕ → Option (Vec ℕ Global) → Type 0
Shows m page (Some bytes) = IsMade m.made page × (bytes.items ≡ window m.memory.bytes (page_size * page) page_size)
Shows m page None = (IsMade m.made page → ⊥) × (page < pages m.memory → window m.memory.bytes (page_size * page) page_size ≡ replicate page_size 0)

-- A call at `old` may give this answer, and leave `new`.
abbrev pub Does : Paged → Call → Answer → Paged → Type 0
Does old calls.Size answer new = (answer ≡ answers.Size (pages old.memory)) × (new ≡ old)
Does old (calls.Load at width) answer new = (answer ≡ answers.Loaded (load old.memory at (width_bytes width))) × (new ≡ old)
Does old (calls.Store at width v) answer new = Writes old at (width_bytes width) (store old.memory at (width_bytes width) v) answer new
Does old (calls.Write at bytes) answer new = Writes old at (length bytes.items) (put old.memory at bytes.items) answer new
Does old (calls.Fill at byte n) answer new = Writes old at n (fill old.memory at byte n) answer new
Does old (calls.Copy to from n) answer new = Writes old to n (copy old.memory to from n) answer new
Does old (calls.Grow n) answer new = GrowsTo old n (grow old.memory n) answer new
Does old (calls.Page page) answer new = (shown : Option (Vec ℕ Global)) × (answer ≡ answers.Page shown) × Shows old page shown × (new ≡ old)
Does old calls.CopyOf answer new = (answer ≡ answers.Copied) × (new ≡ old)

-- The calls may give these answers, one after another.
abbrev pub Runs : Paged → List Call → List Answer → Paged → Type 0
Runs old [] [] new = new ≡ old
Runs old (call ∷ calls) (answer ∷ answers) new = (next : Paged) × Does old call answer next × Runs next calls answers new
Runs old [] (answer ∷ answers) new = ⊥
Runs old (call ∷ calls) [] new = ⊥
