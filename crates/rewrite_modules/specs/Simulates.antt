-- What it means that a module does what another does, and hands over the dump of each trap.
use Rattle.std.specs.Prelude.{ℕ, ◌+◌, ◌*◌, ◌≡◌, ◌≢◌, ◌≤◌, List, [], ◌∷◌, length, take, Option, Some, None, option_map, true, false, ⊤}
use Rattle.wasm_syntax.specs.declared.host.Reply.{Reply}
use Rattle.wasm_syntax.specs.Module.{Program}
use Rattle.wasm_syntax.specs.Machine.{Config}
use Rattle.wasm_syntax.specs.Run.{Outcome, trapped, Ran, Invocation, run}
use Rattle.dump_write.specs.Collected.{Whole, collected_dump}
use Rattle.dump_write.specs.Image.{image}
use Rattle.dump_write.specs.ImageBytes.{bytes_of}

abbrev pub memory_of : Config → Option (List ℕ)
memory_of c = option_map (λ m. m.bytes) c.world.memory

-- the original's configuration a at a trap of kind k is what the other's collector calls and memory show
pub record Shows (k : ℕ) (a b : Config) (other : Ran) : Type 0 where
  pub trapped_too : other.outcome ≡ trapped 1
  pub whole : Whole other.collected
  pub kind : whole.kind ≡ k
  pub dump : (name : List ℕ) → length name ≤ 4096 → collected_dump whole (memory_of b) name ≡ image a name
  -- and so are their canonical bytes
  pub bytes : (name : List ℕ) → length name ≤ 4096 → bytes_of (collected_dump whole (memory_of b) name) ≡ bytes_of (image a name)

abbrev pub EndsAlike : Outcome → Option Config → Option Config → Ran → Type 0
EndsAlike (trapped k) (Some a) (Some b) other = Shows k a b other
EndsAlike (trapped k) a b other = ⊥
EndsAlike o a b other = (other.outcome ≡ o) × (other.collected ≡ [])

-- where the original started, the memories are equal, with their greatest sizes, and so are its globals, in their order
abbrev pub SameState : Option Config → Option Config → Type 0
SameState None last' = ⊤
SameState (Some a) None = ⊥
SameState (Some a) (Some b) = (b.world.memory ≡ a.world.memory) × (take (length a.world.globals) b.world.globals ≡ a.world.globals)

pub record Alike (one other : Ran) : Type 0 where
  -- the entry is begun in both, or in neither
  pub begun : other.entered ≡ one.entered
  pub host_calls : other.served ≡ one.served
  pub ends : EndsAlike one.outcome one.last other.last other
  pub state : SameState one.last other.last

abbrev pub AllAlike : List Ran → List Ran → Type 0
AllAlike [] [] = Unit {0}
AllAlike (one ∷ ones) (other ∷ others) = Alike one other × AllAlike ones others
AllAlike _ _ = ⊥

-- each ends otherwise than by exhausting the call depth
abbrev pub NoneDeep : List Ran → Type 0
NoneDeep [] = Unit {0}
NoneDeep (one ∷ ones) = (one.outcome ≢ trapped 8) × NoneDeep ones

-- For every list of invocations, replies, n, and depth from 1 to 10,000, unless the original exhausts its call depth.
abbrev pub Simulates : ℕ → Program → Program → Type 0
Simulates factor p p' =
    (is : List Invocation) (replies : List Reply) (d n : ℕ) → 1 ≤ d → d ≤ 10000 → NoneDeep (run p false is replies d n) →
    (m : ℕ) × (n ≤ m) × (m ≤ (n + 2 * length is) * factor) × AllAlike (run p false is replies d n) (run p' true is replies (d + 2) m)
