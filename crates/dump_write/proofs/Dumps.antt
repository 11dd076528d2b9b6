-- Dumps that show an image, and their canonical bytes.
use Rattle.std.proofs.Common.{◌≡◌, ℕ, ◌+◌, ◌-◌, ◌*◌, ◌/◌, ◌^◌, ◌<◌, ◌≤◌, List, [], ◌∷◌, ◌++◌, length, map, drop, replicate, refl, sym, ap, subst, ◌∙◌, arith, add-one, Option, Some, None, All}
use Rattle.std.specs.Prelude.{min, option_map, IfSome}
use Rattle.std.specs.List.{range_with_len}
use Rattle.std.proofs.Math.Nat.{min-eq_left}
use Rattle.std.proofs.lemmas.List.{append-nil, length-replicate, drop_all}
use Rattle.linear_memory.specs.Memory.{page_size, pages, splice}
use Rattle.linear_memory.specs.calls.Paged.{Paged}
use Rattle.dump_format.specs.declared.dump.Dump.{Dump}
use Rattle.dump_format.specs.declared.dump.Instance.{Instance}
use Rattle.dump_format.specs.Region.{Region}
use Rattle.dump_format.specs.Form.{pages_of}
use Rattle.dump_write.specs.Pages.{laid_on, memory_bytes, used_pages}
use Rattle.dump_write.specs.Canonical.{core_bytes, modules_bytes, instances_bytes, instance_of, stack_bytes, memory_section, memory_indices, globals_section, data_section, sections_before_data, canonical_bytes}
use Rattle.dump_write.proofs.Vectors.{range_more}
use Rattle.dump_write.specs.Image.{Dump as Image}
use Rattle.dump_write.specs.ImageBytes.{frame_of, dump_of, bytes_of}
use Rattle.dump_write.specs.Pictured.{Pictures, CoversIfThere}
use Rattle.wasm_bytes.specs.Tables.{header}

-- ---- the memory of an image, which is one segment

abbrev zeros : ℕ → List ℕ
zeros k = replicate k 0

nothing_behind : (bytes : List ℕ) (k : ℕ) → k ≤ length bytes → drop (length bytes) (zeros k) ≡ []
nothing_behind bytes k few = let short : length (zeros k) ≤ length bytes = omega (arith, length-replicate {A = ℕ} k 0) in drop_all (length bytes) (zeros k) short

whole : (bytes : List ℕ) → splice (replicate (page_size * (length bytes / page_size)) 0) 0 bytes ≡ bytes
whole bytes =
    let few : page_size * (length bytes / page_size) ≤ length bytes = omega arith in
    let start : 0 + length bytes ≡ length bytes = omega arith in
    ap (λ (n : ℕ). bytes ++ drop n (zeros (page_size * (length bytes / page_size)))) start ∙ ap (λ (zs : List ℕ). bytes ++ zs) (nothing_behind bytes (page_size * (length bytes / page_size)) few) ∙ append-nil bytes

image_memory : (i : Image) (bytes : List ℕ) → i.memory ≡ Some bytes → memory_bytes (dump_of i) ≡ bytes
unfolding memory_bytes
image_memory i bytes e = rw e (whole bytes)

-- ---- the canonical bytes

same_bytes : (d e : Dump) → d.name ≡ e.name → d.frames ≡ e.frames → d.memory ≡ e.memory → d.globals ≡ e.globals → used_pages (pages_of d.memory) (memory_bytes d) ≡ used_pages (pages_of e.memory) (memory_bytes e) → canonical_bytes d ≡ canonical_bytes e
unfolding canonical_bytes sections_before_data instance_of
same_bytes d e name frames memory globals used =
    λ i. (header ++ core_bytes (name i) ++ modules_bytes (name i) ++ instances_bytes (record { «module» = 0; memories = memory_indices (memory i); globals = range_with_len 0 (length (globals i)) }) ++ stack_bytes (frames i)
    ++ memory_section (memory i) ++ globals_section (globals i)) ++ data_section (used i)

module _ (i : Image) (d : Dump) (shows : Pictures i d) where
  same_used : (memory : Option (List ℕ)) → i.memory ≡ memory → used_pages (pages_of d.memory) (memory_bytes d) ≡ used_pages (pages_of (dump_of i).memory) (memory_bytes (dump_of i))
  unfolding used_pages
  same_used None e =
      let none : (dump_of i).memory ≡ None = ap (λ (o : Option (List ℕ)). option_map (λ bytes. length bytes / page_size) o) e in
      ap (λ (o : Option ℕ). used_pages (pages_of o) (memory_bytes d)) (shows.memory ∙ none) ∙ sym (ap (λ (o : Option ℕ). used_pages (pages_of o) (memory_bytes (dump_of i))) none)
  same_used (Some bytes) e =
      let mine : memory_bytes d ≡ bytes = subst (λ (o : Option (List ℕ)). IfSome o (λ bytes. memory_bytes d ≡ bytes)) e shows.bytes in
      let other : memory_bytes (dump_of i) ≡ bytes = image_memory i bytes e in
      ap (λ (o : Option ℕ). used_pages (pages_of o) (memory_bytes d)) shows.memory ∙ ap (λ (bs : List ℕ). used_pages (pages_of (dump_of i).memory) bs) (mine ∙ sym other)

  pub pictures_bytes : canonical_bytes d ≡ bytes_of i
  pictures_bytes = same_bytes d (dump_of i) shows.name shows.frames shows.memory shows.globals (same_used i.memory refl)

-- ---- a dump that was put together

abbrev pub instance_with : Option ℕ → ℕ → Instance
instance_with memory globals = record { «module» = 0; memories = memory_indices memory; globals = range_with_len 0 (min globals (2 ^ 32 - 1)) }

one_instance : (d : Dump) → d.instances ≡ instance_with d.memory (length d.globals) ∷ [] → length d.globals < 2 ^ 32 → d.instances ≡ instance_of d ∷ []
unfolding instance_of
one_instance d is few =
    let low : length d.globals ≤ 2 ^ 32 - 1 = omega arith in
    is ∙ ap (λ (n : ℕ). let q : Instance = record { «module» = 0; memories = memory_indices d.memory; globals = range_with_len 0 n } in q ∷ []) (min-eq_left low)

-- the size and the bytes of a memory, where a dump has those of this one
size_is : (m : Option Paged) (bytes : Option (List ℕ)) (size : Option ℕ) → bytes ≡ option_map (λ m. m.memory.bytes) m → size ≡ option_map (λ m. pages m.memory) m → size ≡ option_map (λ bytes. length bytes / page_size) bytes
size_is None bytes size b s = s ∙ sym (ap (λ (o : Option (List ℕ)). option_map (λ bytes. length bytes / page_size) o) b)
size_is (Some m) bytes size b s = s ∙ sym (ap (λ (o : Option (List ℕ)). option_map (λ bytes. length bytes / page_size) o) b)

bytes_are : (m : Option Paged) (d : Dump) (bytes : Option (List ℕ)) → bytes ≡ option_map (λ m. m.memory.bytes) m → d.memory ≡ option_map (λ m. pages m.memory) m → CoversIfThere m d.segments → IfSome bytes (λ bytes. memory_bytes d ≡ bytes)
unfolding memory_bytes
bytes_are None d bytes b s covers = subst (λ (o : Option (List ℕ)). IfSome o (λ bytes. memory_bytes d ≡ bytes)) (sym b) tt
bytes_are (Some m) d bytes b s covers =
    let laid : memory_bytes d ≡ m.memory.bytes = ap (λ (o : Option ℕ). laid_on (replicate (page_size * pages_of o) 0) d.segments) s ∙ covers.bytes in
    subst (λ (o : Option (List ℕ)). IfSome o (λ bytes. memory_bytes d ≡ bytes)) (sym b) laid

pub pictured : (i : Image) (d : Dump) (m : Option Paged) → d.name ≡ i.name → d.modules ≡ i.name ∷ [] → d.instances ≡ instance_with d.memory (length d.globals) ∷ [] → d.frames ≡ map frame_of i.frames → d.globals ≡ i.globals
    → i.memory ≡ option_map (λ m. m.memory.bytes) m → d.memory ≡ option_map (λ m. pages m.memory) m → CoversIfThere m d.segments → Pictures i d
pictured i d m name modules instances frames globals bytes size covers = record {
  name = name;
  modules = modules;
  instances = one_instance d instances;
  frames = frames;
  globals = globals;
  memory = size_is m i.memory d.memory bytes size;
  bytes = bytes_are m d i.memory bytes size covers;
}

-- segments that cover a memory, where there is one, lie inside a memory of its size
pub contained_with : (m : Option Paged) (size : Option ℕ) (segments : List Region) → size ≡ option_map (λ m. pages m.memory) m → CoversIfThere m segments → All (λ r. r.at + length r.bytes ≤ 65536 * pages_of size) segments
contained_with None size segments is covers = subst (λ (rs : List Region). All (λ r. r.at + length r.bytes ≤ 65536 * pages_of size) rs) (sym covers) (λ k d h. absurd (omega (arith, h)))
contained_with (Some m) size segments is covers = subst (λ (o : Option ℕ). All (λ r. r.at + length r.bytes ≤ 65536 * pages_of o) segments) (sym is) covers.inside

-- one index more
pub range_grown : (n : ℕ) → range_with_len 0 (n + 1) ≡ range_with_len 0 n ++ n ∷ []
range_grown n =
    let same : 0 + n ≡ n = omega arith in
    ap (λ (k : ℕ). range_with_len 0 k) (add-one n) ∙ range_more 0 n ∙ ap (λ (k : ℕ). range_with_len 0 n ++ k ∷ []) same
