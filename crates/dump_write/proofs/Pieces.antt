-- The canonical bytes in the pieces in which they are written.
use Rattle.std.proofs.Common.{◌≡◌, ℕ, ◌+◌, ◌*◌, ◌≤◌, List, [], ◌∷◌, ◌++◌, length, take, refl, sym, ap, subst, ◌∙◌, arith, append_assoc, All, replicate}
use Rattle.std.specs.Prelude.{filter}
use Rattle.std.specs.List.{flat_map}
use Rattle.std.proofs.lemmas.List.{take_all}
use Rattle.wasm_leb.specs.Writing.{unsigned_bytes}
use Rattle.linear_memory.specs.Memory.{page_size}
use Rattle.dump_format.specs.declared.dump.Dump.{Dump}
use Rattle.dump_format.specs.Region.{Region}
use Rattle.dump_format.specs.Form.{pages_of}
use Rattle.dump_format.specs.calls.Contained.{IsContained}
use Rattle.dump_write.specs.Spelled.{vector_bytes, segment_bytes, section_bytes}
use Rattle.dump_write.specs.Pages.{is_used, memory_bytes, laid_on, used_pages}
use Rattle.dump_write.specs.calls.Paged.{ArePages}
use Rattle.dump_write.specs.inner.Pieces.{data_head, pages_bytes}
use Rattle.dump_write.specs.Canonical.{data_section, segments_of, sections_before_data, canonical_bytes}
use Rattle.dump_write.proofs.PageLists.{used_few, used_small, used_of_paged}

-- the data section is its head and its segments
data_split : (rs : List Region) → data_section rs ≡ data_head rs ++ pages_bytes rs
unfolding data_section data_head section_bytes vector_bytes
data_split [] = refl
data_split (r ∷ rs) =
    let all = unsigned_bytes (length (r ∷ rs)) ++ flat_map segment_bytes (r ∷ rs) in
    ap (λ (bs : List ℕ). 11 ∷ bs) (sym (append_assoc (unsigned_bytes (length all)) (unsigned_bytes (length (r ∷ rs))) (flat_map segment_bytes (r ∷ rs))))

-- the canonical bytes, where these are the segments that are written
pub in_pieces : (d : Dump) (used : List Region) → used ≡ segments_of d → canonical_bytes d ≡ (sections_before_data d ++ data_head used) ++ pages_bytes used
unfolding canonical_bytes
in_pieces d used is =
    ap (λ (rs : List Region). sections_before_data d ++ data_section rs) (sym is) ∙ ap (λ (bs : List ℕ). sections_before_data d ++ bs) (data_split used) ∙ sym (append_assoc (sections_before_data d) (data_head used) (pages_bytes used))

-- all segments were written behind the head
pub all_written : (d : Dump) (used items : List Region) (i : ℕ) (head out : List ℕ) → used ≡ segments_of d → items ≡ used → length items ≤ i → head ≡ sections_before_data d ++ data_head used → out ≡ head ++ flat_map segment_bytes (take i items) → out ≡ canonical_bytes d
all_written d used items i head out is same past begun so_far =
    so_far ∙ ap (λ (bs : List ℕ). bs ++ flat_map segment_bytes (take i items)) begun
    ∙ ap (λ (rs : List Region). (sections_before_data d ++ data_head used) ++ flat_map segment_bytes rs) (take_all i items past ∙ same)
    ∙ sym (in_pieces d used is)

-- the segments that are written are few, and no longer than a page
pub written_few : (d : Dump) (used : List Region) → used ≡ segments_of d → pages_of d.memory ≤ 4096 → length used ≤ 4096
written_few d used is few = rw is (omega (arith, used_few (pages_of d.memory) (memory_bytes d)))

pub written_small : (d : Dump) (used : List Region) → used ≡ segments_of d → All (λ r. length r.bytes ≤ 65536) used
written_small d used is = subst (λ (rs : List Region). All (λ r. length r.bytes ≤ 65536) rs) (sym is) (used_small (pages_of d.memory) (memory_bytes d))

-- whole pages of a dump
pub paged_used : (d : Dump) → IsContained d → ArePages 0 d.segments → filter is_used d.segments ≡ segments_of d
unfolding memory_bytes
paged_used d inside pages = used_of_paged (pages_of d.memory) (memory_bytes d) d.segments pages inside refl

-- the pages of a memory that has the bytes of the dump's
pub laid_used : (d : Dump) (n : ℕ) (bytes : List ℕ) (segments : List Region) → n ≡ pages_of d.memory → bytes ≡ memory_bytes d → ArePages 0 segments → All (λ r. r.at + length r.bytes ≤ page_size * n) segments → laid_on (replicate (page_size * n) 0) segments ≡ bytes → filter is_used segments ≡ segments_of d
laid_used d n bytes segments size same pages inside laid =
    used_of_paged n bytes segments pages inside laid ∙ ap (λ (k : ℕ). used_pages k bytes) size ∙ ap (λ (bs : List ℕ). used_pages (pages_of d.memory) bs) same
