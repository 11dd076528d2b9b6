-- What the canonical bytes of a dump say.
use Rattle.std.proofs.Common.{◌≡◌, ℕ, zero, suc, ◌+◌, ◌-◌, ◌*◌, ◌^◌, ◌<◌, ◌≤◌, Bool, true, false, cond, List, [], ◌∷◌, ◌++◌, length, map, drop, get_or, replicate, refl, sym, ap, subst, ◌∙◌, arith, lit<, add-one, length-append, length-take, All, Option, Some, None}
use Rattle.std.specs.Prelude.{filter, not, ◌==◌, ◌||◌}
use Rattle.std.specs.List.{list_any, range_with_len}
use Rattle.std.proofs.lemmas.Bool.{le-leb, eqb-true}
use Rattle.std.proofs.lemmas.List.{append-nil, length-replicate}
use Rattle.std.proofs.lemmas.List.Elements.{All-filter, All-map, All-head, All-tail}
use Rattle.std.proofs.lemmas.List.FromFn.{length-range_with_len, get_or-range_with_len, filter_of_map_range_with_len_more}
use Rattle.linear_memory.specs.Memory.{page_size, window, splice}
use Rattle.wasm_syntax.specs.declared.value.Value.{Value}
use Rattle.dump_format.specs.declared.dump.Dump.{Dump}
use Rattle.dump_format.specs.Region.{Region}
use Rattle.dump_format.specs.Form.{pages_of}
use Rattle.dump_write.specs.Spelled.{global_bytes, vector_bytes}
use Rattle.dump_write.specs.Pages.{memory_bytes, laid_on, page_region, is_used, used_pages}
use Rattle.dump_write.specs.Canonical.{core_bytes, modules_bytes, instances_bytes, stack_bytes, memory_section, globals_section, data_section, memory_indices, instance_of, segments_of, canonical, canonical_bytes}
use Rattle.dump_write.specs.calls.Typed.{IsTyped}
use Rattle.dump_write.specs.calls.Laws.{ReadsBack, KeepsMemory}
use Rattle.dump_write.proofs.PageLists.{Inside}
use Rattle.dump_write.proofs.LaidLists.{FirstPages, page_laid, page_absent, pages_laid, length-window}
use Rattle.dump_write.proofs.SpelledParts.{IsPlaced, no_longer, global_long}
use Rattle.dump_write.proofs.SpelledSections.{IsSmallInstance, body_short}
use Rattle.dump_write.proofs.ReadsBack.{ArePlaced, IsSpelt, sections_nested, nested, spelt_read}
use Rattle.linear_memory.proofs.Contents.{length-splice}
use Rattle.wasm_bytes.specs.Tables.{header}

-- ---- the sizes of the sections

abbrev sizes : Dump → ℕ
sizes d =
    length (core_bytes d.name) + length (modules_bytes d.name) + length (instances_bytes (instance_of d)) + length (stack_bytes d.frames) + length (memory_section d.memory) + length (globals_section d.globals)
    + length (data_section (segments_of d))

sizes_within : (d : Dump) → sizes d ≤ length (canonical_bytes d)
sizes_within d =
    let a = core_bytes d.name in
    let b = modules_bytes d.name in
    let c = instances_bytes (instance_of d) in
    let e = stack_bytes d.frames in
    let f = memory_section d.memory in
    let g = globals_section d.globals in
    let h = data_section (segments_of d) in
    omega (
      arith,
      ap length (nested d),
      length-append header (sections_nested d.name (instance_of d) d.frames d.memory d.globals (segments_of d)),
      length-append a (b ++ (c ++ (e ++ (f ++ (g ++ (h ++ [])))))),
      length-append b (c ++ (e ++ (f ++ (g ++ (h ++ []))))),
      length-append c (e ++ (f ++ (g ++ (h ++ [])))),
      length-append e (f ++ (g ++ (h ++ []))),
      length-append f (g ++ (h ++ [])),
      length-append g (h ++ []),
      length-append h [],
    )

-- ---- the indices and the segments that are written

few_globals : (vs : List Value) → length (globals_section vs) < 2 ^ 32 → length vs < 2 ^ 32
unfolding globals_section
few_globals [] short = lit< tt
few_globals (v ∷ vs) short = omega (arith, no_longer global_bytes global_long (v ∷ vs), body_short 6 (vector_bytes global_bytes (v ∷ vs)))

low_indices : (memory : Option ℕ) → All (λ n. n < 2 ^ 32) (memory_indices memory) × (length (memory_indices memory) < 2 ^ 32)
low_indices None = (λ k d h. absurd (omega arith), lit< tt)
low_indices (Some pages) = (λ k d h. let first : k ≡ 0 = omega arith in subst (λ (n : ℕ). get_or (0 ∷ []) n d < 2 ^ 32) (sym first) (lit< tt), lit< tt)

low_range : (n : ℕ) → n < 2 ^ 32 → All (λ k. k < 2 ^ 32) (range_with_len 0 n)
low_range n low k d h = let inside : k < n = omega (arith, length-range_with_len 0 n) in omega (arith, get_or-range_with_len 0 n k d inside)

instance_small : (d : Dump) → length d.globals < 2 ^ 32 → IsSmallInstance (instance_of d)
unfolding instance_of
instance_small d few = record {
  «module» = lit< tt;
  memories = (low_indices d.memory).0;
  memory_count = (low_indices d.memory).1;
  globals = low_range (length d.globals) few;
  global_count = omega (arith, length-range_with_len 0 (length d.globals));
}

page_placed : (pages : ℕ) (bytes : List ℕ) (i : ℕ) → pages ≤ 4096 → i < pages → IsPlaced pages (page_region bytes i)
page_placed pages bytes i few inside =
    let long : length (window bytes (page_size * i) page_size) ≤ page_size = omega (arith, length-take page_size (drop (page_size * i) bytes)) in
    (le-leb (page_size * i + length (window bytes (page_size * i) page_size)) (65536 * pages) (omega arith), omega arith, omega arith)

segments_placed : (memory : Option ℕ) (bytes : List ℕ) → pages_of memory ≤ 4096 → ArePlaced memory (used_pages (pages_of memory) bytes)
unfolding used_pages
segments_placed None bytes few = refl
segments_placed (Some pages) bytes few = (
  omega arith,
  All-filter is_used (IsPlaced pages) (map (page_region bytes) (range_with_len 0 pages))
      (All-map (IsPlaced pages) (page_region bytes) (range_with_len 0 pages) (λ k d h.
      let inside : k < pages = omega (arith, length-range_with_len 0 pages) in
      let at : get_or (range_with_len 0 pages) k d ≡ k = get_or-range_with_len 0 pages k d inside ∙ omega arith in
      subst (λ (n : ℕ). IsPlaced pages (page_region bytes n)) (sym at) (page_placed pages bytes k few inside))),
)

spelt : (d : Dump) → IsTyped d → pages_of d.memory ≤ 4096 → length (canonical_bytes d) ≤ 536870912 → IsSpelt d.name (instance_of d) d.frames d.memory d.globals (segments_of d)
spelt d typed few short =
    let all = sizes_within d in
    let globals : length (globals_section d.globals) < 2 ^ 32 = omega (arith, all) in
    record {
      text = typed.name;
      small = instance_small d (few_globals d.globals globals);
      frames_typed = typed.frames;
      values_typed = typed.globals;
      few = few;
      placed = segments_placed d.memory (memory_bytes d) few;
      core_short = omega (arith, all);
      modules_short = omega (arith, all);
      instances_short = omega (arith, all);
      stack_short = omega (arith, all);
      memory_short = omega (arith, all);
      globals_short = globals;
      data_short = omega (arith, all);
    }

pub reads_back : (d : Dump) → ReadsBack d
reads_back d typed pages frames short = spelt_read d (spelt d typed pages short) frames short

-- ---- the memory

long_as_laid : (segments : List Region) (xs : List ℕ) → Inside (length xs) segments → length (laid_on xs segments) ≡ length xs
long_as_laid [] xs inside = refl
long_as_laid (r ∷ rs) xs inside =
    let head : r.at + length r.bytes ≤ length xs = All-head (λ (q : Region). q.at + length q.bytes ≤ length xs) r rs inside in
    let tail : Inside (length xs) rs = All-tail (λ (q : Region). q.at + length q.bytes ≤ length xs) r rs inside in
    let same : length (splice xs r.at r.bytes) ≡ length xs = length-splice xs r.bytes r.at head in
    long_as_laid rs (splice xs r.at r.bytes) (subst (λ (n : ℕ). Inside n rs) (sym same) tail) ∙ same

-- bytes of which none is used are zeros
only_zero : (b c : Bool) (x : ℕ) (xs : List ℕ) → (x == 0) ≡ b → (not b || c) ≡ false → (c ≡ false → xs ≡ replicate (length xs) 0) → x ∷ xs ≡ replicate (length (x ∷ xs)) 0
only_zero true c x xs is unused rest = let none : x ≡ 0 = eqb-true x 0 is in ap (λ (y : ℕ). y ∷ xs) none ∙ ap (λ (ys : List ℕ). 0 ∷ ys) (rest unused)
only_zero false c x xs is unused rest = cc

only_zeros : (xs : List ℕ) → list_any (λ (b : ℕ). not (b == 0)) xs ≡ false → xs ≡ replicate (length xs) 0
only_zeros [] unused = refl
only_zeros (x ∷ xs) unused = only_zero (x == 0) (list_any (λ (b : ℕ). not (b == 0)) xs) x xs refl unused (only_zeros xs)

-- the used ones of the first i pages make the first i pages
first_pages : (n i : ℕ) (bytes : List ℕ) → i ≤ n → length bytes ≡ page_size * n → FirstPages n i bytes (laid_on (replicate (page_size * n) 0) (filter is_used (map (page_region bytes) (range_with_len 0 i))))
first_pages n zero bytes below size = let same : n ≡ n - 0 = omega arith in ap (λ (k : ℕ). replicate (page_size * k) 0) same
first_pages n (suc i) bytes below size =
    subst (λ (k : ℕ). FirstPages n k bytes (laid_on (replicate (page_size * n) 0) (filter is_used (map (page_region bytes) (range_with_len 0 k))))) (add-one i)
    (step (is_used (page_region bytes i)) refl (first_pages n i bytes (omega arith) size))
  where
    more : (b : Bool) → is_used (page_region bytes i) ≡ b → filter is_used (map (page_region bytes) (range_with_len 0 (i + 1))) ≡ filter is_used (map (page_region bytes) (range_with_len 0 i)) ++ cond b (page_region bytes i ∷ []) []
    more b is = filter_of_map_range_with_len_more is_used (page_region bytes) 0 i i (omega arith) ∙ ap (λ (c : Bool). filter is_used (map (page_region bytes) (range_with_len 0 i)) ++ cond c (page_region bytes i ∷ []) []) is

    step : (b : Bool) → is_used (page_region bytes i) ≡ b → FirstPages n i bytes (laid_on (replicate (page_size * n) 0) (filter is_used (map (page_region bytes) (range_with_len 0 i))))
        → FirstPages n (i + 1) bytes (laid_on (replicate (page_size * n) 0) (filter is_used (map (page_region bytes) (range_with_len 0 (i + 1)))))
    step true is so_far =
        ap (λ (rs : List Region). laid_on (replicate (page_size * n) 0) rs) (more true is)
        ∙ page_laid n i (replicate (page_size * n) 0) bytes (filter is_used (map (page_region bytes) (range_with_len 0 i))) (page_region bytes i) (omega arith) size so_far refl refl (length-window bytes i n (omega arith) size)
    step false is so_far =
        ap (λ (rs : List Region). laid_on (replicate (page_size * n) 0) rs) (more false is ∙ append-nil (filter is_used (map (page_region bytes) (range_with_len 0 i))))
        ∙ page_absent n i bytes (laid_on (replicate (page_size * n) 0) (filter is_used (map (page_region bytes) (range_with_len 0 i)))) (omega arith) so_far
        (only_zeros (window bytes (page_size * i) page_size) is ∙ ap (λ (k : ℕ). replicate k 0) (length-window bytes i n (omega arith) size))

pub keeps_memory : (d : Dump) → KeepsMemory d
unfolding memory_bytes canonical used_pages
keeps_memory d inside =
    let n = pages_of d.memory in
    let zeros = replicate (page_size * n) 0 in
    let within : Inside (length (replicate (page_size * pages_of d.memory) 0)) d.segments = subst (λ (k : ℕ). Inside k d.segments) (sym (length-replicate (page_size * pages_of d.memory) 0)) inside in
    let size : length (laid_on (replicate (page_size * pages_of d.memory) 0) d.segments) ≡ page_size * pages_of d.memory = long_as_laid d.segments zeros within ∙ length-replicate (page_size * n) 0 in
    pages_laid n n (laid_on zeros d.segments) (laid_on zeros (filter is_used (map (page_region (laid_on zeros d.segments)) (range_with_len 0 n)))) (omega arith) size (first_pages n n (laid_on zeros d.segments) (omega arith) size)
