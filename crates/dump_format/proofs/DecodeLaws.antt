-- What the code answers is the dump that the bytes spell, or why they are refused.
use Rattle.std.proofs.Common.{◌≡◌, ℕ, suc, List, [], ◌∷◌, length, Ok, Err, refl, arith}
use Rattle.std.specs.Prelude.{nat_lt}
use Rattle.std.specs.List.{flat_map}
use Rattle.std.proofs.lemmas.Bool.{lt-ltb}
use Rattle.wasm_bytes.specs.Place.{Place, Read}
use Rattle.wasm_bytes.specs.Reading.{closed, value_of}
use Rattle.dump_format.specs.Parts.{Part}
use Rattle.dump_format.specs.Judged.{names_in, modules_in, instances_in, frames_in, memories_in, values_in, segments_in, memories_of, is_repeated, repeated, refusal, dump_of, memory_of, frames_of, first_of, floats_in}
use Rattle.dump_format.specs.Sections.{parts_item}
use Rattle.dump_format.specs.inner.Gathering.{found_or, repeated_in, refusal_in, dump_in, judged_in, gathered_item, dump_gathered}
use Rattle.dump_format.specs.Decode.{dump_from, judged_parts}
use Rattle.dump_format.proofs.Summary.{found_or-found, is_found_again-found, summary}
use Rattle.dump_format.proofs.Steps.{closed-made}
use Rattle.wasm_bytes.proofs.Vectors.{made}
use Rattle.dump_format.proofs.SectionLaws.{memory_known, complete_made}

two_repeated : {A : Type 0} (xs : List A) → nat_lt 1 (length xs) ≡ is_repeated xs
two_repeated [] = refl
two_repeated (x ∷ []) = refl
two_repeated (x ∷ y ∷ ys) = lt-ltb 1 (suc (suc (length ys))) (omega arith)

repeated_known : (ps : List Part) → repeated_in (summary ps) ≡ repeated ps
unfolding repeated_in repeated summary
repeated_known ps =
    rw (is_found_again-found (flat_map names_in ps), is_found_again-found (flat_map modules_in ps), is_found_again-found (flat_map instances_in ps), is_found_again-found (flat_map frames_in ps), found_or-found [] (flat_map memories_in ps), two_repeated (memories_of ps)) refl

frames_known : (ps : List Part) → found_or [] (summary ps).frames ≡ frames_of ps
unfolding summary
frames_known ps = found_or-found [] (flat_map frames_in ps)

float_known : (ps : List Part) → (summary ps).first ≡ first_of (flat_map floats_in ps)
unfolding summary
float_known ps = refl

refusal_known : (ps : List Part) → refusal_in (summary ps) ≡ refusal ps
unfolding refusal_in refusal
refusal_known ps = rw (repeated_known ps, memory_known ps, frames_known ps, float_known ps) refl

dump_known : (ps : List Part) → dump_in (summary ps) ≡ dump_of ps
unfolding dump_in dump_of summary memory_of
dump_known ps =
    rw (found_or-found [] (flat_map names_in ps), found_or-found [] (flat_map modules_in ps), found_or-found [] (flat_map instances_in ps), found_or-found [] (flat_map frames_in ps), found_or-found [] (flat_map memories_in ps), found_or-found [] (flat_map values_in ps), found_or-found [] (flat_map segments_in ps)) refl

judged_known : (read : Read (List Part)) → judged_in (value_of (made summary read)) ≡ judged_parts (value_of read)
judged_known (Ok x) = rw (refusal_known x.0, dump_known x.0) refl
judged_known (Err at) = refl

pub dump_known_from : (bytes : List ℕ) → dump_gathered bytes ≡ dump_from bytes
unfolding dump_gathered dump_from
dump_known_from bytes =
    let start : Place = record { block = bytes; at = 0 } in
    rw (closed-made summary parts_item gathered_item complete_made start, judged_known (closed parts_item start)) refl
