-- Every format is read exactly as it is spelled.
use Rattle.std.proofs.Common.{refl}
use Rattle.std.proofs.lemmas.List.{append-nil}
use Rattle.wasm_bytes.specs.Reading.{u64_item, s64_item, run_item}
use Rattle.wasm_bytes.specs.calls.Spelling as spelling
use Rattle.wasm_bytes.specs.calls.Spelling.{u64}
use Rattle.wasm_bytes.specs.Laws.{place}
use Rattle.wasm_bytes.proofs.Places.{took_is, took_nothing}
use Rattle.wasm_bytes.proofs.Exact.{leads_exact}
use Rattle.wasm_bytes.proofs.ExactItems.{u64_exact, s64_exact, run_exact}
use Rattle.wasm_bytes.proofs.ExactBlocks.{closed_exact}
use Rattle.dwarf_bytes.specs.Items.{number_item, text_item, long_block_item}
use Rattle.dwarf_bytes.specs.calls.Spelled as items
use Rattle.dwarf_bytes.specs.calls.Spelled.{ended_text}
use Rattle.dwarf_bytes.specs.Format.{Format, made, unread, unsigned, signed, number, run, text, sized, spelled, read}
use Rattle.dwarf_bytes.specs.calls.Laws.{FormatIsExact}
use Rattle.dwarf_bytes.proofs.Exact.{number_exact, text_exact, in_block_exact}

pub format_exact : {A : Type 0} (f : Format A) → FormatIsExact f
unfolding read long_block_item
format_exact (made x) = record {
  sound = λ before after y q fits read. took_is (spelled (made x)) before after x y (place before after) q read (took_nothing (spelled (made x)) before after x fits (refl, refl));
  again = λ before front rest y s. rw (s.0, s.1, append-nil before) refl;
}
format_exact unread = record {
  sound = λ before after y q fits read. absurd cc;
  again = λ before front rest y s. absurd s;
}
format_exact (unsigned f) = leads_exact u64 (λ n. spelled (f n)) u64_item (λ n. read (f n)) u64_exact (λ n. format_exact (f n))
format_exact (signed f) = leads_exact spelling.s64 (λ z. spelled (f z)) s64_item (λ z. read (f z)) s64_exact (λ z. format_exact (f z))
format_exact (number width f) = leads_exact (items.number width) (λ n. spelled (f n)) (number_item width) (λ n. read (f n)) (number_exact width) (λ n. format_exact (f n))
format_exact (run n f) = leads_exact (spelling.run n) (λ bytes. spelled (f bytes)) (run_item n) (λ bytes. read (f bytes)) (run_exact n) (λ bytes. format_exact (f bytes))
format_exact (text f) = leads_exact ended_text (λ bytes. spelled (f bytes)) text_item (λ bytes. read (f bytes)) text_exact (λ bytes. format_exact (f bytes))
format_exact (sized f) = in_block_exact u64 u64_item u64_exact (λ n. spelled (f n)) (λ n. read (f n)) (λ n. closed_exact (spelled (f n)) (read (f n)) (format_exact (f n)))
