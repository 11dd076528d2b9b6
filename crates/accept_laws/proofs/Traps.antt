-- The dumps of the traps of a run are accepted.
use Rattle.std.proofs.Common.{◌≡◌, ℕ, ◌≤◌, Bool, List, [], ◌∷◌, length, Option, Some, ◌∙◌, arith}
use Rattle.std.specs.List.{AllByRecursion}
use Rattle.std.specs.Str.{IsUtf8}
use Rattle.std.proofs.lemmas.List.{length-map}
use Rattle.wasm_syntax.specs.declared.quantity.Quantity.TheVariants.{DumpFrames}
use Rattle.wasm_syntax.specs.declared.host.Reply.{Reply}
use Rattle.wasm_syntax.specs.declared.module.ModuleParts.{ModuleParts as Module}
use Rattle.wasm_syntax.specs.Quantity.{greatest}
use Rattle.wasm_syntax.specs.Module.{Program, IsProgram, IsModule}
use Rattle.wasm_syntax.specs.Sizes.{WithinLimits}
use Rattle.wasm_syntax.specs.Valid.{Valid}
use Rattle.wasm_syntax.specs.Machine.{Config}
use Rattle.wasm_syntax.specs.Run.{Outcome, not_started, finished, trapped, lacks_reply, misfits, running, got_stuck, Ran, Invocation, run}
use Rattle.dump_write.specs.Image.{frame_images, image}
use Rattle.dump_write.specs.ImageBytes.{frame_of, dump_of, bytes_of}
use Rattle.dump_match.specs.Matching.{Matches}
use Rattle.match_laws.specs.calls.TrapDumps.{dump_at, TrapMatches, TrapsMatch}
use Rattle.match_laws.proofs.TrapRuns.{traps_match}
use Rattle.accept_laws.specs.calls.Ranges.{InRanges}
use Rattle.accept_laws.specs.calls.Accepted.{TrapAccepted, TrapsAccepted, IsAcceptedIfFew}
use Rattle.match_laws.proofs.RunStates.{LastHas}
use Rattle.match_laws.proofs.Few.{Few, run_few}
use Rattle.accept_laws.proofs.Accepting.{accepted}
use Rattle.dump_write.proofs.Images.{images_count}

count_frames : (c : Config) (name : List ℕ) → length (dump_of (image c name)).frames ≡ length c.frames
count_frames c name = length-map (frame_images c.frames) frame_of ∙ images_count c.frames

module _ (m : Module) (whole : IsModule m) (valid : Valid m) (limits : WithinLimits m) (ranges : InRanges m) where
  image_accepted : (c : Config) (name : List ℕ) → IsUtf8 name → Matches m (dump_at c name) → length c.frames ≤ greatest DumpFrames → IsAcceptedIfFew m (bytes_of (image c name))
  image_accepted c name text h few short = accepted m whole valid limits ranges (dump_of (image c name)) text h (omega (arith, few, count_frames c name)) short

  trap_accepted : (o : Outcome) (last : Option Config) → TrapMatches m o last → ((c : Config) → last ≡ Some c → length c.frames ≤ greatest DumpFrames) → TrapAccepted m o last
  trap_accepted (trapped kind) last h few = (h.0, h.1, λ name text. image_accepted h.0 name text (h.2 name) (few h.0 h.1))
  trap_accepted (not_started cause) last h few = tt
  trap_accepted (finished value) last h few = tt
  trap_accepted (lacks_reply call) last h few = tt
  trap_accepted (misfits call reply) last h few = tt
  trap_accepted running last h few = tt
  trap_accepted got_stuck last h few = tt

  all_accepted : (rans : List Ran) → TrapsMatch m rans → AllByRecursion (LastHas (Few (greatest DumpFrames))) rans → TrapsAccepted m rans
  all_accepted [] h few = tt
  all_accepted (r ∷ rs) h few = (trap_accepted r.outcome r.last h.0 few.0, all_accepted rs h.1 few.1)

pub traps_accepted : (p : Program) (collecting : Bool) (is : List Invocation) (replies : List Reply) (depth n : ℕ) → IsProgram p → IsModule p.module_ → Valid p.module_ → WithinLimits p.module_ → InRanges p.module_ → depth ≤ greatest DumpFrames → TrapsAccepted p.module_ (run p collecting is replies depth n)
traps_accepted p collecting is replies depth n writes whole valid limits ranges deep =
    all_accepted p.module_ whole valid limits ranges (run p collecting is replies depth n)
    (traps_match p writes whole.as_many valid limits collecting is replies depth n)
    (run_few p collecting is replies depth n (greatest DumpFrames) deep (omega arith))
