-- `replay` has at most one answer.
use Rattle.std.proofs.Common.{◌≡◌, ℕ, ◌<◌, ◌*◌, ◌/◌, List, [], ◌∷◌, ◌++◌, length, replicate, Option, Some, None, Result, Ok, Err, refl, sym, ap, ap₂, subst, ◌∙◌, arith, inl, inr}
use Rattle.std.specs.Prelude.{codes, option_map, IfSome}
use Rattle.std.specs.List.{range_with_len}
use Rattle.linear_memory.specs.Memory.{Memory, page_size}
use Rattle.pm_outside.specs.Contents.{Contents}
use Rattle.wasm_syntax.specs.declared.value.Value.{Value}
use Rattle.wasm_syntax.specs.declared.quantity.Quantity.TheVariants.{ModuleBytes, RepliesBytes}
use Rattle.wasm_syntax.specs.declared.host.Reply.{Reply}
use Rattle.wasm_syntax.specs.declared.module.ModuleParts.{ModuleParts as Module}
use Rattle.wasm_syntax.specs.Machine.{Config}
use Rattle.wasm_syntax.specs.Module.{Program}
use Rattle.wasm_syntax.specs.Run.{Outcome as RunOutcome}
use Rattle.wasm_decode.specs.Decode.{module_from}
use Rattle.dump_format.specs.declared.dump.Dump.{Dump}
use Rattle.dump_format.specs.declared.dump.Instance.{Instance}
use Rattle.dump_format.specs.Form.{pages_of}
use Rattle.dump_write.specs.Pages.{laid_on, memory_bytes}
use Rattle.dump_write.specs.Canonical.{memory_indices, instance_of}
use Rattle.dump_write.specs.Image.{Dump as Image, image}
use Rattle.dump_write.specs.Pictured.{Pictures}
use Rattle.host_replies.specs.Replies.{file_replies}
use Rattle.commands.specs.Inputs.{input_of}
use Rattle.commands.specs.Texts.{ended}
use Rattle.commands.proofs.OneOutcome.{Agree, agree_then, agree_if_loaded}
use Rattle.debugger.specs.Commands.{read_command}
use Rattle.debugger.specs.Recorded.{globals_in, laid_memory, memory_in, memory_among, recorded_globals, recorded_memory}
use Rattle.debug_frames.specs.Information.{SourceInformation, information}
use Rattle.debugger.specs.Subject.{Subject, subject_on}
use Rattle.debugger.specs.Session.{Prints, chosen_behind}
use Rattle.debug_command.proofs.OneDebug.{one_printed}
use Rattle.wasm_laws.proofs.OneProgram.{same_program}
use Rattle.run_command.specs.Starting.{cause_text}
use Rattle.run_command.specs.RunAnswer.{StartsOr}
use Rattle.replay_command.specs.declared.asking.ReplayWords.{ReplayWords}
use Rattle.replay_command.specs.declared.moves.Move.{Move}
use Rattle.replay_command.specs.declared.moves.Move.TheVariants.{Goto, Back, Until, Look}
use Rattle.replay_command.specs.Moves.{read_move}
use Rattle.replay.specs.Replays.{Recording, IsEnd, cause_in, outcome_at}
use Rattle.replay.specs.Moves.{IsNext, HasNoNext}
use Rattle.replay_command.specs.ReplayText.{At, at_frame, at_step, commands_in, subject_at, step_text, Moved, Looked, DoesMove, DoAll, IsText, ReplayText}
use Rattle.replay_command.specs.ReplayAnswer.{recording, IsTold, ModuleAnswer, IfReplies, ReplayAnswer}
use Rattle.validate_body.proofs.Flags.{true_false}
use Rattle.pm_text.proofs.Lists.{some_is}

same_number : (n k : ℕ) → (n < k → ⊥) → (k < n → ⊥) → n ≡ k
same_number n k x y = omega (arith, x, y)

-- ---- dumps that show one image record the same

abbrev instance_with : Option ℕ → List Value → Instance
instance_with memory globals = record { «module» = 0; memories = memory_indices memory; globals = range_with_len 0 (length globals) }

abbrev memory_with : ℕ → List ℕ → Memory
memory_with pages bytes = record { bytes = bytes; max = pages }

module _ (i : Image) (d e : Dump) (p : Pictures i d) (q : Pictures i e) (whole_d : d.instances ≡ instance_of d ∷ []) (whole_e : e.instances ≡ instance_of e ∷ []) where
  pub one_frames : e.frames ≡ d.frames
  one_frames = q.frames ∙ sym p.frames

  one_globals : e.globals ≡ d.globals
  one_globals = q.globals ∙ sym p.globals

  one_size : e.memory ≡ d.memory
  one_size = q.memory ∙ sym p.memory

  one_instance : instance_of e ≡ instance_of d
  unfolding instance_of
  one_instance = ap₂ instance_with one_size one_globals

  one_instances : e.instances ≡ d.instances
  one_instances = whole_e ∙ ap (λ (x : Instance). x ∷ []) one_instance ∙ sym whole_d

  pub one_recorded : recorded_globals e ≡ recorded_globals d
  unfolding recorded_globals
  one_recorded = ap₂ globals_in one_globals one_instances

  -- where both have so many pages
  laid : (pages : ℕ) → d.memory ≡ Some pages → e.memory ≡ Some pages → memory_bytes e ≡ memory_bytes d → laid_memory pages e.segments ≡ laid_memory pages d.segments
  unfolding memory_bytes
  laid pages dm em same =
      let of_e : memory_bytes e ≡ laid_on (replicate (page_size * pages) 0) e.segments = ap (λ k. laid_on (replicate (page_size * pages_of k) 0) e.segments) em in
      let of_d : memory_bytes d ≡ laid_on (replicate (page_size * pages) 0) d.segments = ap (λ k. laid_on (replicate (page_size * pages_of k) 0) d.segments) dm in
      ap (memory_with pages) (sym of_e ∙ same ∙ of_d)

  by_image : (o : Option (List ℕ)) → d.memory ≡ option_map (λ bytes. length bytes / page_size) o → e.memory ≡ option_map (λ bytes. length bytes / page_size) o → IfSome o (λ bytes. memory_bytes d ≡ bytes) → IfSome o (λ bytes. memory_bytes e ≡ bytes)
      → option_map (λ pages. laid_memory pages e.segments) e.memory ≡ option_map (λ pages. laid_memory pages d.segments) d.memory
  by_image None dm em db eb = ap (option_map (λ pages. laid_memory pages e.segments)) em ∙ sym (ap (option_map (λ pages. laid_memory pages d.segments)) dm)
  by_image (Some bytes) dm em db eb =
      ap (option_map (λ pages. laid_memory pages e.segments)) em
      ∙ ap Some (laid (length bytes / page_size) dm em (eb ∙ sym db))
      ∙ sym (ap (option_map (λ pages. laid_memory pages d.segments)) dm)

  in_memories : (indices : List ℕ) → memory_in e indices ≡ memory_in d indices
  in_memories [] = refl
  in_memories (k ∷ more) = by_image i.memory p.memory q.memory p.bytes q.bytes

  among : (instances : List Instance) → memory_among e instances ≡ memory_among d instances
  among [] = refl
  among (one ∷ more) = in_memories one.memories

  pub one_memory : recorded_memory e ≡ recorded_memory d
  unfolding recorded_memory
  one_memory = ap (memory_among e) one_instances ∙ among d.instances

  -- so a session looks at the same
  pub one_subject : (known : SourceInformation) (m : Module) → subject_on known m e ≡ subject_on known m d
  one_subject known m = λ k. record { information = known; module_ = m; frames = one_frames k; globals = one_recorded k; memory = one_memory k }

-- ---- moves

module _ (p : Program) (x : Recording) where
  one_end : (a b : ℕ) → IsEnd p x a → IsEnd p x b → a ≡ b
  one_end a b h k = same_number a b (earlier a b h k) (earlier b a k h)
    where
      earlier : (a b : ℕ) → IsEnd p x a → IsEnd p x b → a < b → ⊥
      earlier a b h k lt = h.ended (omega (arith, lt, k.within)) (k.going a lt)

  one_next : (f at from end a b : ℕ) → IsNext p x f at from end a → IsNext p x f at from end b → a ≡ b
  one_next f at from end a b h k = same_number a b (earlier a b h k) (earlier b a k h)
    where
      earlier : (a b : ℕ) → IsNext p x f at from end a → IsNext p x f at from end b → a < b → ⊥
      earlier a b h k lt = true_false (sym h.there ∙ k.none_before a h.above lt)

  next_or_none : (f at from end n : ℕ) → IsNext p x f at from end n → HasNoNext p x f at from end → ⊥
  next_or_none f at from end n h none = true_false (sym h.there ∙ none n h.above h.within)

module _ (p : Program) (x : Recording) (bytes : List ℕ) (end : ℕ) (o : RunOutcome) where
  abbrev Same : (a b : List ℕ) → (u v : At) → Type 0
  Same a b u v = (a ≡ b) × (u ≡ v)

  moved : (n k : ℕ) (a b : List ℕ) (u v : At) → n ≡ k → Moved p x bytes end o n a u → Moved p x bytes end o k b v → Same a b u v
  moved n k a b u v same (text, new) (text', new') = (text ∙ ap (λ (n : ℕ). step_text n end o) same ∙ sym text', new ∙ ap at_step same ∙ sym new')

  one_look : (old : At) (given a b : List ℕ) (u v : At) → Looked p x bytes old given a u → Looked p x bytes old given b v → Same a b u v
  one_look old given a b u v h k =
      let state : h.shows.state ≡ k.shows.state = some_is (sym h.shows.is_state ∙ k.shows.is_state) in
      let q : Pictures (image h.shows.state (codes "module")) k.dump = subst (λ (c : Config). Pictures (image c (codes "module")) k.dump) (sym state) k.shows.pictures in
      let subject : subject_at x bytes k.dump ≡ subject_at x bytes h.dump =
      one_subject (image h.shows.state (codes "module")) h.dump k.dump h.shows.pictures q h.shows.whole k.shows.whole (information bytes x.module_.customs) x.module_ in
      let prints : Prints (subject_at x bytes h.dump) old.chosen given (read_command given) b = subst (λ (s : Subject). Prints s old.chosen given (read_command given) b) subject k.prints in (
        one_printed (subject_at x bytes h.dump) old.chosen given (read_command given) a b h.prints prints,
        h.chooses ∙ ap (λ (s : Subject). at_frame old.step (chosen_behind s old.chosen (read_command given))) (sym subject) ∙ sym k.chooses,
      )

  one_move : (old : At) (given : List ℕ) (c : Move) (a b : List ℕ) (u v : At) → DoesMove p x bytes end o old given c a u → DoesMove p x bytes end o old given c b v → Same a b u v
  one_move old given (Goto n) a b u v h k = moved _ _ a b u v refl h k
  one_move old given Back a b u v h k = moved _ _ a b u v refl h k
  one_move old given (Until f at) a b u v (inl (n, next, there)) (inl (l, next', there')) = moved n l a b u v (one_next p x f at old.step end n l next next') there there'
  one_move old given (Until f at) a b u v (inl (n, next, there)) (inr (none, text, new)) = absurd (next_or_none p x f at old.step end n next none)
  one_move old given (Until f at) a b u v (inr (none, text, new)) (inl (n, next, there)) = absurd (next_or_none p x f at old.step end n next none)
  one_move old given (Until f at) a b u v (inr (none, text, new)) (inr (none', text', new')) = (text ∙ sym text', new ∙ sym new')
  one_move old given Look a b u v h k = one_look old given a b u v h k

  one_list : (given : List (List ℕ)) (old : At) (a b : List ℕ) → DoAll p x bytes end o old given a → DoAll p x bytes end o old given b → a ≡ b
  one_list [] old a b h k = h ∙ sym k
  one_list (one ∷ more) old a b (first, behind, new, does, rest, is) (first', behind', new', does', rest', is') =
      let same : Same first first' new new' = one_move old one (read_move one) first first' new new' does does' in
      is ∙ ap₂ (λ (k l : List ℕ). k ++ l) same.0 (one_list more new behind behind' rest (subst (λ (n : At). DoAll p x bytes end o n more behind') (sym same.1) rest')) ∙ sym is'

-- ---- the command

one_text : (x : Recording) (bytes given a b : List ℕ) → ReplayText x bytes given a → ReplayText x bytes given b → a ≡ b
one_text x bytes given a b h k =
    let program : k.program ≡ h.program = same_program x.module_ k.program h.program k.of_program.of_module h.of_program.of_module k.of_program.writes_out h.of_program.writes_out in
    let p : Program = h.program in
    let end : k.end ≡ h.end = one_end p x k.end h.end (subst (λ (q : Program). IsEnd q x k.end) program k.is_end) h.is_end in
    let there : outcome_at p x h.end ≡ Some k.outcome = subst (λ (n : ℕ). outcome_at p x n ≡ Some k.outcome) end (subst (λ (q : Program). outcome_at q x k.end ≡ Some k.outcome) program k.outcome_is) in
    let outcome : k.outcome ≡ h.outcome = some_is (sym there ∙ h.outcome_is) in
    let text : IsText p x bytes h.end h.outcome given b =
    subst (λ (o : RunOutcome). IsText p x bytes h.end o given b) outcome
    (subst (λ (n : ℕ). IsText p x bytes n k.outcome given b) end
    (subst (λ (q : Program). IsText q x bytes k.end k.outcome given b) program k.is_text)) in
    one_list p x bytes h.end h.outcome (commands_in given) (at_step 0) a b h.is_text text

agree_starts : (cause : Option (List ℕ)) (x : Recording) (bytes given : List ℕ) → Agree (λ o. StartsOr cause (IsTold x bytes given o) o) (λ o. StartsOr cause (IsTold x bytes given o) o)
agree_starts (Some cause) x bytes given a b h k = h ∙ sym k
agree_starts None x bytes given a b h k = ap₂ ended (h.done ∙ sym k.done) (one_text x bytes given a.text b.text h.prints k.prints)

agree_replies : (w : ReplayWords) (bytes : List ℕ) (m : Module) (replies : Result (List Reply) ℕ) → Agree (IfReplies (ModuleAnswer w bytes m) replies) (IfReplies (ModuleAnswer w bytes m) replies)
agree_replies w bytes m (Ok replies) a b h k = agree_starts (cause_text w.entry (cause_in (recording w m replies))) (recording w m replies) bytes w.commands a b h k
agree_replies w bytes m (Err line) a b h k = h ∙ sym k

pub one_replay : (w : ReplayWords) (first later : Contents) → Agree (ReplayAnswer w first later) (ReplayAnswer w first later)
one_replay w first later =
    agree_then (input_of ModuleBytes w.source (first w.source)) _ _ (λ bytes.
    agree_then (input_of RepliesBytes w.log (later w.log)) _ _ (λ log.
    agree_if_loaded _ _ (λ m. agree_replies w bytes m (file_replies log)) (module_from bytes)))
