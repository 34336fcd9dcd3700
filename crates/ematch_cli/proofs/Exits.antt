-- What a run leaves at each of its ends.
use Rattle.std.proofs.Common.{◌≡◌, ◌≢◌, ◌⊎◌, inl, inr, ℕ, Bool, true, false, List, [], ◌++◌, refl, ap, sym, ◌∙◌, Option, Some, None, subst}
use Rattle.std.specs.Prelude.{IfSome, Ok, Err}
use Rattle.std.specs.Io.KnownBytes.{Consumes}
use Rattle.std.proofs.lemmas.List.{append-nil}
use Rattle.em_outside.specs.Bytes.{Appended, Exhausts}
use Rattle.em_outside.proofs.BytesLaws.{Appended-none, Appended-then, Consumes-none, Consumes-told, Exhausts-then}
use Rattle.em_outside.specs.declared.limits.Limits.{Limits}
use Rattle.smt_text.specs.Word.{Word}
use Rattle.smt_text.specs.Script.{Script, End, Fault, Command, IsOpen, script_of}
use Rattle.smt_text.specs.ByteFault.{text_fault, in_bytes}
use Rattle.smt_text.specs.Reading.{Reading, script, Reads, Refuses, AtByte, AtEnd, Answers as ReaderAnswers}
use Rattle.smt_text.specs.declared.byte_fault.ByteFault.{ByteFault}
use Rattle.smt_text.specs.declared.byte_fault.ByteFault.TheVariants.{BadByte, Unclosed, Stray, TooDeep, TooLong}
use Rattle.smt_text.specs.declared.fault.TextFault.{TextFault}
use Rattle.smt_text.specs.declared.fault.TextFault.TheVariants as fault
use Rattle.smt_commands.specs.declared.command.Command as syntax
use Rattle.smt_commands.specs.declared.command.Command.TheVariants.{Exit}
use Rattle.ematch_cli.specs.RunState.{RunState}
use Rattle.ematch_cli.specs.Run.{Replies, IsRefused}
use Rattle.ematch_cli.specs.Output.{Answer, Ending, Open, Finished, Failed, IsAnswer, BeginsWith, IsAnswerFront, behind, failure, last, silence, at_end, opening, IsOutput}
use Rattle.ematch_cli.specs.ErrorLine.{fault_line}
use Rattle.ematch_cli.specs.Status.{outside_status}
use Rattle.ematch_cli.specs.WritesError.{WritesError}
use Rattle.ematch_cli.specs.Headline.{Wrote, WroteFront, WroteFrontOf, Answers}
use Rattle.ematch_cli.specs.declared.status.Status.{Status}
use Rattle.ematch_cli.specs.declared.status.Status.TheVariants as status
use Rattle.em_words.specs.declared.task.Task.{Task}
use Rattle.ematch_cli.proofs.OneAnswer.{answer_once}
use Rattle.ematch_cli.proofs.Reached.{Reached, ahead, reached_read, reached_reply, answered, answered_taken, ends_only, no_memory, open_failed, finished_failed, open_answer, open_only, fault_answer, end_answer, end_only, refused_answer, exit_answer, right_now, unclosed, front_none, front_taken, fault_front, unclosed_front, refused_front, reply_front}

by_status : (s : Status) (P : Status → Type 0) → (s ≡ status.ScriptError) ⊎ ((s ≡ status.WriteFault) ⊎ (s ≡ status.NoMemory))
    → (s ≡ status.ScriptError → P status.ScriptError) → (s ≡ status.WriteFault → P status.WriteFault) → (s ≡ status.NoMemory → P status.NoMemory) → P s
by_status s P (inl is) error write memory = subst P (sym is) (error is)
by_status s P (inr (inl is)) error write memory = subst P (sym is) (write is)
by_status s P (inr (inr is)) error write memory = subst P (sym is) (memory is)

no_error : (s : Status) → (s ≡ status.WriteFault) ⊎ (s ≡ status.NoMemory) → s ≢ status.ScriptError
no_error s (inl is) error = cc
no_error s (inr is) error = cc

-- where all bytes were taken, their output is that of the input
at_whole : (task : Task) (limits : Limits) (input : Option (List ℕ)) (taken : List ℕ) (old new : Option (List ℕ)) (ending : Ending) → Exhausts input taken → Wrote old new (IsOutput task limits taken) ending → IfSome input (λ all. Wrote old new (IsOutput task limits all) ending)
at_whole task limits None taken old new ending all wrote = tt
at_whole task limits (Some xs) taken old new ending all wrote = subst (λ (bytes : List ℕ). Wrote old new (IsOutput task limits bytes) ending) (sym all) wrote

module _ (task : Task) (limits : Limits) (in0 in1 out0 out1 out2 : Option (List ℕ)) (now : RunState) (rest : List ℕ → Script) (reached : Reached task limits in0 in1 out0 out1 now rest) where
  -- a front of what answers what is left was written behind the text
  front_of : (known : Bool) (bytes : List ℕ) → ((front : List ℕ) → BeginsWith front bytes → IsAnswerFront task limits known (rest []) now front) → WroteFront out1 out2 bytes
      → WroteFrontOf task limits known reached.taken out0 out2
  front_of known bytes fronts wrote =
      (reached.text ++ wrote.0, front_taken task limits in0 in1 out0 out1 now rest reached known wrote.0 (fronts wrote.0 wrote.1), Appended-then out0 out1 out2 reached.text wrote.0 reached.wrote wrote.2)

  whole_of : (known : Bool) (bytes : List ℕ) (end : Answer) → IsAnswer task limits known (script_of limits bytes) (opening limits) (behind reached.text end) → Appended out1 out2 end.bytes
      → Wrote out0 out2 (IsAnswer task limits known (script_of limits bytes) (opening limits)) end.ending
  whole_of known bytes end is wrote = (behind reached.text end, is, refl, Appended-then out0 out1 out2 reached.text end.bytes reached.wrote wrote)

  told : (P : List ℕ → Type 0) → ((more : List ℕ) → P (reached.taken ++ more)) → (input : Option (List ℕ)) → input ≡ in0 → IfSome input P
  told P each None is = tt
  told P each (Some xs) is =
      let parts = Consumes-told xs in1 reached.taken (subst (λ (input : Option (List ℕ)). Consumes input in1 reached.taken) (sym is) reached.given) in
      subst P (sym parts.2) (each parts.0)

  -- the line of an error, whatever comes behind
  pub error_line : (line : List ℕ) (s : Status) → WritesError line out1 out2 s → ((known : Bool) (more : List ℕ) → IsAnswer task limits known (rest more) now (failure line))
      → ((front : List ℕ) → BeginsWith front line → IsAnswerFront task limits false (rest []) now front) → Answers task limits in0 in1 out0 out2 s
  error_line line s writes fails fronts = by_status s (λ t. Answers task limits in0 in1 out0 out2 t) writes.is
      (λ e. record {
        taken = reached.taken;
        given = reached.given;
        stands = (
          inl (whole_of false reached.taken (failure line) (answered_taken task limits in0 in1 out0 out1 now rest reached false (failure line) (fails false [])) (writes.whole e)),
          told (λ all. Wrote out0 out2 (IsOutput task limits all) Failed)
              (λ more. whole_of true (reached.taken ++ more) (failure line) (answered task limits in0 in1 out0 out1 now rest reached true more (failure line) (fails true more)) (writes.whole e)) in0 refl,
        );
        error_so_far = λ answer is failed calm. refl;
        error_at_end = λ answer is failed calm no_read. refl;
      })
      (λ e. record {
        taken = reached.taken;
        given = reached.given;
        stands = inl (front_of false line fronts (writes.front (no_error s (inl e))));
        error_so_far = λ answer is failed calm. absurd (calm.0 refl);
        error_at_end = λ answer is failed calm no_read. absurd (calm.0 refl);
      })
      (λ e. record {
        taken = reached.taken;
        given = reached.given;
        stands = inl (front_of false line fronts (writes.front (no_error s (inr e))));
        error_so_far = λ answer is failed calm. absurd (calm.1 refl);
        error_at_end = λ answer is failed calm no_read. absurd (calm.1 refl);
      })

  -- the line of an error that the end of the input makes
  pub end_line : (line : List ℕ) (s : Status) → WritesError line out1 out2 s → Exhausts in0 reached.taken → IsAnswer task limits true (rest []) now (failure line)
      → ((front : List ℕ) → BeginsWith front line → IsAnswerFront task limits true (rest []) now front) → Answers task limits in0 in1 out0 out2 s
  end_line line s writes all fails fronts = by_status s (λ t. Answers task limits in0 in1 out0 out2 t) writes.is
      (λ e.
      let wrote : Wrote out0 out2 (IsOutput task limits reached.taken) Failed = whole_of true reached.taken (failure line) (answered_taken task limits in0 in1 out0 out1 now rest reached true (failure line) fails) (writes.whole e) in
      record {
        taken = reached.taken;
        given = reached.given;
        stands = (inr (all, wrote), at_whole task limits in0 reached.taken out0 out2 Failed all wrote);
        error_so_far = λ answer is failed calm. refl;
        error_at_end = λ answer is failed calm no_read. refl;
      })
      (λ e. record {
        taken = reached.taken;
        given = reached.given;
        stands = inr (all, front_of true line fronts (writes.front (no_error s (inl e))));
        error_so_far = λ answer is failed calm. absurd (calm.0 refl);
        error_at_end = λ answer is failed calm no_read. absurd (calm.0 refl);
      })
      (λ e. record {
        taken = reached.taken;
        given = reached.given;
        stands = inr (all, front_of true line fronts (writes.front (no_error s (inr e))));
        error_so_far = λ answer is failed calm. absurd (calm.1 refl);
        error_at_end = λ answer is failed calm no_read. absurd (calm.1 refl);
      })

  -- the answer of `exit`, whatever comes behind
  pub exited : (text : List ℕ) → Appended out1 out2 text → ((known : Bool) (more : List ℕ) → IsAnswer task limits known (rest more) now (last text Finished)) → Answers task limits in0 in1 out0 out2 status.Done
  exited text wrote ends = record {
    taken = reached.taken;
    given = reached.given;
    stands = (
      inl (whole_of false reached.taken (last text Finished) (answered_taken task limits in0 in1 out0 out1 now rest reached false (last text Finished) (ends false [])) wrote),
      told (λ all. Wrote out0 out2 (IsOutput task limits all) Finished)
          (λ more. whole_of true (reached.taken ++ more) (last text Finished) (answered task limits in0 in1 out0 out1 now rest reached true more (last text Finished) (ends true more)) wrote) in0 refl,
    );
    error_so_far = λ answer is failed calm. finished_failed (sym (ends_only task limits in0 in1 out0 out1 now rest reached false (last text Finished) answer (only false) is) ∙ failed);
    error_at_end = λ answer is failed calm no_read. finished_failed (sym (ends_only task limits in0 in1 out0 out1 now rest reached true (last text Finished) answer (only true) is) ∙ failed);
  }
    where
      only : (known : Bool) (after : Answer) → IsAnswer task limits known (rest []) now after → after ≡ last text Finished
      only known after is = answer_once task limits reached.law known (rest []) now after (last text Finished) (right_now task limits in0 in1 out0 out1 now rest reached) is (ends known [])

  -- a write that failed in the midst of a reply
  pub reply_fault : (words : List Word) (behind_it : Script) (command : syntax.Command) (later : RunState) (text : List ℕ) → rest [] ≡ Command words behind_it → Replies task limits now words command later text → WroteFront out1 out2 text
      → Answers task limits in0 in1 out0 out2 status.WriteFault
  reply_fault words behind_it command later text first replies wrote = record {
    taken = reached.taken;
    given = reached.given;
    stands = inl (front_of false text (λ front begins. subst (λ (s : Script). IsAnswerFront task limits false s now front) (sym first) (reply_front task limits false words behind_it now later command text front replies begins)) wrote);
    error_so_far = λ answer is failed calm. absurd (calm.0 refl);
    error_at_end = λ answer is failed calm no_read. absurd (calm.0 refl);
  }

module _ (task : Task) (limits : Limits) (in0 in1 out0 out1 : Option (List ℕ)) (now : RunState) (rest : List ℕ → Script) (reached : Reached task limits in0 in1 out0 out1 now rest) where
  -- the input was read to its end, between two commands
  pub finished : Exhausts in0 reached.taken → rest [] ≡ End → Answers task limits in0 in1 out0 out1 status.Done
  finished all end =
      let wrote : Wrote out0 out1 (IsOutput task limits reached.taken) Finished = whole_of task limits in0 in1 out0 out1 out1 now rest reached true reached.taken (silence Finished)
      (answered_taken task limits in0 in1 out0 out1 now rest reached true (silence Finished) (subst (λ (s : Script). IsAnswer task limits true s now (silence Finished)) (sym end) (end_answer task limits now))) (Appended-none out1) in
      record {
        taken = reached.taken;
        given = reached.given;
        stands = (inr (all, wrote), at_whole task limits in0 reached.taken out0 out1 Finished all wrote);
        error_so_far = λ answer is failed calm. open_failed (sym (ends_only task limits in0 in1 out0 out1 now rest reached false (silence Open) answer (only false) is) ∙ failed);
        error_at_end = λ answer is failed calm no_read. finished_failed (sym (ends_only task limits in0 in1 out0 out1 now rest reached true (silence Finished) answer (only true) is) ∙ failed);
      }
    where
      only : (known : Bool) (after : Answer) → IsAnswer task limits known (rest []) now after → after ≡ at_end known
      only known after is = end_only task limits known now after (subst (λ (s : Script). IsAnswer task limits known s now after) end is)

  -- a read failed while the bytes taken are open
  pub read_failed : IsOpen (rest []) → Answers task limits in0 in1 out0 out1 status.ReadFault
  read_failed open' = record {
    taken = reached.taken;
    given = reached.given;
    stands = whole_of task limits in0 in1 out0 out1 out1 now rest reached false reached.taken (silence Open)
        (answered_taken task limits in0 in1 out0 out1 now rest reached false (silence Open) (open_answer task limits (rest []) now open')) (Appended-none out1);
    error_so_far = λ answer is failed calm. open_failed (sym (ends_only task limits in0 in1 out0 out1 now rest reached false (silence Open) answer (open_only task limits (rest []) now open') is) ∙ failed);
    error_at_end = λ answer is failed calm no_read. absurd (no_read refl);
  }

-- nothing was read or written for want of memory
pub nothing_read : (task : Task) (limits : Limits) (input out : Option (List ℕ)) → Answers task limits input input out out status.NoMemory
nothing_read task limits input out = record {
  taken = [];
  given = Consumes-none input;
  stands = inl ([], front_none task limits false (script_of limits []) (opening limits), Appended-none out);
  error_so_far = λ answer is failed calm. absurd (calm.1 refl);
  error_at_end = λ answer is failed calm no_read. absurd (calm.1 refl);
}

-- the fault of the bytes that a fault of the reader is
back : (b : ByteFault) → in_bytes (text_fault b) ≡ Some b
back (BadByte place) = refl
back (Unclosed place) = refl
back (Stray place) = refl
back (TooDeep place) = refl
back (TooLong place) = refl

pub same_byte : (f : TextFault) (b byte : ByteFault) → f ≡ text_fault b → in_bytes f ≡ Some byte → b ≡ byte
same_byte f b byte same has = let both : Some b ≡ Some byte = sym (back b) ∙ ap in_bytes (sym same) ∙ has in cc

-- what a run answers after a call of its reader
module _ (task : Task) (limits : Limits) (in0 in1 in2 out0 out1 out2 : Option (List ℕ)) (now : RunState) (old new : Reading) (reached : Reached task limits in0 in1 out0 out1 now (ahead old)) where
  abbrev behind_taken : List ℕ → List ℕ → Script
  behind_taken taken more = script old ((old.held ++ taken) ++ more)

  abbrev after : (taken : List ℕ) → Consumes in1 in2 taken → Reached task limits in0 in2 out0 out1 now (behind_taken taken)
  after taken given = reached_read task limits in0 in1 in2 out0 out1 now old taken reached given

  at_nil : (taken : List ℕ) (s : Script) → script old (old.held ++ taken) ≡ s → behind_taken taken [] ≡ s
  at_nil taken s is = ap (script old) (append-nil (old.held ++ taken)) ∙ is

  pub done : Reads old new in1 in2 (Ok None) → Answers task limits in0 in2 out0 out1 status.Done
  done r = finished task limits in0 in2 out0 out1 now (behind_taken r.taken) (after r.taken r.given) (Exhausts-then in0 in1 reached.taken r.taken reached.given r.answer.2) (at_nil r.taken End r.answer.1)

  pub read_fault : Reads old new in1 in2 (Err fault.ReadFault) → Answers task limits in0 in2 out0 out1 status.ReadFault
  read_fault r = read_failed task limits in0 in2 out0 out1 now (behind_taken r.taken) (after r.taken r.given) (subst IsOpen (ap (script old) (sym (append-nil (old.held ++ r.taken)))) r.answer.1)

  pub reader_memory : Reads old new in1 in2 (Err fault.Memory) → Answers task limits in0 in2 out0 out1 status.NoMemory
  reader_memory r = no_memory task limits in0 in2 out0 out1 now (behind_taken r.taken) (after r.taken r.given)

  pub reply_memory : (words : List Word) → Reads old new in1 in2 (Ok (Some words)) → Answers task limits in0 in2 out0 out1 status.NoMemory
  reply_memory words r = no_memory task limits in0 in2 out0 out1 now (behind_taken r.taken) (after r.taken r.given)

  pub write_fault : (words : List Word) (command : syntax.Command) (later : RunState) (text : List ℕ) → Reads old new in1 in2 (Ok (Some words)) → Replies task limits now words command later text → WroteFront out1 out2 text → Answers task limits in0 in2 out0 out2 status.WriteFault
  write_fault words command later text r replies wrote =
      reply_fault task limits in0 in2 out0 out1 out2 now (behind_taken r.taken) (after r.taken r.given) words (script new (new.held ++ [])) command later text (r.answer.first []) replies wrote

  pub next : (words : List Word) (command : syntax.Command) (later : RunState) (text : List ℕ) → Reads old new in1 in2 (Ok (Some words)) → command ≢ Exit → Replies task limits now words command later text → Appended out1 out2 text → Reached task limits in0 in2 out0 out2 later (ahead new)
  next words command later text r goes replies wrote = reached_reply task limits in0 in2 out0 out1 out2 now later words command text (behind_taken r.taken) (ahead new) (after r.taken r.given) r.answer.first goes replies wrote

  pub exit : (words : List Word) (later : RunState) (text : List ℕ) → Reads old new in1 in2 (Ok (Some words)) → Replies task limits now words Exit later text → Appended out1 out2 text → Answers task limits in0 in2 out0 out2 status.Done
  exit words later text r replies wrote = exited task limits in0 in2 out0 out1 out2 now (behind_taken r.taken) (after r.taken r.given) text wrote
      (λ known more. subst (λ (t : Script). IsAnswer task limits known t now (last text Finished)) (sym (r.answer.first more)) (exit_answer task limits known words (script new (new.held ++ more)) now later text replies))

  pub refused_command : (words : List Word) (line : List ℕ) (s : Status) → Reads old new in1 in2 (Ok (Some words)) → IsRefused task now words line → WritesError line out1 out2 s → Answers task limits in0 in2 out0 out2 s
  refused_command words line s r refused writes = error_line task limits in0 in2 out0 out1 out2 now (behind_taken r.taken) (after r.taken r.given) line s writes
      (λ known more. subst (λ (t : Script). IsAnswer task limits known t now (failure line)) (sym (r.answer.first more)) (refused_answer task limits known words (script new (new.held ++ more)) now line refused))
      (λ front begins. subst (λ (t : Script). IsAnswerFront task limits false t now front) (sym (r.answer.first [])) (refused_front task limits false words (script new (new.held ++ [])) now line front refused begins))

  refused_at : (f : TextFault) (byte : ByteFault) (s : Status) (taken : List ℕ) (given : Consumes in1 in2 taken) → in_bytes f ≡ Some byte
      → Refuses (script old) (old.held ++ taken) in1 taken f → WritesError (fault_line byte) out1 out2 s → Answers task limits in0 in2 out0 out2 s
  refused_at f byte s taken given has (AtByte b lasting same is) writes =
      error_line task limits in0 in2 out0 out1 out2 now (behind_taken taken) (after taken given) (fault_line byte) s writes
      (λ known more. subst (λ (t : Script). IsAnswer task limits known t now (failure (fault_line byte))) (sym (is more))
      (subst (λ (x : ByteFault). IsAnswer task limits known (Fault b) now (failure (fault_line x))) (same_byte f b byte same has) (fault_answer task limits known b now lasting)))
      (λ front begins. subst (λ (t : Script). IsAnswerFront task limits false t now front) (sym (is []))
      (fault_front task limits false b now front lasting (subst (λ (x : ByteFault). BeginsWith front (fault_line x)) (sym (same_byte f b byte same has)) begins)))
  refused_at f byte s taken given has (AtEnd first same is all) writes =
      end_line task limits in0 in2 out0 out1 out2 now (behind_taken taken) (after taken given) (fault_line byte) s writes
      (Exhausts-then in0 in1 reached.taken taken reached.given all)
      (subst (λ (t : Script). IsAnswer task limits true t now (failure (fault_line byte))) (sym (at_nil taken (Fault (Unclosed first)) is))
      (subst (λ (x : ByteFault). IsAnswer task limits true (Fault (Unclosed first)) now (failure (fault_line x))) (same_byte f (Unclosed first) byte same has) (unclosed task limits now first)))
      (λ front begins. subst (λ (t : Script). IsAnswerFront task limits true t now front) (sym (at_nil taken (Fault (Unclosed first)) is))
      (unclosed_front task limits now first front (subst (λ (x : ByteFault). BeginsWith front (fault_line x)) (sym (same_byte f (Unclosed first) byte same has)) begins)))

  pub refused_bytes : (f : TextFault) (byte : ByteFault) (s : Status) → in_bytes f ≡ Some byte → Reads old new in1 in2 (Err f) → WritesError (fault_line byte) out1 out2 s → Answers task limits in0 in2 out0 out2 s
  refused_bytes f byte s has r writes = refused_at f byte s r.taken r.given has (byte_answer f byte (old.held ++ r.taken) in1 r.taken has r.answer) writes
    where
      byte_answer : (f : TextFault) (byte : ByteFault) (all : List ℕ) (left : Option (List ℕ)) (taken : List ℕ) → in_bytes f ≡ Some byte → ReaderAnswers old new all left taken (Err f) → Refuses (script old) all left taken f
      byte_answer fault.ReadFault byte all left taken has answer = cc
      byte_answer fault.Memory byte all left taken has answer = cc
      byte_answer (fault.BadByte place) byte all left taken has answer = answer.1
      byte_answer (fault.Unclosed place) byte all left taken has answer = answer.1
      byte_answer (fault.Stray place) byte all left taken has answer = answer.1
      byte_answer (fault.TooDeep place) byte all left taken has answer = answer.1
      byte_answer (fault.TooLong place) byte all left taken has answer = answer.1

  -- a fault that is none of the bytes
  pub outside : (f : TextFault) → in_bytes f ≡ None → Reads old new in1 in2 (Err f) → Answers task limits in0 in2 out0 out1 (outside_status f)
  outside fault.Memory none r = reader_memory r
  outside fault.ReadFault none r = read_fault r
  outside (fault.BadByte place) none r = absurd (cc)
  outside (fault.Unclosed place) none r = absurd (cc)
  outside (fault.Stray place) none r = absurd (cc)
  outside (fault.TooDeep place) none r = absurd (cc)
  outside (fault.TooLong place) none r = absurd (cc)
