-- From how the loop over lines ends to what the top call says.
use Rattle.std.proofs.Common.{◌≡◌, ℕ, List, [], ◌∷◌, ◌++◌, refl, ap, sym, subst, Option, Some, None, IfSome, inl, inr, append-nil, ◌∙◌, arith}
use Rattle.std.specs.Prelude.{◌⊎◌, ◌+◌, ◌≤◌, ◌<◌, length}
use Rattle.std.specs.Io.KnownBytes.{Appends, Consumes, IsAtEnd}
use Rattle.setup_reading.specs.Reading.{Explains}
use Rattle.std.proofs.lemmas.Option.{IfSome_then}
use Rattle.std.proofs.lemmas.List.Elements.{Contains-append_left, Contains-append_right}
use Rattle.request_lines.specs.Lines.{lines, AreWithinLimits, StopsAtLong, StopsAtMany}
use Rattle.request_lines.specs.Run.{AreAnswered, IsCutShort, IsFrontOfNext, Ends}
use Rattle.request_lines.specs.declared.run.End.{End}
use Rattle.request_lines.specs.declared.run.End.TheVariants.{Done, ReadFault, WriteFault, Memory, LongLine, ManyLines}
use Rattle.request_lines.proofs.Known.{Appends-trans}
use Rattle.request_lines.proofs.Progress.{Appends-nil}
use Rattle.jql_print.specs.Check.{IsReply}
use Rattle.tracker_machine.specs.Machine.{Machine}
use Rattle.tracker_machine.specs.Tracker.{IsTracker}
use Rattle.tracker_runs.specs.Run.{IsRun, IsFrontOfReply, requests}
use Rattle.tracker_runs.proofs.Runs.{IsRun-nil, IsRun-line, front_of_reply}
use Rattle.tracker_cli.specs.Outcome.{BeginsIn, HasRowsOf, HasRowsBehind, StaysUnopened, IsKeptBehind, IsSetup, IsExec, IsCheck, IsOfLines, AreReplies, AreCutReplies, AreChecked, AreCutChecks, IsFrontOfCheck, AreRepliesOf, AreCutRepliesOf, GrewBy, GrewByFront, IsInitText, IsKeptText, IsLimitText, IsCutLimitText, EndsRun, limit_line, limit_lines, setup_limit}
use Rattle.tracker_keeper.specs.Rows.{Rows}
use Rattle.tracker_core.specs.Desk.{DeskParts, IsOpened, IsOpenFault}
use Rattle.tracker_core.specs.Left.{LeavesOn, LeavesJustIts, LeavesOpened, LeavesWithOne}
use Rattle.tracker_core.proofs.Left.{leaves_same, leaves_more, leaves_then, leaves_with_one}
use Rattle.tracker_core.specs.declared.desk.OpenFault.{OpenFault}
use Rattle.tracker_core.specs.declared.desk.OpenFault.TheVariants.{BadRow}
use Rattle.tracker_machine.specs.Kept.{rows_of}
use Rattle.tracker_cli.specs.Texts.{kept_line}
use Rattle.tracker_cli.specs.Answering.{AnswersKept, IsWithLine, RoseBy}
use Rattle.tracker_cli.proofs.Counted.{rose_again, rose_later, rose_none}

-- which texts are the replies to lines, and which are those to an input where it is cut short
abbrev Whole : Type 1
Whole = List (List ℕ) → List ℕ → Type 0

abbrev Part : Type 1
Part = List ℕ → List ℕ → Type 0

-- what is said of a text may be said otherwise
grew : (t u : Option (List ℕ)) (P Q : List ℕ → Type 0) → ((text : List ℕ) → P text → Q text) → GrewBy t u P → GrewBy t u Q
grew t u P Q f one = (one.0, f one.0 one.1, one.2)

retold : (R Q : Whole) (C D : Part) → ((all : List (List ℕ)) (text : List ℕ) → R all text → Q all text) → ((bytes text : List ℕ) → C bytes text → D bytes text) →
    (bytes : List ℕ) (left t u : Option (List ℕ)) (end : End) → EndsRun R C bytes left t u end → EndsRun Q D bytes left t u end
retold R Q C D f g bytes left t u Done (at_end, within, one) = (at_end, within, grew t u _ _ (f (lines bytes)) one)
retold R Q C D f g bytes left t u ReadFault (read, taken, within, one) = (read, taken, within, grew t u _ _ (f _) one)
retold R Q C D f g bytes left t u WriteFault one = grew t u _ _ (g bytes) one
retold R Q C D f g bytes left t u Memory one = grew t u _ _ (g bytes) one
retold R Q C D f g bytes left t u LongLine (done, stops, one) = (done, stops, grew t u _ _ (f done) one)
retold R Q C D f g bytes left t u ManyLines (done, stops, one) = (done, stops, grew t u _ _ (f done) one)

-- the command is exec
pub exec_ends : (Begins : Machine → Type 0) (Kept : IsKeptBehind) (Unopened : Type 0) (words : List (List ℕ)) (old left t u : Option (List ℕ)) (end : End) → IsExec words →
    IfSome old (λ bytes. EndsRun (AreReplies Begins Kept) (AreCutReplies Begins Kept Unopened) bytes left t u end) →
    IfSome old (λ bytes. EndsRun (AreRepliesOf Begins Kept words) (AreCutRepliesOf Begins Kept Unopened words) bytes left t u end)
exec_ends Begins Kept Unopened words old left t u end is ends = IfSome_then old ends (λ bytes p.
    retold (AreReplies Begins Kept) (AreRepliesOf Begins Kept words) (AreCutReplies Begins Kept Unopened) (AreCutRepliesOf Begins Kept Unopened words) (λ all text r. inl (is, r)) (λ b text r. inl (is, r)) bytes left t u end p)

-- the command is check
pub check_ends : (Begins : Machine → Type 0) (Kept : IsKeptBehind) (Unopened : Type 0) (words : List (List ℕ)) (old left t u : Option (List ℕ)) (end : End) → IsCheck words →
    IfSome old (λ bytes. EndsRun AreChecked AreCutChecks bytes left t u end) →
    IfSome old (λ bytes. EndsRun (AreRepliesOf Begins Kept words) (AreCutRepliesOf Begins Kept Unopened words) bytes left t u end)
check_ends Begins Kept Unopened words old left t u end is ends = IfSome_then old ends (λ bytes p.
    retold AreChecked (AreRepliesOf Begins Kept words) AreCutChecks (AreCutRepliesOf Begins Kept Unopened words) (λ all text r. inr (is, r)) (λ b text r. inr (is, r)) bytes left t u end p)

-- from the loop's own words: each line answered, and a part of them
told : {State : Type 0} (Answers : State → List ℕ → List ℕ → State → Type 0) (start : State) (R : Whole) (C : Part) →
    ((all : List (List ℕ)) (text : List ℕ) (new : State) → AreAnswered Answers start all text new → R all text) →
    ((bytes : List ℕ) (t u : Option (List ℕ)) (new : State) → IsCutShort Answers start (lines bytes) t u new → GrewBy t u (C bytes)) →
    (bytes : List ℕ) (left t u : Option (List ℕ)) (end : End) (new : State) → Ends Answers start bytes left t u end new → EndsRun R C bytes left t u end
told Answers start R C f g bytes left t u Done new (at_end, within, one) = (at_end, within, (one.text, f _ one.text new one.answered, one.written))
told Answers start R C f g bytes left t u ReadFault new (read, taken, within, one) = (read, taken, within, (one.text, f _ one.text new one.answered, one.written))
told Answers start R C f g bytes left t u WriteFault new one = g bytes t u new one
told Answers start R C f g bytes left t u Memory new one = g bytes t u new one
told Answers start R C f g bytes left t u LongLine new (done, stops, one) = (done, stops, (one.text, f done one.text new one.answered, one.written))
told Answers start R C f g bytes left t u ManyLines new (done, stops, one) = (done, stops, (one.text, f done one.text new one.answered, one.written))

-- ---- lines that a desk answers

-- what each answer leaves kept, that a keeper which tells its rows told them before, and what a crash may leave
pub record Stays {P : Type 0} (keeps : P → Rows → Type 0) (tells : P → Type 0) (leaves : P → Rows → Rows → Type 0) (More : Machine → Machine → Type 0)
    (old new : DeskParts P) : Type 0 where
  pub rows : keeps old.keeper (rows_of old.machine) → keeps new.keeper (rows_of new.machine)
  pub told : tells new.keeper → tells old.keeper
  pub left : keeps old.keeper (rows_of old.machine) → LeavesOn leaves More old.keeper old.machine new.keeper new.machine

module _ {P : Type 0} (keeps : P → Rows → Type 0) (tells : P → Type 0) (leaves : P → Rows → Rows → Type 0) where
  pub stays_same : (More : Machine → Machine → Type 0) (old new : DeskParts P) → new ≡ old → Stays keeps tells leaves More old new
  stays_same More old new same = record {
    rows = λ kept. subst (λ (d : DeskParts _). keeps d.keeper (rows_of d.machine)) (sym same) kept;
    told = λ told. subst (λ (d : DeskParts _). tells d.keeper) same told;
    left = λ _. subst (λ (d : DeskParts _). LeavesOn leaves More old.keeper old.machine d.keeper d.machine) (sym same) (leaves_same leaves More old.keeper old.machine);
  }

  pub stays_on : (More : Machine → Machine → Type 0) (old next new : DeskParts P) → Stays keeps tells leaves More old next → Stays keeps tells leaves More next new
      → Stays keeps tells leaves More old new
  stays_on More old next new one other = record {
    rows = λ kept. other.rows (one.rows kept);
    told = λ told. one.told (other.told told);
    left = λ kept. leaves_then leaves More old.keeper old.machine next.keeper next.machine new.keeper new.machine (one.left kept) (other.left (one.rows kept));
  }

  pub stays_more : (One More : Machine → Machine → Type 0) → ((m later : Machine) → One m later → More m later) → (old new : DeskParts P) → Stays keeps tells leaves One old new
      → Stays keeps tells leaves More old new
  stays_more One More f old new one = record {
    rows = one.rows;
    told = one.told;
    left = λ kept. leaves_more leaves One More f old.keeper old.machine new.keeper new.machine (one.left kept);
  }

-- a line that is among these is among more
among_first : (done rest : List (List ℕ)) (m later : Machine) → IsWithLine done m later → IsWithLine (done ++ rest) m later
among_first done rest m later one = (one.0, Contains-append_left done rest one.0 one.1, one.2)

among_later : (done rest : List (List ℕ)) (m later : Machine) → IsWithLine rest m later → IsWithLine (done ++ rest) m later
among_later done rest m later one = (one.0, Contains-append_right done rest one.0 one.1, one.2)

answered_stays : {P : Type 0} (keeps : P → Rows → Type 0) (tells : P → Type 0) (faults : P → ℕ) (leaves : P → Rows → Rows → Type 0) (old new : DeskParts P) (line text : List ℕ)
    → AnswersKept keeps tells faults leaves old line text new → Stays keeps tells leaves (IsWithLine (line ∷ [])) old new
answered_stays keeps tells faults leaves old new line text here = record { rows = here.rows; told = here.told; left = here.left }

-- lines were answered, from one desk to another
record Served {P : Type 0} (keeps : P → Rows → Type 0) (tells : P → Type 0) (faults : P → ℕ) (leaves : P → Rows → Rows → Type 0) (old new : DeskParts P) (all : List (List ℕ)) (text : List ℕ) : Type 0 where
  failures : ℕ
  run : IsRun old.machine (requests all) text new.machine failures
  stays : Stays keeps tells leaves (IsWithLine all) old new
  counted : RoseBy (faults old.keeper) (faults new.keeper) failures

none_served : {P : Type 0} (keeps : P → Rows → Type 0) (tells : P → Type 0) (faults : P → ℕ) (leaves : P → Rows → Rows → Type 0) (old : DeskParts P) → Served keeps tells faults leaves old old [] []
none_served keeps tells faults leaves old = record { failures = 0; run = IsRun-nil old.machine; stays = stays_same keeps tells leaves (IsWithLine []) old old refl; counted = rose_none _ _ refl }

served_lines : {P : Type 0} (keeps : P → Rows → Type 0) (tells : P → Type 0) (faults : P → ℕ) (leaves : P → Rows → Rows → Type 0) (old new : DeskParts P) (all : List (List ℕ)) (text : List ℕ)
    → AreAnswered (AnswersKept keeps tells faults leaves) old all text new → Served keeps tells faults leaves old new all text
served_lines keeps tells faults leaves old new [] text (none, same) =
    subst (λ t. Served keeps tells faults leaves old new [] t) (sym none) (subst (λ d. Served keeps tells faults leaves old d [] []) (sym same) (none_served keeps tells faults leaves old))
served_lines keeps tells faults leaves old new (line ∷ more) text (next, first, rest, here, is, later) =
    let after = served_lines keeps tells faults leaves next new more rest later in
    record {
      failures = here.failures + after.failures;
      run = subst (λ t. IsRun old.machine (requests (line ∷ more)) t new.machine (here.failures + after.failures)) (sym is)
          (IsRun-line old.machine next.machine new.machine line first rest more here.failures after.failures here.answered after.run);
      stays = stays_on keeps tells leaves (IsWithLine (line ∷ more)) old next new
          (stays_more keeps tells leaves (IsWithLine (line ∷ [])) (IsWithLine (line ∷ more)) (among_first (line ∷ []) more) old next (answered_stays keeps tells faults leaves old next line first here))
          (stays_more keeps tells leaves (IsWithLine more) (IsWithLine (line ∷ more)) (among_later (line ∷ []) more) next new after.stays);
      counted = rose_again _ _ _ here.failures after.failures here.counted after.counted;
    }

-- and of the next one's answer a front, or nothing
record ServedFront {P : Type 0} (keeps : P → Rows → Type 0) (tells : P → Type 0) (faults : P → ℕ) (leaves : P → Rows → Rows → Type 0) (middle new : DeskParts P) (done rest : List (List ℕ)) (front : List ℕ) : Type 0 where
  failures : ℕ
  next : IsFrontOfReply middle.machine done rest front new.machine failures
  stays : Stays keeps tells leaves (IsWithLine rest) middle new
  counted : RoseBy (faults middle.keeper) (faults new.keeper) failures

served_front : {P : Type 0} (keeps : P → Rows → Type 0) (tells : P → Type 0) (faults : P → ℕ) (leaves : P → Rows → Rows → Type 0) (middle new : DeskParts P) (done rest : List (List ℕ)) (front : List ℕ)
    → IsFrontOfNext (AnswersKept keeps tells faults leaves) middle done rest front new → ServedFront keeps tells faults leaves middle new done rest front
served_front keeps tells faults leaves middle new done rest front (inl (none, same)) = record {
  failures = 0;
  next = inl (none, ap (λ (d : DeskParts _). d.machine) same, refl);
  stays = stays_same keeps tells leaves (IsWithLine rest) middle new same;
  counted = rose_none _ _ (ap (λ (d : DeskParts _). faults d.keeper) same);
}
served_front keeps tells faults leaves middle new done rest front (inr (line, more, text, back, is, within, here, parts)) = record {
  failures = here.failures;
  next = front_of_reply middle.machine new.machine line text front back done rest more here.failures here.answered is within parts;
  stays = subst (λ r. Stays keeps tells leaves (IsWithLine r) middle new) (sym is)
      (stays_more keeps tells leaves (IsWithLine (line ∷ [])) (IsWithLine (line ∷ more)) (among_first (line ∷ []) more) middle new (answered_stays keeps tells faults leaves middle new line text here));
  counted = here.counted;
}

-- what is said of the desks at which the loop began and ended, by what was kept, told and counted on the way
abbrev Leads : {P : Type 0} → (P → Rows → Type 0) → (P → Type 0) → (P → ℕ) → (P → Rows → Rows → Type 0) → (Machine → Type 0) → IsKeptBehind → DeskParts P → DeskParts P → Type 0
Leads keeps tells faults leaves Begins Kept start new =
    (all : List (List ℕ)) (failures : ℕ) → Stays keeps tells leaves (IsWithLine all) start new → RoseBy (faults start.keeper) (faults new.keeper) failures → Begins start.machine × Kept all new.machine failures

module _ {P : Type 0} (keeps : P → Rows → Type 0) (tells : P → Type 0) (faults : P → ℕ) (leaves : P → Rows → Rows → Type 0) (Begins : Machine → Type 0) (Kept : IsKeptBehind) (Unopened : Type 0)
    (start new : DeskParts P) (leads : Leads keeps tells faults leaves Begins Kept start new) where
  replies : (all : List (List ℕ)) (text : List ℕ) → AreAnswered (AnswersKept keeps tells faults leaves) start all text new → AreReplies Begins Kept all text
  replies all text one =
      let run = served_lines keeps tells faults leaves start new all text one in
      let led = leads all run.failures run.stays run.counted in
      (start.machine, new.machine, run.failures, led.0, run.run, led.1)

  cut : (bytes : List ℕ) (t u : Option (List ℕ)) → IsCutShort (AnswersKept keeps tells faults leaves) start (lines bytes) t u new
      → GrewBy t u (AreCutReplies Begins Kept Unopened bytes)
  cut bytes t u one =
      let run = served_lines keeps tells faults leaves start one.middle one.done one.text one.answered in
      let end = served_front keeps tells faults leaves one.middle new one.done one.rest one.front one.next in
      let stays = subst (λ all. Stays keeps tells leaves (IsWithLine all) start new) (sym one.all_is)
      (stays_on keeps tells leaves (IsWithLine (one.done ++ one.rest)) start one.middle new
      (stays_more keeps tells leaves (IsWithLine one.done) (IsWithLine (one.done ++ one.rest)) (among_first one.done one.rest) start one.middle run.stays)
      (stays_more keeps tells leaves (IsWithLine one.rest) (IsWithLine (one.done ++ one.rest)) (among_later one.done one.rest) one.middle new end.stays)) in
      let led = leads (lines bytes) (run.failures + end.failures) stays
      (rose_again _ _ _ run.failures end.failures run.counted end.counted) in (
        one.text ++ one.front,
        inr (
          start.machine,
          new.machine,
          run.failures + end.failures,
          led.0,
          record {
            done = one.done;
            rest = one.rest;
            all_is = one.all_is;
            within = one.within;
            whole = one.text;
            middle = one.middle.machine;
            before = run.failures;
            run = run.run;
            front = one.front;
            last = end.failures;
            next = end.next;
            text_is = refl;
            failures_are = refl;
          },
          led.1,
        ),
        one.written,
      )

  -- the last state is the one at which the loop ended
  served : (bytes : List ℕ) (left t u : Option (List ℕ)) (end : End) → Ends (AnswersKept keeps tells faults leaves) start bytes left t u end new
      → EndsRun (AreReplies Begins Kept) (AreCutReplies Begins Kept Unopened) bytes left t u end
  served bytes left t u Done (at_end, within, one) = (at_end, within, (one.text, replies _ one.text one.answered, one.written))
  served bytes left t u ReadFault (read, taken, within, one) = (read, taken, within, (one.text, replies _ one.text one.answered, one.written))
  served bytes left t u WriteFault one = cut bytes t u one
  served bytes left t u Memory one = cut bytes t u one
  served bytes left t u LongLine (done, stops, one) = (done, stops, (one.text, replies done one.text one.answered, one.written))
  served bytes left t u ManyLines (done, stops, one) = (done, stops, (one.text, replies done one.text one.answered, one.written))

-- a run of a desk that was opened over a keeper, and handed it back
pub EndsRun-of : {P : Type 0} (keeps : P → Rows → Type 0) (tells : P → Type 0) (faults : P → ℕ) (leaves : P → Rows → Rows → Type 0) (setup_text : List ℕ) (Unopened : Type 0)
    (keeper last : P) (old left t u : Option (List ℕ)) (end : End) (start new : DeskParts P)
    → ((rows : Rows) → keeps keeper rows → tells start.keeper → IsOpened setup_text rows start.machine)
    → ((rows : Rows) → keeps keeper rows → tells start.keeper → keeps start.keeper (rows_of start.machine))
    → ((rows : Rows) → keeps keeper rows → leaves keeper rows rows → tells start.keeper → LeavesJustIts leaves start.keeper start.machine)
    → faults keeper ≤ faults start.keeper → last ≡ new.keeper → IsTracker start.machine → IsTracker new.machine
    → IfSome old (λ bytes. Ends (AnswersKept keeps tells faults leaves) start bytes left t u end new)
    → IfSome old (λ bytes. EndsRun (AreReplies (BeginsIn keeps tells setup_text keeper last) (HasRowsBehind keeps tells faults leaves keeper last))
    (AreCutReplies (BeginsIn keeps tells setup_text keeper last) (HasRowsBehind keeps tells faults leaves keeper last) Unopened) bytes left t u end)
EndsRun-of keeps tells faults leaves setup_text Unopened keeper last old left t u end start new opened kept just later handed first_tracker last_tracker ends = IfSome_then old ends (λ bytes p.
    served keeps tells faults leaves (BeginsIn keeps tells setup_text keeper last) (HasRowsBehind keeps tells faults leaves keeper last) Unopened start new
    (λ all n stays counted. (
      λ rows is told. opened rows is (stays.told (subst tells handed told)),
      record {
        tracker = last_tracker;
        kept = record {
          rows = λ rows is told. subst (λ k. keeps k (rows_of new.machine)) (sym handed) (stays.rows (kept rows is (stays.told (subst tells handed told))));
          counted = rose_later _ _ _ n later (subst (λ k. RoseBy (faults start.keeper) (faults k) n) (sym handed) counted);
        };
        left = λ rows is left told.
            let told_first = stays.told (subst tells handed told) in
            subst (λ k. LeavesWithOne leaves (IsWithLine all) k new.machine) (sym handed)
            (leaves_with_one leaves (IsWithLine all) start.keeper start.machine new.keeper new.machine (stays.left (kept rows is told_first)) first_tracker (just rows is left told_first));
      },
    ))
    bytes left t u end p)

-- where no desk is opened, the keeper is as it was, or it comes back with its rows
pub stays_unopened : {P : Type 0} (keeps : P → Rows → Type 0) (tells : P → Type 0) (leaves : P → Rows → Rows → Type 0) (setup_text : List ℕ) (keeper : P)
    → StaysUnopened keeps tells leaves setup_text keeper keeper
stays_unopened keeps tells leaves setup_text keeper = record { rows = λ rows has. has; left = λ rows has left told. inl left }

pub unopened_stays : {P : Type 0} (keeps : P → Rows → Type 0) (tells : P → Type 0) (leaves : P → Rows → Rows → Type 0) (setup_text : List ℕ) (old new : P)
    → ((rows : Rows) → keeps old rows → keeps new rows) → ((rows : Rows) → keeps old rows → leaves old rows rows → tells new → LeavesOpened leaves setup_text new rows)
    → StaysUnopened keeps tells leaves setup_text old new
unopened_stays keeps tells leaves setup_text old new same left = record { rows = same; left = left }

-- queries: a reply tells nothing of a state
abbrev pub AnswersQuery : {State : Type 0} → State → List ℕ → List ℕ → State → Type 0
AnswersQuery old line text new = IsReply line text

checked : {State : Type 0} (old : State) (all : List (List ℕ)) (text : List ℕ) (new : State) → AreAnswered AnswersQuery old all text new → AreChecked all text
checked old [] text new (is, same) = is
checked old (line ∷ more) text new (next, first, rest, is, text_is, others) = (first, rest, is, text_is, checked next more rest new others)

front_checked : {State : Type 0} (middle : State) (done rest : List (List ℕ)) (front : List ℕ) (new : State) → IsFrontOfNext AnswersQuery middle done rest front new → IsFrontOfCheck done rest front
front_checked middle done rest front new (inl none) = inl none.0
front_checked middle done rest front new (inr some) = inr some

check_cut : {State : Type 0} (start : State) (bytes : List ℕ) (t u : Option (List ℕ)) (new : State) → IsCutShort AnswersQuery start (lines bytes) t u new → GrewBy t u (AreCutChecks bytes)
check_cut start bytes t u new one = (
  one.text ++ one.front,
  record {
    done = one.done;
    rest = one.rest;
    all_is = one.all_is;
    within = one.within;
    whole = one.text;
    checked = checked start one.done one.text one.middle one.answered;
    front = one.front;
    next = front_checked one.middle one.done one.rest one.front new one.next;
    text_is = refl;
  },
  one.written,
)

pub checks_end : {State : Type 0} (old left t u : Option (List ℕ)) (end : End) (start new : State) →
    IfSome old (λ bytes. Ends AnswersQuery start bytes left t u end new) → IfSome old (λ bytes. EndsRun AreChecked AreCutChecks bytes left t u end)
checks_end old left t u end start new ends = IfSome_then old ends (λ bytes p.
    told AnswersQuery start AreChecked AreCutChecks (checked start) (check_cut start) bytes left t u end new p)

-- nothing was read or written
pub nothing_yet : (Begins : Machine → Type 0) (Kept : IsKeptBehind) (Unopened : Type 0) (left after t : Option (List ℕ)) → Unopened
    → IfSome left (λ bytes. EndsRun (AreReplies Begins Kept) (AreCutReplies Begins Kept Unopened) bytes after t t Memory)
nothing_yet Begins Kept Unopened None after t same = tt
nothing_yet Begins Kept Unopened (Some bytes) after t same = ([], inl (refl, same), Appends-nil t)

none_within : AreWithinLimits []
none_within = record { few = omega arith; short = tt }

nothing_checked : (bytes : List ℕ) → AreCutChecks bytes []
nothing_checked bytes = record {
  done = [];
  rest = lines bytes;
  all_is = refl;
  within = none_within;
  whole = [];
  checked = refl;
  front = [];
  next = inl refl;
  text_is = refl;
}

-- no line was read, whichever the command is
nothing_of : (Begins : Machine → Type 0) (Kept : IsKeptBehind) (Unopened : Type 0) (words : List (List ℕ)) (bytes : List ℕ) → Unopened → IsOfLines words
    → AreCutRepliesOf Begins Kept Unopened words bytes []
nothing_of Begins Kept Unopened words bytes same (inl exec) = inl (exec, inl (refl, same))
nothing_of Begins Kept Unopened words bytes same (inr check) = inr (check, nothing_checked bytes)

pub nothing_read : (Begins : Machine → Type 0) (Kept : IsKeptBehind) (Unopened : Type 0) (words : List (List ℕ)) (left t : Option (List ℕ)) → Unopened → IsOfLines words
    → IfSome left (λ bytes. GrewBy t t (AreCutRepliesOf Begins Kept Unopened words bytes))
nothing_read Begins Kept Unopened words None t same of = tt
nothing_read Begins Kept Unopened words (Some bytes) t same of = ([], nothing_of Begins Kept Unopened words bytes same of, Appends-nil t)

abbrev LongAt : Whole → Option (List ℕ) → Option (List ℕ) → List ℕ → Type 0
LongAt R t s bytes = (done : List (List ℕ)) × StopsAtLong (lines bytes) done × GrewBy t s (R done)

abbrev ManyAt : Whole → Option (List ℕ) → Option (List ℕ) → List ℕ → Type 0
ManyAt R t s bytes = (done : List (List ℕ)) × StopsAtMany (lines bytes) done × GrewBy t s (R done)

-- the limit's text follows
pub long_told : (R : Whole) (left t s u : Option (List ℕ)) → IfSome left (LongAt R t s) → Appends s u limit_line → IfSome left (λ bytes. GrewBy t u (IsLimitText R bytes))
long_told R left t s u ends now = IfSome_then left ends (λ bytes p.
    (p.2.0 ++ limit_line, inl (p.0, p.2.0, p.1, p.2.1, refl), Appends-trans t s u p.2.0 limit_line p.2.2 now))

pub many_told : (R : Whole) (left t s u : Option (List ℕ)) → IfSome left (ManyAt R t s) → Appends s u limit_lines → IfSome left (λ bytes. GrewBy t u (IsLimitText R bytes))
many_told R left t s u ends now = IfSome_then left ends (λ bytes p.
    (p.2.0 ++ limit_lines, inr (p.0, p.2.0, p.1, p.2.1, refl), Appends-trans t s u p.2.0 limit_lines p.2.2 now))

abbrev Front : Option (List ℕ) → Option (List ℕ) → List ℕ → Type 0
Front s u text = (front : List ℕ) × (back : List ℕ) × (text ≡ front ++ back) × Appends s u front

abbrev pub IsCutOrLimit : Whole → Part → Option (List ℕ) → Option (List ℕ) → List ℕ → Type 0
IsCutOrLimit R C t u bytes = GrewBy t u (C bytes) ⊎ GrewBy t u (IsCutLimitText R bytes)

-- or a front of it
pub long_cut : (R : Whole) (C : Part) (left t s u : Option (List ℕ)) → IfSome left (LongAt R t s) → Front s u limit_line → IfSome left (IsCutOrLimit R C t u)
long_cut R C left t s u ends cut = IfSome_then left ends (λ bytes p.
    let text = p.2.0 in
    inr (text ++ cut.0, inl (p.0, p.1, (text, cut.0, cut.1, p.2.1, cut.2, refl)), Appends-trans t s u text cut.0 p.2.2 cut.3))

pub many_cut : (R : Whole) (C : Part) (left t s u : Option (List ℕ)) → IfSome left (ManyAt R t s) → Front s u limit_lines → IfSome left (IsCutOrLimit R C t u)
many_cut R C left t s u ends cut = IfSome_then left ends (λ bytes p.
    let text = p.2.0 in
    inr (text ++ cut.0, inr (p.0, p.1, (text, cut.0, cut.1, p.2.1, cut.2, refl)), Appends-trans t s u text cut.0 p.2.2 cut.3))

pub written_cut : (R : Whole) (C : Part) (left t u : Option (List ℕ)) → IfSome left (λ bytes. GrewBy t u (C bytes)) → IfSome left (IsCutOrLimit R C t u)
written_cut R C left t u ends = IfSome_then left ends (λ bytes p. inl p)

-- how a run ended, where that is told
pub at_end : (R : Whole) (C : Part) (old left t u : Option (List ℕ)) (one other : End) → one ≡ other → IfSome old (λ bytes. EndsRun R C bytes left t u one) → IfSome old (λ bytes. EndsRun R C bytes left t u other)
at_end R C old left t u one other is ends = subst (λ e. IfSome old (λ bytes. EndsRun R C bytes left t u e)) is ends

-- a front of the text on a bad row, where nothing was written before
pub bad_front : (Bad : ℕ → ℕ → Type 0) (fault : OpenFault) (kind number : ℕ) (t s u : Option (List ℕ)) → IsOpenFault Bad fault → fault ≡ BadRow kind number → s ≡ t
    → GrewByFront s u (λ due. due ≡ kept_line kind number) → GrewByFront t u (IsKeptText Bad)
bad_front Bad fault kind number t s u bad is same one =
    (one.0, one.1, (kind, number, subst (IsOpenFault Bad) is bad, one.2), subst (λ o. Appends o u one.0) same one.3)

pub was_all : (all rest bytes : List ℕ) → Consumes (Some all) (Some rest) bytes → IsAtEnd (Some rest) → bytes ≡ all
was_all all rest bytes read end = sym (append-nil bytes) ∙ ap (λ list. bytes ++ list) (sym end) ∙ sym read

-- what was read to its end was the whole input
pub whole_text : (Held : Type 0) (left after : Option (List ℕ)) (bytes text : List ℕ) → Consumes left after bytes → IsAtEnd after → IsInitText Held (Some bytes) text → IsInitText Held left text
whole_text Held None after bytes text read end (inr (inr (is, setup, has))) = inr (inr (is, tt, has))
whole_text Held None after bytes text read end (inl (is, long)) = inl (is, tt)
whole_text Held None after bytes text read end (inr (inl (fault, apart, why, is))) = inr (inl (fault, apart, tt, is))
whole_text Held (Some all) None bytes text read end (inl one) = absurd read
whole_text Held (Some all) None bytes text read end (inr (inl one)) = absurd read
whole_text Held (Some all) None bytes text read end (inr (inr one)) = absurd read
whole_text Held (Some all) (Some rest) bytes text read end (inl (is, long)) =
    inl (is, subst (λ list. setup_limit < length list) (was_all all rest bytes read end) long)
whole_text Held (Some all) (Some rest) bytes text read end (inr (inl (fault, apart, why, is))) =
    inr (inl (fault, apart, subst (λ list. (length list ≤ setup_limit) × Explains list fault) (was_all all rest bytes read end) why, is))
whole_text Held (Some all) (Some rest) bytes text read end (inr (inr (is, setup, has))) =
    inr (inr (is, subst (λ list. (length list ≤ setup_limit) × IsSetup list) (was_all all rest bytes read end) setup, has))
