-- Where nothing outside failed, a command does all, or memory lacked.
use Rattle.std.proofs.Common.{◌≡◌, ◌+◌, ◌<◌, ◌≤◌, ◌++◌, ◌∙◌, ◌⊎◌, ℕ, List, [], ◌∷◌, Option, Some, None, Result, Err, Ok, IfSome, inl, inr, refl, sym, subst, arith}
use Rattle.std.specs.Prelude.{length, map}
use Rattle.std.specs.Io.KnownBytes.{Appends, IsAtEnd}
use Rattle.std.proofs.lemmas.Bool.{cases_eq}
use Rattle.std.proofs.lemmas.List.{length-append}
use Rattle.std.proofs.lemmas.Option.{none-some}
use Rattle.request_lines.specs.Causes.{Rose}
use Rattle.request_lines.specs.Lines.{lines, AreShort, AreWithinLimits, StopsAtLong, StopsAtMany}
use Rattle.field_values.specs.Parts.{Parts}
use Rattle.setup_drafts.specs.declared.fault.SetupFault.{SetupFault}
use Rattle.setup_reading.specs.Reading.{Explains}
use Rattle.tracker_calls.specs.declared.call.Call.{Call}
use Rattle.issue_csv.specs.Reading.{batch_in}
use Rattle.tracker_keeper.specs.Rows.{Rows}
use Rattle.tracker_machine.specs.Machine.{Machine}
use Rattle.tracker_machine.specs.Step.{next_of}
use Rattle.tracker_runs.specs.Run.{Mark, plain, memory, keeper, failures_at, reply_line}
use Rattle.tracker_core.specs.Desk.{HasBadRow, IsOpened}
use Rattle.tracker_import.specs.Calls.{MarkedCall, AreMade, end_of_calls, failures_of, next_under, reply_under, text_of_calls}
use Rattle.tracker_import.specs.Export.{export_text}
use Rattle.tracker_import.specs.Load.{load_summary}
use Rattle.tracker_cli.specs.Outcome.{IsCheck, IsExec, IsCommand, IsExport, IsGenerate, IsImport, IsInit, AreChecked, AreCutRepliesOf, AreRepliesOf, BeginsIn, GrewBy, HasRowsBehind, HasItsRows, HasSomeRow, InitEnd, IsCreated, IsLimitText, IsSetup, IsSetupText, LinesEnd, StaysUnopened, UsageEnd, setup_limit, usage}
use Rattle.tracker_cli.specs.Commands.{AreImported, AreCutImported, ExportedEnd, GeneratedEnd, ImportedEnd, IsBegun, IsExported, IsGenerated, IsRecordText, IsWholeImport, Stands, import_limit}
use Rattle.tracker_cli.specs.Texts.{load_line}
use Rattle.run_laws.specs.Twice.{Had}
use Rattle.run_laws.specs.Whole.{NoneFailed}
use Rattle.run_laws.proofs.Opened.{opened_one}
use Rattle.run_laws.proofs.Twice.{not_both}
use Rattle.whole_laws.specs.Commands.{AllAreChecked, AllAreImported, AllIsExported, AllIsLoaded, AreAnswered, GrewByAnswers, IsDone, IsMade, NoneIsRefused, UsageIsTold}
use Rattle.whole_laws.proofs.Counts.{no_bad, none_failed, not_none, one_new}

-- ---- limits

short_there : (done : List (List ℕ)) (long : List ℕ) (rest : List (List ℕ)) → AreShort (done ++ long ∷ rest) → length long ≤ 65536
short_there [] long rest short = short.0
short_there (line ∷ done) long rest short = short_there done long rest short.1

not_long : (all done : List (List ℕ)) → AreWithinLimits all → StopsAtLong all done → ⊥
not_long all done within stops =
    let short = short_there done stops.long stops.rest (subst AreShort stops.all_is within.short) in
    let long = stops.is_long in
    omega (arith, short, long)

not_many : (all done : List (List ℕ)) → AreWithinLimits all → StopsAtMany all done → ⊥
not_many all done within stops =
    let few : length (done ++ stops.rest) ≤ 1000000 = subst (λ ls. length ls ≤ 1000000) stops.all_is within.few in
    let both : length (done ++ stops.rest) ≡ length done + length stops.rest = length-append done stops.rest in
    let more = stops.more in
    let many = stops.many in
    omega (arith, few, both, more, many)

no_limit : (Replies : List (List ℕ) → List ℕ → Type 0) (bytes text : List ℕ) → AreWithinLimits (lines bytes) → IsLimitText Replies bytes text → ⊥
no_limit Replies bytes text within (inl (done, whole, stops, replies, is)) = not_long (lines bytes) done within stops
no_limit Replies bytes text within (inr (done, whole, stops, replies, is)) = not_many (lines bytes) done within stops

-- an input that is within its limit isn't longer
too_long : (left : Option (List ℕ)) (input : List ℕ) (most : ℕ) → left ≡ Some input → length input ≤ most → IfSome left (λ bytes. most < length bytes) → ⊥
too_long left input most is short long =
    let there : most < length input = subst (λ o. IfSome o (λ bytes. most < length bytes)) is long in
    omega (arith, short, there)

-- nothing is both read and refused
not_both_ways : (fault : SetupFault) (setup : Parts) → ◌≡◌ {A = Result Parts SetupFault} (Ok setup) (Err fault) → ⊥
not_both_ways fault setup is = absurd (cc)

-- ---- statuses

-- of up to nine statuses all but 0 and 6 are ruled out
zero_or_six : (status : ℕ) → status ≤ 9 → ¬ (status ≡ 1) → ¬ (status ≡ 2) → ¬ (status ≡ 3) → ¬ (status ≡ 4) → ¬ (status ≡ 5) → ¬ (status ≡ 7) → ¬ (status ≡ 8) → ¬ (status ≡ 9)
    → (status ≡ 6) ⊎ (status ≡ 0)
zero_or_six status most one two three four five seven eight nine = by (cases_eq status 0) (cases_eq status 6)
  where
    by : (status ≡ 0) ⊎ (status ≡ 0 → ⊥) → (status ≡ 6) ⊎ (status ≡ 6 → ⊥) → (status ≡ 6) ⊎ (status ≡ 0)
    by (inl zero) other = inr zero
    by (inr some) (inl six) = inl six
    by (inr some) (inr other) = absurd (omega (arith, most, one, two, three, four, five, seven, eight, nine, some, other))

done_by : (status : ℕ) (Done : Type 0) → (status ≡ 0 → Done) → (status ≡ 6) ⊎ (status ≡ 0) → IsDone status Done
done_by status Done done (inl six) = inl six
done_by status Done done (inr zero) = inr (zero, done zero)

above : (status most number : ℕ) → status ≤ most → most < number → ¬ (status ≡ number)
above status most number small less is = omega (arith, small, less, is)

-- ---- calls

answered_at : (user : List ℕ) (m : Machine) (c : Call) (mark : Mark) (xs : List MarkedCall) → failures_at mark + failures_of xs ≡ 0
    → ((n : Machine) → failures_of xs ≡ 0 → AreAnswered user n (map (λ x. x.call) xs) (text_of_calls n user xs) (end_of_calls n user xs))
    → AreAnswered user m (c ∷ map (λ x. x.call) xs) (reply_line (reply_under mark m user c) ++ text_of_calls (next_under mark m user c) user xs) (end_of_calls (next_under mark m user c) user xs)
answered_at user m c plain xs none rest = inl (text_of_calls (next_of m user c) user xs, refl, rest (next_of m user c) (omega (arith, none)))
answered_at user m c memory xs none rest = inr (text_of_calls m user xs, refl, rest m (omega (arith, none)))
answered_at user m c keeper xs none rest = absurd (omega (arith, none))

answered_calls : (user : List ℕ) (marked : List MarkedCall) (m : Machine) → failures_of marked ≡ 0 → AreAnswered user m (map (λ x. x.call) marked) (text_of_calls m user marked) (end_of_calls m user marked)
answered_calls user [] m none = (refl, refl)
answered_calls user (x ∷ xs) m none = answered_at user m x.call x.mark xs none (λ n rest. answered_calls user xs n rest)

answered : (user : List ℕ) (m last : Machine) (calls : List Call) (text : List ℕ) (failures : ℕ) → failures ≡ 0 → AreMade user m calls text last failures → AreAnswered user m calls text last
answered user m last calls text failures none made =
    subst (λ cs. AreAnswered user m cs text last) made.calls_are
    (subst (λ t. AreAnswered user m (map (λ x. x.call) made.marked) t last) (sym made.text_is)
    (subst (λ (n : Machine). AreAnswered user m (map (λ x. x.call) made.marked) (text_of_calls m user made.marked) n) (sym made.new_is)
    (answered_calls user made.marked m (sym made.failures_are ∙ none))))

-- ---- words that are no command's

pub usage_is_told : (words : List (List ℕ)) (status : ℕ) (old new : Option (List ℕ)) (reads_before reads_now writes_before writes_now keeps_before keeps_now : ℕ)
    → (status ≡ 3 → Rose writes_before writes_now) → (¬ (IsCommand words) → UsageEnd status old new)
    → UsageIsTold (NoneFailed reads_before reads_now writes_before writes_now keeps_before keeps_now) words status old new
usage_is_told words status old new reads_before reads_now writes_before writes_now keeps_before keeps_now written ends other none = by end.statuses
  where
    end : UsageEnd status old new
    end = ends other

    by : (status ≡ 1) ⊎ (status ≡ 3) ⊎ (status ≡ 6) → (status ≡ 6) ⊎ ((status ≡ 1) × Appends old new usage)
    by (inl one) = inr (one, end.told one)
    by (inr (inl three)) = absurd (none.written (written three))
    by (inr (inr six)) = inl six

-- ---- a keeper that didn't fail

pub none_is_refused : {P : Type 0} (keeps : P → Rows → Type 0) (tells : P → Type 0) (faults : P → ℕ) (leaves : P → Rows → Rows → Type 0) (old_keeper new_keeper : P) (status : ℕ)
    → (status ≡ 4 → Rose (faults old_keeper) (faults new_keeper))
    → NoneIsRefused (faults old_keeper) (faults new_keeper) status (HasRowsBehind keeps tells faults leaves old_keeper new_keeper)
none_is_refused keeps tells faults leaves old_keeper new_keeper status kept none = (
  λ four. none (kept four),
  λ all m failures behind. none_failed (faults old_keeper) (faults new_keeper) failures none behind.kept.counted,
)

-- ---- a run

-- what is told of a fault of the outside
pub record AreCaused (status reads_before reads_now writes_before writes_now keeps_before keeps_now : ℕ) : Type 0 where
  pub read : status ≡ 2 → Rose reads_before reads_now
  pub written : status ≡ 3 → Rose writes_before writes_now
  pub kept : status ≡ 4 → Rose keeps_before keeps_now

module _ {P : Type 0} (keeps : P → Rows → Type 0) (tells : P → Type 0) (faults : P → ℕ) (leaves : P → Rows → Rows → Type 0) (setup_text : List ℕ) (old_keeper new_keeper : P)
    (words : List (List ℕ)) (status : ℕ) (left after old new : Option (List ℕ))
    (reads_before reads_now writes_before writes_now : ℕ)
    (caused : AreCaused status reads_before reads_now writes_before writes_now (faults old_keeper) (faults new_keeper)) where
  abbrev Unfailing : Type 0
  Unfailing = NoneFailed reads_before reads_now writes_before writes_now (faults old_keeper) (faults new_keeper)

  abbrev Have : Rows → Type 0
  Have = Had keeps tells old_keeper new_keeper

  no_two : Unfailing → ¬ (status ≡ 2)
  no_two none two = none.read (caused.read two)

  no_three : Unfailing → ¬ (status ≡ 3)
  no_three none three = none.written (caused.written three)

  no_four : Unfailing → ¬ (status ≡ 4)
  no_four none four = none.kept (caused.kept four)

  -- where a row is told as bad, there is none
  good : (rows : Rows) (m : Machine) (kind number : ℕ) → Have rows → IsOpened setup_text rows m → HasBadRow keeps tells old_keeper new_keeper kind number → ⊥
  good rows m kind number had opened bad = no_bad setup_text rows m kind number opened (bad rows had.kept had.told)

  -- the run began in this tracker
  began : (rows : Rows) (m start : Machine) → Have rows → IsOpened setup_text rows m → BeginsIn keeps tells setup_text old_keeper new_keeper start → start ≡ m
  began rows m start had opened begins = opened_one setup_text rows start m (begins rows had.kept had.told) opened

  -- ---- by command

  abbrev Kept : List (List ℕ) → Machine → ℕ → Type 0
  Kept = HasRowsBehind keeps tells faults leaves old_keeper new_keeper

  abbrev Replies : List (List ℕ) → List ℕ → Type 0
  Replies = AreRepliesOf (BeginsIn keeps tells setup_text old_keeper new_keeper) Kept words

  abbrev Unopened : Type 0
  Unopened = StaysUnopened keeps tells leaves setup_text old_keeper new_keeper

  abbrev Cut : List ℕ → List ℕ → Type 0
  Cut = AreCutRepliesOf (BeginsIn keeps tells setup_text old_keeper new_keeper) Kept Unopened words

  abbrev Ends : Type 0
  Ends = LinesEnd Replies Cut (IsExec words) Unopened (HasBadRow keeps tells old_keeper new_keeper) status left after old new

  checked : (all : List (List ℕ)) (text : List ℕ) → IsCheck words → Replies all text → AreChecked all text
  checked all text is (inl exec) = absurd (not_both words exec.0 is)
  checked all text is (inr check) = check.1

  pub all_are_checked : (IsCheck words → Ends) → AllAreChecked Unfailing words status left old new
  all_are_checked ends input is left_is within none =
      done_by status (GrewBy old new (AreChecked (lines input))) done
      (zero_or_six status nine one (no_two none) (no_three none) (no_four none) five seven (above status 7 8 most (omega arith)) (above status 7 9 most (omega arith)))
    where
      end : Ends
      end = ends is

      most : status ≤ 7
      most = end.statuses.0

      nine : status ≤ 9
      nine = let small = most in omega (arith, small)

      one : ¬ (status ≡ 1)
      one = end.statuses.1

      five : ¬ (status ≡ 5)
      five is_five = not_both words (end.opens (inr is_five)) is

      seven : ¬ (status ≡ 7)
      seven is_seven =
          let due : GrewBy old new (IsLimitText Replies input) = subst (λ o. IfSome o (λ bytes. GrewBy old new (IsLimitText Replies bytes))) left_is (end.limit is_seven) in
          no_limit Replies input due.0 within due.1

      done : status ≡ 0 → GrewBy old new (AreChecked (lines input))
      done zero =
          let due : IsAtEnd after × AreWithinLimits (lines input) × GrewBy old new (Replies (lines input)) =
          subst (λ o. IfSome o (λ bytes. IsAtEnd after × AreWithinLimits (lines bytes) × GrewBy old new (Replies (lines bytes)))) left_is (end.done zero) in
          (due.2.0, checked (lines input) due.2.0 is due.2.1, due.2.2)

  abbrev Inited : Type 0
  Inited = InitEnd (IsCreated keeps tells old_keeper new_keeper) (HasItsRows keeps old_keeper new_keeper) (HasSomeRow keeps tells old_keeper new_keeper) status left after old new

  -- what is a setup has no fault
  no_fault : (input text : List ℕ) → IsSetup input → left ≡ Some input → IsSetupText left text → ⊥
  no_fault input text setup left_is (fault, other, due, is) =
      let there : (length input ≤ setup_limit) × Explains input fault = subst (λ o. IfSome o (λ bytes. (length bytes ≤ setup_limit) × Explains bytes fault)) left_is due in
      not_both_ways fault setup.setup (sym setup.reads ∙ there.1.as_text other setup.is_text)

  pub is_made : (IsInit words → Inited) → IsMade Have Unfailing words status left old new
  is_made ends input rows is left_is short setup had no_row none =
      done_by status (new ≡ old) (λ zero. (end.done zero).0)
      (zero_or_six status end.statuses.0 end.statuses.1 (no_two none) (no_three none) (no_four none) end.statuses.2
      (λ seven. too_long left input setup_limit left_is short (end.limit seven).1)
      (λ eight. let due = end.setup eight in no_fault input due.0.0 setup left_is due.0.1)
      (λ nine. not_none rows no_row ((end.held_is nine).2 rows had.kept had.told)))
    where
      end : Inited
      end = ends is

  abbrev Exported : Type 0
  Exported = ExportedEnd (IsExported keeps tells faults setup_text old_keeper new_keeper) (HasItsRows keeps old_keeper new_keeper) (HasBadRow keeps tells old_keeper new_keeper) status left after old new

  pub all_is_exported : (IsExport words → Exported) → AllIsExported Have Unfailing setup_text words status old new
  all_is_exported ends rows m is had opened none =
      done_by status (Appends old new (export_text m)) done
      (zero_or_six status nine end.statuses.1 end.statuses.2 (no_three none) (no_four none)
      (λ five. let bad = (end.bad five).0 in good rows m bad.1.0 bad.1.1 had opened bad.1.2)
      (above status 6 7 most (omega arith)) (above status 6 8 most (omega arith)) (above status 6 9 most (omega arith)))
    where
      end : Exported
      end = ends is

      most : status ≤ 6
      most = end.statuses.0

      nine : status ≤ 9
      nine = let small = most in omega (arith, small)

      done : status ≡ 0 → Appends old new (export_text m)
      done zero =
          let due = end.done zero in
          let same : due.1.0 ≡ m = began rows m due.1.0 had opened due.1.1 in
          subst (λ (n : Machine). Appends old new (export_text n)) same (subst (Appends old new) due.1.3 due.2)

  module _ (user : List ℕ) where
    abbrev Made : List Call → List ℕ → Type 0
    Made = AreImported keeps tells faults setup_text old_keeper new_keeper user

    abbrev Imported : Type 0
    Imported = ImportedEnd Made (AreCutImported keeps tells faults setup_text old_keeper new_keeper user) (Stands keeps tells faults setup_text old_keeper new_keeper)
        (HasItsRows keeps old_keeper new_keeper) (HasBadRow keeps tells old_keeper new_keeper) status left after old new

    made_answered : (rows : Rows) (m : Machine) (calls : List Call) → Have rows → IsOpened setup_text rows m → ¬ (Rose (faults old_keeper) (faults new_keeper)) → GrewBy old new (Made calls) → GrewByAnswers user m calls old new
    made_answered rows m calls had opened none (text, (start, last, failures, begins, made, kept), appends) =
        let same : start ≡ m = began rows m start had opened begins in
        let no_failure : failures ≡ 0 = none_failed (faults old_keeper) (faults new_keeper) failures none kept.counted in
        (text, last, subst (λ (n : Machine). AreAnswered user n calls text last) same (answered user start last calls text failures no_failure made), appends)

    module _ (input : List ℕ) (end : Imported) (left_is : left ≡ Some input) where
      not_bad_record : (batch_in input).bad ≡ None → ¬ (status ≡ 8)
      not_bad_record no_bad_one eight =
          let due = subst (λ o. IfSome o (λ bytes. (length bytes ≤ import_limit) × GrewBy old new (IsRecordText Made bytes))) left_is (end.record_is eight) in
          none-some due.1.1.0 (sym no_bad_one ∙ due.1.1.2)

      done_import : (rows : Rows) (m : Machine) → Have rows → IsOpened setup_text rows m → ¬ (Rose (faults old_keeper) (faults new_keeper)) → status ≡ 0 → GrewByAnswers user m (batch_in input).calls old new
      done_import rows m had opened none zero =
          let due : IsAtEnd after × (length input ≤ import_limit) × IsWholeImport Made old new input =
          subst (λ o. IfSome o (λ bytes. IsAtEnd after × (length bytes ≤ import_limit) × IsWholeImport Made old new bytes)) left_is (end.done zero) in
          made_answered rows m (batch_in input).calls had opened none due.2.1

  pub all_are_imported : ((user : List ℕ) → IsImport words user → Imported user) → AllAreImported Have Unfailing setup_text words status left old new
  all_are_imported ends user input rows m is left_is short no_bad_one had opened none =
      done_by status (GrewByAnswers user m (batch_in input).calls old new) (done_import user input end left_is rows m had opened none.kept)
      (zero_or_six status nine end.statuses.1 (no_two none) (no_three none) (no_four none)
      (λ five. let bad = (end.bad five).0 in good rows m bad.1.0 bad.1.1 had opened bad.1.2)
      (λ seven. too_long left input import_limit left_is short (end.limit seven).1)
      (not_bad_record user input end left_is no_bad_one) (above status 8 9 most (omega arith)))
    where
      end : Imported user
      end = ends user is

      most : status ≤ 8
      most = end.statuses.0

      nine : status ≤ 9
      nine = let small = most in omega (arith, small)

  module _ (n : ℕ) where
    abbrev Generated : Type 0
    Generated = GeneratedEnd (IsGenerated keeps tells faults setup_text old_keeper new_keeper n) (IsBegun keeps tells faults setup_text old_keeper new_keeper n)
        (HasItsRows keeps old_keeper new_keeper) (HasSomeRow keeps tells old_keeper new_keeper) status left after old new

  pub all_is_loaded : ((n : ℕ) → IsGenerate words n → Generated n) → AllIsLoaded Have Unfailing setup_text words status old new
  all_is_loaded ends n rows m is had no_row new_is none = by end.statuses
    where
      end : Generated n
      end = ends n is

      by : (status ≡ 0) ⊎ (status ≡ 3) ⊎ (status ≡ 4) ⊎ (status ≡ 6) ⊎ (status ≡ 9) → IsDone status (Appends old new (load_line (load_summary n m)))
      by (inl zero) =
          let due = end.done zero in
          let same : due.1.start ≡ m = one_new setup_text due.1.start m due.1.begins new_is in
          inr (zero, subst (λ (k : Machine). Appends old new (load_line (load_summary n k))) same (subst (Appends old new) due.1.text_is due.2))
      by (inr (inl three)) = absurd (no_three none three)
      by (inr (inr (inl four))) = absurd (no_four none four)
      by (inr (inr (inr (inl six)))) = inl six
      by (inr (inr (inr (inr nine)))) = absurd (not_none rows no_row ((end.held_is nine).1 rows had.kept had.told))
