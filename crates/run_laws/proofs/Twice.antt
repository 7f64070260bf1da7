-- Two runs that are done, from what each run says.
use Rattle.std.proofs.Common.{◌≡◌, ◌++◌, ℕ, Bool, true, false, List, [], ◌∷◌, codes, Option, Some, None, IfSome, inl, inr, refl, sym, ◌∙◌, ap, subst}
use Rattle.std.specs.Str.{bytes_eq}
use Rattle.std.specs.Io.KnownBytes.{Appends, IsAtEnd}
use Rattle.std.proofs.lemmas.Bool.{true≢false}
use Rattle.std.proofs.lemmas.Option.{same_Some}
use Rattle.request_lines.specs.Lines.{lines, AreWithinLimits}
use Rattle.tracker_keeper.specs.Rows.{Rows}
use Rattle.tracker_machine.specs.Machine.{Machine}
use Rattle.tracker_runs.specs.Run.{IsRun, requests}
use Rattle.tracker_core.specs.Desk.{IsOpened}
use Rattle.tracker_cli.specs.Outcome.{IsExec, IsCheck, BeginsIn, IsKeptBehind, AreRepliesOf, GrewBy}
use Rattle.tracker_sight.specs.Outputs.{lines_told, DifferInHidden, TellNoFault}
use Rattle.tracker_sight.proofs.Outputs.{outputs_tell_the_same}
use Rattle.run_laws.specs.Twice.{IsDone, Had, TellTheSame}
use Rattle.run_laws.proofs.Opened.{opened_one, opened_has_ranks}

-- ---- one run

-- the text of an output is the replies to the input from a tracker that was opened
pub record Ran (m : Machine) (input output : List ℕ) : Type 0 where
  pub last : Machine
  pub failures : ℕ
  pub run : IsRun m (requests (lines input)) output last failures

abbrev names_exec : List (List ℕ) → Bool
names_exec [] = false
names_exec (word ∷ words) = bytes_eq word (codes "exec")

pub not_both : (words : List (List ℕ)) → IsExec words → IsCheck words → ⊥
not_both words exec check = true≢false (ap names_exec (sym exec ∙ check))

all_told : (old new : Option (List ℕ)) (text output : List ℕ) → old ≡ Some [] → new ≡ Some output → Appends old new text → output ≡ text
all_told old new text output is_old is_new appends = subst (λ o. Appends o (Some output) text) is_old (subst (λ o. Appends old o text) is_new appends)

module _ {P : Type 0} (keeps : P → Rows → Type 0) (tells : P → Type 0) (setup_text : List ℕ) (old_keeper new_keeper : P) (Kept : IsKeptBehind) (words : List (List ℕ))
    (after old new : Option (List ℕ)) where
  -- the text is what the command replies to these lines
  abbrev Replies : List (List ℕ) → List ℕ → Type 0
  Replies = AreRepliesOf (BeginsIn keeps tells setup_text old_keeper new_keeper) Kept words

  abbrev Due : List ℕ → Type 0
  Due bytes = IsAtEnd after × AreWithinLimits (lines bytes) × GrewBy old new (Replies (lines bytes))

  module _ (input output : List ℕ) (rows : Rows) (m : Machine) (had : Had keeps tells old_keeper new_keeper rows) (opened : IsOpened setup_text rows m) where
    of_text : (text : List ℕ) → old ≡ Some [] → new ≡ Some output → IsExec words → Replies (lines input) text → Appends old new text → Ran m input output
    of_text text before output_is is (inr check) appends = absurd (not_both words is check.0)
    of_text text before output_is is (inl (exec, (start, last, failures, begins, run, kept))) appends =
        let same : start ≡ m = opened_one setup_text rows start m (begins rows had.kept had.told) opened in
        record {
          last = last;
          failures = failures;
          run = subst (λ t. IsRun m (requests (lines input)) t last failures) (sym (all_told old new text output before output_is appends))
              (subst (λ (n : Machine). IsRun n (requests (lines input)) text last failures) same run);
        }

    pub ran : (status : ℕ) (left : Option (List ℕ)) → (status ≡ 0 → IfSome left Due) → IsDone words status left old new input output → Ran m input output
    ran status left ends done =
        let due : Due input = subst (λ o. IfSome o Due) done.input_is (ends done.done) in
        of_text due.2.0 done.before done.output_is done.exec due.2.1 due.2.2

-- ---- two runs

pub told_alike : (setup_text : List ℕ) (words : List (List ℕ)) (status other_status : ℕ) (left old new other_left other_old other_new : Option (List ℕ)) (Have OtherHave : Rows → Type 0)
    → ((input output : List ℕ) (rows : Rows) (m : Machine) → IsDone words status left old new input output → Have rows → IsOpened setup_text rows m → Ran m input output)
    → ((input output : List ℕ) (rows : Rows) (m : Machine) → IsDone words other_status other_left other_old other_new input output → OtherHave rows → IsOpened setup_text rows m → Ran m input output)
    → TellTheSame (IsDone words status left old new) (IsDone words other_status other_left other_old other_new) Have OtherHave setup_text
told_alike setup_text words status other_status left old new other_left other_old other_new Have OtherHave runs other_runs user input output other other_output rows m done other_done have other_have opened differ =
    let one = runs input output rows m done have opened in
    let two = other_runs other other_output rows m other_done other_have opened in
    outputs_tell_the_same m one.last two.last user input other output other_output one.failures two.failures (opened_has_ranks setup_text rows m opened) differ one.run two.run done.well other_done.well
