-- Where nothing outside failed, a run answers all lines, or memory lacked.
use Rattle.std.proofs.Common.{◌≡◌, ◌≢◌, ◌+◌, ◌<◌, ◌≤◌, ◌++◌, ◌∙◌, ◌⊎◌, ℕ, List, [], ◌∷◌, Option, Some, None, IfSome, inl, inr, refl, sym, ap, subst, arith}
use Rattle.std.specs.Prelude.{length, map}
use Rattle.std.specs.Io.KnownBytes.{Appends, IsAtEnd}
use Rattle.std.proofs.lemmas.Bool.{cases_eq}
use Rattle.std.proofs.lemmas.List.{length-append}
use Rattle.std.proofs.lemmas.Option.{none-some}
use Rattle.request_lines.specs.Causes.{Rose}
use Rattle.request_lines.specs.Lines.{lines, AreShort, AreWithinLimits, StopsAtLong, StopsAtMany}
use Rattle.tracker_keeper.specs.Rows.{Rows, IsListing}
use Rattle.tracker_machine.specs.Machine.{Machine}
use Rattle.tracker_import.specs.Calls.{RoseBy}
use Rattle.tracker_rows.specs.Loading.{IsFirstBad}
use Rattle.tracker_rows.proofs.Verdicts.{loaded_have_no_bad}
use Rattle.tracker_runs.specs.Run.{Mark, plain, memory, keeper, Marked, IsRun, asked_next, end_of_run, failures_at, failures_in, marked_next, marked_reply, reply_line, requests, text_of_run}
use Rattle.call_lines.specs.Asked.{line_of}
use Rattle.tracker_core.specs.Desk.{IsBadIn, IsOpened, HasBadRow}
use Rattle.tracker_cli.specs.Outcome.{IsExec, BeginsIn, HasRowsBehind, AreRepliesOf, AreCutRepliesOf, IsLimitText, GrewBy, LinesEnd, StaysUnopened}
use Rattle.run_laws.specs.Twice.{Had}
use Rattle.run_laws.specs.Whole.{AllAreAnswered, AreAnswered, EndsWhole, NoneFailed}
use Rattle.run_laws.proofs.Listings.{one_listing}
use Rattle.run_laws.proofs.Opened.{opened_one}
use Rattle.run_laws.proofs.Twice.{not_both}

-- ---- counts

-- a count that didn't rise rose by none
none_failed : (before now failures : ℕ) → ¬ (Rose before now) → RoseBy before now failures → failures ≡ 0
none_failed before now failures none rose = by (cases_eq failures 0)
  where
    by : (failures ≡ 0) ⊎ (failures ≡ 0 → ⊥) → failures ≡ 0
    by (inl zero) = zero
    by (inr some) = absurd (none (omega (arith, rose, some)))

-- ---- limits

short_there : (done : List (List ℕ)) (long : List ℕ) (rest : List (List ℕ)) → AreShort (done ++ long ∷ rest) → length long ≤ 65536
short_there [] long rest short = short.0
short_there (line ∷ done) long rest short = short_there done long rest short.1

not_long : (all done : List (List ℕ)) → AreWithinLimits all → StopsAtLong all done → ⊥
not_long all done within stops =
    let short = short_there done stops.long stops.rest (subst AreShort stops.all_is within.short) in
    let long = stops.is_long in
    omega (arith, short, long)

not_many : (all done : List (List ℕ)) → AreWithinLimits all → StopsAtMany all done → ⊥
not_many all done within stops =
    let few : length (done ++ stops.rest) ≤ 1000000 = subst (λ ls. length ls ≤ 1000000) stops.all_is within.few in
    let both : length (done ++ stops.rest) ≡ length done + length stops.rest = length-append done stops.rest in
    let more = stops.more in
    let many = stops.many in
    omega (arith, few, both, more, many)

no_limit : (Replies : List (List ℕ) → List ℕ → Type 0) (bytes text : List ℕ) → AreWithinLimits (lines bytes) → IsLimitText Replies bytes text → ⊥
no_limit Replies bytes text within (inl (done, whole, stops, replies, is)) = not_long (lines bytes) done within stops
no_limit Replies bytes text within (inr (done, whole, stops, replies, is)) = not_many (lines bytes) done within stops

-- ---- rows

no_bad : (setup_text : List ℕ) (rows : Rows) (m : Machine) (kind number : ℕ) → IsOpened setup_text rows m → IsBadIn rows kind number → ⊥
no_bad setup_text rows m kind number (inl (list, is, (format, loads))) (some, (other, is_too, bad)) =
    loaded_have_no_bad format list m kind number loads (subst (λ l. IsFirstBad l kind number) (sym (one_listing rows list other is is_too)) bad)
no_bad setup_text rows m kind number (inr (none, new)) ((at_kind, at, body, there), rest) =
    none-some body (sym (none at_kind at) ∙ there)

-- ---- answers

answered_at : (m : Machine) (line : List ℕ) (mark : Mark) (xs : List Marked) → failures_at mark + failures_in xs ≡ 0
    → ((n : Machine) → failures_in xs ≡ 0 → AreAnswered n (map (λ x. x.line) xs) (text_of_run n xs) (end_of_run n xs))
    → AreAnswered m (line ∷ map (λ x. x.line) xs) (reply_line (marked_reply m line mark) ++ text_of_run (marked_next m line mark) xs) (end_of_run (marked_next m line mark) xs)
answered_at m line plain xs none rest = inl (text_of_run (asked_next m (line_of line)) xs, refl, rest (asked_next m (line_of line)) (omega (arith, none)))
answered_at m line memory xs none rest = inr (text_of_run m xs, refl, rest m (omega (arith, none)))
answered_at m line keeper xs none rest = absurd (omega (arith, none))

answered_run : (marked : List Marked) (m : Machine) → failures_in marked ≡ 0 → AreAnswered m (map (λ x. x.line) marked) (text_of_run m marked) (end_of_run m marked)
answered_run [] m none = (refl, refl)
answered_run (x ∷ xs) m none = answered_at m x.line x.mark xs none (λ n rest. answered_run xs n rest)

answered : (m last : Machine) (all : List (List ℕ)) (text : List ℕ) (failures : ℕ) → failures ≡ 0 → IsRun m all text last failures → AreAnswered m all text last
answered m last all text failures none run =
    subst (λ ls. AreAnswered m ls text last) run.lines_are
    (subst (λ t. AreAnswered m (map (λ x. x.line) run.marked) t last) (sym run.text_is)
    (subst (λ (n : Machine). AreAnswered m (map (λ x. x.line) run.marked) (text_of_run m run.marked) n) (sym run.new_is)
    (answered_run run.marked m (sym run.failures_are ∙ none))))

-- ---- a run

ends_so : (status : ℕ) → (status ≤ 7) × (status ≢ 1) → ¬ (status ≡ 2) → ¬ (status ≡ 3) → ¬ (status ≡ 4) → ¬ (status ≡ 5) → ¬ (status ≡ 7) → (status ≡ 6) ⊎ (status ≡ 0)
ends_so status in_range two three four five seven = by (cases_eq status 0) (cases_eq status 6)
  where
    by : (status ≡ 0) ⊎ (status ≡ 0 → ⊥) → (status ≡ 6) ⊎ (status ≡ 6 → ⊥) → (status ≡ 6) ⊎ (status ≡ 0)
    by (inl zero) other = inr zero
    by (inr some) (inl six) = inl six
    by (inr some) (inr other) = let most = in_range.0 in let one = in_range.1 in absurd (omega (arith, most, one, two, three, four, five, seven, some, other))

module _ {P : Type 0} (keeps : P → Rows → Type 0) (tells : P → Type 0) (faults : P → ℕ) (leaves : P → Rows → Rows → Type 0) (setup_text : List ℕ) (old_keeper new_keeper : P)
    (words : List (List ℕ)) (status : ℕ) (left after old new : Option (List ℕ)) where
  abbrev Kept : List (List ℕ) → Machine → ℕ → Type 0
  Kept = HasRowsBehind keeps tells faults leaves old_keeper new_keeper

  abbrev Replies : List (List ℕ) → List ℕ → Type 0
  Replies = AreRepliesOf (BeginsIn keeps tells setup_text old_keeper new_keeper) Kept words

  abbrev Unopened : Type 0
  Unopened = StaysUnopened keeps tells leaves setup_text old_keeper new_keeper

  abbrev Cut : List ℕ → List ℕ → Type 0
  Cut = AreCutRepliesOf (BeginsIn keeps tells setup_text old_keeper new_keeper) Kept Unopened words

  abbrev Ends : Type 0
  Ends = LinesEnd Replies Cut (IsExec words) Unopened (HasBadRow keeps tells old_keeper new_keeper) status left after old new

  -- what is told of a fault of the outside
  pub record AreCaused (reads_before reads_now writes_before writes_now : ℕ) : Type 0 where
    pub read : status ≡ 2 → Rose reads_before reads_now
    pub written : status ≡ 3 → Rose writes_before writes_now
    pub kept : status ≡ 4 → Rose (faults old_keeper) (faults new_keeper)

  replies_answered : (input text : List ℕ) (rows : Rows) (m : Machine) → IsExec words → Had keeps tells old_keeper new_keeper rows → IsOpened setup_text rows m
      → ¬ (Rose (faults old_keeper) (faults new_keeper)) → Replies (lines input) text → Appends old new text → AllAreAnswered m (requests (lines input)) old new
  replies_answered input text rows m exec had opened none (inr check) appends = absurd (not_both words exec check.0)
  replies_answered input text rows m exec had opened none (inl (is, (start, last, failures, begins, run, kept))) appends =
      let same : start ≡ m = opened_one setup_text rows start m (begins rows had.kept had.told) opened in
      let no_failure : failures ≡ 0 = none_failed (faults old_keeper) (faults new_keeper) failures none kept.kept.counted in (
        text,
        last,
        subst (λ (n : Machine). AreAnswered n (requests (lines input)) text last) same (answered start last (requests (lines input)) text failures no_failure run),
        appends,
      )

  pub ends_whole : (reads_before reads_now writes_before writes_now : ℕ) → (IsExec words → Ends) → AreCaused reads_before reads_now writes_before writes_now
      → EndsWhole (Had keeps tells old_keeper new_keeper) (NoneFailed reads_before reads_now writes_before writes_now (faults old_keeper) (faults new_keeper)) setup_text words status left old new
  ends_whole reads_before reads_now writes_before writes_now ends caused input rows m exec left_is within had opened none =
      by (ends_so status end.statuses (λ two. none.read (caused.read two)) (λ three. none.written (caused.written three)) (λ four. none.kept (caused.kept four)) good unlimited)
    where
      end : Ends
      end = ends exec

      good : ¬ (status ≡ 5)
      good five =
          let told = (end.bad five).0.1 in
          no_bad setup_text rows m told.0 told.1 opened (told.2 rows had.kept had.told)

      unlimited : ¬ (status ≡ 7)
      unlimited seven =
          let due : GrewBy old new (IsLimitText Replies input) = subst (λ o. IfSome o (λ bytes. GrewBy old new (IsLimitText Replies bytes))) left_is (end.limit seven) in
          no_limit Replies input due.0 within due.1

      by : (status ≡ 6) ⊎ (status ≡ 0) → (status ≡ 6) ⊎ ((status ≡ 0) × AllAreAnswered m (requests (lines input)) old new)
      by (inl six) = inl six
      by (inr zero) =
          let due : IsAtEnd after × AreWithinLimits (lines input) × GrewBy old new (Replies (lines input)) =
          subst (λ o. IfSome o (λ bytes. IsAtEnd after × AreWithinLimits (lines bytes) × GrewBy old new (Replies (lines bytes)))) left_is (end.done zero) in
          inr (zero, replies_answered input due.2.0 rows m exec had opened none.kept due.2.1 due.2.2)
