-- What the replies of `show`, `history` and `burndown` tell.
use Rattle.std.proofs.Common.{◌≡◌, ◌≤◌, ℕ, ℤ, ◌==◌, ◌||◌, Bool, true, false, List, [], ◌∷◌, map, length, bytes_eq, Option, Some, None, refl, sym, ◌∙◌, ap, subst, eqb-true, eq-eqb}
use Rattle.std.specs.Prelude.{if◌then◌else◌, take, drop}
use Rattle.std.specs.List.{list_any}
use Rattle.std.specs.Option.{option_or}
use Rattle.std.proofs.lemmas.List.{take_all}
use Rattle.field_values.specs.declared.rules.Permission.TheVariants as permission
use Rattle.field_values.specs.Parts.{Parts}
use Rattle.field_forms.specs.SoundRules.{is_field}
use Rattle.fields.specs.Sound.{IsSound}
use Rattle.fields.specs.SetupParts.{names_in}
use Rattle.fields.specs.Naming.{field_name, field_numbers}
use Rattle.fields.proofs.FieldNames.{numbers_are_fields}
use Rattle.change_history.specs.History.{History}
use Rattle.burndown.specs.declared.share.BurnRow.{BurnRow}
use Rattle.tracker_work.specs.Seen.{sprint_start, sprint_rows, sprint_left}
use Rattle.tracker_calls.specs.Part.{part_of}
use Rattle.tracker_calls.specs.declared.call.Part.{Part}
use Rattle.tracker_calls.specs.declared.cause.Cause.{Cause}
use Rattle.tracker_calls.specs.declared.cause.Cause.TheVariants as cause
use Rattle.tracker_calls.specs.declared.cause.Thing.TheVariants as thing
use Rattle.tracker_calls.specs.declared.reply.Reply.TheVariants as reply
use Rattle.tracker_calls.specs.declared.reply.Shown.{Shown}
use Rattle.tracker_calls.specs.declared.reply.ShownField.{ShownField}
use Rattle.tracker_machine.specs.Machine.{Machine}
use Rattle.tracker_machine.specs.Known.{history_named}
use Rattle.tracker_machine.specs.Checks.{or_then, unless_known, caller_refusal, part_refusal}
use Rattle.tracker_machine.specs.Access.{access_refusal}
use Rattle.tracker_machine.specs.Show.{with_shown, shown_fields, shown_issue, show_refusal, show_answer_of}
use Rattle.tracker_machine.specs.Entries.{history_refusal, history_answer_of}
use Rattle.tracker_machine.specs.Sprints.{work_of, told_row, plan_sprint_refusal, burndown_answer}
use Rattle.tracker_machine.specs.Meaning.{Meaning, unless, reply_to}
use Rattle.tracker_machine.specs.Meaning.Meaning.{Tells}
use Rattle.tracker_machine.specs.Step.{meaning, meaning_for, form_refusal, reply_of, user_of}
use Rattle.tracker_machine.proofs.InOrder.{Each}
use Rattle.tracker_sight.specs.Sight.{sees}
use Rattle.tracker_sight.specs.Integrity.{IsKnown}
use Rattle.tracker_sight.specs.Retold.{shown_of, value_told, ShowTellsFields, HistoryTellsEntries}
use Rattle.tracker_sight.specs.Remains.{AddUp, ToldAddUp, TellsSum, BurndownsTellSums}
use Rattle.tracker_sight.proofs.Retold.{named_apart}
use Rattle.tracker_sight.proofs.AddedUp.{burndowns_add_up}

-- ---- a call that passes its checks

passes : (o : Option Cause) (due : Meaning) → o ≡ None → reply_to (unless o due) ≡ reply_to due
passes o due is = ap (λ r. reply_to (unless r due)) is

caller_passes : (m : Machine) (caller : List ℕ) → IsKnown m caller → caller_refusal m caller ≡ None
caller_passes m caller known = ap (λ (o : Option ℕ). unless_known o (cause.Unknown thing.User caller)) known

allowed : (m : Machine) (user : ℕ) (h : History) → sees m.setup user h ≡ true → access_refusal m user permission.Browse (Some h) ≡ None
allowed m user h seen = rw seen refl

-- an issue that is there, and that the user may browse
browse_passes : (m : Machine) (user : ℕ) (issue : List ℕ) (h : History) → history_named m issue ≡ Some h → sees m.setup user h ≡ true
    → or_then (unless_known (history_named m issue) (cause.Unknown thing.Issue issue)) (access_refusal m user permission.Browse (history_named m issue)) ≡ None
browse_passes m user issue h there seen =
    ap (λ (o : Option History). or_then (unless_known o (cause.Unknown thing.Issue issue)) (access_refusal m user permission.Browse o)) there
    ∙ allowed m user h seen

-- ---- show

each_there : (P : ℕ → Type 0) (xs : List ℕ) → ((k : ℕ) → list_any (λ j. j == k) xs ≡ true → P k) → Each P xs
each_there P [] f = tt
each_there P (x ∷ xs) f = (f x (rw (eq-eqb x x refl) refl), each_there P xs (λ k is. f k (behind (x == k) (list_any (λ j. j == k) xs) is)))
  where
    behind : (a b : Bool) → b ≡ true → (a || b) ≡ true
    behind true b is = refl
    behind false b is = is

or_same : (s : Option Shown) (b : Bool) → option_or s (if b then s else None) ≡ s
or_same None true = refl
or_same None false = refl
or_same (Some x) b = refl

module _ (setup : Parts) (n : ℕ) (sound : IsSound setup) (own : is_field setup.field n ≡ true) where
  abbrev told : List ShownField → Option Shown
  told fs = value_told (field_name setup.field n) fs

  first_told : (name : List ℕ) (b : Bool) → bytes_eq name (field_name setup.field n) ≡ b → (s : Option Shown) (rest : List ShownField)
      → told (with_shown name s rest) ≡ (if b then option_or s (told rest) else told rest)
  first_told name true is None rest = refl
  first_told name false is None rest = refl
  first_told name true is (Some s) rest = rw is refl
  first_told name false is (Some s) rest = rw is refl

  told_of : (h : History) (ks : List ℕ) → Each (λ k. is_field setup.field k ≡ true) ks
      → told (shown_fields (names_in setup) h ks) ≡ (if list_any (λ k. k == n) ks then shown_of setup h n else None)
  told_of h [] are = refl
  told_of h (k ∷ ks) are =
      first_told (field_name setup.field k) (k == n) (named_apart setup n sound own k are.0) (shown_of setup h k) (shown_fields (names_in setup) h ks)
      ∙ by (k == n) refl (told_of h ks are.1)
    where
      rest : Option Shown
      rest = told (shown_fields (names_in setup) h ks)

      by : (b : Bool) → (k == n) ≡ b → rest ≡ (if list_any (λ j. j == n) ks then shown_of setup h n else None)
          → (if b then option_or (shown_of setup h k) rest else rest) ≡ (if b || list_any (λ j. j == n) ks then shown_of setup h n else None)
      by true same is =
          ap (λ j. option_or (shown_of setup h j) rest) (eqb-true k n same)
          ∙ ap (option_or (shown_of setup h n)) is
          ∙ or_same (shown_of setup h n) (list_any (λ j. j == n) ks)
      by false other is = is

pub show_tells_fields : ShowTellsFields
unfolding reply_of meaning meaning_for form_refusal shown_issue
show_tells_fields m caller issue h sound known there seen =
    let user : ℕ = user_of m caller in
    let fields : List ℕ = field_numbers m.setup.field in
    let are : Each (λ k. is_field m.setup.field k ≡ true) fields =
    each_there (λ k. is_field m.setup.field k ≡ true) fields (λ k is. sym (numbers_are_fields m.setup.field k) ∙ is) in
    record {
      fields = shown_fields (names_in m.setup) h fields;
      reply_is = passes (caller_refusal m caller) (unless (show_refusal m user issue) (Tells (show_answer_of m (history_named m issue)))) (caller_passes m caller known)
          ∙ passes (show_refusal m user issue) (Tells (show_answer_of m (history_named m issue))) (browse_passes m user issue h there seen)
          ∙ ap (λ (o : Option History). reply.Ok (show_answer_of m o)) there;
      each = λ n own. told_of m.setup n sound own h fields are
          ∙ ap (λ b. if b then shown_of m.setup h n else None) (numbers_are_fields m.setup.field n ∙ own);
    }

-- ---- history

pub history_tells_entries : HistoryTellsEntries
unfolding reply_of meaning meaning_for form_refusal
history_tells_entries m caller issue part h known within there seen =
    let user : ℕ = user_of m caller in
    let due : Meaning = unless (history_refusal m user issue) (Tells (history_answer_of m part (history_named m issue))) in
    passes (part_refusal 50 part) (unless (caller_refusal m caller) due) within
    ∙ passes (caller_refusal m caller) due (caller_passes m caller known)
    ∙ passes (history_refusal m user issue) (Tells (history_answer_of m part (history_named m issue))) (browse_passes m user issue h there seen)
    ∙ ap (λ (o : Option History). reply.Ok (history_answer_of m part o)) there

-- ---- burndown

rows_told : (hs : List History) (was left : ℤ) (rows : List BurnRow) → AddUp was rows left → ToldAddUp was (map (told_row hs) rows) left
rows_told hs was left [] adds = adds
rows_told hs was left (row ∷ rows) adds = (adds.0, rows_told hs row.left left rows adds.1)

-- the part that begins with the first one and has room for all is all of them
whole_part : {A : Type 0} (part : Part) (xs : List A) → part.from ≡ 0 → length xs ≤ part.count → part_of part xs ≡ xs
whole_part part xs first room = ap (λ n. take part.count (drop n xs)) first ∙ take_all part.count xs room

unless_sum : (part : Part) (o : Option Cause) (due : Meaning) → TellsSum part (reply_to due) → TellsSum part (reply_to (unless o due))
unless_sum part None due sum = sum
unless_sum part (Some r) due sum = tt

pub burndowns_tell_sums : BurndownsTellSums
unfolding reply_of meaning meaning_for form_refusal burndown_answer
burndowns_tell_sums m caller sprint part is =
    let user : ℕ = user_of m caller in
    let due : Meaning = Tells (burndown_answer m sprint part) in
    let rows : List BurnRow = sprint_rows (work_of m) sprint.0 in
    unless_sum part (part_refusal 1_000 part) (unless (caller_refusal m caller) (unless (plan_sprint_refusal m user sprint) due))
    (unless_sum part (caller_refusal m caller) (unless (plan_sprint_refusal m user sprint) due)
    (unless_sum part (plan_sprint_refusal m user sprint) due
    (λ first room. subst (λ (rs : List BurnRow). ToldAddUp (sprint_start (work_of m) sprint.0) (map (told_row m.histories) rs) (sprint_left (work_of m) sprint.0))
    (sym (whole_part part rows first room))
    (rows_told m.histories (sprint_start (work_of m) sprint.0) (sprint_left (work_of m) sprint.0) rows (burndowns_add_up m sprint.0 is)))))
