-- A create with an external id that was accepted is told again by each later one of its kind.
use Rattle.std.proofs.Common.{◌≡◌, ℕ, ◌+◌, ◌-◌, ◌<◌, Bool, true, false, ◌&&◌, List, [], ◌∷◌, ◌++◌, length, map, slice_get, Option, Some, None, Result, Ok, Err, bytes_eq, unwrap_or, option_map, ◌⊎◌, inl, inr, refl, sym, ◌∙◌, ap, ap₂, subst, arith}
use Rattle.std.specs.Prelude.{option_and_then, if◌then◌else◌}
use Rattle.std.specs.List.{All, list_all}
use Rattle.std.specs.Int.{is_in_range}
use Rattle.std.proofs.lemmas.Bool.{true≢false, and_parts}
use Rattle.std.proofs.lemmas.List.{length-append}
use Rattle.std.proofs.lemmas.Option.{same_Some, none-some, slice_get-map}
use Rattle.std.proofs.lemmas.Slice.Eq.{bytes_eq-Decides}
use Rattle.field_values.specs.declared.parts.Project.{Project}
use Rattle.field_values.specs.declared.numbers.TheConstants.FieldNo as number
use Rattle.field_values.specs.declared.value.Value.TheVariants.{Text}
use Rattle.field_forms.specs.Names.{place_named, is_project_key}
use Rattle.fields.specs.Sound.{IsSound}
use Rattle.fields.specs.SetupParts.{names_in}
use Rattle.fields.specs.Naming.{name_at}
use Rattle.fields.proofs.Found.{place_below}
use Rattle.fields.proofs.KnownNames.{inside_mapped}
use Rattle.fields.proofs.PlaceNames.{at_place}
use Rattle.change_history.specs.declared.change.Change.{Change}
use Rattle.change_history.specs.History.{History, opening_value}
use Rattle.external_ids.specs.declared.external_id.ExternalId.{ExternalId}
use Rattle.external_ids.specs.Ids.{external_named}
use Rattle.external_ids.proofs.Added.{named_put_last}
use Rattle.rank_strings.specs.Rank.{RankParts}
use Rattle.board.specs.Moved.{Sides}
use Rattle.change_history.specs.Key.{project_of}
use Rattle.workflow.specs.Same.{same_value}
use Rattle.external_ids.specs.Form.{is_external}
use Rattle.tracker_calls.specs.declared.call.Call.{Call}
use Rattle.tracker_calls.specs.declared.call.Call.TheVariants as call
use Rattle.tracker_calls.specs.declared.given.GivenField.{GivenField}
use Rattle.tracker_calls.specs.declared.reply.Answer.TheVariants as answer
use Rattle.tracker_calls.specs.declared.cause.Cause.{Cause}
use Rattle.tracker_calls.specs.declared.cause.Cause.TheVariants as cause
use Rattle.tracker_calls.specs.declared.reply.Reply.{Reply}
use Rattle.tracker_calls.specs.declared.reply.Reply.TheVariants as reply
use Rattle.tracker_calls.specs.declared.cause.Thing.TheVariants as thing
use Rattle.tracker_machine.specs.Machine.{Machine}
use Rattle.tracker_machine.specs.Known.{project_keys, issues_of}
use Rattle.tracker_machine.specs.Checks.{or_then, unless_known, caller_refusal, external_refusal, twins_refusal, issues_refusal, bytes_refusal, values_refusal}
use Rattle.tracker_machine.specs.Tracker.{AreExternals, IsExternalOf}
use Rattle.tracker_machine.specs.Effect.{applied, with_issue, with_external, MayName}
use Rattle.tracker_machine.specs.Meaning.{Meaning, unless, reply_to, next_after}
use Rattle.tracker_machine.specs.Meaning.Meaning.{Tells}
use Rattle.tracker_machine.specs.Rank.{with_given, last_rank}
use Rattle.tracker_machine.specs.Create.{create_refusal, create_wants, issue_called, is_created_as, is_value_of, called_before, created, create_or_tell, filled, opened, spelled_key, new_issue_refusal}
use Rattle.tracker_machine.specs.Wanted.{changes_of}
use Rattle.tracker_machine.specs.Step.{meaning, meaning_for, form_refusal, user_of, reply_of, next_of}
use Rattle.tracker_runs.specs.RankLaws.{IsAccepted}
use Rattle.tracker_machine.proofs.Externals.{externals_more, named_is_there}
use Rattle.tracker_machine.proofs.Saved.{all_then}
use Rattle.tracker_machine.proofs.Settled as settled
use Rattle.tracker_sight.specs.Imports.{is_import, after_calls, replies_to, AreImported, as_made_before, ImportsAreMadeOnce}
use Rattle.tracker_sight.proofs.Allowed.{first_none, then_none, is_met, both, known}
use Rattle.tracker_sight.proofs.Grown.{stays_there}
use Rattle.tracker_sight.proofs.Opened.{opens_with_type, opens_with_summary, project_of_key}

-- ---- a create that is known

-- the create passes its checks, and an issue has its external id already, which was created as it asks for
record IsKnown (m : Machine) (caller project issue_type summary : List ℕ) (given : List GivenField) (id : List ℕ) (h : History) : Type 0 where
  formed : or_then (twins_refusal given) (external_refusal (Some id)) ≡ None
  user : caller_refusal m caller ≡ None
  passes : create_refusal m (user_of m caller) project given ≡ None
  called : issue_called m (Some id) ≡ Some h
  same : is_created_as m (spelled_key m project) issue_type summary h ≡ true

abbrev asks : List ℕ → List ℕ → List ℕ → List GivenField → List ℕ → Call
asks project issue_type summary given id = call.Create project issue_type summary given (Some id)

abbrev told_before : History → Meaning
told_before h = Tells (answer.Create true h.change h.key)

-- it is told
known_means : (m : Machine) (caller project issue_type summary : List ℕ) (given : List GivenField) (id : List ℕ) (h : History)
    → IsKnown m caller project issue_type summary given id h → meaning m caller (asks project issue_type summary given id) ≡ told_before h
unfolding meaning meaning_for form_refusal
known_means m caller project issue_type summary given id h is = rw (is.formed, is.user, is.passes, is.called, is.same) refl

-- ---- another issue comes

-- an issue comes last, and its external id, if it has one, is new
record ComesLast (m : Machine) (g : History) (external : Option (List ℕ)) : Type 0 where
  no : g.no.0 ≡ length m.histories + 1
  free : (id : List ℕ) → external ≡ Some id → external_named id m.externals ≡ None

module _ (m : Machine) (g : History) (rank : RankParts) (external : Option (List ℕ)) (ids : AreExternals (length m.histories) m.externals) (comes : ComesLast m g external) where
  abbrev next : Machine
  next = with_issue m g rank external

  abbrev own_id : List ℕ → ExternalId
  own_id id = record { no = g.no; id = id }

  all_less : All (λ e. e.no.0 < g.no.0) m.externals
  all_less = all_then (IsExternalOf (length m.histories)) (λ e. e.no.0 < g.no.0) m.externals (λ e is. omega (arith, is.there, comes.no)) ids.each

  -- what was found by an id is found still
  named_still : (id : List ℕ) (e : ExternalId) → external_named id m.externals ≡ Some e → external_named id next.externals ≡ Some e
  named_still id e is = by external refl
    where
      by_test : (other : List ℕ) → external ≡ Some other → (b : Bool) → bytes_eq other id ≡ b → (if b then Some (own_id other) else external_named id m.externals) ≡ Some e
      by_test other some false differ = is
      by_test other some true same =
          absurd (none-some e (sym (comes.free other some) ∙ ap (λ i. external_named i m.externals) ((bytes_eq-Decides other id).0 same) ∙ is))

      by : (o : Option (List ℕ)) → external ≡ o → external_named id (with_external m.externals g.no o) ≡ Some e
      by None none = is
      by (Some other) some = named_put_last (own_id other) m.externals id all_less (comes.free other some) ∙ by_test other some (bytes_eq other id) refl

  called_still : (id : List ℕ) (h : History) → issue_called m (Some id) ≡ Some h → issue_called next (Some id) ≡ Some h
  called_still id h is = by (external_named id m.externals) refl is
    where
      by : (o : Option ExternalId) → external_named id m.externals ≡ o → option_and_then (λ e. slice_get m.histories (e.no.0 - 1)) o ≡ Some h → issue_called next (Some id) ≡ Some h
      by None none called = absurd (none-some h called)
      by (Some e) found called =
          ap (option_and_then (λ e. slice_get next.histories (e.no.0 - 1))) (named_still id e found) ∙ stays_there m.histories (g ∷ []) (e.no.0 - 1) h called

  known_still : (caller project issue_type summary : List ℕ) (given : List GivenField) (id : List ℕ) (h : History) → IsKnown m caller project issue_type summary given id h
      → IsKnown next caller project issue_type summary given id h
  known_still caller project issue_type summary given id h is =
      record { formed = is.formed; user = is.user; passes = is.passes; called = called_still id h is.called; same = is.same }

  ids_still : (may : (id : List ℕ) → external ≡ Some id → is_external id ≡ true) → AreExternals (length next.histories) next.externals
  ids_still may =
      subst (λ n. AreExternals n next.externals) (sym (length-append m.histories (g ∷ [])))
      (externals_more (length m.histories) m.externals g.no external ids comes.no (by external refl))
    where
      by : (o : Option (List ℕ)) → external ≡ o → MayName m.externals o
      by None none = tt
      by (Some id) some = (may id some, comes.free id some)

-- ---- from one tracker to the next

record Comes (m new : Machine) : Type 0 where
  issue : History
  rank : RankParts
  external : Option (List ℕ)
  is : new ≡ with_issue m issue rank external
  last : ComesLast m issue external
  may : (id : List ℕ) → external ≡ Some id → is_external id ≡ true

-- the tracker stays, or an issue comes
abbrev Follows : Machine → Machine → Type 0
Follows m new = (new ≡ m) ⊎ Comes m new

ids_follow : (m new : Machine) → AreExternals (length m.histories) m.externals → Follows m new → AreExternals (length new.histories) new.externals
ids_follow m new ids (inl stays) = subst (λ (n : Machine). AreExternals (length n.histories) n.externals) (sym stays) ids
ids_follow m new ids (inr comes) =
    subst (λ (n : Machine). AreExternals (length n.histories) n.externals) (sym comes.is) (ids_still m comes.issue comes.rank comes.external ids comes.last comes.may)

setup_follows : (m new : Machine) → Follows m new → new.setup ≡ m.setup
setup_follows m new (inl stays) = ap (λ (n : Machine). n.setup) stays
setup_follows m new (inr comes) = ap (λ (n : Machine). n.setup) comes.is

known_follows : (m new : Machine) → AreExternals (length m.histories) m.externals → Follows m new
    → (caller project issue_type summary : List ℕ) (given : List GivenField) (id : List ℕ) (h : History) → IsKnown m caller project issue_type summary given id h
    → IsKnown new caller project issue_type summary given id h
known_follows m new ids (inl stays) caller project issue_type summary given id h is =
    subst (λ n. IsKnown n caller project issue_type summary given id h) (sym stays) is
known_follows m new ids (inr comes) caller project issue_type summary given id h is =
    subst (λ n. IsKnown n caller project issue_type summary given id h) (sym comes.is)
    (known_still m comes.issue comes.rank comes.external ids comes.last caller project issue_type summary given id h is)

-- ---- an accepted create

last_there : {X : Type 0} (xs : List X) (y : X) → slice_get (xs ++ y ∷ []) (length xs) ≡ Some y
last_there [] y = refl
last_there (x ∷ xs) y = last_there xs y

module _ (m : Machine) (caller project issue_type summary : List ℕ) (given : List GivenField) (id : List ℕ)
    (ids : AreExternals (length m.histories) m.externals) (sound : IsSound m.setup) where
  abbrev user : ℕ
  user = user_of m caller

  abbrev key : List ℕ
  key = spelled_key m project

  abbrev changes : List Change
  changes = changes_of (names_in m.setup) (create_wants m.setup user issue_type summary given)

  abbrev new_issue : History
  new_issue = opened m user key (filled changes)

  record Step (new : Machine) (r : Reply) : Type 0 where
    h : History
    known : IsKnown new caller project issue_type summary given id h
    told : as_made_before r ≡ reply.Ok (answer.Create true h.change h.key)
    follows : Follows m new

  abbrev Goes : Meaning → Type 0
  Goes due = IsAccepted (reply_to due) → Step (next_after due m) (reply_to due)

  unless_goes : (r : Option Cause) (due : Meaning) → (r ≡ None → Goes due) → Goes (unless r due)
  unless_goes None due goes = goes refl
  unless_goes (Some r) due goes = λ accepted. absurd accepted

  -- the project's key is letters
  key_letters : create_refusal m user project given ≡ None → list_all (λ b. is_in_range 65 90 b) key ≡ true
  key_letters passes =
      let named : Option ℕ = place_named project (project_keys m.setup) in
      let place : (k : ℕ) × (named ≡ Some k) = known named (cause.Unknown thing.Project project) (first_none (unless_known named (cause.Unknown thing.Project project)) _ passes) in
      let within = inside_mapped (λ (p : Project). p.key) m.setup.project place.0 (place_below project (project_keys m.setup) place.0 place.1) in
      let found = settled.at_place m.setup.project place.0 within in
      let at : slice_get (project_keys m.setup) place.0 ≡ Some found.0.key =
      slice_get-map (λ (q : Project). q.key) m.setup.project place.0 ∙ ap (λ o. option_map (λ (q : Project). q.key) o) found.1 in
      let spelled : key ≡ found.0.key = ap (λ o. name_at (project_keys m.setup) (unwrap_or o 0)) place.1 ∙ ap (λ o. unwrap_or o []) at in
      let formed : is_project_key found.0.key ≡ true = at_place is_project_key (project_keys m.setup) place.0 found.0.key sound.keys.formed at in
      ap (list_all (λ b. is_in_range 65 90 b)) spelled ∙ (and_parts _ (list_all (λ b. is_in_range 65 90 b) found.0.key) formed).1

  -- no issue has the id
  free_id : issue_called m (Some id) ≡ None → external_named id m.externals ≡ None
  free_id none = by (external_named id m.externals) refl none
    where
      by : (o : Option ExternalId) → external_named id m.externals ≡ o → option_and_then (λ e. slice_get m.histories (e.no.0 - 1)) o ≡ None → external_named id m.externals ≡ None
      by None found called = found
      by (Some e) found called =
          let there = named_is_there 1 (length m.histories) m.externals id e ids.rising ids.each found in
          let history = settled.at_place m.histories (e.no.0 - 1) (omega (arith, there.0, there.1)) in
          absurd (none-some history.0 (sym called ∙ history.1))

  comes_last : external_named id m.externals ≡ None → ComesLast m new_issue (Some id)
  comes_last free = record { no = refl; free = λ other some. ap (λ i. external_named i m.externals) (sym (same_Some id other some)) ∙ free }

  found_new : (rank : RankParts) → external_named id m.externals ≡ None → issue_called (with_issue m new_issue rank (Some id)) (Some id) ≡ Some new_issue
  found_new rank free =
      let new : ExternalId = record { no = new_issue.no; id = id } in
      let same : bytes_eq id id ≡ true = (bytes_eq-Decides id id).1 refl in
      let named : external_named id (with_external m.externals new_issue.no (Some id)) ≡ Some new =
      named_put_last new m.externals id (all_less m new_issue rank (Some id) ids (comes_last free)) free ∙ ap (λ b. if b then Some new else external_named id m.externals) same in
      let place : new_issue.no.0 - 1 ≡ length m.histories = omega arith in
      ap (option_and_then (λ (e : ExternalId). slice_get (m.histories ++ new_issue ∷ []) (e.no.0 - 1))) named
      ∙ ap (slice_get (m.histories ++ new_issue ∷ [])) place ∙ last_there m.histories new_issue

  created_as : (rank : RankParts) → create_refusal m user project given ≡ None → values_refusal m (create_wants m.setup user issue_type summary given) ≡ None
      → is_created_as m key issue_type summary new_issue ≡ true
  created_as rank passes fit =
      both (bytes_eq (project_of new_issue.key) key)
      (is_value_of (names_in m.setup) number.TYPE.0 issue_type (opening_value (filled changes) number.TYPE) && same_value (Text summary) (opening_value (filled changes) number.SUMMARY))
      (project_of_key key (issues_of key m.histories + 1) (key_letters passes))
      (both (is_value_of (names_in m.setup) number.TYPE.0 issue_type (opening_value (filled changes) number.TYPE)) (same_value (Text summary) (opening_value (filled changes) number.SUMMARY))
      (opens_with_type m user issue_type summary given fit) (opens_with_summary m user issue_type summary given fit))

  module _ (formed : or_then (twins_refusal given) (external_refusal (Some id)) ≡ None) (is_user : caller_refusal m caller ≡ None)
      (passes : create_refusal m user project given ≡ None) where
    called_goes : (h : History) → issue_called m (Some id) ≡ Some h → (b : Bool) → is_created_as m key issue_type summary h ≡ b → Goes (called_before b id h)
    called_goes h called true same = λ accepted. record {
      h = h;
      known = record { formed = formed; user = is_user; passes = passes; called = called; same = same };
      told = refl;
      follows = inl refl;
    }
    called_goes h called false same = λ accepted. absurd accepted

    created_goes : issue_called m (Some id) ≡ None → new_issue_refusal m user issue_type summary given ≡ None → (rank : Result RankParts Sides)
        → Goes (with_given rank (created m user key (Some id) changes))
    unfolding applied
    created_goes none room (Err sides) = λ accepted. absurd accepted
    created_goes none room (Ok rank) = λ accepted.
        let free : external_named id m.externals ≡ None = free_id none in
        let fit : values_refusal m (create_wants m.setup user issue_type summary given) ≡ None =
        then_none (bytes_refusal m) (values_refusal m (create_wants m.setup user issue_type summary given))
        (then_none (issues_refusal m) (or_then (bytes_refusal m) (values_refusal m (create_wants m.setup user issue_type summary given))) room) in
        record {
          h = new_issue;
          known = record { formed = formed; user = is_user; passes = passes; called = found_new rank free; same = created_as rank passes fit };
          told = refl;
          follows = inr (record {
            issue = new_issue;
            rank = rank;
            external = Some id;
            is = refl;
            last = comes_last free;
            may = λ other some. subst (λ i. is_external i ≡ true) (same_Some id other some) (is_met (is_external id) _ (then_none (twins_refusal given) (external_refusal (Some id)) formed));
          });
        }

    tells_or_creates : Goes (create_or_tell m user key issue_type summary given (Some id) (issue_called m (Some id)))
    tells_or_creates = by (issue_called m (Some id)) refl
      where
        by : (o : Option History) → issue_called m (Some id) ≡ o → Goes (create_or_tell m user key issue_type summary given (Some id) o)
        by (Some h) called = called_goes h called (is_created_as m key issue_type summary h) refl
        by None none =
            unless_goes (new_issue_refusal m user issue_type summary given) (with_given (last_rank m) (created m user key (Some id) changes))
            (λ room. created_goes none room (last_rank m))

  create_goes : Goes (meaning m caller (asks project issue_type summary given id))
  unfolding meaning meaning_for form_refusal
  create_goes =
      let due : Meaning = create_or_tell m user key issue_type summary given (Some id) (issue_called m (Some id)) in
      unless_goes (or_then (twins_refusal given) (external_refusal (Some id))) (unless (caller_refusal m caller) (unless (create_refusal m user project given) due))
      (λ formed. unless_goes (caller_refusal m caller) (unless (create_refusal m user project given) due)
      (λ is_user. unless_goes (create_refusal m user project given) due (λ passes. tells_or_creates formed is_user passes)))

-- ---- calls in turn

record CallStep (m : Machine) (caller : List ℕ) (c : Call) : Type 0 where
  project : List ℕ
  issue_type : List ℕ
  summary : List ℕ
  given : List GivenField
  id : List ℕ
  h : History
  is : c ≡ asks project issue_type summary given id
  known : IsKnown (next_of m caller c) caller project issue_type summary given id h
  told : as_made_before (reply_of m caller c) ≡ reply.Ok (answer.Create true h.change h.key)
  follows : Follows m (next_of m caller c)

call_step : (m : Machine) (caller : List ℕ) (c : Call) → AreExternals (length m.histories) m.externals → IsSound m.setup → is_import c ≡ true → IsAccepted (reply_of m caller c)
    → CallStep m caller c
unfolding reply_of next_of
call_step m caller (call.Create project issue_type summary given (Some id)) ids sound is accepted =
    let step = create_goes m caller project issue_type summary given id ids sound accepted in
    record {
      project = project;
      issue_type = issue_type;
      summary = summary;
      given = given;
      id = id;
      h = step.h;
      is = refl;
      known = step.known;
      told = step.told;
      follows = step.follows;
    }
call_step m caller (call.Create project issue_type summary given None) ids sound is accepted = absurd (true≢false (sym is))
call_step m caller _ ids sound is accepted = absurd (true≢false (sym is))

known_after : (m : Machine) (caller : List ℕ) (cs : List Call) → AreExternals (length m.histories) m.externals → IsSound m.setup → AreImported m caller cs
    → (project issue_type summary : List ℕ) (given : List GivenField) (id : List ℕ) (h : History) → IsKnown m caller project issue_type summary given id h
    → IsKnown (after_calls m caller cs) caller project issue_type summary given id h
known_after m caller [] ids sound are project issue_type summary given id h is = is
known_after m caller (c ∷ cs) ids sound are project issue_type summary given id h is =
    let next : Machine = next_of m caller c in
    let step : CallStep m caller c = call_step m caller c ids sound are.0 are.1 in
    known_after next caller cs (ids_follow m next ids step.follows) (subst IsSound (sym (setup_follows m next step.follows)) sound) are.2 project issue_type summary given id h
    (known_follows m next ids step.follows caller project issue_type summary given id h is)

-- the call tells in the last tracker what it told, as made before
record TellsAgain (last : Machine) (caller : List ℕ) (c : Call) (r : Reply) : Type 0 where
  h : History
  means : meaning last caller c ≡ told_before h
  told : as_made_before r ≡ reply.Ok (answer.Create true h.change h.key)

abbrev AllAgain : Machine → List ℕ → Machine → List Call → Type 0
AllAgain last caller m [] = Unit {0}
AllAgain last caller m (c ∷ cs) = TellsAgain last caller c (reply_of m caller c) × AllAgain last caller (next_of m caller c) cs

all_again : (m : Machine) (caller : List ℕ) (cs : List Call) → AreExternals (length m.histories) m.externals → IsSound m.setup → AreImported m caller cs
    → AllAgain (after_calls m caller cs) caller m cs
all_again m caller [] ids sound are = tt
all_again m caller (c ∷ cs) ids sound are =
    let next : Machine = next_of m caller c in
    let step : CallStep m caller c = call_step m caller c ids sound are.0 are.1 in
    let ids_next = ids_follow m next ids step.follows in
    let sound_next : IsSound next.setup = subst IsSound (sym (setup_follows m next step.follows)) sound in
    let last : Machine = after_calls next caller cs in
    let known_last : IsKnown last caller step.project step.issue_type step.summary step.given step.id step.h =
    known_after next caller cs ids_next sound_next are.2 step.project step.issue_type step.summary step.given step.id step.h step.known in (
      record {
        h = step.h;
        means = ap (meaning last caller) step.is ∙ known_means last caller step.project step.issue_type step.summary step.given step.id step.h known_last;
        told = step.told;
      },
      all_again next caller cs ids_next sound_next are.2,
    )

stays_by : (last : Machine) (caller : List ℕ) (c : Call) (h : History) → meaning last caller c ≡ told_before h → next_of last caller c ≡ last
unfolding next_of
stays_by last caller c h means = ap (λ due. next_after due last) means

replies_by : (last : Machine) (caller : List ℕ) (c : Call) (h : History) → meaning last caller c ≡ told_before h → reply_of last caller c ≡ reply.Ok (answer.Create true h.change h.key)
unfolding reply_of
replies_by last caller c h means = ap reply_to means

state_again : (last : Machine) (caller : List ℕ) (m : Machine) (cs : List Call) → AllAgain last caller m cs → after_calls last caller cs ≡ last
state_again last caller m [] all = refl
state_again last caller m (c ∷ cs) all =
    ap (λ n. after_calls n caller cs) (stays_by last caller c all.0.h all.0.means) ∙ state_again last caller (next_of m caller c) cs all.1

replies_again : (last : Machine) (caller : List ℕ) (m : Machine) (cs : List Call) → AllAgain last caller m cs → replies_to last caller cs ≡ map as_made_before (replies_to m caller cs)
replies_again last caller m [] all = refl
replies_again last caller m (c ∷ cs) all =
    ap₂ (λ (r : Reply) (rs : List Reply). r ∷ rs) (replies_by last caller c all.0.h all.0.means ∙ sym all.0.told)
    (ap (λ n. replies_to n caller cs) (stays_by last caller c all.0.h all.0.means) ∙ replies_again last caller (next_of m caller c) cs all.1)

pub imports_are_made_once : ImportsAreMadeOnce
imports_are_made_once m caller calls is sound are =
    let again = all_again m caller calls is.externals sound are in
    let last : Machine = after_calls m caller calls in
    record { state = state_again last caller m calls again; replies = replies_again last caller m calls again }
