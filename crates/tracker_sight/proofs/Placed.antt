-- A create and a move have the same reply, but for ranks, in two trackers that seem alike to their caller.
use Rattle.std.proofs.Common.{◌≡◌, ℕ, ◌+◌, ◌<◌, Bool, true, false, List, [], length, slice_get, Option, Some, None, Result, Ok, Err, is_some, option_map, unwrap_or, ◌⊎◌, inl, inr, refl, sym, ◌∙◌, ap, ap₂, subst}
use Rattle.std.specs.Prelude.{if◌then◌else◌}
use Rattle.std.specs.Option.{option_map_or}
use Rattle.std.proofs.lemmas.Bool.{cases_Bool, true≢false}
use Rattle.std.proofs.lemmas.Option.{same_Some, none-some, slice_get-map}
use Rattle.field_values.specs.declared.numbers.IssueNo.{IssueNo}
use Rattle.field_values.specs.declared.parts.Project.{Project}
use Rattle.field_values.specs.declared.rules.Permission.{Permission}
use Rattle.field_values.specs.declared.rules.Permission.TheVariants as permission
use Rattle.field_forms.specs.Names.{place_named}
use Rattle.fields.specs.Sound.{IsSound}
use Rattle.fields.specs.SetupParts.{may, names_in}
use Rattle.fields.specs.Naming.{name_at, key_of}
use Rattle.fields.proofs.Found.{place_below}
use Rattle.fields.proofs.KnownNames.{inside_mapped}
use Rattle.change_history.specs.declared.change.Change.{Change}
use Rattle.change_history.specs.History.{History}
use Rattle.external_ids.specs.declared.external_id.ExternalId.{ExternalId}
use Rattle.rank_strings.specs.Rank.{RankParts}
use Rattle.board.specs.declared.place.Place.{Place}
use Rattle.board.specs.declared.place.Place.TheVariants.{Before, After}
use Rattle.board.specs.Order.{Pair}
use Rattle.board.specs.Moved.{Sides}
use Rattle.rank_balancer.specs.declared.balance.Balance.{Balance}
use Rattle.sprints.specs.declared.sprint.Sprint.{Sprint}
use Rattle.workflow.specs.Conditions.{project_number}
use Rattle.tracker_calls.specs.declared.call.Call.{Call}
use Rattle.tracker_calls.specs.declared.call.Call.TheVariants as call
use Rattle.tracker_calls.specs.declared.given.GivenField.{GivenField}
use Rattle.tracker_calls.specs.declared.reply.Answer.TheVariants as answer
use Rattle.tracker_calls.specs.declared.cause.Cause.{Cause}
use Rattle.tracker_calls.specs.declared.cause.Cause.TheVariants as cause
use Rattle.tracker_calls.specs.declared.reply.Reply.{Reply}
use Rattle.tracker_calls.specs.declared.reply.Reply.TheVariants as reply
use Rattle.tracker_calls.specs.declared.cause.Thing.TheVariants as thing
use Rattle.tracker_machine.specs.declared.wanted.Wanted.{Wanted}
use Rattle.tracker_machine.specs.Machine.{Machine}
use Rattle.tracker_machine.specs.Known.{place_of_issue, history_named, project_keys, issues_of, next_key}
use Rattle.tracker_machine.specs.Checks.{or_then, unless_known, only_if, caller_refusal, permission_refusal, set_refusal, closed_refusal, issues_refusal, bytes_refusal}
use Rattle.tracker_machine.specs.Access.{access_refusal}
use Rattle.tracker_machine.specs.Tracker.{IsTracker}
use Rattle.tracker_machine.specs.Effect.Effect.{NewRank}
use Rattle.tracker_machine.specs.Meaning.{Meaning, unless, reply_to}
use Rattle.tracker_machine.specs.Meaning.Meaning.{Tells, Makes}
use Rattle.tracker_machine.specs.Rank.{with_given, last_rank, moved_rank, has_rank}
use Rattle.tracker_machine.specs.Create.{create_meaning, create_refusal, issue_called, create_wants, created, create_or_tell, spelled_key, new_issue_refusal}
use Rattle.tracker_machine.specs.Wanted.{changes_of}
use Rattle.tracker_machine.specs.Move.{move_meaning, move_refusal, move_answer, moved_beside, newly_ranked}
use Rattle.tracker_machine.specs.Step.{meaning, meaning_for, form_refusal, user_of, reply_of}
use Rattle.tracker_runs.specs.RankLaws.{HasRoom, without_ranks}
use Rattle.tracker_machine.proofs.Settled as settled
use Rattle.tracker_sight.specs.Sight.{sees, SeemAlike}
use Rattle.tracker_sight.specs.Confidentiality.{has_issue_named}
use Rattle.tracker_sight.specs.Placing.{external_given, CreatesTellOfTheSeen, issues_placed, MovesTellOfTheSeen}
use Rattle.tracker_sight.proofs.Allowed.{first_none, third_none, is_met, known}
use Rattle.tracker_sight.proofs.Told.{varied, agreeing}
use Rattle.tracker_sight.proofs.Told.{seen_issues_are_there}
use Rattle.tracker_sight.proofs.Named.{named_is, has_key}
use Rattle.tracker_sight.proofs.Changing.{place_is_there, known_alike, number_by_key}
use Rattle.tracker_sight.proofs.Counted.{all_counted}

-- ---- replies that are the same where there is room

-- one and the same check comes first in both
room_unless : (look : Reply → Reply) (r : Option Cause) (one other : Meaning)
    → (r ≡ None → HasRoom (reply_to one) → HasRoom (reply_to other) → look (reply_to other) ≡ look (reply_to one))
    → HasRoom (reply_to (unless r one)) → HasRoom (reply_to (unless r other)) → look (reply_to (unless r other)) ≡ look (reply_to (unless r one))
room_unless look None one other same = same refl
room_unless look (Some r) one other same = λ room more. refl

abbrev itself : Reply → Reply
itself r = r

-- what is answered where a rank is given
given_reply : (look : Reply → Reply) (given : Result RankParts Sides) (due : RankParts → Meaning) (r : Reply) → ((rank : RankParts) → look (reply_to (due rank)) ≡ r)
    → HasRoom (reply_to (with_given given due)) → look (reply_to (with_given given due)) ≡ r
given_reply look (Ok rank) due r all room = all rank
given_reply look (Err sides) due r all room = absurd room

-- ---- a call in a tracker and in one that differs in what callers aren't told of

in_room : (m : Machine) (text : List ℕ) (change : ℕ) (hs : List History) (externals : List ExternalId) (order : List Pair) (balance : Balance) (sprints : List Sprint)
    (look : Reply → Reply) (caller : List ℕ) (c : Call)
    → (HasRoom (reply_to (meaning_for m (user_of m caller) c)) → HasRoom (reply_to (meaning_for (varied m text change hs externals order balance sprints) (user_of m caller) c))
    → look (reply_to (meaning_for (varied m text change hs externals order balance sprints) (user_of m caller) c)) ≡ look (reply_to (meaning_for m (user_of m caller) c)))
    → HasRoom (reply_of m caller c) → HasRoom (reply_of (varied m text change hs externals order balance sprints) caller c)
    → look (reply_of (varied m text change hs externals order balance sprints) caller c) ≡ look (reply_of m caller c)
unfolding reply_of meaning
in_room m text change hs externals order balance sprints look caller c same =
    let user : ℕ = user_of m caller in
    let due : Meaning = meaning_for (varied m text change hs externals order balance sprints) user c in
    room_unless look (form_refusal c) (unless (caller_refusal m caller) (meaning_for m user c)) (unless (caller_refusal m caller) due)
    (λ formed. room_unless look (caller_refusal m caller) (meaning_for m user c) due (λ there. same))

-- ---- a create

module _ (m : Machine) (text : List ℕ) (hs : List History) (externals : List ExternalId) (order : List Pair) (balance : Balance) where
  abbrev new : Machine
  new = varied m text m.change hs externals order balance m.sprints

  module _ (user : ℕ) (alike : SeemAlike user m new) (sound : IsSound m.setup) (is : IsTracker m) (is_too : IsTracker new) where
    -- a project that the user may browse has the same next key
    same_next : (place : ℕ) (p : Project) → slice_get m.setup.project place ≡ Some p → may m.setup user permission.Browse (Some place) ≡ true → next_key new p.key ≡ next_key m p.key
    same_next place p at browse =
        ap (λ (n : ℕ). key_of p.key (n + 1))
        (sym (all_counted m.setup user place p at sound browse [] hs is_too.keys)
        ∙ ap (issues_of p.key) alike.issues
        ∙ all_counted m.setup user place p at sound browse [] m.histories is.keys)

    created_same : (project issue_type summary : List ℕ) (given : List GivenField) (external : Option (List ℕ)) (key : List ℕ) → next_key new key ≡ next_key m key
        → issues_refusal new ≡ issues_refusal m → bytes_refusal new ≡ bytes_refusal m
        → HasRoom (reply_to (create_or_tell m user key issue_type summary given external None))
        → HasRoom (reply_to (create_or_tell new user key issue_type summary given external None))
        → reply_to (create_or_tell new user key issue_type summary given external None) ≡ reply_to (create_or_tell m user key issue_type summary given external None)
    created_same project issue_type summary given external key same issues bytes =
        let wants : ℕ → Wanted = create_wants m.setup user issue_type summary given in
        let changes : List Change = changes_of (names_in m.setup) wants in
        let told : Reply = reply.Ok (answer.Create false (m.change + 1) (next_key m key)) in
        rw (issues, bytes)
        (room_unless itself (new_issue_refusal m user issue_type summary given) (with_given (last_rank m) (created m user key external changes))
        (with_given (last_rank new) (created new user key external changes))
        (λ none room more.
        given_reply itself (last_rank new) (created new user key external changes) told
        (λ rank. ap (λ (k : List ℕ). reply.Ok (answer.Create false (m.change + 1) k)) same) more
        ∙ sym (given_reply itself (last_rank m) (created m user key external changes) told (λ rank. refl) room)))

    -- the project that is named, by its place
    project_at : (place : ℕ) → place < length (project_keys m.setup) → (p : Project) × (slice_get m.setup.project place ≡ Some p) × (name_at (project_keys m.setup) place ≡ p.key)
    project_at place within =
        let found = settled.at_place m.setup.project place (inside_mapped (λ (p : Project). p.key) m.setup.project place within) in
        (found.0, found.1, ap (λ o. unwrap_or o []) (slice_get-map (λ (q : Project). q.key) m.setup.project place ∙ ap (λ o. option_map (λ (q : Project). q.key) o) found.1))

    spelled_same : (project : List ℕ) (given : List GivenField) → create_refusal m user project given ≡ None
        → next_key new (spelled_key m project) ≡ next_key m (spelled_key m project)
    spelled_same project given none =
        let named : Option ℕ = place_named project (project_keys m.setup) in
        let unknown : Option Cause = unless_known named (cause.Unknown thing.Project project) in
        let browse : Option Cause = permission_refusal m user permission.Browse named in
        let create : Option Cause = permission_refusal m user permission.Create named in
        let closed : Option Cause = closed_refusal m given None in
        let place : (k : ℕ) × (named ≡ Some k) = known named (cause.Unknown thing.Project project) (first_none unknown (or_then (set_refusal m given) (or_then browse (or_then create closed))) none) in
        let passes : permission_refusal m user permission.Browse (Some place.0) ≡ None =
        subst (λ o. permission_refusal m user permission.Browse o ≡ None) place.1 (third_none unknown (set_refusal m given) browse create closed none) in
        let p = project_at place.0 (place_below project (project_keys m.setup) place.0 place.1) in
        let spelled : spelled_key m project ≡ p.0.key = ap (λ o. name_at (project_keys m.setup) (unwrap_or o 0)) place.1 ∙ p.2 in
        subst (λ k. next_key new k ≡ next_key m k) (sym spelled)
        (same_next place.0 p.0 p.1 (is_met (may m.setup user permission.Browse (Some place.0)) _ passes))

    create_same : (project issue_type summary : List ℕ) (given : List GivenField) (external : Option (List ℕ))
        → issues_refusal new ≡ issues_refusal m → bytes_refusal new ≡ bytes_refusal m → issue_called new external ≡ issue_called m external
        → HasRoom (reply_to (create_meaning m user project issue_type summary given external))
        → HasRoom (reply_to (create_meaning new user project issue_type summary given external))
        → reply_to (create_meaning new user project issue_type summary given external) ≡ reply_to (create_meaning m user project issue_type summary given external)
    create_same project issue_type summary given external issues bytes called =
        let key : List ℕ = spelled_key m project in
        rw called
        (room_unless itself (create_refusal m user project given) (create_or_tell m user key issue_type summary given external (issue_called m external))
        (create_or_tell new user key issue_type summary given external (issue_called m external))
        (λ none. by (spelled_same project given none) (issue_called m external)))
      where
        by : next_key new (spelled_key m project) ≡ next_key m (spelled_key m project) → (o : Option History)
            → HasRoom (reply_to (create_or_tell m user (spelled_key m project) issue_type summary given external o))
            → HasRoom (reply_to (create_or_tell new user (spelled_key m project) issue_type summary given external o))
            → reply_to (create_or_tell new user (spelled_key m project) issue_type summary given external o)
            ≡ reply_to (create_or_tell m user (spelled_key m project) issue_type summary given external o)
        by next None = created_same project issue_type summary given external (spelled_key m project) next issues bytes
        by next (Some h) = λ room more. refl

    given_same : (c : Call) (external : Option (List ℕ)) → external_given c ≡ Some external
        → issues_refusal new ≡ issues_refusal m → bytes_refusal new ≡ bytes_refusal m → issue_called new external ≡ issue_called m external
        → HasRoom (reply_to (meaning_for m user c)) → HasRoom (reply_to (meaning_for new user c)) → reply_to (meaning_for new user c) ≡ reply_to (meaning_for m user c)
    unfolding meaning_for
    given_same (call.Create project issue_type summary given own) external is_given issues bytes called =
        create_same project issue_type summary given own issues bytes
        (subst (λ e. issue_called new e ≡ issue_called m e) (sym (same_Some own external is_given)) called)
    given_same _ external is_given issues bytes called = absurd (none-some external is_given)

pub creates_tell_of_the_seen : CreatesTellOfTheSeen
creates_tell_of_the_seen m other caller c external is is_too sound alike is_given create =
    subst
    (λ o. SeemAlike (user_of m caller) m o → IsTracker o → issues_refusal o ≡ issues_refusal m → bytes_refusal o ≡ bytes_refusal m → issue_called o external ≡ issue_called m external
    → HasRoom (reply_of m caller c) → HasRoom (reply_of o caller c) → reply_of o caller c ≡ reply_of m caller c)
    (sym (agreeing (sees m.setup (user_of m caller)) m other alike
    ∙ ap₂ (λ (change : ℕ) (sprints : List Sprint). varied m other.text change other.histories other.externals other.order other.balance sprints) create.counts.change create.counts.sprints))
    (λ seem tracker issues bytes called.
    in_room m other.text m.change other.histories other.externals other.order other.balance m.sprints itself caller c
    (given_same m other.text other.histories other.externals other.order other.balance (user_of m caller) seem sound is tracker c external is_given issues bytes called))
    alike is_too create.issues create.counts.bytes create.called

-- ---- a move

-- an issue of a key in one tracker, and the one of the same key in the other, are two that the caller may not browse
record AreUnseen (m : Machine) (user : ℕ) (o p : Option History) : Type 0 where
  here : History
  there : History
  o_is : o ≡ Some here
  p_is : p ≡ Some there
  hidden : sees m.setup user here ≡ false
  project : project_number m.setup there ≡ project_number m.setup here

-- or they are one and the same, or neither is there
abbrev AreAlikeTo : Machine → ℕ → Option History → Option History → Type 0
AreAlikeTo m user o p = (p ≡ o) ⊎ AreUnseen m user o p

are_alike : (m other : Machine) (user : ℕ) (issue : List ℕ) → SeemAlike user m other → has_issue_named other issue ≡ has_issue_named m issue
    → (o p : Option History) → history_named m issue ≡ o → history_named other issue ≡ p → AreAlikeTo m user o p
are_alike m other user issue alike both None None here there = inl refl
are_alike m other user issue alike both None (Some g) here there = absurd (true≢false (sym (ap is_some there) ∙ both ∙ ap is_some here))
are_alike m other user issue alike both (Some h) None here there = absurd (true≢false (sym (ap is_some here) ∙ sym both ∙ ap is_some there))
are_alike m other user issue alike both (Some h) (Some g) here there = elim (cases_Bool (sees m.setup user h)) [
  | inl seen ↦ inl (sym there ∙ seen_issues_are_there m other user issue h alike here seen)
  | inr unseen ↦
      let key : g.key ≡ h.key = has_key issue other.histories g (sym (named_is other issue) ∙ there) ∙ sym (has_key issue m.histories h (sym (named_is m issue) ∙ here)) in
      inr (record { here = h; there = g; o_is = refl; p_is = refl; hidden = unseen; project = number_by_key m.setup g h key })
]

module _ (m : Machine) (user : ℕ) where
  -- whether the issue may be browsed is the same of both
  browse_alike : (o p : Option History) → AreAlikeTo m user o p → access_refusal m user permission.Browse p ≡ access_refusal m user permission.Browse o
  browse_alike o p (inl same) = ap (access_refusal m user permission.Browse) same
  browse_alike o p (inr u) =
      ap (access_refusal m user permission.Browse) u.p_is ∙ ap (permission_refusal m user permission.Browse) u.project ∙ sym (ap (access_refusal m user permission.Browse) u.o_is)

  then_refused : (rest other : Option Cause) (b : Bool) (why : Cause) → b ≡ false → or_then (only_if b why) rest ≡ or_then (only_if b why) other
  then_refused rest other true why fails = absurd (true≢false fails)
  then_refused rest other false why fails = refl

  -- and where it may, so is any check behind that
  browse_then : (o p : Option History) → AreAlikeTo m user o p → (rest : Option History → Option Cause)
      → or_then (access_refusal m user permission.Browse p) (rest p) ≡ or_then (access_refusal m user permission.Browse o) (rest o)
  browse_then o p (inl same) rest = ap (λ (q : Option History). or_then (access_refusal m user permission.Browse q) (rest q)) same
  browse_then o p (inr u) rest =
      ap (λ r. or_then r (rest p)) (browse_alike o p (inr u))
      ∙ ap (λ (q : Option History). or_then (access_refusal m user permission.Browse q) (rest p)) u.o_is
      ∙ then_refused (rest p) (rest (Some u.here)) (sees m.setup user u.here) _ u.hidden
      ∙ sym (ap (λ (q : Option History). or_then (access_refusal m user permission.Browse q) (rest q)) u.o_is)

-- what is told of a move beside its rank
moved_reply : (m : Machine) (name : List ℕ) (place : IssueNo → Place) (o p : Option History) → HasRoom (reply_to (moved_beside m name place o p))
    → without_ranks (reply_to (moved_beside m name place o p)) ≡ reply.Ok (answer.Move name [])
moved_reply m name place None p room = refl
moved_reply m name place (Some h) None room = refl
moved_reply m name place (Some h) (Some o) room =
    given_reply without_ranks (moved_rank m h.no (place o.no)) (newly_ranked m name h.no) (reply.Ok (answer.Move name [])) (λ rank. by (has_rank m.order h.no rank) rank) room
  where
    by : (b : Bool) (rank : RankParts)
        → without_ranks (reply_to (if b then Tells (move_answer name rank) else Makes (move_answer name rank) (NewRank h.no rank))) ≡ reply.Ok (answer.Move name [])
    by true rank = refl
    by false rank = refl

abbrev first_key : Option (List ℕ × List ℕ) → List ℕ
first_key o = option_map_or (λ (x : List ℕ × List ℕ). x.0) o []

abbrev second_key : Option (List ℕ × List ℕ) → List ℕ
second_key o = option_map_or (λ (x : List ℕ × List ℕ). x.1) o []

module _ (m : Machine) (text : List ℕ) (change : ℕ) (hs : List History) (externals : List ExternalId) (order : List Pair) (balance : Balance) (sprints : List Sprint) where
  abbrev other : Machine
  other = varied m text change hs externals order balance sprints

  access_other : (user : ℕ) (p : Permission) (o : Option History) → access_refusal other user p o ≡ access_refusal m user p o
  access_other user p None = refl
  access_other user p (Some h) = refl

  module _ (user : ℕ) (alike : SeemAlike user m other) where
    known_in_both : (issue : List ℕ) → has_issue_named other issue ≡ has_issue_named m issue
        → unless_known (place_of_issue issue hs) (cause.Unknown thing.Issue issue) ≡ unless_known (place_of_issue issue m.histories) (cause.Unknown thing.Issue issue)
    known_in_both issue both =
        known_alike (place_of_issue issue hs) (place_of_issue issue m.histories) (cause.Unknown thing.Issue issue)
        (place_is_there other issue ∙ both ∙ sym (place_is_there m issue))

    move_refusal_alike : (issue beside : List ℕ) → has_issue_named other issue ≡ has_issue_named m issue → has_issue_named other beside ≡ has_issue_named m beside
        → move_refusal other user issue beside ≡ move_refusal m user issue beside
    move_refusal_alike issue beside both both_too =
        let o : Option History = history_named m issue in
        let p : Option History = history_named other issue in
        let q : Option History = history_named m beside in
        let r : Option History = history_named other beside in
        let rank : Option History → Option Cause = access_refusal m user permission.Rank in
        let browse : Option History → Option Cause = access_refusal m user permission.Browse in
        ap₂ or_then (known_in_both issue both)
        (ap₂ or_then (known_in_both beside both_too)
        (ap₂ or_then (access_other user permission.Browse p) (ap₂ or_then (access_other user permission.Rank p) (access_other user permission.Browse r))
        ∙ browse_then m user o p (are_alike m other user issue alike both o p refl refl) (λ x. or_then (rank x) (browse r))
        ∙ ap (λ x. or_then (browse o) (or_then (rank o) x)) (browse_alike m user q r (are_alike m other user beside alike both_too q r refl refl))))

    move_alike : (issue beside : List ℕ) (place : IssueNo → Place) → has_issue_named other issue ≡ has_issue_named m issue → has_issue_named other beside ≡ has_issue_named m beside
        → HasRoom (reply_to (move_meaning m user issue beside place)) → HasRoom (reply_to (move_meaning other user issue beside place))
        → without_ranks (reply_to (move_meaning other user issue beside place)) ≡ without_ranks (reply_to (move_meaning m user issue beside place))
    move_alike issue beside place both both_too =
        let first : Meaning = unless (move_refusal m user issue beside) (moved_beside m issue place (history_named m issue) (history_named m beside)) in
        let second : Meaning = moved_beside other issue place (history_named other issue) (history_named other beside) in
        subst
        (λ r. HasRoom (reply_to first) → HasRoom (reply_to (unless r second)) → without_ranks (reply_to (unless r second)) ≡ without_ranks (reply_to first))
        (sym (move_refusal_alike issue beside both both_too))
        (room_unless without_ranks (move_refusal m user issue beside) (moved_beside m issue place (history_named m issue) (history_named m beside)) second
        (λ none room more.
        moved_reply other issue place (history_named other issue) (history_named other beside) more
        ∙ sym (moved_reply m issue place (history_named m issue) (history_named m beside) room)))

    placed_alike : (c : Call) (issue beside : List ℕ) → issues_placed c ≡ Some (issue, beside) → has_issue_named other issue ≡ has_issue_named m issue
        → has_issue_named other beside ≡ has_issue_named m beside
        → HasRoom (reply_to (meaning_for m user c)) → HasRoom (reply_to (meaning_for other user c))
        → without_ranks (reply_to (meaning_for other user c)) ≡ without_ranks (reply_to (meaning_for m user c))
    unfolding meaning_for
    placed_alike (call.MoveBefore one two) issue beside is both both_too =
        move_alike one two Before (subst (λ k. has_issue_named other k ≡ has_issue_named m k) (sym (ap first_key is)) both)
        (subst (λ k. has_issue_named other k ≡ has_issue_named m k) (sym (ap second_key is)) both_too)
    placed_alike (call.MoveAfter one two) issue beside is both both_too =
        move_alike one two After (subst (λ k. has_issue_named other k ≡ has_issue_named m k) (sym (ap first_key is)) both)
        (subst (λ k. has_issue_named other k ≡ has_issue_named m k) (sym (ap second_key is)) both_too)
    placed_alike _ issue beside is both both_too = absurd (none-some (issue, beside) is)

pub moves_tell_of_the_seen : MovesTellOfTheSeen
moves_tell_of_the_seen m other caller c issue beside alike is both both_too =
    subst
    (λ o. SeemAlike (user_of m caller) m o → has_issue_named o issue ≡ has_issue_named m issue → has_issue_named o beside ≡ has_issue_named m beside
    → HasRoom (reply_of m caller c) → HasRoom (reply_of o caller c) → without_ranks (reply_of o caller c) ≡ without_ranks (reply_of m caller c))
    (sym (agreeing (sees m.setup (user_of m caller)) m other alike))
    (λ seem there there_too.
    in_room m other.text other.change other.histories other.externals other.order other.balance other.sprints without_ranks caller c
    (placed_alike m other.text other.change other.histories other.externals other.order other.balance other.sprints (user_of m caller) seem c issue beside is there there_too))
    alike both both_too
