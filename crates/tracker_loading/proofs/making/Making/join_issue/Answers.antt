use Rattle.std.proofs.Common.{◌≡◌, ◌<◌, ◌+◌, ◌∷◌, ◌++◌, [], ℕ, List, slice_get, set, IfSome, ap, sym, subst, ◌∙◌, arith}
use Rattle.field_values.specs.declared.numbers.ProjectNo.{ProjectNo}
use Rattle.change_history.specs.History.{History, RoomyHistory, histories_of}
use Rattle.tracker_machine.specs.Machine.{Machine}
use Rattle.tracker_machine.proofs.Settled.{from_found}
use Rattle.tracker_issues.specs.Counts.{Tally}
use Rattle.tracker_issues.proofs.Counts.{few_counted}
use Rattle.tracker_issues.proofs.Histories.{histories_push}
use Rattle.tracker_rows.specs.Rules.{MayBeIssue}
use Rattle.std.specs.BTreeSet.{keys}
use Rattle.tracker_loading.specs.Making.{IsMaking}
use Rattle.tracker_loading.specs.Rules.{MayStand, IsKeyAt}
use Rattle.tracker_loading.specs.contracts.making.Making.{the_view}
use Rattle.tracker_loading.proofs.Joined.{issue_made}
use Rattle.tracker_loading.proofs.ProjectKeys.{next_from}
use Rattle.tracker_loading.proofs.making.Making.join_issue.Goals as goal

pub push-requires-clause-countable : goal.push-requires-clause-countable
push-requires-clause-countable c =
    let m : Machine = the_view c.self.inside in
    let place : ℕ = c.in-Some.project.0 in
    let may : MayStand m c.args.issue.history = subst (λ (o : Machine). MayStand o c.args.issue.history) (sym c.self.view_is) (c.may_stand.ensures.0 c.if-not-may_stand.false) in
    subst (λ (ns : List ℕ). IfSome (slice_get ns place) (λ n. n + 1 < 4294967296)) (sym (ap (λ (t : Tally). t.counts) c.reserve.ensures.tally ∙ c.self.invariant.counted.counted))
    (few_counted m.setup.project m.histories place (λ n. n + 1 < 4294967296) (λ n le. omega (arith, le, may.few)))

pub invariant_of-self-2 : goal.invariant_of-self-2
invariant_of-self-2 c =
    let m : Machine = the_view c.self.inside in
    let h : History = c.args.issue.history in
    let place : ℕ = c.in-Some.project.0 in
    let tally : Tally = c.self.inside.issues.tally in
    let new : Tally = c.push.new.self.tally in
    let may : MayStand m h = subst (λ (o : Machine). MayStand o h) (sym c.self.view_is) (c.may_stand.ensures.0 c.if-not-may_stand.false) in
    let key : IsKeyAt m.setup m.histories h.key place =
    subst (λ (k : List ℕ). IsKeyAt m.setup m.histories k place) (c.as_str-key.ensures ∙ c.key.ensures)
    (from_found c.in_ok-project.field-0 c.in-Some.project (λ (no : ProjectNo). IsKeyAt m.setup m.histories c.as_str-key.result.now no.0) c.in-Some.is c.in_ok-project.ensures.found) in
    let count : IfSome (slice_get tally.counts place) (λ n. new.counts ≡ set tally.counts place (n + 1)) =
    subst (λ (t : Tally). IfSome (slice_get t.counts place) (λ n. new.counts ≡ set t.counts place (n + 1))) c.reserve.ensures.tally c.push.ensures.counts in
    let noted : new.projects ≡ tally.projects ++ c.in-Some.project ∷ [] =
    c.push.ensures.projects ∙ ap (λ (t : Tally). t.projects ++ c.in-Some.project ∷ []) c.reserve.ensures.tally in
    let histories : histories_of c.push.new.self.kept ≡ m.histories ++ h ∷ [] =
    ap histories_of c.push.ensures.kept ∙ histories_push c.reserve.new.self.kept c.args.issue ∙ ap (λ (is : List RoomyHistory). histories_of is ++ h ∷ []) c.reserve.ensures.kept in
    subst (λ (hs : List History). IsMaking (record m { histories = hs }) new c.self.inside.ranks.items c.self.inside.filters.items (keys c.self.inside.taken) c.self.inside.group_at) (sym histories)
    (issue_made m tally new c.self.inside.ranks.items c.self.inside.filters.items (keys c.self.inside.taken) c.self.inside.group_at c.self.invariant
    h c.in-Some.project c.self.inside.setup.sound key c.requires.new may.rising may.turn count noted)

pub returns-clause-good : goal.returns-clause-good
returns-clause-good c =
    let m : Machine = the_view c.self.inside in
    let h : History = c.args.issue.history in
    let place : ℕ = c.in-Some.project.0 in
    let stands : MayStand m h = subst (λ (o : Machine). MayStand o h) (sym c.self.view_is) (c.may_stand.ensures.0 c.if-not-may_stand.false) in
    let key : IsKeyAt m.setup m.histories h.key place =
    subst (λ (k : List ℕ). IsKeyAt m.setup m.histories k place) (c.as_str-key.ensures ∙ c.key.ensures)
    (from_found c.in_ok-project.field-0 c.in-Some.project (λ (no : ProjectNo). IsKeyAt m.setup m.histories c.as_str-key.result.now no.0) c.in-Some.is c.in_ok-project.ensures.found) in
    let may : MayBeIssue m h = record {
      few = stands.few;
      no = stands.no;
      key = next_from m.setup m.histories h.key place key;
      rising = stands.rising;
      turn = stands.turn;
      named = stands.named;
      light = stands.light;
    } in
    let histories : histories_of c.push.new.self.kept ≡ m.histories ++ h ∷ [] =
    ap histories_of c.push.ensures.kept ∙ histories_push c.reserve.new.self.kept c.args.issue ∙ ap (λ (is : List RoomyHistory). histories_of is ++ h ∷ []) c.reserve.ensures.kept in
    λ is. (
      subst (λ (o : Machine). MayBeIssue o h) c.self.view_is may,
      ap (λ (hs : List History). record m { histories = hs }) histories ∙ ap (λ (o : Machine). record o { histories = o.histories ++ h ∷ [] }) c.self.view_is,
    )
