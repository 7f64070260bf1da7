use Rattle.std.proofs.Common.{◌<◌, List, length, Option, IfSome, ◌∙◌, ap, sym, subst, arith}
use Rattle.std.specs.Prelude.{sum_by}
use Rattle.std.proofs.lemmas.Option.{slice_get_within}
use Rattle.field_values.specs.declared.numbers.UserNo.{UserNo}
use Rattle.change_history.specs.declared.entry.Entry.{Entry}
use Rattle.change_history.specs.History.{History, MayAdd}
use Rattle.burndown.specs.declared.share.Share.{Share}
use Rattle.wanted_values.specs.InSprints.{sprint_after}
use Rattle.wanted_values.proofs.InSprints.{in_sprint_after}
use Rattle.tracker_machine.specs.Tracker.{AllSmall, MayGroup}
use Rattle.tracker_machine.specs.Checks.{entry_bytes}
use Rattle.issue_calls.proofs.group.due_of_some.Goals as goal

pub returns-clause-due : goal.returns-clause-due
returns-clause-due c =
    let m = c.args.state.now.machine in
    let h = c.args.found.issue.now.history in
    let place = c.args.found.place in
    let g = c.in_ok-group.group in
    let is = c.in_ok-group.ensures in
    let may = c.requires.may in
    let allowed : MayGroup m place g = record {
      there = slice_get_within m.histories place h may.there;
      few = omega (arith, may.few, is.few);
      change = is.change;
      at = is.at;
      group = subst (λ (o : Option History). IfSome o (λ i. MayAdd i g.change g.at g.author g.entries)) (sym may.there) is.may;
      fitting = is.fitting;
      small = subst (λ (es : List Entry). AllSmall es) c.as_slice.ensures c.bytes_of_entries-bytes.ensures.small;
      sprints = is.sprints;
      author = subst (λ (user : UserNo). user.0 < length m.setup.users) (sym is.author) may.author;
      light = omega (arith, may.light, is.light);
    } in
    record {
      there = may.there;
      allowed = allowed;
      bytes = c.bytes_of_entries-bytes.ensures.sum ∙ ap (λ (es : List Entry). sum_by entry_bytes es) c.as_slice.ensures;
      row = c.in_ok-row.ensures;
      before = ap (λ (share : Share). share.sprint) c.share-before.ensures;
      after = c.sprint_after-after.ensures ∙ ap (λ (es : List Entry). sprint_after c.share-before.result.sprint es) c.as_slice-2.ensures
          ∙ ap (λ (share : Share). sprint_after share.sprint g.entries) c.share-before.ensures ∙ sym (in_sprint_after h g.entries);
    }
