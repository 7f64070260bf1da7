use Rattle.std.proofs.Common.{◌≤◌, ◌+◌, ℕ, List, slice_get, ap, sym, ◌∙◌, arith}
use Rattle.std.proofs.lemmas.List.{length-map}
use Rattle.tracker_limits.specs.Limits.{most_issues}
use Rattle.fields.specs.SetupParts.{parts}
use Rattle.fields.specs.Naming.{name_at}
use Rattle.change_history.specs.History.{History, RoomyHistory, histories_of}
use Rattle.tracker_machine.specs.Known.{project_keys, issues_of}
use Rattle.tracker_machine.proofs.Settled.{from_found}
use Rattle.tracker_issues.specs.Counts.{counts_of}
use Rattle.tracker_issues.proofs.Counts.{few_counted, count_here, number_is}
use Rattle.tracker_loading.proofs.keys.next_number.Goals as goal

pub overflow_add-result : goal.overflow_add-result
overflow_add-result c =
    let ps = (parts c.args.setup.now).project in
    let kept = c.args.issues.now.kept in
    let hs : List History = histories_of kept in
    let few : c.count_in.result ≤ most_issues =
    from_found (slice_get (counts_of ps hs) c.args.project.0) c.count_in.result (λ n. n ≤ most_issues)
    (sym (c.count_in.ensures ∙ ap (λ (ns : List ℕ). slice_get ns c.args.project.0) c.requires.counted.counted))
    (few_counted ps hs c.args.project.0 (λ n. n ≤ most_issues) (λ n le. omega (arith, le, c.requires.few, length-map kept (λ (i : RoomyHistory). i.history)))) in
    omega (arith, few)

pub returns : goal.returns
returns c =
    let ps = (parts c.args.setup.now).project in
    let hs : List History = histories_of c.args.issues.now.kept in
    ap (λ n. n + 1) (number_is c.count_in.result (issues_of (name_at (project_keys (parts c.args.setup.now)) c.args.project.0) hs)
    (c.count_in.ensures ∙ ap (λ (ns : List ℕ). slice_get ns c.args.project.0) c.requires.counted.counted ∙ count_here ps hs c.args.project.0 c.requires.there))
