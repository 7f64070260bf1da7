use Rattle.std.proofs.Common.{◌≡◌, ◌<◌, IfSome, length, rules, sym, subst}
use Rattle.tracker_machine.specs.Known.{place_of_issue}
use Rattle.change_history.specs.History.{histories_of}
use Rattle.tracker_issues.proofs.Keys.{place_within}
use Rattle.tracker_issues.proofs.issues.Issues.place_of.Goals as goal

pub returns-clause-there : goal.returns-clause-there
returns-clause-there c =
    let kept = c.args.self.now.kept in
    let is : c.copied.result ≡ place_of_issue c.args.key.now (histories_of kept) = search rules in
    subst (λ o. IfSome o (λ place. place < length kept)) (sym is) (place_within c.args.key.now kept)
