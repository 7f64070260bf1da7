use Rattle.std.proofs.Common.{◌≡◌, ◌<◌, ◌-◌, List, length, slice_get, Some, ap, sym, subst, ◌∙◌, ltb-true, arith}
use Rattle.std.specs.Option.{option_copied}
use Rattle.std.proofs.lemmas.Bool.Decides.{nat_tests}
use Rattle.change_history.specs.History.{RoomyHistory}
use Rattle.tracker_loading.proofs.Turns.{last_rises, last_less}
use Rattle.tracker_loading.proofs.join_issue.is_last.Goals as goal

pub returns-in-Some : goal.returns-in-Some
returns-in-Some c =
    let is = c.args.issues.now.kept in
    let last : RoomyHistory = c.in-Some.last.now in
    let change = c.args.change in
    let at : slice_get is (length is - 1) ≡ Some last =
    ap (λ (xs : List RoomyHistory). slice_get xs (length xs - 1)) (sym c.as_slice.ensures) ∙ sym c.last.ensures.value ∙ ap option_copied c.in-Some.is in
    let own : c.change.result ≡ last.history.change = c.change.ensures in (
      λ t. last_rises is last change c.requires at (subst (λ n. n < change) own (ltb-true c.change.result change t)),
      λ all. let less = last_less is last change at all in grind (arith, nat_tests, less, own),
    )
