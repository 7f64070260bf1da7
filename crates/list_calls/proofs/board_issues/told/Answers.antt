use Rattle.std.proofs.Common.{◌≡◌, ℕ, List, length, map, ap, sym, ◌∙◌, Bor}
use Rattle.field_values.specs.declared.status.Status.{Status}
use Rattle.field_values.specs.Parts.{Parts}
use Rattle.change_history.specs.declared.issue.Issue.{Issue}
use Rattle.change_history.specs.History.{History}
use Rattle.tracker_calls.specs.Part.{part_of}
use Rattle.tracker_calls.specs.declared.reply.Answer.TheVariants as answer
use Rattle.tracker_calls.specs.declared.reply.Column.{Column}
use Rattle.tracker_machine.specs.Boards.{by_rank, columns_from}
use Rattle.list_calls.proofs.Parted.{part_of-map}
use Rattle.list_calls.proofs.board_issues.told.Goals as goal

both : (cs ds : List Column) (n m : ℕ) → cs ≡ ds → n ≡ m → answer.Board cs n ≡ answer.Board ds m
both cs ds n m e f = ap (λ v. answer.Board v n) e ∙ ap (answer.Board ds) f

pub returns : goal.returns
returns c =
    let history : Bor Issue → History = λ i. i.now.history in
    let m = c.args.state.now.machine in
    let part = c.args.part in
    let shown = c.part_of.result.now in
    let statuses = c.as_slice.ensures ∙ ap (λ (p : Parts). p.status) c.setup.ensures in
    let ranked = c.in_ok-put_by_rank.ensures ∙ ap (by_rank m.order) c.in_ok-issues.ensures in
    let cut = ap (map history) (c.part_of.ensures ∙ ap (part_of part) c.deref-2.ensures.value) ∙ sym (part_of-map history part c.put_by_rank.new.issues.items) ∙ ap (part_of part) ranked in
    let columns = c.in_ok-columns.ensures ∙ ap (λ (ss : List Status). columns_from 0 ss (map history shown)) statuses
    ∙ ap (λ (hs : List History). columns_from 0 m.setup.status hs) cut in
    let total = c.count_of-total.ensures ∙ ap (λ is. length (map history is)) c.deref.ensures.value ∙ ap length c.in_ok-issues.ensures in
    both _ _ _ _ columns total
