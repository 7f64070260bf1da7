use Rattle.std.proofs.Common.{◌≡◌, ◌<◌, List, length, sym, ap, subst, ◌∙◌}
use Rattle.change_history.specs.declared.entry.Entry.{Entry}
use Rattle.change_history.specs.History.{RoomyHistory}
use Rattle.change_history.specs.Places.{value_at}
use Rattle.change_history.proofs.Present.{last_within, present-changed, present-opened}
use Rattle.change_history.proofs.issue.Issue.value.Goals as goal

pub value_at-requires : goal.value_at-requires
value_at-requires c =
    let entries : c.deref.result.now ≡ c.args.self.now.history.entries =
    c.deref.ensures.value ∙ ap (λ (k : RoomyHistory). k.history.entries) c.self.view_is in
    subst (λ (es : List Entry). c.in-Some.at < length es) (sym entries) (last_within c.args.self.now.history.entries c.args.field c.in-Some.at (sym c.in-Some.ensures))

pub returns-in-Some : goal.returns-in-Some
returns-in-Some c =
    c.value_at.ensures
    ∙ ap (λ (es : List Entry). value_at es c.in-Some.at) c.deref.ensures.value
    ∙ ap (λ (k : RoomyHistory). value_at k.history.entries c.in-Some.at) c.self.view_is
    ∙ present-changed c.args.self.now.history c.args.field c.in-Some.at (sym c.in-Some.ensures)

pub returns-in-None : goal.returns-in-None
returns-in-None c = c.opening.ensures ∙ present-opened c.args.self.now.history c.args.field (sym c.in-None.ensures)
