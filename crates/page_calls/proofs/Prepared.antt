-- What a list means where nothing refuses it.
use Rattle.std.proofs.Common.{◌≡◌, ℕ, List, Option, Some, None, Ok, ap, sym, ◌∙◌}
use Rattle.tracker_calls.specs.declared.call.Part.{Part}
use Rattle.tracker_calls.specs.declared.reply.Answer.{Answer}
use Rattle.tracker_machine.specs.Machine.{Machine}
use Rattle.tracker_machine.specs.Query.{Query, asked}
use Rattle.tracker_machine.specs.IssueList.{fields_refusal, wanted_fields, list_answer, list_meaning}
use Rattle.tracker_state.specs.Plan.{told}

pub list_told : (m : Machine) (caller : ℕ) (jql : List ℕ) (fields : Option (List (List ℕ))) (part : Part) (numbers : List ℕ) (query : Query) (a : Answer)
    → fields_refusal m.setup.field fields ≡ None → asked m.setup caller jql ≡ Ok query → numbers ≡ wanted_fields m.setup.field fields
    → a ≡ list_answer m caller numbers part query → told (list_meaning m caller jql fields part) ≡ Some a
unfolding list_meaning
list_told m caller jql fields part numbers query a none asks wanted is =
    rw (none, asks) (ap (λ (ns : List ℕ). Some (list_answer m caller ns part query)) (sym wanted) ∙ ap Some (sym is))
