-- Records and their texts.
use Rattle.std.proofs.Common.{◌≡◌, List, [], ◌∷◌, ℕ, codes, Some, None, pos, refl}
use Rattle.std.specs.Fmt.{digits}
use Rattle.csv.specs.Writing.{escaped, fields_text, is_blank}
use Rattle.field_values.specs.declared.numbers.FieldNo.{FieldNo}
use Rattle.field_values.specs.declared.numbers.TheConstants.FieldNo as number
use Rattle.field_values.specs.declared.value.Value.{Value}
use Rattle.field_values.specs.declared.value.Value.TheVariants as value
use Rattle.field_forms.specs.Known.{Names, choices_of}
use Rattle.field_forms.specs.Numbers.{number_text}
use Rattle.civil_dates.specs.DateText.{date_text}
use Rattle.change_history.specs.declared.change.Change.{Change}
use Rattle.change_history.specs.History.{History}
use Rattle.issue_csv.specs.Writing.{header_text, issue_text}

pub the_header : header_text ≡ codes "key,external,project,type,summary,status,assignee,reporter,priority,resolution,points,due\n"
unfolding fields_text escaped is_blank
the_header = refl

abbrev names : Names
names = record {
  users = codes "anna" ∷ codes "bo" ∷ [];
  types = codes "Task" ∷ codes "Bug" ∷ [];
  statuses = codes "Open" ∷ [];
  priorities = codes "High" ∷ codes "Low" ∷ [];
  resolutions = codes "Fixed" ∷ [];
  versions = [];
  groups = [];
  fields = [];
}

abbrev opened : FieldNo → Value → Change
opened f v = record { field = f; to = v }

abbrev moved : List ℕ → History
moved summary = record {
  no = record { 0 = 1 };
  key = codes "OPS-1";
  change = 1;
  at = 0;
  author = record { 0 = 0 };
  opening =
      opened number.TYPE (value.Choice (record { 0 = 0 })) ∷ opened number.SUMMARY (value.Text summary)
      ∷ opened number.STATUS (value.Choice (record { 0 = 0 })) ∷ opened number.ASSIGNEE (value.User (record { 0 = 1 }))
      ∷ opened number.REPORTER (value.User (record { 0 = 0 })) ∷ opened number.PRIORITY (value.Choice (record { 0 = 0 }))
      ∷ opened number.POINTS (value.Number (pos 1000)) ∷ opened number.DUE (value.Date (record { 0 = pos 19_814 })) ∷ [];
  entries = [];
}

pub an_issue : date_text (pos 19_814) ≡ codes "2024-04-01"
    → issue_text names (moved (codes "Move desks")) (Some (codes "X-1"))
    ≡ codes "OPS-1,X-1,OPS,Task,Move desks,Open,bo,anna,High,,1,2024-04-01\n"
unfolding fields_text escaped is_blank choices_of number_text digits
an_issue day = rw day refl

-- in quotes only where needed
pub in_quotes : date_text (pos 19_814) ≡ codes "2024-04-01"
    → issue_text names (moved (codes "Move \"old\" desks, chairs")) None
    ≡ codes "OPS-1,,OPS,Task,\"Move \"\"old\"\" desks, chairs\",Open,bo,anna,High,,1,2024-04-01\n"
unfolding fields_text escaped is_blank choices_of number_text digits
in_quotes day = rw day refl
