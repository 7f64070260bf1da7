-- Which parts may be kept, and which rows are theirs.
use Rattle.std.specs.Prelude.{◌≡◌, ℕ, List, map, Ok}
use Rattle.field_values.specs.Parts.{Parts}
use Rattle.fields.specs.Sound.{part_names}
use Rattle.setup_reading.specs.Reading.{setup_in}
use Rattle.rank_strings.specs.Rank.{IsRank}
use Rattle.tracker_keeper.specs.declared.part.Part.{Part}
use Rattle.tracker_keeper.specs.declared.part.Part.TheVariants as part
use Rattle.tracker_keeper.specs.Parts.{part_kind, part_number}
use Rattle.tracker_keeper.specs.Bodies.{body_text}
use Rattle.tracker_keeper.specs.Forms.{IsNumber, IsPresentPart, IsIssuePart, IsGroupPart, IsExternalPart, IsSprintPart, IsFilterPart, IsBoardPart, IsMembersPart}

-- the keys of the setup's projects
abbrev pub part_keys : Parts → List (List ℕ)
part_keys setup = map (λ p. p.key) setup.project

-- a setup is read from the text
abbrev pub IsSetupText : List ℕ → Type 0
IsSetupText text = (parts : Parts) × (setup_in text ≡ Ok parts)

-- all that the part names of the setup is in it, each value is empty or fits its field, its number is one of its kind, and
-- its names and texts have their forms
unfoldable pub IsPart : Parts → Part → Type 0
IsPart setup (part.Setup text) = IsSetupText text
IsPart setup (part.Present balance change format moment) = IsPresentPart balance change moment
IsPart setup (part.Issue row_no key change at author values) =
    IsIssuePart (part_names setup) (part_keys setup) row_no.0 key change at author values
IsPart setup (part.Group issue group) =
    IsGroupPart (part_names setup) issue.0 group.change group.at group.author group.entries
IsPart setup (part.Rank issue rank) = IsNumber issue.0 × IsRank rank
IsPart setup (part.External issue external) = IsExternalPart issue.0 external
IsPart setup (part.Sprint row_no sprint) = IsSprintPart row_no.0 sprint.name sprint.state
IsPart setup (part.Filter row_no owner name jql) = IsFilterPart setup.users row_no.0 owner name
IsPart setup (part.Board row_no name filter) = IsBoardPart row_no.0 name filter.0
IsPart setup (part.Members group members) =
    IsMembersPart setup.users (map (λ g. g.name) setup.group) group.0 members

-- the part is of that kind and has that number
pub record IsPartAt (setup : Parts) (kind row_no : ℕ) (p : Part) : Type 0 where
  pub is_part : IsPart setup p
  pub kind_is : part_kind p ≡ kind
  pub number_is : part_number p ≡ row_no

-- the row of a part: its kind, its number and its one text
pub record IsRowOf (setup : Parts) (kind row_no : ℕ) (body : List ℕ) (p : Part) : Type 0 where
  pub at : IsPartAt setup kind row_no p
  pub text_is : body_text (part_names setup) p ≡ body

-- of one row there is at most one part
abbrev pub TellsItsPart : Parts → Type 0
TellsItsPart setup = (kind row_no : ℕ) (body : List ℕ) (one other : Part)
    → IsRowOf setup kind row_no body one → IsRowOf setup kind row_no body other → one ≡ other
