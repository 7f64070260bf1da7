-- A setup by its keys: who and what there is, and who may do what.
use Rattle.std.specs.Prelude.{ℕ, List, ℤ}
use Rattle.field_values.specs.declared.words.Weekday.{Weekday}
use Rattle.field_values.specs.declared.numbers.UserNo.{UserNo}
use Rattle.field_values.specs.declared.numbers.GroupNo.{GroupNo}
use Rattle.field_values.specs.declared.numbers.ChoiceNo.{ChoiceNo}
use Rattle.field_values.specs.declared.parts.Group.{Group}
use Rattle.field_values.specs.declared.parts.Project.{Project}
use Rattle.field_values.specs.declared.parts.Transition.{Transition}
use Rattle.field_values.specs.declared.status.Status.{Status}
use Rattle.field_values.specs.declared.field.Field.{Field}
use Rattle.field_values.specs.declared.offset.Offset.{Offset}

pub record Parts : Type 0 where
  pub utc_offset_minutes : ℤ
  pub week_starts : Weekday
  pub rebalancer : UserNo
  pub users : List (List ℕ)
  pub types : List (List ℕ)
  pub priorities : List (List ℕ)
  pub resolutions : List (List ℕ)
  pub versions : List (List ℕ)
  pub first_status : ChoiceNo
  pub plan : List GroupNo
  pub administer : List GroupNo
  pub group : List Group
  pub project : List Project
  pub status : List Status
  pub transition : List Transition
  pub field : List Field
  pub offset : List Offset
