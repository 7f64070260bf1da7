-- The call `describe`: what the setup and the present say to whoever asks.
use Rattle.std.specs.Prelude.{ℕ, Bool, List, map, None, pos}
use Rattle.std.specs.Ordering.{nat_cmp, is_lt}
use Rattle.field_values.specs.declared.rules.Permission.TheVariants as permission
use Rattle.field_values.specs.Parts.{Parts}
use Rattle.setup_drafts.specs.Offsets.{zone_of}
use Rattle.relative_dates.specs.Calendar.{minutes_at}
use Rattle.fields.specs.Naming.{name_at, field_numbers}
use Rattle.fields.specs.SetupParts.{may, names_in}
use Rattle.told_setups.specs.Told.{told_field, told_group, told_projects, told_status, status_name, told_transition}
use Rattle.tracker_calls.specs.declared.described.DescribedParts.{DescribedParts}
use Rattle.tracker_calls.specs.declared.described.ToldField.{ToldField}
use Rattle.tracker_calls.specs.declared.reply.Answer.TheVariants as answer
use Rattle.tracker_machine.specs.Listing.{in_order}
use Rattle.tracker_machine.specs.Machine.{Machine}
use Rattle.tracker_machine.specs.Meaning.{Meaning}
use Rattle.tracker_machine.specs.Meaning.Meaning.{Tells}

abbrev pub is_less : ℕ → ℕ → Bool
is_less one other = is_lt (nat_cmp one other)

-- all fields, by number
abbrev pub fields_by_number : Parts → List ToldField
fields_by_number setup =
    map (told_field (names_in setup)) (in_order is_less (field_numbers setup.field))

-- what a setup says to a user at a moment
unfoldable pub described : Parts → ℕ → ℕ → DescribedParts
described setup moment user = record {
  administer = may setup user permission.Administer None;
  fields = fields_by_number setup;
  first_status = status_name (names_in setup) setup.first_status;
  groups = map (told_group setup.users) setup.group;
  moment = moment;
  offset_minutes = minutes_at (zone_of setup.utc_offset_minutes setup.offset) (pos moment);
  plan = may setup user permission.Plan None;
  projects = told_projects setup user 0 setup.project;
  rebalancer = name_at setup.users setup.rebalancer.0;
  statuses = map told_status setup.status;
  transitions = map (told_transition (names_in setup)) setup.transition;
  user = name_at setup.users user;
  users = setup.users;
  week_starts = setup.week_starts;
}

abbrev pub describe_meaning : Machine → ℕ → Meaning
describe_meaning m user = Tells (answer.Describe (described m.setup m.moment user))
