-- Who asks, and what the setup names. Who is in a group isn't there: a bound query asks it anew at each moment.
use Rattle.std.specs.Prelude.{List}
use Rattle.field_values.specs.declared.numbers.UserNo.{UserNo}
use Rattle.field_values.specs.declared.parts.Project.{Project}
use Rattle.field_values.specs.declared.status.Status.{Status}
use Rattle.field_values.specs.Parts.{Parts}
use Rattle.field_forms.specs.Known.{Names}
use Rattle.fields.specs.declared.setup.Setup.{Setup}
use Rattle.fields.specs.SetupParts.{parts, names_in}
use Rattle.jql_grammar.specs.declared.scope.Binder.{Binder}

pub record Scope : Type 0 where
  pub names : Names
  pub projects : List Project
  pub statuses : List Status
  pub caller : UserNo

abbrev pub scope_by : Parts → UserNo → Scope
scope_by setup caller =
    record {
      names = names_in setup;
      projects = setup.project;
      statuses = setup.status;
      caller = caller;
    }

abbrev pub scope_in : Setup → UserNo → Scope
scope_in setup caller = scope_by (parts setup) caller

abbrev pub scope_of : Binder → Scope
scope_of binder = scope_in binder.setup.now binder.caller
