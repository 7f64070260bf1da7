-- One tracker is opened from the rows before, and one from those after.
use Rattle.std.proofs.Common.{inl, subst}
use Rattle.tracker_machine.specs.Machine.{Machine}
use Rattle.amended_histories.specs.Telling.{TellTheSame}
use Rattle.amended_histories.proofs.Amended.{histories_tell_the_same}
use Rattle.run_laws.specs.Amended.{AmendedRunsTellTheSame}
use Rattle.run_laws.proofs.Opened.{opened_one}

pub amended_runs_tell_the_same : AmendedRunsTellTheSame
amended_runs_tell_the_same setup_text text setup rows after before later is opened opened_again =
    subst (λ (m : Machine). TellTheSame m later) (opened_one setup_text rows is.before before (inl is.were) opened)
    (subst (λ (m : Machine). TellTheSame is.before m) (opened_one setup_text after is.later later (inl is.are) opened_again) (histories_tell_the_same text setup rows after is))
