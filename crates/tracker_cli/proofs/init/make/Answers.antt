use Rattle.std.proofs.Common.{inl, inr, refl}
use Rattle.fields.specs.SetupParts.{parts}
use Rattle.tracker_cli.specs.Outcome.{IsSetup}
use Rattle.tracker_cli.proofs.init.make.Goals as goal

pub returns-in-Err-clause-written : goal.returns-in-Err-clause-written
returns-in-Err-clause-written g c = λ is.
    let told = c.tell_fault.ensures.written is in
    ((told.1.0, told.1.1, inr (inl (c.in-Err.fault, told.0, (c.requires.within, c.in-Err.ensures.err), told.1.2)), told.1.3), λ rows kept. kept)

pub returns-in-Err-clause-setup : goal.returns-in-Err-clause-setup
returns-in-Err-clause-setup g c = λ is.
    let told = c.tell_fault.ensures.told is in
    ((_, (c.in-Err.fault, told.0, (c.requires.within, c.in-Err.ensures.err), refl), told.1), λ rows kept. kept)
