use Rattle.std.proofs.Common.{◌≡◌, subst, List, ℕ, Err}
use Rattle.setup_reading.specs.Reading.{setup_in}
use Rattle.fields.proofs.BuiltIn.{no_fault}
use Rattle.fields.proofs.setup.Setup.built_in.Goals as goal

pub memory_alone-requires : goal.memory_alone-requires
memory_alone-requires c =
    no_fault c.in-Err.fault (λ other. subst (λ (text : List ℕ). setup_in text ≡ Err c.in-Err.fault) c.as_bytes.ensures.value (c.in-Err.ensures.err.as_text other c.as_bytes.ensures.utf8))
