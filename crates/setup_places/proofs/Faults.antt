-- The first fault of a text that is TOML is that of its table.
use Rattle.std.proofs.Common.{◌≡◌, ℕ, List, Option, Some, None, refl, sym, ap, ◌∙◌}
use Rattle.std.specs.Prelude.{Ok, Err}
use Rattle.toml.specs.Data.{Members}
use Rattle.toml.specs.Parse.{parse_document}
use Rattle.field_values.specs.Parts.{Parts}
use Rattle.setup_drafts.specs.declared.fault.SetupFault.{SetupFault}
use Rattle.setup_drafts.specs.declared.fault.SetupFault.TheVariants.{BadToml}
use Rattle.setup_reading.specs.Reading.{first_fault, fault_or, parts_in, parts_or_fault, setup_in}
use Rattle.std.specs.Option.{option_map_or}

the_fault : (o : Option SetupFault) (v : Parts) (f : SetupFault) → fault_or o v ≡ Err f → o ≡ Some f
the_fault None v f e = absurd (cc)
the_fault (Some g) v f e = cc

no_fault : (o : Option SetupFault) (v w : Parts) → fault_or o v ≡ Ok w → o ≡ None
no_fault None v w e = refl
no_fault (Some g) v w e = absurd (cc)

pub read_fault : (text : List ℕ) (ms : Members) (f : SetupFault) → parse_document text ≡ Some ms → setup_in text ≡ Err f → first_fault ms ≡ Some f
unfolding setup_in parts_or_fault
read_fault text ms f reads e =
    the_fault (first_fault ms) (parts_in ms) f (sym (ap (λ (o : Option Members). option_map_or parts_or_fault o (Err BadToml)) reads) ∙ e)

pub read_well : (text : List ℕ) (ms : Members) (parts : Parts) → parse_document text ≡ Some ms → setup_in text ≡ Ok parts → first_fault ms ≡ None
unfolding setup_in parts_or_fault
read_well text ms parts reads e =
    no_fault (first_fault ms) (parts_in ms) parts (sym (ap (λ (o : Option Members). option_map_or parts_or_fault o (Err BadToml)) reads) ∙ e)
