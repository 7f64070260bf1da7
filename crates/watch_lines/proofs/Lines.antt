-- Lines that are about subscriptions, and those that aren't.
use Rattle.std.proofs.Common.{◌≡◌, ℕ, List, Some, None, ap}
use Rattle.std.specs.Prelude.{option_and_then}
use Rattle.serde_json.specs.Data.{Data}
use Rattle.serde_json.specs.Find.{as_object}
use Rattle.call_lines.specs.Asked.{data_of}
use Rattle.watch_lines.specs.Asked.{watch_in, watch_line}

pub watch_line-data : (bytes : List ℕ) (d : Data) → data_of bytes ≡ Some d → watch_line bytes ≡ option_and_then (watch_in d) (as_object d)
unfolding watch_line
watch_line-data bytes d e = ap (λ o. option_and_then (λ x. option_and_then (watch_in x) (as_object x)) o) e

pub watch_line-none : (bytes : List ℕ) → data_of bytes ≡ None → watch_line bytes ≡ None
unfolding watch_line
watch_line-none bytes e = ap (λ o. option_and_then (λ x. option_and_then (watch_in x) (as_object x)) o) e
