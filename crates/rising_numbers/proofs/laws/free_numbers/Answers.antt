use Rattle.rising_numbers.proofs.Free.{least_free}
use Rattle.rising_numbers.proofs.laws.free_numbers.Goals as goal

pub returns : goal.returns
returns g c = λ xs rising. least_free _ 1 xs rising
