use Rattle.tracker_http.proofs.OneReading.{one_reading}
use Rattle.tracker_http.proofs.laws.requests_of_bytes.Goals as goal

pub returns : goal.returns
returns c = one_reading
