use denote.Param.Send.{sendable}
use Rattle.std.proofs.Crossing.{crosses}
use Rattle.tracker_rounds.proofs.Sent.{told_send}
use Rattle.tracker_rounds.proofs.workers.serve_links.Goals as goal

pub run_workers-made-requires-send-V-Told : goal.run_workers-made-requires-send-V-Told
run_workers-made-requires-send-V-Told g c κs within = search (told_send, sendable, crosses)
