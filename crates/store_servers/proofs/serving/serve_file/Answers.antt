use denote.Param.Send.{sendable}
use Rattle.store_servers.proofs.Sent.{file_keeper_send}
use Rattle.store_servers.proofs.serving.serve_file.Goals as goal

pub serve_port-requires-send-P : goal.serve_port-requires-send-P
serve_port-requires-send-P g c κs within = search (file_keeper_send, sendable) depth 20 fits 20000
