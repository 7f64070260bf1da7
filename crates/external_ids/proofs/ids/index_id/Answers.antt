use Rattle.std.proofs.Common.{Some, string_bytes}
use Rattle.std.proofs.lemmas.Map.Text.{hash_map_updates_text}
use Rattle.external_ids.proofs.ids.index_id.Goals as goal

pub returns-clause-found : goal.returns-clause-found
returns-clause-found c = λ name. hash_map_updates_text (string_bytes c.args.id) c.args.by_id.now c.insert.new.self (Some c.args.no) c.in-Ok.ensures.updates name
