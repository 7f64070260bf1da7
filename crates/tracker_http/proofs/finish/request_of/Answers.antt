use Rattle.std.proofs.Common.{ap, sym, ◌∙◌}
use Rattle.tracker_http.specs.Routes.{path_of, path_verb}
use Rattle.tracker_http.specs.Spans.{head_at}
use Rattle.tracker_http.proofs.FaultLemmas.{taken_path}
use Rattle.tracker_http.proofs.finish.request_of.Goals as goal

pub unreachable-requires : goal.unreachable-requires
unreachable-requires c =
    taken_path (head_at c.args.bytes.now c.args.room.now c.args.spans) c.requires.taken
    (ap (λ t. path_verb (path_of t)) (sym c.bytes_of-path.ensures) ∙ ap path_verb (sym c.path_of.ensures) ∙ sym c.path_verb.ensures ∙ c.in_default.is)
