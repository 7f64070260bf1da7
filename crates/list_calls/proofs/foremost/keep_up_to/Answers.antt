use Rattle.std.proofs.Common.{rules}
use Rattle.std.proofs.lemmas.Fn.{filter_same}
use Rattle.list_calls.proofs.foremost.keep_up_to.Goals as goal

-- the closure asks whether the issue doesn't stand behind
pub returns : goal.returns
returns c = filter_same _ _ _ (λ x b f' k. search rules) _ _ c.retain.ensures.filtered
