use Rattle.std.proofs.Common.{sym, ◌∙◌}
use Rattle.rank_strings.proofs.Reading.{same_from_text}
use Rattle.rank_strings.proofs.laws.texts_of_ranks.Goals as goal

pub returns : goal.returns
returns c = λ bytes a b h k. same_from_text a b h.is_rank k.is_rank (h.written ∙ sym k.written)
