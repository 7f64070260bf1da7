use Rattle.std.proofs.Common.{codes, sym, ◌∙◌}
use Rattle.std.proofs.lemmas.Option.{IfSome_then}
use Rattle.std.proofs.lemmas.Slice.Eq.{bytes_eq-Decides}
use Rattle.tracker_serve.proofs.ServerWords.{serves, three_words}
use Rattle.tracker_serve.proofs.words.workers_in.Goals as goal

pub returns-then-eq-clause-some : goal.returns-then-eq-clause-some
returns-then-eq-clause-some c =
    let words = three_words _ _ _ _ c.in-len3.len_at_least c.in-len3.len_below c.word-item.is c.port-item.is c.workers-item.is in
    let first = sym c.as_str.ensures.value ∙ (bytes_eq-Decides c.as_str.result.now (codes "serve")).0 (sym c.eq.ensures ∙ c.if-eq.true) in
    IfSome_then c.numbers_in.result c.numbers_in.ensures.some (λ count named. (
      named.0,
      serves _ _ _ _ _ _ _ _ words first c.as_str-then-eq.ensures.value c.as_str-then-eq-2.ensures.value named.1 named.2,
    ))
