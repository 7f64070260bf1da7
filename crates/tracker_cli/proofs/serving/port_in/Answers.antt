use Rattle.std.proofs.Common.{◌≡◌, ℕ, List, [], ◌∷◌, codes, refl, sym, ◌∙◌}
use Rattle.std.proofs.lemmas.Option.{IfSome_then}
use Rattle.std.proofs.lemmas.Slice.Eq.{bytes_eq-Decides}
use Rattle.tracker_cli.specs.Numerals.{IsPort}
use Rattle.tracker_cli.specs.Serving.{IsServe}
use Rattle.tracker_cli.proofs.WordLists.{two_words}
use Rattle.tracker_cli.proofs.serving.port_in.Goals as goal

serves : (words : List (List ℕ)) (first second text : List ℕ) (port : ℕ) → words ≡ first ∷ second ∷ [] → first ≡ codes "serve" → text ≡ second
    → IsPort text port → IsServe words port
serves words first second text port are is same named = (text, are ∙ (rw (is, same) refl), named)

pub returns-then-eq-clause-some : goal.returns-then-eq-clause-some
returns-then-eq-clause-some c =
    let words = two_words _ _ _ c.in-len2.len_at_least c.in-len2.len_below c.word-item.is c.port-item.is in
    let first = sym c.as_str.ensures.value ∙ (bytes_eq-Decides c.as_str.result.now (codes "serve")).0 (sym c.eq.ensures ∙ c.if-eq.true) in
    IfSome_then c.port_of.result c.port_of.ensures.some (λ port named. serves _ _ _ _ port words first c.as_str-then-eq.ensures.value named)
