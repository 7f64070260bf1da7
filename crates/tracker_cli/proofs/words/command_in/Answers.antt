use Rattle.std.proofs.Common.{◌≡◌, ◌∙◌, List, false, true, map, option_map, string_bytes, codes, sym, subst}
use Rattle.std.specs.Prelude.{MatchOption}
use Rattle.std.specs.List.{list_all}
use Rattle.std.proofs.lemmas.Bool.{false≢true}
use Rattle.std.proofs.lemmas.List.Folds.{list_all-map}
use Rattle.clap.proofs.WalkLemmas.{first_value-rows}
use Rattle.clap.specs.Matches.{found_of}
use Rattle.clap.specs.Words.{Text, rows_of}
use Rattle.tracker_cli.specs.Outcome.{IsCommand, is_plain}
use Rattle.tracker_cli.specs.Words.{Asks, words_of}
use Rattle.tracker_cli.proofs.Grammar.{command_is_plain, kinds_err, kinds_ok, matches_at, operand_is_plain, refused_kind, words_told}
use Rattle.tracker_cli.proofs.words.command_in.Goals as goal

pub returns-then-not-are_plain : goal.returns-then-not-are_plain
returns-then-not-are_plain c = λ is.
    let other : list_all is_plain (map string_bytes c.args.words.now) ≡ false =
    list_all-map is_plain string_bytes c.args.words.now ∙ sym c.are_plain.ensures ∙ c.if-not-are_plain.true in
    false≢true (sym other ∙ command_is_plain _ is)

pub returns-in-Err : goal.returns-in-Err
returns-in-Err c = λ is.
    refused_kind _ c.in-Err.fault (λ memory. false≢true (sym c.if-eq.false ∙ rw (c.kind.ensures ∙ memory) at c.eq.ensures))
    (kinds_err _ c.in-Err.fault _ c.in_ok-grammar.ensures c.in-Err.ensures.kinds) is

pub command_of-requires : goal.command_of-requires
command_of-requires c =
    let plain : list_all is_plain (map string_bytes c.args.words.now) ≡ true =
    list_all-map is_plain string_bytes c.args.words.now ∙ sym c.are_plain.ensures ∙ c.if-not-are_plain.false in
    let are : map string_bytes c.args.words.now ≡ words_of c.in-Some.name.now (option_map (λ w. w.now) c.get_str-operand.result) =
    words_told _ c.in-Ok.matches _ (rows_of (found_of c.in-Some.inner.now)) _ plain (kinds_ok _ _ c.in_ok-grammar.ensures c.in-Ok.ensures.kinds)
    (matches_at _ _ _ c.in_ok-grammar.ensures c.in-Ok.ensures.matches) c.in-Some.ensures.name c.in-Some.ensures.rows
    (c.get_str-operand.ensures ∙ first_value-rows (found_of c.in-Some.inner.now) (codes "operand")) in
    operand_is_plain (λ w. w.now) _ c.in-Some.name.now c.get_str-operand.result plain are

pub returns : goal.returns
returns c =
    let plain : list_all is_plain (map string_bytes c.args.words.now) ≡ true =
    list_all-map is_plain string_bytes c.args.words.now ∙ sym c.are_plain.ensures ∙ c.if-not-are_plain.false in
    let are : map string_bytes c.args.words.now ≡ words_of c.in-Some.name.now (option_map (λ w. w.now) c.get_str-operand.result) =
    words_told _ c.in-Ok.matches _ (rows_of (found_of c.in-Some.inner.now)) _ plain (kinds_ok _ _ c.in_ok-grammar.ensures c.in-Ok.ensures.kinds)
    (matches_at _ _ _ c.in_ok-grammar.ensures c.in-Ok.ensures.matches) c.in-Some.ensures.name c.in-Some.ensures.rows
    (c.get_str-operand.ensures ∙ first_value-rows (found_of c.in-Some.inner.now) (codes "operand")) in
    subst (λ (l : List Text). MatchOption c.command_of.result (IsCommand l → ⊥) (λ k. Asks k l)) (sym are) c.command_of.ensures
