use Rattle.std.proofs.Common.{◌≡◌, ◌==◌, ◌++◌, ◌∙◌, get_or, arith, sym, ap, true, false}
use Rattle.std.specs.List.{slice_range}
use Rattle.std.proofs.lemmas.Str.{IsCharBoundary-start, IsCharBoundary-after_ascii}
use Rattle.jql_bound.specs.Words.{is_word_byte, ended}
use Rattle.jql_grammar.proofs.Splitting.{words_begin, words_go_on, words_with, between_ascii}
use Rattle.jql_grammar.proofs.words.words_of.Goals as goal

pub loop-place-init : goal.loop-place-init
loop-place-init c = (rw c.new-words.ensures (words_begin c.args.text.now), IsCharBoundary-start c.args.text.now c.utf8.text, omega arith)

pub loop-place-preserved-then-is_word_byte : goal.loop-place-preserved-then-is_word_byte
loop-place-preserved-then-is_word_byte c =
    let test : is_word_byte (get_or c.args.text.now c.loop-place.place 0) ≡ true = ap (λ t. is_word_byte (get_or t c.loop-place.place 0)) (sym c.as_bytes-byte-items.ensures.value) ∙ sym c.if-is_word_byte.ensures in (
      words_go_on c.loop-place.words c.args.text.now c.loop-place.start c.loop-place.place c.loop-place.invariant.2 (omega arith) test c.loop-place.invariant.0,
      c.loop-place.invariant.1,
      omega arith,
    )

pub loop-place-preserved : goal.loop-place-preserved
loop-place-preserved c =
    let test : is_word_byte (get_or c.args.text.now c.loop-place.place 0) ≡ false = ap (λ t. is_word_byte (get_or t c.loop-place.place 0)) (sym c.as_bytes-byte-items.ensures.value) ∙ sym c.if-is_word_byte.ensures in
    let put : c.put_word.new.words ≡ c.loop-place.words ++ ended (slice_range c.args.text.now c.loop-place.start c.loop-place.place) (get_or c.args.text.now c.loop-place.place 0 == 42) =
    c.in_ok-put_word.ensures
    ∙ ap (λ run. c.loop-place.words ++ ended run (get_or c.as_bytes-byte-items.result.now c.loop-place.place 0 == 42)) c.range.ensures.value
    ∙ ap (λ t. c.loop-place.words ++ ended (slice_range c.args.text.now c.loop-place.start c.loop-place.place) (get_or t c.loop-place.place 0 == 42)) c.as_bytes-byte-items.ensures.value in (
      words_with c.loop-place.words c.put_word.new.words c.args.text.now (slice_range c.args.text.now c.loop-place.start c.loop-place.place) c.loop-place.place (omega arith) test c.loop-place.invariant.0 put,
      IsCharBoundary-after_ascii c.args.text.now c.loop-place.place c.utf8.text (omega arith) (between_ascii (get_or c.args.text.now c.loop-place.place 0) test),
      omega arith,
    )
