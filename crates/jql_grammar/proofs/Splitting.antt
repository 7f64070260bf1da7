-- Words of a text, byte by byte.
use Rattle.std.proofs.Common.{◌≡◌, ℕ, ◌+◌, ◌<◌, ◌≤◌, ◌==◌, true, false, List, [], ◌∷◌, ◌++◌, length, get_or, drop, refl, ap, sym, ◌∙◌, arith, append_assoc}
use Rattle.std.proofs.lemmas.List.{at_drop_more}
use Rattle.std.proofs.lemmas.List.Edits.{between_none, between_more}
use Rattle.std.proofs.lemmas.Bool.Decides.{nat_tests}
use Rattle.jql_bound.specs.declared.leaf.Word.{Word}
use Rattle.std.specs.List.{slice_range}
use Rattle.jql_bound.specs.Words.{words_of, words_from, is_word_byte, ended}

pub words_begin : (text : List ℕ) → words_of text ≡ words_from [] text
unfolding words_of
words_begin text = refl

next_byte : (run text : List ℕ) (place : ℕ) → place < length text → words_from run (drop place text) ≡ words_from run (get_or text place 0 ∷ drop (place + 1) text)
next_byte run text place inside = at_drop_more (words_from run) text place 0 inside

-- a byte of a word
pub word_goes_on : (text : List ℕ) (start place : ℕ) → start ≤ place → place < length text → is_word_byte (get_or text place 0) ≡ true →
    words_from (slice_range text start place) (drop place text) ≡ words_from (slice_range text start (place + 1)) (drop (place + 1) text)
word_goes_on text start place before inside test =
    next_byte (slice_range text start place) text place inside
    ∙ rw test (ap (λ run. words_from run (drop (place + 1) text)) (sym (between_more text start place 0 before inside)))

-- a byte between words
pub word_ends : (text run : List ℕ) (place : ℕ) → place < length text → is_word_byte (get_or text place 0) ≡ false →
    words_from run (drop place text) ≡ ended run (get_or text place 0 == 42) ++ words_from (slice_range text (place + 1) (place + 1)) (drop (place + 1) text)
word_ends text run place inside test =
    next_byte run text place inside
    ∙ rw test (ap (λ r. ended run (get_or text place 0 == 42) ++ words_from r (drop (place + 1) text)) (sym (between_none text (place + 1))))

-- a byte between words is of ASCII
pub between_ascii : (b : ℕ) → is_word_byte b ≡ false → b < 128
between_ascii b test = grind (arith, nat_tests, test)

-- the words so far, and those of the rest
pub words_go_on : (words : List Word) (text : List ℕ) (start place : ℕ) → start ≤ place → place < length text → is_word_byte (get_or text place 0) ≡ true →
    words_of text ≡ words ++ words_from (slice_range text start place) (drop place text) →
    words_of text ≡ words ++ words_from (slice_range text start (place + 1)) (drop (place + 1) text)
words_go_on words text start place before inside test so_far = so_far ∙ ap (λ rest. words ++ rest) (word_goes_on text start place before inside test)

pub words_with : (words more : List Word) (text run : List ℕ) (place : ℕ) → place < length text → is_word_byte (get_or text place 0) ≡ false →
    words_of text ≡ words ++ words_from run (drop place text) → more ≡ words ++ ended run (get_or text place 0 == 42) →
    words_of text ≡ more ++ words_from (slice_range text (place + 1) (place + 1)) (drop (place + 1) text)
words_with words more text run place inside test so_far put =
    so_far
    ∙ ap (λ rest. words ++ rest) (word_ends text run place inside test)
    ∙ sym (append_assoc words (ended run (get_or text place 0 == 42)) (words_from (slice_range text (place + 1) (place + 1)) (drop (place + 1) text)))
    ∙ ap (λ front. front ++ words_from (slice_range text (place + 1) (place + 1)) (drop (place + 1) text)) (sym put)
