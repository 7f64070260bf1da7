-- Words of a text, read byte by byte.
use Rattle.std.proofs.Common.{◌≡◌, ℕ, ◌+◌, ◌-◌, ◌<◌, ◌≤◌, Bool, true, false, ◌||◌, ◌&&◌, List, [], ◌∷◌, ◌++◌, length, take, drop, get_or, ltb, arith, refl, sym, ◌∙◌, ap, drop-cons, length-append, length-drop, add-one, get_or-drop, inl, inr}
use Rattle.std.specs.List.{list_any}
use Rattle.std.proofs.Math.Seq.{drop-length}
use Rattle.std.proofs.lemmas.List.{take_more, length-take-le, take_rest}
use Rattle.std.proofs.lemmas.Bool.{lt-ltb, le-ltb, cases_lt, cases_Bool, or_left, or_from, and_from, and_right}
use Rattle.jql_bound.specs.declared.leaf.Word.{Word}
use Rattle.jql_bound.specs.Words.{is_word_byte, words_from, words_of}
use Rattle.jql_meaning.specs.Words.{is_word, has_word}
use Rattle.jql_present.proofs.Bytes.{too_short}

-- the wanted word is among those that a run of a word and the bytes after it make
abbrev pub is_after : Word → List ℕ → List ℕ → Bool
is_after wanted run bytes = list_any (λ word. is_word wanted word.text) (words_from run bytes)

pub has_word_is : (text : List ℕ) (wanted : Word) → has_word text wanted ≡ is_after wanted [] text
unfolding has_word words_of
has_word_is text wanted = refl

or_false : (b : Bool) → (b || false) ≡ b
or_false true = refl
or_false false = refl

drop_step : (text : List ℕ) (at : ℕ) → at < length text → drop at text ≡ get_or text at 0 ∷ drop (at + 1) text
drop_step text at within = rw add-one (drop-cons text at 0 within)

-- nothing stands between a place and itself
again : (wanted : Word) (text : List ℕ) (at : ℕ) → is_after wanted [] (drop at text) ≡ is_after wanted (take (at - at) (drop at text)) (drop at text)
again wanted text at = let none : at - at ≡ 0 = omega arith in rw none refl

-- a byte of a word makes the run longer
goes_on : (wanted : Word) (run : List ℕ) (b : ℕ) (bytes : List ℕ) → is_word_byte b ≡ true → is_after wanted run (b ∷ bytes) ≡ is_after wanted (run ++ b ∷ []) bytes
goes_on wanted run b bytes is = rw is refl

-- any other byte ends it
ends : (wanted : Word) (run : List ℕ) (b : ℕ) (bytes : List ℕ) → is_word_byte b ≡ false → is_after wanted run (b ∷ bytes) ≡ (ltb 0 (length run) && is_word wanted run || is_after wanted [] bytes)
ends wanted [] b bytes is = rw is refl
ends wanted (c ∷ run) b bytes is = rw is (rw (lt-ltb 0 (length (c ∷ run)) (omega arith)) refl)

-- at the end of the text the run is the last word
at_the_end : (wanted : Word) (run : List ℕ) → is_after wanted run [] ≡ (ltb 0 (length run) && is_word wanted run)
at_the_end wanted [] = refl
at_the_end wanted (c ∷ run) = rw (lt-ltb 0 (length (c ∷ run)) (omega arith)) (or_false (is_word wanted (c ∷ run)))

-- the run from one place of a text to another, and the bytes from there on
abbrev pub is_ahead : Word → List ℕ → ℕ → ℕ → Bool
is_ahead wanted text begin at = is_after wanted (take (at - begin) (drop begin text)) (drop at text)

run_long : (text : List ℕ) (begin at : ℕ) → begin ≤ at → at ≤ length text → length (take (at - begin) (drop begin text)) ≡ at - begin
run_long text begin at order within = length-take-le (at - begin) (drop begin text) (omega (arith, length-drop begin text))

run_more : (text : List ℕ) (begin at : ℕ) → begin ≤ at → at < length text → take (at + 1 - begin) (drop begin text) ≡ take (at - begin) (drop begin text) ++ get_or text at 0 ∷ []
run_more text begin at order within =
    let long : at - begin < length (drop begin text) = omega (arith, length-drop begin text) in
    let more = take_more (drop begin text) (at - begin) 0 long in
    let places : at + 1 - begin ≡ at - begin + 1 = omega arith in
    let same : get_or (drop begin text) (at - begin) 0 ≡ get_or text at 0 = get_or-drop begin text (at - begin) 0 ∙ ap (λ k. get_or text k 0) (omega arith) in
    rw places (more ∙ ap (λ x. take (at - begin) (drop begin text) ++ x ∷ []) same)

-- the byte at a place is one of a word
pub ahead_in_a_word : (wanted : Word) (text : List ℕ) (begin at : ℕ) → begin ≤ at → at < length text → is_word_byte (get_or text at 0) ≡ true → is_ahead wanted text begin at ≡ is_ahead wanted text begin (at + 1)
ahead_in_a_word wanted text begin at order within is =
    ap (is_after wanted (take (at - begin) (drop begin text))) (drop_step text at within)
    ∙ goes_on wanted (take (at - begin) (drop begin text)) (get_or text at 0) (drop (at + 1) text) is
    ∙ ap (λ run. is_after wanted run (drop (at + 1) text)) (sym (run_more text begin at order within))

-- it is none, and the word before it is the wanted one
pub ahead_found : (wanted : Word) (text : List ℕ) (begin at : ℕ) → begin < at → at < length text → is_word_byte (get_or text at 0) ≡ false → is_word wanted (take (at - begin) (drop begin text)) ≡ true → is_ahead wanted text begin at ≡ true
ahead_found wanted text begin at order within is found =
    let long = run_long text begin at (omega arith) (omega arith) in
    ap (is_after wanted (take (at - begin) (drop begin text))) (drop_step text at within)
    ∙ ends wanted (take (at - begin) (drop begin text)) (get_or text at 0) (drop (at + 1) text) is
    ∙ or_left (ltb 0 (length (take (at - begin) (drop begin text))) && is_word wanted (take (at - begin) (drop begin text))) (is_after wanted [] (drop (at + 1) text))
    (and_from (ltb 0 (length (take (at - begin) (drop begin text)))) (is_word wanted (take (at - begin) (drop begin text))) (lt-ltb 0 (length (take (at - begin) (drop begin text))) (omega arith)) found)

-- it is none, and there is no word before it
pub ahead_of_none : (wanted : Word) (text : List ℕ) (begin at : ℕ) → begin ≤ at → at ≤ begin → at < length text → is_word_byte (get_or text at 0) ≡ false → is_ahead wanted text begin at ≡ is_ahead wanted text (at + 1) (at + 1)
ahead_of_none wanted text begin at order none within is =
    let long = run_long text begin at order (omega arith) in
    ap (is_after wanted (take (at - begin) (drop begin text))) (drop_step text at within)
    ∙ ends wanted (take (at - begin) (drop begin text)) (get_or text at 0) (drop (at + 1) text) is
    ∙ rw (le-ltb 0 (length (take (at - begin) (drop begin text))) (omega arith)) (again wanted text (at + 1))

-- it is none, and the word before it is another one
pub ahead_of_another : (wanted : Word) (text : List ℕ) (begin at : ℕ) → begin ≤ at → at < length text → is_word_byte (get_or text at 0) ≡ false → is_word wanted (take (at - begin) (drop begin text)) ≡ false → is_ahead wanted text begin at ≡ is_ahead wanted text (at + 1) (at + 1)
ahead_of_another wanted text begin at order within is other =
    ap (is_after wanted (take (at - begin) (drop begin text))) (drop_step text at within)
    ∙ ends wanted (take (at - begin) (drop begin text)) (get_or text at 0) (drop (at + 1) text) is
    ∙ rw (and_right (ltb 0 (length (take (at - begin) (drop begin text)))) (is_word wanted (take (at - begin) (drop begin text))) other) (again wanted text (at + 1))

-- the whole text lies ahead, or nothing
pub ahead_at_first : (wanted : Word) (text : List ℕ) → has_word text wanted ≡ is_ahead wanted text 0 0
ahead_at_first wanted text = has_word_is text wanted

same_test : (text : List ℕ) (begin : ℕ) → begin ≤ length text → ltb 0 (length (drop begin text)) ≡ ltb begin (length text)
same_test text begin within =
    elim (cases_lt begin (length text)) [
      | inl less ↦ lt-ltb 0 (length (drop begin text)) (omega (arith, length-drop begin text)) ∙ sym (lt-ltb begin (length text) less)
      | inr more ↦ le-ltb 0 (length (drop begin text)) (omega (arith, length-drop begin text)) ∙ sym (le-ltb begin (length text) more)
    ]

pub ahead_at_last : (wanted : Word) (text : List ℕ) (begin : ℕ) → begin ≤ length text → is_ahead wanted text begin (length text) ≡ (ltb begin (length text) && is_word wanted (drop begin text))
ahead_at_last wanted text begin within =
    ap (is_after wanted (take (length text - begin) (drop begin text))) (drop-length text)
    ∙ ap (λ run. is_after wanted run []) (take_rest text begin)
    ∙ at_the_end wanted (drop begin text)
    ∙ ap (λ test. test && is_word wanted (drop begin text)) (same_test text begin within)

-- no word is the wanted one where fewer bytes than it has are left
none_in_few : (wanted : Word) (run bytes : List ℕ) → length run + length bytes < length wanted.text → is_after wanted run bytes ≡ false
none_in_few wanted run [] few = at_the_end wanted run ∙ and_right (ltb 0 (length run)) (is_word wanted run) (too_short wanted run (omega arith))
none_in_few wanted run (b ∷ bytes) few =
    elim (cases_Bool (is_word_byte b)) [
      | inl is ↦ goes_on wanted run b bytes is ∙ none_in_few wanted (run ++ b ∷ []) bytes (omega (arith, length-append run (b ∷ [])))
      | inr none ↦ ends wanted run b bytes none ∙ or_from (ltb 0 (length run) && is_word wanted run) (is_after wanted [] bytes) (and_right (ltb 0 (length run)) (is_word wanted run) (too_short wanted run (omega arith))) (none_in_few wanted [] bytes (omega arith))
    ]

pub none_in_short : (wanted : Word) (text : List ℕ) → length text < length wanted.text → has_word text wanted ≡ false
none_in_short wanted text few = has_word_is text wanted ∙ none_in_few wanted [] text (omega arith)

pub none_in_rest : (wanted : Word) (text : List ℕ) (begin : ℕ) → begin ≤ length text → length text < begin + length wanted.text → is_ahead wanted text begin begin ≡ false
none_in_rest wanted text begin within few = sym (again wanted text begin) ∙ none_in_few wanted [] (drop begin text) (omega (arith, length-drop begin text))
