-- Words of texts: longest runs of ASCII letters, ASCII digits and characters past ASCII. All bytes of those are past ASCII too.
use Rattle.std.specs.Prelude.{ℕ, Bool, false, ◌||◌, ◌==◌, nat_le, List, [], ◌∷◌, ◌++◌, if◌then◌else◌}
use Rattle.std.specs.Int.{is_in_range}
use Rattle.jql_bound.specs.declared.leaf.Word.{Word}

-- a letter or a digit of ASCII, or a byte past ASCII
abbrev pub is_word_byte : ℕ → Bool
is_word_byte b =
    is_in_range 48 57 b || (is_in_range 65 90 b || (is_in_range 97 122 b || nat_le 128 b))

-- a run that has come to its end; an empty one is no word
abbrev pub ended : List ℕ → Bool → List Word
ended [] prefix = []
ended (b ∷ bs) prefix = record { text = b ∷ bs; prefix = prefix } ∷ []

-- the words of what is left of a text, where this run of them has begun; one directly before an asterisk is marked as a prefix
abbrev pub words_from : List ℕ → List ℕ → List Word
words_from run [] = ended run false
words_from run (b ∷ bs) =
    if is_word_byte b then words_from (run ++ b ∷ []) bs
    else ended run (b == 42) ++ words_from [] bs

-- the words of a text
unfoldable pub words_of : List ℕ → List Word
words_of text = words_from [] text
