-- Words that are looked for in a text.
use Rattle.std.specs.Prelude.{ℕ, Bool, List, length, take, if◌then◌else◌}
use Rattle.std.specs.List.{list_any, list_all}
use Rattle.std.specs.Str.{str_eq_ignore_ascii_case}
use Rattle.jql_bound.specs.declared.leaf.Word.{Word}
use Rattle.jql_bound.specs.Words.{words_of}

-- a word of a text is the one that is looked for, or begins with it where that will do, ASCII case ignored
abbrev pub is_word : Word → List ℕ → Bool
is_word wanted word =
    str_eq_ignore_ascii_case (if wanted.prefix then take (length wanted.text) word else word)
    wanted.text

-- the text has the word
unfoldable pub has_word : List ℕ → Word → Bool
has_word text wanted = list_any (λ word. is_word wanted word.text) (words_of text)

-- the text has each of the words
abbrev pub has_words : List Word → List ℕ → Bool
has_words wanted text = list_all (λ word. has_word text word) wanted
