use Rattle.std.proofs.Common.{◌≡◌, ◌≤◌, ◌++◌, length, string_bytes, encode_utf8_all}
use Rattle.std.specs.Str.{chars}
use denote.Text.{Utf8}
use denote.Shadow.{shadow}
use Rattle.jql_syntax.specs.Tokens.{run_of, front, past, is_word_char}
use Rattle.jql_syntax.proofs.scan.word.Given as goal

abbrev pub invariant-loop-d : goal.invariant-loop-d
invariant-loop-d l =
    shadow (Utf8 l.rest)
    × (string_bytes l.word ++ encode_utf8_all (front is_word_char (chars l.rest)) ≡ run_of l.fn.c (chars l.text))
    × (length l.rest ≤ length l.text)
    × (past is_word_char (chars l.rest) ≡ past is_word_char (chars l.text))

abbrev pub decreases-loop-d : goal.decreases-loop-d
decreases-loop-d l = length l.rest
