-- What a line asks for, by what was read of it.
use Rattle.std.proofs.Common.{◌≡◌, ℕ, List, [], ◌∷◌, map, codes, Some, None, Err, Bool, true, false, refl, ap, string_bytes, String, Global, subst}
use Rattle.std.specs.Prelude.{Result}
use Rattle.std.specs.Str.{IsUtf8, is_utf8}
use Rattle.std.specs.Map.{keys_of}
use Rattle.std.proofs.lemmas.Str.{is_utf8-from_IsUtf8, IsUtf8-from_is_utf8}
use Rattle.serde_json.specs.Data.{Data}
use Rattle.serde_json.specs.Read.{read}
use Rattle.serde_json.specs.View.{members_view}
use Rattle.serde_json.specs.declared.value.Value.{Value}
use Rattle.call_lines.specs.Asked.{line_of, call_of, data_of, names_of, UnlessMemory, need}
use Rattle.tracker_calls.specs.declared.cause.Cause.{Cause}
use Rattle.tracker_calls.specs.declared.reply.Refusal.{Refusal}
use Rattle.tracker_calls.specs.declared.cause.Cause.TheVariants.{Form}

pub UnlessMemory-along : {T : Type 0} (r : Result T Refusal) {e e' : Result T Cause} → e ≡ e' → UnlessMemory r e → UnlessMemory r e'
UnlessMemory-along r same h = subst (λ e. UnlessMemory r e) same h

pub data_of-text : (bytes : List ℕ) → IsUtf8 bytes → data_of bytes ≡ read bytes
data_of-text bytes text = rw (is_utf8-from_IsUtf8 bytes text)

no_text : (bytes : List ℕ) (b : Bool) → is_utf8 bytes ≡ b → (IsUtf8 bytes → ⊥) → b ≡ false
no_text bytes true e never = absurd (never (IsUtf8-from_is_utf8 bytes e))
no_text bytes false e never = refl

pub data_of-no_text : (bytes : List ℕ) → (IsUtf8 bytes → ⊥) → data_of bytes ≡ None
data_of-no_text bytes never = rw (no_text bytes (is_utf8 bytes) refl never)

pub line_of-data : (bytes : List ℕ) (d : Data) → data_of bytes ≡ Some d → line_of bytes ≡ call_of d
unfolding line_of
line_of-data bytes d e = ap (λ o. need o (codes "line") call_of) e

pub line_of-none : (bytes : List ℕ) → data_of bytes ≡ None → line_of bytes ≡ Err (Form (codes "line"))
unfolding line_of
line_of-none bytes e = ap (λ o. need o (codes "line") call_of) e

pub names_of_members : (es : List (String Global × Value)) → names_of (members_view es) ≡ map string_bytes (keys_of es)
names_of_members [] = refl
names_of_members (e ∷ es) = ap (λ names. string_bytes e.0 ∷ names) (names_of_members es)

pub refute : (b : Bool) → b ≡ true → b ≡ false → ⊥
refute b holds never = cc
