-- Bytes that are a text.
use Rattle.std.proofs.Common.{◌≡◌, ℕ, List, Some, None, Bool, true, false, refl}
use Rattle.std.specs.Str.{IsUtf8, is_utf8}
use Rattle.std.proofs.lemmas.Str.{is_utf8-from_IsUtf8, IsUtf8-from_is_utf8}
use Rattle.tracker_http.specs.Calls.{utf8_text}

pub utf8_text-text : (bytes : List ℕ) → IsUtf8 bytes → utf8_text bytes ≡ Some bytes
utf8_text-text bytes text = rw (is_utf8-from_IsUtf8 bytes text) refl

no_text : (bytes : List ℕ) (b : Bool) → is_utf8 bytes ≡ b → (IsUtf8 bytes → ⊥) → b ≡ false
no_text bytes true e never = absurd (never (IsUtf8-from_is_utf8 bytes e))
no_text bytes false e never = refl

pub utf8_text-none : (bytes : List ℕ) → (IsUtf8 bytes → ⊥) → utf8_text bytes ≡ None
utf8_text-none bytes never = rw (no_text bytes (is_utf8 bytes) refl never) refl
