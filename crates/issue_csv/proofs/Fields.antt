-- A record's fields beside the names of columns.
use Rattle.std.proofs.Common.{Some, ◌≤◌, ◌≡◌, ◌≢◌, ◌<◌, ◌&&◌, ℕ, zero, suc, List, [], ◌∷◌, None, Bool, true, false, length, drop, get_or, sym, ap, ap₂, refl, arith, ◌∙◌}
use Rattle.std.proofs.lemmas.Option.{same_Some}
use Rattle.std.proofs.lemmas.List.{drop_all}
use Rattle.std.proofs.lemmas.Slice.Eq.{bytes_eq-Decides}
use Rattle.std.proofs.lemmas.Bool.{and_parts}
use Rattle.std.specs.Str.{bytes_eq, is_utf8, chars}
use lib.Utf8.{encode}
use Rattle.std.specs.List.{list_all}
use Rattle.std.proofs.lemmas.Str.{IsUtf8-from_is_utf8, is_utf8-from_IsUtf8}
use Rattle.csv.specs.Records.{AllText, field_at}
use Rattle.issue_csv.specs.Reading.{header, same_fields}

-- the test says that they are equal
pub same_fields-is : (fs gs : List (List ℕ)) → same_fields fs gs ≡ true → fs ≡ gs
same_fields-is [] [] h = refl
same_fields-is [] (g ∷ gs) h = cc h
same_fields-is (f ∷ fs) [] h = cc h
same_fields-is (f ∷ fs) (g ∷ gs) h =
    let p = and_parts (bytes_eq f g) (same_fields fs gs) h in
    ap₂ (λ (x : List ℕ) (y : List (List ℕ)). x ∷ y) ((bytes_eq-Decides f g).0 p.0) (same_fields-is fs gs p.1)

-- one more field that is the name
pub and_false : (b : Bool) → (b && false) ≡ false
and_false true = refl
and_false false = refl

pub one_same : (fs gs : List (List ℕ)) (i : ℕ) (f : List ℕ) (d : List ℕ) → i < length gs → Some f ≡ field_at fs i → f ≡ get_or gs i d
    → same_fields (drop i fs) (drop i gs) ≡ same_fields (drop (suc i) fs) (drop (suc i) gs)
unfolding field_at
one_same fs [] i f d lt at e = absurd (omega arith)
one_same [] (g ∷ gs) i f d lt at e = cc at
one_same (x ∷ fs) (g ∷ gs) zero f d lt at e = rw ((bytes_eq-Decides x g).1 (sym (same_Some _ _ at) ∙ e)) refl
one_same (x ∷ fs) (g ∷ gs) (suc i) f d lt at e = one_same fs gs i f d (omega arith) at e

-- a field that is another, and one that is not there
pub one_other : (fs gs : List (List ℕ)) (i : ℕ) (f : List ℕ) (d : List ℕ) → i < length gs → Some f ≡ field_at fs i → bytes_eq f (get_or gs i d) ≡ false
    → same_fields (drop i fs) (drop i gs) ≡ false
unfolding field_at
one_other fs [] i f d lt at e = absurd (omega arith)
one_other [] (g ∷ gs) i f d lt at e = cc at
one_other (x ∷ fs) (g ∷ gs) zero f d lt at e = rw (← same_Some _ _ at, e) refl
one_other (x ∷ fs) (g ∷ gs) (suc i) f d lt at e = one_other fs gs i f d (omega arith) at e

pub one_less : (fs gs : List (List ℕ)) (i : ℕ) → i < length fs → None ≡ field_at fs i → ⊥
unfolding field_at
one_less [] gs i lt at = omega arith
one_less (x ∷ fs) gs zero lt at = cc at
one_less (x ∷ fs) gs (suc i) lt at = one_less fs gs i (omega arith) at

-- the lengths differ
pub other_length : (fs gs : List (List ℕ)) → length fs ≢ length gs → same_fields fs gs ≡ false
other_length [] [] h = absurd (h refl)
other_length [] (g ∷ gs) h = refl
other_length (f ∷ fs) [] h = refl
other_length (f ∷ fs) (g ∷ gs) h = rw (other_length fs gs (λ e. h (ap suc e))) (and_false (bytes_eq f g))

-- at the end of both
pub all_same : (fs gs : List (List ℕ)) (n : ℕ) → length fs ≤ n → length gs ≤ n → same_fields (drop n fs) (drop n gs) ≡ true
all_same fs gs n h k = rw (drop_all n fs h, drop_all n gs k) refl

-- ---- text

-- each field of a record of text is UTF-8, and the other way round
pub text_is : (fs : List (List ℕ)) → AllText fs → list_all is_utf8 fs ≡ true
unfolding AllText
text_is [] h = refl
text_is (f ∷ fs) h = rw (is_utf8-from_IsUtf8 f h.0, text_is fs h.1) refl

pub is_text : (fs : List (List ℕ)) → list_all is_utf8 fs ≡ true → AllText fs
unfolding AllText
is_text [] h = tt
is_text (f ∷ fs) h =
    let p = and_parts (is_utf8 f) (list_all is_utf8 fs) h in
    (IsUtf8-from_is_utf8 f p.0, is_text fs p.1)

-- where one field isn't
no_text : (fs : List (List ℕ)) (b : Bool) → list_all is_utf8 fs ≡ b → ¬ (AllText fs) → b ≡ false
no_text fs true h other = absurd (other (is_text fs h))
no_text fs false h other = refl

pub other_text : (fs : List (List ℕ)) → ¬ (AllText fs) → list_all is_utf8 fs ≡ false
other_text fs other = no_text fs (list_all is_utf8 fs) refl other

-- the header is text
header_is_text : list_all is_utf8 header ≡ true
unfolding is_utf8 chars encode
header_is_text = refl

no_header : (fs : List (List ℕ)) (b : Bool) → same_fields fs header ≡ b → list_all is_utf8 fs ≡ false → b ≡ false
no_header fs true h other = absurd (cc (sym (rw (same_fields-is fs header h) at other) ∙ header_is_text))
no_header fs false h other = refl

pub other_header : (fs : List (List ℕ)) → list_all is_utf8 fs ≡ false → same_fields fs header ≡ false
other_header fs other = no_header fs (same_fields fs header) refl other
