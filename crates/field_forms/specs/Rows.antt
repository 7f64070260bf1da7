-- Worked rows.
use Rattle.std.specs.Prelude.{◌≡◌, true, false, refl, codes}
use Rattle.field_forms.specs.NameForms.{is_numbered_field}

pub a_number : is_numbered_field (codes "cf[10001]") ≡ true
a_number = refl

pub one_digit_in_capitals : is_numbered_field (codes "CF[0]") ≡ true
one_digit_in_capitals = refl

pub not_without_digits : is_numbered_field (codes "cf[]") ≡ false
not_without_digits = refl

pub not_open : is_numbered_field (codes "cf[10001") ≡ false
not_open = refl

pub not_with_letters : is_numbered_field (codes "cf[1a]") ≡ false
not_with_letters = refl

pub not_with_more : is_numbered_field (codes "cf[1] ") ≡ false
not_with_more = refl
