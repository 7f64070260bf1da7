-- Worked values.
use Rattle.std.specs.Prelude.{◌≡◌, codes, pos}
use Rattle.civil_dates.specs.DateText.{date_text}

abbrev pub WorkedDays : Type 0
WorkedDays =
    (date_text (pos 0) ≡ codes "1970-01-01")
    × (date_text (pos 19_722) ≡ codes "2023-12-31")
    × (date_text (pos 19_782) ≡ codes "2024-02-29")
    × (date_text (pos 47_481) ≡ codes "2099-12-31")
