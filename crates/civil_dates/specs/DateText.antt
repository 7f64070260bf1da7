-- The text of a day, yyyy-MM-dd, as ASCII codes.
use Rattle.std.specs.Prelude.{ℕ, ◌+◌, ◌/◌, ◌%◌, List, [], ◌∷◌, ◌++◌, ℤ}
use Rattle.civil_dates.specs.Days.{year_of, month_of, day_of_month}

-- a number below 100 in two digits
abbrev pub two_digits : ℕ → List ℕ
two_digits n = (48 + n / 10) ∷ (48 + n % 10) ∷ []

-- a number below 10,000 in four
abbrev pub four_digits : ℕ → List ℕ
four_digits n = two_digits (n / 100) ++ two_digits (n % 100)

abbrev pub hyphen : ℕ
hyphen = 45

-- year, month and day of the month with hyphens between
abbrev pub text_of_date : ℕ → ℕ → ℕ → List ℕ
text_of_date y m d = four_digits y ++ (hyphen ∷ (two_digits m ++ (hyphen ∷ two_digits d)))

-- the text of a day
unfoldable pub date_text : ℤ → List ℕ
date_text day = text_of_date (year_of day) (month_of day) (day_of_month day)
