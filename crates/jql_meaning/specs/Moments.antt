-- The moments of a span of time.
use Rattle.std.specs.Prelude.{◌≡◌, ◌⊎◌, ℕ, zero, suc, ◌+◌, ◌-◌, ◌<◌, Bool, false, ◌||◌, Option, Some, None}
use Rattle.change_history.specs.Span.{SpanOf}

-- one of the n numbers from `low` on passes
unfoldable pub some_from : (ℕ → Bool) → ℕ → ℕ → Bool
some_from passes zero low = false
some_from passes (suc n) low = passes low || some_from passes n (low + 1)

-- the moment after a span's last: its end, or, where it has none, the one after the present moment
abbrev pub after_last : Option ℕ → ℕ → ℕ
after_last (Some end) now = end
after_last None now = now + 1

-- a span has its begin, and the later moments before its end or, where it has none, up to the present moment
abbrev pub HasMoment : SpanOf → ℕ → ℕ → Type 0
HasMoment span now moment =
    (moment ≡ span.begin) ⊎ ((span.begin < moment) × (moment < after_last span.end now))

-- one of the moments that a span has passes
abbrev pub some_moment : (ℕ → Bool) → SpanOf → ℕ → Bool
some_moment passes span now =
    passes span.begin
    || some_from passes (after_last span.end now - (span.begin + 1)) (span.begin + 1)
