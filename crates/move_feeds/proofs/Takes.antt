-- What an event leaves of a subscription.
use Rattle.std.proofs.Common.{◌≡◌, ℕ, ◌+◌, ◌<◌, ◌≤◌, ◌^◌, Bool, true, false, List, [], ◌++◌, length, nat_lt, if◌then◌else◌, refl, sym, ◌∙◌, ap, subst, arith, length-append}
use Rattle.std.proofs.lemmas.Bool.Decides.{nat_tests}
use Rattle.move_feeds.specs.declared.moves.Change.{Change}
use Rattle.move_feeds.specs.Changes.{changes, lacking}
use Rattle.move_feeds.specs.Feed.{Feed, IsFeed, after_event, last, most_waiting, with_listed}
use Rattle.move_feeds.proofs.Lacking.{length-changes, length-lacking}

module _ (f : Feed) (now : List Bool) (open_yet : f.lapsed ≡ false) where
  -- what waits in all
  abbrev all : List Change
  all = f.waiting ++ changes f.listed now

  by_many : (b : Bool) → b ≡ nat_lt most_waiting (length all)
      → record f { listed = now; acked = (if b then f.acked + length all else f.acked); waiting = (if b then [] else all); lapsed = b } ≡ with_listed now f
  by_many true is = ap (λ t. if t then record f { listed = now; acked = f.acked + length all; waiting = []; lapsed = true } else record f { listed = now; waiting = all }) is
  by_many false is =
      ap (λ l. record f { listed = now; waiting = all; lapsed = l }) (sym open_yet)
      ∙ ap (λ t. if t then record f { listed = now; acked = f.acked + length all; waiting = []; lapsed = true } else record f { listed = now; waiting = all }) is

  -- it is with what is listed now
  pub takes : (waits waiting : List Change) (lapsed : Bool) (acked : ℕ) → waits ≡ all → lapsed ≡ nat_lt most_waiting (length waits)
      → acked ≡ (if lapsed then f.acked + length waits else f.acked) → waiting ≡ (if lapsed then [] else waits)
      → record f { listed = now; acked = acked; waiting = waiting; lapsed = lapsed } ≡ with_listed now f
  takes waits waiting lapsed acked same is_lapsed is_acked is_waiting =
      let lapses : lapsed ≡ nat_lt most_waiting (length all) = is_lapsed ∙ ap (λ w. nat_lt most_waiting (length w)) same in
      ap (λ n. record f { listed = now; acked = n; waiting = waiting; lapsed = lapsed }) (is_acked ∙ ap (λ w. if lapsed then f.acked + length w else f.acked) same)
      ∙ (ap (λ w. record f { listed = now; acked = (if lapsed then f.acked + length all else f.acked); waiting = w; lapsed = lapsed }) (is_waiting ∙ ap (λ w. if lapsed then [] else w) same)
      ∙ by_many lapsed lapses)

-- it has numbers, and not too many wait
module _ (listed : List Bool) (now : List Bool) (acked : ℕ) (before waits waiting : List Change) (lapsed : Bool) (acked_now : ℕ) where
  pub stays_feed : (f : Feed) → f.listed ≡ now → f.acked ≡ acked_now → f.waiting ≡ waiting
      → waits ≡ before ++ changes listed now → lapsed ≡ nat_lt most_waiting (length waits)
      → acked_now ≡ (if lapsed then acked + length waits else acked) → waiting ≡ (if lapsed then [] else waits)
      → acked + length before < 2 ^ 63 → length listed < 2 ^ 32 → length now < 2 ^ 32 → IsFeed f
  stays_feed f is_listed is_acked is_waiting same is_lapsed acks waits_on few_before few_listed few_now = by lapsed is_lapsed acks waits_on
    where
      long : length waits ≡ length before + (length (lacking listed now) + length (lacking now listed))
      long = ap length same ∙ (length-append before (changes listed now) ∙ ap (λ n. length before + n) (length-changes listed now))

      by : (b : Bool) → b ≡ nat_lt most_waiting (length waits) → acked_now ≡ (if b then acked + length waits else acked) → waiting ≡ (if b then [] else waits) → IsFeed f
      by true many acks none = record {
        few = omega (arith, ap length (is_waiting ∙ none));
        numbers = omega (arith, is_acked, acks, ap length (is_waiting ∙ none), long, few_before, few_listed, few_now, length-lacking 1 listed now, length-lacking 1 now listed);
        issues = omega (arith, ap length is_listed, few_now);
      }
      by false many acks same_waits = record {
        few = grind (arith, nat_tests, many, ap length (is_waiting ∙ same_waits));
        numbers = omega (arith, is_acked, acks, ap length (is_waiting ∙ same_waits), long, few_before, few_listed, few_now, length-lacking 1 listed now, length-lacking 1 now listed);
        issues = omega (arith, ap length is_listed, few_now);
      }

pub event_open : (now : List Bool) (f g : Feed) → f.lapsed ≡ false → g ≡ with_listed now f → g ≡ after_event now f
event_open now f g open_yet is = is ∙ sym (ap (λ (b : Bool). if b then f else with_listed now f) open_yet)
