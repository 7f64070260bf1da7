-- All subscriptions, one after another.
use Rattle.std.proofs.Common.{◌≡◌, ℕ, zero, suc, ◌+◌, ◌<◌, ◌≢◌, Bool, true, false, List, [], ◌∷◌, ◌++◌, length, map, take, drop, get_or, set, nat_lt, refl, sym, ◌∙◌, ap, subst, arith}
use Rattle.std.specs.List.{All, AllWithin}
use Rattle.std.proofs.lemmas.Bool.Decides.{nat_tests}
use Rattle.std.proofs.lemmas.List.{get_or_default, get_or-set_other, get_or-set_same, length-map, map-set}
use Rattle.std.proofs.lemmas.List.Edits.{map_over_more}
use Rattle.std.proofs.Math.Seq.{map-set_same}
use Rattle.move_feeds.specs.Feed.{Feed, after_event}
use Rattle.move_feeds.specs.Held.{HeldFeed, IsReady, feeds_of}

abbrev feed : HeldFeed → Feed
feed h = h.feed

pub feeds_set : (hs : List HeldFeed) (k : ℕ) (x d : HeldFeed) → x.feed ≡ (get_or hs k d).feed → feeds_of (set hs k x) ≡ feeds_of hs
feeds_set hs k x d is = map-set_same feed hs k x d is

pub length-feeds : (hs gs : List HeldFeed) → feeds_of hs ≡ feeds_of gs → length hs ≡ length gs
length-feeds hs gs same = sym (length-map hs feed) ∙ (ap length same ∙ length-map gs feed)

pub within_more : (P : HeldFeed → Type 0) (hs : List HeldFeed) (k : ℕ) (x : HeldFeed) → AllWithin P hs 0 k → x ≡ get_or hs k x → k < length hs → P x → AllWithin P hs 0 (k + 1)
within_more P hs k x all is lt holds j d low less = by (nat_lt j k) refl
  where
    by : (b : Bool) → nat_lt j k ≡ b → P (get_or hs j d)
    by true is_less = all j d low (grind (arith, nat_tests, is_less))
    by false not_less =
        let e : k ≡ j = grind (arith, nat_tests, not_less, less) in
        subst P (is ∙ (get_or_default hs k x d lt ∙ ap (λ i. get_or hs i d) e)) holds

-- ---- those that are left

get_drop : (hs : List HeldFeed) (k : ℕ) (d : HeldFeed) → get_or (drop k hs) 0 d ≡ get_or hs k d
get_drop [] zero d = refl
get_drop [] (suc k) d = refl
get_drop (h ∷ hs) zero d = refl
get_drop (h ∷ hs) (suc k) d = get_drop hs k d

pub rest_at : (old hs : List HeldFeed) (k : ℕ) (d : HeldFeed) → drop k hs ≡ drop k old → get_or hs k d ≡ get_or old k d
rest_at old hs k d rest = sym (get_drop hs k d) ∙ (ap (λ l. get_or l 0 d) rest ∙ get_drop old k d)

drop_set : (hs : List HeldFeed) (k : ℕ) (y : HeldFeed) → drop (suc k) (set hs k y) ≡ drop (suc k) hs
drop_set [] k y = refl
drop_set (h ∷ hs) zero y = refl
drop_set (h ∷ hs) (suc k) y = drop_set hs k y

drop_one : (hs : List HeldFeed) (k : ℕ) → drop (suc k) hs ≡ drop 1 (drop k hs)
drop_one [] zero = refl
drop_one [] (suc k) = refl
drop_one (h ∷ hs) zero = refl
drop_one (h ∷ hs) (suc k) = drop_one hs k

pub rest_same : (old hs : List HeldFeed) (k : ℕ) → drop k hs ≡ drop k old → drop (k + 1) hs ≡ drop (k + 1) old
rest_same old hs k rest =
    let e : k + 1 ≡ suc k = omega arith in
    ap (λ j. drop j hs) e ∙ (drop_one hs k ∙ (ap (drop 1) rest ∙ (sym (drop_one old k) ∙ ap (λ j. drop j old) (sym e))))

pub rest_set : (old hs : List HeldFeed) (k : ℕ) (y : HeldFeed) → drop k hs ≡ drop k old → drop (k + 1) (set hs k y) ≡ drop (k + 1) old
rest_set old hs k y rest =
    let e : k + 1 ≡ suc k = omega arith in
    ap (λ j. drop j (set hs k y)) e ∙ (drop_set hs k y ∙ (ap (λ j. drop j hs) (sym e) ∙ rest_same old hs k rest))

-- ---- those that are done

get_feed : (hs : List HeldFeed) (k : ℕ) (x : HeldFeed) → get_or (feeds_of hs) k x.feed ≡ (get_or hs k x).feed
get_feed [] k x = refl
get_feed (h ∷ hs) zero x = refl
get_feed (h ∷ hs) (suc k) x = get_feed hs k x

module _ (g : Feed → Feed) (old hs : List HeldFeed) (k : ℕ) (x : HeldFeed) (lt : k < length old)
    (done : feeds_of hs ≡ map g (take k (feeds_of old)) ++ drop k (feeds_of old)) (is : x ≡ get_or hs k x) where
  more : set (feeds_of hs) k (g x.feed) ≡ map g (take (k + 1) (feeds_of old)) ++ drop (k + 1) (feeds_of old)
  more = map_over_more g (feeds_of old) (feeds_of hs) k x.feed (omega (arith, lt, length-map old feed)) done (ap feed is ∙ sym (get_feed hs k x))

  -- one more is
  pub done_more : (y : HeldFeed) → y.feed ≡ g x.feed → feeds_of (set hs k y) ≡ map g (take (k + 1) (feeds_of old)) ++ drop (k + 1) (feeds_of old)
  done_more y made = map-set feed hs k y ∙ (ap (set (feeds_of hs) k) made ∙ more)

  -- one more is as it was
  pub done_same : g x.feed ≡ x.feed → feeds_of hs ≡ map g (take (k + 1) (feeds_of old)) ++ drop (k + 1) (feeds_of old)
  done_same same = sym (map-set_same feed hs k x x (ap feed is)) ∙ (map-set feed hs k x ∙ (ap (set (feeds_of hs) k) (sym same) ∙ more))

-- one more holds, behind a change of it
pub within_set : (P : HeldFeed → Type 0) (hs : List HeldFeed) (k : ℕ) (y : HeldFeed) → AllWithin P hs 0 k → k < length hs → P y → AllWithin P (set hs k y) 0 (k + 1)
within_set P hs k y all lt holds j d low less = by (nat_lt j k) refl
  where
    by : (b : Bool) → nat_lt j k ≡ b → P (get_or (set hs k y) j d)
    by true is_less =
        let before : j < k = grind (arith, nat_tests, is_less) in
        let other : j ≢ k = λ e. absurd (omega (arith, before, e)) in
        subst P (sym (get_or-set_other hs k j y d other)) (all j d low before)
    by false not_less =
        let e : k ≡ j = grind (arith, nat_tests, not_less, less) in
        subst P (sym (get_or-set_same hs k y d lt) ∙ ap (λ i. get_or (set hs k y) i d) e) holds

-- one more holds of the subscriptions
pub feeds_within : (P : Feed → Type 0) (hs : List HeldFeed) (k : ℕ) (x : HeldFeed) → AllWithin P (feeds_of hs) 0 k → x ≡ get_or hs k x → k < length hs → P x.feed → AllWithin P (feeds_of hs) 0 (k + 1)
feeds_within P hs k x all is lt holds j d low less = by (nat_lt j k) refl
  where
    by : (b : Bool) → nat_lt j k ≡ b → P (get_or (feeds_of hs) j d)
    by true is_less = all j d low (grind (arith, nat_tests, is_less))
    by false not_less =
        let e : k ≡ j = grind (arith, nat_tests, not_less, less) in
        let within : k < length (feeds_of hs) = omega (arith, lt, length-map hs feed) in
        subst P (ap feed is ∙ (sym (get_feed hs k x) ∙ (get_or_default (feeds_of hs) k x.feed d within ∙ ap (λ i. get_or (feeds_of hs) i d) e))) holds

-- what holds of all subscriptions holds of one that is read
pub feed_holds : (P : Feed → Type 0) (old hs : List HeldFeed) (k : ℕ) (x : HeldFeed) → All P (feeds_of old) → drop k hs ≡ drop k old → k < length old → P (get_or hs k x).feed
feed_holds P old hs k x all rest lt =
    let within : k < length (feeds_of old) = omega (arith, lt, length-map old feed) in
    subst P (get_feed old k x ∙ ap feed (sym (rest_at old hs k x rest))) (all k x.feed within)

pub held_holds : (P : HeldFeed → Type 0) (old hs : List HeldFeed) (k : ℕ) (x : HeldFeed) → All P old → drop k hs ≡ drop k old → k < length old → P (get_or hs k x)
held_holds P old hs k x all rest lt = subst P (sym (rest_at old hs k x rest)) (all k x lt)
