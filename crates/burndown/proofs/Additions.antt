-- An issue that is made, and a group that is added to one, as the next group of the histories.
use Rattle.std.proofs.Common.{◌≡◌, ◌≢◌, ℕ, zero, suc, ◌+◌, ◌*◌, ◌^◌, ◌<◌, ◌≤◌, ◌==◌, nat_lt, nat_le, ℤ, pos, neg_ℤ, ◌+ℤ◌, ◌≤ℤ◌, Bool, true, false, cond, List, [], ◌∷◌, ◌++◌, length, All, Option, Some, None, IfSome, slice_get, slice_set, if◌then◌else◌, refl, sym, ◌∙◌, ap, subst, append-nil, not, ◌&&◌, arith}
use Rattle.std.proofs.lemmas.Bool.{eq-eqb, ne_eqb, lt-ltb, le-ltb, le-leb, lt-leb}
use Rattle.std.proofs.lemmas.List.Elements.{filter-append}
use Rattle.std.proofs.lemmas.Int.{ints}
use Rattle.std.proofs.lemmas.Option.{none-some}
use Rattle.field_values.specs.declared.numbers.UserNo.{UserNo}
use Rattle.field_values.specs.declared.numbers.FieldNo.{FieldNo}
use Rattle.field_values.specs.declared.value.Value.{Value}
use Rattle.tracker_limits.specs.Limits.{most_issues}
use Rattle.change_history.specs.declared.entry.Entry.{Entry}
use Rattle.change_history.specs.History.{History, value_after, opening_value, present, AreGroupEntries}
use Rattle.sprints.specs.declared.state.SprintState.{SprintState}
use Rattle.sprints.specs.declared.state.SprintState.TheVariants.{Future, Active, Closed}
use Rattle.burndown.specs.declared.share.Share.{Share}
use Rattle.burndown.specs.declared.share.BurnRow.{BurnRow}
use Rattle.burndown.specs.declared.progress.Stage.{Stage}
use Rattle.burndown.specs.declared.progress.Stage.TheVariants.{Ahead, Running, Ended}
use Rattle.burndown.specs.Share.{names, counts_for, counted_before}
use Rattle.burndown.specs.Group.{group_of}
use Rattle.burndown.specs.Course.{Course, IsTotal, after_group}
use Rattle.burndown.specs.Tracked.{TrackedSprint}
use Rattle.burndown.specs.Burndown.{course_of}
use Rattle.burndown.specs.AfterGroup.{up_to, value_then, share_then, remaining_then, moment_among, moment_in, this_or, group_numbered}
use Rattle.burndown.specs.Chart.{row_of_group, rows_between, course_by, last_number, IsPast, IsBurndownOf}
use Rattle.burndown.specs.Told.{HaveNumbersUpTo, AreFew, ArePoints, HavePoints, MayBeTold}
use Rattle.burndown.specs.ChartLaws.{with_entries, NextMayBeTold, CreationMayBeTold, AdditionMayBeTold, TotalsFit}
use Rattle.burndown.proofs.AfterGroups.{some_is}
use Rattle.burndown.proofs.Charts.{next_course, next_told}

-- a number within m of zero
abbrev IsWithin : ℕ → ℤ → Type 0
IsWithin m x = (neg_ℤ (pos m) ≤ℤ x) × (x ≤ℤ pos m)

counts_within : (s : ℕ) (share : Share) → ArePoints share.points → ArePoints (counts_for s share)
counts_within s share few = by (names share.sprint s && not share.done)
  where
    by : (x : Bool) → ArePoints (if x then share.points else pos 0)
    by true = few
    by false = (omega (arith, ints), omega (arith, ints))

before_within : (s : ℕ) (share : Option Share) → IfSome share (λ x. ArePoints x.points) → ArePoints (counted_before s share)
before_within s None few = (omega (arith, ints), omega (arith, ints))
before_within s (Some share) few = counts_within s share few

module _ (reading : (FieldNo → Value) → Share) (s n : ℕ) where
  sum_within : (hs : List History) → HavePoints reading hs → IsWithin (length hs * 10 ^ 12) (remaining_then reading hs s n)
  sum_within [] few = (omega (arith, ints), omega (arith, ints))
  sum_within (h ∷ hs) few =
      let own = before_within s (share_then reading h n) (few 0 h (omega arith) n) in
      let rest = sum_within hs (λ k d lt. few (suc k) d (omega (arith, lt))) in
      sum (length hs) (counted_before s (share_then reading h n)) (remaining_then reading hs s n) own rest
    where
      sum : (k : ℕ) (x y : ℤ) → ArePoints x → IsWithin (k * 10 ^ 12) y → IsWithin (suc k * 10 ^ 12) (x +ℤ y)
      sum k x y a b = (omega (arith, ints, a, b), omega (arith, ints, a, b))

pub totals_fit : TotalsFit
totals_fit reading hs few points s n = within (length hs) (remaining_then reading hs s n) few (sum_within reading s n hs points)
  where
    within : (k : ℕ) (x : ℤ) → k ≤ most_issues → IsWithin (k * 10 ^ 12) x → IsTotal x
    within k x le b = (omega (arith, ints, le, b), omega (arith, ints, le, b))

course_fits : (reading : (FieldNo → Value) → Share) (hs : List History) → AreFew hs → HavePoints reading hs → (s n : ℕ) (state : SprintState) (c : Course) → c ≡ course_by reading hs s state n → IsTotal c.total
course_fits reading hs few points s n state c is = subst (λ (x : Course). IsTotal x.total) (sym is) (totals_fit reading hs few points s (last_number state n))

-- the next group of the histories may be told
pub next_may_be_told : NextMayBeTold
next_may_be_told reading hs states b group is was = subst (λ n. MayBeTold reading hs states n b group) (sym is.change_is) (record {
  fits = λ few points s. course_fits reading hs few points s (suc is.number) (states s) (after_group s group (course_of b s)) (next_course reading hs group is states b was s);
  told = λ new tells. next_told reading hs group is states b was new tells;
})

-- a number is written in two ways
one_on : (n : ℕ) → suc n ≡ n + 1
one_on n = omega arith

-- two lists of histories that say the same up to a group
record SaySame (reading : (FieldNo → Value) → Share) (n : ℕ) (old new : List History) : Type 0 where
  remaining : (s k : ℕ) → k ≤ n → remaining_then reading old s k ≡ remaining_then reading new s k
  groups : (k : ℕ) → k ≤ n → group_numbered old k ≡ group_numbered new k

module _ (reading : (FieldNo → Value) → Share) (n : ℕ) (old new : List History) (same : SaySame reading n old new) where
  rows_same : (s low k : ℕ) → k ≤ n → rows_between reading old s low k ≡ rows_between reading new s low k
  rows_same s low zero le = refl
  rows_same s low (suc k) le =
      let less : k ≤ n = omega (arith, le) in
      ap (λ rows. if nat_lt low (suc k) then rows ++ row_of_group (group_numbered old (suc k)) (suc k) (remaining_then reading old s k) (remaining_then reading old s (suc k)) else []) (rows_same s low k less)
      ∙ ap (λ g. if nat_lt low (suc k) then rows_between reading new s low k ++ row_of_group g (suc k) (remaining_then reading old s k) (remaining_then reading old s (suc k)) else []) (same.groups (suc k) le)
      ∙ ap (λ x. if nat_lt low (suc k) then rows_between reading new s low k ++ row_of_group (group_numbered new (suc k)) (suc k) x (remaining_then reading old s (suc k)) else []) (same.remaining s k less)
      ∙ ap (λ x. if nat_lt low (suc k) then rows_between reading new s low k ++ row_of_group (group_numbered new (suc k)) (suc k) (remaining_then reading new s k) x else []) (same.remaining s (suc k) le)

  course_same : (s : ℕ) (state : SprintState) → IsPast n state → course_by reading old s state n ≡ course_by reading new s state n
  course_same s state past = by state past
    where
      course_with : ℤ → Stage → List BurnRow → Course
      course_with total stage rows = record { total = total; stage = stage; rows = rows }

      parts : (low high : ℕ) (stage : ℤ → Stage) → low ≤ n → high ≤ n →
          course_with (remaining_then reading old s high) (stage (remaining_then reading old s low)) (rows_between reading old s low high)
          ≡ course_with (remaining_then reading new s high) (stage (remaining_then reading new s low)) (rows_between reading new s low high)
      parts low high stage a b =
          ap (λ x. course_with x (stage (remaining_then reading old s low)) (rows_between reading old s low high)) (same.remaining s high b)
          ∙ ap (λ x. course_with (remaining_then reading new s high) (stage x) (rows_between reading old s low high)) (same.remaining s low a)
          ∙ ap (λ r. course_with (remaining_then reading new s high) (stage (remaining_then reading new s low)) r) (rows_same s low high b)

      by : (x : SprintState) → IsPast n x → course_by reading old s x n ≡ course_by reading new s x n
      by Future past = parts n n (λ start. Ahead) (omega arith) (omega arith)
      by (Active at change) past = parts change n (λ start. Running start) past (omega arith)
      by (Closed start_at start_change at change) past = parts start_change change (λ start. Ended start) past.0 past.1

  same_burndown : (states : ℕ → SprintState) (b : List TrackedSprint) → IsBurndownOf reading old states n b → IsBurndownOf reading new states n b
  same_burndown states b is = record { past = is.past; courses = λ s. is.courses s ∙ course_same s (states s) (is.past s) }

-- an issue of greater numbers says nothing up to a group
later_share : (reading : (FieldNo → Value) → Share) (h : History) (n k : ℕ) → n < h.change → k ≤ n → share_then reading h k ≡ None
later_share reading h n k later le =
    let not_yet : nat_lt k h.change ≡ true = lt-ltb k h.change (omega (arith, later, le)) in
    ap (λ (t : Bool). if t then None else Some (reading (value_then h k))) not_yet

created_share : (reading : (FieldNo → Value) → Share) (h : History) (n : ℕ) → h.change ≤ n → share_then reading h n ≡ Some (reading (value_then h n))
created_share reading h n le =
    let made : nat_lt n h.change ≡ false = le-ltb n h.change le in
    ap (λ (t : Bool). if t then None else Some (reading (value_then h n))) made

-- entries up to a number
abbrev AreUpTo : ℕ → List Entry → Type 0
AreUpTo n es = All (λ e. e.change ≤ n) es

-- entries of one group, at one moment
abbrev AreOf : ℕ → ℕ → List Entry → Type 0
AreOf n at [] = Unit {0}
AreOf n at (e ∷ es) = (e.change ≡ n) × (e.at ≡ at) × AreOf n at es

are_of : (values : FieldNo → Value) (low n at : ℕ) (author : UserNo) (es : List Entry) → AreGroupEntries values low n at author es → AreOf n at es
are_of values low n at author [] group = tt
are_of values low n at author (e ∷ es) group = (group.1, group.2, are_of values (e.field.0 + 1) n at author es group.6)

up_to_all : (n : ℕ) (es : List Entry) → AreUpTo n es → up_to n es ≡ es
up_to_all n [] all = refl
up_to_all n (e ∷ es) all =
    let here : nat_le e.change n ≡ true = le-leb e.change n (all 0 e (omega arith)) in
    ap (λ (t : Bool). cond t (e ∷ up_to n es) (up_to n es)) here ∙ ap (λ rest. e ∷ rest) (up_to_all n es (λ k d lt. all (suc k) d (omega (arith, lt))))

up_to_none : (n k at : ℕ) (es : List Entry) → AreOf (suc n) at es → k ≤ n → up_to k es ≡ []
up_to_none n k at [] are le = refl
up_to_none n k at (e ∷ es) are le =
    let number = are.0 in
    let here : nat_le e.change k ≡ false = lt-leb e.change k (omega (arith, number, le)) in
    ap (λ (t : Bool). cond t (e ∷ up_to k es) (up_to k es)) here ∙ up_to_none n k at es are.2 le

up_to_group : (n at : ℕ) (es : List Entry) → AreOf n at es → up_to n es ≡ es
up_to_group n at [] are = refl
up_to_group n at (e ∷ es) are =
    let number = are.0 in
    let here : nat_le e.change n ≡ true = le-leb e.change n (omega (arith, number)) in
    ap (λ (t : Bool). cond t (e ∷ up_to n es) (up_to n es)) here ∙ ap (λ rest. e ∷ rest) (up_to_group n at es are.2)

-- the group's moment is that of its entries, and no other group's
moment_behind : (n : ℕ) (es more : List Entry) → AreUpTo n es → moment_among (es ++ more) (suc n) ≡ moment_among more (suc n)
moment_behind n [] more all = refl
moment_behind n (e ∷ es) more all =
    let low = all 0 e (omega arith) in
    let other : (e.change == suc n) ≡ false = ne_eqb e.change (suc n) (λ is. absurd (omega (arith, is, low))) in
    ap (λ (t : Bool). if t then Some e.at else moment_among (es ++ more) (suc n)) other ∙ moment_behind n es more (λ k d lt. all (suc k) d (omega (arith, lt)))

moment_first : (n at : ℕ) (es : List Entry) → 0 < length es → AreOf n at es → moment_among es n ≡ Some at
moment_first n at [] some are = absurd (omega (arith, some))
moment_first n at (e ∷ es) some are =
    ap (λ (t : Bool). if t then Some e.at else moment_among es n) (eq-eqb e.change n are.0) ∙ ap (λ x. Some x) are.1

moment_none : (n k at : ℕ) (es : List Entry) → AreOf (suc n) at es → k ≤ n → moment_among es k ≡ None
moment_none n k at [] are le = refl
moment_none n k at (e ∷ es) are le =
    let number = are.0 in
    let other : (e.change == k) ≡ false = ne_eqb e.change k (λ is. absurd (omega (arith, is, number, le))) in
    ap (λ (t : Bool). if t then Some e.at else moment_among es k) other ∙ moment_none n k at es are.2 le

moment_before : (n k at : ℕ) (es more : List Entry) → AreOf (suc n) at more → k ≤ n → moment_among (es ++ more) k ≡ moment_among es k
moment_before n k at [] more are le = moment_none n k at more are le
moment_before n k at (e ∷ es) more are le = ap (λ rest. if e.change == k then Some e.at else rest) (moment_before n k at es more are le)

none_among : (n : ℕ) (es : List Entry) → AreUpTo n es → moment_among es (suc n) ≡ None
none_among n es all = ap (λ xs. moment_among xs (suc n)) (sym (append-nil es)) ∙ moment_behind n es [] all

-- an issue of no greater numbers doesn't have the next group
not_next : (n : ℕ) (h : History) → h.change ≤ n → AreUpTo n h.entries → moment_in h (suc n) ≡ None
not_next n h le all =
    let other : (h.change == suc n) ≡ false = ne_eqb h.change (suc n) (λ is. absurd (omega (arith, is, le))) in
    ap (λ (t : Bool). if t then Some h.at else moment_among h.entries (suc n)) other ∙ none_among n h.entries all

-- what holds of each issue holds of the one at a place
holds_at : (P : History → Type 0) (hs : List History) → All P hs → (j : ℕ) (o : History) → slice_get hs j ≡ Some o → P o
holds_at P [] all j o there = absurd (none-some o there)
holds_at P (h ∷ hs) all zero o there = subst P (some_is h o there) (all 0 h (omega arith))
holds_at P (h ∷ hs) all (suc j) o there = holds_at P hs (λ k d lt. all (suc k) d (omega (arith, lt))) j o there

none_has_next : (n : ℕ) (hs : List History) → HaveNumbersUpTo n hs → (j : ℕ) (o : History) → slice_get hs j ≡ Some o → moment_in o (suc n) ≡ None
none_has_next n hs all j o there =
    let up = holds_at (λ h. (h.change ≤ n) × AreUpTo n h.entries) hs all j o there in
    not_next n o up.0 up.1

get_last : (hs : List History) (h : History) → slice_get (hs ++ h ∷ []) (length hs) ≡ Some h
get_last [] h = refl
get_last (x ∷ hs) h = get_last hs h

get_other : (hs : List History) (h : History) (j : ℕ) (o : History) → slice_get (hs ++ h ∷ []) j ≡ Some o → j ≢ length hs → slice_get hs j ≡ Some o
get_other [] h zero o there ne = absurd (ne refl)
get_other [] h (suc j) o there ne = absurd (none-some o there)
get_other (x ∷ hs) h zero o there ne = there
get_other (x ∷ hs) h (suc j) o there ne = get_other hs h j o there (λ e. ne (ap suc e))

-- a new issue says nothing of the past
module _ (reading : (FieldNo → Value) → Share) (n : ℕ) (h : History) (later : n < h.change) (bare : h.entries ≡ []) where
  no_moment : (k : ℕ) → k ≤ n → moment_in h k ≡ None
  no_moment k le =
      let other : (h.change == k) ≡ false = ne_eqb h.change k (λ is. absurd (omega (arith, is, later, le))) in
      ap (λ (t : Bool). if t then Some h.at else moment_among h.entries k) other ∙ ap (λ es. moment_among es k) bare

  made_same : (hs : List History) → SaySame reading n hs (hs ++ h ∷ [])
  made_same [] = record {
    remaining = λ s k le. sym (ap (λ share. counted_before s share +ℤ pos 0) (later_share reading h n k later le));
    groups = λ k le. sym (ap (λ m. this_or m h.no None) (no_moment k le));
  }
  made_same (x ∷ hs) =
      let rest = made_same hs in
      record {
        remaining = λ s k le. ap (λ y. counted_before s (share_then reading x k) +ℤ y) (rest.remaining s k le);
        groups = λ k le. ap (λ g. this_or (moment_in x k) x.no g) (rest.groups k le);
      }

pub creation_may_be_told : CreationMayBeTold
creation_may_be_told reading hs states now b h is up_to_now number bare = subst (λ n. MayBeTold reading (hs ++ h ∷ []) states n b (group_of n h.at h.no None (reading (present h)))) (one_on now)
    (next_may_be_told reading (hs ++ h ∷ []) states b (group_of (suc now) h.at h.no None (reading (present h)))
    (record {
      place = length hs;
      issue = h;
      number = now;
      is_at = record { there = get_last hs h; made = made; alone = λ j o there ne. none_has_next now hs up_to_now j o (get_other hs h j o there ne) };
      change_is = refl;
      issue_is = refl;
      before_is = sym (later_share reading h now now (omega (arith, number)) (omega arith));
      after_is = created_share reading h (suc now) (omega (arith, number)) ∙ ap (λ es. Some (reading (λ f. value_after (opening_value h.opening f) es f))) (ap (up_to (suc now)) bare ∙ sym bare);
    })
    (same_burndown reading now hs (hs ++ h ∷ []) (made_same reading now h (omega (arith, number)) bare hs) states b is))
  where
    made : moment_in h (suc now) ≡ Some h.at
    made = ap (λ (t : Bool). if t then Some h.at else moment_among h.entries (suc now)) (eq-eqb h.change (suc now) (omega (arith, number)))

set_there : (hs : List History) (i : ℕ) (old new : History) → slice_get hs i ≡ Some old → slice_get (slice_set hs i new) i ≡ Some new
set_there [] i old new there = absurd (none-some old there)
set_there (x ∷ hs) zero old new there = refl
set_there (x ∷ hs) (suc i) old new there = set_there hs i old new there

set_other : (hs : List History) (i : ℕ) (new : History) (j : ℕ) → j ≢ i → slice_get (slice_set hs i new) j ≡ slice_get hs j
set_other [] i new j ne = refl
set_other (x ∷ hs) zero new zero ne = absurd (ne refl)
set_other (x ∷ hs) zero new (suc j) ne = refl
set_other (x ∷ hs) (suc i) new zero ne = refl
set_other (x ∷ hs) (suc i) new (suc j) ne = set_other hs i new j (λ e. ne (ap suc e))

-- a history with a further group says the same of the past
module _ (reading : (FieldNo → Value) → Share) (n at : ℕ) (h : History) (es : List Entry) (are : AreOf (suc n) at es) where
  share_same : (k : ℕ) → k ≤ n → share_then reading h k ≡ share_then reading (with_entries h es) k
  share_same k le =
      let same : up_to k h.entries ≡ up_to k (h.entries ++ es) = sym (filter-append (λ e. nat_le e.change k) h.entries es ∙ ap (λ r. up_to k h.entries ++ r) (up_to_none n k at es are le) ∙ append-nil (up_to k h.entries)) in
      ap (λ xs. if nat_lt k h.change then None else Some (reading (λ f. value_after (opening_value h.opening f) xs f))) same

  moment_same : (k : ℕ) → k ≤ n → moment_in h k ≡ moment_in (with_entries h es) k
  moment_same k le = ap (λ m. if h.change == k then Some h.at else m) (sym (moment_before n k at h.entries es are le))

  set_same : (hs : List History) (i : ℕ) → slice_get hs i ≡ Some h → SaySame reading n hs (slice_set hs i (with_entries h es))
  set_same [] i there = absurd (none-some h there)
  set_same (x ∷ hs) zero there =
      let same : x ≡ h = some_is x h there in
      record {
        remaining = λ s k le. ap (λ y. counted_before s (share_then reading y k) +ℤ remaining_then reading hs s k) same ∙ ap (λ share. counted_before s share +ℤ remaining_then reading hs s k) (share_same k le);
        groups = λ k le. ap (λ (y : History). this_or (moment_in y k) y.no (group_numbered hs k)) same ∙ ap (λ m. this_or m h.no (group_numbered hs k)) (moment_same k le);
      }
  set_same (x ∷ hs) (suc i) there =
      let rest = set_same hs i there in
      record {
        remaining = λ s k le. ap (λ y. counted_before s (share_then reading x k) +ℤ y) (rest.remaining s k le);
        groups = λ k le. ap (λ g. this_or (moment_in x k) x.no g) (rest.groups k le);
      }

pub addition_may_be_told : AdditionMayBeTold
addition_may_be_told reading hs states now b place h at author es is up_to_now there may = subst (λ n. MayBeTold reading (slice_set hs place after) states n b (group_of n at h.no (Some (reading (present h))) (reading (present after)))) (one_on now)
    (next_may_be_told reading (slice_set hs place after) states b (group_of (suc now) at h.no (Some (reading (present h))) (reading (present after)))
    (record {
      place = place;
      issue = after;
      number = now;
      is_at = record {
        there = set_there hs place h after there;
        made = made;
        alone = λ j o found ne. none_has_next now hs up_to_now j o (sym (set_other hs place after j ne) ∙ found);
      };
      change_is = refl;
      issue_is = refl;
      before_is = sym (sym (share_same reading now at h es are now (omega arith)) ∙ created_share reading h now up.0 ∙ ap (λ xs. Some (reading (λ f. value_after (opening_value h.opening f) xs f))) (up_to_all now h.entries up.1));
      after_is = created_share reading after (suc now) (omega (arith, up.0)) ∙ ap (λ xs. Some (reading (λ f. value_after (opening_value h.opening f) xs f))) all_are;
    })
    (same_burndown reading now hs (slice_set hs place after) (set_same reading now at h es are hs place there) states b is))
  where
    after : History
    after = with_entries h es

    are : AreOf (suc now) at es
    are = subst (λ n. AreOf n at es) (sym (one_on now)) (are_of (present h) 0 (now + 1) at author es may.group)

    up : (h.change ≤ now) × AreUpTo now h.entries
    up = holds_at (λ x. (x.change ≤ now) × AreUpTo now x.entries) hs up_to_now place h there

    made : moment_in after (suc now) ≡ Some at
    made =
        let other : (h.change == suc now) ≡ false = ne_eqb h.change (suc now) (λ e. absurd (omega (arith, e, up.0))) in
        ap (λ (t : Bool). if t then Some h.at else moment_among (h.entries ++ es) (suc now)) other ∙ moment_behind now h.entries es up.1 ∙ moment_first (suc now) at es may.some are

    all_are : up_to (suc now) (h.entries ++ es) ≡ h.entries ++ es
    all_are =
        filter-append (λ e. nat_le e.change (suc now)) h.entries es
        ∙ ap (λ r. r ++ up_to (suc now) es) (up_to_all (suc now) h.entries (λ k d lt. let low = up.1 k d lt in omega (arith, low)))
        ∙ ap (λ r. h.entries ++ r) (up_to_group (suc now) at es are)
