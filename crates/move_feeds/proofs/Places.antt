-- Where the first subscription stands of which something holds, and what is done there.
use Rattle.std.proofs.Common.{◌≡◌, ℕ, zero, suc, ◌+◌, ◌<◌, Bool, true, false, not, cond, nat_lt, Option, Some, None, List, [], ◌∷◌, ◌++◌, length, map, take, drop, get_or, set, find, position, if◌then◌else◌, refl, sym, ◌∙◌, ap, subst, arith}
use Rattle.std.specs.List.{position_or_len, prefix_len, remove}
use Rattle.std.proofs.lemmas.Bool.Decides.{nat_tests}
use Rattle.std.proofs.lemmas.List.{get_or_default, get_or-set_same, get_or-set_other, length-set}
use Rattle.std.proofs.lemmas.List.Quantifiers.{position-Some}
use Rattle.move_feeds.specs.Feed.{Feed}
use Rattle.move_feeds.specs.FeedList.{changed_first, without_first}
use Rattle.move_feeds.specs.Held.{HeldFeed, feeds_of}

module _ (p : Feed → Bool) where
  abbrev holds : HeldFeed → Bool
  holds h = p h.feed

  -- the first one of which it holds stands at this place
  pub record IsFirst (hs : List HeldFeed) (k : ℕ) (d : HeldFeed) : Type 0 where
    pub within : k < length hs
    pub is : p (get_or hs k d).feed ≡ true
    pub none : (j : ℕ) → j < k → p (get_or hs j d).feed ≡ false

  pub is_first : (hs : List HeldFeed) (k : ℕ) (d : HeldFeed) → position (λ (h : HeldFeed). p h.feed) hs ≡ Some k → IsFirst hs k d
  is_first hs k d at =
      let first : (k < length hs) × (p (get_or hs k d).feed ≡ true) × ((j : ℕ) → j < k → p (get_or hs j d).feed ≡ false) = position-Some holds hs k d at in
      record { within = first.0; is = first.1; none = first.2 }

  -- behind the head
  behind : (h : HeldFeed) (hs : List HeldFeed) (k : ℕ) (d : HeldFeed) → IsFirst (h ∷ hs) (suc k) d → IsFirst hs k d
  behind h hs k d f = record {
    within = omega (arith, f.within);
    is = f.is;
    none = λ j lt. f.none (suc j) (omega (arith, lt));
  }

  head_none : (h : HeldFeed) (hs : List HeldFeed) (k : ℕ) (d : HeldFeed) → IsFirst (h ∷ hs) (suc k) d → p h.feed ≡ false
  head_none h hs k d f = f.none 0 (omega arith)

  -- it is what is found
  pub find_first : (hs : List HeldFeed) (k : ℕ) (d : HeldFeed) → IsFirst hs k d → find p (feeds_of hs) ≡ Some (get_or hs k d).feed
  find_first [] k d f = absurd (omega (arith, f.within))
  find_first (h ∷ hs) zero d f = ap (λ (t : Bool). cond t (Some h.feed) (find p (feeds_of hs))) f.is
  find_first (h ∷ hs) (suc k) d f =
      ap (λ (t : Bool). cond t (Some h.feed) (find p (feeds_of hs))) (head_none h hs k d f) ∙ find_first hs k d (behind h hs k d f)

  -- it is what is changed
  pub changed_at : (g : Feed → Feed) (hs : List HeldFeed) (k : ℕ) (d x : HeldFeed) → IsFirst hs k d → x.feed ≡ g (get_or hs k d).feed
      → feeds_of (set hs k x) ≡ changed_first p g (feeds_of hs)
  changed_at g [] k d x f is = absurd (omega (arith, f.within))
  changed_at g (h ∷ hs) zero d x f is =
      ap (λ (y : Feed). y ∷ feeds_of hs) is ∙ sym (ap (λ (t : Bool). if t then g h.feed ∷ feeds_of hs else h.feed ∷ changed_first p g (feeds_of hs)) f.is)
  changed_at g (h ∷ hs) (suc k) d x f is =
      ap (λ l. h.feed ∷ l) (changed_at g hs k d x (behind h hs k d f) is)
      ∙ sym (ap (λ (t : Bool). if t then g h.feed ∷ feeds_of hs else h.feed ∷ changed_first p g (feeds_of hs)) (head_none h hs k d f))

  -- it is what goes
  pub without_at : (hs : List HeldFeed) (k : ℕ) (d : HeldFeed) → IsFirst hs k d → feeds_of (remove hs k) ≡ without_first p (feeds_of hs)
  without_at [] k d f = absurd (omega (arith, f.within))
  without_at (h ∷ hs) zero d f = sym (ap (λ (t : Bool). if t then feeds_of hs else h.feed ∷ without_first p (feeds_of hs)) f.is)
  without_at (h ∷ hs) (suc k) d f =
      ap (λ l. h.feed ∷ l) (without_at hs k d (behind h hs k d f))
      ∙ sym (ap (λ (t : Bool). if t then feeds_of hs else h.feed ∷ without_first p (feeds_of hs)) (head_none h hs k d f))

  -- it is found again once it is changed, where the same holds of it then
  pub find_changed : (hs : List HeldFeed) (k : ℕ) (d x : HeldFeed) → IsFirst hs k d → p x.feed ≡ true → find p (feeds_of (set hs k x)) ≡ Some x.feed
  find_changed [] k d x f is = absurd (omega (arith, f.within))
  find_changed (h ∷ hs) zero d x f is = ap (λ (t : Bool). cond t (Some x.feed) (find p (feeds_of hs))) is
  find_changed (h ∷ hs) (suc k) d x f is =
      ap (λ (t : Bool). cond t (Some h.feed) (find p (feeds_of (set hs k x)))) (head_none h hs k d f) ∙ find_changed hs k d x (behind h hs k d f) is

  -- the place where it holds, where the head is or isn't one
  abbrev place : Bool → List HeldFeed → Option ℕ
  place t hs = cond (nat_lt (cond (not t) (1 + prefix_len (λ (x : HeldFeed). not (p x.feed)) hs) 0) (suc (length hs))) (Some (cond (not t) (1 + prefix_len (λ (x : HeldFeed). not (p x.feed)) hs) 0)) None

  head_out : (hs : List HeldFeed) (t : Bool) → place t hs ≡ None → t ≡ false
  head_out hs false at = refl
  head_out hs true at =
      let less : nat_lt 0 (suc (length hs)) ≡ true = grind (arith, nat_tests) in
      let some : ◌≡◌ {A = Option ℕ} (Some 0) None = sym (ap (λ (t : Bool). cond t (Some 0) None) less) ∙ at in
      absurd (cc some)

  tail_out : (hs : List HeldFeed) (n : ℕ) (b : Bool) → nat_lt n (length hs) ≡ b → cond (nat_lt (1 + n) (suc (length hs))) (Some (1 + n)) None ≡ None → cond b (Some n) None ≡ None
  tail_out hs n false less at = refl
  tail_out hs n true less at =
      let more : nat_lt (1 + n) (suc (length hs)) ≡ true = grind (arith, nat_tests, less) in
      let some : ◌≡◌ {A = Option ℕ} (Some (1 + n)) None = sym (ap (λ (t : Bool). cond t (Some (1 + n)) None) more) ∙ at in
      absurd (cc some)

  -- where it holds of none, none is found
  pub find_none : (hs : List HeldFeed) → position (λ (h : HeldFeed). p h.feed) hs ≡ None → find p (feeds_of hs) ≡ None
  find_none [] none = refl
  find_none (h ∷ hs) none =
      let out : p h.feed ≡ false = head_out hs (p h.feed) none in
      let at : place false hs ≡ None = subst (λ (t : Bool). place t hs ≡ None) out none in
      ap (λ (t : Bool). cond t (Some h.feed) (find p (feeds_of hs))) out
      ∙ find_none hs (tail_out hs (prefix_len (λ (x : HeldFeed). not (p x.feed)) hs) (nat_lt (prefix_len (λ (x : HeldFeed). not (p x.feed)) hs) (length hs)) refl at)

  -- what is read at the place is found
  pub found_at : (hs : List HeldFeed) (k : ℕ) (x : HeldFeed) → position (λ (h : HeldFeed). p h.feed) hs ≡ Some k → x ≡ get_or hs k x
      → find p (feeds_of hs) ≡ Some x.feed
  found_at hs k x at is = find_first hs k x (is_first hs k x at) ∙ ap (λ (h : HeldFeed). Some h.feed) (sym is)

  pub changed_read : (g : Feed → Feed) (hs : List HeldFeed) (k : ℕ) (x y : HeldFeed) → position (λ (h : HeldFeed). p h.feed) hs ≡ Some k → x ≡ get_or hs k x → y.feed ≡ g x.feed
      → feeds_of (set hs k y) ≡ changed_first p g (feeds_of hs)
  changed_read g hs k x y at is made = changed_at g hs k x y (is_first hs k x at) (made ∙ ap (λ (h : HeldFeed). g h.feed) is)

  -- what is changed at the place is found again, where the change leaves of it what is asked
  pub found_changed : (hs : List HeldFeed) (k : ℕ) (x y : HeldFeed) → position (λ (h : HeldFeed). p h.feed) hs ≡ Some k → x ≡ get_or hs k x → p y.feed ≡ p x.feed
      → find p (feeds_of (set hs k y)) ≡ Some y.feed
  found_changed hs k x y at is same =
      let first : IsFirst hs k x = is_first hs k x at in
      find_changed hs k x y first (same ∙ (ap (λ (h : HeldFeed). p h.feed) is ∙ first.is))

  pub without_read : (hs : List HeldFeed) (k : ℕ) → position (λ (h : HeldFeed). p h.feed) hs ≡ Some k → (d : HeldFeed) → feeds_of (remove hs k) ≡ without_first p (feeds_of hs)
  without_read hs k at d = without_at hs k d (is_first hs k d at)

-- where none is found, none is changed, and none goes
pub changed_none : (p : Feed → Bool) (g : Feed → Feed) (fs : List Feed) → find p fs ≡ None → changed_first p g fs ≡ fs
changed_none p g [] none = refl
changed_none p g (f ∷ fs) none = by (p f) none (changed_none p g fs)
  where
    by : (b : Bool) → cond b (Some f) (find p fs) ≡ None → (find p fs ≡ None → changed_first p g fs ≡ fs) → (if b then g f ∷ fs else f ∷ changed_first p g fs) ≡ f ∷ fs
    by true at rest = absurd (cc at)
    by false at rest = ap (λ l. f ∷ l) (rest at)

pub without_none : (p : Feed → Bool) (fs : List Feed) → find p fs ≡ None → without_first p fs ≡ fs
without_none p [] none = refl
without_none p (f ∷ fs) none = by (p f) none (without_none p fs)
  where
    by : (b : Bool) → cond b (Some f) (find p fs) ≡ None → (find p fs ≡ None → without_first p fs ≡ fs) → (if b then fs else f ∷ without_first p fs) ≡ f ∷ fs
    by true at rest = absurd (cc at)
    by false at rest = ap (λ l. f ∷ l) (rest at)
