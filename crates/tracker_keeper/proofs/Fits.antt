-- What the reader finds may be kept, and is of the kind and the number that it was looked for.
use Rattle.std.proofs.Common.{◌≡◌, ℕ, ◌<◌, ◌≤◌, ◌^◌, ◌==◌, ◌&&◌, Bool, true, false, List, Option, Some, None, if◌then◌else◌, nat_le, nat_lt, refl, sym, subst, lt-ltb, leb-true, ltb-true, eqb-true, codes, length}
use Rattle.std.specs.Option.{option_map, option_and_then}
use Rattle.std.proofs.lemmas.Bool.{and_parts}
use Rattle.std.proofs.lemmas.Option.{cond_some, none-some, same_Some, option_and_then_some}
use Rattle.field_values.specs.Parts.{Parts}
use Rattle.field_values.specs.declared.numbers.UserNo.{UserNo}
use Rattle.field_forms.specs.Names.{place_named, is_title}
use Rattle.field_forms.proofs.Fits.{named_inside}
use Rattle.request_lines.specs.Readings.{last_moment}
use Rattle.rank_balancer.specs.Balance.{next_bucket}
use Rattle.rank_balancer.specs.declared.balance.Balance.{Balance}
use Rattle.rank_balancer.specs.declared.balance.Balance.TheVariants.{Idle, Moving}
use Rattle.sprints.specs.declared.state.SprintState.{SprintState}
use Rattle.sprints.specs.declared.state.SprintState.TheVariants.{Future, Active, Closed}
use Rattle.serde_json.specs.Data.{Data, null, boolean, number, string, array, object, no_items, item}
use Rattle.serde_json.specs.Find.{get}
use Rattle.tracker_keeper.specs.declared.part.Part.{Part}
use Rattle.tracker_keeper.specs.declared.part.Part.TheVariants as part
use Rattle.external_ids.specs.Form.{is_external}
use Rattle.tracker_keeper.specs.Forms.{IsNumber, IsStamp, HasStamps, is_balance, is_user}
use Rattle.tracker_keeper.specs.Kept.{IsPart, IsPartAt}
use Rattle.tracker_keeper.specs.Looking.{number_in, natural_of, whole_of, moment_of, small_of, moment_at, small_at, whole_at, bucket_of, balance_of, format_at, pair_of, stamp_of, state_by, state_at, present_like, external_like, sprint_like, board_like, user_at, filter_like}
use Rattle.json_texts.specs.JsonMembers.{text_at, title_at}

pub option_map_some : {A B P : Type 0} (f : A → B) (o : Option A) (y : B) → option_map f o ≡ Some y → ((x : A) → o ≡ Some x → f x ≡ y → P) → P
option_map_some f None y e k = absurd (none-some y e)
option_map_some f (Some x) y e k = k x refl (same_Some (f x) y e)

if_some : {A : Type 0} (b : Bool) (o : Option A) (y : A) → (if b then o else None) ≡ Some y → (b ≡ true) × (o ≡ Some y)
if_some true o y e = (refl, e)
if_some false o y e = absurd (none-some y e)

pub number_tells : (n m : ℕ) → number_in n ≡ Some m → (m ≡ n) × IsNumber n
number_tells n m e =
    let c = cond_some (nat_le 1 n && nat_lt n (2 ^ 32)) n m e in
    let t = and_parts (nat_le 1 n) (nat_lt n (2 ^ 32)) c.0 in
    (sym c.1, (leb-true 1 n t.0, ltb-true n (2 ^ 32) t.1))

pub is_number : (n m : ℕ) → number_in n ≡ Some m → IsNumber m
is_number n m e = let t = number_tells n m e in subst IsNumber (sym t.0) t.1

title_tells : (name : List ℕ) (d : Data) (text : List ℕ) → title_at name d ≡ Some text → is_title text ≡ true
title_tells name d text e = option_and_then_some (λ x. if is_title x then Some x else None) (text_at name d) text e (λ x is h.
    let c = cond_some (is_title x) x text h in subst (λ t. is_title t ≡ true) c.1 c.0)

moment_tells : (d : Data) (m : ℕ) → moment_of d ≡ Some m → m ≤ last_moment
moment_tells d m e = option_and_then_some (λ x. if nat_le x last_moment then Some x else None) (natural_of d) m e (λ x is h.
    let c = cond_some (nat_le x last_moment) x m h in subst (λ t. t ≤ last_moment) c.1 (leb-true x last_moment c.0))

whole_tells : (d : Data) (m : ℕ) → whole_of d ≡ Some m → m < 2 ^ 64
whole_tells d m e = option_and_then_some (λ x. if nat_lt x (2 ^ 64) then Some x else None) (natural_of d) m e (λ x is h.
    let c = cond_some (nat_lt x (2 ^ 64)) x m h in subst (λ t. t < 2 ^ 64) c.1 (ltb-true x (2 ^ 64) c.0))

small_tells : (d : Data) (m : ℕ) → small_of d ≡ Some m → m < 2 ^ 32
small_tells d m e = option_and_then_some (λ x. if nat_lt x (2 ^ 32) then Some x else None) (natural_of d) m e (λ x is h.
    let c = cond_some (nat_lt x (2 ^ 32)) x m h in subst (λ t. t < 2 ^ 32) c.1 (ltb-true x (2 ^ 32) c.0))

bucket_tells : (d : Data) (m : ℕ) → bucket_of d ≡ Some m → nat_lt m 3 ≡ true
bucket_tells d m e = option_and_then_some (λ x. if nat_lt x 3 then Some x else None) (natural_of d) m e (λ x is h.
    let c = cond_some (nat_lt x 3) x m h in subst (λ t. nat_lt t 3 ≡ true) c.1 c.0)

pub moment_at_tells : (name : List ℕ) (d : Data) (m : ℕ) → moment_at name d ≡ Some m → m ≤ last_moment
moment_at_tells name d m e = option_and_then_some moment_of (get name d) m e (λ x is h. moment_tells x m h)

whole_at_tells : (name : List ℕ) (d : Data) (m : ℕ) → whole_at name d ≡ Some m → m < 2 ^ 64
whole_at_tells name d m e = option_and_then_some whole_of (get name d) m e (λ x is h. whole_tells x m h)

small_at_tells : (name : List ℕ) (d : Data) (m : ℕ) → small_at name d ≡ Some m → m < 2 ^ 32
small_at_tells name d m e = option_and_then_some small_of (get name d) m e (λ x is h. small_tells x m h)

pub board_fits : (setup : Parts) (n : ℕ) (d : Data) (p : Part) → board_like n d ≡ Some p → IsPartAt setup 9 n p
unfolding board_like IsPart
board_fits setup n d p e =
    option_and_then_some _ (number_in n) p e (λ m m_is e'.
    option_and_then_some _ (title_at (codes "name") d) p e' (λ name name_is e''.
    option_map_some _ (small_at (codes "filter") d) p e'' (λ filter filter_is p_is.
    subst (IsPartAt setup 9 n) p_is (record {
      is_part = record { numbered = is_number n m m_is; named = title_tells (codes "name") d name name_is; small = small_at_tells (codes "filter") d filter filter_is };
      kind_is = refl;
      number_is = (number_tells n m m_is).0;
    }))))

pub external_fits : (setup : Parts) (n : ℕ) (body : List ℕ) (p : Part) → external_like n body ≡ Some p → IsPartAt setup 6 n p
unfolding external_like IsPart
external_fits setup n body p e =
    option_and_then_some _ (number_in n) p e (λ m m_is e'.
    let c = cond_some (is_external body) (part.External (record { 0 = m }) body) p e' in
    subst (IsPartAt setup 6 n) c.1 (record {
      is_part = record { numbered = is_number n m m_is; formed = c.0 };
      kind_is = refl;
      number_is = (number_tells n m m_is).0;
    }))

balance_tells : (d : Data) (b : Balance) → balance_of d ≡ Some b → is_balance b ≡ true
balance_tells null b e = absurd (none-some b e)
balance_tells (boolean x) b e = absurd (none-some b e)
balance_tells (number x) b e = absurd (none-some b e)
balance_tells (string x) b e = absurd (none-some b e)
balance_tells (object x) b e = absurd (none-some b e)
balance_tells (array no_items) b e = absurd (none-some b e)
balance_tells (array (item one no_items)) b e =
    option_map_some Idle (bucket_of one) b e (λ bucket bucket_is b_is. subst (λ x. is_balance x ≡ true) b_is (bucket_tells one bucket bucket_is))
balance_tells (array (item one (item other no_items))) b e =
    option_and_then_some _ (bucket_of one) b e (λ from from_is e'.
    option_and_then_some _ (bucket_of other) b e' (λ to to_is e''.
    let c = cond_some (to == next_bucket from) (Moving from to) b e'' in
    subst (λ x. is_balance x ≡ true) c.1 (rw (bucket_tells one from from_is, c.0) refl)))
balance_tells (array (item one (item other (item third more)))) b e = absurd (none-some b e)

pub present_fits : (setup : Parts) (n : ℕ) (d : Data) (p : Part) → present_like n d ≡ Some p → IsPartAt setup 2 n p
unfolding present_like IsPart
present_fits setup n d p e =
    let c = if_some (n == 0) _ p e in
    option_and_then_some _ (option_and_then balance_of (get (codes "balance") d)) p c.1 (λ balance balance_is e1.
    option_and_then_some _ (whole_at (codes "change") d) p e1 (λ change change_is e2.
    option_and_then_some _ (format_at d) p e2 (λ format format_is e3.
    option_map_some _ (moment_at (codes "moment") d) p e3 (λ moment moment_is p_is.
    subst (IsPartAt setup 2 n) p_is (record {
      is_part = record {
        balanced = option_and_then_some balance_of (get (codes "balance") d) balance balance_is (λ x is h. balance_tells x balance h);
        stamped = record { timely = moment_at_tells (codes "moment") d moment moment_is; counted = whole_at_tells (codes "change") d change change_is };
      };
      kind_is = refl;
      number_is = sym (eqb-true n 0 c.0);
    })))))

pair_tells : (d : Data) (pair : ℕ × ℕ) → pair_of d ≡ Some pair → IsStamp pair.0 pair.1
pair_tells null pair e = absurd (none-some pair e)
pair_tells (boolean x) pair e = absurd (none-some pair e)
pair_tells (number x) pair e = absurd (none-some pair e)
pair_tells (string x) pair e = absurd (none-some pair e)
pair_tells (object x) pair e = absurd (none-some pair e)
pair_tells (array no_items) pair e = absurd (none-some pair e)
pair_tells (array (item one no_items)) pair e = absurd (none-some pair e)
pair_tells (array (item one (item other no_items))) pair e =
    option_and_then_some _ (moment_of one) pair e (λ at at_is e'.
    option_map_some _ (whole_of other) pair e' (λ change change_is pair_is.
    subst (λ (q : ℕ × ℕ). IsStamp q.0 q.1) pair_is (record { timely = moment_tells one at at_is; counted = whole_tells other change change_is })))
pair_tells (array (item one (item other (item third more)))) pair e = absurd (none-some pair e)

-- a stamp that is there is one
abbrev IsStamped : Option (ℕ × ℕ) → Type 0
IsStamped None = Unit {0}
IsStamped (Some pair) = IsStamp pair.0 pair.1

stamp_by : (d : Data) (s : Option (ℕ × ℕ)) → option_map Some (pair_of d) ≡ Some s → IsStamped s
stamp_by d s e = option_map_some Some (pair_of d) s e (λ pair pair_is s_is. subst IsStamped s_is (pair_tells d pair pair_is))

stamp_tells : (d : Data) (s : Option (ℕ × ℕ)) → stamp_of d ≡ Some s → IsStamped s
stamp_tells null s e = subst IsStamped (same_Some None s e) tt
stamp_tells (boolean x) s e = stamp_by (boolean x) s e
stamp_tells (number x) s e = stamp_by (number x) s e
stamp_tells (string x) s e = stamp_by (string x) s e
stamp_tells (array x) s e = stamp_by (array x) s e
stamp_tells (object x) s e = stamp_by (object x) s e

stamp_at_tells : (name : List ℕ) (d : Data) (s : Option (ℕ × ℕ)) → option_and_then stamp_of (get name d) ≡ Some s → IsStamped s
stamp_at_tells name d s e = option_and_then_some stamp_of (get name d) s e (λ x is h. stamp_tells x s h)

state_tells : (start close : Option (ℕ × ℕ)) (state : SprintState) → IsStamped start → IsStamped close → state_by start close ≡ Some state → HasStamps state
state_tells None None state s c e = subst HasStamps (same_Some Future state e) tt
state_tells (Some start) None state s c e = subst HasStamps (same_Some (Active start.0 start.1) state e) s
state_tells (Some start) (Some close) state s c e = subst HasStamps (same_Some (Closed start.0 start.1 close.0 close.1) state e) (s, c)
state_tells None (Some close) state s c e = absurd (none-some state e)

state_at_tells : (d : Data) (state : SprintState) → state_at d ≡ Some state → HasStamps state
state_at_tells d state e =
    option_and_then_some _ (option_and_then stamp_of (get (codes "start") d)) state e (λ start start_is e'.
    option_and_then_some _ (option_and_then stamp_of (get (codes "close") d)) state e' (λ close close_is e''.
    state_tells start close state (stamp_at_tells (codes "start") d start start_is) (stamp_at_tells (codes "close") d close close_is) e''))

pub sprint_fits : (setup : Parts) (n : ℕ) (d : Data) (p : Part) → sprint_like n d ≡ Some p → IsPartAt setup 7 n p
unfolding sprint_like IsPart
sprint_fits setup n d p e =
    option_and_then_some _ (number_in n) p e (λ m m_is e1.
    option_and_then_some _ (title_at (codes "name") d) p e1 (λ name name_is e2.
    option_map_some _ (state_at d) p e2 (λ state state_is p_is.
    subst (IsPartAt setup 7 n) p_is (record {
      is_part = record { numbered = is_number n m m_is; named = title_tells (codes "name") d name name_is; stamped = state_at_tells d state state_is };
      kind_is = refl;
      number_is = (number_tells n m m_is).0;
    }))))

pub user_tells : (users : List (List ℕ)) (name : List ℕ) (d : Data) (user : UserNo) → user_at users name d ≡ Some user → is_user (length users) user ≡ true
user_tells users name d user e =
    option_map_some _ (option_and_then (λ text. place_named text users) (text_at name d)) user e (λ place place_is user_is.
    option_and_then_some (λ text. place_named text users) (text_at name d) place place_is (λ text text_is h.
    subst (λ (u : UserNo). is_user (length users) u ≡ true) user_is (lt-ltb place (length users) (named_inside users text place h))))

pub filter_fits : (setup : Parts) (n : ℕ) (d : Data) (p : Part) → filter_like setup.users n d ≡ Some p → IsPartAt setup 8 n p
unfolding filter_like IsPart
filter_fits setup n d p e =
    option_and_then_some _ (number_in n) p e (λ m m_is e1.
    option_and_then_some _ (user_at setup.users (codes "owner") d) p e1 (λ owner owner_is e2.
    option_and_then_some _ (title_at (codes "name") d) p e2 (λ name name_is e3.
    option_map_some _ (text_at (codes "jql") d) p e3 (λ jql jql_is p_is.
    subst (IsPartAt setup 8 n) p_is (record {
      is_part = record { numbered = is_number n m m_is; owned = user_tells setup.users (codes "owner") d owner owner_is; named = title_tells (codes "name") d name name_is };
      kind_is = refl;
      number_is = (number_tells n m m_is).0;
    })))))
