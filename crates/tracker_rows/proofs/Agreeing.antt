-- A tracker up to one place is that up to another one where no part of it stands between them.
use Rattle.std.proofs.Common.{◌≡◌, ◌≢◌, ℕ, zero, suc, ◌+◌, ◌==◌, Bool, true, false, List, [], ◌∷◌, length, map, filter, slice_get, Option, Some, None, option_map, refl, sym, ap, ◌∙◌, subst, arith, eq-eqb, ne_eqb}
use Rattle.std.specs.Prelude.{if◌then◌else◌}
use Rattle.std.specs.List.{find}
use Rattle.std.specs.Option.{option_or}
use Rattle.std.proofs.lemmas.Option.{none-some, same_Some}
use Rattle.rising_numbers.specs.ByNumber.{by_number}
use Rattle.field_values.specs.declared.parts.Group.{Group as UserGroup}
use Rattle.field_values.specs.Parts.{Parts}
use Rattle.change_history.specs.declared.entry.Entry.{Entry}
use Rattle.change_history.specs.History.{History}
use Rattle.external_ids.specs.declared.external_id.ExternalId.{ExternalId}
use Rattle.external_ids.specs.Ids.{external_number}
use Rattle.board.specs.declared.board.Board.{Board}
use Rattle.board.specs.Order.{Pair, rank_in}
use Rattle.jql_meaning.specs.Surroundings.{numbered}
use Rattle.sprints.specs.declared.sprint.Sprint.{Sprint}
use Rattle.sprints.specs.Sprint.{sprint_of}
use Rattle.tracker_keeper.specs.declared.part.Part.{Part}
use Rattle.tracker_machine.specs.Machine.{Machine}
use Rattle.tracker_machine.specs.Saved.{SavedFilter, filter_number, board_number}
use Rattle.tracker_machine.specs.Kept.{issue_numbered, entries_of_change, group_of, issue_group, group_numbered, part_at}
use Rattle.tracker_ranks.proofs.Given.{rank_here, rank_behind}
use Rattle.tracker_rows.proofs.Cuts.{Places, cut_history, cut_histories, cut_sprints, cut_groups, told_in, cut, all_pass}

-- ---- what is found

some_there : {X Y : Type 0} (f : X → Y) (o : Option X) → o ≢ None → option_map f o ≢ None
some_there f None there is = there refl
some_there f (Some x) there is = none-some (f x) (sym is)

found_at : {X : Type 0} (test : X → Bool) (xs : List X) (k : ℕ) (x : X) → slice_get xs k ≡ Some x → test x ≡ true → find test xs ≢ None
found_at test [] k x at passes is = none-some x at
found_at test (y ∷ ys) zero x at passes is = by (test y) (ap test (same_Some y x at) ∙ passes) is
  where
    by : (b : Bool) → b ≡ true → (if b then Some y else find test ys) ≡ None → ⊥
    by true own none = none-some y (sym none)
    by false own none = absurd (cc)
found_at test (y ∷ ys) (suc k) x at passes is = by (test y) (found_at test ys k x at passes) is
  where
    by : (b : Bool) → find test ys ≢ None → (if b then Some y else find test ys) ≡ None → ⊥
    by true rest none = none-some y (sym none)
    by false rest none = rest none

by_number_at : {X : Type 0} (number : X → ℕ) (xs : List X) (k : ℕ) (x : X) → slice_get xs k ≡ Some x → by_number number (number x) xs ≢ None
by_number_at number xs k x at is = found_at (λ y. number y == number x) xs k x at (eq-eqb (number x) (number x) refl) (same number xs (number x) ∙ is)
  where
    same : {X : Type 0} (number : X → ℕ) (xs : List X) (n : ℕ) → find (λ y. number y == n) xs ≡ by_number number n xs
    same number [] n = refl
    same {X = X} number (y ∷ ys) n = ap (λ (o : Option X). if number y == n then Some y else o) (same number ys n)

ranked_at : (ps : List Pair) (k : ℕ) (p : Pair) → slice_get ps k ≡ Some p → rank_in ps p.1.0 ≢ None
ranked_at [] k p at is = none-some p at
ranked_at (q ∷ qs) zero p at is =
    let same : q ≡ p = same_Some q p at in
    none-some q.0 (sym is ∙ rank_here q qs p.1.0 (eq-eqb q.1.0 p.1.0 (ap (λ (x : Pair). x.1.0) same)))
ranked_at (q ∷ qs) (suc k) p at is = by (q.1.0 == p.1.0) refl (ranked_at qs k p at)
  where
    by : (b : Bool) → (q.1.0 == p.1.0) ≡ b → rank_in qs p.1.0 ≢ None → ⊥
    by true same rest = none-some q.0 (sym is ∙ rank_here q qs p.1.0 same)
    by false other rest = rest (sym (rank_behind q qs p.1.0 other) ∙ is)

some_group : (c : ℕ) (es : List Entry) (j : ℕ) (e : Entry) → slice_get es j ≡ Some e → e.change ≡ c → group_of (entries_of_change c es) ≢ None
some_group c [] j e at own is = none-some e at
some_group c (x ∷ xs) zero e at own is = by (x.change == c) (eq-eqb x.change c (ap (λ (y : Entry). y.change) (same_Some x e at) ∙ own)) is
  where
    by : (b : Bool) → b ≡ true → group_of (if b then x ∷ entries_of_change c xs else entries_of_change c xs) ≡ None → ⊥
    by true same none = absurd (cc)
    by false same none = absurd (cc)
some_group c (x ∷ xs) (suc j) e at own is = by (x.change == c) (some_group c xs j e at own) is
  where
    by : (b : Bool) → group_of (entries_of_change c xs) ≢ None → group_of (if b then x ∷ entries_of_change c xs else entries_of_change c xs) ≡ None → ⊥
    by true rest none = absurd (cc)
    by false rest none = rest none

grouped_at : (hs : List History) (k : ℕ) (h : History) (j : ℕ) (e : Entry) → slice_get hs k ≡ Some h → slice_get h.entries j ≡ Some e
    → group_numbered hs e.change ≢ None
grouped_at [] k h j e at_h at is = none-some h at_h
grouped_at (x ∷ xs) zero h j e at_h at is =
    first (issue_group e.change x) (group_numbered xs e.change)
    (some_there _ (group_of (entries_of_change e.change x.entries))
    (some_group e.change x.entries j e (ap (λ (i : History). slice_get i.entries j) (same_Some x h at_h) ∙ at) refl)) is
  where
    first : (o p : Option Part) → o ≢ None → option_or o p ≡ None → ⊥
    first None p there none = there refl
    first (Some q) p there none = none-some q (sym none)
grouped_at (x ∷ xs) (suc k) h j e at_h at is = behind (issue_group e.change x) (group_numbered xs e.change) (grouped_at xs k h j e at_h at) is
  where
    behind : (o p : Option Part) → p ≢ None → option_or o p ≡ None → ⊥
    behind None p there none = there none
    behind (Some q) p there none = none-some q (sym none)

numbered_there : {X : Type 0} (xs : List X) (k : ℕ) (x : X) → slice_get xs k ≡ Some x → numbered xs (1 + k) ≢ None
numbered_there {X = X} xs k x at is = none-some x (sym is ∙ here xs k ∙ at)
  where
    here : (xs : List X) (k : ℕ) → numbered xs (1 + k) ≡ slice_get xs k
    here xs k = rw (ne_eqb (1 + k) 0 (λ none. absurd (omega (arith, none)))) (ap (slice_get xs) (omega arith))

-- ---- lists alike

module _ {X : Type 0} (P Q : X → Bool) where
  filter_alike : (xs : List X) → ((k : ℕ) (x : X) → slice_get xs k ≡ Some x → P x ≡ Q x) → filter P xs ≡ filter Q xs
  filter_alike [] each = refl
  filter_alike (x ∷ xs) each =
      ap (λ (b : Bool). if b then x ∷ filter P xs else filter P xs) (each 0 x refl)
      ∙ ap (λ (ys : List X). if Q x then x ∷ ys else ys) (filter_alike xs (λ k y at. each (suc k) y at))

abbrev history_or : Bool → History → List History → List History
history_or b h hs = if b then h ∷ hs else hs

histories_alike : (P Q : Places) (hs : List History)
    → ((k : ℕ) (h : History) → slice_get hs k ≡ Some h → (P 3 h.no.0 ≡ Q 3 h.no.0) × (cut_history P h ≡ cut_history Q h))
    → cut_histories P hs ≡ cut_histories Q hs
histories_alike P Q [] each = refl
histories_alike P Q (h ∷ hs) each =
    mapped (cut_history P) (P 3 h.no.0) (filter (λ i. P 3 i.no.0) hs)
    ∙ ap (λ (b : Bool). history_or b (cut_history P h) (cut_histories P hs)) (each 0 h refl).0
    ∙ ap (λ (i : History). history_or (Q 3 h.no.0) i (cut_histories P hs)) (each 0 h refl).1
    ∙ ap (λ (is : List History). history_or (Q 3 h.no.0) (cut_history Q h) is) (histories_alike P Q hs (λ k i at. each (suc k) i at))
    ∙ sym (mapped (cut_history Q) (Q 3 h.no.0) (filter (λ i. Q 3 i.no.0) hs))
  where
    mapped : (f : History → History) (b : Bool) (is : List History) → map f (history_or b h is) ≡ history_or b (f h) (map f is)
    mapped f true is = refl
    mapped f false is = refl

sprints_alike : (P Q : Places) (first : ℕ) (ss : List Sprint) → ((k : ℕ) (s : Sprint) → slice_get ss k ≡ Some s → P 7 (first + k) ≡ Q 7 (first + k))
    → cut_sprints P first ss ≡ cut_sprints Q first ss
sprints_alike P Q first [] each = refl
sprints_alike P Q first (s ∷ ss) each =
    ap (λ (b : Bool). if b then s ∷ cut_sprints P (first + 1) ss else cut_sprints P (first + 1) ss)
    (subst (λ n. P 7 n ≡ Q 7 n) (omega arith) (each 0 s refl))
    ∙ ap (λ (ts : List Sprint). if Q 7 first then s ∷ ts else ts)
    (sprints_alike P Q (first + 1) ss (λ k t at. subst (λ n. P 7 n ≡ Q 7 n) (omega arith) (each (suc k) t at)))

groups_alike : (P Q : Places) (first : ℕ) (ws gs : List UserGroup) → ((k : ℕ) (g : UserGroup) → slice_get gs k ≡ Some g → P 10 (first + k) ≡ Q 10 (first + k))
    → cut_groups P first ws gs ≡ cut_groups Q first ws gs
groups_alike P Q first [] gs each = refl
groups_alike P Q first (w ∷ ws) [] each = refl
groups_alike P Q first (w ∷ ws) (g ∷ gs) each =
    ap (λ (b : Bool). let own : UserGroup = record { name = g.name; members = if b then g.members else w.members } in own ∷ cut_groups P (first + 1) ws gs)
    (subst (λ n. P 10 n ≡ Q 10 n) (omega arith) (each 0 g refl))
    ∙ ap (λ (hs : List UserGroup). let own : UserGroup = record { name = g.name; members = if Q 10 first then g.members else w.members } in own ∷ hs)
    (groups_alike P Q (first + 1) ws gs (λ k h at. subst (λ n. P 10 n ≡ Q 10 n) (omega arith) (each (suc k) h at)))

told_alike : (P Q : Places) (first : ℕ) (gs : List UserGroup) → ((k : ℕ) (g : UserGroup) → slice_get gs k ≡ Some g → P 10 (first + k) ≡ Q 10 (first + k))
    → told_in P first gs ≡ told_in Q first gs
told_alike P Q first [] each = refl
told_alike P Q first (g ∷ gs) each =
    ap (λ (b : Bool). (if b then 1 else 0) + told_in P (first + 1) gs) (subst (λ n. P 10 n ≡ Q 10 n) (omega arith) (each 0 g refl))
    ∙ ap (λ n. (if Q 10 first then 1 else 0) + n)
    (told_alike P Q (first + 1) gs (λ k h at. subst (λ n. P 10 n ≡ Q 10 n) (omega arith) (each (suc k) h at)))

-- ---- all

-- a tracker of these lists
abbrev made_of : Machine → List UserGroup → List History → List ExternalId → List Pair → List Sprint → List SavedFilter → List Board → Machine
made_of m groups histories externals order sprints filters boards = record {
  text = m.text;
  setup = record m.setup { group = groups };
  moment = m.moment;
  change = m.change;
  histories = histories;
  externals = externals;
  order = order;
  balance = m.balance;
  sprints = sprints;
  filters = filters;
  boards = boards;
}

pub same_made : (m : Machine) {g g' : List UserGroup} {h h' : List History} {e e' : List ExternalId} {o o' : List Pair} {s s' : List Sprint} {f f' : List SavedFilter} {b b' : List Board}
    → g ≡ g' → h ≡ h' → e ≡ e' → o ≡ o' → s ≡ s' → f ≡ f' → b ≡ b' → made_of m g h e o s f b ≡ made_of m g' h' e' o' s' f' b'
same_made m {g' = g'} {h = h} {h' = h'} {e = e} {e' = e'} {o = o} {o' = o'} {s = s} {s' = s'} {f = f} {f' = f'} {b = b} gs hs es os ss fs bs =
    ap (λ x. made_of m x h e o s f b) gs
    ∙ ap (λ x. made_of m g' x e o s f b) hs
    ∙ ap (λ x. made_of m g' h' x o s f b) es
    ∙ ap (λ x. made_of m g' h' e' x s f b) os
    ∙ ap (λ x. made_of m g' h' e' o' x f b) ss
    ∙ ap (λ x. made_of m g' h' e' o' s' x b) fs
    ∙ ap (λ x. made_of m g' h' e' o' s' f' x) bs

-- each part of the tracker stands at a place of both or of none
abbrev pub Agree : Places → Places → Machine → Type 0
Agree P Q m = (kind number : ℕ) → part_at m kind number ≢ None → P kind number ≡ Q kind number

module _ (P Q : Places) (m : Machine) (agree : Agree P Q m) where
  same_issue : (k : ℕ) (h : History) → slice_get m.histories k ≡ Some h → (P 3 h.no.0 ≡ Q 3 h.no.0) × (cut_history P h ≡ cut_history Q h)
  unfolding part_at
  same_issue k h at = (
    agree 3 h.no.0 (some_there _ (issue_numbered m.histories h.no.0) (found_at (λ i. i.no.0 == h.no.0) m.histories k h at (eq-eqb h.no.0 h.no.0 refl))),
    ap (λ (es : List Entry). let new : History = record h { entries = es } in new)
        (filter_alike (λ e. P 4 e.change) (λ e. Q 4 e.change) h.entries (λ j e at_e. agree 4 e.change (grouped_at m.histories k h j e at at_e))),
  )

  same_external : (k : ℕ) (e : ExternalId) → slice_get m.externals k ≡ Some e → P 6 e.no.0 ≡ Q 6 e.no.0
  unfolding part_at
  same_external k e at = agree 6 e.no.0 (some_there _ (by_number external_number e.no.0 m.externals) (by_number_at external_number m.externals k e at))

  same_rank : (k : ℕ) (p : Pair) → slice_get m.order k ≡ Some p → P 5 p.1.0 ≡ Q 5 p.1.0
  unfolding part_at
  same_rank k p at = agree 5 p.1.0 (some_there _ (rank_in m.order p.1.0) (ranked_at m.order k p at))

  same_sprint : (k : ℕ) (s : Sprint) → slice_get m.sprints k ≡ Some s → P 7 (1 + k) ≡ Q 7 (1 + k)
  unfolding part_at
  same_sprint k s at = agree 7 (1 + k) (some_there _ (sprint_of m.sprints (1 + k)) (numbered_there m.sprints k s at))

  same_filter : (k : ℕ) (f : SavedFilter) → slice_get m.filters k ≡ Some f → P 8 f.no.0 ≡ Q 8 f.no.0
  unfolding part_at
  same_filter k f at = agree 8 f.no.0 (some_there _ (by_number filter_number f.no.0 m.filters) (by_number_at filter_number m.filters k f at))

  same_board : (k : ℕ) (b : Board) → slice_get m.boards k ≡ Some b → P 9 b.no.0 ≡ Q 9 b.no.0
  unfolding part_at
  same_board k b at = agree 9 b.no.0 (some_there _ (by_number board_number b.no.0 m.boards) (by_number_at board_number m.boards k b at))

  same_group : (k : ℕ) (g : UserGroup) → slice_get m.setup.group k ≡ Some g → P 10 (1 + k) ≡ Q 10 (1 + k)
  unfolding part_at
  same_group k g at = agree 10 (1 + k) (some_there _ (numbered m.setup.group (1 + k)) (numbered_there m.setup.group k g at))

  pub cut_alike : (written : Parts) → cut P written m ≡ cut Q written m
  cut_alike written =
      same_made m
      (groups_alike P Q 1 written.group m.setup.group same_group)
      (histories_alike P Q m.histories same_issue)
      (filter_alike (λ e. P 6 e.no.0) (λ e. Q 6 e.no.0) m.externals same_external)
      (filter_alike (λ p. P 5 p.1.0) (λ p. Q 5 p.1.0) m.order same_rank)
      (sprints_alike P Q 1 m.sprints same_sprint)
      (filter_alike (λ f. P 8 f.no.0) (λ f. Q 8 f.no.0) m.filters same_filter)
      (filter_alike (λ b. P 9 b.no.0) (λ b. Q 9 b.no.0) m.boards same_board)

  pub same_told : told_in P 1 m.setup.group ≡ told_in Q 1 m.setup.group
  same_told = told_alike P Q 1 m.setup.group same_group

-- ---- up to the end

abbrev pub all_places : Places
all_places kind number = true

all_histories : (hs : List History) → map (cut_history all_places) hs ≡ hs
all_histories [] = refl
all_histories (h ∷ hs) =
    ap (λ (es : List Entry). let new : History = record h { entries = es } in new ∷ map (cut_history all_places) hs) (all_pass h.entries)
    ∙ ap (λ (is : List History). h ∷ is) (all_histories hs)

all_sprints : (first : ℕ) (ss : List Sprint) → cut_sprints all_places first ss ≡ ss
all_sprints first [] = refl
all_sprints first (s ∷ ss) = ap (λ (ts : List Sprint). s ∷ ts) (all_sprints (first + 1) ss)

all_groups : (first : ℕ) (ws gs : List UserGroup) → length gs ≡ length ws → cut_groups all_places first ws gs ≡ gs
all_groups first [] [] same = refl
all_groups first [] (g ∷ gs) same = absurd (omega (arith, same))
all_groups first (w ∷ ws) [] same = refl
all_groups first (w ∷ ws) (g ∷ gs) same = ap (λ (hs : List UserGroup). g ∷ hs) (all_groups (first + 1) ws gs (omega (arith, same)))

pub all_told_in : (first : ℕ) (gs : List UserGroup) → told_in all_places first gs ≡ length gs
all_told_in first [] = refl
all_told_in first (g ∷ gs) = let rest = all_told_in (first + 1) gs in omega (arith, rest)

pub cut_all : (written : Parts) (m : Machine) → length m.setup.group ≡ length written.group → cut all_places written m ≡ m
cut_all written m same =
    same_made m (all_groups 1 written.group m.setup.group same)
    (ap (map (cut_history all_places)) (all_pass m.histories) ∙ all_histories m.histories)
    (all_pass m.externals) (all_pass m.order) (all_sprints 1 m.sprints) (all_pass m.filters) (all_pass m.boards)
