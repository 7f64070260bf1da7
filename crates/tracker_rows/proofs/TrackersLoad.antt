-- The rows of each tracker load it.
use Rattle.std.proofs.Common.{◌≡◌, ◌≢◌, ℕ, zero, suc, ◌+◌, ◌<◌, ◌≤◌, ◌==◌, ◌&&◌, ◌||◌, ◌⊎◌, inl, inr, nat_lt, Bool, true, false, List, [], ◌∷◌, ◌++◌, length, map, filter, AllPairs, count_by, Option, Some, None, IfSome, refl, sym, ap, ◌∙◌, subst, arith, eqb-true, eq-eqb, ne_eqb, append-nil}
use Rattle.std.specs.Prelude.{cond}
use Rattle.std.specs.List.{All}
use Rattle.std.specs.Option.{option_or}
use Rattle.std.proofs.lemmas.Bool.{cases_eq, cases_lt, and_parts, true≢false}
use Rattle.std.proofs.lemmas.Bool.Decides.{nat_tests}
use Rattle.std.proofs.lemmas.List.{length-map}
use Rattle.std.proofs.lemmas.List.Sums.{sum_by-cons}
use Rattle.std.proofs.lemmas.List.Elements.{All-nil, All-cons, All-head, All-tail, All-push, All-weaker}
use Rattle.std.proofs.lemmas.Option.{none-some, same_Some}
use Rattle.field_values.specs.declared.parts.Group.{Group as UserGroup}
use Rattle.field_values.specs.Parts.{Parts}
use Rattle.field_forms.specs.Known.{Names}
use Rattle.fields.specs.SetupParts.{names_in}
use Rattle.change_history.specs.History.{History}
use Rattle.sprints.specs.declared.sprint.Sprint.{Sprint}
use Rattle.tracker_keeper.specs.declared.row.Row.{Row}
use Rattle.tracker_keeper.specs.declared.part.Format.TheVariants.{Second}
use Rattle.tracker_keeper.specs.declared.part.Part.{Part}
use Rattle.tracker_keeper.specs.declared.part.Part.TheVariants as part
use Rattle.tracker_keeper.specs.Bodies.{body_text}
use Rattle.tracker_keeper.specs.Forms.{IsIssuePart, IsGroupPart, IsMembersPart}
use Rattle.tracker_keeper.specs.Parts.{part_kind, part_number}
use Rattle.tracker_keeper.specs.Kept.{IsPart, IsPartAt}
use Rattle.tracker_keeper.specs.Rows.{IsBelow, found}
use Rattle.tracker_machine.specs.Machine.{Machine}
use Rattle.tracker_machine.specs.Known.{project_keys}
use Rattle.tracker_machine.specs.Kept.{part_at, rows_of, present_part}
use Rattle.tracker_machine.specs.Members.{IsSetupOf}
use Rattle.tracker_machine.specs.Tracker.{IsTracker}
use Rattle.tracker_machine.proofs.Keepable.{part_kept}
use Rattle.tracker_rows.specs.Listed.{InOrder, IsAlone, changes_in}
use Rattle.tracker_rows.specs.Gathered.{Gathered, joined, with_part, standing, with_setup, rank_due, members_due, due}
use Rattle.tracker_rows.specs.Gathered.Gathered.{Nothing, HasSetup, Stands}
use Rattle.tracker_rows.specs.Rules.{MayFollow}
use Rattle.tracker_rows.specs.Loading.{IsGood, AreRead}
use Rattle.tracker_rows.specs.Laws.{TrackersLoad}
use Rattle.tracker_rows.proofs.Rising.{Rise, is_at, counts_one, counted_at, one_by_one}
use Rattle.tracker_rows.proofs.Making.{IsBefore, next_due}
use Rattle.tracker_rows.proofs.Steps.{changes_by}
use Rattle.tracker_rows.proofs.Walk.{is_change, changes_of_kind}
use Rattle.tracker_rows.proofs.Cuts.{Places, below, cut_history, cut_histories, cut_sprints, cut_groups, told_in, cut_setup, cut, none_to, none_pass, runs_rise}
use Rattle.tracker_rows.proofs.Agreeing.{Agree, all_places, same_made, cut_alike, same_told, cut_all, all_told_in}
use Rattle.tracker_rows.proofs.Joins.{names_in_cut, group_names_cut}
use Rattle.tracker_rows.proofs.EachPart.{total, IsNextPart, next_part}

-- ---- a setup where groups have other members

part_cut : (places : Places) (written setup : Parts) (alike : length setup.group ≡ length written.group) (p : Part) → IsPart setup p → IsPart (cut_setup places written setup) p
unfolding IsPart
part_cut places written setup alike (part.Setup text) is = is
part_cut places written setup alike (part.Present balance change format moment) is = is
part_cut places written setup alike (part.Issue issue key change at author values) is =
    subst (λ names. IsIssuePart names (project_keys setup) issue.0 key change at author values) (sym (names_in_cut places written setup alike)) is
part_cut places written setup alike (part.Group issue group) is =
    subst (λ names. IsGroupPart names issue.0 group.change group.at group.author group.entries) (sym (names_in_cut places written setup alike)) is
part_cut places written setup alike (part.Rank issue rank) is = is
part_cut places written setup alike (part.External issue external) is = is
part_cut places written setup alike (part.Sprint sprint_no sprint) is = is
part_cut places written setup alike (part.Filter filter_no owner name jql) is = is
part_cut places written setup alike (part.Board board_no name filter) is = is
part_cut places written setup alike (part.Members group members) is =
    subst (λ names. IsMembersPart setup.users names group.0 members) (sym (group_names_cut places written setup alike)) is

-- ---- rows by their places

abbrev IsIn : Places → Row → Type 0
IsIn places r = places r.kind r.no ≡ true

abbrev IsOut : Places → Row → Type 0
IsOut places r = places r.kind r.no ≡ false

-- the row of that kind and number is one of these
pub record IsRowIn (P : Row → Type 0) (kind number : ℕ) : Type 0 where
  pub row : Row
  pub kind_is : row.kind ≡ kind
  pub number_is : row.no ≡ number
  pub holds : P row

row_in : (P : Row → Type 0) (list : List Row) (kind number : ℕ) → All P list → found list kind number ≢ None → IsRowIn P kind number
row_in P [] kind number all there = absurd (there refl)
row_in P (r ∷ list) kind number all there = by ((kind == r.kind) && (number == r.no)) refl (row_in P list kind number (All-tail P r list all))
  where
    by : (b : Bool) → ((kind == r.kind) && (number == r.no)) ≡ b → (found list kind number ≢ None → IsRowIn P kind number) → IsRowIn P kind number
    by true own rest =
        let parts = and_parts (kind == r.kind) (number == r.no) own in
        record { row = r; kind_is = sym (eqb-true kind r.kind parts.0); number_is = sym (eqb-true number r.no parts.1); holds = All-head P r list all }
    by false other rest = rest (λ none. there (rw other none))

-- a row isn't found where it is out of all
found_own : (front : List Row) (r : Row) (more : List Row) → All (λ other. is_at r other ≡ false) front → found (front ++ r ∷ more) r.kind r.no ≡ Some r.body
found_own [] r more apart = rw (eq-eqb r.kind r.kind refl, eq-eqb r.no r.no refl) refl
found_own (x ∷ front) r more apart =
    rw (All-head (λ other. is_at r other ≡ false) x front apart) (found_own front r more (All-tail (λ other. is_at r other ≡ false) x front apart))

none_counted : (r : Row) (list : List Row) → All (λ other. is_at r other ≡ false) list → count_by (is_at r) list ≡ 0
none_counted r [] apart = refl
none_counted r (x ∷ list) apart =
    let other : is_at r x ≡ false = All-head (λ other. is_at r other ≡ false) x list apart in
    let rest = none_counted r list (All-tail (λ other. is_at r other ≡ false) x list apart) in
    omega (arith, sum_by-cons (λ y. cond (is_at r y) 1 0) x list, ap counts_one other, rest)

-- what stands in some places isn't at a row that stands out of them
apart_by : (places : Places) (r other : Row) → IsOut places r → IsIn places other → is_at r other ≡ false
apart_by places r other out in' = by (is_at r other) refl
  where
    by : (b : Bool) → is_at r other ≡ b → b ≡ false
    by false is = refl
    by true is =
        let parts = and_parts (r.kind == other.kind) (r.no == other.no) is in
        let same : places r.kind r.no ≡ places other.kind other.no =
        ap (λ k. places k r.no) (eqb-true r.kind other.kind parts.0) ∙ ap (places other.kind) (eqb-true r.no other.no parts.1) in
        absurd (true≢false (sym in' ∙ sym same ∙ out))

apart_below : (r other : Row) → IsBelow r other → is_at r other ≡ false
apart_below r other less = by (is_at r other) refl
  where
    by : (b : Bool) → is_at r other ≡ b → b ≡ false
    by false is = refl
    by true is =
        let parts = and_parts (r.kind == other.kind) (r.no == other.no) is in
        let kinds : r.kind ≡ other.kind = eqb-true r.kind other.kind parts.0 in
        let numbers : r.no ≡ other.no = eqb-true r.no other.no parts.1 in
        elim less [ inl first ↦ absurd (omega (arith, first, kinds)) | inr second ↦ absurd (omega (arith, second.1, numbers)) ]

-- ---- the places before

abbrev IsFirstOf : ℕ → ℕ → ℕ → ℕ → Type 0
IsFirstOf kind number k n = (kind < k) ⊎ ((kind ≡ k) × (number < n))

below_from : (k n kind number : ℕ) → IsFirstOf kind number k n → below k n kind number ≡ true
below_from k n kind number (inl less) = let first : nat_lt kind k ≡ true = grind (arith, nat_tests, less) in rw first refl
below_from k n kind number (inr is) =
    let not_first : nat_lt kind k ≡ false = grind (arith, nat_tests, is.0) in
    let number_less : nat_lt number n ≡ true = grind (arith, nat_tests, is.1) in
    rw (not_first, eq-eqb kind k is.0, number_less) refl

below_to : (k n kind number : ℕ) → below k n kind number ≡ true → IsFirstOf kind number k n
below_to k n kind number is = by (cases_lt kind k) (cases_eq kind k) (cases_lt number n)
  where
    by : (kind < k) ⊎ (k ≤ kind) → (kind ≡ k) ⊎ (kind ≡ k → ⊥) → (number < n) ⊎ (n ≤ number) → IsFirstOf kind number k n
    by (inl less) same numbers = inl less
    by (inr le) (inl same) (inl less) = inr (same, less)
    by (inr le) (inl same) (inr ge) =
        let not_first : nat_lt kind k ≡ false = grind (arith, nat_tests, le) in
        let not_less : nat_lt number n ≡ false = grind (arith, nat_tests, ge) in
        absurd (true≢false (sym is ∙ rw (not_first, eq-eqb kind k same, not_less) refl))
    by (inr le) (inr differ) numbers =
        let not_first : nat_lt kind k ≡ false = grind (arith, nat_tests, le) in
        absurd (true≢false (sym is ∙ rw (not_first, ne_eqb kind k differ) refl))

below_not : (k n kind number : ℕ) → (IsFirstOf kind number k n → ⊥) → below k n kind number ≡ false
below_not k n kind number never = by (below k n kind number) refl
  where
    by : (b : Bool) → below k n kind number ≡ b → b ≡ false
    by true is = absurd (never (below_to k n kind number is))
    by false is = refl

-- a place that isn't before another one is at it or behind it
out_from : (k n kind number : ℕ) → below k n kind number ≡ false → IsFirstOf kind number k n → ⊥
out_from k n kind number out first = true≢false (sym (below_from k n kind number first) ∙ out)

first_through : (a b c e f g : ℕ) → IsFirstOf a b c e → (IsFirstOf f g c e → ⊥) → IsFirstOf a b f g
first_through a b c e f g first not_first = by first (cases_lt a f) (cases_eq a f) (cases_lt b g) (cases_lt f c) (cases_eq f c) (cases_lt g e)
  where
    by : IsFirstOf a b c e → (a < f) ⊎ (f ≤ a) → (a ≡ f) ⊎ (a ≡ f → ⊥) → (b < g) ⊎ (g ≤ b) → (f < c) ⊎ (c ≤ f) → (f ≡ c) ⊎ (f ≡ c → ⊥) → (g < e) ⊎ (e ≤ g) → IsFirstOf a b f g
    by start (inl less) same numbers kinds kind number = inl less
    by start (inr le) (inl same) (inl less) kinds kind number = inr (same, less)
    by (inl less) (inr le) same numbers kinds kind number = absurd (not_first (inl (omega (arith, less, le))))
    by (inr is) (inr le) (inl same) (inr ge) kinds kind number = absurd (not_first (inr (omega (arith, is.0, same), omega (arith, is.1, ge))))
    by (inr is) (inr le) (inr differ) numbers kinds kind number =
        absurd (not_first (inl (less a c f is.0 le differ)))
      where
        less : (a c f : ℕ) → a ≡ c → f ≤ a → (a ≡ f → ⊥) → f < c
        less a c f equal le differ = elim (cases_lt f c) [ inl lt ↦ lt | inr back ↦ absurd (differ (omega (arith, equal, le, back))) ]

-- a row that stands behind another one isn't before it
behind_not_first : (r other : Row) → IsBelow r other → IsFirstOf other.kind other.no r.kind (r.no + 1) → ⊥
behind_not_first r other (inl less) (inl first) = omega (arith, less, first)
behind_not_first r other (inl less) (inr first) = omega (arith, less, first.0)
behind_not_first r other (inr is) (inl first) = omega (arith, is.0, first)
behind_not_first r other (inr is) (inr first) = omega (arith, is.1, first.1)

-- ---- one row after the other

-- nothing that is wanted stands before the place
in_time : (m : Machine) (told k n : ℕ) → (length m.order < length m.histories → IsBefore 5 (length m.order + 1) k n → ⊥) → (IsBefore 10 (told + 1) k n → ⊥)
    → IfSome (due (Stands Second told m)) (λ wanted. ¬ IsBefore wanted.0 wanted.1 k n)
in_time m told k n ranks members = by (nat_lt (length m.order) (length m.histories)) refl (nat_lt told (length m.setup.group))
  where
    by : (b : Bool) → nat_lt (length m.order) (length m.histories) ≡ b → (c : Bool)
        → IfSome (option_or (rank_due b (length m.order)) (next_due told c)) (λ wanted. ¬ IsBefore wanted.0 wanted.1 k n)
    by true less c = ranks (grind (arith, nat_tests, less))
    by false whole true = members
    by false whole false = tt

-- what is read of the rows from a place on, and how many changes there are
pub record IsReadFrom (rows : List Row) (m : Machine) (here end : Gathered) (list : List Row) (k n : ℕ) : Type 0 where
  pub read : AreRead rows here list end
  pub counted : total m.histories ≤ total (cut_histories (below k n) m.histories) + changes_in list

-- the kind and the number of a part
abbrev HasPlace : ℕ → ℕ → Type 0
HasPlace k n = ((k ≡ 1) × (n ≡ 0)) ⊎ (((k ≡ 2) × (n ≡ 0)) ⊎ (3 ≤ k))

module _ (m : Machine) (rows : List Row) (is : IsTracker m) (of_text : IsSetupOf m.text m.setup) (same : (k n : ℕ) → found rows k n ≡ rows_of m k n) where
  abbrev written : Parts
  written = of_text.written

  alike : length m.setup.group ≡ length written.group
  alike =
      let lengths : length (map (λ g. g.name) m.setup.group) ≡ length (map (λ g. g.name) written.group) = ap length of_text.groups in
      omega (arith, lengths, length-map m.setup.group (λ (g : UserGroup). g.name), length-map written.group (λ (g : UserGroup). g.name))

  abbrev state : ℕ → ℕ → Gathered
  state k n = Stands Second (told_in (below k n) 1 m.setup.group) (cut (below k n) written m)

  abbrev end : Gathered
  end = Stands Second (length m.setup.group) m

  -- a row that is found is that of a part
  row_part : (k n : ℕ) (body : List ℕ) → found rows k n ≡ Some body → (p : Part) × (part_at m k n ≡ Some p) × (body_text (names_in m.setup) p ≡ body)
  unfolding rows_of
  row_part k n body there = by (part_at m k n) refl (sym (same k n) ∙ there)
    where
      by : (o : Option Part) → part_at m k n ≡ o → rows_of m k n ≡ Some body → (p : Part) × (part_at m k n ≡ Some p) × (body_text (names_in m.setup) p ≡ body)
      by None none some = let lacks = rw none at some in absurd (none-some body lacks)
      by (Some p) own some = let text = rw own at some in (p, own, same_Some (body_text (names_in m.setup) p) body text)

  -- and a part has a row
  part_row : (k n : ℕ) → part_at m k n ≢ None → found rows k n ≢ None
  unfolding rows_of
  part_row k n there none = by (part_at m k n) refl (sym (same k n) ∙ none)
    where
      by : (o : Option Part) → part_at m k n ≡ o → rows_of m k n ≡ None → ⊥
      by None lacks some = there lacks
      by (Some p) own some = let has = rw own at some in none-some (body_text (names_in m.setup) p) (sym has)

  same_state : (P Q : Places) → Agree P Q m → Stands Second (told_in P 1 m.setup.group) (cut P written m) ≡ Stands Second (told_in Q 1 m.setup.group) (cut Q written m)
  same_state P Q agree =
      ap (λ told. Stands Second told (cut P written m)) (same_told P Q m agree)
      ∙ ap (λ next. Stands Second (told_in Q 1 m.setup.group) next) (cut_alike P Q m agree written)

  -- the next row is good, and leads on
  row_good : (front : List Row) (r : Row) (more : List Row) (p : Part) → rows ≡ front ++ r ∷ more → IsAlone rows r → IsPartAt m.setup r.kind r.no p
      → body_text (names_in m.setup) p ≡ r.body → IsNextPart rows m written r.kind r.no p → IsGood rows (state r.kind r.no) r p
  unfolding MayFollow
  row_good front r more p list alone at text next = record {
    alone = alone;
    tells = record {
      at = record { is_part = part_cut (below r.kind r.no) written m.setup alike p at.is_part; kind_is = at.kind_is; number_is = at.number_is };
      text_is = ap (λ (names : Names). body_text names p) (names_in_cut (below r.kind r.no) written m.setup alike) ∙ text;
    };
    sprints = next.sprints;
    follows = next.joins.may;
  }

  leads_on : (r : Row) (p : Part) → IsNextPart rows m written r.kind r.no p → with_part (state r.kind r.no) p ≡ state r.kind (r.no + 1)
  unfolding with_part
  leads_on r p next =
      ap (λ told. Stands Second told (joined (cut (below r.kind r.no) written m) p)) next.told
      ∙ ap (λ after. Stands Second (told_in (below r.kind (r.no + 1)) 1 m.setup.group) after) next.joins.leads

  abbrev IsRead : List Row → ℕ → ℕ → Type 0
  IsRead list k n = IsReadFrom rows m (state k n) end list k n

  all_both : (P : Row → Type 0) (xs ys : List Row) → All P xs → All P ys → All P (xs ++ ys)
  all_both P [] ys one other = other
  all_both P (x ∷ xs) ys one other = All-cons P x (xs ++ ys) (All-head P x xs one) (all_both P xs ys (All-tail P x xs one) other)

  agree_of : (P Q : Places) → All (λ r. P r.kind r.no ≡ Q r.kind r.no) rows → Agree P Q m
  agree_of P Q all kind number there =
      let r = row_in (λ r. P r.kind r.no ≡ Q r.kind r.no) rows kind number all (part_row kind number there) in
      subst (λ k. P k number ≡ Q k number) r.kind_is (subst (λ n. P r.row.kind n ≡ Q r.row.kind n) r.number_is r.holds)

  read_end : (front : List Row) (k n : ℕ) → rows ≡ front ++ [] → All (IsIn (below k n)) front → IsRead [] k n
  read_end front k n list in' =
      let agree : Agree (below k n) all_places m =
      agree_of (below k n) all_places (subst (All (IsIn (below k n))) (sym (list ∙ append-nil front)) in') in
      let all : cut (below k n) written m ≡ m = cut_alike (below k n) all_places m agree written ∙ cut_all written m alike in
      record {
        read = sym (ap (λ told. Stands Second told (cut (below k n) written m)) (same_told (below k n) all_places m agree ∙ all_told_in 1 m.setup.group)
            ∙ ap (λ (after : Machine). Stands Second (length m.setup.group) after) all);
        counted = omega (arith, ap (λ (after : Machine). total after.histories) all);
      }

  -- as far as another place
  in_later : (k n : ℕ) (r : Row) (front : List Row) → IsOut (below k n) r → All (IsIn (below k n)) front → All (IsIn (below r.kind r.no)) front
  in_later k n r front out in' =
      All-weaker (IsIn (below k n)) (IsIn (below r.kind r.no))
      (λ x own. below_from r.kind r.no x.kind x.no
      (first_through x.kind x.no k n r.kind r.no (below_to k n x.kind x.no own) (out_from k n r.kind r.no out))) front in'

  one_further : (a b c e : ℕ) → IsFirstOf a b c e → IsFirstOf a b c (e + 1)
  one_further a b c e (inl less) = inl less
  one_further a b c e (inr own) = inr (own.0, omega (arith, own.1))

  not_itself : (k n : ℕ) → IsFirstOf k n k n → ⊥
  not_itself k n (inl less) = omega (arith, less)
  not_itself k n (inr own) = omega (arith, own.1)

  not_behind : (r other : Row) → IsBelow r other → IsFirstOf other.kind other.no r.kind r.no → ⊥
  not_behind r other less first = behind_not_first r other less (one_further other.kind other.no r.kind r.no first)

  read_from : (front list : List Row) (k n : ℕ) → rows ≡ front ++ list → 3 ≤ k → Rise list → All (IsIn (below k n)) front → All (IsOut (below k n)) list → IsRead list k n
  read_from front [] k n list low rise in' out = read_end front k n list in'
  read_from front (r ∷ more) k n list low rise in' out =
      let out_here : IsOut (below k n) r = All-head (IsOut (below k n)) r more out in
      let in_here : All (IsIn (below r.kind r.no)) front = in_later k n r front out_here in' in
      let own_out : IsOut (below r.kind r.no) r = below_not r.kind r.no r.kind r.no (not_itself r.kind r.no) in
      let out_there : All (IsOut (below r.kind r.no)) (r ∷ more) =
      All-cons (IsOut (below r.kind r.no)) r more own_out
      (All-weaker (IsBelow r) (IsOut (below r.kind r.no)) (λ x less. below_not r.kind r.no x.kind x.no (not_behind r x less)) more rise.0) in
      let agree : Agree (below k n) (below r.kind r.no) m =
      agree_of (below k n) (below r.kind r.no) (subst (All (λ x. below k n x.kind x.no ≡ below r.kind r.no x.kind x.no)) (sym list)
      (all_both (λ x. below k n x.kind x.no ≡ below r.kind r.no x.kind x.no) front (r ∷ more)
      (both_in (below k n) (below r.kind r.no) front in' in_here) (both_out (below k n) (below r.kind r.no) (r ∷ more) out out_there))) in
      let apart_front : All (λ x. is_at r x ≡ false) front =
      All-weaker (IsIn (below r.kind r.no)) (λ x. is_at r x ≡ false) (λ x own. apart_by (below r.kind r.no) r x own_out own) front in_here in
      let apart_more : All (λ x. is_at r x ≡ false) more =
      All-weaker (IsBelow r) (λ x. is_at r x ≡ false) (λ x less. apart_below r x less) more rise.0 in
      let alone : IsAlone rows r = subst (λ all. IsAlone all r) (sym list)
      (omega (arith, counted_at front r more, none_counted r front apart_front, none_counted r more apart_more)) in
      let found_here : found rows r.kind r.no ≡ Some r.body = ap (λ (all : List Row). found all r.kind r.no) list ∙ found_own front r more apart_front in
      let own = row_part r.kind r.no r.body found_here in
      let at : IsPartAt m.setup r.kind r.no own.0 = part_kept m r.kind r.no own.0 (written, of_text.reads) is own.1 in
      let high : 3 ≤ r.kind = elim (cases_lt r.kind k) [ inl less ↦ absurd (out_from k n r.kind r.no out_here (inl less)) | inr le ↦ omega (arith, low, le) ] in
      let next : IsNextPart rows m written r.kind r.no own.0 = next_part rows m written is alike same r.kind r.no own.0 high at.kind_is own.1 in
      let front_in : All (IsIn (below r.kind (r.no + 1))) (front ++ r ∷ []) =
      All-push (IsIn (below r.kind (r.no + 1))) front r
      (All-weaker (IsIn (below r.kind r.no)) (IsIn (below r.kind (r.no + 1))) (λ x before. below_from r.kind (r.no + 1) x.kind x.no
      (one_further x.kind x.no r.kind r.no (below_to r.kind r.no x.kind x.no before))) front in_here)
      (below_from r.kind (r.no + 1) r.kind r.no (inr (refl, omega arith))) in
      let more_out : All (IsOut (below r.kind (r.no + 1))) more =
      All-weaker (IsBelow r) (IsOut (below r.kind (r.no + 1))) (λ x less. below_not r.kind (r.no + 1) x.kind x.no (behind_not_first r x less)) more rise.0 in
      let rest : IsRead more r.kind (r.no + 1) = read_from (front ++ r ∷ []) more r.kind (r.no + 1) (list ∙ one_by_one front r more) high rise.1 front_in more_out in
      let counts : changes_in (r ∷ more) ≡ changes_by own.0 + changes_in more =
      sum_by-cons (λ (x : Row). cond ((x.kind == 3) || (x.kind == 4)) 1 0) r more
      ∙ ap (λ c. c + changes_in more) (ap (λ kind. counts_one (is_change kind)) (sym at.kind_is) ∙ changes_of_kind own.0) in
      record {
        read = subst (λ g. AreRead rows g (r ∷ more) end) (sym (same_state (below k n) (below r.kind r.no) agree)) (
          in_time (cut (below r.kind r.no) written m) (told_in (below r.kind r.no) 1 m.setup.group) r.kind r.no next.ranks next.members,
          (
            own.0,
            row_good front r more own.0 list alone at own.2 next,
            subst (λ g. AreRead rows g more end) (sym (leads_on r own.0 next)) rest.read,
          ),
        );
        counted = omega (
          arith,
          rest.counted,
          next.counted,
          counts,
          ap (λ (before : Machine). total before.histories) (cut_alike (below k n) (below r.kind r.no) m agree written),
        );
      }
    where
      both_in : (P Q : Places) (xs : List Row) → All (IsIn P) xs → All (IsIn Q) xs → All (λ x. P x.kind x.no ≡ Q x.kind x.no) xs
      both_in P Q [] one other = All-nil (λ x. P x.kind x.no ≡ Q x.kind x.no)
      both_in P Q (x ∷ xs) one other =
          All-cons (λ x. P x.kind x.no ≡ Q x.kind x.no) x xs (All-head (IsIn P) x xs one ∙ sym (All-head (IsIn Q) x xs other))
          (both_in P Q xs (All-tail (IsIn P) x xs one) (All-tail (IsIn Q) x xs other))

      both_out : (P Q : Places) (xs : List Row) → All (IsOut P) xs → All (IsOut Q) xs → All (λ x. P x.kind x.no ≡ Q x.kind x.no) xs
      both_out P Q [] one other = All-nil (λ x. P x.kind x.no ≡ Q x.kind x.no)
      both_out P Q (x ∷ xs) one other =
          All-cons (λ x. P x.kind x.no ≡ Q x.kind x.no) x xs (All-head (IsOut P) x xs one ∙ sym (All-head (IsOut Q) x xs other))
          (both_out P Q xs (All-tail (IsOut P) x xs one) (All-tail (IsOut Q) x xs other))

  -- ---- the first two rows

  part_placed : (p : Part) (k n : ℕ) → part_kind p ≡ k → part_number p ≡ n → HasPlace k n
  part_placed (part.Setup text) k n kind number = inl (sym kind, sym number)
  part_placed (part.Present balance change format moment) k n kind number = inr (inl (sym kind, sym number))
  part_placed (part.Issue issue key change at author values) k n kind number = inr (inr (omega (arith, kind)))
  part_placed (part.Group issue group) k n kind number = inr (inr (omega (arith, kind)))
  part_placed (part.Rank issue rank) k n kind number = inr (inr (omega (arith, kind)))
  part_placed (part.External issue external) k n kind number = inr (inr (omega (arith, kind)))
  part_placed (part.Sprint sprint_no sprint) k n kind number = inr (inr (omega (arith, kind)))
  part_placed (part.Filter filter_no owner name jql) k n kind number = inr (inr (omega (arith, kind)))
  part_placed (part.Board board_no name filter) k n kind number = inr (inr (omega (arith, kind)))
  part_placed (part.Members group members) k n kind number = inr (inr (omega (arith, kind)))

  row_placed : (k n : ℕ) (body : List ℕ) → found rows k n ≡ Some body → HasPlace k n
  row_placed k n body there =
      let own = row_part k n body there in
      let at = part_kept m k n own.0 (written, of_text.reads) is own.1 in
      part_placed own.0 k n at.kind_is at.number_is

  -- each row is found where it is
  found_in : (list : List Row) → Rise list → All (λ x. found list x.kind x.no ≡ Some x.body) list
  found_in [] rise = All-nil (λ x. found [] x.kind x.no ≡ Some x.body)
  found_in (r ∷ list) rise =
      All-cons (λ x. found (r ∷ list) x.kind x.no ≡ Some x.body) r list (rw (eq-eqb r.kind r.kind refl, eq-eqb r.no r.no refl) refl)
      (behind list rise.0 (found_in list rise.1))
    where
      turned : (r x : Row) → ((x.kind == r.kind) && (x.no == r.no)) ≡ is_at r x
      turned r x = grind arith

      behind : (xs : List Row) → All (IsBelow r) xs → All (λ x. found list x.kind x.no ≡ Some x.body) xs → All (λ x. found (r ∷ list) x.kind x.no ≡ Some x.body) xs
      behind [] less founds = All-nil (λ x. found (r ∷ list) x.kind x.no ≡ Some x.body)
      behind (x ∷ xs) less founds =
          let other : ((x.kind == r.kind) && (x.no == r.no)) ≡ false = turned r x ∙ apart_below r x (All-head (IsBelow r) x xs less) in
          All-cons (λ x. found (r ∷ list) x.kind x.no ≡ Some x.body) x xs
          (rw other (All-head (λ x. found list x.kind x.no ≡ Some x.body) x xs founds))
          (behind xs (All-tail (IsBelow r) x xs less) (All-tail (λ x. found list x.kind x.no ≡ Some x.body) x xs founds))

  setup_found : found rows 1 0 ≡ Some m.text
  unfolding rows_of part_at body_text
  setup_found = same 1 0

  present_found : found rows 2 0 ≡ Some (body_text (names_in m.setup) (present_part m))
  unfolding rows_of part_at
  present_found = same 2 0

  -- ---- the beginning

  texts_groups : (first : ℕ) (ws gs : List UserGroup) → map (λ g. g.name) gs ≡ map (λ g. g.name) ws → cut_groups (below 3 0) first ws gs ≡ ws
  texts_groups first [] gs names = refl
  texts_groups first (w ∷ ws) [] names = absurd (cc)
  texts_groups first (w ∷ ws) (g ∷ gs) names =
      let own : g.name ≡ w.name = ap (first_name w.name) names in
      let rest : map (λ i. i.name) gs ≡ map (λ i. i.name) ws = ap names_behind names in
      ap (λ (name : List ℕ). let group : UserGroup = record { name = name; members = w.members } in group ∷ cut_groups (below 3 0) (first + 1) ws gs) own
      ∙ ap (λ (groups : List UserGroup). w ∷ groups) (texts_groups (first + 1) ws gs rest)
    where
      first_name : List ℕ → List (List ℕ) → List ℕ
      first_name d [] = d
      first_name d (n ∷ ns) = n

      names_behind : List (List ℕ) → List (List ℕ)
      names_behind [] = []
      names_behind (n ∷ ns) = ns

  none_told_first : (first : ℕ) (gs : List UserGroup) → told_in (below 3 0) first gs ≡ 0
  none_told_first first [] = refl
  none_told_first first (g ∷ gs) = let rest = none_told_first (first + 1) gs in omega (arith, rest)

  no_sprints_first : (first : ℕ) (ss : List Sprint) → cut_sprints (below 3 0) first ss ≡ []
  no_sprints_first first [] = refl
  no_sprints_first first (s ∷ ss) = no_sprints_first (first + 1) ss

  no_histories : cut_histories (below 3 0) m.histories ≡ []
  no_histories =
      ap (map (cut_history (below 3 0))) (none_to (λ (h : History). h.no.0) 1 0 m.histories (runs_rise 1 m.histories is.numbers) (omega arith))

  begins : state 3 0 ≡ Stands Second 0 (standing m.text written m.balance m.change m.moment)
  begins =
      ap (λ told. Stands Second told (cut (below 3 0) written m)) (none_told_first 1 m.setup.group)
      ∙ ap (λ after. Stands Second 0 after) (
      same_made m (texts_groups 1 written.group m.setup.group of_text.groups) no_histories (none_pass m.externals) (none_pass m.order)
      (no_sprints_first 1 m.sprints) (none_pass m.filters) (none_pass m.boards)
      ∙ ap (λ (setup : Parts). let after : Machine = record (standing m.text written m.balance m.change m.moment) { setup = setup } in after)
      (ap (λ (setup : Parts). let own : Parts = record setup { group = written.group } in own) of_text.same)
      )

  counted_from : (rest : List Row) → IsRead rest 3 0 → m.change ≤ changes_in rest
  counted_from rest read = omega (arith, read.counted, ap total no_histories, is.numbered)

  -- the row of the setup, that of present, and the others
  module _ (a b : Row) (rest : List Row) (list : rows ≡ a ∷ b ∷ rest) (rise : Rise (a ∷ b ∷ rest)) where
    placed : All (λ x. found (a ∷ b ∷ rest) x.kind x.no ≡ Some x.body) (a ∷ b ∷ rest)
    placed = found_in (a ∷ b ∷ rest) rise

    all_placed : All (λ x. HasPlace x.kind x.no) (a ∷ b ∷ rest)
    all_placed =
        All-weaker (λ x. found (a ∷ b ∷ rest) x.kind x.no ≡ Some x.body) (λ x. HasPlace x.kind x.no)
        (λ x there. row_placed x.kind x.no x.body (ap (λ (all : List Row). found all x.kind x.no) list ∙ there)) (a ∷ b ∷ rest) placed

    place_a : HasPlace a.kind a.no
    place_a = All-head (λ x. HasPlace x.kind x.no) a (b ∷ rest) all_placed

    place_b : HasPlace b.kind b.no
    place_b = All-head (λ x. HasPlace x.kind x.no) b rest (All-tail (λ x. HasPlace x.kind x.no) a (b ∷ rest) all_placed)

    place_rest : All (λ x. HasPlace x.kind x.no) rest
    place_rest = All-tail (λ x. HasPlace x.kind x.no) b rest (All-tail (λ x. HasPlace x.kind x.no) a (b ∷ rest) all_placed)

    first_is : (a.kind ≡ 1) × (a.no ≡ 0)
    first_is =
        let there : found (a ∷ b ∷ rest) 1 0 ≢ None = λ none. none-some m.text (sym none ∙ ap (λ (all : List Row). found all 1 0) (sym list) ∙ setup_found) in
        let r = row_in (λ x. ((x.kind ≡ a.kind) × (x.no ≡ a.no)) ⊎ IsBelow a x) (a ∷ b ∷ rest) 1 0
        (All-cons (λ x. ((x.kind ≡ a.kind) × (x.no ≡ a.no)) ⊎ IsBelow a x) a (b ∷ rest) (inl (refl, refl))
        (All-weaker (IsBelow a) (λ x. ((x.kind ≡ a.kind) × (x.no ≡ a.no)) ⊎ IsBelow a x) (λ x less. inr less) (b ∷ rest) rise.0)) there in
        by r.row r.kind_is r.number_is r.holds place_a
      where
        by : (x : Row) → x.kind ≡ 1 → x.no ≡ 0 → ((x.kind ≡ a.kind) × (x.no ≡ a.no)) ⊎ IsBelow a x → HasPlace a.kind a.no → (a.kind ≡ 1) × (a.no ≡ 0)
        by x kind number (inl own) place = (omega (arith, own.0, kind), omega (arith, own.1, number))
        by x kind number (inr (inl less)) (inl is_first) = absurd (omega (arith, less, kind, is_first.0))
        by x kind number (inr (inl less)) (inr (inl is_second)) = absurd (omega (arith, less, kind, is_second.0))
        by x kind number (inr (inl less)) (inr (inr high)) = absurd (omega (arith, less, kind, high))
        by x kind number (inr (inr less)) place = absurd (omega (arith, less.1, number))

    second_is : (b.kind ≡ 2) × (b.no ≡ 0)
    second_is =
        let there : found (a ∷ b ∷ rest) 2 0 ≢ None =
        λ none. none-some (body_text (names_in m.setup) (present_part m)) (sym none ∙ ap (λ (all : List Row). found all 2 0) (sym list) ∙ present_found) in
        let r = row_in (λ x. (x.kind ≡ 1) ⊎ (((x.kind ≡ b.kind) × (x.no ≡ b.no)) ⊎ IsBelow b x)) (a ∷ b ∷ rest) 2 0
        (All-cons (λ x. (x.kind ≡ 1) ⊎ (((x.kind ≡ b.kind) × (x.no ≡ b.no)) ⊎ IsBelow b x)) a (b ∷ rest) (inl first_is.0)
        (All-cons (λ x. (x.kind ≡ 1) ⊎ (((x.kind ≡ b.kind) × (x.no ≡ b.no)) ⊎ IsBelow b x)) b rest (inr (inl (refl, refl)))
        (All-weaker (IsBelow b) (λ x. (x.kind ≡ 1) ⊎ (((x.kind ≡ b.kind) × (x.no ≡ b.no)) ⊎ IsBelow b x)) (λ x less. inr (inr less)) rest rise.1.0))) there in
        by r.row r.kind_is r.number_is r.holds place_b (All-head (IsBelow a) b rest rise.0)
      where
        by : (x : Row) → x.kind ≡ 2 → x.no ≡ 0 → (x.kind ≡ 1) ⊎ (((x.kind ≡ b.kind) × (x.no ≡ b.no)) ⊎ IsBelow b x) → HasPlace b.kind b.no → IsBelow a b
            → (b.kind ≡ 2) × (b.no ≡ 0)
        by x kind number (inl one) place above = absurd (omega (arith, kind, one))
        by x kind number (inr (inl own)) place above = (omega (arith, own.0, kind), omega (arith, own.1, number))
        by x kind number (inr (inr (inl less))) (inl is_first) (inl above) = absurd (omega (arith, is_first.0, above, first_is.0))
        by x kind number (inr (inr (inl less))) (inl is_first) (inr above) = absurd (omega (arith, is_first.1, above.1))
        by x kind number (inr (inr (inl less))) (inr (inl is_second)) above = absurd (omega (arith, less, kind, is_second.0))
        by x kind number (inr (inr (inl less))) (inr (inr high)) above = absurd (omega (arith, less, kind, high))
        by x kind number (inr (inr (inr less))) place above = absurd (omega (arith, less.1, number))

    others_high : (xs : List Row) → All (IsBelow b) xs → All (λ x. HasPlace x.kind x.no) xs → All (IsOut (below 3 0)) xs
    others_high [] less places = All-nil (IsOut (below 3 0))
    others_high (x ∷ xs) less places =
        All-cons (IsOut (below 3 0)) x xs
        (below_not 3 0 x.kind x.no (never x (All-head (IsBelow b) x xs less) (All-head (λ x. HasPlace x.kind x.no) x xs places)))
        (others_high xs (All-tail (IsBelow b) x xs less) (All-tail (λ x. HasPlace x.kind x.no) x xs places))
      where
        never : (x : Row) → IsBelow b x → HasPlace x.kind x.no → IsFirstOf x.kind x.no 3 0 → ⊥
        never x (inl above) (inl is_first) first = omega (arith, above, is_first.0, second_is.0)
        never x (inl above) (inr (inl second)) first = omega (arith, above, second.0, second_is.0)
        never x (inr above) (inl is_first) first = omega (arith, above.1, is_first.1)
        never x (inr above) (inr (inl second)) first = omega (arith, above.1, second.1)
        never x above (inr (inr high)) (inl low) = omega (arith, high, low)
        never x above (inr (inr high)) (inr none) = omega (arith, none.1)

    read_rest : IsRead rest 3 0
    read_rest =
        read_from (a ∷ b ∷ []) rest 3 0 list (omega arith) rise.1.1
        (All-cons (IsIn (below 3 0)) a (b ∷ []) (below_from 3 0 a.kind a.no (inl (omega (arith, first_is.0))))
        (All-cons (IsIn (below 3 0)) b [] (below_from 3 0 b.kind b.no (inl (omega (arith, second_is.0)))) (All-nil (IsIn (below 3 0)))))
        (others_high rest rise.1.0 place_rest)

    apart_all : (r : Row) (xs : List Row) → All (IsBelow r) xs → All (λ x. is_at r x ≡ false) xs
    apart_all r xs less = All-weaker (IsBelow r) (λ x. is_at r x ≡ false) (λ x own. apart_below r x own) xs less

    alone_a : IsAlone rows a
    alone_a = subst (λ all. IsAlone all a) (sym list) (omega (arith, counted_at [] a (b ∷ rest), none_counted a (b ∷ rest) (apart_all a (b ∷ rest) rise.0)))

    alone_b : IsAlone rows b
    alone_b = subst (λ all. IsAlone all b) (sym list)
        (omega (arith, counted_at (a ∷ []) b rest, none_counted b rest (apart_all b rest rise.1.0), none_counted b (a ∷ []) before))
      where
        before : All (λ x. is_at b x ≡ false) (a ∷ [])
        before = All-cons (λ x. is_at b x ≡ false) a [] (differ (is_at b a) refl) (All-nil (λ x. is_at b x ≡ false))
          where
            differ : (c : Bool) → is_at b a ≡ c → c ≡ false
            differ false own = refl
            differ true own =
                let parts = and_parts (b.kind == a.kind) (b.no == a.no) own in
                absurd (omega (arith, eqb-true b.kind a.kind parts.0, first_is.0, second_is.0))

    body_of : (x : Row) (k n : ℕ) (body : List ℕ) → x.kind ≡ k → x.no ≡ n → found rows k n ≡ Some body → found rows x.kind x.no ≡ Some x.body → body ≡ x.body
    body_of x k n body kind number there own =
        same_Some body x.body (sym there ∙ sym (ap (λ j. found rows j n) kind) ∙ sym (ap (found rows x.kind) number) ∙ own)

    own_found : (x : Row) → found (a ∷ b ∷ rest) x.kind x.no ≡ Some x.body → found rows x.kind x.no ≡ Some x.body
    own_found x there = ap (λ (all : List Row). found all x.kind x.no) list ∙ there

    setup_body : m.text ≡ a.body
    setup_body = body_of a 1 0 m.text first_is.0 first_is.1 setup_found (own_found a (All-head (λ x. found (a ∷ b ∷ rest) x.kind x.no ≡ Some x.body) a (b ∷ rest) placed))

    present_body : body_text (names_in m.setup) (present_part m) ≡ b.body
    present_body = body_of b 2 0 (body_text (names_in m.setup) (present_part m)) second_is.0 second_is.1 present_found
        (own_found b (All-head (λ x. found (a ∷ b ∷ rest) x.kind x.no ≡ Some x.body) b rest
        (All-tail (λ x. found (a ∷ b ∷ rest) x.kind x.no ≡ Some x.body) a (b ∷ rest) placed)))

    setup_good : IsGood rows Nothing a (part.Setup m.text)
    unfolding MayFollow IsPart body_text
    setup_good = record {
      alone = alone_a;
      tells = (m.setup, record { at = record { is_part = (written, of_text.reads); kind_is = sym first_is.0; number_is = sym first_is.1 }; text_is = setup_body });
      sprints = tt;
      follows = tt;
    }

    setup_leads : with_part Nothing (part.Setup m.text) ≡ HasSetup m.text written
    unfolding with_part
    setup_leads = ap (with_setup m.text) of_text.reads

    present_form : IsPart m.setup (present_part m) → IsPart written (present_part m)
    unfolding IsPart
    present_form form = form

    present_text : body_text (names_in written) (present_part m) ≡ body_text (names_in m.setup) (present_part m)
    unfolding body_text
    present_text = refl

    present_there : part_at m 2 0 ≡ Some (present_part m)
    unfolding part_at
    present_there = refl

    more_changes : m.change ≤ changes_in rows
    more_changes =
        let count : Row → ℕ = λ x. cond ((x.kind == 3) || (x.kind == 4)) 1 0 in
        omega (arith, counted_from rest read_rest, ap changes_in list, sum_by-cons count a (b ∷ rest), sum_by-cons count b rest)

    present_good : IsGood rows (HasSetup m.text written) b (present_part m)
    unfolding MayFollow
    present_good =
        let at = part_kept m 2 0 (present_part m) (written, of_text.reads) is present_there in
        record {
          alone = alone_b;
          tells = record { at = record { is_part = present_form at.is_part; kind_is = sym second_is.0; number_is = sym second_is.1 }; text_is = present_text ∙ present_body };
          sprints = tt;
          follows = record { counted = more_changes };
        }

    present_leads : with_part (HasSetup m.text written) (present_part m) ≡ state 3 0
    unfolding with_part
    present_leads = sym begins

    read_all : AreRead rows Nothing (a ∷ b ∷ rest) end
    read_all = (
      not_ahead_of 1 0 a first_is.0 first_is.1,
      (
        part.Setup m.text,
        setup_good,
        subst (λ g. AreRead rows g (b ∷ rest) end) (sym setup_leads) (
          not_ahead_of 2 0 b second_is.0 second_is.1,
          (present_part m, present_good, subst (λ g. AreRead rows g rest end) (sym present_leads) read_rest.read),
        ),
      ),
    )
      where
        not_ahead_of : (k n : ℕ) (x : Row) → x.kind ≡ k → x.no ≡ n → (k < x.kind) ⊎ ((k ≡ x.kind) × (n < x.no)) → ⊥
        not_ahead_of k n x kind number (inl less) = omega (arith, kind, less)
        not_ahead_of k n x kind number (inr own) = omega (arith, number, own.1)

  -- there are at least two rows
  read_rows : (list : List Row) → rows ≡ list → Rise list → AreRead rows Nothing list end
  read_rows [] list rise = absurd (none-some m.text (sym (ap (λ (all : List Row). found all 1 0) list) ∙ setup_found))
  read_rows (a ∷ []) list rise = absurd (both (row_in (λ x. x ≡ a) (a ∷ []) 1 0 own (there 1 0 m.text setup_found))
      (row_in (λ x. x ≡ a) (a ∷ []) 2 0 own (there 2 0 (body_text (names_in m.setup) (present_part m)) present_found)))
    where
      own : All (λ x. x ≡ a) (a ∷ [])
      own = All-cons (λ x. x ≡ a) a [] refl (All-nil (λ x. x ≡ a))

      there : (k n : ℕ) (body : List ℕ) → found rows k n ≡ Some body → found (a ∷ []) k n ≢ None
      there k n body has none = none-some body (sym none ∙ sym (ap (λ (all : List Row). found all k n) list) ∙ has)

      both : IsRowIn (λ x. x ≡ a) 1 0 → IsRowIn (λ x. x ≡ a) 2 0 → ⊥
      both one two =
          let first : a.kind ≡ 1 = ap (λ (x : Row). x.kind) (sym one.holds) ∙ one.kind_is in
          let second : a.kind ≡ 2 = ap (λ (x : Row). x.kind) (sym two.holds) ∙ two.kind_is in
          omega (arith, first, second)
  read_rows (a ∷ b ∷ rest) list rise = read_all a b rest list rise

-- ---- the law

rise_of : (list : List Row) → AllPairs IsBelow list → Rise list
rise_of [] rising = tt
rise_of (r ∷ list) rising =
    (λ k d within. rising zero (suc k) d (omega arith) (omega (arith, within)), rise_of list (λ i j d less within. rising (suc i) (suc j) d (omega (arith, less)) (omega (arith, within))))

ordered_of : (list : List Row) → AllPairs IsBelow list → InOrder list
ordered_of list rising = λ i j d less within below_too. not_both (rising i j d less within) below_too
  where
    not_both : {a b c e : ℕ} → (a < b) ⊎ ((a ≡ b) × (c < e)) → (b < a) ⊎ ((b ≡ a) × (e < c)) → ⊥
    not_both (inl one) (inl other) = omega (arith, one, other)
    not_both (inl one) (inr other) = omega (arith, one, other.0)
    not_both (inr one) (inl other) = omega (arith, one.0, other)
    not_both (inr one) (inr other) = omega (arith, one.1, other.1)

nothing_due : (m : Machine) → IsTracker m → due (Stands Second (length m.setup.group) m) ≡ None
nothing_due m is =
    let ranks : nat_lt (length m.order) (length m.histories) ≡ false = grind (arith, nat_tests, is.each) in
    let groups : nat_lt (length m.setup.group) (length m.setup.group) ≡ false = grind (arith, nat_tests) in
    ap (λ b. option_or (rank_due b (length m.order)) (members_due Second (length m.setup.group) m.setup.group)) ranks ∙ ap (next_due (length m.setup.group)) groups

pub trackers_load : TrackersLoad
trackers_load m rows is of_text listing = record {
  ordered = ordered_of rows listing.rising;
  told = length m.setup.group;
  read = read_rows m rows is of_text listing.same rows refl (rise_of rows listing.rising);
  whole = nothing_due m is;
}
