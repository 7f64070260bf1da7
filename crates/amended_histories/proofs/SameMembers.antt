-- Members that stand in the order of their names are those that are found by name.
use Rattle.std.proofs.Common.{◌≡◌, ℕ, List, Option, Some, None, refl, sym, ap, ◌∙◌, subst}
use Rattle.std.specs.Ordering.{nat_cmp, is_eq, match_ordering, ordering_reverse}
use Rattle.std.specs.declared.cmp.Ordering.{Ordering}
use Rattle.std.specs.declared.cmp.Ordering.TheVariants.{Less, Equal, Greater}
use Rattle.std.specs.Cmp.Lexicographic.{slice_cmp}
use Rattle.std.proofs.lemmas.Cmp.{nat_list_cmp_total, tied_itself}
use Rattle.std.proofs.lemmas.Map.Text.{is_eq-slice_cmp}
use Rattle.std.proofs.lemmas.Slice.Eq.{bytes_eq-Decides}
use Rattle.std.proofs.lemmas.Option.{none-some, same_Some}
use Rattle.serde_json.specs.Data.{Data, Members, no_members, member}
use Rattle.serde_json.specs.Find.{get_member}
use Rattle.tracker_keeper.proofs.Clean.{IsBefore, IsBeforeAll, IsAscending}

-- the name is found first
found_first : (k : List ℕ) (d : Data) (ms : Members) → get_member k (member k d ms) ≡ Some d
found_first k d ms = ap (λ o. match_ordering o (get_member k ms) (Some d) (get_member k ms)) (tied_itself nat_list_cmp_total k)

passed : (k l : List ℕ) (d : Data) (ms : Members) → IsBefore k l → get_member k (member l d ms) ≡ get_member k ms
passed k l d ms before = ap (λ o. match_ordering o (get_member k ms) (Some d) (get_member k ms)) before

none_before : (k : List ℕ) (ms : Members) → IsBeforeAll k ms → get_member k ms ≡ None
none_before k no_members before = refl
none_before k (member l d ms) before = passed k l d ms before.0 ∙ none_before k ms before.1

before_more : (k l : List ℕ) (ms : Members) → IsBefore k l → IsBeforeAll l ms → IsBeforeAll k ms
before_more k l no_members before all = tt
before_more k l (member m d ms) before all = (nat_list_cmp_total.trans k l m before all.0, before_more k l ms before all.1)

abbrev AreSame : Members → Members → Type 0
AreSame ms ns = (q : List ℕ) → get_member q ms ≡ get_member q ns

not_before : (k l : List ℕ) (d e : Data) (ms ns : Members) → IsBefore k l → IsBeforeAll l ns → AreSame (member k d ms) (member l e ns) → ⊥
not_before k l d e ms ns before all same =
    none-some d (sym (none_before k (member l e ns) (before, before_more k l ns before all)) ∙ (sym (same k) ∙ found_first k d ms))

tails_same : (k : List ℕ) (d e : Data) (ms ns : Members) → IsBeforeAll k ms → IsBeforeAll k ns → AreSame (member k d ms) (member k e ns) → AreSame ms ns
tails_same k d e ms ns before over same q = by (slice_cmp nat_cmp q k) refl (same q)
  where
    by : (o : Ordering) → slice_cmp nat_cmp q k ≡ o
        → match_ordering (slice_cmp nat_cmp q k) (get_member q ms) (Some d) (get_member q ms) ≡ match_ordering (slice_cmp nat_cmp q k) (get_member q ns) (Some e) (get_member q ns)
        → get_member q ms ≡ get_member q ns
    by Less is at = rw is at at
    by Greater is at = rw is at at
    by Equal is at =
        let name : q ≡ k = (bytes_eq-Decides q k).0 (sym (is_eq-slice_cmp q k) ∙ ap is_eq is) in
        subst (λ (r : List ℕ). get_member r ms ≡ get_member r ns) (sym name) (none_before k ms before ∙ sym (none_before k ns over))

pub same_members : (ms ns : Members) → IsAscending ms → IsAscending ns → AreSame ms ns → ms ≡ ns
same_members no_members no_members up rising same = refl
same_members no_members (member l e ns) up rising same = absurd (none-some e (same l ∙ found_first l e ns))
same_members (member k d ms) no_members up rising same = absurd (none-some d (sym (same k) ∙ found_first k d ms))
same_members (member k d ms) (member l e ns) up rising same = by (slice_cmp nat_cmp k l) refl (λ rest. same_members ms ns up.1 rising.1 rest)
  where
    by : (o : Ordering) → slice_cmp nat_cmp k l ≡ o → (AreSame ms ns → ms ≡ ns) → member k d ms ≡ member l e ns
    by Less is more = absurd (not_before k l d e ms ns is rising.0 same)
    by Greater is more =
        let back : IsBefore l k = nat_list_cmp_total.antisymm l k ∙ ap ordering_reverse is in
        absurd (not_before l k e d ns ms back up.0 (λ q. sym (same q)))
    by Equal is more =
        let name : k ≡ l = (bytes_eq-Decides k l).0 (sym (is_eq-slice_cmp k l) ∙ ap is_eq is) in
        let there : get_member k (member l e ns) ≡ Some e = subst (λ (r : List ℕ). get_member r (member l e ns) ≡ Some e) (sym name) (found_first l e ns) in
        let body : d ≡ e = same_Some d e (sym (found_first k d ms) ∙ (same k ∙ there)) in
        let over : IsBeforeAll k ns = subst (λ (r : List ℕ). IsBeforeAll r ns) (sym name) rising.0 in
        let rest : ms ≡ ns =
        more
        (tails_same k d e ms ns up.0 over (subst (λ (r : List ℕ). AreSame (member k d ms) (member r e ns)) (sym name) same)) in
        ap (λ (r : List ℕ). member r d ms) name ∙ (ap (λ x. member l x ms) body ∙ ap (member l e) rest)
