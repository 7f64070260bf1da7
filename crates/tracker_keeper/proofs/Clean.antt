-- What has no number of more than 64 bits, and members in order, is read back from its compact text.
use Rattle.std.proofs.Common.{◌≡◌, ℕ, zero, suc, ◌<◌, ◌≤◌, ◌^◌, List, [], ◌∷◌, Some, refl, sym, ap, ◌∙◌, arith, map}
use Rattle.std.specs.Ordering.{nat_cmp, match_ordering, ordering_reverse}
use Rattle.std.specs.declared.cmp.Ordering.{Ordering}
use Rattle.std.specs.declared.cmp.Ordering.TheVariants.{Less, Equal, Greater}
use Rattle.std.specs.Cmp.Lexicographic.{slice_cmp, nat_list_cmp_total}
use Rattle.json.specs.Tree as tree
use Rattle.json.proofs.Printed.Decimals.{IsNumber-decimal}
use Rattle.serde_json.specs.Data.{unsigned, negative, float, Data, null, boolean, number, string, array, object, Items, no_items, item, Members, no_members, member, put}
use Rattle.serde_json.specs.Read.{read, max_depth, of_json, of_items, of_members}
use Rattle.serde_json.specs.View.{items_of}
use Rattle.serde_json.specs.Written.{outline, items_outline, members_outline, compact_text}
use Rattle.serde_json.proofs.Numbers.{number_of-decimal}
use Rattle.tracker_keeper.proofs.Texts.{reads_compact}

-- one name stands before the other by its bytes
abbrev pub IsBefore : List ℕ → List ℕ → Type 0
IsBefore k l = slice_cmp nat_cmp k l ≡ Less

abbrev pub IsBeforeAll : List ℕ → Members → Type 0
IsBeforeAll k no_members = Unit {0}
IsBeforeAll k (member l e ms) = IsBefore k l × IsBeforeAll k ms

abbrev pub IsAscending : Members → Type 0
IsAscending no_members = Unit {0}
IsAscending (member k d ms) = IsBeforeAll k ms × IsAscending ms

-- it nests at most so deep, its numbers are whole and small, and its members ascend
abbrev mutual
  pub IsClean : ℕ → Data → Type 0
  IsClean n null = Unit {0}
  IsClean n (boolean b) = Unit {0}
  IsClean n (number (unsigned k)) = k < 2 ^ 64
  IsClean n (number (negative z)) = ⊥
  IsClean n (number (float x)) = ⊥
  IsClean n (string s) = Unit {0}
  IsClean zero (array ds) = ⊥
  IsClean (suc n) (array ds) = AreClean n ds
  IsClean zero (object ms) = ⊥
  IsClean (suc n) (object ms) = HasClean n ms × IsAscending ms

  pub AreClean : ℕ → Items → Type 0
  AreClean n no_items = Unit {0}
  AreClean n (item d ds) = IsClean n d × AreClean n ds

  pub HasClean : ℕ → Members → Type 0
  HasClean n no_members = Unit {0}
  HasClean n (member k d ms) = IsClean n d × HasClean n ms

-- ---- members that are put one after another

abbrev join : Members → Members → Members
join no_members ns = ns
join (member l e ms) ns = member l e (join ms ns)

join-nothing : (ms : Members) → join ms no_members ≡ ms
join-nothing no_members = refl
join-nothing (member l e ms) = ap (member l e) (join-nothing ms)

join-twice : (ms : Members) (k : List ℕ) (d : Data) (ns : Members) → join (join ms (member k d no_members)) ns ≡ join ms (member k d ns)
join-twice no_members k d ns = refl
join-twice (member l e ms) k d ns = ap (member l e) (join-twice ms k d ns)

-- all members stand before the name
abbrev AreBefore : Members → List ℕ → Type 0
AreBefore no_members k = Unit {0}
AreBefore (member l e ms) k = IsBefore l k × AreBefore ms k

abbrev AreBeforeAll : Members → Members → Type 0
AreBeforeAll ms no_members = Unit {0}
AreBeforeAll ms (member k d ns) = AreBefore ms k × AreBeforeAll ms ns

after : (k l : List ℕ) → IsBefore l k → slice_cmp nat_cmp k l ≡ Greater
after k l h = nat_list_cmp_total.antisymm k l ∙ ap ordering_reverse h

put-last : (k : List ℕ) (d : Data) (ms : Members) → AreBefore ms k → put k d ms ≡ join ms (member k d no_members)
put-last k d no_members h = refl
put-last k d (member l e ms) h =
    ap (λ o. match_ordering o (member k d (member l e ms)) (member l d ms) (member l e (put k d ms))) (after k l h.0) ∙ ap (member l e) (put-last k d ms h.1)

AreBefore-join : (k l : List ℕ) (e : Data) (ms : Members) → AreBefore ms k → IsBefore l k → AreBefore (join ms (member l e no_members)) k
AreBefore-join k l e no_members h before = (before, tt)
AreBefore-join k l e (member m n ms) h before = (h.0, AreBefore-join k l e ms h.1 before)

AreBeforeAll-join : (ns : Members) (l : List ℕ) (e : Data) (ms : Members) → AreBeforeAll ms ns → IsBeforeAll l ns → AreBeforeAll (join ms (member l e no_members)) ns
AreBeforeAll-join no_members l e ms h before = tt
AreBeforeAll-join (member k d ns) l e ms h before = (AreBefore-join k l e ms h.0 before.0, AreBeforeAll-join ns l e ms h.1 before.1)

nothing_before : (ns : Members) → AreBeforeAll no_members ns
nothing_before no_members = tt
nothing_before (member k d ns) = (tt, nothing_before ns)

-- ---- reading back

mutual
  of_clean : (n : ℕ) (d : Data) → IsClean n d → of_json (outline d) ≡ Some d
  of_clean n null h = refl
  of_clean n (boolean b) h = refl
  of_clean n (number (unsigned k)) h = rw (number_of-decimal k h) refl
  of_clean n (number (negative z)) h = absurd h
  of_clean n (number (float x)) h = absurd h
  of_clean n (string s) h = refl
  of_clean zero (array ds) h = absurd h
  of_clean (suc n) (array ds) h = rw (of_clean_items n ds h) refl
  of_clean zero (object ms) h = absurd h
  of_clean (suc n) (object ms) h = rw (of_clean_members n ms no_members h.0 h.1 (nothing_before ms)) refl

  of_clean_items : (n : ℕ) (ds : Items) → AreClean n ds → of_items (items_outline ds) ≡ Some ds
  of_clean_items n no_items h = refl
  of_clean_items n (item d ds) h = rw (of_clean n d h.0, of_clean_items n ds h.1) refl

  of_clean_members : (n : ℕ) (ns ms : Members) → HasClean n ns → IsAscending ns → AreBeforeAll ms ns → of_members (members_outline ns) ms ≡ Some (join ms ns)
  of_clean_members n no_members ms h order before = ap Some (sym (join-nothing ms))
  of_clean_members n (member k d ns) ms h order before =
      rw (of_clean n d h.0) (
      ap (of_members (members_outline ns)) (put-last k d ms before.0)
      ∙ of_clean_members n ns (join ms (member k d no_members)) h.1 order.1 (AreBeforeAll-join ns k d ms before.1 order.0)
      ∙ ap Some (join-twice ms k d ns))

mutual
  has_numbers : (n : ℕ) (d : Data) → IsClean n d → tree.HasNumbers (outline d)
  has_numbers n null h = tt
  has_numbers n (boolean b) h = tt
  has_numbers n (number (unsigned k)) h = IsNumber-decimal k h
  has_numbers n (number (negative z)) h = absurd h
  has_numbers n (number (float x)) h = absurd h
  has_numbers n (string s) h = tt
  has_numbers zero (array ds) h = absurd h
  has_numbers (suc n) (array ds) h = items_have_numbers n ds h
  has_numbers zero (object ms) h = absurd h
  has_numbers (suc n) (object ms) h = members_have_numbers n ms h.0

  items_have_numbers : (n : ℕ) (ds : Items) → AreClean n ds → tree.ItemsHaveNumbers (items_outline ds)
  items_have_numbers n no_items h = tt
  items_have_numbers n (item d ds) h = (has_numbers n d h.0, items_have_numbers n ds h.1)

  members_have_numbers : (n : ℕ) (ms : Members) → HasClean n ms → tree.MembersHaveNumbers (members_outline ms)
  members_have_numbers n no_members h = tt
  members_have_numbers n (member k d ms) h = (has_numbers n d h.0, members_have_numbers n ms h.1)

mutual
  is_shallow : (n : ℕ) (d : Data) → IsClean n d → tree.depth (outline d) ≤ n
  is_shallow n null h = omega arith
  is_shallow n (boolean b) h = omega arith
  is_shallow n (number x) h = omega arith
  is_shallow n (string s) h = omega arith
  is_shallow zero (array ds) h = absurd h
  is_shallow (suc n) (array ds) h = let inside = items_are_shallow n ds h in omega (arith, inside)
  is_shallow zero (object ms) h = absurd h
  is_shallow (suc n) (object ms) h = let inside = members_are_shallow n ms h.0 in omega (arith, inside)

  items_are_shallow : (n : ℕ) (ds : Items) → AreClean n ds → tree.items_depth (items_outline ds) ≤ n
  items_are_shallow n no_items h = omega arith
  items_are_shallow n (item d ds) h = let first = is_shallow n d h.0 in let rest = items_are_shallow n ds h.1 in omega (arith, first, rest)

  members_are_shallow : (n : ℕ) (ms : Members) → HasClean n ms → tree.members_depth (members_outline ms) ≤ n
  members_are_shallow n no_members h = omega arith
  members_are_shallow n (member k d ms) h = let first = is_shallow n d h.0 in let rest = members_are_shallow n ms h.1 in omega (arith, first, rest)

pub reads_clean : (n : ℕ) (d : Data) → IsClean n d → n ≤ max_depth → read (compact_text d) ≡ Some d
reads_clean n d h few = let shallow = is_shallow n d h in reads_compact d (has_numbers n d h) (omega (arith, shallow, few)) (of_clean n d h)

-- ---- members that are put by name

before_put_by : (o : Ordering) (l k m : List ℕ) (d e : Data) (ms rest : Members) → IsBefore l k → IsBeforeAll l (member m e ms) → IsBeforeAll l rest
    → IsBeforeAll l (match_ordering o (member k d (member m e ms)) (member m d ms) (member m e rest))
before_put_by Less l k m d e ms rest before h later = (before, h)
before_put_by Equal l k m d e ms rest before h later = h
before_put_by Greater l k m d e ms rest before h later = (h.0, later)

before_put : (l k : List ℕ) (d : Data) (ms : Members) → IsBefore l k → IsBeforeAll l ms → IsBeforeAll l (put k d ms)
before_put l k d no_members before h = (before, tt)
before_put l k d (member m e ms) before h = before_put_by (slice_cmp nat_cmp k m) l k m d e ms (put k d ms) before h (before_put l k d ms before h.1)

before_more : (k m : List ℕ) (ms : Members) → IsBefore k m → IsBeforeAll m ms → IsBeforeAll k ms
before_more k m no_members before h = tt
before_more k m (member l e ms) before h = (nat_list_cmp_total.trans k m l before h.0, before_more k m ms before h.1)

ascending_put_by : (o : Ordering) (k m : List ℕ) (d e : Data) (ms : Members) → slice_cmp nat_cmp k m ≡ o → IsAscending (member m e ms) → IsAscending (put k d ms)
    → IsAscending (match_ordering o (member k d (member m e ms)) (member m d ms) (member m e (put k d ms)))
ascending_put_by Less k m d e ms is h later = ((is, before_more k m ms is h.0), h)
ascending_put_by Equal k m d e ms is h later = h
ascending_put_by Greater k m d e ms is h later = (before_put m k d ms (nat_list_cmp_total.antisymm m k ∙ ap ordering_reverse is) h.0, later)

pub ascending_put : (k : List ℕ) (d : Data) (ms : Members) → IsAscending ms → IsAscending (put k d ms)
ascending_put k d no_members h = (tt, tt)
ascending_put k d (member m e ms) h = ascending_put_by (slice_cmp nat_cmp k m) k m d e ms refl h (ascending_put k d ms h.1)

clean_put_by : (o : Ordering) (n : ℕ) (k m : List ℕ) (d e : Data) (ms rest : Members) → IsClean n d → HasClean n (member m e ms) → HasClean n rest
    → HasClean n (match_ordering o (member k d (member m e ms)) (member m d ms) (member m e rest))
clean_put_by Less n k m d e ms rest h all later = (h, all)
clean_put_by Equal n k m d e ms rest h all later = (h, all.1)
clean_put_by Greater n k m d e ms rest h all later = (all.0, later)

pub clean_put : (n : ℕ) (k : List ℕ) (d : Data) (ms : Members) → IsClean n d → HasClean n ms → HasClean n (put k d ms)
clean_put n k d no_members h all = (h, tt)
clean_put n k d (member m e ms) h all = clean_put_by (slice_cmp nat_cmp k m) n k m d e ms (put k d ms) h all (clean_put n k d ms h all.1)

pub clean_texts : (n : ℕ) (texts : List (List ℕ)) → AreClean n (items_of (map string texts))
clean_texts n [] = tt
clean_texts n (text ∷ texts) = (tt, clean_texts n texts)
