-- The numbers of fields come once each, and so do the fields of opening values.
use Rattle.std.proofs.Common.{◌≡◌, ◌≢◌, ℕ, zero, suc, ◌<◌, ◌≤◌, ◌==◌, ◌||◌, Bool, true, false, List, [], ◌∷◌, ◌++◌, length, get_or, map, nat_le, refl, sym, ap, ◌∙◌, subst, arith, inl, inr, eqb-true}
use Rattle.std.specs.List.{AllPairs, list_all, list_any}
use Rattle.std.proofs.lemmas.Bool.{and_parts, cases_Bool}
use Rattle.std.proofs.lemmas.Bool.Decides.{nat_tests}
use Rattle.field_values.specs.Parts.{Parts}
use Rattle.field_values.specs.declared.field.Field.{Field}
use Rattle.fields.specs.Naming.{built_in_numbers, field_numbers}
use Rattle.fields.specs.Sound.{has_own_number, IsSound}
use Rattle.change_history.specs.declared.change.Change.{Change}
use Rattle.tracker_keeper.specs.Forms.{are_among}

-- ---- numbers

abbrev IsNew : ℕ → List ℕ → Type 0
IsNew n ns = list_any (λ k. k == n) ns ≡ false

abbrev AreOnce : List ℕ → Type 0
AreOnce [] = Unit {0}
AreOnce (n ∷ ns) = IsNew n ns × AreOnce ns

or_parts : (a b : Bool) → (a || b) ≡ false → (a ≡ false) × (b ≡ false)
or_parts true b e = absurd (cc)
or_parts false b e = (refl, e)

new_before : (n : ℕ) (ms ns : List ℕ) → IsNew n ms → IsNew n ns → IsNew n (ms ++ ns)
new_before n [] ns first rest = rest
new_before n (m ∷ ms) ns first rest =
    let parts = or_parts (m == n) (list_any (λ k. k == n) ms) first in rw (parts.0, new_before n ms ns parts.1 rest) refl

new_to_own : (n : ℕ) (fields : List Field) → n < 10_000 → list_all has_own_number fields ≡ true → IsNew n (map (λ f. f.number.0) fields)
new_to_own n [] small own = refl
new_to_own n (f ∷ fields) small own =
    let parts = and_parts (has_own_number f) (list_all has_own_number fields) own in
    let from = (and_parts (nat_le 10000 f.number.0) (nat_le f.number.0 19999) parts.0).0 in
    let other : (f.number.0 == n) ≡ false = grind (arith, nat_tests, small, from) in
    rw (other, new_to_own n fields small parts.1) refl

abbrev AreSmall : List ℕ → Type 0
AreSmall [] = Unit {0}
AreSmall (n ∷ ns) = (n < 10_000) × AreSmall ns

once_before : (ns : List ℕ) (fields : List Field) → AreOnce ns → AreSmall ns → list_all has_own_number fields ≡ true → AreOnce (map (λ f. f.number.0) fields)
    → AreOnce (ns ++ map (λ f. f.number.0) fields)
once_before [] fields once small own rest = rest
once_before (n ∷ ns) fields once small own rest =
    (new_before n ns (map (λ f. f.number.0) fields) once.0 (new_to_own n fields small.0 own), once_before ns fields once.1 small.1 own rest)

new_by : (n : ℕ) (fields : List Field) → ((k : ℕ) (d : Field) → k < length fields → n ≢ (get_or fields k d).number.0) → IsNew n (map (λ f. f.number.0) fields)
new_by n [] other = refl
new_by n (f ∷ fields) other =
    let first = other zero f (omega arith) in
    let apart : (f.number.0 == n) ≡ false = grind (arith, nat_tests, first) in
    rw (apart, new_by n fields (λ k d inside. other (suc k) d (omega (arith, inside)))) refl

own_once : (fields : List Field) → AllPairs (λ one other. one.number.0 ≢ other.number.0) fields → AreOnce (map (λ f. f.number.0) fields)
own_once [] pairs = tt
own_once (f ∷ fields) pairs = (
  new_by f.number.0 fields (λ k d inside. pairs zero (suc k) d (omega arith) (omega (arith, inside))),
  own_once fields (λ i j d less inside. pairs (suc i) (suc j) d (omega (arith, less)) (omega (arith, inside))),
)

built_in_once : AreOnce built_in_numbers
built_in_once = (refl, (refl, (refl, (refl, (refl, (refl, (refl, (refl, (refl, (refl, (refl, (refl, (refl, tt)))))))))))))

built_in_small : AreSmall built_in_numbers
built_in_small =
    (omega arith, (omega arith, (omega arith, (omega arith, (omega arith, (omega arith, (omega arith, (omega arith, (omega arith, (omega arith, (omega arith, (omega arith, (omega arith, tt)))))))))))))

numbers_once : (setup : Parts) → IsSound setup → AreOnce (field_numbers setup.field)
numbers_once setup sound = once_before built_in_numbers setup.field built_in_once built_in_small sound.own_numbers (own_once setup.field sound.numbers)

-- ---- opening values

-- no value is of that field
abbrev pub HasNone : ℕ → List Change → Type 0
HasNone n cs = list_any (λ c. c.field.0 == n) cs ≡ false

abbrev pub HaveOnce : List Change → Type 0
HaveOnce [] = Unit {0}
HaveOnce (c ∷ cs) = HasNone c.field.0 cs × HaveOnce cs

not_among : (n : ℕ) (ns : List ℕ) (cs : List Change) → IsNew n ns → are_among ns cs ≡ true → HasNone n cs
not_among n ns [] new among = refl
not_among n [] (c ∷ cs) new among = absurd (cc)
not_among n (m ∷ ns) (c ∷ cs) new among =
    let parts = or_parts (m == n) (list_any (λ k. k == n) ns) new in
    elim (cases_Bool (c.field.0 == m)) [
      | inl same ↦
          let is = eqb-true c.field.0 m same in
          let other : (c.field.0 == n) ≡ false = subst (λ (k : ℕ). (k == n) ≡ false) (sym is) parts.0 in
          rw (other, not_among n ns cs parts.1 (rw same at among)) refl
      | inr apart ↦ not_among n ns (c ∷ cs) parts.1 (rw apart at among)
    ]

once_among : (ns : List ℕ) (cs : List Change) → AreOnce ns → are_among ns cs ≡ true → HaveOnce cs
once_among ns [] once among = tt
once_among [] (c ∷ cs) once among = absurd (cc)
once_among (m ∷ ns) (c ∷ cs) once among = elim (cases_Bool (c.field.0 == m)) [
  | inl same ↦
      let is = eqb-true c.field.0 m same in
      let more = rw same at among in
      (subst (λ (k : ℕ). HasNone k cs) (sym is) (not_among m ns cs once.0 more), once_among ns cs once.1 more)
  | inr apart ↦ once_among ns (c ∷ cs) once.1 (rw apart at among)
]

pub opening_once : (setup : Parts) (cs : List Change) → IsSound setup → are_among (field_numbers setup.field) cs ≡ true → HaveOnce cs
opening_once setup cs sound among = once_among (field_numbers setup.field) cs (numbers_once setup sound) among
