-- One call, from the ticket to the passing on of the turn.
use Rattle.std.proofs.Common.{◌≡◌, ℕ, ◌<◌, List, [], ◌∷◌, ◌++◌, refl, sym, ap, ap₂, subst, ◌∙◌, Option, Some, None, MatchOption}
use Rattle.atomic_table.specs.Table.{Me, rest}
use Rattle.desk_turn.specs.declared.entry.Entry.{Entry}
use Rattle.desk_turn.specs.declared.view.View.{View}
use Rattle.desk_turn.specs.History.{StartsWith, calls_by}
use Rattle.desk_turn.specs.Resting.{Rests}
use Rattle.desk_turn.specs.Views.{ticketed, holding, entering, leaving, passed}
use Rattle.desk_turn.specs.Plays.{Takes, EntersBy, Holds, Told}
use Rattle.desk_turn.proofs.Standing.{some_is, calls_more}

pub last_is : {X : Type 0} (xs : List X) (a b : X) → xs ++ a ∷ [] ≡ xs ++ b ∷ [] → a ≡ b
last_is xs a b e = sym (last_of a xs a) ∙ ap (last a) e ∙ last_of a xs b where
  last : {X : Type 0} → X → List X → X
  last d [] = d
  last d (x ∷ ys) = last x ys

  last_of : {X : Type 0} (d : X) (ys : List X) (x : X) → last d (ys ++ x ∷ []) ≡ x
  last_of d [] x = refl
  last_of d (y ∷ ys) x = last_of y ys x

pub carried_is : {V : Type 0} (a b : V) (l m : List (ℕ × Option V)) → (0, Some a) ∷ l ≡ (0, Some b) ∷ m → a ≡ b
carried_is a b l m e = some_is a b (ap (λ x. (head x).1) e) where
  head : {V : Type 0} → List (ℕ × Option V) → ℕ × Option V
  head [] = (0, None)
  head (x ∷ xs) = x

pub pushed : {X : Type 0} (old new : List X) (x : X) → new ≡ old ++ x ∷ [] → old ≡ [] → new ≡ x ∷ []
pushed old new x grown empty = grown ∙ ap (λ l. l ++ x ∷ []) empty

pub of_some : {X : Type 0} (P : Type 0) (Q : X → Type 0) (r : Option X) (x : X) → r ≡ Some x → MatchOption r P Q → Q x
of_some {X} P Q r x e h = subst (λ (o : Option X). MatchOption o P Q) e h

pub of_none : {X : Type 0} (P : Type 0) (Q : X → Type 0) (r : Option X) → r ≡ None → MatchOption r P Q → P
of_none {X} P Q r e h = subst (λ (o : Option X). MatchOption o P Q) e h

module _ {A T O V : Type 0} (history : V → List (Entry A T)) (origin : V → O) where
  -- the seat has the turn, and holds what became of the value that it took
  pub record InTurn (v : View A T O) (n : ℕ) (value now : V) (me : Me (Option V) (View A T O)) : Type 0 where
    pub after : me ≡ (holding (ticketed v n) (history value), (0, Some now) ∷ [])
    pub seen : StartsWith (history value) v.seen
    pub own : calls_by v.caller (history value) ≡ v.mine
    pub source : v.origin ≡ Some (origin now)
    pub live : 0 < v.parts

  pub in_turn : (m0 m1 m2 m3 m4 : Me (Option V) (View A T O)) (n : ℕ) (value now : V) → Rests m0.0 → m0.1 ≡ [] → m1 ≡ (ticketed m0.0 n, m0.1) → Takes history origin m1 m2
      → m2.1 ≡ (0, Some value) ∷ [] → m3 ≡ (m2.0, (0, None) ∷ []) → m4 ≡ (m3.0, (0, Some now) ∷ []) → origin now ≡ origin value → InTurn m0.0 n value now m4
  in_turn m0 m1 m2 m3 m4 n value now rests bare drawn takes held taken put source =
      let is : takes.value ≡ value = carried_is takes.value value m1.1 [] (sym (ap (λ (m : Me (Option V) (View A T O)). m.1) takes.after) ∙ held) in
      let whole : history takes.value ≡ history value = ap history is in
      let view : m2.0 ≡ holding (ticketed m0.0 n) (history value) =
      ap (λ (m : Me (Option V) (View A T O)). m.0) takes.after ∙ ap₂ (λ (m : Me (Option V) (View A T O)) l. holding m.0 l) drawn whole in record {
        after = put ∙ ap (λ (m : Me (Option V) (View A T O)). (m.0, (0, Some now) ∷ [])) taken ∙ ap (λ (w : View A T O). (w, (0, Some now) ∷ [])) view;
        seen = subst (λ l. StartsWith l m0.0.seen) whole (subst (λ (m : Me (Option V) (View A T O)). StartsWith (history takes.value) m.0.seen) drawn takes.seen);
        own = ap (calls_by m0.0.caller) (sym whole) ∙ subst (λ (m : Me (Option V) (View A T O)). calls_by m.0.caller (history takes.value) ≡ m.0.mine) drawn takes.own;
        source = subst (λ (m : Me (Option V) (View A T O)). m.0.origin ≡ Some (origin takes.value)) drawn takes.source ∙ ap Some (ap origin is ∙ sym source);
        live = rests.live;
      }

  module _ (v : View A T O) (n : ℕ) (value now : V) (me : Me (Option V) (View A T O)) (in_it : InTurn v n value now me) where
    pub holds_in_turn : Holds history origin me now
    holds_in_turn = subst (λ (m : Me (Option V) (View A T O)). Holds history origin m now) (sym in_it.after) (record { held = refl; live = in_it.live; turn = refl; source = in_it.source })

    pub can_enter : (e : Entry A T) → e.by ≡ v.caller → history now ≡ history value ++ e ∷ [] → Holds history origin me now × (history now ≡ me.0.held ++ e ∷ []) × (e.by ≡ me.0.caller) × (me.0.fresh ≡ 1)
    can_enter e by longer = (
      holds_in_turn,
      longer ∙ ap (λ (m : Me (Option V) (View A T O)). m.0.held ++ e ∷ []) (sym in_it.after),
      by ∙ ap (λ (m : Me (Option V) (View A T O)). m.0.caller) (sym in_it.after),
      ap (λ (m : Me (Option V) (View A T O)). m.0.fresh) in_it.after,
    )

    pub can_leave : history now ≡ history value → Holds history origin me now × (history now ≡ me.0.held)
    can_leave same = (holds_in_turn, same ∙ ap (λ (m : Me (Option V) (View A T O)). m.0.held) (sym in_it.after))

    pub left_so : (m6 : Me (Option V) (View A T O)) → m6 ≡ (leaving me.0, rest me.1) → m6 ≡ (passed v, [])
    left_so m6 left = left ∙ ap (λ (m : Me (Option V) (View A T O)). (leaving m.0, rest m.1)) in_it.after

    module _ (e : Entry A T) (by : e.by ≡ v.caller) (longer : history now ≡ history value ++ e ∷ []) (m5 : Me (Option V) (View A T O)) (entered : EntersBy history origin me m5) where
      pub entered_so : m5 ≡ (entering (holding (ticketed v n) (history value)) (history now) e, (0, Some now) ∷ [])
      entered_so =
          let is : entered.value ≡ now = carried_is entered.value now entered.more [] (sym entered.held ∙ ap (λ (m : Me (Option V) (View A T O)). m.1) in_it.after) in
          let same : history value ++ entered.entry ∷ [] ≡ history value ++ e ∷ [] =
          ap (λ (m : Me (Option V) (View A T O)). m.0.held ++ entered.entry ∷ []) (sym in_it.after) ∙ sym entered.longer ∙ ap history is ∙ longer in
          let is_e : entered.entry ≡ e = last_is (history value) entered.entry e same in
          entered.after ∙ ap₂ (λ l x. (entering me.0 l x, me.1)) (ap history is) is_e ∙ ap (λ (m : Me (Option V) (View A T O)). (entering m.0 (history now) e, m.1)) in_it.after

      pub can_leave_entered : Holds history origin m5 now × (history now ≡ m5.0.held)
      can_leave_entered = (
        subst (λ (m : Me (Option V) (View A T O)). Holds history origin m now) (sym entered_so) (record { held = refl; live = in_it.live; turn = refl; source = in_it.source }),
        ap (λ (m : Me (Option V) (View A T O)). m.0.held) (sym entered_so),
      )

      pub told_so : (m6 : Me (Option V) (View A T O)) → m6 ≡ (leaving m5.0, rest m5.1) → Told v e m6.0 × (m6.1 ≡ [])
      told_so m6 left =
          let all : m6 ≡ (leaving (entering (holding (ticketed v n) (history value)) (history now) e), []) = left ∙ ap (λ (m : Me (Option V) (View A T O)). (leaving m.0, rest m.1)) entered_so in
          let grown : history now ≡ (v.seen ++ in_it.seen.0) ++ e ∷ [] = longer ∙ ap (λ l. l ++ e ∷ []) in_it.seen.1 in (
            record {
              between = in_it.seen.0;
              after = ap (λ (m : Me (Option V) (View A T O)). m.0) all ∙ ap (λ l. record (passed v) { seen = l; mine = v.mine ++ e ∷ [] }) grown;
              own = ap (calls_by v.caller) (ap (λ l. l ++ e ∷ []) (sym in_it.seen.1)) ∙ ap (λ (b : ℕ). calls_by b (history value ++ e ∷ [])) (sym by) ∙ calls_more (history value) e
                  ∙ ap (λ (b : ℕ). calls_by b (history value) ++ e ∷ []) by ∙ ap (λ l. l ++ e ∷ []) in_it.own;
            },
            ap (λ (m : Me (Option V) (View A T O)). m.1) all,
          )
