-- Splitting, joining, opening and closing keep the rule.
use Rattle.std.proofs.Common.{◌≡◌, ◌≢◌, ℕ, zero, suc, ◌+◌, ◌≤◌, ◌<◌, Bool, false, List, [], ◌∷◌, length, set, inl, inr, refl, sym, ap, subst, ◌∙◌, arith, Option, Some, None, true≢false}
use mathlib.Core.Option as rules
use mathlib.Core.Logic.{dite}
use native.Mathlib.Decide.{dec_le}
use lib.ListN.{get_elem?, get_or}
use Rattle.std.proofs.lemmas.List.Elements.{All-push}
use Rattle.std.proofs.lemmas.List.Quantifiers.{all_pairs_push}
use Rattle.atomic_table.specs.Table.{Splits, Joins, opening, Final, Seen}
use Rattle.atomic_table.proofs.Lists.{at_set, set_else}
use Rattle.desk_turn.specs.declared.entry.Entry.{Entry}
use Rattle.desk_turn.specs.declared.view.View.{View}
use Rattle.desk_turn.specs.History.{total, StartsWith, calls_by, IsAccountedFor}
use Rattle.desk_turn.specs.Rule.{one_if, weigh, Account, IsOver, Fits, AtHome, Shelf, Keeps}
use Rattle.desk_turn.specs.Views.{all_parts, splitter, newcomer, receipt_view, spent_view, joiner, opening_view}
use Rattle.desk_turn.specs.Resting.{Rests}
use Rattle.desk_turn.proofs.Apart.{accounted}
use Rattle.desk_turn.proofs.Totals.{total_set, total_snoc, total_whole, at_longer_by_one}
use Rattle.desk_turn.proofs.Others.{not_out, seated_another, fits_blank, no_seat}
use Rattle.desk_turn.proofs.Standing.{changed, changed_here, changed_else, some_same, some_none, fits_set}

module _ {A T O V : Type 0} (history : V → List (Entry A T)) (origin : V → O) where
  -- what the turn leaves when all passes are joined
  pub record Leftover (o : O) (v : View A T O) (value : V) : Type 0 where
    pub source : origin value ≡ o
    pub whole : IsAccountedFor (history value) v.seen v.mine v.joined

pub above_zero : (n : ℕ) → (n ≡ 0 → ⊥) → 0 < n
above_zero zero never = absurd (never refl)
above_zero (suc n) never = omega arith

module _ {A T O V : Type 0} (history : V → List (Entry A T)) (origin : V → O) (most : ℕ) (o : O) where
  pub splits : (id : ℕ) (v : View A T O) → Rests v → v.caller ≡ 0 → 1 < v.parts → v.named ≤ v.left → Splits (Keeps history origin most o) id v (splitter v) (newcomer v)
  splits id v rests zero_caller parts named s kept mine =
      let given = kept.0 in
      let p = kept.1 in
      let st = kept.2 in
      let f = st.fits id v mine in
      let l = f.lives rests.live in
      let k = f.first rests.live zero_caller in
      let left : View A T O = splitter v in
      let right : View A T O = newcomer v in
      let by : ℕ = v.made + 1 in
      let new : ℕ = length (set s.views id left) in
      let q : Account A T = record p { seat = changed p.seat by (Some new) } in
      let none = k.later by (omega arith) in
      let own : Fits o q id left = record {
        seen = f.seen;
        heard = f.heard;
        lives = λ live. record {
          origin = l.origin;
          seat = changed_else p.seat by (Some new) v.caller (λ same. omega (arith, same, zero_caller)) ∙ l.seat;
          own = l.own;
        };
        idle = λ none. absurd (omega (arith, parts, none));
        waits = λ t e. some_none t _ (sym e ∙ rests.ticket);
        holds = λ on. absurd (true≢false (sym on ∙ rests.holds));
        first = λ live zero. record {
          later = λ b lt. let x = k.later b (omega (arith, lt)) in (changed_else p.seat by (Some new) b (λ same. omega (arith, lt, same)) ∙ x.0, x.1);
          lists = λ i d lt. let x = k.lists i d lt in record {
            above = x.above;
            known = omega (arith, x.known);
            seat = changed_else p.seat by (Some new) (get_or v.joined i d).0 (λ same. omega (arith, x.known, same)) ∙ x.seat;
            own = x.own;
          };
          apart = k.apart;
        };
      } in
      let theirs : Fits o q new right = record {
        seen = f.seen;
        heard = (p.log, refl);
        lives = λ live. record { origin = l.origin; seat = changed_here p.seat by (Some new); own = none.1 };
        idle = λ none. absurd (omega (arith, none));
        waits = λ t e. some_none t _ (sym e);
        holds = λ on. absurd (true≢false (sym on));
        first = λ live zero. absurd (omega (arith, zero));
      } in
      let others : (j : ℕ) (u : View A T O) → j ≢ id → get_elem? s.views j ≡ rules.some u → Fits o q j u = λ j u n at.
      let fu = st.fits j u at in
      seated_another o p id j u n fu by (Some new)
      (λ live same. some_none j ⊥ (sym (fu.lives live).seat ∙ ap p.seat same ∙ none.0))
      (λ live zero. n (some_same j id (sym (fu.lives live).seat ∙ ap p.seat (zero ∙ sym zero_caller) ∙ l.seat))) in (
        given,
        q,
        record {
          words = st.words;
          reached = st.reached;
          next = st.next;
          shelf = st.shelf;
          fits = λ j u at. elim (at_longer_by_one (set s.views id left) right u j at) [
            | inl here ↦ fits_set o p q s.views id left own others j u here
            | inr last ↦ subst (λ i. Fits o q i u) (sym last.0) (subst (λ (x : View A T O). Fits o q new x) last.1 theirs)
          ];
          counts =
              let c = st.counts in
              let s1 = total_set (λ (x : View A T O). x.parts) s.views id v left mine in
              let s2 = total_set (λ (x : View A T O). weigh x) s.views id v left mine in
              let s3 = total_set (λ (x : View A T O). one_if x.holds) s.views id v left mine in
              let s4 = total_set (λ (x : View A T O). x.left) s.views id v left mine in
              let s5 = total_set (λ (x : View A T O). x.fresh) s.views id v left mine in
              let n1 = total_snoc (λ (x : View A T O). x.parts) (set s.views id left) right in
              let n2 = total_snoc (λ (x : View A T O). weigh x) (set s.views id left) right in
              let n3 = total_snoc (λ (x : View A T O). one_if x.holds) (set s.views id left) right in
              let n4 = total_snoc (λ (x : View A T O). x.left) (set s.views id left) right in
              let n5 = total_snoc (λ (x : View A T O). x.fresh) (set s.views id left) right in
              record {
                parts = omega (arith, s1, n1, c.parts, parts);
                entries = omega (arith, s2, n2, c.entries);
                busy = omega (arith, s3, n3, c.busy);
                left = omega (arith, s4, n4, c.left, named);
                fresh = omega (arith, s5, n5, c.fresh);
              };
          small = st.small;
        },
      )

  pub notes : (id : ℕ) (v : View A T O) → Splits (Keeps history origin most o) id v v (receipt_view v)
  notes id v s kept mine =
      let given = kept.0 in
      let p = kept.1 in
      let st = kept.2 in
      let right : View A T O = receipt_view v in (
        given,
        p,
        record {
          words = st.words;
          reached = st.reached;
          next = st.next;
          shelf = st.shelf;
          fits = λ j u at. elim (at_longer_by_one (set s.views id v) right u j at) [
            | inl here ↦ fits_set o p p s.views id v (st.fits id v mine) (λ j u n at. st.fits j u at) j u here
            | inr last ↦ subst (λ (x : View A T O). Fits o p j x) last.1 (fits_blank o p j right refl (record { left = refl; fresh = refl; weight = refl; holds = refl }) refl refl refl)
          ];
          counts =
              let c = st.counts in
              let s1 = total_set (λ (x : View A T O). x.parts) s.views id v v mine in
              let s2 = total_set (λ (x : View A T O). weigh x) s.views id v v mine in
              let s3 = total_set (λ (x : View A T O). one_if x.holds) s.views id v v mine in
              let s4 = total_set (λ (x : View A T O). x.left) s.views id v v mine in
              let s5 = total_set (λ (x : View A T O). x.fresh) s.views id v v mine in
              let n1 = total_snoc (λ (x : View A T O). x.parts) (set s.views id v) right in
              let n2 = total_snoc (λ (x : View A T O). weigh x) (set s.views id v) right in
              let n3 = total_snoc (λ (x : View A T O). one_if x.holds) (set s.views id v) right in
              let n4 = total_snoc (λ (x : View A T O). x.left) (set s.views id v) right in
              let n5 = total_snoc (λ (x : View A T O). x.fresh) (set s.views id v) right in
              record {
                parts = omega (arith, s1, n1, c.parts);
                entries = omega (arith, s2, n2, c.entries);
                busy = omega (arith, s3, n3, c.busy);
                left = omega (arith, s4, n4, c.left);
                fresh = omega (arith, s5, n5, c.fresh);
              };
          small = st.small;
        },
      )

  pub joins : (id : ℕ) (v : View A T O) (other : ℕ) (w : View A T O) → Rests v → v.caller ≡ 0 → Rests w → w.joined ≡ [] → Joins (Keeps history origin most o) id v other w (joiner v w) spent_view
  joins id v other w rests zero_caller theirs single s kept mine apart at_other =
      let given = kept.0 in
      let p = kept.1 in
      let st = kept.2 in
      let both : View A T O = joiner v w in
      let at_w : get_elem? s.views other ≡ rules.some w = sym (set_else s.views id other both apart) ∙ at_other in
      let f = st.fits id v mine in
      let g = st.fits other w at_w in
      let l = f.lives rests.live in
      let m = g.lives theirs.live in
      let k = f.first rests.live zero_caller in
      let q : Account A T = record p { seat = changed p.seat w.caller None } in
      let below : w.caller ≤ v.made = dite (dec_le w.caller v.made) (λ yes. yes) (λ above. some_none other _ (sym m.seat ∙ (k.later w.caller (omega (arith, above))).0)) in
      let above : 0 < w.caller = above_zero w.caller (λ zero. apart (some_same other id (sym m.seat ∙ ap p.seat (zero ∙ sym zero_caller) ∙ l.seat))) in
      let own : Fits o q id both = record {
        seen = f.seen;
        heard = g.seen;
        lives = λ live. record {
          origin = l.origin;
          seat = changed_else p.seat w.caller None v.caller (λ same. apart (some_same other id (sym m.seat ∙ ap p.seat (sym same) ∙ l.seat))) ∙ l.seat;
          own = l.own;
        };
        idle = λ none. absurd (omega (arith, rests.live, none));
        waits = λ t e. some_none t _ (sym e ∙ rests.ticket);
        holds = λ on. absurd (true≢false (sym on ∙ rests.holds));
        first = λ live zero. record {
          later = λ b lt. let x = k.later b lt in (changed_else p.seat w.caller None b (λ same. no_seat p.seat w.caller b other m.seat x.0 (sym same)) ∙ x.0, x.1);
          lists = All-push (λ j. IsOver q v.made j.0 j.1) v.joined (w.caller, w.mine)
              (λ i d lt. let x = k.lists i d lt in record {
                above = x.above;
                known = x.known;
                seat = changed_else p.seat w.caller None (get_or v.joined i d).0 (λ same. no_seat p.seat w.caller (get_or v.joined i d).0 other m.seat x.seat (sym same)) ∙ x.seat;
                own = x.own;
              })
              (record { above = above; known = below; seat = changed_here p.seat w.caller None; own = m.own });
          apart = all_pairs_push (λ j k. j.0 ≢ k.0) v.joined (w.caller, w.mine) k.apart
              (λ i d lt same. no_seat p.seat w.caller (get_or v.joined i d).0 other m.seat (k.lists i d lt).seat (sym same));
        };
      } in
      let others : (j : ℕ) (u : View A T O) → j ≢ id → j ≢ other → get_elem? s.views j ≡ rules.some u → Fits o q j u = λ j u n n2 at.
      let fu = st.fits j u at in
      seated_another o p id j u n fu w.caller None
      (λ live same. n2 (some_same j other (sym (fu.lives live).seat ∙ ap p.seat same ∙ m.seat)))
      (λ live zero. n (some_same j id (sym (fu.lives live).seat ∙ ap p.seat (zero ∙ sym zero_caller) ∙ l.seat))) in
      let blank : Fits o q other spent_view = fits_blank o q other spent_view refl (record { left = refl; fresh = refl; weight = refl; holds = refl }) refl refl refl in (
        given,
        q,
        record {
          words = st.words;
          reached = st.reached;
          next = st.next;
          shelf = st.shelf;
          fits = fits_set o p q (set s.views id both) other spent_view blank (λ j u n at. elim (at_set s.views id j both u at) [
            | inl here ↦ subst (λ i. Fits o q i u) (sym here.0) (subst (λ (x : View A T O). Fits o q id x) here.1 own)
            | inr was ↦ others j u was.0 n was.1
          ]);
          counts =
              let c = st.counts in
              let s1 = total_set (λ (x : View A T O). x.parts) s.views id v both mine in
              let s2 = total_set (λ (x : View A T O). weigh x) s.views id v both mine in
              let s3 = total_set (λ (x : View A T O). one_if x.holds) s.views id v both mine in
              let s4 = total_set (λ (x : View A T O). x.left) s.views id v both mine in
              let s5 = total_set (λ (x : View A T O). x.fresh) s.views id v both mine in
              let n1 = total_set (λ (x : View A T O). x.parts) (set s.views id both) other w spent_view at_other in
              let n2 = total_set (λ (x : View A T O). weigh x) (set s.views id both) other w spent_view at_other in
              let n3 = total_set (λ (x : View A T O). one_if x.holds) (set s.views id both) other w spent_view at_other in
              let n4 = total_set (λ (x : View A T O). x.left) (set s.views id both) other w spent_view at_other in
              let n5 = total_set (λ (x : View A T O). x.fresh) (set s.views id both) other w spent_view at_other in
              let heavier = total_snoc (λ (j : ℕ × List (Entry A T)). length j.1) v.joined (w.caller, w.mine) in
              let lighter = ap (λ (l : List (ℕ × List (Entry A T))). total (λ j. length j.1) l) single in
              let off = ap one_if theirs.holds in
              record {
                parts = omega (arith, s1, n1, c.parts);
                entries = omega (arith, s2, n2, c.entries, heavier, lighter);
                busy = omega (arith, s3, n3, c.busy, off);
                left = omega (arith, s4, n4, c.left);
                fresh = omega (arith, s5, n5, c.fresh);
              };
          small = st.small;
        },
      )

  pub opens : (value : V) → most < 4294967296 → history value ≡ [] → origin value ≡ o → Keeps history origin most o (opening (0 ∷ 0 ∷ 0 ∷ 0 ∷ []) (Some value ∷ []) (opening_view most o))
  opens value small empty source =
      let p : Account A T = record { log = []; drawn = 0; turn = 0; out = false; drawer = λ _. 0; seat = changed (λ _. None) 0 (Some 0) } in
      let own : Fits o p 0 (opening_view most o) = record {
        seen = ([], refl);
        heard = ([], refl);
        lives = λ live. record { origin = refl; seat = refl; own = refl };
        idle = λ none. absurd (omega (arith, none));
        waits = λ t e. some_none t _ (sym e);
        holds = λ on. absurd (true≢false (sym on));
        first = λ live zero. record {
          later = λ b lt. (changed_else (λ _. None) 0 (Some 0) b (λ same. omega (arith, lt, same)), refl);
          lists = λ i d lt. absurd (omega (arith, lt));
          apart = λ i j d below lt. absurd (omega (arith, lt));
        };
      } in (
        0,
        p,
        record {
          words = refl;
          reached = omega arith;
          next = λ on. absurd (true≢false (sym on));
          shelf = record { value = value; home = refl; whole = empty; source = source };
          fits = alone own;
          counts = record { parts = refl; entries = refl; busy = refl; left = omega arith; fresh = omega arith };
          small = small;
        },
      ) where
        alone : {p : Account A T} {w : View A T O} → Fits o p 0 w → (id : ℕ) (v : View A T O) → get_elem? (w ∷ []) id ≡ rules.some v → Fits o p id v
        alone {p} {w} own zero v e = subst (λ (x : View A T O). Fits o p 0 x) (rules.some-injective w v e) own
        alone own (suc id) v e = absurd (rules.some-ne-none v (sym e))

  pub closes : (id : ℕ) (v : View A T O) (ws : List ℕ) (xs : List (Option V)) → Rests v → v.caller ≡ 0 → v.parts ≡ all_parts → Final (Seen (Keeps history origin most o) id v) ws xs
      → (value : V) × (get_elem? xs 0 ≡ rules.some (Some value)) × Leftover history origin o v value
  closes id v ws xs rests zero_caller all end =
      let s = end.0 in
      let p = end.1.0.1 in
      let st = end.1.0.2 in
      let at = end.1.1 in
      let f = st.fits id v at in
      let l = f.lives rests.live in
      let k = f.first rests.live zero_caller in
      let whole : total (λ (x : View A T O). x.parts) s.views ≡ v.parts = st.counts.parts ∙ sym all in
      let busy = total_whole (λ (x : View A T O). x.parts) (λ (x : View A T O). one_if x.holds) s.views (λ i x at none. ap one_if ((st.fits i x at).idle none).holds) id v at whole in
      let weight = total_whole (λ (x : View A T O). x.parts) (λ (x : View A T O). weigh x) s.views (λ i x at none. ((st.fits i x at).idle none).weight) id v at whole in
      let off = ap one_if rests.holds in
      let home : p.out ≡ false = not_out p.out (λ on. let up = ap one_if on in omega (arith, busy, off, up, st.counts.busy)) in
      let here : AtHome history origin o p.log s.homes = subst (λ (b : Bool). Shelf history origin o p.log b s.homes) home st.shelf in (
        here.value,
        end.4 0 (Some here.value) (ap (λ hs. get_elem? hs 0) here.home),
        record {
          source = here.source;
          whole = accounted (history here.value) v.seen v.mine v.joined
              (subst (λ h. StartsWith h v.seen) (sym here.whole) f.seen)
              (ap (calls_by 0) here.whole ∙ ap (λ (b : ℕ). calls_by b p.log) (sym zero_caller) ∙ l.own)
              (λ i d lt. ((k.lists i d lt).above, ap (calls_by (get_or v.joined i d).0) here.whole ∙ (k.lists i d lt).own))
              k.apart
              (ap length here.whole ∙ sym st.counts.entries ∙ weight);
        },
      )

  -- what is found in the slot at the end
  pub left_over : (id : ℕ) (v : View A T O) (ws : List ℕ) (xs : List (Option V)) (found : Option V) → Rests v → v.caller ≡ 0 → v.parts ≡ all_parts → Final (Seen (Keeps history origin most o) id v) ws xs
      → get_elem? xs 0 ≡ rules.some found → (value : V) × (found ≡ Some value) × Leftover history origin o v value
  left_over id v ws xs found rests zero_caller all end at =
      let it = closes id v ws xs rests zero_caller all end in
      (it.0, rules.some-injective found (Some it.0) (sym at ∙ it.1), it.2)
