-- Each step of a turn keeps the rule.
use Rattle.std.proofs.Common.{◌≡◌, ℕ, ◌+◌, ◌%◌, ◌^◌, ◌<◌, Bool, true, false, List, [], ◌∷◌, ◌++◌, length, set, slice_index, refl, sym, ap, ap₂, subst, append-nil, ◌∙◌, arith, Option, Some, length-append, true≢false}
use mathlib.Core.Option as rules
use lib.ListN.{get_elem?, get_or}
use Rattle.atomic_table.specs.Table.{Me, Allows, step, keeps, takes, gives, homes_after}
use Rattle.desk_turn.specs.declared.entry.Entry.{Entry}
use Rattle.desk_turn.specs.declared.view.View.{View}
use Rattle.desk_turn.specs.Rule.{one_if, weigh, Account, Fits, AtHome, Shelf, Keeps}
use Rattle.desk_turn.specs.History.{StartsWith, calls_by}
use Rattle.desk_turn.specs.Resting.{Rests}
use Rattle.desk_turn.specs.Views.{ticketed, holding, entering, leaving}
use Rattle.desk_turn.specs.Plays.{Names, Draws, Settles, Leaves, Looks, Enters, Holds}
use Rattle.desk_turn.proofs.Totals.{total_one}
use Rattle.desk_turn.proofs.Others.{not_out, drawn_by_another, taken_by_another, entered_by_another, left_by_another, no_seat}
use Rattle.desk_turn.proofs.Standing.{changed, changed_here, some_same, some_none, some_is, decide, starts_all, starts_more, calls_more, calls_same, fits_set, counts_set}

module _ {A T O V : Type 0} (history : V → List (Entry A T)) (origin : V → O) (most : ℕ) (o : O) where
  pub names : (slots id k : ℕ) (me : Me (Option V) (View A T O)) → Allows (Keeps history origin most o) slots id me 0 (λ _. k) (λ _. Names (step slots 0 k 0 rules.none) me k)
  names slots id k me s kept homes mine small =
      let p = kept.1 in
      let st = kept.2 in
      let v = me.0 in
      let w : View A T O = record v { named = k } in
      let f = st.fits id v mine in
      let own : Fits o p id w = record {
        seen = f.seen;
        heard = f.heard;
        lives = λ live. let l = f.lives live in record { origin = l.origin; seat = l.seat; own = l.own };
        idle = λ none. let i = f.idle none in record { left = i.left; fresh = i.fresh; weight = i.weight; holds = i.holds };
        waits = f.waits;
        holds = λ on. let h = f.holds on in record { ticket = h.ticket; out = h.out; held = h.held };
        first = λ live zero. let l = f.first live zero in record { later = l.later; lists = l.lists; apart = l.apart };
      } in (
        w,
        keeps,
        tt,
        (
          k,
          p,
          record {
            words = ap (λ ws. set ws 0 k) st.words;
            reached = st.reached;
            next = st.next;
            shelf = st.shelf;
            fits = fits_set o p p s.views id w own (λ j u n at. st.fits j u at);
            counts = counts_set most p p s.views id v w mine st.counts refl refl refl (omega arith) (omega arith);
            small = st.small;
          },
        ),
        refl,
      )

  pub settles : (slots id : ℕ) (me : Me (Option V) (View A T O)) → 0 < me.0.parts → Allows (Keeps history origin most o) slots id me 0 (λ n. n) (Settles (step slots 0 0 0 rules.none) me)
  settles slots id me live s kept homes mine small =
      let given = kept.0 in
      let p = kept.1 in
      let st = kept.2 in
      let v = me.0 in
      let w : View A T O = record v { seen = p.log; heard = [] } in
      let f = st.fits id v mine in
      let own : Fits o p id w = record {
        seen = starts_all p.log;
        heard = (p.log, refl);
        lives = λ live. let l = f.lives live in record { origin = l.origin; seat = l.seat; own = l.own };
        idle = λ none. let i = f.idle none in record { left = i.left; fresh = i.fresh; weight = i.weight; holds = i.holds };
        waits = f.waits;
        holds = λ on. let h = f.holds on in record { ticket = h.ticket; out = h.out; held = h.held };
        first = λ live zero. let l = f.first live zero in record { later = l.later; lists = l.lists; apart = l.apart };
      } in
      let most_parts = total_one (λ (x : View A T O). x.parts) s.views id v mine in (
        w,
        keeps,
        tt,
        (
          given,
          p,
          record {
            words = ap (λ ws. set ws 0 (slice_index ws 0)) st.words;
            reached = st.reached;
            next = st.next;
            shelf = st.shelf;
            fits = fits_set o p p s.views id w own (λ j u n at. st.fits j u at);
            counts = counts_set most p p s.views id v w mine st.counts refl refl refl (omega arith) (omega arith);
            small = st.small;
          },
        ),
        record { history = p.log; after = refl; seen = f.seen; heard = f.heard; parts = omega (arith, most_parts, st.counts.parts) },
      )

  pub draws : (slots id : ℕ) (me : Me (Option V) (View A T O)) → Rests me.0 → 0 < me.0.left → Allows (Keeps history origin most o) slots id me 1 (λ n. (n + 1) % 2 ^ 64) (Draws (step slots 1 1 0 rules.none) me)
  draws slots id me rests some_left s kept homes mine small =
      let given = kept.0 in
      let p = kept.1 in
      let st = kept.2 in
      let v = me.0 in
      let found : slice_index s.words 1 ≡ p.drawn = ap (λ ws. slice_index ws 1) st.words in
      let q : Account A T = record p { drawn = p.drawn + 1; drawer = changed p.drawer p.drawn id } in
      let w : View A T O = ticketed v p.drawn in
      let f = st.fits id v mine in
      let lefts = total_one (λ (x : View A T O). x.left) s.views id v mine in
      let room : (p.drawn + 1) % 2 ^ 64 ≡ p.drawn + 1 = omega (arith, lefts, st.counts.left, st.small, some_left) in
      let own : Fits o q id w = record {
        seen = f.seen;
        heard = f.heard;
        lives = λ live. let l = f.lives live in record { origin = l.origin; seat = l.seat; own = l.own };
        idle = λ none. absurd (omega (arith, rests.live, none));
        waits = λ t e. let same : p.drawn ≡ t = some_same p.drawn t e in record {
          drawer = ap (changed p.drawer p.drawn id) (sym same) ∙ changed_here p.drawer p.drawn id;
          from = omega (arith, same, st.reached);
          below = omega (arith, same);
          home = λ now _. not_out p.out (λ out. omega (arith, same, now, st.next out));
        };
        holds = λ on. absurd (true≢false (sym on ∙ rests.holds));
        first = λ live zero. let l = f.first live zero in record {
          later = l.later;
          lists = λ k d lt. let x = l.lists k d lt in record { above = x.above; known = x.known; seat = x.seat; own = x.own };
          apart = l.apart;
        };
      } in (
        w,
        keeps,
        tt,
        (
          given,
          q,
          record {
            words = ap (λ ws. set ws 1 ((slice_index ws 1 + 1) % 2 ^ 64)) st.words ∙ ap (λ (n : ℕ). given ∷ n ∷ p.turn ∷ length p.log ∷ []) room;
            reached = omega (arith, st.reached);
            next = λ out. omega (arith, st.next out);
            shelf = st.shelf;
            fits = fits_set o p q s.views id w own (λ j u n at. drawn_by_another o p id j u n (st.fits j u at));
            counts = counts_set most p q s.views id v w mine st.counts refl refl refl (omega (arith, some_left)) (omega (arith, rests.fresh));
            small = st.small;
          },
        ),
        ap (λ (n : ℕ). (ticketed v n, me.1)) (sym found),
      )

  pub looks : (slots id : ℕ) (me : Me (Option V) (View A T O)) → 0 < me.0.parts → me.0.holds ≡ false → Allows (Keeps history origin most o) slots id me 2 (λ n. n) (Looks history origin (step slots 2 0 0 rules.none) me)
  looks slots id me live free s kept homes mine small =
      let given = kept.0 in
      let p = kept.1 in
      let st = kept.2 in
      let v = me.0 in
      let found : slice_index s.words 2 ≡ p.turn = ap (λ ws. slice_index ws 2) st.words in
      let f = st.fits id v mine in
      let below : slice_index s.words 2 < 4294967296 = omega (arith, found, st.reached, st.counts.left, st.small) in
      decide (v.ticket) p.turn _ (λ turn.
      let wait = f.waits p.turn turn in
      let home : p.out ≡ false = wait.home refl free in
      let here : AtHome history origin o p.log s.homes = subst (λ (b : Bool). Shelf history origin o p.log b s.homes) home st.shelf in
      let q : Account A T = record p { out = true } in
      let w : View A T O = holding v (history here.value) in
      let own : Fits o q id w = record {
        seen = f.seen;
        heard = f.heard;
        lives = λ live. let l = f.lives live in record { origin = l.origin; seat = l.seat; own = l.own };
        idle = λ none. absurd (omega (arith, live, none));
        waits = λ t e. let x = f.waits t e in record { drawer = x.drawer; from = x.from; below = x.below; home = λ _ off. absurd (true≢false off) };
        holds = λ on. record { ticket = turn; out = refl; held = here.whole };
        first = λ live zero. let l = f.first live zero in record {
          later = l.later;
          lists = λ k d lt. let x = l.lists k d lt in record { above = x.above; known = x.known; seat = x.seat; own = x.own };
          apart = l.apart;
        };
      } in
      let busy : one_if q.out + one_if v.holds ≡ one_if p.out + one_if w.holds = omega (arith, ap one_if free, ap one_if home) in (
        w,
        takes 0 (Some here.value),
        ap (λ hs. get_elem? hs 0) here.home,
        (
          given,
          q,
          record {
            words = ap (λ ws. set ws 2 (slice_index ws 2)) st.words;
            reached = st.reached;
            next = λ _. wait.below;
            shelf = ap (λ hs. set hs 0 rules.none) here.home;
            fits = fits_set o p q s.views id w own (λ j u n at. taken_by_another o p id j u n (st.fits j u at) wait.drawer home);
            counts = counts_set most p q s.views id v w mine st.counts refl refl busy (omega arith) (omega arith);
            small = st.small;
          },
        ),
        record {
          turn = λ _. record {
            value = here.value;
            after = refl;
            seen = subst (λ l. StartsWith l v.seen) (sym here.whole) f.seen;
            own = ap (calls_by v.caller) here.whole ∙ (f.lives live).own;
            source = (f.lives live).origin ∙ ap Some (sym here.source);
          };
          wait = λ not_turn. absurd (not_turn (turn ∙ ap Some (sym found)));
          below = below;
        },
      ))
      (λ not_turn. (
        v,
        keeps,
        tt,
        (
          given,
          p,
          record {
            words = ap (λ ws. set ws 2 (slice_index ws 2)) st.words;
            reached = st.reached;
            next = st.next;
            shelf = st.shelf;
            fits = fits_set o p p s.views id v f (λ j u n at. st.fits j u at);
            counts = counts_set most p p s.views id v v mine st.counts refl refl refl (omega arith) (omega arith);
            small = st.small;
          },
        ),
        record {
          turn = λ turn. absurd (not_turn (turn ∙ ap Some found));
          wait = λ _. refl;
          below = below;
        },
      ))

  pub enters : (slots id : ℕ) (me : Me (Option V) (View A T O)) (value : V) (e : Entry A T) → Holds history origin me value → history value ≡ me.0.held ++ e ∷ [] → e.by ≡ me.0.caller → me.0.fresh ≡ 1
      → Allows (Keeps history origin most o) slots id me 3 (λ n. (n + 1) % 2 ^ 64) (Enters history origin (step slots 3 1 0 rules.none) me)
  enters slots id me value e has longer by fresh s kept homes mine small =
      let given = kept.0 in
      let p = kept.1 in
      let st = kept.2 in
      let v = me.0 in
      let f = st.fits id v mine in
      let l = f.lives has.live in
      let turn = f.holds has.turn in
      let wait = f.waits p.turn turn.ticket in
      let whole : history value ≡ p.log ++ e ∷ [] = longer ∙ ap (λ l. l ++ e ∷ []) turn.held in
      let q : Account A T = record p { log = p.log ++ e ∷ [] } in
      let w : View A T O = entering v (history value) e in
      let freshes = total_one (λ (x : View A T O). x.fresh) s.views id v mine in
      let lefts = total_one (λ (x : View A T O). x.left) s.views id v mine in
      let more : length q.log ≡ length p.log + 1 = length-append p.log (e ∷ []) in
      let room : (length p.log + 1) % 2 ^ 64 ≡ length q.log = omega (arith, freshes, st.counts.fresh, st.counts.left, st.small, fresh, more) in
      let seat : p.seat e.by ≡ Some id = ap p.seat by ∙ l.seat in
      let mine_more : length (v.mine ++ e ∷ []) ≡ length v.mine + 1 = length-append v.mine (e ∷ []) in
      let heavier : length q.log + weigh v ≡ length p.log + weigh w = omega (arith, more, mine_more) in
      let own : Fits o q id w = record {
        seen = ([], sym (append-nil _ ∙ whole));
        heard = starts_more p.log v.heard e f.heard;
        lives = λ live. record {
          origin = l.origin;
          seat = l.seat;
          own = ap (λ (b : ℕ). calls_by b (p.log ++ e ∷ [])) (sym by) ∙ calls_more p.log e ∙ ap (λ (b : ℕ). calls_by b p.log ++ e ∷ []) by ∙ ap (λ m. m ++ e ∷ []) l.own;
        };
        idle = λ none. absurd (omega (arith, has.live, none));
        waits = λ t h. let x = f.waits t h in record { drawer = x.drawer; from = x.from; below = x.below; home = x.home };
        holds = λ on. record { ticket = turn.ticket; out = turn.out; held = whole };
        first = λ live zero. let k = f.first live zero in record {
          later = λ b lt. let x = k.later b lt in (x.0, calls_same p.log e b (no_seat p.seat e.by b id seat x.0) ∙ x.1);
          lists = λ i d lt. let x = k.lists i d lt in record { above = x.above; known = x.known; seat = x.seat; own = calls_same p.log e (get_or v.joined i d).0 (no_seat p.seat e.by (get_or v.joined i d).0 id seat x.seat) ∙ x.own };
          apart = k.apart;
        };
      } in (
        w,
        keeps,
        tt,
        (
          given,
          q,
          record {
            words = ap (λ ws. set ws 3 ((slice_index ws 3 + 1) % 2 ^ 64)) st.words ∙ ap (λ (n : ℕ). given ∷ p.drawn ∷ p.turn ∷ n ∷ []) room;
            reached = st.reached;
            next = st.next;
            shelf = subst (λ (b : Bool). Shelf history origin o (p.log ++ e ∷ []) b s.homes) (sym turn.out) (subst (λ (b : Bool). Shelf history origin o p.log b s.homes) turn.out st.shelf);
            fits = fits_set o p q s.views id w own (λ j u n at. entered_by_another o p id j u n (st.fits j u at) e.by e wait.drawer seat);
            counts = counts_set most p q s.views id v w mine st.counts refl heavier refl (omega arith) (omega (arith, more, fresh));
            small = st.small;
          },
        ),
        record { value = value; entry = e; more = []; held = has.held; longer = longer; after = refl },
      )

  pub leaves : (slots id : ℕ) (me : Me (Option V) (View A T O)) (value : V) → Holds history origin me value → history value ≡ me.0.held
      → Allows (Keeps history origin most o) slots id me 2 (λ n. (n + 1) % 2 ^ 64) (Leaves (step slots 2 1 0 rules.none) me)
  leaves slots id me value has same s kept homes mine small =
      let given = kept.0 in
      let p = kept.1 in
      let st = kept.2 in
      let v = me.0 in
      let f = st.fits id v mine in
      let turn = f.holds has.turn in
      let wait = f.waits p.turn turn.ticket in
      let q : Account A T = record p { turn = p.turn + 1; out = false } in
      let w : View A T O = leaving v in
      let room : (p.turn + 1) % 2 ^ 64 ≡ p.turn + 1 = omega (arith, wait.below, st.counts.left, st.small) in
      let away : s.homes ≡ rules.none ∷ [] = subst (λ (b : Bool). Shelf history origin o p.log b s.homes) turn.out st.shelf in
      let source : origin value ≡ o = some_is (origin value) o (sym has.source ∙ (f.lives has.live).origin) in
      let put : homes_after s.homes me.1 gives ≡ rules.some (Some value) ∷ [] = ap₂ (λ hs c. homes_after hs c gives) away has.held in
      let busy : one_if q.out + one_if v.holds ≡ one_if p.out + one_if w.holds = omega (arith, ap one_if has.turn, ap one_if turn.out) in
      let own : Fits o q id w = record {
        seen = f.seen;
        heard = f.heard;
        lives = λ live. let l = f.lives live in record { origin = l.origin; seat = l.seat; own = l.own };
        idle = λ none. absurd (omega (arith, has.live, none));
        waits = λ t e. some_none t _ (sym e);
        holds = λ on. absurd (true≢false (sym on));
        first = λ live zero. let l = f.first live zero in record {
          later = l.later;
          lists = λ k d lt. let x = l.lists k d lt in record { above = x.above; known = x.known; seat = x.seat; own = x.own };
          apart = l.apart;
        };
      } in (
        w,
        gives,
        tt,
        (
          given,
          q,
          record {
            words = ap (λ ws. set ws 2 ((slice_index ws 2 + 1) % 2 ^ 64)) st.words ∙ ap (λ (n : ℕ). given ∷ p.drawn ∷ n ∷ length p.log ∷ []) room;
            reached = omega (arith, wait.below);
            next = λ on. absurd (true≢false (sym on));
            shelf = record { value = value; home = put; whole = same ∙ turn.held; source = source };
            fits = fits_set o p q s.views id w own (λ j u n at. left_by_another o p id j u n (st.fits j u at) wait.drawer);
            counts = counts_set most p q s.views id v w mine st.counts refl refl busy (omega arith) (omega arith);
            small = st.small;
          },
        ),
        refl,
      )
