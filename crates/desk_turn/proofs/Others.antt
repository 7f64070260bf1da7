-- What a step of one seat leaves to the others.
use Rattle.std.proofs.Common.{◌≡◌, ◌≢◌, ℕ, ◌+◌, ◌<◌, Bool, true, false, [], ◌∷◌, ◌++◌, refl, sym, ap, ◌∙◌, arith, Option, Some, None, true≢false}
use lib.ListN.{get_or}
use Rattle.desk_turn.specs.declared.entry.Entry.{Entry}
use Rattle.desk_turn.specs.declared.view.View.{View}
use Rattle.desk_turn.specs.Rule.{Account, IsIdle, Fits}
use Rattle.desk_turn.proofs.Standing.{changed, changed_else, some_same, some_none, starts_more, calls_same}

pub not_out : (b : Bool) → (b ≡ true → ⊥) → b ≡ false
not_out true never = absurd (never refl)
not_out false never = refl

pub others_number : (seat : ℕ → Option ℕ) (by other id j : ℕ) → seat by ≡ Some id → seat other ≡ Some j → j ≢ id → by ≢ other
others_number seat by other id j mine theirs n e = n (some_same j id (sym theirs ∙ ap seat (sym e) ∙ mine))

pub no_seat : (seat : ℕ → Option ℕ) (by other id : ℕ) → seat by ≡ Some id → seat other ≡ None → by ≢ other
no_seat seat by other id mine none e = some_none id ⊥ (sym mine ∙ ap seat e ∙ none)

module _ {A T O : Type 0} (o : O) (p : Account A T) (id j : ℕ) (u : View A T O) (n : j ≢ id) (f : Fits o p j u) where
  pub drawn_by_another : Fits o (record p { drawn = p.drawn + 1; drawer = changed p.drawer p.drawn id }) j u
  drawn_by_another = record {
    seen = f.seen;
    heard = f.heard;
    lives = λ live. let l = f.lives live in record { origin = l.origin; seat = l.seat; own = l.own };
    idle = f.idle;
    waits = λ t e. let x = f.waits t e in record {
      drawer = changed_else p.drawer p.drawn id t (λ same. omega (arith, same, x.below)) ∙ x.drawer;
      from = x.from;
      below = omega (arith, x.below);
      home = x.home;
    };
    holds = λ on. let h = f.holds on in record { ticket = h.ticket; out = h.out; held = h.held };
    first = λ live zero. let l = f.first live zero in record {
      later = l.later;
      lists = λ k d lt. let x = l.lists k d lt in record { above = x.above; known = x.known; seat = x.seat; own = x.own };
      apart = l.apart;
    };
  }

  -- the one whose turn it is takes the value
  pub taken_by_another : p.drawer p.turn ≡ id → p.out ≡ false → Fits o (record p { out = true }) j u
  taken_by_another drawer home = record {
    seen = f.seen;
    heard = f.heard;
    lives = λ live. let l = f.lives live in record { origin = l.origin; seat = l.seat; own = l.own };
    idle = f.idle;
    waits = λ t e. let x = f.waits t e in record {
      drawer = x.drawer;
      from = x.from;
      below = x.below;
      home = λ now _. absurd (n (sym x.drawer ∙ ap p.drawer now ∙ drawer));
    };
    holds = λ on. absurd (true≢false (sym (f.holds on).out ∙ home));
    first = λ live zero. let l = f.first live zero in record {
      later = l.later;
      lists = λ k d lt. let x = l.lists k d lt in record { above = x.above; known = x.known; seat = x.seat; own = x.own };
      apart = l.apart;
    };
  }

  -- the one that has the turn enters a call
  pub entered_by_another : (by : ℕ) (e : Entry A T) → p.drawer p.turn ≡ id → p.seat e.by ≡ Some id → Fits o (record p { log = p.log ++ e ∷ [] }) j u
  entered_by_another by e drawer seat = record {
    seen = starts_more p.log u.seen e f.seen;
    heard = starts_more p.log u.heard e f.heard;
    lives = λ live. let l = f.lives live in record {
      origin = l.origin;
      seat = l.seat;
      own = calls_same p.log e u.caller (others_number p.seat e.by u.caller id j seat l.seat n) ∙ l.own;
    };
    idle = f.idle;
    waits = λ t h. let x = f.waits t h in record { drawer = x.drawer; from = x.from; below = x.below; home = x.home };
    holds = λ on. absurd (n (sym (f.waits p.turn (f.holds on).ticket).drawer ∙ drawer));
    first = λ live zero. let l = f.first live zero in record {
      later = λ b lt. let x = l.later b lt in (x.0, calls_same p.log e b (no_seat p.seat e.by b id seat x.0) ∙ x.1);
      lists = λ k d lt. let x = l.lists k d lt in record { above = x.above; known = x.known; seat = x.seat; own = calls_same p.log e (get_or u.joined k d).0 (no_seat p.seat e.by (get_or u.joined k d).0 id seat x.seat) ∙ x.own };
      apart = l.apart;
    };
  }

  -- the one that has the turn passes it on
  pub left_by_another : p.drawer p.turn ≡ id → Fits o (record p { turn = p.turn + 1; out = false }) j u
  left_by_another drawer = record {
    seen = f.seen;
    heard = f.heard;
    lives = λ live. let l = f.lives live in record { origin = l.origin; seat = l.seat; own = l.own };
    idle = f.idle;
    waits = λ t e. let x = f.waits t e in
        let other : t ≢ p.turn = λ same. n (sym x.drawer ∙ ap p.drawer same ∙ drawer) in record {
          drawer = x.drawer;
          from = omega (arith, x.from, other);
          below = x.below;
          home = λ now holds. refl;
        };
    holds = λ on. absurd (n (sym (f.waits p.turn (f.holds on).ticket).drawer ∙ drawer));
    first = λ live zero. let l = f.first live zero in record {
      later = l.later;
      lists = λ k d lt. let x = l.lists k d lt in record { above = x.above; known = x.known; seat = x.seat; own = x.own };
      apart = l.apart;
    };
  }

  -- the seat of another number changes
  pub seated_another : (by : ℕ) (some_id : Option ℕ) → (0 < u.parts → u.caller ≢ by) → (0 < u.parts → u.caller ≡ 0 → ⊥) → Fits o (record p { seat = changed p.seat by some_id }) j u
  seated_another by some_id apart not_first = record {
    seen = f.seen;
    heard = f.heard;
    lives = λ live. let l = f.lives live in record {
      origin = l.origin;
      seat = changed_else p.seat by some_id u.caller (apart live) ∙ l.seat;
      own = l.own;
    };
    idle = f.idle;
    waits = λ t e. let x = f.waits t e in record { drawer = x.drawer; from = x.from; below = x.below; home = x.home };
    holds = λ on. let h = f.holds on in record { ticket = h.ticket; out = h.out; held = h.held };
    first = λ live zero. absurd (not_first live zero);
  }

module _ {A T O : Type 0} (o : O) (p : Account A T) (id : ℕ) where
  -- a view with nothing in it
  pub fits_blank : (v : View A T O) → v.parts ≡ 0 → IsIdle v → v.seen ≡ [] → v.heard ≡ [] → v.ticket ≡ None → Fits o p id v
  fits_blank v none idle seen heard ticket = record {
    seen = (p.log, ap (λ l. l ++ p.log) (sym seen));
    heard = (p.log, ap (λ l. l ++ p.log) (sym heard));
    lives = λ live. absurd (omega (arith, live, none));
    idle = λ _. idle;
    waits = λ t e. some_none t _ (sym e ∙ ticket);
    holds = λ on. absurd (true≢false (sym on ∙ idle.holds));
    first = λ live _. absurd (omega (arith, live, none));
  }
