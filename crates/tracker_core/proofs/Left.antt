-- What a crash may leave, from call to call.
use Rattle.std.proofs.Common.{◌≡◌, ◌<◌, ℕ, List, [], ◌∷◌, length, inl, inr, Result, Ok, Err, IfOk, OnOk, OnErr, refl, sym, ap, ◌∙◌, subst, arith}
use Rattle.std.specs.Prelude.{◌⊎◌}
use Rattle.std.specs.Option.{option_map_or}
use Rattle.field_values.specs.Parts.{Parts}
use Rattle.sprints.specs.declared.sprint.Sprint.{Sprint}
use Rattle.tracker_calls.specs.declared.reply.Answer.{Answer}
use Rattle.tracker_calls.specs.declared.call.Call.{Call}
use Rattle.tracker_keeper.specs.declared.row.RowOp.{RowOp}
use Rattle.tracker_keeper.specs.declared.row.Row.{Row}
use Rattle.tracker_keeper.specs.declared.part.Format.TheVariants.{First}
use Rattle.tracker_keeper.specs.Rows.{Rows, no_rows, with_ops, IsListing}
use Rattle.tracker_machine.specs.Machine.{Machine}
use Rattle.tracker_machine.specs.Tracker.{IsTracker}
use Rattle.tracker_machine.specs.Effect.{Effect, applied, IsAllowed}
use Rattle.tracker_machine.specs.Effect.Effect.{NewMoment, NewIssue, NewGroup, NewRank, NewBalance, NewRanks, NewSprint, NewState, NewFilter, NoFilter, NewBoard, NoBoard, NewMembers}
use Rattle.tracker_machine.specs.Kept.{rows_of, ops_of, parts_of, drops_of, opening_ops, migrating_ops, put_parts, sprint_part}
use Rattle.tracker_machine.specs.Meaning.{Meaning, next_after}
use Rattle.tracker_machine.specs.Meaning.Meaning.{Makes}
use Rattle.tracker_machine.specs.Step.{meaning, next_of}
use Rattle.tracker_machine.proofs.SprintRules.{sprint_there}
use Rattle.tracker_machine.proofs.Tracker.{tracker_applied}
use Rattle.tracker_rows.specs.Listed.{InOrder}
use Rattle.tracker_rows.specs.Loading.{Loads}
use Rattle.tracker_rows.proofs.Loaded.{migrated_rows_are_theirs}
use Rattle.tracker_core.specs.Desk.{HasNoRow, IsNew, IsLoaded}
use Rattle.tracker_core.specs.Left.{IsWithCall, IsLeft, LeavesOn, LeavesJustIts, LeavesBegun, LeavesOpened, LeavesCreated, LeavesWithOne}
use Rattle.tracker_core.proofs.Desks.{rows_after}
use Rattle.tracker_core.proofs.Kept.{without_rows, migrated_keeps}

-- ---- which tracker may be left

is_more : (One More : Machine → Machine → Type 0) → ((m later : Machine) → One m later → More m later) → (old new before later : Machine) → IsLeft One old new before later
    → IsLeft More old new before later
is_more One More f old new before later (inl is) = inl is
is_more One More f old new before later (inr (inl both)) = inr (inl both)
is_more One More f old new before later (inr (inr more)) = inr (inr (f new later more))

is_then : (More : Machine → Machine → Type 0) (old mid new before middle later : Machine) → IsLeft More old mid before middle → IsLeft More mid new middle later
    → IsLeft More old new before later
is_then More old mid new before middle later first (inl is) = inl is
is_then More old mid new before middle later (inl one) (inr (inl both)) = inl (both.1 ∙ one ∙ sym both.0)
is_then More old mid new before middle later (inr (inl was)) (inr (inl both)) = inr (inl (both.0 ∙ was.0, both.1 ∙ was.1))
is_then More old mid new before middle later (inr (inr more)) (inr (inl both)) =
    inr (inr (subst (λ m. More m later) (sym both.0) (subst (More mid) (sym both.1) more)))
is_then More old mid new before middle later first (inr (inr more)) = inr (inr more)

-- what holds whatever came holds of a fault
pub any_err : {S E A : Type 0} (r : Result S E) → A → OnErr r A
any_err (Ok s) a = tt
any_err (Err e) a = a

module _ {P : Type 0} (leaves : P → Rows → Rows → Type 0) where
  pub leaves_same : (More : Machine → Machine → Type 0) (k : P) (m : Machine) → LeavesOn leaves More k m k m
  leaves_same More k m before tracker left = (before, tracker, inr (inl (refl, refl)), left)

  pub leaves_more : (One More : Machine → Machine → Type 0) → ((m later : Machine) → One m later → More m later) → (k : P) (old : Machine) (l : P) (new : Machine)
      → LeavesOn leaves One k old l new → LeavesOn leaves More k old l new
  leaves_more One More f k old l new on before tracker left =
      let it = on before tracker left in (it.0, it.1, is_more One More f old new before it.0 it.2, it.3)

  pub leaves_then : (More : Machine → Machine → Type 0) (k : P) (old : Machine) (l : P) (mid : Machine) (n : P) (new : Machine) → LeavesOn leaves More k old l mid
      → LeavesOn leaves More l mid n new → LeavesOn leaves More k old n new
  leaves_then More k old l mid n new one other before tracker left =
      let first = one before tracker left in
      let second = other first.0 first.1 first.3 in (second.0, second.1, is_then More old mid new before first.0 second.0 first.2 second.2, second.3)

  with_one : (More : Machine → Machine → Type 0) (start m later : Machine) → IsLeft More start m start later → (later ≡ m) ⊎ More m later
  with_one More start m later (inl is) = inl is
  with_one More start m later (inr (inl both)) = inl (both.1 ∙ sym both.0)
  with_one More start m later (inr (inr more)) = inr more

  -- where just the tracker was left at first
  pub leaves_with_one : (More : Machine → Machine → Type 0) (k : P) (start : Machine) (l : P) (m : Machine) → LeavesOn leaves More k start l m → IsTracker start
      → leaves k (rows_of start) (rows_of start) → LeavesWithOne leaves More l m
  leaves_with_one More k start l m on tracker left =
      let it = on start tracker left in (it.0, it.1, with_one More start m it.0 it.2, it.3)

  -- ---- a commit

  -- one that is acknowledged
  pub kept_leaves : (ops : List RowOp) (effect : Effect) (m next : Machine) → ops ≡ ops_of effect m → IsAllowed effect m → IsTracker m → next ≡ applied effect m
      → (More : Machine → Machine → Type 0) (k l : P) → leaves l (with_ops ops (rows_of m)) (with_ops ops (rows_of m)) → LeavesOn leaves More k m l next
  kept_leaves ops effect m next is may tracker same More k l left before other was = (
    next,
    subst IsTracker (sym same) (tracker_applied effect m may tracker),
    inl refl,
    subst (λ rows. leaves l rows rows) (rows_after ops effect m next is may tracker same) left,
  )

  -- one that is refused
  pub refused_leaves : (ops : List RowOp) (effect : Effect) (m : Machine) → ops ≡ ops_of effect m → IsAllowed effect m → IsTracker m → (l : P) (before : Machine) → IsTracker before
      → leaves l (rows_of m) (rows_of before) ⊎ leaves l (rows_of m) (with_ops ops (rows_of m))
      → (later : Machine) × IsTracker later × IsLeft (λ n then. (n ≡ m) × (then ≡ applied effect m)) m m before later × leaves l (rows_of m) (rows_of later)
  refused_leaves ops effect m is may tracker l before other (inl left) = (before, other, inr (inl (refl, refl)), left)
  refused_leaves ops effect m is may tracker l before other (inr left) = (
    applied effect m,
    tracker_applied effect m may tracker,
    inr (inr (refl, refl)),
    subst (leaves l (rows_of m)) (rows_after ops effect m (applied effect m) is may tracker refl) left,
  )

  -- what a call means is what was put
  pub call_leaves : (caller : List ℕ) (c : Call) (m : Machine) (a : Answer) (effect : Effect) (k l : P) (new : Machine) → meaning m caller c ≡ Makes a effect
      → LeavesOn leaves (λ n then. (n ≡ m) × (then ≡ applied effect m)) k m l new → LeavesOn leaves (IsWithCall caller c) k m l new
  unfolding next_of
  call_leaves caller c m a effect k l new meant on =
      leaves_more (λ n then. (n ≡ m) × (then ≡ applied effect m)) (IsWithCall caller c)
      (λ n then is. is.1 ∙ ap (λ (d : Meaning). next_after d m) (sym meant) ∙ ap (λ (n : Machine). next_after (meaning n caller c) n) (sym is.0)) k m l new on

  pub made_leaves : (keeps : P → Rows → Type 0) (caller : List ℕ) (c : Call) (old mid : Machine) (a : Answer) (effect : Effect) (k l : P) (new : Machine) → mid ≡ old
      → meaning old caller c ≡ Makes a effect → (keeps k (rows_of mid) → LeavesOn leaves (λ n then. (n ≡ mid) × (then ≡ applied effect mid)) k mid l new) → keeps k (rows_of old)
      → LeavesOn leaves (IsWithCall caller c) k old l new
  made_leaves keeps caller c old mid a effect k l new same meant on kept =
      call_leaves caller c old a effect k l new meant
      (subst (λ (m : Machine). keeps k (rows_of m) → LeavesOn leaves (λ n then. (n ≡ m) × (then ≡ applied effect m)) k m l new) same on kept)

  -- nothing was kept
  pub same_leaves : (More : Machine → Machine → Type 0) (k : P) (old new : Machine) → new ≡ old → LeavesOn leaves More k old k new
  same_leaves More k old new same = subst (λ (n : Machine). LeavesOn leaves More k old k n) (sym same) (leaves_same More k old)

  -- ---- a beginning

  -- of a new tracker, where there is no row
  pub created_leaves : (m : Machine) (k : P) (rows : Rows) → HasNoRow rows → leaves k no_rows no_rows ⊎ leaves k no_rows (rows_of m) → LeavesCreated leaves m k rows
  created_leaves m k rows none (inl left) = inl (subst (λ (r : Rows). leaves k r r) (sym (without_rows rows none)) left)
  created_leaves m k rows none (inr left) = inr (m, (none, refl), subst (λ (r : Rows). leaves k r (rows_of m)) (sym (without_rows rows none)) left)

  -- of one of the built-in setup
  pub new_just : {S E : Type 0} (machine : S → Machine) (r : Result S E) (m : Machine) (k : P) → IfOk r (λ s. machine s ≡ m) → OnOk r (LeavesJustIts leaves k m)
      → IfOk r (λ s. LeavesJustIts leaves k (machine s))
  new_just machine (Ok s) m k same left = subst (LeavesJustIts leaves k) (sym same) left
  new_just machine (Err e) m k same left = tt

  pub new_leaves : {S E : Type 0} (r : Result S E) (text : List ℕ) (m : Machine) (k : P) → IsNew text m → OnErr r (leaves k no_rows no_rows ⊎ leaves k no_rows (rows_of m))
      → OnErr r (LeavesBegun leaves (IsNew text) k no_rows)
  new_leaves (Ok s) text m k new left = tt
  new_leaves (Err e) text m k new (inl left) = inl left
  new_leaves (Err e) text m k new (inr left) = inr (m, new, left)

  -- of one that rows of the first format make, once they are migrated
  pub migrated_just : {S E : Type 0} (machine : S → Machine) (r : Result S E) (k : P) (m : Machine) (kept : Rows) (list : List Row) → IsListing kept list → (InOrder list → Loads First list m)
      → IfOk r (λ s. machine s ≡ m) → OnOk r (leaves k (with_ops (migrating_ops m) kept) (with_ops (migrating_ops m) kept)) → IfOk r (λ s. LeavesJustIts leaves k (machine s))
  migrated_just machine r k m kept list is loads same left = migrated_keeps machine r (λ rows. leaves k rows rows) m kept list is loads same left

  pub migrated_either : {S E : Type 0} (r : Result S E) (k : P) (m : Machine) (kept : Rows) (list : List Row) → IsListing kept list → Loads First list m
      → OnErr r (leaves k kept kept ⊎ leaves k kept (with_ops (migrating_ops m) kept)) → OnErr r (LeavesBegun leaves (IsLoaded kept) k kept)
  migrated_either (Ok s) k m kept list is loads left = tt
  migrated_either (Err e) k m kept list is loads (inl left) = inl left
  migrated_either (Err e) k m kept list is loads (inr left) =
      inr (m, (list, is, (First, loads)), subst (leaves k kept) (migrated_rows_are_theirs list kept m loads is) left)

  -- where a new tracker was to begin, and there was no row
  pub new_opened : {S E T : Type 0} (r : Result S E) (text : List ℕ) (k : P) (rows : Rows) → (T → HasNoRow rows) → (HasNoRow rows → OnErr r (LeavesBegun leaves (IsNew text) k no_rows))
      → OnErr r (T → LeavesOpened leaves text k rows)
  new_opened (Ok s) text k rows none left = tt
  new_opened (Err e) text k rows none left = λ told. opened (none told) (left (none told))
    where
      opened : HasNoRow rows → LeavesBegun leaves (IsNew text) k no_rows → LeavesOpened leaves text k rows
      opened is (inl left) = inl (subst (λ (r : Rows). leaves k r r) (sym (without_rows rows is)) left)
      opened is (inr (m, new, left)) = inr (m, inr (is, new), subst (λ (r : Rows). leaves k r (rows_of m)) (sym (without_rows rows is)) left)

  -- where one was to be loaded
  pub loaded_opened : {S E T L : Type 0} (r : Result S E) (text : List ℕ) (k : P) (rows : Rows) → (T → L) → (L → OnErr r (LeavesBegun leaves (IsLoaded rows) k rows))
      → OnErr r (T → LeavesOpened leaves text k rows)
  loaded_opened (Ok s) text k rows listing left = tt
  loaded_opened (Err e) text k rows listing left = λ told. opened (left (listing told))
    where
      opened : LeavesBegun leaves (IsLoaded rows) k rows → LeavesOpened leaves text k rows
      opened (inl left) = inl left
      opened (inr (m, loaded, left)) = inr (m, inl loaded, left)

-- ---- something is put

abbrev HasSome : List RowOp → Type 0
HasSome ops = 0 < length ops

some_of : (e : Effect) (m : Machine) → IsAllowed e m → HasSome (ops_of e m)
unfolding ops_of parts_of drops_of IsAllowed
some_of (NewMoment to) m may = omega arith
some_of (NewIssue h rank external) m may = omega arith
some_of (NewGroup place g) m may = omega arith
some_of (NewRank issue rank) m may = omega arith
some_of (NewBalance balance) m may = omega arith
some_of (NewRanks moves) m may = omega arith
some_of (NewSprint name) m may = omega arith
some_of (NewState sprint state) m may =
    let found = sprint_there m.sprints sprint.0 may.there in
    subst (λ o. HasSome (put_parts m.setup (option_map_or (λ (x : Sprint). sprint_part sprint (record x { state = state }) ∷ []) o []))) (sym found.2) (omega arith)
some_of (NewFilter f) m may = omega arith
some_of (NoFilter filter_no) m may = omega arith
some_of (NewBoard b) m may = omega arith
some_of (NoBoard board_no) m may = omega arith
some_of (NewMembers group members) m may = omega arith

pub some_ops : (ops : List RowOp) (effect : Effect) (m : Machine) → ops ≡ ops_of effect m → IsAllowed effect m → 0 < length ops
some_ops ops effect m is may = subst HasSome (sym is) (some_of effect m may)

pub some_opening : (ops : List RowOp) (m : Machine) → ops ≡ opening_ops m → 0 < length ops
unfolding opening_ops
some_opening ops m is = subst HasSome (sym is) (omega arith)

pub some_migrating : (ops : List RowOp) (m : Machine) → ops ≡ migrating_ops m → 0 < length ops
unfolding migrating_ops
some_migrating ops m is = subst HasSome (sym is) (omega arith)
