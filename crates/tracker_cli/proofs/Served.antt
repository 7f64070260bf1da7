-- What serving leaves: the calls that were made, one after another, and the rows that are kept then.
use Rattle.std.proofs.Common.{◌≡◌, ◌≤◌, ℕ, List, [], ◌∷◌, refl, ap, sym, ◌∙◌, subst, arith}
use Rattle.tracker_calls.specs.declared.reply.Refusal.TheVariants as refusal
use Rattle.tracker_calls.specs.declared.cause.Cause.{Cause}
use Rattle.tracker_calls.specs.declared.reply.Reply.{Reply}
use Rattle.tracker_calls.specs.declared.reply.Reply.TheVariants as reply
use Rattle.tracker_core.specs.Desk.{DeskParts, IsOpened, IsOwed}
use Rattle.tracker_core.specs.Left.{IsWithCall, LeavesJustIts, LeavesWithOne}
use Rattle.tracker_core.proofs.Left.{leaves_more, leaves_with_one}
use Rattle.tracker_keeper.specs.Rows.{Rows}
use Rattle.tracker_machine.specs.Kept.{rows_of}
use Rattle.tracker_machine.specs.Tracker.{IsTracker}
use Rattle.tracker_server.specs.Events.{Lead}
use Rattle.std.specs.Prelude.{Option}
use Rattle.tracker_server.specs.Served.{makes_event, AreOfLinks, HasMadeCalls}
use Rattle.tracker_server.specs.declared.event.Event.{Event}
use Rattle.tracker_cli.specs.Serving.{MakesCall, HasServed, IsWithSomeCall, failures_told, failures_among, tells_parts}
use Rattle.tracker_cli.specs.Answering.{RoseBy}
use Rattle.tracker_cli.proofs.Counted.{rose_again, rose_later, rose_none}
use Rattle.tracker_cli.proofs.Outcomes.{Stays, stays_same, stays_on}

stays_event : {P : Type 0} (keeps : P → Rows → Type 0) (tells : P → Type 0) (faults : P → ℕ) (leaves : P → Rows → Rows → Type 0) (old new : DeskParts P) (e : Event)
    → makes_event (MakesCall keeps tells faults leaves) old e new → Stays keeps tells leaves IsWithSomeCall old new
stays_event keeps tells faults leaves old new e makes = record {
  rows = makes.rows;
  told = makes.told;
  left = λ kept.
      leaves_more leaves (IsWithCall _ _) IsWithSomeCall (λ m later is. (_, _, is)) old.keeper old.machine new.keeper new.machine (makes.left kept);
}

-- the rows of the tracker stay kept from call to call
stays_led : {P : Type 0} (keeps : P → Rows → Type 0) (tells : P → Type 0) (faults : P → ℕ) (leaves : P → Rows → Rows → Type 0) (old new : DeskParts P) (events : List Event)
    → Lead (makes_event (MakesCall keeps tells faults leaves)) old events new → Stays keeps tells leaves IsWithSomeCall old new
stays_led keeps tells faults leaves old new [] same = stays_same keeps tells leaves IsWithSomeCall old new same
stays_led keeps tells faults leaves old new (e ∷ events) (next, makes, rest) =
    stays_on keeps tells leaves IsWithSomeCall old next new (stays_event keeps tells faults leaves old next e makes) (stays_led keeps tells faults leaves next new events rest)

-- the keeper's count rises with each refusal that tells of its fault
told_counted : (r : Reply) (a b : ℕ) → IsOwed r a b → RoseBy a b (failures_told r)
told_counted (reply.Ok x) a b owed = omega arith
told_counted (reply.Refused refusal.Keeper) a b owed = owed
told_counted (reply.Refused refusal.Memory) a b owed = omega arith
told_counted (reply.Refused (refusal.Cause c)) a b owed = omega arith

counted_led : {P : Type 0} (keeps : P → Rows → Type 0) (tells : P → Type 0) (faults : P → ℕ) (leaves : P → Rows → Rows → Type 0) (old new : DeskParts P) (events : List Event)
    → Lead (makes_event (MakesCall keeps tells faults leaves)) old events new → RoseBy (faults old.keeper) (faults new.keeper) (failures_among events)
counted_led keeps tells faults leaves old new [] same = rose_none _ _ (ap (λ (d : DeskParts _). faults d.keeper) same)
counted_led keeps tells faults leaves old new (e ∷ events) (next, makes, rest) =
    rose_again (faults old.keeper) (faults next.keeper) (faults new.keeper) (failures_told e.reply) (failures_among events)
    (told_counted e.reply _ _ makes.owed) (counted_led keeps tells faults leaves next new events rest)

-- calls were made from the state of a desk on, and the keeper was handed back
pub served_opened : {P S T C : Type 0} (left : S → Option (List ℕ)) (ahead : C → Option (List ℕ)) (before after : Option (List (S × T × C))) (keeps : P → Rows → Type 0) (tells : P → Type 0) (faults : P → ℕ) (leaves : P → Rows → Rows → Type 0) (setup_text : List ℕ) (old new : P)
    (desk first last : DeskParts P) → ((rows : Rows) → keeps old rows → tells desk.keeper → IsOpened setup_text rows desk.machine)
    → ((rows : Rows) → keeps old rows → tells desk.keeper → keeps desk.keeper (rows_of desk.machine))
    → ((rows : Rows) → keeps old rows → leaves old rows rows → tells desk.keeper → LeavesJustIts leaves desk.keeper desk.machine) → faults old ≤ faults desk.keeper → first ≡ desk
    → HasMadeCalls left ahead tells_parts (MakesCall keeps tells faults leaves) before after first last → new ≡ last.keeper → IsTracker first.machine → IsTracker last.machine
    → HasServed keeps tells faults leaves (AreOfLinks left ahead (MakesCall keeps tells faults leaves) before after) setup_text old new
served_opened left ahead before after keeps tells faults leaves setup_text old new desk first last opened kept just later begun made handed first_tracker last_tracker =
    let one = made first refl in
    let is : new ≡ one.1.keeper = handed ∙ ap (λ (d : DeskParts _). d.keeper) one.2 in
    let stays = stays_led keeps tells faults leaves first one.1 one.0 one.3.led in
    let back : tells new → tells desk.keeper = λ told. subst (λ (d : DeskParts _). tells d.keeper) begun (stays.told (subst tells is told)) in
    record {
      first = first;
      last = one.1;
      events = one.0;
      start = λ rows has told. subst (λ (d : DeskParts _). IsOpened setup_text rows d.machine) (sym begun) (opened rows has (back told));
      made = one.3.led;
      linked = one.3.linked;
      keeper = sym is;
      counted = subst (λ k. RoseBy (faults old) (faults k) (failures_among one.0)) (sym is)
          (rose_later (faults old) (faults first.keeper) (faults one.1.keeper) (failures_among one.0)
          (subst (λ (d : DeskParts _). faults old ≤ faults d.keeper) (sym begun) later) (counted_led keeps tells faults leaves first one.1 one.0 one.3.led));
      rows = λ rows has told.
          subst (λ k. keeps k (rows_of one.1.machine)) (sym is)
          (stays.rows (subst (λ (d : DeskParts _). keeps d.keeper (rows_of d.machine)) (sym begun) (kept rows has (back told))));
      tracker = subst (λ (d : DeskParts _). IsTracker d.machine) one.2 last_tracker;
      left = λ rows has left told.
          let told_first = back told in
          let kept_first = subst (λ (d : DeskParts _). keeps d.keeper (rows_of d.machine)) (sym begun) (kept rows has told_first) in
          let just_first = subst (λ (d : DeskParts _). LeavesJustIts leaves d.keeper d.machine) (sym begun) (just rows has left told_first) in
          subst (λ k. LeavesWithOne leaves IsWithSomeCall k one.1.machine) (sym is)
          (leaves_with_one leaves IsWithSomeCall first.keeper first.machine one.1.keeper one.1.machine (stays.left kept_first) first_tracker just_first);
    }
