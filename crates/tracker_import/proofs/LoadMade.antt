-- A load, call by call, and what it comes to.
use Rattle.std.proofs.Common.{◌≡◌, ◌+◌, ◌≤◌, ◌<◌, ℕ, Bool, true, List, [], ◌∷◌, ◌++◌, length, if◌then◌else◌, refl, sym, ap, ◌∙◌, subst, append_assoc, append-nil, arith}
use Rattle.std.proofs.lemmas.List.{length-append}
use Rattle.tracker_calls.specs.declared.call.Call.{Call}
use Rattle.tracker_calls.specs.declared.reply.Reply.{Reply}
use Rattle.tracker_calls.specs.declared.reply.Reply.TheVariants as reply
use Rattle.tracker_calls.specs.declared.cause.Cause.{Cause}
use Rattle.tracker_calls.specs.declared.reply.Refusal.{Refusal}
use Rattle.tracker_calls.specs.declared.reply.Refusal.TheVariants as refusal
use Rattle.tracker_keeper.specs.Rows.{Rows}
use Rattle.tracker_machine.specs.Machine.{Machine}
use Rattle.tracker_machine.specs.Kept.{rows_of}
use Rattle.tracker_machine.specs.Meaning.{reply_to, next_after, IsDue, Performs}
use Rattle.tracker_machine.specs.Meaning.Meaning.{Refuses}
use Rattle.tracker_machine.specs.Step.{meaning, reply_of, next_of, IsStep}
use Rattle.tracker_core.specs.Desk.{DeskParts, IsOwed}
use Rattle.tracker_import.specs.Calls.{RoseBy, HasKept}
use Rattle.tracker_import.specs.Load.{loader, end_of, is_refused, refused_at, refused_in, load_calls, loaded, load_summary, summary_of, outcome_of, HasMade, HasMadeFront, HasMadeLoad, IsMadeInLoad, IsLeftInLoad, MakesInLoad}
use Rattle.tracker_import.specs.declared.load.LoadSummary.{LoadSummary}
use Rattle.tracker_import.specs.declared.load.CallCounts.{CallCounts}
use Rattle.tracker_import.proofs.Calls.{kept_same, kept_on}

-- ---- one call more

end_push : (m : Machine) (cs : List Call) (c : Call) → end_of m (cs ++ c ∷ []) ≡ next_of (end_of m cs) loader c
end_push m [] c = refl
end_push m (x ∷ xs) c = end_push (next_of m loader x) xs c

refused_push : (m : Machine) (cs : List Call) (c : Call) → refused_in m (cs ++ c ∷ []) ≡ refused_in m cs + refused_at (end_of m cs) c
refused_push m [] c = omega arith
refused_push m (x ∷ xs) c = omega (arith, refused_push (next_of m loader x) xs c)

none_before : (n : ℕ) → 0 + n ≡ n
none_before n = omega arith

module _ {P : Type 0} (keeps : P → Rows → Type 0) (tells : P → Type 0) (faults : P → ℕ) where
  -- ---- one call

  module _ (old new : DeskParts P) (c : Call)
      (rows : keeps old.keeper (rows_of old.machine) → keeps new.keeper (rows_of new.machine)) (told : tells new.keeper → tells old.keeper) where
    kept_by : (n : ℕ) → RoseBy (faults old.keeper) (faults new.keeper) n → HasKept keeps tells faults old new n
    kept_by n counted = record { rows = rows; told = told; counted = counted }

    later_none : faults old.keeper ≤ faults new.keeper → HasKept keeps tells faults old new 0
    later_none later = kept_by 0 (omega arith)

    refused : (r : Cause) → meaning old.machine loader c ≡ Refuses r → new.machine ≡ old.machine → faults old.keeper ≤ faults new.keeper
        → IsMadeInLoad keeps tells faults old c true new
    unfolding reply_of next_of
    refused r is same later = record {
      refused_is = ap (λ due. is_refused (reply_to due)) (sym is);
      machine_is = same ∙ ap (λ due. next_after due old.machine) (sym is);
      kept = later_none later;
    }

    unmade : (r : Refusal) → IsDue (meaning old.machine loader c) r → new.machine ≡ old.machine → IsOwed (reply.Refused r) (faults old.keeper) (faults new.keeper)
        → MakesInLoad keeps tells faults old c (outcome_of (reply.Refused r)) new
    unmade refusal.Memory due same owed = record { machine_is = same; kept = later_none owed }
    unmade refusal.Keeper due same owed = record { machine_is = same; kept = kept_by 1 owed }
    unmade (refusal.Cause r) due same owed = refused r due same owed

    performed : (r : Reply) → Performs (meaning old.machine loader c) old.machine r new.machine → IsOwed r (faults old.keeper) (faults new.keeper)
        → MakesInLoad keeps tells faults old c (outcome_of r) new
    unfolding reply_of next_of
    performed (reply.Ok a) does owed = record {
      refused_is = ap is_refused (sym does.0);
      machine_is = does.1;
      kept = later_none owed;
    }
    performed (reply.Refused r) does owed = unmade r does.0 does.1 owed

    -- what a desk does at a call of the loader
    pub made_in_load : (caller : List ℕ) (r : Reply) → caller ≡ loader → IsStep old.machine caller c r new.machine → IsOwed r (faults old.keeper) (faults new.keeper)
        → MakesInLoad keeps tells faults old c (outcome_of r) new
    unfolding IsStep
    made_in_load caller r is does owed = performed r (subst (λ l. Performs (meaning old.machine l c) old.machine r new.machine) is does) owed

  -- ---- the loop

  -- the calls that were handed out were made, and the others are left
  pub record HasComeTo (old : DeskParts P) (all left : List Call) (counts : CallCounts) (now : DeskParts P) : Type 0 where
    pub done : List Call
    pub all_is : all ≡ done ++ left
    pub made : HasMade keeps tells faults old done counts now

  pub none_made : (desk : DeskParts P) (all : List Call) → HasComeTo desk all all (record { calls = 0; refused = 0 }) desk
  none_made desk all = record {
    done = [];
    all_is = refl;
    made = record { calls_are = refl; refused_are = refl; machine_is = refl; kept = kept_same keeps tells faults desk };
  }

  pub one_more_made : (old middle new : DeskParts P) (all left rest : List Call) (counts later : CallCounts) (c : Call) (refused : Bool)
      → HasComeTo old all left counts middle → left ≡ c ∷ rest → IsMadeInLoad keeps tells faults middle c refused new
      → later.calls ≡ counts.calls + 1 → later.refused ≡ counts.refused + (if refused then 1 else 0) → HasComeTo old all rest later new
  one_more_made old middle new all left rest counts later c refused so_far is one calls_are refused_are =
      let made = so_far.made in
      let done = so_far.done in
      let reached : middle.machine ≡ end_of old.machine done = made.machine_is in
      let counted : (if refused then 1 else 0) ≡ refused_at (end_of old.machine done) c =
      ap (λ (b : Bool). if b then 1 else 0) one.refused_is ∙ ap (λ m. refused_at m c) reached in
      record {
        done = done ++ c ∷ [];
        all_is = so_far.all_is ∙ ap (λ l. done ++ l) is ∙ sym (append_assoc done (c ∷ []) rest);
        made = record {
          calls_are = omega (arith, calls_are, made.calls_are, length-append done (c ∷ []));
          refused_are = omega (arith, refused_are, made.refused_are, counted, refused_push old.machine done c);
          machine_is = one.machine_is ∙ ap (λ m. next_of m loader c) reached ∙ sym (end_push old.machine done c);
          kept = kept_on keeps tells faults old middle new 0 0 made.kept one.kept;
        };
      }

  -- a call more finds room in the counts
  pub room_for_one : (old now : DeskParts P) (all left rest : List Call) (counts : CallCounts) (c : Call) → HasComeTo old all left counts now → left ≡ c ∷ rest → length all ≤ 1_000_000
      → counts.calls < 1_000_000
  room_for_one old now all left rest counts c so_far is few =
      omega (arith, few, so_far.made.calls_are, ap length so_far.all_is, length-append so_far.done left, ap length is)

  pub front_made : (old now : DeskParts P) (all left : List Call) (counts : CallCounts) → HasComeTo old all left counts now → HasMadeFront keeps tells faults all old now 0
  front_made old now all left counts so_far = record {
    done = so_far.done;
    rest = left;
    calls_are = so_far.all_is;
    machine_is = so_far.made.machine_is;
    kept = so_far.made.kept;
  }

  -- a call that wasn't made ends it
  pub front_left : (old middle new : DeskParts P) (all left : List Call) (counts : CallCounts) (n : ℕ) → HasComeTo old all left counts middle → IsLeftInLoad keeps tells faults middle new n
      → HasMadeFront keeps tells faults all old new n
  front_left old middle new all left counts n so_far one = record {
    done = so_far.done;
    rest = left;
    calls_are = so_far.all_is;
    machine_is = one.machine_is ∙ so_far.made.machine_is;
    kept = subst (HasKept keeps tells faults old new) (none_before n) (kept_on keeps tells faults old middle new 0 n so_far.made.kept one.kept);
  }

  pub all_made : (old now : DeskParts P) (all left : List Call) (counts : CallCounts) → HasComeTo old all left counts now → left ≡ [] → HasMade keeps tells faults old all counts now
  all_made old now all left counts so_far over =
      subst (λ l. HasMade keeps tells faults old l counts now) (sym (so_far.all_is ∙ ap (λ l. so_far.done ++ l) over ∙ append-nil so_far.done)) so_far.made

  -- ---- the whole

  pub load_made : (n : ℕ) (old new : DeskParts P) (calls : List Call) (counts : CallCounts) (summary : LoadSummary) (m : Machine) → calls ≡ load_calls n
      → HasMade keeps tells faults old calls counts new → m ≡ new.machine → summary ≡ summary_of counts.calls counts.refused m → HasMadeLoad keeps tells faults n old summary new
  unfolding loaded load_summary
  load_made n old new calls counts summary m are made same told =
      let all = subst (λ l. HasMade keeps tells faults old l counts new) are made in
      record {
        summary_is = told ∙ ap (λ k. summary_of k counts.refused m) all.calls_are ∙ ap (λ k. summary_of (length (load_calls n)) k m) all.refused_are
            ∙ ap (λ m. summary_of (length (load_calls n)) (refused_in old.machine (load_calls n)) m) (same ∙ all.machine_is);
        machine_is = all.machine_is;
        kept = all.kept;
      }

  -- all calls were made, and memory lacked for the summary
  pub made_unsummed : (n : ℕ) (old new : DeskParts P) (calls : List Call) (counts : CallCounts) → calls ≡ load_calls n → HasMade keeps tells faults old calls counts new
      → HasMadeFront keeps tells faults (load_calls n) old new 0
  made_unsummed n old new calls counts are made = record {
    done = calls;
    rest = [];
    calls_are = sym are ∙ sym (append-nil calls);
    machine_is = made.machine_is;
    kept = made.kept;
  }

  -- no call was made
  pub load_unbegun : (n : ℕ) (desk : DeskParts P) → HasMadeFront keeps tells faults (load_calls n) desk desk 0
  load_unbegun n desk = record { done = []; rest = load_calls n; calls_are = refl; machine_is = refl; kept = kept_same keeps tells faults desk }
