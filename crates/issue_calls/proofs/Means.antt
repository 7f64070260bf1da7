-- The new issue of a create is ready.
use Rattle.std.proofs.Common.{◌≡◌, ◌+◌, ℕ, List, ◌∷◌, false, Option, refl, sym, subst, ◌∙◌}
use Rattle.fields.specs.SetupParts.{names_in}
use Rattle.change_history.specs.declared.change.Change.{Change}
use Rattle.change_history.specs.History.{History}
use Rattle.tracker_calls.specs.declared.reply.Answer.TheVariants as answer
use Rattle.tracker_machine.specs.Machine.{Machine}
use Rattle.tracker_machine.specs.Known.{next_key}
use Rattle.tracker_machine.specs.Tracker.{MayOpen}
use Rattle.tracker_machine.specs.Effect.{IsAllowed, MayName}
use Rattle.tracker_machine.specs.Effect.Effect.{NewIssue}
use Rattle.tracker_machine.specs.Kept.{ops_of}
use Rattle.tracker_keeper.specs.declared.row.RowOp.{RowOp}
use Rattle.tracker_keeper.specs.declared.row.RowOp.TheVariants.{Put}
use Rattle.tracker_machine.specs.Create.{created, opened, filled}
use Rattle.tracker_state.specs.State.{Held}
use Rattle.tracker_state.specs.Plan.{IssueFits, IsReady, id_of}
use Rattle.tracker_state.specs.Rows.{present_op, rank_op}
use Rattle.issue_calls.specs.Rows.{issue_row, external_ops}
use Rattle.rank_strings.specs.Rank.{RankParts}
use Rattle.tracker_ranks.specs.Ranked.{IsNext}
use Rattle.issue_calls.proofs.Ops.{issue_ops_are}
use Rattle.tracker_state.specs.declared.plan.IssuePlan.{IssuePlan}
use Rattle.tracker_state.specs.declared.plan.Plan.TheVariants as plans

-- it may come, it fits, and its operations keep it
pub issue_ready : (m : Machine) (caller : ℕ) (project : List ℕ) (external : Option (List ℕ)) (changes : List Change) (rank : RankParts) (s : Held) (new : IssuePlan) (change : ℕ) (told : List ℕ) (ops : List RowOp)
    → s.machine ≡ m → IsNext m.order m.balance (opened m caller project (filled changes)).no rank → new.rank ≡ rank
    → MayName m.externals external → id_of new.external ≡ external
    → MayOpen m (opened m caller project (filled changes)) → new.issue.history ≡ opened m caller project (filled changes)
    → change ≡ m.change + 1 → told ≡ next_key m project → IssueFits s new
    → ops ≡ present_op m.balance (m.change + 1) m.moment ∷ Put (issue_row (names_in m.setup) (opened m caller project (filled changes)))
    ∷ rank_op (opened m caller project (filled changes)).no rank ∷ external_ops (opened m caller project (filled changes)).no external
    → IsReady (created m caller project external changes rank) s (plans.Issue new) (answer.Create false change told) ops
unfolding IsAllowed
issue_ready m caller project external changes rank s new change told ops same next ranked name called may is number key fits keeps =
    let h : History = opened m caller project (filled changes) in record {
      means = rw (is, ranked, called, number, key) refl;
      keeps = subst (λ (n : Machine). ops ≡ ops_of (NewIssue new.issue.history new.rank (id_of new.external)) n) (sym same)
          (subst (λ (e : Option (List ℕ)). ops ≡ ops_of (NewIssue new.issue.history new.rank e) m) (sym called)
          (subst (λ (r : RankParts). ops ≡ ops_of (NewIssue new.issue.history r external) m) (sym ranked)
          (subst (λ (i : History). ops ≡ ops_of (NewIssue i rank external) m) (sym is) (keeps ∙ issue_ops_are m h rank external))));
      allowed = subst (λ (n : Machine). MayOpen n new.issue.history × IsNext n.order n.balance new.issue.history.no new.rank × MayName n.externals (id_of new.external)) (sym same)
          (subst (λ (e : Option (List ℕ)). MayOpen m new.issue.history × IsNext m.order m.balance new.issue.history.no new.rank × MayName m.externals e) (sym called)
          (subst (λ (r : RankParts). MayOpen m new.issue.history × IsNext m.order m.balance new.issue.history.no r × MayName m.externals external) (sym ranked)
          (subst (λ (i : History). MayOpen m i × IsNext m.order m.balance i.no rank × MayName m.externals external) (sym is) (may, next, name))));
      fits = fits;
    }
