use Rattle.std.proofs.Common.{◌≡◌, ◌≤◌, ◌<◌, ◌+◌, ℕ, List, Option, Some, None, IfSome, string_bytes, length, ◌∙◌, not, ◌∷◌, ap, sym, subst, refl, arith}
use Rattle.field_values.specs.declared.numbers.ProjectNo.{ProjectNo}
use Rattle.tracker_limits.specs.Limits.{most_text_bytes}
use Rattle.change_history.specs.History.{History}
use Rattle.workflow.specs.Same.{is_empty}
use Rattle.fields.specs.SetupParts.{names_in}
use Rattle.fields.specs.Naming.{name_at}
use Rattle.tracker_machine.specs.Machine.{Machine}
use Rattle.tracker_machine.specs.Known.{project_keys, next_key}
use Rattle.tracker_machine.specs.Checks.{bytes_kept, history_bytes}
use Rattle.tracker_machine.specs.Create.{opened, filled}
use Rattle.tracker_machine.specs.Tracker.{MayOpen}
use Rattle.tracker_keeper.specs.declared.row.RowOp.TheVariants.{Put}
use Rattle.rank_strings.specs.Rank.{RankParts}
use Rattle.tracker_ranks.specs.Ranked.{IsNext}
use Rattle.tracker_state.specs.State.{Held}
use Rattle.tracker_state.specs.Plan.{ExternalFits, id_of}
use Rattle.tracker_state.specs.Rows.{present_op, rank_op}
use Rattle.tracker_state.specs.declared.plan.NewExternal.{NewExternal}
use Rattle.wanted_values.proofs.Fitting.{fits_filter}
use Rattle.wanted_values.proofs.InSprints.{filtered_of_sprints}
use Rattle.issue_calls.specs.Rows.{issue_row, external_ops}
use Rattle.issue_calls.proofs.Means.{issue_ready}
use Rattle.issue_calls.proofs.new_issue.open.Goals as goal

external_fits : (s : Held) (o : Option NewExternal) → IfSome o (λ e. string_bytes e.text ≡ e.id) → IfSome o (λ e. 1 ≤ s.externals_room) → IfSome o (ExternalFits s)
external_fits s None same room = tt
external_fits s (Some e) same room = record { same = same; room = room }

pub returns-clause-prepared : goal.returns-clause-prepared
returns-clause-prepared c =
    let m = c.args.state.now.machine in
    let new = c.in_ok-new.new in
    let s = c.reserve.new.state in
    let values = c.args.values in
    let is_new = c.in_ok-new.ensures in
    let room = c.in_ok-reserve.ensures in
    let rows = c.in_ok-rows.rows.items in
    let project = name_at (project_keys m.setup) values.project.0 in
    let changes = values.changes.items in
    let h : History = opened m c.args.caller.0 project (filled changes) in
    let kept : c.take_row_room-room.new.self.machine ≡ m = ap (λ (h : Held). h.machine) c.take_row_room-room.ensures in
    let same : s.machine ≡ m = c.reserve.ensures.machine ∙ kept in
    let light : bytes_kept m.histories + history_bytes new.issue.history ≤ most_text_bytes = omega (arith, is_new.light, is_new.bytes, c.requires.may.light) in
    let may : MayOpen m h = record {
      few = c.requires.may.few;
      no = refl;
      key = (values.project.0, c.requires.may.there, refl);
      change = refl;
      at = refl;
      author = c.requires.author;
      opened = c.requires.may.named;
      listed = is_new.listed;
      fitting = fits_filter (names_in m.setup) (λ d. not (is_empty d.to)) changes c.requires.may.fitting;
      sprints = filtered_of_sprints (length m.sprints) (λ d. not (is_empty d.to)) changes c.requires.may.sprints;
      entries = refl;
      light = subst (λ (i : History). bytes_kept m.histories + history_bytes i ≤ most_text_bytes) is_new.history light;
    } in
    let key = ap (λ (i : History). i.key) is_new.history in
    let next : IsNext m.order m.balance h.no c.args.rank = record {
      number = omega (arith, c.is_tracker.ensures.each);
      given = c.requires.given;
    } in
    issue_ready m c.args.caller.0 project _ changes c.args.rank s new _ _ rows same next is_new.rank c.requires.name is_new.external may is_new.history
    (c.next_change.ensures ∙ ap (λ (n : Machine). n.change + 1) same)
    (c.in_ok-told.ensures ∙ c.as_str.ensures.value ∙ is_new.key)
    (record {
      room = room.room;
      ranks_room = room.ranks;
      cells_room = room.cells;
      key = is_new.key ∙ sym key;
      there = subst (λ (p : ProjectNo). p.0 < length s.machine.setup.project) (sym is_new.project)
          (subst (λ (n : Machine). values.project.0 < length n.setup.project) (sym same) c.requires.may.there);
      next = subst (λ (p : ProjectNo). new.issue.history.key ≡ next_key s.machine (name_at (project_keys s.machine.setup) p.0)) (sym is_new.project)
          (subst (λ (n : Machine). new.issue.history.key ≡ next_key n (name_at (project_keys n.setup) values.project.0)) (sym same) key);
      external = external_fits s new.external is_new.text room.externals;
      bytes = is_new.bytes;
      rows_room = room.rows;
    })
    (subst (λ (e : Option (List ℕ)). rows ≡ present_op m.balance (m.change + 1) m.moment ∷ Put (issue_row (names_in m.setup) h) ∷ rank_op h.no c.args.rank ∷ external_ops h.no e) is_new.external
    (subst (λ r. rows ≡ present_op m.balance (m.change + 1) m.moment ∷ Put r ∷ rank_op h.no c.args.rank ∷ external_ops h.no (id_of new.external)) is_new.row
    (subst (λ (r : RankParts). rows ≡ present_op m.balance (m.change + 1) m.moment ∷ Put c.in_ok-new.row ∷ rank_op h.no r ∷ external_ops h.no (id_of new.external)) is_new.rank
    (subst (λ (i : History). rows ≡ present_op m.balance (m.change + 1) m.moment ∷ Put c.in_ok-new.row ∷ rank_op i.no new.rank ∷ external_ops i.no (id_of new.external)) is_new.history
    (subst (λ (n : Machine). rows ≡ present_op n.balance (n.change + 1) n.moment ∷ Put c.in_ok-new.row ∷ rank_op new.issue.history.no new.rank ∷ external_ops new.issue.history.no (id_of new.external)) kept
    c.in_ok-rows.ensures)))))
