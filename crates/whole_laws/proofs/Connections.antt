-- Where nothing outside failed, a connection ends by its bytes, and a server with its links; or memory lacked.
use Rattle.std.proofs.Common.{◌≡◌, ◌≢◌, ◌≤◌, ◌⊎◌, ℕ, List, Option, inl, inr, refl, arith}
use Rattle.std.proofs.lemmas.Bool.{cases_eq}
use Rattle.std.specs.Io.KnownBytes.{Appends}
use Rattle.request_lines.specs.Causes.{Rose}
use Rattle.tracker_keeper.specs.Rows.{Rows}
use Rattle.tracker_core.specs.Desk.{DeskParts, HasBadRow}
use Rattle.tracker_server.specs.Connections.{Refused, Serves, joined, responses}
use Rattle.tracker_server.specs.Exchanges.{Exchange}
use Rattle.tracker_server.specs.declared.event.Event.{Event}
use Rattle.tracker_server.specs.declared.serve.ConnEnd.{ConnEnd}
use Rattle.tracker_server.specs.declared.serve.ConnEnd.TheVariants as conn
use Rattle.tracker_cli.specs.Serving.{HasServed, failures_among}
use Rattle.run_laws.specs.Twice.{Had}
use Rattle.whole_laws.specs.Connections.{EndsByBytes, EndsWithLinks, IsByBytes, IsServed, NeitherFailed}
use Rattle.whole_laws.proofs.Counts.{no_bad, none_failed}

module _ {Teller State : Type 0} (events : Teller → List Event) (tells : Teller → State → Type 0) (steps : State → Event → State → Type 0) (worker : ℕ)
    (input taken_old taken_new ahead later : Option (List ℕ)) (old new : Teller) where
  abbrev Served : ConnEnd → Type 0
  Served = Serves events tells steps worker 16 input taken_old taken_new ahead later old new

  abbrev Is : ConnEnd → List Exchange → Option Refused → Type 0
  Is = IsServed events tells steps worker input ahead later old new

  served_is : (end : ConnEnd) (s : Served end) → Is end s.exchanges s.last
  served_is end s = record {
    closed = s.closed;
    behind = s.behind;
    ends = s.ends;
    closes_by = s.closes_by;
    read = s.read;
    answered = s.answered;
    grew = s.grew;
  }

  whole : (end : ConnEnd) (s : Served end) → IsByBytes end → Appends taken_old taken_new (joined (responses 16 s.exchanges s.last))
      → (end ≡ conn.Memory) ⊎ (IsByBytes end × ((exchanges : List Exchange) × (last : Option Refused) × Is end exchanges last × Appends taken_old taken_new (joined (responses 16 exchanges last))))
  whole end s by written = inr (by, (s.exchanges, s.last, served_is end s, written))

  pub ends_by_bytes : (end : ConnEnd) (reads_before reads_now writes_before writes_now : ℕ) → Served end → (end ≡ conn.ReadFault → Rose reads_before reads_now) → (end ≡ conn.WriteFault → Rose writes_before writes_now)
      → EndsByBytes (NeitherFailed reads_before reads_now writes_before writes_now) end (Is end) taken_old taken_new
  ends_by_bytes conn.Closed reads_before reads_now writes_before writes_now s read written none = whole conn.Closed s tt s.written
  ends_by_bytes conn.Cut reads_before reads_now writes_before writes_now s read written none = whole conn.Cut s tt s.written
  ends_by_bytes (conn.Refused status) reads_before reads_now writes_before writes_now s read written none = whole (conn.Refused status) s tt s.written
  ends_by_bytes conn.ReadFault reads_before reads_now writes_before writes_now s read written none = absurd (none.one (read refl))
  ends_by_bytes conn.WriteFault reads_before reads_now writes_before writes_now s read written none = absurd (none.other (written refl))
  ends_by_bytes conn.Memory reads_before reads_now writes_before writes_now s read written none = inl refl

-- ---- a server

-- of its statuses all but 0 and 6 are ruled out
zero_or_six : (status : ℕ) → (status ≤ 6) × (status ≢ 3) → ¬ (status ≡ 1) → ¬ (status ≡ 2) → ¬ (status ≡ 4) → ¬ (status ≡ 5) → (status ≡ 6) ⊎ (status ≡ 0)
zero_or_six status range one two four five = by (cases_eq status 0) (cases_eq status 6)
  where
    by : (status ≡ 0) ⊎ (status ≡ 0 → ⊥) → (status ≡ 6) ⊎ (status ≡ 6 → ⊥) → (status ≡ 6) ⊎ (status ≡ 0)
    by (inl zero) other = inr zero
    by (inr some) (inl six) = inl six
    by (inr some) (inr other) = let most = range.0 in let three = range.1 in absurd (omega (arith, most, three, one, two, four, five, some, other))

module _ {P : Type 0} (keeps : P → Rows → Type 0) (tells : P → Type 0) (faults : P → ℕ) (leaves : P → Rows → Rows → Type 0) (Linked : DeskParts P → List Event → DeskParts P → Type 0)
    (setup_text : List ℕ) (old_keeper new_keeper : P) (Asked : Type 0) (status links_before links_now : ℕ) where
  abbrev All : Type 0
  All = HasServed keeps tells faults leaves Linked setup_text old_keeper new_keeper

  pub ends_with_links : (status ≡ 1 → Asked → ⊥) → (status ≡ 0 → All) → (status ≡ 2 → Rose links_before links_now) → (status ≡ 4 → Rose (faults old_keeper) (faults new_keeper))
      → (status ≡ 5 → (kind : ℕ) × (number : ℕ) × HasBadRow keeps tells old_keeper new_keeper kind number) → (status ≤ 6) × (status ≢ 3)
      → EndsWithLinks (NeitherFailed links_before links_now (faults old_keeper) (faults new_keeper)) Asked (Had keeps tells old_keeper new_keeper) setup_text status
      (λ refused. (served : All) × (failures_among served.events ≡ refused))
  ends_with_links usage served linked kept bad range rows m asked had opened none =
      by (zero_or_six status range (λ one. usage one asked) (λ two. none.one (linked two)) (λ four. none.other (kept four))
      (λ five. let b = bad five in no_bad setup_text rows m b.0 b.1 opened (b.2 rows had.kept had.told)))
    where
      by : (status ≡ 6) ⊎ (status ≡ 0) → (status ≡ 6) ⊎ ((status ≡ 0) × ((s : All) × (failures_among s.events ≡ 0)))
      by (inl six) = inl six
      by (inr zero) =
          let s : All = served zero in
          inr (zero, (s, none_failed (faults old_keeper) (faults new_keeper) (failures_among s.events) none.other s.counted))
