-- A log over two files, what it leaves of them, and the database file alone.
use Rattle.std.proofs.Common.{◌≡◌, ℕ, [], length, IsTrue, refl, sym, ap, subst, ◌∙◌, inl, arith}
use Rattle.sqlite_disk.specs.declared.Disk.{Ghosts}
use Rattle.sqlite_disk.specs.declared.Files.{Files}
use Rattle.sqlite_wal.specs.Recovery.{Image, Pages, Recovers, RecoversAs, AddsNothing, pages_after}
use Rattle.sqlite_wal.specs.Files.{outcomes}
use Rattle.sqlite_wal.specs.Reads.{AreClean}
use Rattle.sqlite_wal.specs.declared.log.Log.{Log}
use Rattle.sqlite_wal.specs.Log.{state, files, frames, durable}
use Rattle.sqlite_wal.proofs.RecoveryLemmas.{replays_once}
use Rattle.sqlite_wal.proofs.StateLemmas.{open_from}
use Rattle.sqlite_wal.proofs.FileLemmas.{pages_without_frames}
use Rattle.sqlite_wal.proofs.LogLemmas.{SeenMayStay, durable_frames, sound_of, settled}
use Rattle.file_ends.specs.Ending.{StandsForOne}

-- two files stand for one list of pages at most
once : (size : ℕ) (image : Image) (one other : Pages) → Recovers size image one → Recovers size image other → one ≡ other
once size image one other a b =
    sym a.gives ∙ ap (pages_after size image.log image.db) (replays_once size image.log a.frames b.frames a.replays b.replays) ∙ b.gives

module _ {D : Type 0} {g : Ghosts D} (it : Log D g) where
  -- what a crash leaves of the files is what it leaves of their log, and the other way
  pub of_files : (pair : Files D) (image : Image) → (pair.log, pair.db) ≡ files it → AreClean g pair.log pair.db → outcomes g pair.log pair.db image → (state it).may_leave image
  of_files pair image is clean may = subst (λ p. AreClean g p.0 p.1 × outcomes g p.0 p.1 image) is (clean, may)

  pub to_files : (pair : Files D) (image : Image) → files it ≡ (pair.log, pair.db) → (state it).may_leave image → AreClean g pair.log pair.db × outcomes g pair.log pair.db image
  to_files pair image is may = subst (λ p. AreClean g p.0 p.1 × outcomes g p.0 p.1 image) is may

  -- where the log has no frame, the database file alone stands for what both stand for
  pub alone : SeenMayStay g → IsTrue (state it).is_ready → IsTrue (state it).is_clean → frames it ≡ 0 → (image : Image) → (state it).may_leave image
      → RecoversAs it.page_size image (record image { log = [] })
  alone stays ready clean empty image may pages found =
      let on = open_from (state it) ready clean in
      let none : length (durable it).numbers ≡ 0 = durable_frames it ready ∙ omega (arith, it.marked ready, empty) in
      let kept = (sound_of it on).db_safe image.db may.1.1 in
      let same = once it.page_size image (state it).committed pages ((settled it on stays).durable image may) found in
      subst (Recovers it.page_size (record image { log = [] })) same (record {
        frames = 0;
        replays = inl (inl (omega arith), refl);
        present = kept.present;
        gives = ap (λ d. pages_after it.page_size [] d 0) (kept.all none) ∙ pages_without_frames it.page_size [] (g.seen it.log) (g.seen it.db)
            ∙ ap (pages_after it.page_size (g.seen it.log) (g.seen it.db)) (sym none);
      })

  -- so it stands for both where it does
  pub stands_alone : SeenMayStay g → IsTrue (state it).is_ready → IsTrue (state it).is_clean → frames it ≡ 0 → (left : Image) → (state it).may_leave left
      → StandsForOne it.page_size (state it).may_leave left × StandsForOne it.page_size (state it).may_leave (record left { log = [] })
  stands_alone stays ready clean empty left may = ((left, may, λ pages found. found), (left, may, alone stays ready clean empty left may))

-- what stands for what a call leaves stands for what there was
pub stands_back : (size : ℕ) (old new : Image → Type 0) → AddsNothing size old new → (image : Image) → StandsForOne size new image → StandsForOne size old image
stands_back size old new adds image (late, may, stands) =
    let early = adds late may in
    (early.0, early.1, λ pages found. stands pages (early.2 pages found))

pub stands_sized : (size other : ℕ) (old new : Image → Type 0) → size ≡ other → AddsNothing size old new → (image : Image) → StandsForOne other new image → StandsForOne size old image
stands_sized size other old new same adds image stands =
    stands_back size old new adds image (subst (λ n. StandsForOne n new image) (sym same) stands)

-- a log over files leaves what they leave
pub stands_files : {D : Type 0} {g : Ghosts D} (it : Log D g) (pair : Files D) (size : ℕ) → files it ≡ (pair.log, pair.db) → (state it).page_size ≡ size → (image : Image)
    → StandsForOne (state it).page_size (state it).may_leave image → StandsForOne size (outcomes g pair.log pair.db) image
stands_files it pair size is sized image (before, may, stands) =
    (before, (to_files it pair before is may).1, subst (λ n. RecoversAs n before image) sized stands)

pub clean_is : {D : Type 0} {g : Ghosts D} (it : Log D g) (pair : Files D) → (pair.log, pair.db) ≡ files it → AreClean g pair.log pair.db → IsTrue (state it).is_clean
clean_is {D} {g} it pair is clean = subst (λ p. AreClean g p.0 p.1) is clean

pub is_clean : {D : Type 0} {g : Ghosts D} (it : Log D g) (pair : Files D) → files it ≡ (pair.log, pair.db) → IsTrue (state it).is_clean → AreClean g pair.log pair.db
is_clean {D} {g} it pair is clean = subst (λ p. AreClean g p.0 p.1) is clean
