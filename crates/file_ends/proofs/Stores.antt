-- What a store leaves behind an end.
use Rattle.std.proofs.Common.{◌≡◌, ℕ, IsTrue, refl, subst}
use Rattle.std.proofs.Math.Logic.{∥∥₁_elim, ∥∥₁_map}
use Rattle.sqlite_disk.specs.declared.Disk.{Ghosts}
use Rattle.sqlite_trees.specs.Tree.{Trees}
use Rattle.sqlite_wal.specs.Recovery.{Image}
use Rattle.sqlite_wal.specs.PageSize.{IsPageSize}
use Rattle.sqlite_pool.specs.Stored.{stored_size, Recovers, RecoversAs}
use Rattle.sqlite_pool.proofs.ResealLemmas.{adopts_of}
use Rattle.sqlite_pool.proofs.StateLemmas.{size_is_allowed}
use Rattle.sqlite_store.specs.declared.store.FileStore.{FileStore}
use Rattle.sqlite_store.specs.Listing.{IsOurs}
use Rattle.sqlite_store.specs.FileStore.{state, view, schema_in, reading, recovers}
use Rattle.sqlite.specs.Held.{AreDatabases}
use Rattle.sqlite.specs.Opening.{HoldsAt}
use Rattle.sqlite.specs.Files.{HoldsDatabase}

-- whatever a crash leaves holds a database of those that the store allows, in pages of its size
pub holds_at : {D : Type 0} {g : Ghosts D} (it : FileStore D g) → IsTrue (view it).is_numbered → AreDatabases (recovers it)
    → (left : Image) → (state it).may_leave left → ∥ ((db : Trees) × recovers it db × HoldsAt (state it).page_size left db) ∥₁
holds_at it numbered sound left may = ∥∥₁_elim it.safe squash₁ (λ all.
    let found = all left may in
    let db = reading it found.0 in
    let allowed : recovers it db = (left, found.0, may, ∣ found.1 ∣₁, refl) in
    let schema = sound db allowed in
    ∥∥₁_map found.2 (λ ours. let r : (x : Trees) × recovers it x × HoldsAt (state it).page_size left x = (
      db,
      allowed,
      record {
        pages = found.0;
        wanted = schema_in it found.0;
        schema = schema.0;
        found = found.1;
        reads = refl;
        sound = schema.1;
        ours = subst (λ b. IsOurs (state it).page_size b (schema_in it found.0) found.0) numbered ours;
      },
    ) in r))

-- files that stand for what others stand for hold their database
pub holds_as : (size : ℕ) (one other : Image) (db : Trees) → RecoversAs size one other → HoldsAt size one db → HoldsAt size other db
holds_as size one other db stands held =
    let raw = stands held.found.stored held.found.found in
    record {
      pages = held.pages;
      wanted = held.wanted;
      schema = held.schema;
      found = record {
        stored = held.found.stored;
        found = raw;
        whole = held.found.whole;
        sealed = held.found.sealed;
        shows = held.found.shows;
        present = raw.present;
      };
      reads = held.reads;
      sound = held.sound;
      ours = held.ours;
    }

pub holds : (size : ℕ) (image : Image) (db : Trees) → IsPageSize (stored_size size) → HoldsAt size image db → HoldsDatabase image db
holds size image db allowed held = (
  size,
  allowed,
  record {
    pages = held.pages;
    wanted = held.wanted;
    schema = held.schema;
    found = adopts_of size image held.pages held.found;
    reads = held.reads;
    sound = held.sound;
    ours = held.ours;
  },
)

module _ {D : Type 0} {g : Ghosts D} (it : FileStore D g) (numbered : IsTrue (view it).is_numbered) (sound : AreDatabases (recovers it)) where
  -- what stands for what a crash may leave of the store holds a database of those that were there early
  pub stands_hold : (early : Trees → Type 0) → ((db : Trees) → recovers it db → early db) → (before image : Image) → (state it).may_leave before
      → RecoversAs (state it).page_size before image → ∥ ((db : Trees) × early db × HoldsDatabase image db) ∥₁
  stands_hold early back before image may stands = ∥∥₁_elim (size_is_allowed it.pool) squash₁ (λ allowed.
      ∥∥₁_map (holds_at it numbered sound before may) (λ db. let r : (x : Trees) × early x × HoldsDatabase image x = (
        db.0,
        back db.0 db.1,
        holds (state it).page_size image db.0 allowed (holds_as (state it).page_size before image db.0 stands db.2),
      ) in r))

  pub left_holds : (early : Trees → Type 0) → ((db : Trees) → recovers it db → early db) → (image : Image) → (state it).may_leave image
      → ∥ ((db : Trees) × early db × HoldsDatabase image db) ∥₁
  left_holds early back image may = stands_hold early back image image may (λ pages found. found)

  -- what follows from the database that they hold, in pages of the store's size, follows
  pub with_left : {X : Type 0} (image : Image) → (state it).may_leave image
      → ((db : Trees) (held : HoldsDatabase image db) → held.0 ≡ (state it).page_size → ∥ X ∥₁) → ∥ X ∥₁
  unfolding holds
  with_left image may follows = ∥∥₁_elim (size_is_allowed it.pool) squash₁ (λ allowed.
      ∥∥₁_elim (holds_at it numbered sound image may) squash₁ (λ db. follows db.0 (holds (state it).page_size image db.0 allowed db.2) refl))
