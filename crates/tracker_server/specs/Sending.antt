-- What a sink has of a text that was to be written.
use Rattle.std.specs.Prelude.{◌≡◌, ℕ, List, [], ◌++◌, Option}
use Rattle.std.specs.Io.KnownBytes.{Appends}
use Rattle.tracker_server.specs.declared.send.Sent.{Sent}
use Rattle.tracker_server.specs.declared.send.Sent.TheVariants as sent

-- all of it, or a front where writing failed, or nothing where there was not enough memory to make it
abbrev pub IsSent : Option (List ℕ) → Option (List ℕ) → Sent → List ℕ → Type 0
IsSent old new sent.Whole text = Appends old new text
IsSent old new sent.Failed text =
    (front : List ℕ) × (back : List ℕ) × (text ≡ front ++ back) × Appends old new front
IsSent old new sent.Memory text = Appends old new []
