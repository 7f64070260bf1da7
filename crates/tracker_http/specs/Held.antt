-- What is held of a source's bytes.
use Rattle.std.specs.Prelude.{◌≡◌, ◌<◌, ◌≤◌, ℕ, List, ◌++◌, length, take, Option, Some, None}
use Rattle.std.specs.Io.KnownBytes.{IsAtEnd}
use Rattle.tracker_http.specs.HeadEnd.{head_len}
use Rattle.tracker_http.specs.declared.held.More.{More}
use Rattle.tracker_http.specs.declared.held.More.TheVariants as more
use Rattle.tracker_http.specs.declared.held.HeldHead.{HeldHead}
use Rattle.tracker_http.specs.declared.held.HeldHead.TheVariants as head

-- some bytes came behind those that were held, or all stays as it is
abbrev pub HoldsMore : List ℕ → List ℕ → Option (List ℕ) → More → Type 0
HoldsMore old new left more.Read = (piece : List ℕ) × (new ≡ old ++ piece) × (0 < length piece)
HoldsMore old new left more.Ended = (new ≡ old) × IsAtEnd left
HoldsMore old new left more.Failed = new ≡ old
HoldsMore old new left more.Memory = new ≡ old

-- so many bytes are held, or there are no more
abbrev pub HoldsAll : ℕ → List ℕ → Option (List ℕ) → More → Type 0
HoldsAll wanted held left more.Read = wanted ≤ length held
HoldsAll wanted held left more.Ended = (length held < wanted) × IsAtEnd left
HoldsAll wanted held left more.Failed = Unit {0}
HoldsAll wanted held left more.Memory = Unit {0}

-- what was held stands before what came
abbrev pub Grew : List ℕ → List ℕ → Type 0
Grew old new = (piece : List ℕ) × (new ≡ old ++ piece)

-- a whole head is held, or as many bytes as it may have hold none, or there are no more
abbrev pub HoldsHead : List ℕ → Option (List ℕ) → HeldHead → Type 0
HoldsHead held left (head.Whole len) = head_len (take 8192 held) ≡ Some len
HoldsHead held left head.Most = (head_len (take 8192 held) ≡ None) × (8192 ≤ length held)
HoldsHead held left head.Ended = (head_len held ≡ None) × (length held < 8192) × IsAtEnd left
HoldsHead held left head.Failed = Unit {0}
HoldsHead held left head.Memory = Unit {0}
