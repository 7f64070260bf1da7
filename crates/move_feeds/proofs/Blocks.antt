-- Blocks of changes, and what is put into them and taken out.
use Rattle.std.proofs.Common.{◌≡◌, ℕ, zero, suc, ◌+◌, ◌-◌, ◌<◌, ◌≤◌, min, Bool, true, false, nat_lt, nat_le, filter, if◌then◌else◌, List, [], ◌∷◌, ◌++◌, get_or, length, set, take, drop, refl, sym, ◌∙◌, ap, arith, append-nil, append_assoc, length-append}
use Rattle.std.proofs.lemmas.Bool.Decides.{nat_tests}
use Rattle.std.proofs.lemmas.List.{drop-append-le, drop_all, length-drop, length-take, length-take-le, take_all, take_min, take_more, take-append-le}
use Rattle.move_feeds.specs.declared.moves.Change.{Change}
use Rattle.move_feeds.specs.declared.moves.Move.{Move}
use Rattle.move_feeds.specs.Block.{Queued, first_len, goes_whole, items_of, room_of}
use Rattle.move_feeds.specs.Changes.{numbered}
use Rattle.move_feeds.specs.Feed.{Feed, told}

-- ---- a block behind the others

pub items_of_push : (bs : List Queued) (b : Queued) → b.items ≡ [] → items_of (bs ++ b ∷ []) ≡ items_of bs
items_of_push [] b none = ap (λ l. l ++ []) none
items_of_push (c ∷ bs) b none = ap (λ l. c.items ++ l) (items_of_push bs b none)

pub room_of_push : (bs : List Queued) (b : Queued) → room_of (bs ++ b ∷ []) ≡ b.room
room_of_push [] b = refl
room_of_push (c ∷ []) b = refl
room_of_push (c ∷ d ∷ bs) b = room_of_push (d ∷ bs) b

-- ---- the last block

pub room_of_last : (bs : List Queued) (d : Queued) (k : ℕ) → length bs ≡ suc k → room_of bs ≡ (get_or bs k d).room
room_of_last [] d k e = absurd (omega (arith, e))
room_of_last (x ∷ []) d zero e = refl
room_of_last (x ∷ []) d (suc k) e = absurd (omega (arith, e))
room_of_last (x ∷ y ∷ bs) d zero e = absurd (omega (arith, e))
room_of_last (x ∷ y ∷ bs) d (suc k) e = room_of_last (y ∷ bs) d k (omega (arith, e))

pub room_some : (bs : List Queued) → 0 < room_of bs → 0 < length bs
room_some [] lt = absurd (omega (arith, lt))
room_some (x ∷ bs) lt = omega arith

-- what is read at the end of the list
pub room_of_read : (bs : List Queued) (b : Queued) → 0 < length bs → b ≡ get_or bs (length bs - 1) b → b.room ≡ room_of bs
room_of_read bs b lt is =
    let e : length bs ≡ suc (length bs - 1) = omega arith in
    ap (λ (q : Queued). q.room) is ∙ sym (room_of_last bs b (length bs - 1) e)

pub items_of_last : (bs : List Queued) (b d : Queued) (c : Change) (k : ℕ) → length bs ≡ suc k → b.items ≡ (get_or bs k d).items ++ c ∷ []
    → items_of (set bs k b) ≡ items_of bs ++ c ∷ []
items_of_last [] b d c k e is = absurd (omega (arith, e))
items_of_last (x ∷ []) b d c zero e is = ap (λ l. l ++ []) is ∙ (append-nil (x.items ++ c ∷ []) ∙ ap (λ l. l ++ c ∷ []) (sym (append-nil x.items)))
items_of_last (x ∷ []) b d c (suc k) e is = absurd (omega (arith, e))
items_of_last (x ∷ y ∷ bs) b d c zero e is = absurd (omega (arith, e))
items_of_last (x ∷ y ∷ bs) b d c (suc k) e is =
    ap (λ l. x.items ++ l) (items_of_last (y ∷ bs) b d c k (omega (arith, e)) is) ∙ sym (append_assoc x.items (items_of (y ∷ bs)) (c ∷ []))

pub room_of_set : (bs : List Queued) (b : Queued) (k : ℕ) → length bs ≡ suc k → room_of (set bs k b) ≡ b.room
room_of_set [] b k e = absurd (omega (arith, e))
room_of_set (x ∷ []) b zero e = refl
room_of_set (x ∷ []) b (suc k) e = absurd (omega (arith, e))
room_of_set (x ∷ y ∷ bs) b zero e = absurd (omega (arith, e))
room_of_set (x ∷ y ∷ bs) b (suc zero) e = room_of_set (y ∷ bs) b zero (omega (arith, e))
room_of_set (x ∷ y ∷ bs) b (suc (suc k)) e = room_of_set (y ∷ bs) b (suc k) (omega (arith, e))

-- ---- what is taken from the front

drop_long : (l m : List Change) (n : ℕ) → length l ≤ n → drop n (l ++ m) ≡ drop (n - length l) m
drop_long [] m n le = ap (λ k. drop k m) (omega arith)
drop_long (x ∷ l) m zero le = absurd (omega (arith, le))
drop_long (x ∷ l) m (suc n) le = drop_long l m n (omega (arith, le)) ∙ ap (λ k. drop k m) (omega arith)

pub drop_block : (b : Queued) (bs : List Queued) (n : ℕ) → length b.items ≤ n → drop n (items_of (b ∷ bs)) ≡ drop (n - length b.items) (items_of bs)
drop_block b bs n le = drop_long b.items (items_of bs) n le

pub drop_in_block : (b c : Queued) (bs : List Queued) (n : ℕ) → n ≤ length b.items → c.items ≡ drop n b.items → items_of (c ∷ bs) ≡ drop n (items_of (b ∷ bs))
drop_in_block b c bs n le is = ap (λ l. l ++ items_of bs) is ∙ sym (drop-append-le n b.items (items_of bs) le)

-- the first block goes whole, and so many are left to go
pub record FirstGoes (bs : List Queued) (n : ℕ) : Type 0 where
  pub some : 0 < length bs
  pub within : first_len bs ≤ n
  pub long : length (items_of bs) ≡ first_len bs + length (items_of (drop 1 bs))
  pub same : drop (n - first_len bs) (items_of (drop 1 bs)) ≡ drop n (items_of bs)

pub first_goes : (bs : List Queued) (n : ℕ) → goes_whole bs n ≡ true → FirstGoes bs n
first_goes [] n goes = absurd (cc goes)
first_goes (c ∷ bs) n goes = record {
  some = omega arith;
  within = le;
  long = length-append c.items (items_of bs);
  same = sym (drop_long c.items (items_of bs) n le);
}
  where
    le : length c.items ≤ n
    le = grind (arith, nat_tests, goes)

-- no block goes whole, and some are left to go: the first block is longer
pub record FirstStays (bs : List Queued) (n : ℕ) : Type 0 where
  pub some : 0 < length bs
  pub within : (b : Queued) → b ≡ get_or bs 0 b → n ≤ length b.items
  pub same : (b c : Queued) → b ≡ get_or bs 0 b → c.items ≡ drop n b.items → items_of (set bs 0 c) ≡ drop n (items_of bs)

pub first_stays : (bs : List Queued) (n : ℕ) → goes_whole bs n ≡ false → n ≤ length (items_of bs) → 0 < n → FirstStays bs n
first_stays [] n stays le some = absurd (omega (arith, le, some))
first_stays (x ∷ bs) n stays le some = record {
  some = omega arith;
  within = λ b is. omega (arith, less, ap (λ (q : Queued). length q.items) is);
  same = λ b c is cut. ap (λ l. l ++ items_of bs) (cut ∙ ap (λ (q : Queued). drop n q.items) is) ∙ sym (drop-append-le n x.items (items_of bs) (omega (arith, less)));
}
  where
    less : n < length x.items
    less = grind (arith, nat_tests, stays)

-- ---- what is told of them

pub numbered_append : (n : ℕ) (cs ds : List Change) → numbered n (cs ++ ds) ≡ numbered n cs ++ numbered (n + length cs) ds
numbered_append n [] ds = ap (λ m. numbered m ds) (omega arith)
numbered_append n (c ∷ cs) ds =
    ap (λ l. record { number = n; issue = c.issue; entered = c.entered } ∷ l) (numbered_append (n + 1) cs ds ∙ ap (λ m. numbered (n + 1) cs ++ numbered m ds) (omega arith))

pub numbered_more : (n : ℕ) (cs : List Change) (c : Change) → numbered n (cs ++ c ∷ []) ≡ numbered n cs ++ record { number = n + length cs; issue = c.issue; entered = c.entered } ∷ []
numbered_more n cs c = numbered_append n cs (c ∷ [])

pub take_append_long : (l m : List Change) (n : ℕ) → length l ≤ n → take n (l ++ m) ≡ l ++ take (n - length l) m
take_append_long [] m n le = ap (λ k. take k m) (omega arith)
take_append_long (x ∷ l) m zero le = absurd (omega (arith, le))
take_append_long (x ∷ l) m (suc n) le = ap (λ k. x ∷ k) (take_append_long l m n (omega (arith, le)) ∙ ap (λ j. l ++ take j m) (omega arith))

pub take_append_short : (l m : List Change) (n : ℕ) → n ≤ length l → take n (l ++ m) ≡ take n l
take_append_short l m zero le = refl
take_append_short [] m (suc n) le = absurd (omega (arith, le))
take_append_short (x ∷ l) m (suc n) le = ap (λ k. x ∷ k) (take_append_short l m n (omega (arith, le)))

-- one more
pub numbered_step : (n : ℕ) (cs : List Change) (k : ℕ) (d : Change) → k < length cs
    → numbered n (take (k + 1) cs) ≡ numbered n (take k cs) ++ record { number = n + k; issue = (get_or cs k d).issue; entered = (get_or cs k d).entered } ∷ []
numbered_step n cs k d lt =
    ap (numbered n) (take_more cs k d lt)
    ∙ (numbered_more n (take k cs) (get_or cs k d)
    ∙ ap (λ (j : ℕ). numbered n (take k cs) ++ record { number = n + j; issue = (get_or cs k d).issue; entered = (get_or cs k d).entered } ∷ []) (length-take-le k cs (omega (arith, lt))))

-- what is left behind the first ones, and the first ones of that, over two lists
pub drop_split : (l m : List Change) (n : ℕ) → drop n (l ++ m) ≡ drop (min n (length l)) l ++ drop (n - min n (length l)) m
drop_split l m n = by (nat_le n (length l)) refl
  where
    by : (b : Bool) → nat_le n (length l) ≡ b → drop n (l ++ m) ≡ drop (min n (length l)) l ++ drop (n - min n (length l)) m
    by true is =
        let le : n ≤ length l = grind (arith, nat_tests, is) in
        let e : min n (length l) ≡ n = omega (arith, le) in
        let z : n - n ≡ 0 = omega arith in
        drop-append-le n l m le ∙ sym (ap (λ (k : ℕ). drop k l ++ drop (n - k) m) e ∙ ap (λ (k : ℕ). drop n l ++ drop k m) z)
    by false is =
        let le : length l ≤ n = grind (arith, nat_tests, is) in
        let e : min n (length l) ≡ length l = omega (arith, le) in
        let none : drop (length l) l ≡ [] = drop_all (length l) l (omega arith) in
        drop_long l m n le ∙ sym (ap (λ (k : ℕ). drop k l ++ drop (n - k) m) e ∙ ap (λ k. k ++ drop (n - length l) m) none)

pub take_split : (l m : List Change) (n : ℕ) → take n (l ++ m) ≡ take n l ++ take (n - min n (length l)) m
take_split l m n = by (nat_le n (length l)) refl
  where
    by : (b : Bool) → nat_le n (length l) ≡ b → take n (l ++ m) ≡ take n l ++ take (n - min n (length l)) m
    by true is =
        let le : n ≤ length l = grind (arith, nat_tests, is) in
        let z : n - min n (length l) ≡ 0 = omega (arith, le) in
        take-append-le n l m le ∙ sym (ap (λ (k : ℕ). take n l ++ take k m) z ∙ append-nil (take n l))
    by false is =
        let le : length l ≤ n = grind (arith, nat_tests, is) in
        let e : min n (length l) ≡ length l = omega (arith, le) in
        take_append_long l m n le ∙ sym (ap (λ (k : ℕ). take n l ++ take (n - k) m) e ∙ ap (λ k. k ++ take (n - length l) m) (take_all n l le))

-- one block is told, and then what is left of the others
pub part_step : (l m : List Change) (skip left number passed put : ℕ) → passed ≡ min skip (length l) → put ≡ min left (length (drop passed l))
    → numbered number (take left (drop skip (l ++ m))) ≡ numbered number (take left (drop passed l)) ++ numbered (number + put) (take (left - put) (drop (skip - passed) m))
part_step l m skip left number passed put is_passed is_put =
    let behind : List Change = drop passed l in
    let rest : List Change = drop (skip - passed) m in
    ap (λ k. numbered number (take left k)) (drop_split l m skip ∙ ap (λ (p : ℕ). drop p l ++ drop (skip - p) m) (sym is_passed))
    ∙ (ap (numbered number) (take_split behind rest left ∙ ap (λ (p : ℕ). take left behind ++ take (left - p) rest) (sym is_put))
    ∙ (numbered_append number (take left behind) (take (left - put) rest)
    ∙ ap (λ (k : ℕ). numbered number (take left behind) ++ numbered (number + k) (take (left - put) rest)) (length-take left behind ∙ sym is_put)))

-- ---- the moves with a greater number

abbrev above : ℕ → List Move → List Move
above from ms = filter (λ m. nat_lt from m.number) ms

-- where all have one
all_above : (from n : ℕ) (cs : List Change) → from < n → above from (numbered n cs) ≡ numbered n cs
all_above from n [] lt = refl
all_above from n (c ∷ cs) lt =
    let test : nat_lt from n ≡ true = grind (arith, nat_tests, lt) in
    let head : Move = record { number = n; issue = c.issue; entered = c.entered } in
    ap (λ t. if t then head ∷ above from (numbered (n + 1) cs) else above from (numbered (n + 1) cs)) test ∙ ap (λ l. head ∷ l) (all_above from (n + 1) cs (omega (arith, lt)))

-- they are those behind so many
pub told_behind : (n from k : ℕ) (cs : List Change) → from + 1 ≡ n + k → above from (numbered n cs) ≡ numbered (n + k) (drop k cs)
told_behind n from zero cs e = all_above from n cs (omega (arith, e)) ∙ ap (λ m. numbered m cs) (omega arith)
told_behind n from (suc k) [] e = refl
told_behind n from (suc k) (c ∷ cs) e =
    let test : nat_lt from n ≡ false = grind (arith, nat_tests, e) in
    let head : Move = record { number = n; issue = c.issue; entered = c.entered } in
    ap (λ t. if t then head ∷ above from (numbered (n + 1) cs) else above from (numbered (n + 1) cs)) test
    ∙ (told_behind (n + 1) from k cs (omega (arith, e)) ∙ ap (λ m. numbered m (drop k cs)) (omega arith))

above_behind : (from acked : ℕ) (ws : List Change) → above from (numbered (acked + 1) ws) ≡ numbered (acked + 1 + (from - acked)) (drop (from - acked) ws)
above_behind from acked ws = by (nat_le acked from) refl
  where
    by : (b : Bool) → nat_le acked from ≡ b → above from (numbered (acked + 1) ws) ≡ numbered (acked + 1 + (from - acked)) (drop (from - acked) ws)
    by true is =
        let le : acked ≤ from = grind (arith, nat_tests, is) in
        told_behind (acked + 1) from (from - acked) ws (omega (arith, le))
    by false is =
        let lt : from < acked = grind (arith, nat_tests, is) in
        let none : from - acked ≡ 0 = omega (arith, lt) in
        let first : acked + 1 + 0 ≡ acked + 1 = omega arith in
        all_above from (acked + 1) ws (omega (arith, lt))
        ∙ sym (ap (λ (k : ℕ). numbered (acked + 1 + k) (drop k ws)) none ∙ ap (λ (m : ℕ). numbered m ws) first)

take_numbered : (count n : ℕ) (cs : List Change) → take count (numbered n cs) ≡ numbered n (take count cs)
take_numbered zero n cs = refl
take_numbered (suc count) n [] = refl
take_numbered (suc count) n (c ∷ cs) = ap (λ l. record { number = n; issue = c.issue; entered = c.entered } ∷ l) (take_numbered count (n + 1) cs)

-- the moves that wait and have a greater number are those behind so many
told_passed : (from count : ℕ) (f : Feed) → told from count f ≡ numbered (f.acked + (from - f.acked) + 1) (take count (drop (from - f.acked) f.waiting))
told_passed from count f =
    let rest : List Change = drop (from - f.acked) f.waiting in
    let first : f.acked + 1 + (from - f.acked) ≡ f.acked + (from - f.acked) + 1 = omega arith in
    ap (take count) (above_behind from f.acked f.waiting)
    ∙ (take_numbered count (f.acked + 1 + (from - f.acked)) rest ∙ ap (λ (m : ℕ). numbered m (take count rest)) first)

pub told_some : (f : Feed) (from count passed some : ℕ) (old new : List Move) → old ≡ [] → passed ≡ from - f.acked → some ≡ min count (length f.waiting - passed)
    → new ≡ old ++ numbered (f.acked + passed + 1) (take some (drop passed f.waiting)) → new ≡ told from count f
told_some f from count passed some old new none is_passed is_some put =
    let rest : List Change = drop passed f.waiting in
    let long : length f.waiting - passed ≡ length rest = sym (length-drop passed f.waiting) in
    put ∙ (ap (λ l. l ++ numbered (f.acked + passed + 1) (take some rest)) none
    ∙ (ap (λ (k : ℕ). numbered (f.acked + passed + 1) (take k rest)) (is_some ∙ ap (min count) long)
    ∙ (ap (numbered (f.acked + passed + 1)) (take_min count rest)
    ∙ (ap (λ (k : ℕ). numbered (f.acked + k + 1) (take count (drop k f.waiting))) is_passed ∙ sym (told_passed from count f)))))

pub told_none : (f : Feed) (from count passed : ℕ) (now : List Move) → now ≡ [] → passed ≡ from - f.acked → length f.waiting ≤ passed → now ≡ told from count f
told_none f from count passed now none is_passed le =
    let gone : drop passed f.waiting ≡ [] = drop_all passed f.waiting le in
    none ∙ sym (told_passed from count f ∙ (ap (λ (k : ℕ). numbered (f.acked + k + 1) (take count (drop k f.waiting))) (sym is_passed)
    ∙ (ap (λ l. numbered (f.acked + passed + 1) (take count l)) gone ∙ ap (numbered (f.acked + passed + 1)) (no_change count))))
  where
    no_change : (n : ℕ) → ◌≡◌ {A = List Change} (take n []) []
    no_change zero = refl
    no_change (suc n) = refl

-- ---- what the model shows

abbrev pub queued : List Change → ℕ → Queued
queued items room = record { items = items; room = room }

pub queued_same : (i j : List Change) (r : ℕ) → i ≡ j → queued i r ≡ queued j r
queued_same i j r same = ap (λ l. queued l r) same
