-- The laws of any number of pieces, alone and with a token between two.
use Rattle.std.proofs.Common.{◌≡◌, ℕ, zero, suc, Bool, true, false, ◌||◌, List, [], ◌∷◌, ◌++◌, length, ◌≤◌, Some, None, Result, Ok, Err, refl, sym, append_assoc, arith}
use Rattle.std.specs.Prelude.{if◌then◌else◌}
use Rattle.std.proofs.lemmas.List.{append-nil}
use Rattle.grammar_model.specs.Sets.{also, Apart}
use Rattle.grammar_model.specs.Syntax.{Syntax, begins, ◌then◌, mapped, ◌▸◌, ◌◂◌, many, many_at, WrittenMany, with_front, parted, or_none, listed, ◌>>=◌}
use Rattle.grammar_model.specs.Reads.{SameFirst, Took, Stopped, Reads, Opens, IsSyntax}
use Rattle.grammar_model.proofs.Firsts.{same_after, begins_again, stands_left, stands_right, full_begins, opens_full, follows, fewer, none_left, begun_left, none_begin, or_only}
use Rattle.grammar_model.proofs.Laws.{token_laws, then_laws, mapped_laws, maybe_laws, reread}

-- What is read with room for n pieces, whatever the room is, if it is enough

record TookMany {W K X : Type 0} {kind : W → K} (s : Syntax kind X) (ts : List W) (xs : List X) (rest : List W) : Type 0 where
  front : List W
  whole : ts ≡ front ++ rest
  written : WrittenMany s xs front
  decided : (n : ℕ) (other : List W) → length (front ++ other) ≤ n → SameFirst rest other → many_at kind s.starts s.read n (front ++ other) ≡ Ok (xs, other)

record StoppedMany {W K X : Type 0} {kind : W → K} (s : Syntax kind X) (ts rest : List W) : Type 0 where
  front : List W
  whole : ts ≡ front ++ rest
  piece : List X
  more : List W
  goes_on : WrittenMany s piece (front ++ more)
  decided : (n : ℕ) (other : List W) → length (front ++ other) ≤ n → SameFirst rest other → many_at kind s.starts s.read n (front ++ other) ≡ Err other

abbrev ReadsMany : {W K X : Type 0} {kind : W → K} → Syntax kind X → List W → Result (List X × List W) (List W) → Type 0
ReadsMany s ts (Ok x) = TookMany s ts x.0 x.1
ReadsMany s ts (Err rest) = StoppedMany s ts rest

-- no piece where the next token begins none
none_read : {W K X : Type 0} {kind : W → K} (s : Syntax kind X) (ts : List W) → begins kind s.starts ts ≡ false → (n : ℕ)
    → many_at kind s.starts s.read n ts ≡ Ok ([], ts)
none_read s ts e zero = refl
none_read s ts e (suc n) = rw e refl

none_took : {W K X : Type 0} {kind : W → K} (s : Syntax kind X) (ts : List W) → begins kind s.starts ts ≡ false → TookMany s ts [] ts
none_took {kind = kind} s ts e = record {
  front = [];
  whole = refl;
  written = refl;
  decided = λ n other room same. none_read s other (begins_again kind s.starts ts [] ts other false e refl same) n;
}

-- one piece, and what comes behind it
one_again : {W K X : Type 0} {kind : W → K} (s : Syntax kind X) → IsSyntax s → s.empty ≡ false → (x : X) (front back : List W) → s.Written x front
    → s.read (front ++ back) ≡ Ok (x, back) → (n : ℕ) → length (front ++ back) ≤ n → (r : Result (List X × List W) (List W))
    → ((m : ℕ) → length back ≤ m → many_at kind s.starts s.read m back ≡ r)
    → many_at kind s.starts s.read n (front ++ back) ≡ (r >>= λ xs. Ok (x ∷ xs.0, xs.1))
one_again {kind = kind} s laws full x front back w is zero room r next = absurd (none_left kind s.empty s.starts front back full (laws.first x front w) room)
one_again {kind = kind} s laws full x front back w is (suc n) room r next =
    rw (full_begins kind s.empty s.starts front back full (laws.first x front w))
    (rw is (rw (next n (fewer kind s.empty s.starts front back n full (laws.first x front w) room)) refl))

more_again : {W K X : Type 0} {kind : W → K} (s : Syntax kind X) → IsSyntax s → s.empty ≡ false → (ts : List W) (x : X × List W) (ha : Took s ts x.0 x.1)
    → (front rest : List W) → x.1 ≡ front ++ rest → (n : ℕ) (other : List W) → length ((ha.front ++ front) ++ other) ≤ n → SameFirst rest other
    → (r : Result (List X × List W) (List W)) → ((m : ℕ) → length (front ++ other) ≤ m → many_at kind s.starts s.read m (front ++ other) ≡ r)
    → many_at kind s.starts s.read n ((ha.front ++ front) ++ other) ≡ (r >>= λ xs. Ok (x.0 ∷ xs.0, xs.1))
more_again s laws full ts x ha front rest whole n other room same r next = rw append_assoc
    (one_again s laws full x.0 ha.front (front ++ other) ha.written (ha.decided (front ++ other) (rw whole (same_after front rest other same))) n
    (rw append_assoc at room) r next)

more_read : {W K X : Type 0} {kind : W → K} (s : Syntax kind X) → IsSyntax s → s.empty ≡ false → (ts : List W) (x : X × List W) → Took s ts x.0 x.1
    → (r : Result (List X × List W) (List W)) → ReadsMany s x.1 r → ReadsMany s ts (r >>= λ xs. Ok (x.0 ∷ xs.0, xs.1))
more_read s laws full ts x ha (Ok xs) hb = record {
  front = ha.front ++ hb.front;
  whole = rw append_assoc (rw (← hb.whole) ha.whole);
  written = (ha.front, hb.front, ha.written, hb.written, refl);
  decided = λ n other room same. more_again s laws full ts x ha hb.front xs.1 hb.whole n other room same (Ok (xs.0, other)) (λ m enough. hb.decided m other enough same);
}
more_read s laws full ts x ha (Err rest) hb = record {
  front = ha.front ++ hb.front;
  whole = rw append_assoc (rw (← hb.whole) ha.whole);
  piece = x.0 ∷ hb.piece;
  more = hb.more;
  goes_on = (ha.front, hb.front ++ hb.more, ha.written, hb.goes_on, append_assoc ha.front hb.front hb.more);
  decided = λ n other room same. more_again s laws full ts x ha hb.front rest hb.whole n other room same (Err other) (λ m enough. hb.decided m other enough same);
}

stopped_read : {W K X : Type 0} {kind : W → K} (s : Syntax kind X) → s.empty ≡ false → (ts rest : List W) → begins kind s.starts ts ≡ true
    → Stopped s ts rest → StoppedMany s ts rest
stopped_read {W = W} {kind = kind} s full ts rest begun h = record {
  front = h.front;
  whole = h.whole;
  piece = h.piece ∷ [];
  more = h.more;
  goes_on = (h.front ++ h.more, [], h.goes_on, refl, sym (append-nil (h.front ++ h.more)));
  decided = again;
}
  where
    again : (n : ℕ) (other : List W) → length (h.front ++ other) ≤ n → SameFirst rest other → many_at kind s.starts s.read n (h.front ++ other) ≡ Err other
    again zero other room same = absurd (begun_left kind s.starts (h.front ++ other) (begins_again kind s.starts ts h.front rest other true begun h.whole same) room)
    again (suc n) other room same =
        rw (begins_again kind s.starts ts h.front rest other true begun h.whole same) (rw (h.decided other same) refl)

many_begun : {W K X : Type 0} {kind : W → K} (s : Syntax kind X) → IsSyntax s → s.empty ≡ false → (ts : List W) → begins kind s.starts ts ≡ true
    → (r : Result (X × List W) (List W)) → Reads s ts r → (next : List W → Result (List X × List W) (List W))
    → ((x : X) (rest : List W) → Took s ts x rest → ReadsMany s rest (next rest))
    → ReadsMany s ts (r >>= λ x. next x.1 >>= λ xs. Ok (x.0 ∷ xs.0, xs.1))
many_begun s laws full ts begun (Ok x) h next after = more_read s laws full ts x h (next x.1) (after x.0 x.1 h)
many_begun s laws full ts begun (Err rest) h next after = stopped_read s full ts rest begun h

many_case : {W K X : Type 0} {kind : W → K} (s : Syntax kind X) → IsSyntax s → s.empty ≡ false → (ts : List W) (b : Bool) → begins kind s.starts ts ≡ b
    → (next : List W → Result (List X × List W) (List W)) → ((x : X) (rest : List W) → Took s ts x rest → ReadsMany s rest (next rest))
    → ReadsMany s ts (if b then (s.read ts >>= λ x. next x.1 >>= λ xs. Ok (x.0 ∷ xs.0, xs.1)) else Ok ([], ts))
many_case s laws full ts true e next after = many_begun s laws full ts e (s.read ts) (laws.reads ts) next after
many_case s laws full ts false e next after = none_took s ts e

took_fewer : {W K X : Type 0} {kind : W → K} (s : Syntax kind X) → IsSyntax s → s.empty ≡ false → (ts : List W) (x : X) (rest : List W) → Took s ts x rest
    → (n : ℕ) → length ts ≤ suc n → length rest ≤ n
took_fewer {kind = kind} s laws full ts x rest h n room = fewer kind s.empty s.starts h.front rest n full (laws.first x h.front h.written) (rw h.whole at room)

many_reads : {W K X : Type 0} {kind : W → K} (s : Syntax kind X) → IsSyntax s → s.empty ≡ false → (n : ℕ) (ts : List W) → length ts ≤ n
    → ReadsMany s ts (many_at kind s.starts s.read n ts)
many_reads {kind = kind} s laws full zero ts room = none_took s ts (none_begin kind s.starts ts room)
many_reads {kind = kind} s laws full (suc n) ts room = many_case s laws full ts (begins kind s.starts ts) refl (many_at kind s.starts s.read n)
    (λ x rest h. many_reads s laws full n rest (took_fewer s laws full ts x rest h n room))

many_first : {W K X : Type 0} {kind : W → K} (s : Syntax kind X) → IsSyntax s → s.empty ≡ false → (xs : List X) (front : List W) → WrittenMany s xs front → Opens kind true s.starts front
many_first s laws full [] front w = rw w refl
many_first {kind = kind} s laws full (x ∷ xs) front w = rw w.4 (opens_full kind s.empty true s.starts w.0 w.1 full (laws.first x w.0 w.2))

many_again : {W K X : Type 0} {kind : W → K} (s : Syntax kind X) → IsSyntax s → s.empty ≡ false → Apart s.starts s.goes → (xs : List X) (front rest : List W)
    → WrittenMany s xs front → begins kind (λ k. s.starts k || s.goes k) rest ≡ false → (n : ℕ) → length (front ++ rest) ≤ n
    → many_at kind s.starts s.read n (front ++ rest) ≡ Ok (xs, rest)
many_again {kind = kind} s laws full apart [] front rest w stands n room = rw w (none_read s rest (stands_left kind s.starts s.goes rest stands) n)
many_again {kind = kind} s laws full apart (x ∷ xs) front rest w stands n room = rw w.4 (rw append_assoc
    (one_again s laws full x w.0 (w.1 ++ rest) w.2
    (laws.again x w.0 (w.1 ++ rest) w.2
    (follows kind true s.starts s.goes w.1 rest apart (many_first s laws full xs w.1 w.3) (λ always. stands_right kind s.starts s.goes rest stands)))
    n (rw append_assoc at (rw w.4 at room)) (Ok (xs, rest))
    (λ m enough. many_again s laws full apart xs w.1 rest w.3 stands m enough)))

from_took : {W K X : Type 0} {kind : W → K} (s : Syntax kind X) (ts : List W) (r : Result (List X × List W) (List W)) → ReadsMany s ts r → Reads (many s) ts r
from_took s ts (Ok x) h = record {
  front = h.front;
  whole = h.whole;
  written = h.written;
  decided = λ other same. h.decided (length (h.front ++ other)) other (omega arith) same;
}
from_took s ts (Err rest) h = record {
  front = h.front;
  whole = h.whole;
  piece = h.piece;
  more = h.more;
  goes_on = h.goes_on;
  decided = λ other same. h.decided (length (h.front ++ other)) other (omega arith) same;
}

pub many_laws : {W K X : Type 0} {kind : W → K} {s : Syntax kind X} → IsSyntax s → s.empty ≡ false → Apart s.starts s.goes → IsSyntax (many s)
many_laws {kind = kind} {s = s} laws full apart = record {
  reads = λ ts. from_took s ts (many_at kind s.starts s.read (length ts) ts) (many_reads s laws full (length ts) ts (omega arith));
  again = λ xs front rest w stands. many_again s laws full apart xs front rest w stands (length (front ++ rest)) (omega arith);
  first = many_first s laws full;
  one = [];
  one_text = [];
  one_written = refl;
}

-- A token before or behind

pub before_laws : {W K X : Type 0} {kind : W → K} {s : Syntax kind X} (p : K → Bool) (one : W) → p (kind one) ≡ true → IsSyntax s → IsSyntax (p ▸ s)
before_laws p one is laws = mapped_laws (λ x. x.1) (then_laws (token_laws p one is) laws (λ k h goes. absurd cc))

pub behind_laws : {W K X : Type 0} {kind : W → K} {s : Syntax kind X} (p : K → Bool) (one : W) → p (kind one) ≡ true → IsSyntax s → Apart p s.goes → IsSyntax (s ◂ p)
behind_laws p one is laws apart = mapped_laws (λ x. x.0) (then_laws laws (token_laws p one is) apart)

-- A token between two

goes_behind : {K : Type 0} (p goes : K → Bool) (empty : Bool) → Apart p goes → Apart p (λ k. also empty (goes k) false)
goes_behind p goes true apart = λ k h is. apart k h (or_only (goes k) is)
goes_behind p goes false apart = apart

parts : {W K X : Type 0} {kind : W → K} (p : K → Bool) (s : Syntax kind X) → Syntax kind (List X)
parts p s = mapped (λ x. x.0 ∷ x.1) (s then many (p ▸ s))

parts_laws : {W K X : Type 0} {kind : W → K} {s : Syntax kind X} (p : K → Bool) (one : W) → p (kind one) ≡ true → IsSyntax s → Apart p s.goes → IsSyntax (parts p s)
unfolding parts
parts_laws {s = s} p one is laws apart = mapped_laws (λ x. x.0 ∷ x.1)
    (then_laws laws (many_laws (before_laws p one is laws) refl (goes_behind p s.goes s.empty apart)) apart)

abbrev pairs : {W X Y : Type 0} → X → Result (Y × List W) (List W) → Result ((X × Y) × List W) (List W)
pairs x r = r >>= λ y. Ok ((x, y.0), y.1)

abbrev maps : {W X Y : Type 0} → (X → Y) → Result (X × List W) (List W) → Result (Y × List W) (List W)
maps f r = r >>= λ x. Ok (f x.0, x.1)

-- the first, before those behind it
first_before : {W X : Type 0} (x : X) (r : Result (List X × List W) (List W))
    → with_front (x ∷ []) r ≡ maps (λ (y : X × List X). y.0 ∷ y.1) (pairs x r)
first_before x (Ok xs) = refl
first_before x (Err rest) = refl

parts_read : {W X : Type 0} (others : List W → Result (List X × List W) (List W)) (r : Result (X × List W) (List W))
    → (r >>= λ x. with_front (x.0 ∷ []) (others x.1)) ≡ maps (λ (y : X × List X). y.0 ∷ y.1) (r >>= λ x. pairs x.0 (others x.1))
parts_read others (Ok x) = first_before x.0 (others x.1)
parts_read others (Err rest) = refl

pub parted_laws : {W K X : Type 0} {kind : W → K} {s : Syntax kind X} (p : K → Bool) (one : W) → p (kind one) ≡ true → IsSyntax s → Apart p s.goes → IsSyntax (parted p s)
unfolding parts
parted_laws {s = s} p one is laws apart = reread (parted p s).read (parts_laws p one is laws apart) (λ ts. parts_read (many (p ▸ s)).read (s.read ts))

-- a piece that is not empty begins a list of them
parted_begins : {W K : Type 0} (kind : W → K) (empty : Bool) (p starts : K → Bool) (ts : List W) → empty ≡ false
    → begins kind starts ts ≡ begins kind (λ k. also empty (starts k) (p k)) ts
parted_begins kind empty p starts [] full = refl
parted_begins kind empty p starts (t ∷ ts) full = rw full refl

some_read : {W X : Type 0} (b : Bool) (r : Result (List X × List W) (List W)) (ts : List W)
    → (if b then r else Ok ([], ts)) ≡ maps or_none (if b then maps Some r else Ok (None, ts))
some_read true (Ok x) ts = refl
some_read true (Err rest) ts = refl
some_read false r ts = refl

pub listed_laws : {W K X : Type 0} {kind : W → K} {s : Syntax kind X} (p : K → Bool) (one : W) → p (kind one) ≡ true → IsSyntax s → s.empty ≡ false → Apart p s.goes → IsSyntax (listed p s)
listed_laws {kind = kind} {s = s} p one is laws full apart = reread (listed p s).read (mapped_laws or_none (maybe_laws (parted_laws p one is laws apart) (rw full refl)))
    (λ ts. rw (parted_begins kind s.empty p s.starts ts full) (some_read (begins kind (parted p s).starts ts) ((parted p s).read ts) ts))
