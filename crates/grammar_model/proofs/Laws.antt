-- The laws of each way to make a grammar.
use Rattle.std.proofs.Common.{◌≡◌, Bool, true, false, List, [], ◌∷◌, ◌++◌, Option, Some, None, Result, Ok, Err, inl, inr, refl, sym, ◌∙◌, append_assoc}
use Rattle.std.specs.Prelude.{if◌then◌else◌}
use Rattle.grammar_model.specs.Sets.{also, Apart}
use Rattle.grammar_model.specs.Syntax.{Syntax, begins, token, token_at, ◌then◌, mapped, maybe, ◌or◌, ◌>>=◌}
use Rattle.grammar_model.specs.Reads.{SameFirst, Took, Reads, Opens, IsSyntax}
use Rattle.grammar_model.proofs.Firsts.{same_after, begins_again, stands_left, stands_right, full_begins, apart_begins, opens_left, opens_right, opens_any, follows, stands_also, stands_too, opens_both}

-- One token

token_case : {W K : Type 0} (kind : W → K) (p : K → Bool) (one : W) → p (kind one) ≡ true → (t : W) (ts : List W) (b : Bool) → p (kind t) ≡ b
    → Reads (token {kind = kind} p) (t ∷ ts) (if b then Ok (t, ts) else Err (t ∷ ts))
token_case kind p one is t ts true e = record {
  front = t ∷ [];
  whole = refl;
  written = (e, refl);
  decided = λ other same. rw e refl;
}
token_case {W = W} kind p one is t ts false e = record {
  front = [];
  whole = refl;
  piece = one;
  more = one ∷ [];
  goes_on = (is, refl);
  decided = stays t ts e;
}
  where
    stays : (t : W) (ts : List W) → p (kind t) ≡ false → (other : List W) → SameFirst (t ∷ ts) other → token_at kind p other ≡ Err other
    stays t ts e [] same = absurd same
    stays t ts e (u ∷ us) same = rw (← same) (rw e refl)

token_reads : {W K : Type 0} (kind : W → K) (p : K → Bool) (one : W) → p (kind one) ≡ true → (ts : List W) → Reads (token {kind = kind} p) ts (token_at kind p ts)
token_reads kind p one is (t ∷ ts) = token_case kind p one is t ts (p (kind t)) refl
token_reads {W = W} kind p one is [] = record {
  front = [];
  whole = refl;
  piece = one;
  more = one ∷ [];
  goes_on = (is, refl);
  decided = stays;
}
  where
    stays : (other : List W) → SameFirst [] other → token_at kind p other ≡ Err other
    stays [] same = refl
    stays (u ∷ us) same = absurd same

pub token_laws : {W K : Type 0} {kind : W → K} (p : K → Bool) (one : W) → p (kind one) ≡ true → IsSyntax (token {kind = kind} p)
token_laws {kind = kind} p one is = record {
  reads = token_reads kind p one is;
  again = λ x front rest w stands. rw w.1 (rw w.0 refl);
  first = λ x front w. rw w.1 w.0;
  one = one;
  one_text = one ∷ [];
  one_written = (is, refl);
}

-- One behind another

then_ok : {W K X Y : Type 0} {kind : W → K} (a : Syntax kind X) (b : Syntax kind Y) (ts : List W) (x : X × List W) → Took a ts x.0 x.1
    → (r : Result (Y × List W) (List W)) → Reads b x.1 r → Reads (a then b) ts (r >>= λ y. Ok ((x.0, y.0), y.1))
then_ok a b ts x ha (Ok y) hb = record {
  front = ha.front ++ hb.front;
  whole = rw append_assoc (rw (← hb.whole) ha.whole);
  written = (ha.front, hb.front, ha.written, hb.written, refl);
  decided = λ other h. rw append_assoc (rw (ha.decided (hb.front ++ other) (rw hb.whole (same_after hb.front y.1 other h))) (rw (hb.decided other h) refl));
}
then_ok a b ts x ha (Err rest) hb = record {
  front = ha.front ++ hb.front;
  whole = rw append_assoc (rw (← hb.whole) ha.whole);
  piece = (x.0, hb.piece);
  more = hb.more;
  goes_on = (ha.front, hb.front ++ hb.more, ha.written, hb.goes_on, append_assoc ha.front hb.front hb.more);
  decided = λ other h. rw append_assoc (rw (ha.decided (hb.front ++ other) (rw hb.whole (same_after hb.front rest other h))) (rw (hb.decided other h) refl));
}

then_reads : {W K X Y : Type 0} {kind : W → K} (a : Syntax kind X) (b : Syntax kind Y) → IsSyntax a → IsSyntax b → (ts : List W)
    → (r : Result (X × List W) (List W)) → Reads a ts r → Reads (a then b) ts (r >>= λ x. b.read x.1 >>= λ y. Ok ((x.0, y.0), y.1))
then_reads a b la lb ts (Ok x) h = then_ok a b ts x h (b.read x.1) (lb.reads x.1)
then_reads a b la lb ts (Err rest) h = record {
  front = h.front;
  whole = h.whole;
  piece = (h.piece, lb.one);
  more = h.more ++ lb.one_text;
  goes_on = (h.front ++ h.more, lb.one_text, h.goes_on, lb.one_written, sym (append_assoc h.front h.more lb.one_text));
  decided = λ other same. rw (h.decided other same) refl;
}

then_again : {W K X Y : Type 0} {kind : W → K} (a : Syntax kind X) (b : Syntax kind Y) → IsSyntax a → IsSyntax b → Apart b.starts a.goes
    → (x : X × Y) (front back rest : List W) → a.Written x.0 front → b.Written x.1 back → begins kind (λ k. also b.empty (b.goes k) (a.goes k)) rest ≡ false
    → (a then b).read ((front ++ back) ++ rest) ≡ Ok (x, rest)
then_again {kind = kind} a b la lb apart x front back rest wa wb stands = rw append_assoc
    (rw (la.again x.0 front (back ++ rest) wa
    (follows kind b.empty b.starts a.goes back rest apart (lb.first x.1 back wb) (stands_too kind b.empty b.goes a.goes rest stands)))
    (rw (lb.again x.1 back rest wb (stands_also kind b.empty b.goes a.goes rest stands)) refl))

pub then_laws : {W K X Y : Type 0} {kind : W → K} {a : Syntax kind X} {b : Syntax kind Y} → IsSyntax a → IsSyntax b → Apart b.starts a.goes → IsSyntax (a then b)
then_laws {kind = kind} {a = a} {b = b} la lb apart = record {
  reads = λ ts. then_reads a b la lb ts (a.read ts) (la.reads ts);
  again = λ x ts rest w stands. rw w.4 (then_again a b la lb apart x w.0 w.1 rest w.2 w.3 stands);
  first = λ x ts w. rw w.4 (opens_both kind a.empty b.empty a.starts b.starts w.0 w.1 (la.first x.0 w.0 w.2) (lb.first x.1 w.1 w.3));
  one = (la.one, lb.one);
  one_text = la.one_text ++ lb.one_text;
  one_written = (la.one_text, lb.one_text, la.one_written, lb.one_written, refl);
}

-- A function of the value

mapped_reads : {W K X Y : Type 0} {kind : W → K} (f : X → Y) (s : Syntax kind X) (ts : List W) (r : Result (X × List W) (List W)) → Reads s ts r
    → Reads (mapped f s) ts (r >>= λ x. Ok (f x.0, x.1))
mapped_reads f s ts (Ok x) h = record {
  front = h.front;
  whole = h.whole;
  written = (x.0, refl, h.written);
  decided = λ other same. rw (h.decided other same) refl;
}
mapped_reads f s ts (Err rest) h = record {
  front = h.front;
  whole = h.whole;
  piece = f h.piece;
  more = h.more;
  goes_on = (h.piece, refl, h.goes_on);
  decided = λ other same. rw (h.decided other same) refl;
}

pub mapped_laws : {W K X Y : Type 0} {kind : W → K} {s : Syntax kind X} (f : X → Y) → IsSyntax s → IsSyntax (mapped f s)
mapped_laws {s = s} f laws = record {
  reads = λ ts. mapped_reads f s ts (s.read ts) (laws.reads ts);
  again = λ y front rest w stands. rw (laws.again w.0 front rest w.2 stands) (rw w.1 refl);
  first = λ y front w. laws.first w.0 front w.2;
  one = f laws.one;
  one_text = laws.one_text;
  one_written = (laws.one, refl, laws.one_written);
}

-- One or nothing

maybe_read : {W K X : Type 0} {kind : W → K} (s : Syntax kind X) (ts : List W) → begins kind s.starts ts ≡ true
    → (r : Result (X × List W) (List W)) → Reads s ts r → Reads (maybe s) ts (r >>= λ x. Ok (Some x.0, x.1))
maybe_read {kind = kind} s ts begun (Ok x) h = record {
  front = h.front;
  whole = h.whole;
  written = h.written;
  decided = λ other same. rw (begins_again kind s.starts ts h.front x.1 other true begun h.whole same) (rw (h.decided other same) refl);
}
maybe_read {kind = kind} s ts begun (Err rest) h = record {
  front = h.front;
  whole = h.whole;
  piece = Some h.piece;
  more = h.more;
  goes_on = h.goes_on;
  decided = λ other same. rw (begins_again kind s.starts ts h.front rest other true begun h.whole same) (rw (h.decided other same) refl);
}

maybe_reads : {W K X : Type 0} {kind : W → K} (s : Syntax kind X) → IsSyntax s → (ts : List W) (b : Bool) → begins kind s.starts ts ≡ b
    → Reads (maybe s) ts (if b then (s.read ts >>= λ x. Ok (Some x.0, x.1)) else Ok (None, ts))
maybe_reads s laws ts true begun = maybe_read s ts begun (s.read ts) (laws.reads ts)
maybe_reads {kind = kind} s laws ts false begun = record {
  front = [];
  whole = refl;
  written = refl;
  decided = λ other same. rw (begins_again kind s.starts ts [] ts other false begun refl same) refl;
}

maybe_again : {W K X : Type 0} {kind : W → K} (s : Syntax kind X) → IsSyntax s → s.empty ≡ false → (x : Option X) (front rest : List W)
    → (maybe s).Written x front → begins kind (maybe s).goes rest ≡ false → (maybe s).read (front ++ rest) ≡ Ok (x, rest)
maybe_again {kind = kind} s laws full None front rest w stands = rw w (rw (stands_left kind s.starts s.goes rest stands) refl)
maybe_again {kind = kind} s laws full (Some x) front rest w stands =
    rw (full_begins kind s.empty s.starts front rest full (laws.first x front w))
    (rw (laws.again x front rest w (stands_right kind s.starts s.goes rest stands)) refl)

maybe_first : {W K X : Type 0} {kind : W → K} (s : Syntax kind X) → IsSyntax s → (x : Option X) (front : List W) → (maybe s).Written x front → Opens kind true s.starts front
maybe_first s laws None front w = rw w refl
maybe_first {kind = kind} s laws (Some x) front w = opens_any kind s.empty s.starts front (laws.first x front w)

pub maybe_laws : {W K X : Type 0} {kind : W → K} {s : Syntax kind X} → IsSyntax s → s.empty ≡ false → IsSyntax (maybe s)
maybe_laws {kind = kind} {s = s} laws full = record {
  reads = λ ts. maybe_reads s laws ts (begins kind s.starts ts) refl;
  again = maybe_again s laws full;
  first = maybe_first s laws;
  one = None;
  one_text = [];
  one_written = refl;
}

-- One or another

or_read : {W K X : Type 0} {kind : W → K} (a b : Syntax kind X) (ts : List W) → begins kind a.starts ts ≡ true
    → (r : Result (X × List W) (List W)) → Reads a ts r → Reads (a or b) ts r
or_read {kind = kind} a b ts begun (Ok x) h = record {
  front = h.front;
  whole = h.whole;
  written = inl h.written;
  decided = λ other same. rw (begins_again kind a.starts ts h.front x.1 other true begun h.whole same) (h.decided other same);
}
or_read {kind = kind} a b ts begun (Err rest) h = record {
  front = h.front;
  whole = h.whole;
  piece = h.piece;
  more = h.more;
  goes_on = inl h.goes_on;
  decided = λ other same. rw (begins_again kind a.starts ts h.front rest other true begun h.whole same) (h.decided other same);
}

or_else : {W K X : Type 0} {kind : W → K} (a b : Syntax kind X) (ts : List W) → begins kind a.starts ts ≡ false
    → (r : Result (X × List W) (List W)) → Reads b ts r → Reads (a or b) ts r
or_else {kind = kind} a b ts begun (Ok x) h = record {
  front = h.front;
  whole = h.whole;
  written = inr h.written;
  decided = λ other same. rw (begins_again kind a.starts ts h.front x.1 other false begun h.whole same) (h.decided other same);
}
or_else {kind = kind} a b ts begun (Err rest) h = record {
  front = h.front;
  whole = h.whole;
  piece = h.piece;
  more = h.more;
  goes_on = inr h.goes_on;
  decided = λ other same. rw (begins_again kind a.starts ts h.front rest other false begun h.whole same) (h.decided other same);
}

or_reads : {W K X : Type 0} {kind : W → K} (a b : Syntax kind X) → IsSyntax a → IsSyntax b → (ts : List W) (c : Bool) → begins kind a.starts ts ≡ c
    → Reads (a or b) ts (if c then a.read ts else b.read ts)
or_reads a b la lb ts true begun = or_read a b ts begun (a.read ts) (la.reads ts)
or_reads a b la lb ts false begun = or_else a b ts begun (b.read ts) (lb.reads ts)

or_again : {W K X : Type 0} {kind : W → K} (a b : Syntax kind X) → IsSyntax a → IsSyntax b → a.empty ≡ false → b.empty ≡ false → Apart b.starts a.starts
    → (x : X) (front rest : List W) → (a or b).Written x front → begins kind (a or b).goes rest ≡ false → (a or b).read (front ++ rest) ≡ Ok (x, rest)
or_again {kind = kind} a b la lb a_full b_full apart x front rest (inl w) stands =
    rw (full_begins kind a.empty a.starts front rest a_full (la.first x front w)) (la.again x front rest w (stands_left kind a.goes b.goes rest stands))
or_again {kind = kind} a b la lb a_full b_full apart x front rest (inr w) stands =
    rw (apart_begins kind b.starts a.starts (front ++ rest) apart (full_begins kind b.empty b.starts front rest b_full (lb.first x front w)))
    (lb.again x front rest w (stands_right kind a.goes b.goes rest stands))

or_first : {W K X : Type 0} {kind : W → K} (a b : Syntax kind X) → IsSyntax a → IsSyntax b → (x : X) (front : List W) → (a or b).Written x front
    → Opens kind (a or b).empty (a or b).starts front
or_first {kind = kind} a b la lb x front (inl w) = opens_left kind a.empty b.empty a.starts b.starts front (la.first x front w)
or_first {kind = kind} a b la lb x front (inr w) = opens_right kind a.empty b.empty a.starts b.starts front (lb.first x front w)

pub or_laws : {W K X : Type 0} {kind : W → K} {a b : Syntax kind X} → IsSyntax a → IsSyntax b → a.empty ≡ false → b.empty ≡ false → Apart b.starts a.starts → IsSyntax (a or b)
or_laws {kind = kind} {a = a} {b = b} la lb a_full b_full apart = record {
  reads = λ ts. or_reads a b la lb ts (begins kind a.starts ts) refl;
  again = or_again a b la lb a_full b_full apart;
  first = or_first a b la lb;
  one = la.one;
  one_text = la.one_text;
  one_written = inl la.one_written;
}

-- The same grammar, with its reading said in another way

reread_case : {W K X : Type 0} {kind : W → K} (s : Syntax kind X) (read : List W → Result (X × List W) (List W)) → ((ts : List W) → read ts ≡ s.read ts)
    → (ts : List W) (r : Result (X × List W) (List W)) → Reads s ts r → Reads (record s { read = read }) ts r
reread_case s read same ts (Ok x) h = record {
  front = h.front;
  whole = h.whole;
  written = h.written;
  decided = λ other first. same (h.front ++ other) ∙ h.decided other first;
}
reread_case s read same ts (Err rest) h = record {
  front = h.front;
  whole = h.whole;
  piece = h.piece;
  more = h.more;
  goes_on = h.goes_on;
  decided = λ other first. same (h.front ++ other) ∙ h.decided other first;
}

pub reread : {W K X : Type 0} {kind : W → K} {s : Syntax kind X} (read : List W → Result (X × List W) (List W)) → IsSyntax s → ((ts : List W) → read ts ≡ s.read ts)
    → IsSyntax (record s { read = read })
reread {s = s} read laws same = record {
  reads = λ ts. rw (same ts) (reread_case s read same ts (s.read ts) (laws.reads ts));
  again = λ x front rest w stands. same (front ++ rest) ∙ laws.again x front rest w stands;
  first = laws.first;
  one = laws.one;
  one_text = laws.one_text;
  one_written = laws.one_written;
}
