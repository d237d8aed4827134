-- A grammar with nothing behind it.
use Rattle.std.proofs.Common.{◌≡◌, List, [], ◌∷◌, ◌++◌, Result, Ok, Err, refl, sym, ap, ◌∙◌, subst, append_assoc}
use Rattle.std.proofs.lemmas.List.{append-nil}
use Rattle.grammar_model.specs.Syntax.{Syntax, ◌>>=◌}
use Rattle.grammar_model.specs.Reads.{Took, Stopped, Reads, IsSyntax}
use Rattle.grammar_model.specs.Expected.{Sentence, Begins, NoneGoesOn, IsExpected, with_nothing, whole_of}
use Rattle.grammar_model.specs.declared.Stop.{Stop}
use Rattle.grammar_model.specs.declared.Stop.TheVariants.{Memory, At}
use Rattle.grammar_model.specs.Stopping.{Gives, StopsExpected}
use Rattle.std.specs.Result.{IfOk}

-- a sentence is read, with nothing left
pub whole_only : {W K X : Type 0} {kind : W → K} {s : Syntax kind X} → IsSyntax s → (x : X) (ts : List W) → s.Written x ts → s.read ts ≡ Ok (x, [])
whole_only {s = s} laws x ts w = ap s.read (sym (append-nil ts)) ∙ laws.again x ts [] w refl

took_all : {W K X : Type 0} {kind : W → K} {s : Syntax kind X} (ts : List W) (x : X) → Took s ts x [] → s.Written x ts
took_all ts x h = rw (h.whole, append-nil h.front) h.written

-- what is read with nothing left is a sentence
pub whole_found : {W K X : Type 0} {kind : W → K} {s : Syntax kind X} → IsSyntax s → (x : X) (ts : List W) → s.read ts ≡ Ok (x, []) → s.Written x ts
whole_found {s = s} laws x ts e = took_all ts x (subst (Reads s ts) e (laws.reads ts))

value_or : {X Y E : Type 0} → X → Result (X × Y) E → X
value_or d (Ok x) = x.0
value_or d (Err e) = d

rest_or : {X Y : Type 0} → Y → Result (X × Y) Y → Y
rest_or d (Ok x) = x.1
rest_or d (Err e) = d

same_value : {X Y E : Type 0} (x y : X) (r s : Y) → ◌≡◌ {A = Result (X × Y) E} (Ok (x, r)) (Ok (y, s)) → x ≡ y
unfolding value_or
same_value x y r s e = ap (value_or x) e

same_rest : {X Y : Type 0} (x y : X) (r s : Y) → ◌≡◌ {A = Result (X × Y) Y} (Ok (x, r)) (Ok (y, s)) → r ≡ s
unfolding rest_or
same_rest x y r s e = ap (rest_or r) e

-- a sentence is a sentence of one value
pub one_reading : {W K X : Type 0} {kind : W → K} {s : Syntax kind X} → IsSyntax s → (x y : X) (ts : List W) → s.Written x ts → s.Written y ts → x ≡ y
one_reading laws x y ts wx wy = same_value x y [] [] (sym (whole_only laws x ts wx) ∙ whole_only laws y ts wy)

-- Where reading stopped, or left something, is the first token that does not fit

-- a sentence that goes on behind what was taken would have been read
goes_on_took : {W K X : Type 0} {kind : W → K} {s : Syntax kind X} → IsSyntax s → (ts : List W) (x : X) (t : W) (rest : List W) (h : Took s ts x (t ∷ rest))
    → Begins s (h.front ++ t ∷ []) → ⊥
goes_on_took {s = s} laws ts x t rest h (more, (y, w)) =
    let e = whole_only laws y (h.front ++ (t ∷ more)) (rw append_assoc at w) in
    let d = h.decided (t ∷ more) refl in
    let same = same_rest x y (t ∷ more) [] (sym d ∙ e) in absurd cc

pub whole_left : {W K X : Type 0} {kind : W → K} {s : Syntax kind X} → IsSyntax s → (x : X) (ts : List W) (t : W) (rest : List W)
    → s.read ts ≡ Ok (x, t ∷ rest) → IsExpected s ts (t ∷ rest)
whole_left {s = s} laws x ts t rest e = of_took (subst (Reads s ts) e (laws.reads ts))
  where
    of_took : Took s ts x (t ∷ rest) → IsExpected s ts (t ∷ rest)
    of_took h = record {
      front = h.front;
      whole = h.whole;
      begun = ([], (x, rw append-nil h.written));
      none = goes_on_took laws ts x t rest h;
    }

none_stopped : {W K X : Type 0} {kind : W → K} {s : Syntax kind X} → IsSyntax s → (ts rest : List W) (h : Stopped s ts rest) → NoneGoesOn s h.front rest
none_stopped laws ts [] h = λ (y, w). let e = whole_only laws y h.front w in let d = rw append-nil at (h.decided [] tt) in cc
none_stopped laws ts (t ∷ rest) h = λ (more, (y, w)). let e = whole_only laws y (h.front ++ (t ∷ more)) (rw append_assoc at w) in let d = h.decided (t ∷ more) refl in cc

pub whole_refused : {W K X : Type 0} {kind : W → K} {s : Syntax kind X} → IsSyntax s → (ts rest : List W) → s.read ts ≡ Err rest → IsExpected s ts rest
whole_refused {s = s} laws ts rest e = of_stopped (subst (Reads s ts) e (laws.reads ts))
  where
    of_stopped : Stopped s ts rest → IsExpected s ts rest
    of_stopped h = record {
      front = h.front;
      whole = h.whole;
      begun = (h.more, (h.piece, h.goes_on));
      none = none_stopped laws ts rest h;
    }

-- A text is a sentence, or has one first token that does not fit

pub not_expected : {W K X : Type 0} {kind : W → K} {s : Syntax kind X} (ts rest : List W) → Sentence s ts → IsExpected s ts rest → ⊥
not_expected ts [] sentence h = h.none (rw (h.whole, append-nil h.front) at sentence)
not_expected ts (t ∷ rest) sentence h = h.none (rest, rw append_assoc (rw h.whole at sentence))

begins_less : {W K X : Type 0} {kind : W → K} (s : Syntax kind X) (front : List W) (t : W) (b : List W) → Begins s (front ++ t ∷ b) → Begins s ((front ++ []) ++ t ∷ [])
begins_less s front t b (more, (y, w)) = (b ++ more, (y, rw (append-nil, append_assoc) (rw append_assoc at w)))

-- one beginning is not longer than the other
same_front : {W K X : Type 0} {kind : W → K} (s : Syntax kind X) (front : List W) (a b c d : List W) → a ++ c ≡ b ++ d
    → Begins s (front ++ a) → NoneGoesOn s (front ++ a) c → Begins s (front ++ b) → NoneGoesOn s (front ++ b) d → c ≡ d
same_front s front [] [] c d e ba na bb nb = e
same_front s front [] (t ∷ b) c d e ba na bb nb = absurd ((subst (NoneGoesOn s (front ++ [])) e na) (begins_less s front t b bb))
same_front s front (t ∷ a) [] c d e ba na bb nb = absurd ((subst (NoneGoesOn s (front ++ [])) (sym e) nb) (begins_less s front t a ba))
same_front {W = W} s front (t ∷ a) (u ∷ b) c d e ba na bb nb =
    let first : t ≡ u = cc in
    let behind : a ++ c ≡ b ++ d = cc in
    same_front s (front ++ t ∷ []) a b c d behind (rw append_assoc ba) (rw append_assoc na) (rw (append_assoc, first) bb) (rw (append_assoc, first) nb)

pub one_place : {W K X : Type 0} {kind : W → K} {s : Syntax kind X} (ts r q : List W) → IsExpected s ts r → IsExpected s ts q → r ≡ q
one_place {s = s} ts r q hr hq = same_front s [] hr.front hq.front r q (sym hr.whole ∙ hq.whole) hr.begun hr.none hq.begun hq.none

-- The reading of a whole list of tokens

whole_again : {W K X : Type 0} {kind : W → K} {s : Syntax kind X} → IsSyntax s → (x : X) (ts : List W) → s.Written x ts → whole_of s ts ≡ Ok x
whole_again laws x ts w = rw (whole_only laws x ts w) refl

nothing_left : {W X : Type 0} (y : X) (rest : List W) (x : X) → with_nothing y rest ≡ Ok x → ◌≡◌ {A = Result (X × List W) (List W)} (Ok (y, rest)) (Ok (x, []))
nothing_left y [] x e = let same : y ≡ x = cc in rw same refl
nothing_left y (t ∷ rest) x e = absurd cc

read_from : {W X : Type 0} (r : Result (X × List W) (List W)) (x : X) → (r >>= λ y. with_nothing y.0 y.1) ≡ Ok x → r ≡ Ok (x, [])
read_from (Ok y) x e = nothing_left y.0 y.1 x e
read_from (Err rest) x e = absurd cc

whole_reads : {W K X : Type 0} {kind : W → K} {s : Syntax kind X} → IsSyntax s → (x : X) (ts : List W) → whole_of s ts ≡ Ok x → s.Written x ts
whole_reads {s = s} laws x ts e = whole_found laws x ts (read_from (s.read ts) x e)

something_left : {W K X : Type 0} {kind : W → K} {s : Syntax kind X} → IsSyntax s → (ts : List W) (y : X) (left : List W) → s.read ts ≡ Ok (y, left)
    → (rest : List W) → with_nothing y left ≡ Err rest → IsExpected s ts rest
something_left laws ts y [] e rest stops = absurd cc
something_left {s = s} laws ts y (t ∷ left) e rest stops = let same : t ∷ left ≡ rest = cc in subst (IsExpected s ts) same (whole_left laws y ts t left e)

stopped_from : {W K X : Type 0} {kind : W → K} {s : Syntax kind X} → IsSyntax s → (ts : List W) (r : Result (X × List W) (List W)) → s.read ts ≡ r
    → (rest : List W) → (r >>= λ y. with_nothing y.0 y.1) ≡ Err rest → IsExpected s ts rest
stopped_from laws ts (Ok y) e rest stops = something_left laws ts y.0 y.1 e rest stops
stopped_from {s = s} laws ts (Err left) e rest stops = let same : left ≡ rest = cc in subst (IsExpected s ts) same (whole_refused laws ts left e)

whole_stops : {W K X : Type 0} {kind : W → K} {s : Syntax kind X} → IsSyntax s → (ts rest : List W) → whole_of s ts ≡ Err rest → IsExpected s ts rest
whole_stops {s = s} laws ts rest e = stopped_from laws ts (s.read ts) refl rest e

-- What the clauses of a call that reads a whole text say, from its one clause that it gives what the grammar reads

pub gives_found : {W K X Y : Type 0} {kind : W → K} {s : Syntax kind X} → IsSyntax s → (ts : List W) (view : Y → X) (r : Result Y (Stop W)) → Gives view r (whole_of s ts)
    → IfOk r (λ y. s.Written (view y) ts)
gives_found laws ts view (Ok y) given = whole_reads laws (view y) ts given
gives_found laws ts view (Err stop) given = tt

pub gives_expected : {W K X Y : Type 0} {kind : W → K} {s : Syntax kind X} → IsSyntax s → (ts : List W) (view : Y → X) (r : Result Y (Stop W)) → Gives view r (whole_of s ts)
    → StopsExpected s ts r
gives_expected laws ts view (Ok y) given = tt
gives_expected laws ts view (Err Memory) given = tt
gives_expected laws ts view (Err (At rest)) given = whole_stops laws ts rest.now given

pub gives_only : {W K X Y : Type 0} {kind : W → K} {s : Syntax kind X} → IsSyntax s → (ts : List W) (view : Y → X) (r : Result Y (Stop W)) → Gives view r (whole_of s ts)
    → (x : X) → s.Written x ts → Gives view r (Ok x)
gives_only laws ts view r given x w = rw (whole_again laws x ts w) at given
