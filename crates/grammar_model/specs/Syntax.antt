-- Grammars as values over lists of tokens.
use Rattle.std.specs.Prelude.{◌≡◌, ℕ, zero, suc, Bool, true, false, ◌&&◌, ◌||◌, List, [], ◌∷◌, ◌++◌, length, Option, Some, None, Result, Ok, Err, ◌⊎◌, if◌then◌else◌}
use Rattle.grammar_model.specs.Sets.{also}

infixl 10 ◌>>=◌
infixr 6 ◌then◌
infixr 6 ◌▸◌
infixl 7 ◌◂◌
infixr 5 ◌or◌
-- the next step, where the step before gave a value
abbrev pub ◌>>=◌ : {X Y E : Type 0} → Result X E → (X → Result Y E) → Result Y E
Ok x >>= f = f x
Err e >>= f = Err e

-- a way to write values of X as lists of tokens, of which each is of one kind
pub record Syntax {W K : Type 0} (kind : W → K) (X : Type 0) : Type 1 where
  -- exactly these tokens are a way to write the value
  pub Written : X → List W → Type 0
  -- what it may begin with
  pub starts : K → Bool
  -- what may make it longer, where it could end
  pub goes : K → Bool
  -- whether it may have no tokens
  pub empty : Bool
  -- the value and what is left behind it, or what is left from the first token that does not fit
  pub read : List W → Result (X × List W) (List W)

-- the next token is there, and of the set
abbrev pub begins : {W K : Type 0} → (W → K) → (K → Bool) → List W → Bool
begins kind p [] = false
begins kind p (t ∷ ts) = p (kind t)

abbrev pub token_at : {W K : Type 0} → (W → K) → (K → Bool) → List W → Result (W × List W) (List W)
token_at kind p [] = Err []
token_at kind p (t ∷ ts) = if p (kind t) then Ok (t, ts) else Err (t ∷ ts)

-- one token of the set
abbrev pub token : {W K : Type 0} {kind : W → K} → (K → Bool) → Syntax kind W
token {kind = kind} p = record {
  Written = λ t ts. (p (kind t) ≡ true) × (ts ≡ t ∷ []);
  starts = p;
  goes = λ k. false;
  empty = false;
  read = token_at kind p;
}

-- a, and b behind it
abbrev pub ◌then◌ : {W K X Y : Type 0} {kind : W → K} → Syntax kind X → Syntax kind Y → Syntax kind (X × Y)
◌then◌ {W = W} a b = record {
  Written = λ x ts. (front : List W) × (back : List W) × a.Written x.0 front × b.Written x.1 back × (ts ≡ front ++ back);
  starts = λ k. also a.empty (a.starts k) (b.starts k);
  goes = λ k. also b.empty (b.goes k) (a.goes k);
  empty = a.empty && b.empty;
  read = λ ts. a.read ts >>= λ x. b.read x.1 >>= λ y. Ok ((x.0, y.0), y.1);
}

-- the same tokens, for f of the value
abbrev pub mapped : {W K X Y : Type 0} {kind : W → K} → (X → Y) → Syntax kind X → Syntax kind Y
mapped {X = X} f s = record {
  Written = λ y ts. (x : X) × (f x ≡ y) × s.Written x ts;
  starts = s.starts;
  goes = s.goes;
  empty = s.empty;
  read = λ ts. s.read ts >>= λ x. Ok (f x.0, x.1);
}

-- a token of the set, and s behind it, whose value it has
abbrev pub ◌▸◌ : {W K X : Type 0} {kind : W → K} → (K → Bool) → Syntax kind X → Syntax kind X
p ▸ s = mapped (λ x. x.1) (token p then s)

-- s, whose value it has, and a token of the set behind it
abbrev pub ◌◂◌ : {W K X : Type 0} {kind : W → K} → Syntax kind X → (K → Bool) → Syntax kind X
s ◂ p = mapped (λ x. x.0) (s then token p)

abbrev pub WrittenMaybe : {W K X : Type 0} {kind : W → K} → Syntax kind X → Option X → List W → Type 0
WrittenMaybe s None ts = ts ≡ []
WrittenMaybe s (Some x) ts = s.Written x ts

-- s, or nothing; decided by the next token
abbrev pub maybe : {W K X : Type 0} {kind : W → K} → Syntax kind X → Syntax kind (Option X)
maybe {kind = kind} s = record {
  Written = WrittenMaybe s;
  starts = s.starts;
  goes = λ k. s.starts k || s.goes k;
  empty = true;
  read = λ ts. if begins kind s.starts ts then (s.read ts >>= λ x. Ok (Some x.0, x.1)) else Ok (None, ts);
}

-- a or b; a where the next token begins one
abbrev pub ◌or◌ : {W K X : Type 0} {kind : W → K} → Syntax kind X → Syntax kind X → Syntax kind X
◌or◌ {kind = kind} a b = record {
  Written = λ x ts. a.Written x ts ⊎ b.Written x ts;
  starts = λ k. a.starts k || b.starts k;
  goes = λ k. a.goes k || b.goes k;
  empty = a.empty || b.empty;
  read = λ ts. if begins kind a.starts ts then a.read ts else b.read ts;
}

-- each of the values, one behind the other
abbrev pub WrittenMany : {W K X : Type 0} {kind : W → K} → Syntax kind X → List X → List W → Type 0
WrittenMany s [] ts = ts ≡ []
WrittenMany {W = W} s (x ∷ xs) ts = (front : List W) × (back : List W) × s.Written x front × WrittenMany s xs back × (ts ≡ front ++ back)

-- pieces, while the next token begins one, and at most as many as n
abbrev pub many_at : {W K X : Type 0} → (W → K) → (K → Bool) → (List W → Result (X × List W) (List W)) → ℕ → List W → Result (List X × List W) (List W)
many_at kind starts piece zero ts = Ok ([], ts)
many_at kind starts piece (suc n) ts =
    if begins kind starts ts
    then (piece ts >>= λ x. many_at kind starts piece n x.1 >>= λ xs. Ok (x.0 ∷ xs.0, xs.1))
    else Ok ([], ts)

-- any number of s, one behind the other
abbrev pub many : {W K X : Type 0} {kind : W → K} → Syntax kind X → Syntax kind (List X)
many {kind = kind} s = record {
  Written = WrittenMany s;
  starts = s.starts;
  goes = λ k. s.starts k || s.goes k;
  empty = true;
  read = λ ts. many_at kind s.starts s.read (length ts) ts;
}

-- the values of front, before those that were read
abbrev pub with_front : {W X : Type 0} → List X → Result (List X × List W) (List W) → Result (List X × List W) (List W)
with_front front r = r >>= λ xs. Ok (front ++ xs.0, xs.1)

-- one s or more, with a token of the set between two
abbrev pub parted : {W K X : Type 0} {kind : W → K} → (K → Bool) → Syntax kind X → Syntax kind (List X)
parted p s = record (mapped (λ x. x.0 ∷ x.1) (s then many (p ▸ s))) {
  read = λ ts. s.read ts >>= λ x. with_front (x.0 ∷ []) ((many (p ▸ s)).read x.1);
}

abbrev pub or_none : {X : Type 0} → Option (List X) → List X
or_none None = []
or_none (Some xs) = xs

-- any number of s, with a token of the set between two
abbrev pub listed : {W K X : Type 0} {kind : W → K} → (K → Bool) → Syntax kind X → Syntax kind (List X)
listed {kind = kind} p s = record (mapped or_none (maybe (parted p s))) {
  read = λ ts. if begins kind s.starts ts then (parted p s).read ts else Ok ([], ts);
}
