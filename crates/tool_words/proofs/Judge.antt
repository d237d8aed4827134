-- What is said of the words behind some uses, and how it is joined.
use Rattle.std.proofs.Common.{◌≡◌, ◌∙◌, List, [], ◌∷◌, ◌++◌, Option, Some, None, Bool, true, false, refl, sym, ap, subst, append_assoc}
use Rattle.clap.specs.Kinds.{Kinds, or_else}
use Rattle.clap.specs.Walk.{Row}
use Rattle.clap.specs.declared.error.kind.ErrorKind.{ErrorKind}
use Rattle.clap.specs.declared.error.kind.ErrorKind.TheVariants as kind
use Rattle.tool_words.specs.Uses.{Use, before, has, once_behind}
use Rattle.tool_words.proofs.Rows.{finish}

abbrev pub Refused : Kinds → Type 0
Refused k = k ≡ [] → ⊥

abbrev pub JudgeOnce : Bool → List Use → Kinds → List Row → Type 0
JudgeOnce true us k rs = (k ≡ []) × (rs ≡ finish us)
JudgeOnce false us k rs = Refused k

-- the kinds of fault and the rows are those that the further uses bring behind us
abbrev pub Judge : List Use → Option (List Use) → Kinds → List Row → Type 0
Judge us None k rs = Refused k
Judge us (Some vs) k rs = JudgeOnce (once_behind us vs) (us ++ vs) k rs

pub or_none : (a : Kinds) → or_else a [] ≡ a
or_none [] = refl
or_none (k ∷ ks) = refl

pub or_assoc : (a b c : Kinds) → or_else (or_else a b) c ≡ or_else a (or_else b c)
or_assoc [] b c = refl
or_assoc (k ∷ ks) b c = refl

pub some_refused : (k : ErrorKind) (ks : Kinds) → Refused (k ∷ ks)
some_refused k ks e = cc

pub first_refused : (a b : Kinds) → Refused a → Refused (or_else a b)
first_refused [] b bad = absurd (bad refl)
first_refused (k ∷ ks) b bad = bad

pub behind_refused : (a b : Kinds) → Refused b → Refused (or_else a b)
behind_refused [] b bad = bad
behind_refused (k ∷ ks) b bad = some_refused k ks

abbrev pub kinds_if : Bool → Kinds
kinds_if true = kind.ArgumentConflict ∷ []
kinds_if false = []

pub none_if : (b : Bool) → kinds_if b ≡ [] → b ≡ false
none_if false e = refl
none_if true e = absurd cc

pub same_judge : (us : List Use) (x : Option (List Use)) (k k' : Kinds) (rs rs' : List Row) → k' ≡ k → rs' ≡ rs → Judge us x k rs → Judge us x k' rs'
same_judge us x k k' rs rs' ek er h = subst (λ r. Judge us x k' r) (sym er) (subst (λ j. Judge us x j rs) (sym ek) h)

once_more : (b : Bool) (us : List Use) (u : Use) (vs : List Use) (k k' : Kinds) (rs rs' : List Row) → k' ≡ k → rs' ≡ rs
    → JudgeOnce b ((us ++ u ∷ []) ++ vs) k rs → JudgeOnce b (us ++ u ∷ vs) k' rs'
once_more true us u vs k k' rs rs' ek er h = (ek ∙ h.0, er ∙ h.1 ∙ ap finish (append_assoc us (u ∷ []) vs))
once_more false us u vs k k' rs rs' ek er h = λ e. h (sym ek ∙ e)

-- one use before the others
pub one_before : (us : List Use) (u : Use) (x : Option (List Use)) (k k' : Kinds) (rs rs' : List Row) → (has u.name us ≡ false → (k' ≡ k) × (rs' ≡ rs))
    → Judge (us ++ u ∷ []) x k rs → Judge us (before (Some u) x) (or_else (kinds_if (has u.name us)) k') rs'
one_before us u x k k' rs rs' new h = go (has u.name us) refl x h
  where
    go : (b : Bool) → has u.name us ≡ b → (y : Option (List Use)) → Judge (us ++ u ∷ []) y k rs → Judge us (before (Some u) y) (or_else (kinds_if (has u.name us)) k') rs'
    go true e None j = rw e (some_refused _ _)
    go true e (Some vs) j = rw e (some_refused _ _)
    go false e None j = rw e (λ empty. j (sym (new e).0 ∙ empty))
    go false e (Some vs) j = rw e (once_more (once_behind (us ++ u ∷ []) vs) us u vs k k' rs rs' (new e).0 (new e).1 j)

-- the same of a use that is still pending, if one is

abbrev pub front : Option Use → Option (List Use) → Option (List Use)
front None x = x
front (Some u) x = before (Some u) x

abbrev pub joined : List Use → Option Use → List Use
joined us None = us
joined us (Some u) = us ++ u ∷ []

abbrev pub settle_kinds : List Use → Option Use → Kinds
settle_kinds us None = []
settle_kinds us (Some u) = kinds_if (has u.name us)

pub pending_before : (us : List Use) (p : Option Use) (x : Option (List Use)) (k k' : Kinds) (rs rs' : List Row)
    → (settle_kinds us p ≡ [] → (k' ≡ k) × (rs' ≡ rs)) → Judge (joined us p) x k rs → Judge us (front p x) (or_else (settle_kinds us p) k') rs'
pending_before us None x k k' rs rs' same h = same_judge us x k k' rs rs' (same refl).0 (same refl).1 h
pending_before us (Some u) x k k' rs rs' same h = one_before us u x k k' rs rs' (λ e. same (ap kinds_if e)) h

pub front_none : (us : List Use) (p : Option Use) (k : Kinds) (rs : List Row) → Refused k → Judge us (front p None) k rs
front_none us None k rs bad = bad
front_none us (Some u) k rs bad = bad
