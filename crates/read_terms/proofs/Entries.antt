-- Tests of all entries, where they are sorted, joined or left out.
use Rattle.std.proofs.Common.{◌≡◌, Bool, true, false, List, [], ◌∷◌, ◌++◌, refl}
use Rattle.std.specs.Prelude.{cond, if◌then◌else◌}
use Rattle.std.specs.List.{filter, list_all}
use Rattle.mlir_lex.proofs.Lengths.{and-both, and-left, and-right}
use Rattle.event_trees.specs.Dictionaries.{Entry, before, insert, sorted}

all_inserted : (p : Entry → Bool) (e : Entry) (es : List Entry) → p e ≡ true → list_all p es ≡ true → list_all p (insert e es) ≡ true
all_inserted p e [] h k = and-both _ _ h refl
all_inserted p e (f ∷ more) h k = by_test (before f.0 e.0) (all_inserted p e more h (and-right (p f) _ k))
  where
    by_test : (b : Bool) → list_all p (insert e more) ≡ true → list_all p (if b then f ∷ insert e more else e ∷ f ∷ more) ≡ true
    by_test true i = and-both _ _ (and-left _ _ k) i
    by_test false i = and-both _ _ h k

pub all_sorted : (p : Entry → Bool) (es : List Entry) → list_all p es ≡ true → list_all p (sorted es) ≡ true
all_sorted p [] h = refl
all_sorted p (e ∷ es) h = all_inserted p e (sorted es) (and-left _ _ h) (all_sorted p es (and-right (p e) _ h))

pub all_kept : (p q : Entry → Bool) (es : List Entry) → list_all q es ≡ true → list_all q (filter p es) ≡ true
all_kept p q [] h = refl
all_kept p q (e ∷ es) h = by_test (p e) (all_kept p q es (and-right (q e) _ h))
  where
    by_test : (b : Bool) → list_all q (filter p es) ≡ true → list_all q (cond b (e ∷ filter p es) (filter p es)) ≡ true
    by_test true k = and-both _ _ (and-left _ _ h) k
    by_test false k = k

pub all_joined : (p : Entry → Bool) (es fs : List Entry) → list_all p es ≡ true → list_all p fs ≡ true → list_all p (es ++ fs) ≡ true
all_joined p [] fs h k = k
all_joined p (e ∷ es) fs h k = and-both _ _ (and-left _ _ h) (all_joined p es fs (and-right (p e) _ h) k)
