-- Sorted entries stand in order, and each is one of those that were sorted.
use Rattle.std.proofs.Common.{◌≡◌, ℕ, Bool, true, false, not, List, [], ◌∷◌, ◌++◌, refl, ap}
use Rattle.std.specs.Prelude.{cond, if◌then◌else◌}
use Rattle.std.specs.List.{filter, list_all}
use Rattle.std.specs.Cmp.{IsStrictWeakOrder}
use Rattle.std.specs.Cmp.Lexicographic.{nat_list_cmp_total}
use Rattle.std.proofs.lemmas.List.Sorted.{ranks_by}
use Rattle.mlir_lex.proofs.Lengths.{and-both, and-left, and-right}
use Rattle.plain_tree.specs.Attrs.{dict_in, plain_attr, plain_entries}
use Rattle.event_trees.specs.Dictionaries.{Entry, before, insert, sorted}
use Rattle.printed_terms.specs.Ordered.{is_next, is_ordered, is_ordered_dict}

abbrev lower : Entry → Entry → Bool
lower e f = before e.0 f.0

order : IsStrictWeakOrder lower
order = ranks_by nat_list_cmp_total (λ (e : Entry). e.0)

-- the attribute of an entry has its dictionaries in order
abbrev pub value_ordered : Entry → Bool
value_ordered e = is_ordered (plain_attr e.1)

abbrev pub rises : List Entry → Bool
rises es = is_ordered_dict (dict_in (plain_entries es))

first_stays : (name : List ℕ) (e : Entry) (more : List Entry) → not (before e.0 name) ≡ true → is_next name (dict_in (plain_entries more)) ≡ true → is_next name (dict_in (plain_entries (insert e more))) ≡ true
first_stays name e [] h k = h
first_stays name e (g ∷ more) h k = by_test (before g.0 e.0)
  where
    by_test : (b : Bool) → is_next name (dict_in (plain_entries (if b then g ∷ insert e more else e ∷ g ∷ more))) ≡ true
    by_test true = k
    by_test false = h

not_other : (e f : Entry) → before f.0 e.0 ≡ true → not (before e.0 f.0) ≡ true
not_other e f h = ap not (order.one_way f e h)

insert_rises : (e : Entry) (es : List Entry) → value_ordered e ≡ true → rises es ≡ true → rises (insert e es) ≡ true
insert_rises e [] o h = and-both _ _ o refl
insert_rises e (f ∷ more) o h = by_test (before f.0 e.0) refl (insert_rises e more o (and-right (value_ordered f) _ (and-right (is_next f.0 (dict_in (plain_entries more))) _ h)))
  where
    by_test : (b : Bool) → before f.0 e.0 ≡ b → rises (insert e more) ≡ true → rises (if b then f ∷ insert e more else e ∷ f ∷ more) ≡ true
    by_test true is k =
        and-both _ _ (first_stays f.0 e more (not_other e f is) (and-left _ _ h)) (and-both _ _ (and-left _ _ (and-right (is_next f.0 (dict_in (plain_entries more))) _ h)) k)
    by_test false is k = and-both _ _ (ap not is) (and-both _ _ o h)

pub sorted_rises : (es : List Entry) → list_all value_ordered es ≡ true → rises (sorted es) ≡ true
sorted_rises [] h = refl
sorted_rises (e ∷ es) h = insert_rises e (sorted es) (and-left _ _ h) (sorted_rises es (and-right (value_ordered e) _ h))

-- Tests of all entries

pub all_inserted : (p : Entry → Bool) (e : Entry) (es : List Entry) → p e ≡ true → list_all p es ≡ true → list_all p (insert e es) ≡ true
all_inserted p e [] h k = and-both _ _ h refl
all_inserted p e (f ∷ more) h k = by_test (before f.0 e.0) (all_inserted p e more h (and-right (p f) _ k))
  where
    by_test : (b : Bool) → list_all p (insert e more) ≡ true → list_all p (if b then f ∷ insert e more else e ∷ f ∷ more) ≡ true
    by_test true i = and-both _ _ (and-left _ _ k) i
    by_test false i = and-both _ _ h k

pub all_sorted : (p : Entry → Bool) (es : List Entry) → list_all p es ≡ true → list_all p (sorted es) ≡ true
all_sorted p [] h = refl
all_sorted p (e ∷ es) h = all_inserted p e (sorted es) (and-left _ _ h) (all_sorted p es (and-right (p e) _ h))

pub all_kept : (p q : Entry → Bool) (es : List Entry) → list_all q es ≡ true → list_all q (filter p es) ≡ true
all_kept p q [] h = refl
all_kept p q (e ∷ es) h = by_test (p e) (all_kept p q es (and-right (q e) _ h))
  where
    by_test : (b : Bool) → list_all q (filter p es) ≡ true → list_all q (cond b (e ∷ filter p es) (filter p es)) ≡ true
    by_test true k = and-both _ _ (and-left _ _ h) k
    by_test false k = k

pub all_pass : (p : Entry → Bool) (es : List Entry) → list_all p (filter p es) ≡ true
all_pass p [] = refl
all_pass p (e ∷ es) = by_test (p e) refl (all_pass p es)
  where
    by_test : (b : Bool) → p e ≡ b → list_all p (filter p es) ≡ true → list_all p (cond b (e ∷ filter p es) (filter p es)) ≡ true
    by_test true is k = and-both _ _ is k
    by_test false is k = k

pub all_joined : (p : Entry → Bool) (es fs : List Entry) → list_all p es ≡ true → list_all p fs ≡ true → list_all p (es ++ fs) ≡ true
all_joined p [] fs h k = k
all_joined p (e ∷ es) fs h k = and-both _ _ (and-left _ _ h) (all_joined p es fs (and-right (p e) _ h) k)
