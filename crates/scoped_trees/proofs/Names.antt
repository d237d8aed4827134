-- Printed names: what they spell tells what they are.
use Rattle.std.proofs.Common.{◌≡◌, ℕ, ◌^◌, ◌<◌, Bool, true, false, ◌||◌, List, [], ◌∷◌, ◌++◌, Option, Some, None, refl, sym, ap, ◌∙◌, arith}
use Rattle.std.specs.Prelude.{codes, decimal}
use Rattle.std.specs.List.{list_all}
use Rattle.std.proofs.lemmas.Bool.{false≢true}
use Rattle.std.proofs.lemmas.Fmt.{decimal_injective}
use Rattle.mlir_lex.specs.Bytes.{is_digit, is_suffix_byte, starts_suffix}
use Rattle.mlir_lex.specs.Tokens.{is_run}
use Rattle.mlir_lex.proofs.Lengths.{and-both, and-left, and-right}
use Rattle.text_grammar.specs.declared.kinds.Kind.TheVariants as kinds
use Rattle.text_events.specs.Spelling.{core, unescaped}
use Rattle.text_model.specs.declared.value_name.ValueName.{ValueName}
use Rattle.text_model.specs.declared.value_name.ValueName.TheVariants.{Argument, Single, Part}
use Rattle.text_model.specs.PrintedOps.{found_name, found_number}
use Rattle.printed_types.proofs.ApartLemmas.{below}
use Rattle.printed_words.proofs.WordLemmas.{decimal-digits}
use Rattle.printed_ops.specs.Named.{is_alone, is_named, is_small}
use Rattle.printed_terms.specs.Told.{spells}
use Rattle.printed_terms.proofs.SpellLemmas.{suffix_spelled}
use Rattle.named_trees.specs.Named.{shown}

-- digits
digits_suffix : (bs : List ℕ) → list_all is_digit bs ≡ true → list_all is_suffix_byte bs ≡ true
unfolding is_suffix_byte
digits_suffix [] h = refl
digits_suffix (b ∷ bs) h = and-both _ _ (or_right (starts_suffix b) (is_digit b) (and-left _ _ h)) (digits_suffix bs (and-right (is_digit b) _ h))
  where
    or_right : (s t : Bool) → t ≡ true → (s || t) ≡ true
    or_right true t h = refl
    or_right false t h = h

run_all : (bs : List ℕ) → is_run is_digit bs ≡ true → list_all is_digit bs ≡ true
unfolding is_run
run_all [] h = absurd (false≢true h)
run_all (b ∷ []) h = h
run_all (b ∷ c ∷ bs) h = h

small : (k : ℕ) → is_small k ≡ true → k < 2 ^ 64
small k h = below k (2 ^ 64) h

wide : (k : ℕ) → k < 2 ^ 64 → k < 10 ^ 64
wide k h = omega arith

plain : (k : ℕ) → is_small k ≡ true → unescaped (decimal k) ≡ decimal k
plain k h = suffix_spelled (decimal k) (digits_suffix (decimal k) (run_all (decimal k) (decimal-digits k (wide k (small k h)))))

value_spelled : (k : ℕ) → is_small k ≡ true → spells kinds.Value (codes "%" ++ decimal k) ≡ 37 ∷ decimal k
unfolding core
value_spelled k h = ap (λ bs. 37 ∷ bs) (plain k h)

argument_spelled : (k : ℕ) → is_small k ≡ true → spells kinds.Value (codes "%arg" ++ decimal k) ≡ 37 ∷ 97 ∷ 114 ∷ 103 ∷ decimal k
unfolding core
argument_spelled k h = ap (λ bs. 37 ∷ 97 ∷ 114 ∷ 103 ∷ bs) (plain k h)

label_spelled : (k : ℕ) → is_small k ≡ true → spells kinds.Label (codes "^bb" ++ decimal k) ≡ 94 ∷ 98 ∷ 98 ∷ decimal k
unfolding core
label_spelled k h = ap (λ bs. 94 ∷ 98 ∷ 98 ∷ bs) (plain k h)

pub same_label : (j k : ℕ) → is_small j ≡ true → is_small k ≡ true → spells kinds.Label (codes "^bb" ++ decimal j) ≡ spells kinds.Label (codes "^bb" ++ decimal k) → j ≡ k
same_label j k f h e = decimal_injective j k (small j f) (small k h) (tails (decimal j) (decimal k) (sym (label_spelled j f) ∙ e ∙ label_spelled k h))
  where
    tails : (xs ys : List ℕ) → ◌≡◌ {A = List ℕ} (94 ∷ 98 ∷ 98 ∷ xs) (94 ∷ 98 ∷ 98 ∷ ys) → xs ≡ ys
    tails xs ys e = cc

-- names by their numbers

same_single : (j k : ℕ) → is_small j ≡ true → is_small k ≡ true → spells kinds.Value (codes "%" ++ decimal j) ≡ spells kinds.Value (codes "%" ++ decimal k) → j ≡ k
same_single j k f h e = decimal_injective j k (small j f) (small k h) (tails (decimal j) (decimal k) (sym (value_spelled j f) ∙ e ∙ value_spelled k h))
  where
    tails : (xs ys : List ℕ) → ◌≡◌ {A = List ℕ} (37 ∷ xs) (37 ∷ ys) → xs ≡ ys
    tails xs ys e = cc

same_argument : (j k : ℕ) → is_small j ≡ true → is_small k ≡ true → spells kinds.Value (codes "%arg" ++ decimal j) ≡ spells kinds.Value (codes "%arg" ++ decimal k) → j ≡ k
same_argument j k f h e = decimal_injective j k (small j f) (small k h) (tails (decimal j) (decimal k) (sym (argument_spelled j f) ∙ e ∙ argument_spelled k h))
  where
    tails : (xs ys : List ℕ) → ◌≡◌ {A = List ℕ} (37 ∷ 97 ∷ 114 ∷ 103 ∷ xs) (37 ∷ 97 ∷ 114 ∷ 103 ∷ ys) → xs ≡ ys
    tails xs ys e = cc

-- digits begin with no letter
no_digit : is_digit 97 ≡ false
unfolding is_digit
no_digit = refl

no_argument : (j k : ℕ) → is_small j ≡ true → is_small k ≡ true → spells kinds.Value (codes "%" ++ decimal j) ≡ spells kinds.Value (codes "%arg" ++ decimal k) → ⊥
no_argument j k f h e = begins (decimal j) (digits j f) (tails (decimal j) (decimal k) (sym (value_spelled j f) ∙ e ∙ argument_spelled k h))
  where
    tails : (xs ys : List ℕ) → ◌≡◌ {A = List ℕ} (37 ∷ xs) (37 ∷ 97 ∷ 114 ∷ 103 ∷ ys) → xs ≡ 97 ∷ 114 ∷ 103 ∷ ys
    tails xs ys e = cc

    digits : (k : ℕ) → is_small k ≡ true → list_all is_digit (decimal k) ≡ true
    digits k h = run_all (decimal k) (decimal-digits k (wide k (small k h)))

    begins : (xs : List ℕ) → list_all is_digit xs ≡ true → xs ≡ 97 ∷ 114 ∷ 103 ∷ decimal k → ⊥
    begins xs d e = false≢true (sym no_digit ∙ and-left _ _ (sym (ap (list_all is_digit) e) ∙ d))

-- what two values are printed as tells whether they are shown alike
pub same_shown : (o p : Option ValueName) → is_named o ≡ true → is_named p ≡ true → spells kinds.Value (found_number o) ≡ spells kinds.Value (found_number p) → shown o ≡ shown p
same_shown None p f h e = absurd (false≢true f)
same_shown (Some (Argument k)) None f h e = absurd (false≢true h)
same_shown (Some (Single k)) None f h e = absurd (false≢true h)
same_shown (Some (Part k i)) None f h e = absurd (false≢true h)
same_shown (Some (Argument k)) (Some (Argument j)) f h e = ap (λ m. Some (Argument m)) (same_argument k j f h e)
same_shown (Some (Argument k)) (Some (Single j)) f h e = absurd (no_argument j k h f (sym e))
same_shown (Some (Argument k)) (Some (Part j l)) f h e = absurd (no_argument j k (and-left _ _ h) f (sym e))
same_shown (Some (Single k)) (Some (Argument j)) f h e = absurd (no_argument k j f h e)
same_shown (Some (Single k)) (Some (Single j)) f h e = ap (λ m. Some (Single m)) (same_single k j f h e)
same_shown (Some (Single k)) (Some (Part j l)) f h e = ap (λ m. Some (Single m)) (same_single k j f (and-left _ _ h) e)
same_shown (Some (Part k i)) (Some (Argument j)) f h e = absurd (no_argument k j (and-left _ _ f) h e)
same_shown (Some (Part k i)) (Some (Single j)) f h e = ap (λ m. Some (Single m)) (same_single k j (and-left _ _ f) h e)
same_shown (Some (Part k i)) (Some (Part j l)) f h e = ap (λ m. Some (Single m)) (same_single k j (and-left _ _ f) (and-left _ _ h) e)

-- the number is printed of what is shown
pub number_shown : (o : Option ValueName) → found_number o ≡ found_number (shown o)
number_shown None = refl
number_shown (Some (Argument k)) = refl
number_shown (Some (Single k)) = refl
number_shown (Some (Part k i)) = refl

-- a value that is shown alone
pub alone_named : (o : Option ValueName) → is_alone o ≡ true → is_named o ≡ true
alone_named None h = h
alone_named (Some (Argument k)) h = h
alone_named (Some (Single k)) h = h
alone_named (Some (Part k i)) h = absurd (false≢true h)

pub alone_number : (o : Option ValueName) → is_alone o ≡ true → found_name o ≡ found_number o
alone_number None h = refl
alone_number (Some (Argument k)) h = refl
alone_number (Some (Single k)) h = refl
alone_number (Some (Part k i)) h = absurd (false≢true h)
