-- The kinds of the words of types.
use Rattle.std.proofs.Common.{◌≡◌, inr, ℕ, zero, suc, ◌<◌, ◌≤◌, Bool, true, false, ◌==◌, ◌&&◌, ◌||◌, List, [], ◌∷◌, ◌++◌, Some, refl, sym, ap, ◌∙◌, subst, arith}
use Rattle.std.specs.Prelude.{codes, decimal}
use Rattle.std.specs.Fmt.{digits}
use Rattle.std.specs.List.{list_all}
use Rattle.std.proofs.lemmas.Bool.{false≢true}
use Rattle.std.proofs.lemmas.Bool.Decides.{nat_tests}
use Rattle.mlir_lex.specs.Bytes.{is_bare, is_digit, is_bare_byte, starts_bare, is_letter, starts_suffix, is_suffix_byte}
use Rattle.mlir_lex.specs.Tokens.{is_run, IsName, IsSuffix}
use Rattle.mlir_lex.proofs.Lengths.{and-both, and-left, and-right, eqb-is}
use Rattle.line_grammar.specs.Conditions.{at_place}
use Rattle.text_grammar.specs.declared.kinds.Kind.{Kind}
use Rattle.text_grammar.specs.declared.kinds.Kind.TheVariants as kinds
use Rattle.text_grammar.specs.Kinds.{number, every, is_kind}
use Rattle.text_grammar.specs.TokenKinds.{bare_kind, type_word, type_kind}
use Rattle.printed_words.proofs.WordLemmas.{decimal-digits}
use Rattle.printed_types.specs.TypeWords.{int_kind}

-- kinds that are told the same are the same
number_at : (k : Kind) → at_place (number k) every ≡ Some k
number_at kinds.Value = refl
number_at _ = refl

pub kind_same : (a b : Kind) → is_kind a b ≡ true → a ≡ b
kind_same a b h =
    let e : number a ≡ number b = eqb-is (number a) (number b) h in
    let s : Some a ≡ Some b = sym (number_at a) ∙ ap (λ n. at_place n every) e ∙ number_at b in
    cc

-- what is tested of each number below another one
abbrev all_below : ℕ → (ℕ → Bool) → Bool
all_below zero p = true
all_below (suc n) p = p n && all_below n p

one_below : (n w : ℕ) (p : ℕ → Bool) → all_below n p ≡ true → w < n → p w ≡ true
one_below zero w p h l = absurd (omega arith)
one_below (suc n) w p h l = by_test (w == n) refl (λ k. one_below n w p (and-right (p n) _ h) k)
  where
    by_test : (t : Bool) → (w == n) ≡ t → (w < n → p w ≡ true) → p w ≡ true
    by_test true e deep = subst (λ m. p m ≡ true) (sym (eqb-is w n e)) (and-left (p n) _ h)
    by_test false e deep = deep (grind (arith, nat_tests))

-- the word of an integer type
abbrev agrees : ℕ → Bool
agrees w = (w == 0) || is_kind (bare_kind (codes "i" ++ decimal w)) (int_kind w)

kinds_agree : all_below 65 agrees ≡ true
unfolding bare_kind type_word digits is_digit
kinds_agree = refl

or-false : (s t : Bool) → s ≡ false → (s || t) ≡ true → t ≡ true
or-false true t h k = absurd (false≢true (sym h))
or-false false t h k = k

pub int_kind_is : (w : ℕ) → 0 < w → w ≤ 64 → bare_kind (codes "i" ++ decimal w) ≡ int_kind w
int_kind_is w some few =
    let not_zero : (w == 0) ≡ false = grind (arith, nat_tests) in
    let told : agrees w ≡ true = one_below 65 w agrees kinds_agree (omega arith) in
    kind_same _ _ (or-false (w == 0) _ not_zero told)

digit-bare : (b : ℕ) → is_digit b ≡ true → is_bare_byte b ≡ true
unfolding is_digit is_bare_byte is_letter
digit-bare b h = grind (arith, nat_tests)

digits-bare : (bs : List ℕ) → list_all is_digit bs ≡ true → list_all is_bare_byte bs ≡ true
digits-bare [] h = refl
digits-bare (b ∷ bs) h = and-both _ _ (digit-bare b (and-left _ _ h)) (digits-bare bs (and-right (is_digit b) _ h))

run-all : (bs : List ℕ) → is_run is_digit bs ≡ true → list_all is_digit bs ≡ true
unfolding is_run
run-all [] h = absurd (false≢true h)
run-all (b ∷ bs) h = h

pub int_bare : (w : ℕ) → w ≤ 64 → is_bare (codes "i" ++ decimal w) ≡ true
unfolding starts_bare is_letter
int_bare w few = digits-bare (decimal w) (run-all (decimal w) (decimal-digits w (omega arith)))

-- bare identifiers
pub bare_index : is_bare (codes "index") ≡ true
unfolding starts_bare is_letter is_bare_byte is_digit
bare_index = refl

pub kind_index : bare_kind (codes "index") ≡ kinds.WordInteger
unfolding bare_kind type_word
kind_index = refl

pub bare_memref : is_bare (codes "memref") ≡ true
unfolding starts_bare is_letter is_bare_byte is_digit
bare_memref = refl

pub kind_memref : bare_kind (codes "memref") ≡ kinds.WordMemref
unfolding bare_kind type_word is_digit
kind_memref = refl

pub bare_x : is_bare (codes "x") ≡ true
unfolding starts_bare is_letter is_bare_byte is_digit
bare_x = refl

pub kind_x : bare_kind (codes "x") ≡ kinds.WordX
unfolding bare_kind type_word
kind_x = refl

-- the names of the llvm dialect
pub record LlvmName (outer inner : Kind) (name : List ℕ) : Type 0 where
  pub bare : is_bare name ≡ true
  pub inner_is : bare_kind name ≡ inner
  pub led : IsName 33 (codes "!llvm." ++ name)
  pub outer_is : type_kind (codes "!llvm." ++ name) ≡ outer

pub name_ptr : LlvmName kinds.TypePlain kinds.WordPlain (codes "ptr")
unfolding bare_kind type_word type_kind starts_bare is_letter is_bare_byte is_digit IsName IsSuffix starts_suffix is_suffix_byte
name_ptr = record { bare = refl; inner_is = refl; led = (codes "llvm.ptr", refl, inr refl); outer_is = refl }

pub name_void : LlvmName kinds.TypePlain kinds.WordPlain (codes "void")
unfolding bare_kind type_word type_kind starts_bare is_letter is_bare_byte is_digit IsName IsSuffix starts_suffix is_suffix_byte
name_void = record { bare = refl; inner_is = refl; led = (codes "llvm.void", refl, inr refl); outer_is = refl }

pub name_struct : LlvmName kinds.TypeStruct kinds.WordStruct (codes "struct")
unfolding bare_kind type_word type_kind starts_bare is_letter is_bare_byte is_digit IsName IsSuffix starts_suffix is_suffix_byte
name_struct = record { bare = refl; inner_is = refl; led = (codes "llvm.struct", refl, inr refl); outer_is = refl }

pub name_array : LlvmName kinds.TypeArray kinds.WordArray (codes "array")
unfolding bare_kind type_word type_kind starts_bare is_letter is_bare_byte is_digit IsName IsSuffix starts_suffix is_suffix_byte
name_array = record { bare = refl; inner_is = refl; led = (codes "llvm.array", refl, inr refl); outer_is = refl }

pub name_func : LlvmName kinds.TypeFunction kinds.WordFunction (codes "func")
unfolding bare_kind type_word type_kind starts_bare is_letter is_bare_byte is_digit IsName IsSuffix starts_suffix is_suffix_byte
name_func = record { bare = refl; inner_is = refl; led = (codes "llvm.func", refl, inr refl); outer_is = refl }
