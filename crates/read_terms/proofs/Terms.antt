-- Terms of which each type is formed, and each number is one of its type.
use Rattle.std.proofs.Common.{◌≡◌, ℕ, ◌-◌, ◌^◌, Bool, true, false, length, refl, true≢false, sym}
use Rattle.std.specs.Prelude.{◌&&◌, nat_lt, nat_le}
use Rattle.std.specs.List.{list_all}
use Rattle.mlir_lex.proofs.Lengths.{and-both, and-left, and-right}
use Rattle.rule_model.specs.Forms.{is_number}
use Rattle.rule_model.specs.Formed.{are_formed_types, is_dim, is_formed_type}
use Rattle.term_table.specs.declared.node.Form.TheVariants as forms
use Rattle.term_table.specs.Terms.{Term, nothing, node}
use Rattle.text_types.specs.Plain.{sizes_of, type_of, types_of}

-- of 1 to 64 bits
abbrev pub is_width : ℕ → Bool
is_width width = nat_lt 0 width && nat_le width 64

-- iN or `index`
abbrev pub is_integer : Term → Bool
is_integer (node forms.Int width _ _) = is_width width
is_integer (node forms.Index _ _ _) = true
is_integer _ = false

-- the type of a number, or none
abbrev pub is_number_type : Term → Bool
is_number_type nothing = true
is_number_type (node form value left right) = is_integer (node form value left right)

-- how many bits the numbers of this type have
abbrev pub bits_in : Term → ℕ
bits_in (node forms.Int width _ _) = width
bits_in _ = 64

-- sizes of a memref before its element
abbrev pub is_tail : Term → Bool
is_tail (node forms.Size n more _) = nat_lt n (2 ^ 63) && is_tail more
is_tail (node forms.Dynamic _ more _) = is_tail more
is_tail nothing = false
is_tail (node form value left right) = is_integer (node form value left right)

module _ (number : ℕ → ℕ) where
  -- a number behind a minus
  abbrev pub is_fit_minus : Term → Bool
  is_fit_minus (node forms.Number name t _) = is_number_type t && nat_le (number name) (2 ^ (bits_in t - 1))
  is_fit_minus _ = true

  -- the numbers of an array, each of so many bits
  abbrev pub are_listed : ℕ → Term → Bool
  are_listed bits (node forms.Listed name more _) = nat_lt (number name) (2 ^ bits) && are_listed bits more
  are_listed bits (node forms.ListedMinus _ (node forms.Listed name more _) _) = nat_le (number name) (2 ^ (bits - 1)) && are_listed bits more
  are_listed bits _ = true

  abbrev pub fine : Term → Bool
  fine nothing = true
  fine (node forms.Int width _ _) = is_width width
  fine (node forms.Index _ _ _) = true
  fine (node forms.Memref _ sizes _) = nat_le (length (sizes_of sizes)) 8 && is_tail sizes
  fine (node forms.Size _ _ _) = false
  fine (node forms.Dynamic _ _ _) = false
  fine (node forms.Array n element _) = nat_lt n (2 ^ 32) && fine element
  fine (node forms.Number name t _) = is_number_type t && nat_lt (number name) (2 ^ bits_in t)
  fine (node forms.Minus _ n _) = is_fit_minus n
  fine (node forms.Numbers bits ns _) = nat_lt 0 bits && are_listed bits ns
  fine (node _ _ left right) = fine left && fine right

  -- Types are formed

  tail_dims : (t : Term) → is_tail t ≡ true → list_all is_dim (sizes_of t) ≡ true
  tail_dims (node forms.Size n more right) h = and-both _ _ (and-left _ _ h) (tail_dims more (and-right (nat_lt n (2 ^ 63)) _ h))
  tail_dims (node forms.Dynamic n more right) h = tail_dims more h
  tail_dims _ h = refl

  tail_element : (t : Term) → is_tail t ≡ true → (is_number (type_of t) && is_formed_type (type_of t)) ≡ true
  tail_element (node forms.Size n more right) h = tail_element more (and-right (nat_lt n (2 ^ 63)) _ h)
  tail_element (node forms.Dynamic n more right) h = tail_element more h
  tail_element (node forms.Int n left right) h = h
  tail_element (node forms.Index n left right) h = refl
  tail_element _ h = absurd (true≢false (sym h))

  mutual
    pub type_formed : (t : Term) → fine t ≡ true → is_formed_type (type_of t) ≡ true
    type_formed (node forms.Int n left right) h = h
    type_formed (node forms.Index n left right) h = refl
    type_formed (node forms.Memref n sizes right) h =
        and-both _ _ (and-left _ _ h) (and-both _ _ (tail_dims sizes (and-right (nat_le (length (sizes_of sizes)) 8) _ h)) (tail_element sizes (and-right (nat_le (length (sizes_of sizes)) 8) _ h)))
    type_formed (node forms.Func n inputs results) h = and-both _ _ (all_formed inputs (and-left _ _ h)) (all_formed results (and-right (fine inputs) _ h))
    type_formed (node forms.Ptr n left right) h = refl
    type_formed (node forms.Struct n fields right) h = all_formed fields (and-left _ _ h)
    type_formed (node forms.Array n element right) h = and-both _ _ (and-left _ _ h) (type_formed element (and-right (nat_lt n (2 ^ 32)) _ h))
    type_formed (node forms.LlvmFunc n output inputs) h = and-both _ _ (type_formed output (and-left _ _ h)) (all_formed inputs (and-right (fine output) _ h))
    type_formed (node forms.Size n more right) h = absurd (true≢false (sym h))
    type_formed (node forms.Dynamic n more right) h = absurd (true≢false (sym h))
    type_formed _ h = refl

    pub all_formed : (t : Term) → fine t ≡ true → are_formed_types (types_of t) ≡ true
    all_formed (node forms.Types n first more) h = and-both _ _ (type_formed first (and-left _ _ h)) (all_formed more (and-right (fine first) _ h))
    all_formed _ h = refl

  pub integer_fine : (t : Term) → is_integer t ≡ true → fine t ≡ true
  integer_fine (node forms.Int n left right) h = h
  integer_fine (node forms.Index n left right) h = refl
  integer_fine _ h = absurd (true≢false (sym h))
