-- What is read of the parts of the grammar: each word and each part keeps terms fine.
use Rattle.std.proofs.Common.{◌≡◌, ℕ, ◌+◌, ◌<◌, ◌≤◌, Bool, true, false, List, [], ◌∷◌, length, Option, Some, None, refl, sym, ap, ◌∙◌, subst, arith, true≢false}
use Rattle.std.specs.Prelude.{nat_lt, nat_le, if◌then◌else◌}
use Rattle.std.proofs.lemmas.Bool.Decides.{nat_tests}
use Rattle.mlir_lex.proofs.Lengths.{and-both}
use Rattle.text_grammar.specs.declared.places.Place.{Place}
use Rattle.text_grammar.specs.declared.places.Place.TheVariants as places
use Rattle.term_table.specs.declared.node.Form.TheVariants as forms
use Rattle.term_table.specs.Terms.{Term, nothing, node}
use Rattle.text_events.specs.declared.event.Event.{Event}
use Rattle.text_types.specs.Spelling.{Spelling}
use Rattle.text_types.specs.Plain.{sizes_of}
use Rattle.text_types.specs.Actions.{integer_of, number_of, size_of, width_of}
use Rattle.text_types.specs.Items.{Aliases, acted, joined, place_next, wrapped}
use Rattle.text_types.specs.Marks.{marked_at}
use Rattle.type_kinds.specs.Ranges.{is_colon, is_long_size, next_width, number_width, unfits, unfits_some, written_width}
use Rattle.read_terms.proofs.Terms.{are_listed, bits_in, integer_fine, is_integer, is_tail, is_width}
use Rattle.read_terms.proofs.Actions.{Sound, all_fine, is_boring, is_sized, is_wide, rest_fine}
use Rattle.read_terms.proofs.Fits.{bits_positive, fits, fits_minus, is_typed, size_below, written_narrow}

-- Terms that stand first

abbrev pub colon_next : List Event → Bool
colon_next [] = false
colon_next (e ∷ es) = is_colon e.place

module _ (number : ℕ → ℕ) where
  -- the sizes and the element of a memref that has so many sizes before
  abbrev pub TailFirst : ℕ → List Term → Type 0
  TailFirst n [] = Unit {0}
  TailFirst n (t ∷ ts) = (is_tail t ≡ true) × (length (sizes_of t) + n ≤ 8) × all_fine number ts

  -- an integer type of this width
  abbrev pub IntegerFirst : Option ℕ → List Term → Type 0
  IntegerFirst w [] = Unit {0}
  IntegerFirst w (t ∷ ts) = (is_integer t ≡ true) × (w ≡ Some (bits_in t)) × all_fine number ts

  -- numbers of an array, each of so many bits
  abbrev pub ListFirst : ℕ → List Term → Type 0
  ListFirst w [] = Unit {0}
  ListFirst w (t ∷ ts) = (are_listed number w t ≡ true) × all_fine number ts

  pub integer_all : (w : Option ℕ) (ts : List Term) → IntegerFirst w ts → all_fine number ts
  integer_all w [] f = refl
  integer_all w (t ∷ ts) f = and-both _ _ (integer_fine number t f.0) f.2

  -- what words do to them

  pub size_more : (o : Option ℕ) (alias : Term) (n m : ℕ) (ts : List Term) → is_long_size o ≡ false → n < 8 → m ≡ n + 1 → TailFirst m ts → TailFirst n (acted alias (size_of o) ts)
  size_more None alias n m [] s l e f = tt
  size_more (Some size) alias n m [] s l e f = tt
  size_more None alias n m (t ∷ ts) s l e f = (f.0, let k : length (sizes_of t) + m ≤ 8 = f.1 in omega (arith, k, e), f.2)
  size_more (Some size) alias n m (t ∷ ts) s l e f = (and-both _ _ (size_below size s) f.0, let k : length (sizes_of t) + m ≤ 8 = f.1 in omega (arith, k, e), f.2)

  pub element_tail : (w : Option ℕ) (n : ℕ) (ts : List Term) → n ≤ 8 → IntegerFirst w ts → TailFirst n ts
  element_tail w n [] l f = tt
  element_tail w n (t ∷ ts) l f = (tail_of t f.0, few t f.0, f.2)
    where
      tail_of : (t : Term) → is_integer t ≡ true → is_tail t ≡ true
      tail_of (node forms.Int v left right) h = h
      tail_of (node forms.Index v left right) h = refl
      tail_of _ h = absurd (true≢false (sym h))

      few : (t : Term) → is_integer t ≡ true → length (sizes_of t) + n ≤ 8
      few (node forms.Int v left right) h = omega (arith, l)
      few (node forms.Index v left right) h = omega (arith, l)
      few _ h = absurd (true≢false (sym h))

  pub memref_made : (ts : List Term) → TailFirst 0 ts → all_fine number (joined forms.Memref 0 ts)
  memref_made [] f = refl
  memref_made (t ∷ []) f = refl
  memref_made (t ∷ u ∷ ts) f = and-both _ _ (and-both _ _ (few (length (sizes_of t)) f.1) f.0) (rest_fine number u ts f.2)
    where
      few : (n : ℕ) → n + 0 ≤ 8 → nat_le n 8 ≡ true
      few n h = grind (arith, nat_tests)

  pub array_made : (o : Option ℕ) (ts : List Term) → is_wide o ≡ true → ListFirst (written_width o) ts → all_fine number (wrapped forms.Numbers (width_of o) ts)
  array_made None ts w f = absurd (true≢false (sym w))
  array_made (Some width) [] w f = refl
  array_made (Some width) (t ∷ ts) w f = and-both _ _ (and-both _ _ (positive width w) (subst (λ n. are_listed number n t ≡ true) (written_narrow width w) f.0)) f.1
    where
      positive : (n : ℕ) → is_width n ≡ true → nat_lt 0 n ≡ true
      positive n h = grind (arith, nat_tests)

  pub listed_more : (name w : ℕ) (minus : Bool) (ts : List Term) → 0 < w → unfits minus w (number name) ≡ false → ListFirst w ts → ListFirst w (wrapped forms.Listed name ts)
  listed_more name w minus [] p u f = tt
  listed_more name w minus (t ∷ ts) p u f = (and-both _ _ (fits minus w (number name) p u) f.0, f.1)

  pub minus_listed : (name w : ℕ) (ts : List Term) → unfits true w (number name) ≡ false → ListFirst w ts → ListFirst w (wrapped forms.ListedMinus 0 (wrapped forms.Listed name ts))
  minus_listed name w [] u f = tt
  minus_listed name w (t ∷ ts) u f = (and-both _ _ (fits_minus w (number name) u) f.0, f.1)

  pub element_word : (o : Option ℕ) (alias : Term) (ts : List Term) → is_sized o ≡ true → all_fine number ts → IntegerFirst (Some (written_width o)) (acted alias (integer_of o) ts)
  element_word None alias ts s f = (refl, refl, f)
  element_word (Some w) alias ts s f = (s, ap Some (written_narrow w s), f)

-- a number of which the width is decided so
module _ (words : Spelling) (final : Aliases) where
  alone : (name : ℕ) (minus : Bool) (alias : Term) (ts : List Term) → unfits minus 64 (words.number name) ≡ false → all_fine words.number ts → all_fine words.number (node forms.Number name nothing nothing ∷ ts)
  alone name minus alias ts u f = and-both _ _ (fits minus 64 (words.number name) (omega arith) u) f

  typed : (name : ℕ) (minus : Bool) (w : Option ℕ) (ts : List Term) → unfits_some w minus (words.number name) ≡ false → IntegerFirst words.number w ts → all_fine words.number (wrapped forms.Number name ts)
  typed name minus w [] u f = refl
  typed name minus w (t ∷ ts) u f =
      and-both _ _ (and-both _ _ (is_typed t f.0) (fits minus (bits_in t) (words.number name) (bits_positive t f.0) (sym (ap (λ o. unfits_some o minus (words.number name)) f.1) ∙ u))) f.2

  number_at : (name : ℕ) (minus : Bool) (alias : Term) (p : Place) (es : List Event) (ts : List Term)
      → unfits_some (if is_colon p then next_width words final es else Some 64) minus (words.number name) ≡ false → all_fine words.number ts
      → (is_colon p ≡ true → IntegerFirst words.number (if is_colon p then next_width words final es else Some 64) ts) → all_fine words.number (acted alias (number_of name (Some p)) ts)
  number_at name minus alias places.NumberColon es ts u f c = typed name minus (next_width words final es) ts u (c refl)
  number_at name minus alias _ es ts u f c = alone name minus alias ts u f

  pub number_made : (name : ℕ) (minus : Bool) (alias : Term) (es : List Event) (ts : List Term) → unfits_some (number_width words final es) minus (words.number name) ≡ false → all_fine words.number ts
      → (colon_next es ≡ true → IntegerFirst words.number (number_width words final es) ts) → all_fine words.number (acted alias (number_of name (place_next es)) ts)
  number_made name minus alias [] ts u f c = alone name minus alias ts u f
  number_made name minus alias (e ∷ es) ts u f c = number_at name minus alias e.place es ts u f c

  minus_alone : (name : ℕ) (ts : List Term) → unfits true 64 (words.number name) ≡ false → all_fine words.number ts
      → all_fine words.number (wrapped forms.Minus 0 (node forms.Number name nothing nothing ∷ ts))
  minus_alone name ts u f = and-both _ _ (fits_minus 64 (words.number name) u) f

  minus_typed : (name : ℕ) (w : Option ℕ) (ts : List Term) → unfits_some w true (words.number name) ≡ false → IntegerFirst words.number w ts → all_fine words.number (wrapped forms.Minus 0 (wrapped forms.Number name ts))
  minus_typed name w [] u f = refl
  minus_typed name w (t ∷ ts) u f =
      and-both _ _ (and-both _ _ (is_typed t f.0) (fits_minus (bits_in t) (words.number name) (sym (ap (λ o. unfits_some o true (words.number name)) f.1) ∙ u))) f.2

  minus_at : (name : ℕ) (alias other : Term) (p : Place) (es : List Event) (ts : List Term)
      → unfits_some (if is_colon p then next_width words final es else Some 64) true (words.number name) ≡ false → all_fine words.number ts
      → (is_colon p ≡ true → IntegerFirst words.number (if is_colon p then next_width words final es else Some 64) ts) → all_fine words.number (wrapped forms.Minus 0 (acted alias (number_of name (Some p)) ts))
  minus_at name alias other places.NumberColon es ts u f c = minus_typed name (next_width words final es) ts u (c refl)
  minus_at name alias other _ es ts u f c = minus_alone name ts u f

  pub minus_made : (name : ℕ) (alias : Term) (es : List Event) (ts : List Term) → unfits_some (number_width words final es) true (words.number name) ≡ false → all_fine words.number ts
      → (colon_next es ≡ true → IntegerFirst words.number (number_width words final es) ts) → all_fine words.number (wrapped forms.Minus 0 (acted alias (number_of name (place_next es)) ts))
  minus_made name alias [] ts u f c = minus_alone name ts u f
  minus_made name alias (e ∷ es) ts u f c = minus_at name alias nothing e.place es ts u f c

-- Boring words, where function types are marked

pub boring_marked : (p : Place) (a b : Bool) → is_boring p ≡ true → is_boring (marked_at p a b) ≡ true
boring_marked places.ResultsClose true b h = refl
boring_marked places.ResultsClose false b h = refl
boring_marked places.ResultsOpen a true h = refl
boring_marked places.ResultsOpen a false h = refl
boring_marked _ a b h = h

pub sound_marked : (words : Spelling) (p : Place) (name : ℕ) (a b : Bool) → Sound words p name → Sound words (marked_at p a b) name
sound_marked words places.ResultsClose name true b h = tt
sound_marked words places.ResultsClose name false b h = tt
sound_marked words places.ResultsOpen name a true h = tt
sound_marked words places.ResultsOpen name a false h = tt
sound_marked words _ name a b h = h

pub quiet_boring : (p : Place) → is_boring p ≡ true → is_colon p ≡ false
quiet_boring places.NumberColon h = absurd (true≢false (sym h))
quiet_boring _ h = refl
