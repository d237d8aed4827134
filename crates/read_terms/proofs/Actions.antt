-- What most words do to the terms behind them keeps them fine.
use Rattle.std.proofs.Common.{◌≡◌, ℕ, ◌^◌, Bool, true, false, List, [], ◌∷◌, Option, Some, None, refl, true≢false, sym, arith}
use Rattle.std.specs.Prelude.{nat_lt}
use Rattle.std.specs.List.{list_all}
use Rattle.std.proofs.lemmas.Bool.Decides.{nat_tests}
use Rattle.mlir_lex.proofs.Lengths.{and-both, and-left, and-right}
use Rattle.text_grammar.specs.declared.places.Place.{Place}
use Rattle.text_grammar.specs.declared.places.Place.TheVariants as places
use Rattle.term_table.specs.declared.node.Form.{Form}
use Rattle.term_table.specs.declared.node.Form.TheVariants as forms
use Rattle.term_table.specs.Terms.{Term, nothing, node}
use Rattle.text_types.specs.declared.action.Action.{Action}
use Rattle.text_types.specs.declared.action.Action.TheVariants.{Keep, End, Alias, Put, Wrap, Join}
use Rattle.text_types.specs.declared.action.Actions.{Actions}
use Rattle.text_types.specs.Spelling.{Spelling}
use Rattle.text_types.specs.Actions.{actions_at, capped, dialect_of, integer_of, opens_items, opens_types, plain_of, results_of, value_of}
use Rattle.text_types.specs.Items.{acted, acted_both, joined, wrapped}
use Rattle.read_terms.proofs.Terms.{fine, is_width}

-- nodes that are fine where their parts are
abbrev is_free : Form → Bool
is_free forms.Int = false
is_free forms.Memref = false
is_free forms.Size = false
is_free forms.Dynamic = false
is_free forms.Array = false
is_free forms.Number = false
is_free forms.Minus = false
is_free forms.Numbers = false
is_free _ = true

abbrev is_free_action : Action → Bool
is_free_action (Put form value) = is_free form
is_free_action (Wrap form value) = is_free form
is_free_action (Join form value) = is_free form
is_free_action _ = true

-- the width of an integer type is from 1 to 64
abbrev pub is_sized : Option ℕ → Bool
is_sized None = true
is_sized (Some width) = is_width width

-- words that do more
abbrev pub is_boring : Place → Bool
is_boring places.MemrefWord = false
is_boring places.DimensionSize = false
is_boring places.ElementWord = false
is_boring places.ElementAlias = false
is_boring places.IntegerNumber = false
is_boring places.IntegerMinus = false
is_boring places.NumberColon = false
is_boring places.NumbersWidth = false
is_boring places.ListedNumber = false
is_boring places.ListedMinus = false
is_boring _ = true

abbrev Free : Actions → Type 0
Free a = (is_free_action a.first ≡ true) × (is_free_action a.second ≡ true)

opens_free : (next : Option Place) → is_free_action (opens_types next) ≡ true
opens_free None = refl
opens_free (Some places.StructClose) = refl
opens_free (Some places.ParametersClose) = refl
opens_free (Some places.FunctionClose) = refl
opens_free (Some places.ResultsClose) = refl
opens_free (Some places.SignatureClose) = refl
opens_free (Some _) = refl

items_free : (next : Option Place) → is_free_action (opens_items next) ≡ true
items_free None = refl
items_free (Some places.ItemsClose) = refl
items_free (Some _) = refl

results_free : (next : Option Place) → is_free_action (results_of next) ≡ true
results_free None = refl
results_free (Some places.ResultsOpen) = refl
results_free (Some _) = refl

value_free : (next : Option Place) → is_free_action (value_of next) ≡ true
value_free None = refl
value_free (Some places.EntryEquals) = refl
value_free (Some _) = refl

dialect_free : (name : ℕ) (next : Option Place) → is_free_action (dialect_of name next) ≡ true
dialect_free name None = refl
dialect_free name (Some places.DialectLess) = refl
dialect_free name (Some _) = refl

plain_free : (b : Bool) → is_free_action (plain_of b) ≡ true
plain_free true = refl
plain_free false = refl

-- types of so many bits and lengths of arrays aside, boring words do what keeps terms fine
abbrev is_free_place : Place → Bool
is_free_place places.IntegerWord = false
is_free_place places.ArrayNumber = false
is_free_place p = is_boring p

place_free : (words : Spelling) (p : Place) (name : ℕ) (next : Option Place) → is_free_place p ≡ true → Free (actions_at words p name next)
place_free words places.IntegerWord name next h = absurd (true≢false (sym h))
place_free words places.ArrayNumber name next h = absurd (true≢false (sym h))
place_free words places.MemrefWord name next h = absurd (true≢false (sym h))
place_free words places.DimensionSize name next h = absurd (true≢false (sym h))
place_free words places.ElementWord name next h = absurd (true≢false (sym h))
place_free words places.ElementAlias name next h = absurd (true≢false (sym h))
place_free words places.IntegerNumber name next h = absurd (true≢false (sym h))
place_free words places.IntegerMinus name next h = absurd (true≢false (sym h))
place_free words places.NumberColon name next h = absurd (true≢false (sym h))
place_free words places.NumbersWidth name next h = absurd (true≢false (sym h))
place_free words places.ListedNumber name next h = absurd (true≢false (sym h))
place_free words places.ListedMinus name next h = absurd (true≢false (sym h))
place_free words places.LlvmPlain name next h = (plain_free (words.is_void name), refl)
place_free words places.InnerPlain name next h = (plain_free (words.is_void name), refl)
place_free words places.StructOpen name next h = (opens_free next, refl)
place_free words places.ParametersOpen name next h = (opens_free next, refl)
place_free words places.ResultsOpen name next h = (opens_free next, refl)
place_free words places.FunctionArrow name next h = (results_free next, refl)
place_free words places.FunctionOpen name next h = (opens_free next, refl)
place_free words places.SignatureArrow name next h = (results_free next, refl)
place_free words places.SignatureOpen name next h = (opens_free next, refl)
place_free words places.ItemsOpen name next h = (items_free next, refl)
place_free words places.DialectName name next h = (dialect_free name next, refl)
place_free words places.EntryName name next h = (value_free next, refl)
place_free words _ name next h = (refl, refl)

capped_below : (m n : ℕ) → nat_lt n m ≡ true → nat_lt (capped n) m ≡ true
capped_below m n h = grind (arith, nat_tests)

module _ (number : ℕ → ℕ) where
  node_fine : (form : Form) (value : ℕ) (l r : Term) → is_free form ≡ true → fine number l ≡ true → fine number r ≡ true → fine number (node form value l r) ≡ true
  node_fine forms.Int value l r h k m = absurd (true≢false (sym h))
  node_fine forms.Index value l r h k m = refl
  node_fine forms.Memref value l r h k m = absurd (true≢false (sym h))
  node_fine forms.Size value l r h k m = absurd (true≢false (sym h))
  node_fine forms.Dynamic value l r h k m = absurd (true≢false (sym h))
  node_fine forms.Array value l r h k m = absurd (true≢false (sym h))
  node_fine forms.Number value l r h k m = absurd (true≢false (sym h))
  node_fine forms.Minus value l r h k m = absurd (true≢false (sym h))
  node_fine forms.Numbers value l r h k m = absurd (true≢false (sym h))
  node_fine _ value l r h k m = and-both _ _ k m

  abbrev pub all_fine : List Term → Type 0
  all_fine ts = list_all (fine number) ts ≡ true

  pub first_fine : (t : Term) (ts : List Term) → all_fine (t ∷ ts) → fine number t ≡ true
  first_fine t ts h = and-left _ _ h

  pub rest_fine : (t : Term) (ts : List Term) → all_fine (t ∷ ts) → all_fine ts
  rest_fine t ts h = and-right (fine number t) _ h

  wrapped_fine : (form : Form) (value : ℕ) (ts : List Term) → is_free form ≡ true → all_fine ts → all_fine (wrapped form value ts)
  wrapped_fine form value [] h k = refl
  wrapped_fine form value (t ∷ ts) h k = and-both _ _ (node_fine form value t nothing h (first_fine t ts k) refl) (rest_fine t ts k)

  joined_fine : (form : Form) (value : ℕ) (ts : List Term) → is_free form ≡ true → all_fine ts → all_fine (joined form value ts)
  joined_fine form value [] h k = refl
  joined_fine form value (t ∷ []) h k = refl
  joined_fine form value (t ∷ u ∷ ts) h k = and-both _ _ (node_fine form value t u h (first_fine t (u ∷ ts) k) (first_fine u ts (rest_fine t (u ∷ ts) k))) (rest_fine u ts (rest_fine t (u ∷ ts) k))

  acted_fine : (alias : Term) (a : Action) (ts : List Term) → is_free_action a ≡ true → fine number alias ≡ true → all_fine ts → all_fine (acted alias a ts)
  acted_fine alias Keep ts h e k = k
  acted_fine alias End ts h e k = k
  acted_fine alias Alias ts h e k = and-both _ _ e k
  acted_fine alias (Put form value) ts h e k = and-both _ _ (node_fine form value nothing nothing h refl refl) k
  acted_fine alias (Wrap form value) ts h e k = wrapped_fine form value ts h k
  acted_fine alias (Join form value) ts h e k = joined_fine form value ts h k

  both_fine : (alias : Term) (a : Actions) (ts : List Term) → Free a → fine number alias ≡ true → all_fine ts → all_fine (acted_both alias a ts)
  both_fine alias a ts f e k = acted_fine alias a.second (acted alias a.first ts) f.1 e (acted_fine alias a.first ts f.0 e k)

  integer_word : (o : Option ℕ) (alias : Term) (ts : List Term) → is_sized o ≡ true → all_fine ts → all_fine (acted alias (integer_of o) ts)
  integer_word None alias ts s k = k
  integer_word (Some width) alias ts s k = and-both _ _ s k

  array_number : (n : ℕ) (ts : List Term) → nat_lt n (2 ^ 32) ≡ true → all_fine ts → all_fine (joined forms.Array (capped n) ts)
  array_number n [] s k = refl
  array_number n (t ∷ []) s k = refl
  array_number n (t ∷ u ∷ ts) s k = and-both _ _ (and-both _ _ (capped_below (2 ^ 32) n s) (first_fine t (u ∷ ts) k)) (rest_fine u ts (rest_fine t (u ∷ ts) k))

-- the width of the numbers of an array
abbrev pub is_wide : Option ℕ → Bool
is_wide None = false
is_wide (Some width) = is_width width

-- what is asked of the word's name
abbrev pub Sound : Spelling → Place → ℕ → Type 0
Sound words places.IntegerWord name = is_sized (words.width name) ≡ true
Sound words places.ElementWord name = is_sized (words.width name) ≡ true
Sound words places.NumbersWidth name = is_wide (words.width name) ≡ true
Sound words places.ArrayNumber name = nat_lt (words.number name) (2 ^ 32) ≡ true
Sound words _ name = Unit {0}

pub boring_fine : (words : Spelling) (p : Place) (name : ℕ) (next : Option Place) (alias : Term) (ts : List Term) → is_boring p ≡ true → Sound words p name → fine words.number alias ≡ true
    → all_fine words.number ts → all_fine words.number (acted_both alias (actions_at words p name next) ts)
boring_fine words places.IntegerWord name next alias ts h s e k = integer_word words.number (words.width name) alias ts s k
boring_fine words places.ArrayNumber name next alias ts h s e k = array_number words.number (words.number name) ts s k
boring_fine words places.MemrefWord name next alias ts h s e k = absurd (true≢false (sym h))
boring_fine words p name next alias ts h s e k = both_fine words.number alias (actions_at words p name next) ts (place_free words p name next h) e k
