-- What holds of types where values are named, and of types and their terms.
use Rattle.std.specs.Prelude.{◌≡◌, ◌↔◌, ℕ, suc, ◌+◌, Bool, true, false, List, [], ◌∷◌, ◌++◌, None, length, take, IsTrue, if◌then◌else◌}
use Rattle.text_grammar.specs.declared.places.Place.{Place}
use Rattle.text_grammar.specs.declared.places.Place.TheVariants as places
use Rattle.text_events.specs.declared.event.Event.{Event}
use Rattle.plain_tree.specs.Types.{PlainType}
use Rattle.term_table.specs.Terms.{Term}
use Rattle.text_types.specs.Plain.{term_of}
use Rattle.text_types.specs.Spelling.{Spelling}
use Rattle.text_types.specs.Items.{Aliases}
use Rattle.use_kinds.specs.Same.{same_term}
use Rattle.use_kinds.specs.Clashes.{is_use}
use Rattle.use_kinds.specs.Written.{Waiting, count_of, function_type, inputs_of, results_of, types_from}

-- the terms of two types are the same exactly where the types are
abbrev pub OneTermForAType : Type 0
OneTermForAType = (t u : PlainType) → IsTrue (same_term (term_of t) (term_of u)) ↔ (t ≡ u)

abbrev pub AllAt : (Place → Bool) → List Event → Type 0
AllAt test [] = Unit {0}
AllAt test (e ∷ es) = (test e.place ≡ true) × AllAt test es

abbrev pub all_of : List (List Term) → List Term
all_of [] = []
all_of (ts ∷ rest) = ts ++ all_of rest

-- Operands

-- what stands between an operation's name and the `)` of its operands
abbrev pub is_operand_word : Place → Bool
is_operand_word places.OperandsOpen = true
is_operand_word places.UseName = true
is_operand_word places.UseNumber = true
is_operand_word places.UseComma = true
is_operand_word _ = false

-- how many operands there are
abbrev pub uses_in : List Event → ℕ
uses_in [] = 0
uses_in (e ∷ es) = if is_use e.place then suc (uses_in es) else uses_in es

-- the types of the operands of an operation are the first ones of its inputs, as many, in order, whatever stands before it and behind them
abbrev pub OperandsInOrder : Type 0
OperandsInOrder = (words : Spelling) (aliases : Aliases) (s : Waiting) (name : Event) (operands behind : List Event) → name.place ≡ places.OpName → AllAt is_operand_word operands
    → all_of (take (suc (length operands)) (types_from words aliases s (name ∷ operands ++ behind))) ≡ take (uses_in operands) (inputs_of (function_type words aliases (operands ++ behind)))

-- Results

-- what stands in an operation before its name
abbrev pub is_result_word : Place → Bool
is_result_word places.ResultName = true
is_result_word places.ResultColon = true
is_result_word places.ResultNumber = true
is_result_word places.ResultComma = true
is_result_word places.ResultsEquals = true
is_result_word _ = false

abbrev pub is_result_name : Place → Bool
is_result_name places.ResultName = true
is_result_name _ = false

-- how many values the names stand for, where these follow
abbrev pub values_in : Spelling → List Event → List Event → ℕ
values_in words [] behind = 0
values_in words (e ∷ es) behind = if is_result_name e.place then count_of words (es ++ behind) + values_in words es behind else values_in words es behind

-- the types of the values that the result names of an operation stand for are the first ones of its results, as many, in order
abbrev pub ResultsInOrder : Type 0
ResultsInOrder = (words : Spelling) (aliases : Aliases) (s : Waiting) (names behind : List Event) → s.results ≡ None → AllAt is_result_word names
    → all_of (take (length names) (types_from words aliases s (names ++ behind))) ≡ take (values_in words names behind) (results_of (function_type words aliases (names ++ behind)))
