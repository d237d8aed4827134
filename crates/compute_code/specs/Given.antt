-- What the results of the code stand for.
use Rattle.std.specs.Prelude.{List, [], ◌∷◌, Bool}
use Rattle.number_model.specs.Answers.{Answer}
use Rattle.operation_model.specs.Values as model
use Rattle.value_code.specs.declared.value.Value.{Value}
use Rattle.value_code.specs.declared.look.Looked.{Looked}
use Rattle.value_code.specs.Models.{answer_of, value_of}

-- the value as the one result
abbrev pub given : Looked Value → Answer (List model.Value)
given l = answer_of (λ v. value_of v ∷ []) l

-- the memref itself as the one result
abbrev pub cast_of : Looked (Unit {0}) → model.Value → Answer (List model.Value)
cast_of l m = answer_of (λ u. m ∷ []) l

abbrev pub size_answer : Looked Bool → Answer Bool
size_answer l = answer_of (λ b. b) l
