-- The greater and the less of two, by a comparison and a choice.
use Rattle.std.proofs.Common.{◌≡◌, ℕ, Bool, true, false, refl, ap, ◌∙◌}
use Rattle.std.specs.Prelude.{◌==◌, if◌then◌else◌}
use Rattle.number_model.specs.Numbers.{unsigned}
use Rattle.number_model.specs.Answers.{Gives}
use Rattle.number_model.specs.Arithmetic.{bit}
use Rattle.row_numbers.specs.Sequences.{selected}
use Rattle.row_numbers.specs.Promises.{Extremes}

-- the bit of a truth value is set where it holds
pub set_bit : (b : Bool) → (unsigned 1 (bit b) == 1) ≡ b
set_bit true = refl
set_bit false = refl

pub choice : (c : Bool) (a b : ℕ) → selected (bit c) a b ≡ (if c then a else b)
choice c a b = ap (λ t. if t then a else b) (set_bit c)

pub extremes : Extremes
extremes = record {
  greater = λ w a b r h e. ap Gives (choice _ a b) ∙ e;
  greater_unsigned = λ w a b r h e. ap Gives (choice _ a b) ∙ e;
  less = λ w a b r h e. ap Gives (choice _ a b) ∙ e;
  less_unsigned = λ w a b r h e. ap Gives (choice _ a b) ∙ e;
}
