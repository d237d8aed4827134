-- Answers: what an operation gives, or that it is undefined, or outside of what has a meaning.
use Rattle.std.specs.Prelude.{Bool, true, false, Option, Some, None}

pub data Answer (A : Type 0) : Type 0 where
  Gives : A → Answer A
  Undefined : Answer A
  Outside : Answer A

-- what comes next, with what was given
abbrev pub and_then : {A B : Type 0} → Answer A → (A → Answer B) → Answer B
and_then (Gives a) next = next a
and_then Undefined next = Undefined
and_then Outside next = Outside

abbrev pub with_answer : {A B : Type 0} → (A → B) → Answer A → Answer B
with_answer f (Gives a) = Gives (f a)
with_answer f Undefined = Undefined
with_answer f Outside = Outside

-- undefined where the test holds
abbrev pub undefined_if : {A : Type 0} → Bool → Answer A → Answer A
undefined_if true answer = Undefined
undefined_if false answer = answer

-- what is there, else outside
abbrev pub present : {A : Type 0} → Option A → Answer A
present None = Outside
present (Some a) = Gives a
