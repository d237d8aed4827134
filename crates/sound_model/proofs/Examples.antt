-- Worked examples of soundness: the greater of two by a comparison and a selection, the operand itself, and a slip.
use Rattle.std.proofs.Common.{◌≡◌, ℕ, List, [], ◌∷◌, Bool, true, false, refl, ap, length, arith}
use Rattle.std.specs.Prelude.{codes, int_lt, pos, if◌then◌else◌}
use Rattle.tree_model.specs.declared.type_tree.TypeTree.TheVariants.{outs-Int, outs-Index}
use Rattle.tree_model.specs.declared.attr_tree.AttrTree.TheVariants as parts
use Rattle.number_model.specs.Numbers.{signed}
use Rattle.number_model.specs.Arithmetic.{Greater, Above, Keep, bit}
use Rattle.operation_model.specs.Values.{Value, Integer, Pointer, Unset, Aggregate}
use Rattle.operation_model.specs.Pures.{TwoNumbers, Compares, Selects, Resizes, is_set}
use Rattle.operation_model.specs.Doings.{Doing, Ends}
use Rattle.operation_model.specs.Forms.{Computes}
use Rattle.plain_tree.specs.Types.{PlainType, Int, Index}
use Rattle.plain_tree.specs.Attrs.{Entries, Number}
use Rattle.conversion_model.specs.declared.templates.Source.{Source}
use Rattle.conversion_model.specs.declared.templates.Source.TheVariants.{Operand, Made}
use Rattle.conversion_model.specs.Templates.{Step, Template}
use Rattle.conversion_model.specs.Targets.{Shape}
use Rattle.form_model.specs.Classes.{form_of}
use Rattle.sound_model.specs.Refinement.{Refines}
use Rattle.sound_model.proofs.Refining.{refines_refl}
use Rattle.sound_model.specs.Runs.{form_at, root_runs, template_runs}
use Rattle.sound_model.specs.Soundness.{DoesAs, Sound}

abbrev i32 : PlainType
i32 = Int 32

abbrev maximum : Shape
maximum = record { name = codes "arith.maxsi"; operands = i32 ∷ i32 ∷ []; results = i32 ∷ []; props = []; attrs = []; successors = 0; regions = 0 }

abbrev step : List ℕ → Entries → List Source → PlainType → Step
step name props sources t = record { name = name; props = props; sources = sources; successors = []; makes = t ∷ [] }

abbrev above : Entries
above = (codes "predicate", Number (pos 4) (Int 64)) ∷ []

-- the first or the second of two sources, by the first comparison above the second
abbrev by_selection : Source → Source → Template
by_selection first second = record {
  steps =
      step (codes "arith.cmpi") above (Operand 0 ∷ Operand 1 ∷ []) (Int 1) ∷
      step (codes "arith.select") [] (Made 0 ∷ first ∷ second ∷ []) i32 ∷ [];
  results = Made 1 ∷ [];
}

max_form : form_at 64 (codes "arith.maxsi") [] (i32 ∷ i32 ∷ []) (i32 ∷ []) ≡ Computes (TwoNumbers Greater 32)
unfolding form_of
max_form = simp outs-Int refl

compare_form : form_at 64 (codes "arith.cmpi") above (i32 ∷ i32 ∷ []) (Int 1 ∷ []) ≡ Computes (Compares Above 32)
unfolding form_of
compare_form = simp (outs-Int, parts.outs-Int) refl

select_form : form_at 64 (codes "arith.select") [] (Int 1 ∷ i32 ∷ i32 ∷ []) (i32 ∷ []) ≡ Computes Selects
unfolding form_of
select_form = refl

either : (c : Bool) (a b : ℕ) (next : List Value → Doing)
    → Refines (next (Integer (if c then a else b) ∷ [])) (next ((if is_set (bit c) then Integer a else Integer b) ∷ []))
either true a b next = refines_refl (next (Integer a ∷ []))
either false a b next = refines_refl (next (Integer b ∷ []))

greater_runs : (x y : Value) (labels : List ℕ) (next : List Value → Doing)
    → Refines (root_runs 64 maximum (x ∷ y ∷ []) labels next) (template_runs 64 (i32 ∷ i32 ∷ []) (x ∷ y ∷ []) labels (by_selection (Operand 0) (Operand 1)) next)
greater_runs (Integer a) (Integer b) labels next = simp (max_form, compare_form, select_form) (either (int_lt (signed 32 b) (signed 32 a)) a b next)
greater_runs (Integer a) (Pointer b offset) labels next = simp max_form tt
greater_runs (Integer a) Unset labels next = simp max_form tt
greater_runs (Integer a) (Aggregate ps) labels next = simp max_form tt
greater_runs (Pointer b offset) y labels next = simp max_form tt
greater_runs Unset y labels next = simp max_form tt
greater_runs (Aggregate ps) y labels next = simp max_form tt

-- arguments that are as many as this, one by one
two_args : (P : List Value → Type 0) → ((x y : Value) → P (x ∷ y ∷ [])) → (args : List Value) → length args ≡ 2 → P args
two_args P h (x ∷ y ∷ []) is = h x y
two_args P h [] is = absurd (omega (arith, is))
two_args P h (x ∷ []) is = absurd (omega (arith, is))
two_args P h (x ∷ y ∷ z ∷ more) is = absurd (omega (arith, is))

-- the greater of two is the first where it is above the second, else the second
maximum_is_sound : Sound 64 maximum (by_selection (Operand 0) (Operand 1))
maximum_is_sound = record {
  types = refl;
  same = λ args labels next count other places.
      two_args (λ vs. Refines (root_runs 64 maximum vs labels next) (template_runs 64 (i32 ∷ i32 ∷ []) vs labels (by_selection (Operand 0) (Operand 1)) next))
      (λ x y. greater_runs x y labels next) args count;
}

-- with the two turned round it gives the less of 1 and 2
slip_of_one_and_two : Refines (root_runs 64 maximum (Integer 1 ∷ Integer 2 ∷ []) [] Ends) (template_runs 64 (i32 ∷ i32 ∷ []) (Integer 1 ∷ Integer 2 ∷ []) [] (by_selection (Operand 1) (Operand 0)) Ends)
    → Ends (Integer 1 ∷ []) ≡ Ends (Integer 2 ∷ [])
slip_of_one_and_two h = simp (max_form, compare_form, select_form) at h

number_of_end : Doing → ℕ
number_of_end (Ends (Integer n ∷ [])) = n
number_of_end _ = 0

not_the_same : Ends (Integer 1 ∷ []) ≡ Ends (Integer 2 ∷ []) → ⊥
unfolding number_of_end
not_the_same same = omega (arith, ap number_of_end same)

slip_is_not_sound : Sound 64 maximum (by_selection (Operand 1) (Operand 0)) → ⊥
slip_is_not_sound sound = not_the_same (slip_of_one_and_two (sound.same (Integer 1 ∷ Integer 2 ∷ []) [] Ends refl refl refl))

-- The operand itself: a cast of an index of 64 bits to an integer of 64 bits

abbrev cast_of_index : Shape
cast_of_index = record { name = codes "arith.index_cast"; operands = Index ∷ []; results = Int 64 ∷ []; props = []; attrs = []; successors = 0; regions = 0 }

abbrev operand_itself : Template
operand_itself = record { steps = []; results = Operand 0 ∷ [] }

cast_form : form_at 64 (codes "arith.index_cast") [] (Index ∷ []) (Int 64 ∷ []) ≡ Computes (Resizes Keep 64)
unfolding form_of
cast_form = simp (outs-Index, outs-Int) refl

cast_runs : (x : Value) (labels : List ℕ) (next : List Value → Doing)
    → Refines (root_runs 64 cast_of_index (x ∷ []) labels next) (template_runs 64 (Int 64 ∷ []) (x ∷ []) labels operand_itself next)
cast_runs (Integer a) labels next = simp cast_form (refines_refl (next (Integer a ∷ [])))
cast_runs (Pointer b offset) labels next = simp cast_form tt
cast_runs Unset labels next = simp cast_form tt
cast_runs (Aggregate ps) labels next = simp cast_form tt

one_arg : (P : List Value → Type 0) → ((x : Value) → P (x ∷ [])) → (args : List Value) → length args ≡ 1 → P args
one_arg P h (x ∷ []) is = h x
one_arg P h [] is = absurd (omega (arith, is))
one_arg P h (x ∷ y ∷ more) is = absurd (omega (arith, is))

operand_itself_is_sound : DoesAs 64 cast_of_index (Int 64 ∷ []) (Int 64 ∷ []) operand_itself
operand_itself_is_sound = record {
  types = refl;
  same = λ args labels next count other places.
      one_arg (λ vs. Refines (root_runs 64 cast_of_index vs labels next) (template_runs 64 (Int 64 ∷ []) vs labels operand_itself next))
      (λ x. cast_runs x labels next) args count;
}
