-- Templates and products written with numbers.
use Rattle.std.proofs.Common.{◌≡◌, ℕ, ◌+◌, ◌<◌, ◌==◌, Bool, true, false, List, [], ◌∷◌, Option, Some, drop, get_or, length, map, refl, sym, ap, ◌∙◌}
use Rattle.std.specs.Prelude.{if◌then◌else◌, ⊤}
use Rattle.plain_tree.specs.Types.{PlainType, plain_type}
use Rattle.plain_tree.specs.Ops.{Op, Values, end_of_regions, plain_values}
use Rattle.tree_model.specs.declared.type_tree.TypeTree.{TypeTree}
use Rattle.choice_code.specs.Plain.{plain_step}
use Rattle.conversion_model.specs.Items.{puts}
use Rattle.conversion_model.specs.declared.templates.Source.{Source}
use Rattle.conversion_model.specs.declared.templates.Source.TheVariants.{Operand, Made}
use Rattle.conversion_model.specs.declared.templates.StepTree.{StepTree}
use Rattle.conversion_model.specs.Templates.{Template, copies, copy, named, number_of, numbers, step_op, steps_written, written}
use Rattle.conversion_model.specs.Conversion.{regions_of}
use Rattle.conversion_model.specs.Uses.{is_copy, op_without}
use Rattle.new_numbers.specs.Tables.{Numbering}
use Rattle.unit_writer.specs.Names.{Asked, copies_from, kept_as, or_new}
use Rattle.unit_writer.specs.Copies.{regions_pairs}
use Rattle.unit_writer.specs.Pages.{with_op}
use Rattle.unit_writer.specs.Says.{Reading}
use Rattle.unit_writer.specs.Writes.{Comes, Line, State, Writes, WritesLine, behind, behind_line, table_of}
use Rattle.unit_writer.proofs.Behind.{and_nothing, put_behind}
use Rattle.unit_writer.proofs.Going.{Ahead, ahead_on, comes_on}
use Rattle.unit_writer.proofs.SaysLaws.{front}

-- The names of values

or_by : (new r n k : ℕ) (o : Option ℕ) (m : ℕ) (b : Bool) → or_new new o ≡ m → or_new new (if b then Some r else o) ≡ (if b then r else m)
or_by new r n k o m true e = refl
or_by new r n k o m false e = e

pub or_named : (new : ℕ → ℕ) (rs : List ℕ) (ss : List Source) (n : ℕ) → or_new (new n) (kept_as rs ss n) ≡ named new rs ss n
or_named new [] ss n = refl
or_named new (r ∷ rs) [] n = refl
or_named new (r ∷ rs) (Operand k ∷ ss) n = or_named new rs ss n
or_named new (r ∷ rs) (Made k ∷ ss) n = or_by (new n) r n k (kept_as rs ss n) (named new rs ss n) (k == n) (or_named new rs ss n)

-- an operation without regions is put
pub put_asked : (old new : State) (part : Numbering → Op) (o : Op) → ((u : Numbering) → op_without is_copy (part u) ≡ part u) → ((u : Numbering) → regions_of (part u) ≡ end_of_regions) → is_copy o ≡ false
    → Asked old.notes.table new.notes.table (λ u. part u ≡ o) → new.page ≡ with_op old.page o → new.notes.pairs ≡ old.notes.pairs
    → WritesLine (λ u rest. part u ∷ rest) old new
put_asked old new part o bare none other asked page noted = record {
  extends = asked.extends;
  written = λ m e h x.
      let is : part m.table ≡ o = asked.says m.table e in
      put_behind old new (part m.table) o [] (ap is_copy is ∙ other) (bare m.table ∙ is) (ap regions_pairs (none m.table)) page (noted ∙ sym (and_nothing old.notes.pairs)) (puts x.ops x.more);
}

-- Loops

module _ (name : Numbering → ℕ → ℕ) (operands : List ℕ) (H : Reading → Type 0) (f : Reading → Line → Line) (old mid : State) where
  module _ (labels : List ℕ) (steps : List StepTree) (i n : ℕ) where
    abbrev steps_left : ℕ → ℕ → Reading → Line → Line
    steps_left j k m x = record { ops = steps_written (name m.table) operands labels k (map plain_step (drop j steps)) x.ops; more = x.more }

    pub steps_next : (s : StepTree) → i < length steps → s ≡ get_or steps i s → (new : State) (n' : ℕ) → n' ≡ n + length (plain_step s).makes → Ahead table_of behind_line H f old mid (λ m. ⊤) (steps_left i n)
        → WritesLine (λ u rest. step_op (name u) operands labels n (plain_step s) ∷ rest) mid new → Ahead table_of behind_line H f old new (λ m. ⊤) (steps_left (i + 1) n')
    steps_next s within is new n' number a w =
        ahead_on table_of behind_line H (λ m. ⊤) (λ m. ⊤) (λ m. ⊤) f (steps_left i n) (steps_left (i + 1) n') (λ m x. record { ops = step_op (name m.table) operands labels n (plain_step s) ∷ x.ops; more = x.more }) old mid new a w
        (λ m k. tt) (λ m k. tt)
        (λ m k x.
        ap (λ ss. record { ops = steps_written (name m.table) operands labels n (map plain_step ss) x.ops; more = x.more }) (front steps i s within is)
        ∙ ap (λ j. record { ops = step_op (name m.table) operands labels n (plain_step s) ∷ steps_written (name m.table) operands labels j (map plain_step (drop (i + 1) steps)) x.ops; more = x.more }) (sym number))

  module _ (results : List (ℕ × TypeTree)) (sources : List Source) (i : ℕ) where
    abbrev copies_left : ℕ → Reading → Line → Line
    copies_left j m x = record { ops = copies (name m.table) operands (plain_values (drop j results)) (drop j sources) x.ops; more = x.more }

    pub copies_next : (r : ℕ × TypeTree) (s : Source) → i < length results → r ≡ get_or results i r → i < length sources → s ≡ get_or sources i s → (new : State) → Ahead table_of behind_line H f old mid (λ m. ⊤) (copies_left i)
        → WritesLine (λ u rest. copies_from (number_of (name u) operands s) (r.0, plain_type r.1) rest) mid new → Ahead table_of behind_line H f old new (λ m. ⊤) (copies_left (i + 1))
    copies_next r s within is inside at new a w =
        ahead_on table_of behind_line H (λ m. ⊤) (λ m. ⊤) (λ m. ⊤) f (copies_left i) (copies_left (i + 1)) (λ m x. record { ops = copies_from (number_of (name m.table) operands s) (r.0, plain_type r.1) x.ops; more = x.more }) old mid new a w
        (λ m k. tt) (λ m k. tt)
        (λ m k x.
        ap (λ rs. record { ops = copies (name m.table) operands (plain_values rs) (drop i sources) x.ops; more = x.more }) (front results i r within is)
        ∙ ap (λ ss. record { ops = copies (name m.table) operands ((r.0, plain_type r.1) ∷ plain_values (drop (i + 1) results)) ss x.ops; more = x.more }) (front sources i s inside at)
        ∙ ap (λ os. record { ops = os; more = x.more })
        (one (number_of (name m.table) operands s) (r.0, plain_type r.1) (copies (name m.table) operands (plain_values (drop (i + 1) results)) (drop (i + 1) sources) x.ops) (number_of (name m.table) operands s == r.0)))
      where
        one : (v : ℕ) (q : ℕ × PlainType) (os : List Op) (b : Bool) → (if b then os else copy q v ∷ os) ≡ (if b then os else copy q v ∷ os)
        one v q os b = refl

-- A template

pub template_written : (name new : Numbering → ℕ → ℕ) (rs : Values) (operands labels : List ℕ) (t : Template) (old mid last : State) → ((u : Numbering) → name u ≡ named (new u) (numbers rs) t.results)
    → WritesLine (λ u rest. steps_written (name u) operands labels 0 t.steps rest) old mid → WritesLine (λ u rest. copies (name u) operands rs t.results rest) mid last
    → WritesLine (λ u rest. written (new u) rs operands labels t rest) old last
template_written name new rs operands labels t old mid last is a b = record {
  extends = both.extends;
  written = λ m e h x.
      ap (λ (f : ℕ → ℕ). behind old (puts (steps_written f operands labels 0 t.steps (copies f operands rs t.results x.ops)) x.more)) (sym (is m.table)) ∙ both.written m e tt x;
}
  where
    both : Comes table_of behind_line (λ m. ⊤) (λ m x. record { ops = steps_written (name m.table) operands labels 0 t.steps (copies (name m.table) operands rs t.results x.ops); more = x.more }) old last
    both = comes_on table_of behind_line (λ m. ⊤) (λ m. ⊤) (λ m x. record { ops = steps_written (name m.table) operands labels 0 t.steps x.ops; more = x.more }) (λ m x. record { ops = copies (name m.table) operands rs t.results x.ops; more = x.more }) old mid last a b (λ m h. tt)

-- operations alone, in front of items
pub line_alone : (part : Numbering → List Op → List Op) (old new : State) → WritesLine part old new → Writes (λ m. ⊤) (λ m more. puts (part m.table []) more) old new
line_alone part old new w = record { extends = w.extends; written = λ m e h more. w.written m e tt (record { ops = []; more = more }) }
