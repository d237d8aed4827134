-- Templates: the operations that replace one operation, without numbers of values.
use Rattle.std.specs.Prelude.{ℕ, pred, ◌+◌, ◌==◌, List, [], ◌∷◌, length, map, get_or, if◌then◌else◌}
use Rattle.plain_tree.specs.Types.{PlainType, type_tree}
use Rattle.plain_tree.specs.Attrs.{Entries, entries_tree}
use Rattle.plain_tree.specs.Ops.{Op, op, end_of_regions, Values}
use Rattle.conversion_model.specs.declared.templates.Source.{Source}
use Rattle.conversion_model.specs.declared.templates.Source.TheVariants.{Operand, Made}
use Rattle.conversion_model.specs.declared.templates.StepTree.{StepTree}
use Rattle.conversion_model.specs.declared.templates.TemplateTree.{TemplateTree}

-- one operation of a template: its operands by where they come from, its successors by their places among those of the
-- operation that is replaced, the types of the values that it makes
pub record Step : Type 0 where
  pub name : List ℕ
  pub props : Entries
  pub sources : List Source
  pub successors : List ℕ
  pub makes : List PlainType

-- the operations that replace one, and what each of its results stands for behind them
pub record Template : Type 0 where
  pub steps : List Step
  pub results : List Source

-- As trees, which code makes

abbrev pub step_tree : Step → StepTree
step_tree s = record { name = s.name; props = entries_tree s.props; sources = s.sources; successors = s.successors; makes = map type_tree s.makes }

abbrev pub template_tree : Template → TemplateTree
template_tree t = record { steps = map step_tree t.steps; results = t.results }

-- Writing: a template with numbers

-- The number of a source, from what the operands are and what the n-th value made is called. An operand that isn't there
-- is called like the first value.
abbrev pub number_of : (ℕ → ℕ) → List ℕ → Source → ℕ
number_of name operands (Operand k) = get_or operands k (name 0)
number_of name operands (Made k) = name k

-- the number of the n-th value: that of the first result that it is, else a new one
abbrev pub named : (ℕ → ℕ) → List ℕ → List Source → ℕ → ℕ
named new [] sources n = new n
named new (r ∷ rs) [] n = new n
named new (r ∷ rs) (Operand k ∷ sources) n = named new rs sources n
named new (r ∷ rs) (Made k ∷ sources) n = if k == n then r else named new rs sources n

-- values of these types, named from the n-th on
abbrev pub values_made : (ℕ → ℕ) → ℕ → List PlainType → Values
values_made name n [] = []
values_made name n (t ∷ ts) = (name n, t) ∷ values_made name (n + 1) ts

-- the label at that place in front of others, none where there is no such place
abbrev pub label_at : List ℕ → ℕ → List ℕ → List ℕ
label_at [] k more = more
label_at (l ∷ ls) k more = if k == 0 then l ∷ more else label_at ls (pred k) more

abbrev pub labels_at : List ℕ → List ℕ → List ℕ
labels_at labels [] = []
labels_at labels (k ∷ ks) = label_at labels k (labels_at labels ks)

-- a plain operation of a step
abbrev pub step_op : (ℕ → ℕ) → List ℕ → List ℕ → ℕ → Step → Op
step_op name operands labels n s = op (record { name = s.name; props = s.props; attrs = [] })
    (values_made name n s.makes)
    (map (number_of name operands) s.sources)
    end_of_regions
    (labels_at labels s.successors)

-- the name of a copy: no byte is 256, so no other operation has it
abbrev pub copy_name : List ℕ
copy_name = 256 ∷ []

-- a copy: a result that stands for a value that is there. The final text has none.
abbrev pub copy : ℕ × PlainType → ℕ → Op
copy result value = op (record { name = copy_name; props = []; attrs = [] }) (result ∷ []) (value ∷ []) end_of_regions []

-- a copy for each result that isn't itself the value that it stands for, in front of others
abbrev pub copies : (ℕ → ℕ) → List ℕ → Values → List Source → List Op → List Op
copies name operands [] sources more = more
copies name operands (r ∷ rs) [] more = more
copies name operands (r ∷ rs) (s ∷ sources) more =
    if number_of name operands s == r.0 then copies name operands rs sources more
    else copy r (number_of name operands s) ∷ copies name operands rs sources more

abbrev pub steps_written : (ℕ → ℕ) → List ℕ → List ℕ → ℕ → List Step → List Op → List Op
steps_written name operands labels n [] more = more
steps_written name operands labels n (s ∷ steps) more = step_op name operands labels n s ∷ steps_written name operands labels (n + length s.makes) steps more

abbrev pub numbers : Values → List ℕ
numbers vs = map (λ v. v.0) vs

-- the operations of a template with these results, operands and successors, in front of others
abbrev pub written : (ℕ → ℕ) → Values → List ℕ → List ℕ → Template → List Op → List Op
written new results operands labels t more =
    let name : ℕ → ℕ = named new (numbers results) t.results in
    steps_written name operands labels 0 t.steps (copies name operands results t.results more)
