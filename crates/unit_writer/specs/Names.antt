-- The numbers of a template's values.
use Rattle.std.specs.Prelude.{ℕ, ◌==◌, List, [], ◌∷◌, Option, Some, None, map, nat_eq, if◌then◌else◌}
use Rattle.std.specs.HashMap.{get}
use Rattle.std.specs.Borrow.{Bor}
use Rattle.tree_model.specs.declared.type_tree.TypeTree.{TypeTree}
use Rattle.plain_tree.specs.Types.{PlainType, plain_type}
use Rattle.plain_tree.specs.Attrs.{plain_entries}
use Rattle.plain_tree.specs.Ops.{Op, op, Values, end_of_regions}
use Rattle.conversion_model.specs.Templates.{Template, copy}
use Rattle.conversion_model.specs.Rows as rows
use Rattle.conversion_model.specs.declared.templates.TemplateTree.{TemplateTree}
use Rattle.choice_code.specs.Plain.{plain_template}
use Rattle.cut_code.specs.Pieces.{label_at, value_at}
use Rattle.cut_code.specs.declared.pieces.ProductTree.{ProductTree}
use Rattle.conversion_model.specs.declared.templates.Source.{Source}
use Rattle.conversion_model.specs.declared.templates.Source.TheVariants.{Operand, Made}
use Rattle.new_numbers.specs.Tables.{Extends, Numbering, supply_of}
use Rattle.unit_writer.specs.declared.names.Names.{Names}

-- the first of these results that is the value made at place n
abbrev pub kept_as : List ℕ → List Source → ℕ → Option ℕ
kept_as [] sources n = None
kept_as (r ∷ rs) [] n = None
kept_as (r ∷ rs) (Operand k ∷ sources) n = kept_as rs sources n
kept_as (r ∷ rs) (Made k ∷ sources) n = if k == n then Some r else kept_as rs sources n

abbrev pub or_new : ℕ → Option ℕ → ℕ
or_new new None = new
or_new new (Some r) = r

-- the number of the n-th value, by a later table
abbrev pub name_by : Names → Numbering → ℕ → ℕ
name_by s u n = or_new ((supply_of u).value s.number s.piece n) (get nat_eq s.kept n)

-- what was made with numbers that a table was asked for: P of each later table
pub record Asked (old new : Numbering) (P : Numbering → Type 0) : Type 0 where
  pub extends : Extends old new
  pub says : (u : Numbering) → Extends new u → P u

-- a copy of a value as a result in front of others, unless they are one value
abbrev pub copies_from : ℕ → ℕ × PlainType → List Op → List Op
copies_from value r rest = if value == r.0 then rest else copy r value ∷ rest

-- the results of a product, and the product, with these numbers
abbrev pub new_results : rows.Numbers → List (ℕ × TypeTree) → Values
new_results new rs = map (λ r. (new.value r.0, plain_type r.1)) rs

abbrev pub product_op : rows.Numbers → ProductTree → Op
product_op new p = op (record { name = p.name; props = plain_entries p.props; attrs = [] })
    (new_results new p.results) (map (value_at new) p.operands) end_of_regions (map (label_at new) p.successors)

-- the template of a line, where there is one
abbrev pub plain_line : Option (Bor TemplateTree) → Option Template
plain_line None = None
plain_line (Some t) = Some (plain_template t.now)
