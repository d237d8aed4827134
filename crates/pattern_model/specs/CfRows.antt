-- The patterns of cf_lowering: branches, in converted types.
use Rattle.std.specs.Prelude.{ℕ, ◌==◌, Bool, not, ◌&&◌, List, [], ◌∷◌, map, length, Option, Some, None, codes}
use Rattle.std.specs.List.{list_all}
use Rattle.plain_tree.specs.Attrs.{Entries, entry}
use Rattle.conversion_model.specs.declared.templates.Source.{Source}
use Rattle.conversion_model.specs.declared.templates.Source.TheVariants.{Operand}
use Rattle.conversion_model.specs.Types.{is_own}
use Rattle.conversion_model.specs.Templates.{Template}
use Rattle.conversion_model.specs.Targets.{Shape}
use Rattle.conversion_model.specs.Rows.{Pattern}
use Rattle.conversion_model.specs.Chosen.{places}
use Rattle.pattern_model.specs.Drafts.{effect, gives, draft, when}
use Rattle.pattern_model.specs.ArithRows.{kept_props, lowers}

-- whether an operation is a branch to so many successors
abbrev pub is_branch : ℕ → Shape → Bool
is_branch n o = (length o.results == 0) && ((o.successors == n) && (o.regions == 0))

abbrev pub has_other_type : Shape → Bool
has_other_type o = not (list_all is_own o.operands)

-- all operands, in order
abbrev pub all_operands : Shape → List Source
all_operands o = map Operand (places 0 o.operands)

abbrev pub conditional : Shape → Option Entries → Option Template
conditional o None = None
conditional o (Some props) = draft (effect (codes "llvm.cond_br") (all_operands o) props (0 ∷ 1 ∷ []) (gives []))

-- cf.br to llvm.br
abbrev pub br_row : ℕ → Shape → Option Template
br_row bits o = when (is_branch 1 o) (draft (effect (codes "llvm.br") (all_operands o) [] (0 ∷ []) (gives [])))

-- cf.cond_br to llvm.cond_br with its sizes
abbrev pub cond_br_row : ℕ → Shape → Option Template
cond_br_row bits o = when (is_branch 2 o) (conditional o (kept_props (codes "operandSegmentSizes") (entry (codes "operandSegmentSizes") o.props)))

-- llvm.br to llvm.br, where an operand's type isn't own
abbrev pub llvm_br_row : ℕ → Shape → Option Template
llvm_br_row bits o = when (has_other_type o) (br_row bits o)

-- llvm.cond_br to llvm.cond_br with its sizes, where an operand's type isn't own
abbrev pub llvm_cond_br_row : ℕ → Shape → Option Template
llvm_cond_br_row bits o = when (has_other_type o) (cond_br_row bits o)

-- the set, in the order of the table
abbrev pub cf_set : List Pattern
cf_set =
    lowers (codes "cf.br") (codes "llvm.br" ∷ []) br_row
    ∷ lowers (codes "cf.cond_br") (codes "llvm.cond_br" ∷ []) cond_br_row
    ∷ lowers (codes "llvm.br") (codes "llvm.br" ∷ []) llvm_br_row
    ∷ lowers (codes "llvm.cond_br") (codes "llvm.cond_br" ∷ []) llvm_cond_br_row
    ∷ []
