-- The patterns of arith_lowering: operations of arith that become those of llvm, in converted types.
use Rattle.std.specs.Prelude.{ℕ, true, ◌==◌, nat_lt, List, [], ◌∷◌, map, Option, Some, None, if◌then◌else◌, codes}
use Rattle.std.specs.Str.{bytes_eq}
use Rattle.plain_tree.specs.Types.{PlainType, Int}
use Rattle.plain_tree.specs.Attrs.{Entries, PlainAttr, Number, Dialect, entry}
use Rattle.conversion_model.specs.declared.templates.Source.{Source}
use Rattle.conversion_model.specs.declared.templates.Source.TheVariants.{Operand}
use Rattle.conversion_model.specs.Types.{becomes}
use Rattle.conversion_model.specs.Templates.{Template}
use Rattle.conversion_model.specs.Targets.{Shape}
use Rattle.conversion_model.specs.Rows.{Pattern, Straight}
use Rattle.pattern_model.specs.Drafts.{value, gives, draft, predicate, constant_value, is_plain, when}

-- Properties, each none where the row asks for another form

-- the integer in its converted type
abbrev pub constant_props : ℕ → Option PlainAttr → Option Entries
constant_props bits (Some (Number n t)) = Some (constant_value (becomes bits t) n)
constant_props bits _ = None

-- flags, where present, keep their words under `#llvm.overflow`
abbrev pub flag_props : Option PlainAttr → Option Entries
flag_props None = Some []
flag_props (Some (Dialect name words)) =
    if bytes_eq name (codes "arith.overflow") then Some ((codes "overflowFlags", Dialect (codes "llvm.overflow") words) ∷ []) else None
flag_props (Some other) = None

abbrev pub kept_props : List ℕ → Option PlainAttr → Option Entries
kept_props name None = None
kept_props name (Some a) = Some ((name, a) ∷ [])

-- Rows

-- one operation with the operands in order, whose value has that type
abbrev pub one_value : List ℕ → List Source → Option Entries → List PlainType → Option Template
one_value name sources (Some props) (t ∷ []) = draft (value name sources props t λ r. gives (r ∷ []))
one_value name sources _ _ = None

abbrev pub all_types : ℕ → List PlainType → List PlainType
all_types bits ts = map (becomes bits) ts

-- arith.constant to llvm.mlir.constant
abbrev pub constant_row : ℕ → Shape → Option Template
constant_row bits o = when (is_plain 0 1 o) (one_value (codes "llvm.mlir.constant") [] (constant_props bits (entry (codes "value") o.props)) (all_types bits o.results))

abbrev pub pair : List Source
pair = Operand 0 ∷ Operand 1 ∷ []

-- an operation of two operands without properties, to one of that name
abbrev pub binary_row : List ℕ → ℕ → Shape → Option Template
binary_row name bits o = when (is_plain 2 1 o) (one_value name pair (Some []) (all_types bits o.results))

-- the same with flags
abbrev pub flagged_row : List ℕ → ℕ → Shape → Option Template
flagged_row name bits o = when (is_plain 2 1 o) (one_value name pair (flag_props (entry (codes "overflowFlags") o.props)) (all_types bits o.results))

-- arith.cmpi to llvm.icmp with its predicate
abbrev pub cmpi_row : ℕ → Shape → Option Template
cmpi_row bits o = when (is_plain 2 1 o) (one_value (codes "llvm.icmp") pair (kept_props (codes "predicate") (entry (codes "predicate") o.props)) (all_types bits o.results))

-- arith.select to llvm.select, of values of any type
abbrev pub select_row : ℕ → Shape → Option Template
select_row bits o = when (is_plain 3 1 o) (one_value (codes "llvm.select") (Operand 0 ∷ Operand 1 ∷ Operand 2 ∷ []) (Some []) (all_types bits o.results))

-- arith.extsi and arith.extui to llvm.sext and llvm.zext
abbrev pub extended_row : List ℕ → ℕ → Shape → Option Template
extended_row name bits o = when (is_plain 1 1 o) (one_value name (Operand 0 ∷ []) (Some []) (all_types bits o.results))

-- arith.trunci to llvm.trunc, with its flags
abbrev pub trunci_row : ℕ → Shape → Option Template
trunci_row bits o = when (is_plain 1 1 o) (one_value (codes "llvm.trunc") (Operand 0 ∷ []) (flag_props (entry (codes "overflowFlags") o.props)) (all_types bits o.results))

-- from m bits to n: extended by that name, cut by llvm.trunc, or the operand itself
abbrev pub resized : List ℕ → ℕ → ℕ → Option Template
resized name m n =
    if m == n then draft (gives (Operand 0 ∷ []))
    else draft (value (if nat_lt m n then name else codes "llvm.trunc") (Operand 0 ∷ []) [] (Int n) λ r. gives (r ∷ []))

abbrev pub resized_types : List ℕ → List PlainType → List PlainType → Option Template
resized_types name (Int m ∷ []) (Int n ∷ []) = resized name m n
resized_types name _ _ = None

-- arith.index_cast extends by llvm.sext, arith.index_castui by llvm.zext
abbrev pub index_cast_row : List ℕ → ℕ → Shape → Option Template
index_cast_row name bits o = when (is_plain 1 1 o) (resized_types name (all_types bits o.operands) (all_types bits o.results))

-- arith.maxsi, maxui, minsi, minui: llvm.icmp of a, b by that predicate and llvm.select of a, b
abbrev pub extreme_types : ℕ → List PlainType → Option Template
extreme_types n (t ∷ []) = draft (
    value (codes "llvm.icmp") pair (predicate n) (Int 1) λ c.
    value (codes "llvm.select") (c ∷ pair) [] t λ r.
    gives (r ∷ []))
extreme_types n _ = None

abbrev pub extreme_row : ℕ → ℕ → Shape → Option Template
extreme_row n bits o = when (is_plain 2 1 o) (extreme_types n (all_types bits o.results))

-- Patterns

abbrev pub lowers : List ℕ → List (List ℕ) → (ℕ → Shape → Option Template) → Pattern
lowers root makes row = record { root = root; makes = makes; benefit = 1; is_converted = true; row = λ bits. Straight (row bits) }

abbrev pub binary : List ℕ → List ℕ → Pattern
binary root name = lowers root (name ∷ []) (binary_row name)

abbrev pub flagged : List ℕ → List ℕ → Pattern
flagged root name = lowers root (name ∷ []) (flagged_row name)

abbrev pub extended : List ℕ → List ℕ → Pattern
extended root name = lowers root (name ∷ []) (extended_row name)

abbrev pub resizes : List ℕ → List ℕ → Pattern
resizes root name = lowers root (name ∷ codes "llvm.trunc" ∷ []) (index_cast_row name)

abbrev pub extreme : List ℕ → ℕ → Pattern
extreme root n = lowers root (codes "llvm.icmp" ∷ codes "llvm.select" ∷ []) (extreme_row n)

-- the set, in the order of the table
abbrev pub arith_set : List Pattern
arith_set =
    lowers (codes "arith.constant") (codes "llvm.mlir.constant" ∷ []) constant_row
    ∷ flagged (codes "arith.addi") (codes "llvm.add")
    ∷ flagged (codes "arith.subi") (codes "llvm.sub")
    ∷ flagged (codes "arith.muli") (codes "llvm.mul")
    ∷ binary (codes "arith.divsi") (codes "llvm.sdiv")
    ∷ binary (codes "arith.divui") (codes "llvm.udiv")
    ∷ binary (codes "arith.remsi") (codes "llvm.srem")
    ∷ binary (codes "arith.remui") (codes "llvm.urem")
    ∷ binary (codes "arith.andi") (codes "llvm.and")
    ∷ binary (codes "arith.ori") (codes "llvm.or")
    ∷ binary (codes "arith.xori") (codes "llvm.xor")
    ∷ flagged (codes "arith.shli") (codes "llvm.shl")
    ∷ binary (codes "arith.shrsi") (codes "llvm.ashr")
    ∷ binary (codes "arith.shrui") (codes "llvm.lshr")
    ∷ lowers (codes "arith.cmpi") (codes "llvm.icmp" ∷ []) cmpi_row
    ∷ lowers (codes "arith.select") (codes "llvm.select" ∷ []) select_row
    ∷ extended (codes "arith.extsi") (codes "llvm.sext")
    ∷ extended (codes "arith.extui") (codes "llvm.zext")
    ∷ lowers (codes "arith.trunci") (codes "llvm.trunc" ∷ []) trunci_row
    ∷ resizes (codes "arith.index_cast") (codes "llvm.sext")
    ∷ resizes (codes "arith.index_castui") (codes "llvm.zext")
    ∷ extreme (codes "arith.maxsi") 4
    ∷ extreme (codes "arith.maxui") 8
    ∷ extreme (codes "arith.minsi") 2
    ∷ extreme (codes "arith.minui") 6
    ∷ []
