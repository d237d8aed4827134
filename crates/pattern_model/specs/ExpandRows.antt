-- The patterns of arith_expand: operations of arith that become simpler ones of arith, over operands a, b of one type.
use Rattle.std.specs.Prelude.{ℕ, false, List, [], ◌∷◌, Option, None, pos, codes}
use Rattle.plain_tree.specs.Types.{PlainType, Int}
use Rattle.conversion_model.specs.declared.templates.Source.{Source}
use Rattle.conversion_model.specs.declared.templates.Source.TheVariants.{Operand}
use Rattle.conversion_model.specs.Templates.{Template}
use Rattle.conversion_model.specs.Targets.{Shape}
use Rattle.conversion_model.specs.Rows.{Pattern, Straight}
use Rattle.pattern_model.specs.Drafts.{Draft, value, gives, draft, predicate, constant_value, is_plain, when}

-- an operation of two operands, without properties
abbrev pub two : List ℕ → Source → Source → PlainType → (Source → Draft) → Draft
two name x y t next = value name (x ∷ y ∷ []) [] t next

-- a comparison by the predicate of that number
abbrev pub compared : ℕ → Source → Source → (Source → Draft) → Draft
compared n x y next = value (codes "arith.cmpi") (x ∷ y ∷ []) (predicate n) (Int 1) next

abbrev pub selected : Source → Source → Source → PlainType → (Source → Draft) → Draft
selected c x y t next = value (codes "arith.select") (c ∷ x ∷ y ∷ []) [] t next

-- the constant n
abbrev pub constant : ℕ → PlainType → (Source → Draft) → Draft
constant n t next = value (codes "arith.constant") [] (constant_value t (pos n)) t next

-- arith.ceildivsi and arith.floordivsi: the quotient towards zero, and one more or less of it where there is a rest and the
-- operands have signs as the predicate of their comparison asks
abbrev pub rounded : ℕ → List ℕ → PlainType → Draft
rounded signs name t =
    two (codes "arith.divsi") (Operand 0) (Operand 1) t λ q.
    two (codes "arith.muli") q (Operand 1) t λ m.
    compared 1 (Operand 0) m λ d.
    constant 0 t λ z.
    compared 2 (Operand 0) z λ x.
    compared 2 (Operand 1) z λ y.
    compared signs x y λ s.
    two (codes "arith.andi") d s (Int 1) λ g.
    constant 1 t λ o.
    two name q o t λ p.
    selected g p q t λ r.
    gives (r ∷ [])

-- by the type of the one result
abbrev pub of_type : (PlainType → Draft) → List PlainType → Option Template
of_type d (t ∷ []) = draft (d t)
of_type d _ = None

-- up: where the signs are the same (eq), q + 1
abbrev pub ceildivsi_row : Shape → Option Template
ceildivsi_row o = when (is_plain 2 1 o) (of_type (rounded 0 (codes "arith.addi")) o.results)

-- of 0 it is 0, else 1 + (a - 1) / b, unsigned
abbrev pub ceildivui_draft : PlainType → Draft
ceildivui_draft t =
    constant 0 t λ z.
    constant 1 t λ o.
    compared 0 (Operand 0) z λ e.
    two (codes "arith.subi") (Operand 0) o t λ m.
    two (codes "arith.divui") m (Operand 1) t λ q.
    two (codes "arith.addi") q o t λ p.
    selected e z p t λ r.
    gives (r ∷ [])

abbrev pub ceildivui_row : Shape → Option Template
ceildivui_row o = when (is_plain 2 1 o) (of_type ceildivui_draft o.results)

-- down: where the signs differ (ne), q - 1
abbrev pub floordivsi_row : Shape → Option Template
floordivsi_row o = when (is_plain 2 1 o) (of_type (rounded 1 (codes "arith.subi")) o.results)

-- arith.maxsi (sgt) and arith.minsi (slt): select by a comparison
abbrev pub extreme_draft : ℕ → PlainType → Draft
extreme_draft n t =
    compared n (Operand 0) (Operand 1) λ c.
    selected c (Operand 0) (Operand 1) t λ r.
    gives (r ∷ [])

abbrev pub maxsi_row : Shape → Option Template
maxsi_row o = when (is_plain 2 1 o) (of_type (extreme_draft 4) o.results)

abbrev pub minsi_row : Shape → Option Template
minsi_row o = when (is_plain 2 1 o) (of_type (extreme_draft 2) o.results)

abbrev pub expands : List ℕ → List (List ℕ) → (Shape → Option Template) → Pattern
expands root makes row = record { root = root; makes = makes; benefit = 1; is_converted = false; row = λ bits. Straight row }

abbrev pub rounded_names : List ℕ → List (List ℕ)
rounded_names last =
    codes "arith.divsi" ∷ codes "arith.muli" ∷ codes "arith.cmpi" ∷ codes "arith.constant" ∷ codes "arith.andi" ∷ last ∷ codes "arith.select" ∷ []

-- the set, in the order of the table
abbrev pub expand_set : List Pattern
expand_set =
    expands (codes "arith.ceildivsi") (rounded_names (codes "arith.addi")) ceildivsi_row
    ∷ expands (codes "arith.ceildivui") (codes "arith.constant" ∷ codes "arith.cmpi" ∷ codes "arith.subi" ∷ codes "arith.divui" ∷ codes "arith.addi" ∷ codes "arith.select" ∷ []) ceildivui_row
    ∷ expands (codes "arith.floordivsi") (rounded_names (codes "arith.subi")) floordivsi_row
    ∷ expands (codes "arith.maxsi") (codes "arith.cmpi" ∷ codes "arith.select" ∷ []) maxsi_row
    ∷ expands (codes "arith.minsi") (codes "arith.cmpi" ∷ codes "arith.select" ∷ []) minsi_row
    ∷ []
