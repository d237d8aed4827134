-- What is chosen for a branch by the rows of branches: casts in front of its operands, and a branch in converted types.
use Rattle.std.proofs.Common.{◌≡◌, ℕ, suc, ◌+◌, Bool, true, false, List, [], ◌∷◌, ◌++◌, Option, Some, None, refl, sym, ap, ◌∙◌, map}
use Rattle.std.specs.Prelude.{codes, get_or, not, if◌then◌else◌}
use Rattle.std.specs.List.{list_all}
use Rattle.plain_tree.specs.Types.{PlainType, Void}
use Rattle.plain_tree.specs.ValueTypes.{is_own}
use Rattle.plain_tree.specs.Attrs.{Entries, PlainAttr, entry}
use Rattle.rule_model.specs.Words.{AllOf}
use Rattle.conversion_model.specs.declared.templates.Source.TheVariants.{Operand, Made}
use Rattle.conversion_model.specs.Types.{becomes, new_type, or_same}
use Rattle.conversion_model.specs.Templates.{Template}
use Rattle.conversion_model.specs.Targets.{is_legal, Shape}
use Rattle.conversion_model.specs.Chosen.{and_then, by_first, by_template, chosen, chosen_within, itself, Leaves, nothing_yet, or_else, order, places, product, Ranked, State, type_here, with_operand}
use Rattle.pattern_model.specs.ArithRows.{kept_props}
use Rattle.pattern_model.specs.CfRows.{br_row, cf_set, conditional, is_branch}
use Rattle.pattern_model.specs.Drafts.{when}
use Rattle.fitting_rows.specs.Typed.{changed}
use Rattle.block_rules.specs.Branches.{branch_shape, cf_target}
use Rattle.block_rules.proofs.BranchTemplates.{branch_step, branch_template, final, got, joined_twice, kept_successors, map_length, none_behind, sources, state_on, with_casts}
use Rattle.line_rules.proofs.SameTypes.{and_true}

-- the types behind all operands
final_types : (change : PlainType → Option PlainType) (k : ℕ) (ts : List PlainType) (s : State) → (final change k ts s).operand_types ≡ s.operand_types ++ map (changed change) ts
final_types change k [] s = sym (none_behind s.operand_types)
final_types change k (t ∷ ts) s = go (change t) (λ s2. final_types change (k + 1) ts s2)
  where
    go : (c : Option PlainType) → ((s2 : State) → (final change (k + 1) ts s2).operand_types ≡ s2.operand_types ++ map (changed change) ts)
        → (final change (k + 1) ts (state_on c k t s)).operand_types ≡ s.operand_types ++ or_same t c ∷ map (changed change) ts
    go None rest = rest (with_operand (Operand k) t 0 s) ∙ joined_twice s.operand_types (t ∷ []) (map (changed change) ts)
    go (Some u) rest = rest (with_operand (Made s.count) u 1 s) ∙ joined_twice s.operand_types (u ∷ []) (map (changed change) ts)

product_types : (change : PlainType → Option PlainType) (ts : List PlainType) → map (type_here (final change 0 ts nothing_yet)) (map Operand (places 0 ts)) ≡ map (changed change) ts
product_types change ts =
    got (λ k. Void) (type_here (final change 0 ts nothing_yet)) [] (map (changed change) ts) ts 0 (λ k. ap (λ l. get_or l k Void) (final_types change 0 ts nothing_yet)) (map_length (changed change) ts) refl

-- types of which each becomes an own type
abbrev pub BecomeOwn : ℕ → List PlainType → Type 0
BecomeOwn bits ts = AllOf (λ t. is_own (becomes bits t) ≡ true) ts

all_own : (bits : ℕ) (ts : List PlainType) → BecomeOwn bits ts → list_all is_own (map (changed (new_type bits)) ts) ≡ true
all_own bits [] own = refl
all_own bits (t ∷ ts) own = and_true (is_own (becomes bits t)) _ own.0 (all_own bits ts own.1)

abbrev ranks : List ℕ → List Ranked
ranks = order cf_target cf_set

-- the template of a branch with that name and these properties
abbrev pub turned : ℕ → List PlainType → List ℕ → Entries → List ℕ → Template
turned bits ts name props succ = with_casts (new_type bits) 0 ts 0 (record { steps = branch_step name props (sources (new_type bits) 0 ts 0) (kept_successors succ) ∷ []; results = [] })

abbrev product_shape : ℕ → List ℕ → Entries → List ℕ → List PlainType → Shape
product_shape bits name props succ ts = product (final (new_type bits) 0 ts nothing_yet) (branch_step name props (map Operand (places 0 ts)) succ)

legal_leaf : (bits room : ℕ) (path : List ℕ) (o : Shape) → is_legal cf_target o ≡ true → chosen_within bits cf_target ranks (suc room) path o ≡ Some (itself o)
legal_leaf bits room path o e = ap (λ b. if b then Some (itself o) else by_first bits (chosen_within bits cf_target ranks room) path o (ranks o.name)) e

abbrev leaves_at : ℕ → ℕ → Leaves
leaves_at bits place = chosen_within bits cf_target ranks 4 (place ∷ [])

-- the products are legal

br_leaf : (bits place : ℕ) (props : Entries) (succ : List ℕ) (ts : List PlainType) → BecomeOwn bits ts → leaves_at bits place (product_shape bits (codes "llvm.br") props succ ts) ≡ Some (itself (product_shape bits (codes "llvm.br") props succ ts))
br_leaf bits place props succ ts own = legal_leaf bits 3 (place ∷ []) (product_shape bits (codes "llvm.br") props succ ts) (ap (list_all is_own) (product_types (new_type bits) ts) ∙ all_own bits ts own)

on_leaf : (bits place : ℕ) (props : Entries) (succ : List ℕ) (ts : List PlainType) → BecomeOwn bits ts → leaves_at bits place (product_shape bits (codes "llvm.cond_br") props succ ts) ≡ Some (itself (product_shape bits (codes "llvm.cond_br") props succ ts))
on_leaf bits place props succ ts own =
    legal_leaf bits 3 (place ∷ []) (product_shape bits (codes "llvm.cond_br") props succ ts) (ap (list_all is_own) (product_types (new_type bits) ts) ∙ all_own bits ts own)

abbrev one_label : List ℕ
one_label = 0 ∷ []

abbrev two_labels : List ℕ
two_labels = 0 ∷ 1 ∷ []

br_by : (bits place : ℕ) (ts : List PlainType) (o : Shape) → o.operands ≡ ts → o.results ≡ [] → BecomeOwn bits ts
    → or_else (by_template (new_type bits) (leaves_at bits place) (branch_shape o.name ts o.props o.attrs 1) (record { steps = branch_step (codes "llvm.br") [] (map Operand (places 0 ts)) one_label ∷ []; results = [] })) None
    ≡ Some (turned bits ts (codes "llvm.br") [] one_label)
br_by bits place ts o e f own = ap (λ x. or_else x None) (branch_template (new_type bits) (leaves_at bits place) (codes "llvm.br") [] one_label ts (br_leaf bits place [] one_label ts own))

on_by : (bits place : ℕ) (ts : List PlainType) (name : List ℕ) (props attrs : Entries) (a : PlainAttr) → BecomeOwn bits ts
    → or_else (by_template (new_type bits) (leaves_at bits place) (branch_shape name ts props attrs 2)
    (record { steps = branch_step (codes "llvm.cond_br") ((codes "operandSegmentSizes", a) ∷ []) (map Operand (places 0 ts)) two_labels ∷ []; results = [] })) None
    ≡ Some (turned bits ts (codes "llvm.cond_br") ((codes "operandSegmentSizes", a) ∷ []) two_labels)
on_by bits place ts name props attrs a own =
    ap (λ x. or_else x None)
    (branch_template (new_type bits) (leaves_at bits place) (codes "llvm.cond_br") ((codes "operandSegmentSizes", a) ∷ []) two_labels ts (on_leaf bits place ((codes "operandSegmentSizes", a) ∷ []) two_labels ts own))

-- cf.br

pub cf_br_chosen : (bits : ℕ) (ts : List PlainType) (props attrs : Entries) → BecomeOwn bits ts → chosen bits cf_target cf_set [] (branch_shape (codes "cf.br") ts props attrs 1) ≡ Some (turned bits ts (codes "llvm.br") [] one_label)
cf_br_chosen bits ts props attrs own = br_by bits 0 ts (branch_shape (codes "cf.br") ts props attrs 1) refl refl own

-- cf.cond_br with its sizes

abbrev on_row : ℕ → ℕ → Shape → Option PlainAttr → Option Template
on_row bits place o x = or_else (and_then (conditional o (kept_props (codes "operandSegmentSizes") x)) (by_template (new_type bits) (leaves_at bits place) o)) None

pub cf_on_chosen : (bits : ℕ) (ts : List PlainType) (props attrs : Entries) (a : PlainAttr) → entry (codes "operandSegmentSizes") props ≡ Some a → BecomeOwn bits ts
    → chosen bits cf_target cf_set [] (branch_shape (codes "cf.cond_br") ts props attrs 2) ≡ Some (turned bits ts (codes "llvm.cond_br") ((codes "operandSegmentSizes", a) ∷ []) two_labels)
cf_on_chosen bits ts props attrs a e own =
    ap (on_row bits 1 (branch_shape (codes "cf.cond_br") ts props attrs 2)) e ∙ on_by bits 1 ts (codes "cf.cond_br") props attrs a own

-- the same names of llvm, where a type isn't own

abbrev by_own : ℕ → ℕ → Shape → Option Template → Bool → Option Template
by_own bits place o row b = if b then Some (itself o) else or_else (and_then (when (not b) row) (by_template (new_type bits) (leaves_at bits place) o)) None

pub llvm_br_chosen : (bits : ℕ) (ts : List PlainType) (props attrs : Entries) → list_all is_own ts ≡ false → BecomeOwn bits ts → chosen bits cf_target cf_set [] (branch_shape (codes "llvm.br") ts props attrs 1) ≡ Some (turned bits ts (codes "llvm.br") [] one_label)
llvm_br_chosen bits ts props attrs other own =
    let o : Shape = branch_shape (codes "llvm.br") ts props attrs 1 in
    ap (by_own bits 2 o (br_row bits o)) other ∙ br_by bits 2 ts o refl refl own

pub llvm_on_chosen : (bits : ℕ) (ts : List PlainType) (props attrs : Entries) (a : PlainAttr) → entry (codes "operandSegmentSizes") props ≡ Some a → list_all is_own ts ≡ false → BecomeOwn bits ts
    → chosen bits cf_target cf_set [] (branch_shape (codes "llvm.cond_br") ts props attrs 2) ≡ Some (turned bits ts (codes "llvm.cond_br") ((codes "operandSegmentSizes", a) ∷ []) two_labels)
llvm_on_chosen bits ts props attrs a e other own =
    let o : Shape = branch_shape (codes "llvm.cond_br") ts props attrs 2 in
    ap (by_own bits 3 o (when (is_branch 2 o) (conditional o (kept_props (codes "operandSegmentSizes") (entry (codes "operandSegmentSizes") props))))) other
    ∙ ap (on_row bits 3 o) e ∙ on_by bits 3 ts (codes "llvm.cond_br") props attrs a own
