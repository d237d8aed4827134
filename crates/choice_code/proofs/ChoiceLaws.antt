-- The chosen derivation.
use Rattle.std.proofs.Common.{◌≡◌, ℕ, ◌+◌, ◌<◌, ◌≤◌, Bool, true, false, List, [], ◌∷◌, drop, get_or, length, map, Option, Some, None, refl, sym, ap, ◌∙◌}
use Rattle.std.specs.Prelude.{◌==◌, slice_get, option_map, if◌then◌else◌}
use Rattle.std.specs.List.{list_any}
use Rattle.std.proofs.lemmas.List.{drop_all, drop_more}
use Rattle.std.proofs.lemmas.Option.{slice_get-map}
use Rattle.tree_model.specs.declared.type_tree.TypeTree.{TypeTree}
use Rattle.plain_tree.specs.Types.{PlainType, plain_type, type_tree}
use Rattle.plain_tree.proofs.TypeOpens.{plain_again}
use Rattle.plain_tree.proofs.AttrOpens.{entries_again}
use Rattle.conversion_model.specs.declared.templates.StepTree.{StepTree}
use Rattle.conversion_model.specs.declared.templates.TemplateTree.{TemplateTree}
use Rattle.conversion_model.specs.declared.templates.Source.{Source}
use Rattle.conversion_model.specs.Templates.{Step, Template, step_tree, template_tree}
use Rattle.conversion_model.specs.Targets.{Shape}
use Rattle.conversion_model.specs.Rows.{Pattern, Row, Straight, Cutting, Framing}
use Rattle.conversion_model.specs.Chosen.{Ending, Leaves, State, and_then, by_row, by_template, change_of, give_results, here, nothing_yet, products, take_operands}
use Rattle.legal_graph.specs.declared.infos.PatternInfo.{PatternInfo}
use Rattle.legal_graph.specs.Graphs.{info_of}
use Rattle.row_code.specs.declared.shape.ShapeTree.{ShapeTree}
use Rattle.row_code.specs.Shapes.{shape_of, tree_or_none}
use Rattle.row_code.specs.Straight.{straight, straight_at}
use Rattle.choice_code.specs.declared.draft.Draft.{Draft}
use Rattle.choice_code.specs.Choosing.{by_place, by_row_at}
use Rattle.choice_code.specs.Drafts.{behind, done_of, going_on, one_product, state_of}
use Rattle.choice_code.specs.Infos.{converted_in, converted_or_not}
use Rattle.choice_code.specs.Plain.{plain_step, plain_template}

-- Products

pub product_next : (leaves : Leaves) (steps : List StepTree) (k : ℕ) (x : StepTree) (xs : List Step) (s : State) → k < length steps → x ≡ get_or steps k x
    → (last : Ending) → behind xs (products leaves last (map plain_step (drop k steps)) s)
    ≡ behind xs (one_product leaves (products leaves last (map plain_step (drop (k + 1) steps))) (plain_step x) s)
product_next leaves steps k x xs s h is last =
    ap (λ ys. behind xs (products leaves last (map plain_step ys) s)) (drop_more steps k x h)
    ∙ ap (λ y. behind xs (one_product leaves (products leaves last (map plain_step (drop (k + 1) steps))) (plain_step y) s)) (sym is)

pub products_ended : (leaves : Leaves) (steps : List StepTree) (k : ℕ) (xs : List Step) (s : State) → length steps ≤ k
    → (last : Ending) → behind xs (products leaves last (map plain_step (drop k steps)) s) ≡ behind xs (last s)
products_ended leaves steps k xs s h last = ap (λ ys. behind xs (products leaves last (map plain_step ys) s)) (drop_all k steps h)

pub good_is : (good : Bool) (a b : Option Template) → good ≡ true → (if good then a else b) ≡ a
good_is good a b e = ap (λ t. if t then a else b) e

pub bad_is : (good : Bool) (a b : Option Template) → good ≡ false → (if good then a else b) ≡ b
bad_is good a b e = ap (λ t. if t then a else b) e

-- Templates

behind_nothing : (o : Option Template) → behind [] o ≡ o
behind_nothing None = refl
behind_nothing (Some t) = refl

-- how a derivation by a template ends
abbrev pub last_of : (PlainType → Option PlainType) → ShapeTree → TemplateTree → Ending
last_of change shape row s = Some (give_results change (map plain_type shape.results) (map (here s) row.results) s.count)

pub template_is : (change : PlainType → Option PlainType) (leaves : Leaves) (shape : ShapeTree) (row : TemplateTree) (types : List TypeTree) (steps : List StepTree) (d e : Draft) (R : Ending → Option Template)
    → types ≡ shape.operands → steps ≡ row.steps → d.steps ≡ [] → state_of d ≡ nothing_yet
    → ((next : Ending) → behind (done_of d) (take_operands change next 0 (map plain_type types) (state_of d)) ≡ going_on e next)
    → ((last : Ending) → behind (done_of e) (products leaves last (map plain_step steps) (state_of e)) ≡ R last)
    → by_template change leaves (shape_of shape) (plain_template row) ≡ R (last_of change shape row)
template_is change leaves shape row types steps d e R ts ss none start taken done =
    let last : Ending = last_of change shape row in
    let next : Ending = products leaves last (map plain_step steps) in
    ap (λ (ys : List StepTree). take_operands change (products leaves last (map plain_step ys)) 0 (map plain_type shape.operands) nothing_yet) (sym ss)
    ∙ ap (λ (us : List TypeTree). take_operands change next 0 (map plain_type us) nothing_yet) (sym ts)
    ∙ ap (take_operands change next 0 (map plain_type types)) (sym start)
    ∙ sym (behind_nothing (take_operands change next 0 (map plain_type types) (state_of d)))
    ∙ ap (λ (ys : List StepTree). behind (map plain_step ys) (take_operands change next 0 (map plain_type types) (state_of d))) (sym none)
    ∙ taken next
    ∙ done last

-- The plain form of the tree of a template is that template.

types_again : (ts : List PlainType) → map plain_type (map type_tree ts) ≡ ts
types_again [] = refl
types_again (t ∷ ts) = ap (λ u. u ∷ map plain_type (map type_tree ts)) (plain_again t) ∙ ap (λ us. t ∷ us) (types_again ts)

step_again : (x : Step) → plain_step (step_tree x) ≡ x
step_again x = λ i. record { name = x.name; props = entries_again x.props i; sources = x.sources; successors = x.successors; makes = types_again x.makes i }

steps_again : (xs : List Step) → map plain_step (map step_tree xs) ≡ xs
steps_again [] = refl
steps_again (x ∷ xs) = ap (λ y. y ∷ map plain_step (map step_tree xs)) (step_again x) ∙ ap (λ ys. x ∷ ys) (steps_again xs)

pub template_again : (t : Template) → plain_template (template_tree t) ≡ t
template_again t = ap (λ xs. record { steps = xs; results = t.results }) (steps_again t.steps)

-- Rows

of_option : (row : TemplateTree) (q : Option Template) (F : Template → Option Template) → Some row ≡ tree_or_none q → and_then q F ≡ F (plain_template row)
of_option row None F e = cc
of_option row (Some t) F e = let same : row ≡ template_tree t = cc in ap F (sym (ap plain_template same ∙ template_again t))

of_row : (bits : ℕ) (converted : Bool) (leaves : Leaves) (o : Shape) (row : TemplateTree) (r : Row) → Some row ≡ tree_or_none (straight r o)
    → by_row bits converted leaves o r ≡ by_template (change_of bits converted) leaves o (plain_template row)
of_row bits converted leaves o row (Straight f) e = of_option row (f o) (by_template (change_of bits converted) leaves o) e
of_row bits converted leaves o row (Cutting f) e = cc
of_row bits converted leaves o row (Framing f) e = cc

of_pattern : (bits : ℕ) (converted : Bool) (leaves : Leaves) (o : Shape) (row : TemplateTree) (p : Option Pattern) → Some row ≡ tree_or_none (straight_at bits p o)
    → converted ≡ converted_or_not (option_map info_of p) → by_row_at bits leaves o p ≡ by_template (change_of bits converted) leaves o (plain_template row)
of_pattern bits converted leaves o row None e h = cc
of_pattern bits converted leaves o row (Some p) e h =
    ap (λ c. by_row bits c leaves o (p.row bits)) (sym h) ∙ of_row bits converted leaves o row (p.row bits) e

pub pattern_is : (bits : ℕ) (table : List Pattern) (leaves : List ℕ → Leaves) (path longer : List ℕ) (o : Shape) (k : ℕ) (infos : List PatternInfo) (row : TemplateTree) (line : Option TemplateTree) (converted : Bool) (found : Option Template)
    → list_any (λ place. place == k) path ≡ false → line ≡ tree_or_none (straight_at bits (slice_get table k) o) → line ≡ Some row
    → longer ≡ k ∷ path → infos ≡ map info_of table → converted ≡ converted_in infos k
    → found ≡ by_template (change_of bits converted) (leaves longer) o (plain_template row) → found ≡ by_place bits table leaves path o k
pattern_is bits table leaves path longer o k infos row line converted found apart is some more same c f =
    let here : converted ≡ converted_or_not (option_map info_of (slice_get table k)) =
    c ∙ ap (λ (is : List PatternInfo). converted_in is k) same ∙ ap converted_or_not (slice_get-map info_of table k) in
    f
    ∙ ap (λ (p : List ℕ). by_template (change_of bits converted) (leaves p) o (plain_template row)) more
    ∙ sym (of_pattern bits converted (leaves (k ∷ path)) o row (slice_get table k) (sym some ∙ is) here)
    ∙ sym (ap (λ t. if t then None else by_row_at bits (leaves (k ∷ path)) o (slice_get table k)) apart)

pub results_are : (change : PlainType → Option PlainType) (shape : ShapeTree) (row : TemplateTree) (d : Draft) (types : List TypeTree) (sources : List Source) → types ≡ shape.results → sources ≡ row.results
    → behind (done_of d) (Some (give_results change (map plain_type types) (map (here (state_of d)) sources) d.count)) ≡ going_on d (last_of change shape row)
results_are change shape row d types sources ts ss =
    ap (λ (us : List TypeTree). behind (done_of d) (Some (give_results change (map plain_type us) (map (here (state_of d)) sources) d.count))) ts
    ∙ ap (λ (rs : List Source). behind (done_of d) (Some (give_results change (map plain_type shape.results) (map (here (state_of d)) rs) d.count))) ss
