-- What an operation and what a template do, over values without names.
use Rattle.std.specs.Prelude.{ℕ, ◌==◌, List, [], ◌∷◌, ◌++◌, map, length, slice_get, flat_map, Option, Some, None, if◌then◌else◌}
use Rattle.plain_tree.specs.Types.{PlainType, type_tree}
use Rattle.plain_tree.specs.Attrs.{Entries, entries_tree}
use Rattle.operation_model.specs.Values.{Value}
use Rattle.operation_model.specs.Doings.{Doing, Outside}
use Rattle.operation_model.specs.Forms.{Form}
use Rattle.operation_model.specs.Straight.{does}
use Rattle.form_model.specs.Classes.{form_of}
use Rattle.conversion_model.specs.declared.templates.Source.{Source}
use Rattle.conversion_model.specs.declared.templates.Source.TheVariants.{Operand, Made}
use Rattle.conversion_model.specs.Templates.{Step, Template}
use Rattle.conversion_model.specs.Targets.{Shape}
use Rattle.sound_model.specs.Refinement.{then_on}

-- going on with what is there, outside where nothing is
abbrev pub if_there : {A : Type 0} → Option A → (A → Doing) → Doing
if_there None next = Outside
if_there (Some a) next = next a

-- what a source is, among what the operands are and what the values made so far are
abbrev pub item_of : {A : Type 0} → List A → List A → Source → Option A
item_of operands made (Operand k) = slice_get operands k
item_of operands made (Made k) = slice_get made k

abbrev pub and_item : {A : Type 0} → Option A → Option (List A) → Option (List A)
and_item (Some x) (Some xs) = Some (x ∷ xs)
and_item _ _ = None

-- what each of these sources is, none where one isn't there
abbrev pub items_of : {A : Type 0} → List A → List A → List Source → Option (List A)
items_of operands made [] = Some []
items_of operands made (s ∷ ss) = and_item (item_of operands made s) (items_of operands made ss)

-- the labels at these places
abbrev pub labels_in : List ℕ → List ℕ → Option (List ℕ)
labels_in labels [] = Some []
labels_in labels (k ∷ ks) = and_item (slice_get labels k) (labels_in labels ks)

-- as many results as there are values, outside where they are not
abbrev pub counted : List PlainType → List Value → Doing → Doing
counted types ys next = if length ys == length types then next else Outside

-- the form of an operation of this name with these properties, operands and results, where an index has so many bits
abbrev pub form_at : ℕ → List ℕ → Entries → List PlainType → List PlainType → Form
form_at bits name props operands results =
    form_of name (record { bits = bits; props = entries_tree props; operands = map type_tree operands; results = map type_tree results })

-- an operation of a form with so many results, and what follows with their values
abbrev pub operation_runs : Form → List PlainType → List ℕ → List Value → (List Value → Doing) → Doing
operation_runs form results labels args next = then_on (does form labels args) (λ ys. counted results ys (next ys))

abbrev pub root_form : ℕ → Shape → Form
root_form bits o = form_at bits o.name o.props o.operands o.results

-- an operation of a shape, and what follows with its results
abbrev pub root_runs : ℕ → Shape → List Value → List ℕ → (List Value → Doing) → Doing
root_runs bits o args labels next = operation_runs (root_form bits o) o.results labels args next

-- The steps of a template over operands of these types with these values, with these labels; so many values were made so far,
-- of these types; what follows has all values that were made. A step that names what isn't there is outside.
abbrev pub steps_run : ℕ → List PlainType → List Value → List ℕ → List Step → List PlainType → List Value → (List Value → Doing) → Doing
steps_run bits types args labels [] made_types made next = next made
steps_run bits types args labels (x ∷ xs) made_types made next =
    if_there (items_of types made_types x.sources) (λ ts.
    if_there (items_of args made x.sources) (λ vs.
    if_there (labels_in labels x.successors) (λ ls.
    operation_runs (form_at bits x.name x.props ts x.makes) x.makes ls vs (λ ys.
    steps_run bits types args labels xs (made_types ++ x.makes) (made ++ ys) next))))

-- a template, and what follows with the values that its results are
abbrev pub template_runs : ℕ → List PlainType → List Value → List ℕ → Template → (List Value → Doing) → Doing
template_runs bits types args labels t next =
    steps_run bits types args labels t.steps [] [] (λ made. if_there (items_of args made t.results) next)

-- the types of the values that steps make
abbrev pub types_made : List Step → List PlainType
types_made steps = flat_map (λ x. x.makes) steps
