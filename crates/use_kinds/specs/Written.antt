-- Which types a text writes for the values that it names, and where: for operands and results in the function type of their operation, for a block argument behind its name.
use Rattle.std.specs.Prelude.{ℕ, zero, suc, Bool, true, false, List, [], ◌∷◌, Option, Some, None, take, drop, if◌then◌else◌}
use Rattle.text_grammar.specs.declared.places.Place.{Place}
use Rattle.text_grammar.specs.declared.places.Place.TheVariants as places
use Rattle.text_events.specs.declared.event.Event.{Event}
use Rattle.term_table.specs.declared.node.Form.{Form}
use Rattle.term_table.specs.declared.node.Form.TheVariants as forms
use Rattle.term_table.specs.Terms.{Term, nothing, node}
use Rattle.text_types.specs.Spelling.{Spelling}
use Rattle.text_types.specs.Items.{Aliases, begins}

-- Where

-- what stands from the `(` on of an operation's function type; a region that begins before it is passed over, with the function types in it
abbrev pub passed : Place → List Event → (ℕ → List Event) → ℕ → List Event
passed places.SignatureOpen here behind zero = here
passed places.RegionOpen here behind over = behind (suc over)
passed places.RegionClose here behind zero = []
passed places.RegionClose here behind (suc over) = behind over
passed _ here behind over = behind over

-- the same, behind this many regions that are open: nothing where the text has none
abbrev pub signature_behind : List Event → ℕ → List Event
signature_behind [] over = []
signature_behind (e ∷ es) over = passed e.place (e ∷ es) (signature_behind es) over

abbrev pub is_argument : Place → Bool
is_argument places.ArgName = true
is_argument _ = false

-- the events from where the types of a name are written on, where these stand behind it: the function type, or behind its colon the type of an argument
abbrev pub written_from : Place → List Event → List Event
written_from place behind = if is_argument place then drop 1 behind else signature_behind behind 0

-- Which

abbrev pub is_list : Form → Bool
is_list forms.Types = true
is_list _ = false

-- the types of a list
abbrev pub types_in : Term → List Term
types_in nothing = []
types_in (node form value first more) = if is_list form then first ∷ types_in more else []

-- the types of the inputs and of the results of a function type
abbrev pub inputs_of : Term → List Term
inputs_of nothing = []
inputs_of (node form value inputs results) = types_in inputs

abbrev pub results_of : Term → List Term
results_of nothing = []
results_of (node form value inputs results) = types_in results

abbrev pub is_colon : Place → Bool
is_colon places.ResultColon = true
is_colon _ = false

-- a result name stands for as many values as the number behind its colon says, or for one
abbrev pub count_of : Spelling → List Event → ℕ
count_of words [] = 1
count_of words (e ∷ []) = 1
count_of words (e ∷ number ∷ es) = if is_colon e.place then words.number number.name else 1

-- what no name has taken yet: of the inputs of the operation that is read, and of its results, where its first result name was read
pub record Waiting : Type 0 where
  pub inputs : List Term
  pub results : Option (List Term)

abbrev pub no_operation : Waiting
no_operation = record { inputs = []; results = None }

abbrev pub or_all : Option (List Term) → List Term → List Term
or_all None all = all
or_all (Some left) all = left

-- the types of the values that a name at a place stands for, so many, in an operation with this function type or with this type behind it:
-- an operand takes the next input, and a result name the next results
abbrev pub types_at : Waiting → Place → ℕ → Term → Term → List Term
types_at s places.UseName count function argument = take 1 s.inputs
types_at s places.ResultName count function argument = take count (or_all s.results (results_of function))
types_at s places.ArgName count function argument = argument ∷ []
types_at s _ count function argument = []

-- what is left behind it
abbrev pub left_at : Waiting → Place → ℕ → Term → Waiting
left_at s places.OpName count function = record { inputs = inputs_of function; results = None }
left_at s places.UseName count function = record { inputs = drop 1 s.inputs; results = s.results }
left_at s places.ResultName count function = record { inputs = s.inputs; results = Some (drop count (or_all s.results (results_of function))) }
left_at s _ count function = s

-- the function type of the operation that is read, and the type behind the colon of an argument
abbrev pub function_type : Spelling → Aliases → List Event → Term
function_type words aliases behind = begins words aliases (signature_behind behind 0)

abbrev pub argument_type : Spelling → Aliases → List Event → Term
argument_type words aliases behind = begins words aliases (drop 1 behind)

-- the types of the values that each event names
abbrev pub types_from : Spelling → Aliases → Waiting → List Event → List (List Term)
types_from words aliases s [] = []
types_from words aliases s (e ∷ es) =
    types_at s e.place (count_of words es) (function_type words aliases es) (argument_type words aliases es)
    ∷ types_from words aliases (left_at s e.place (count_of words es) (function_type words aliases es)) es
